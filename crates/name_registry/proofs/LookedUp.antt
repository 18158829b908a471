-- A lookup and a get by a CPU with a share of a ledger: what is told of the CPU without the share is told of it.
use Rattle.std.proofs.Common.{◌≡◌, ◌⊎◌, ℕ, Option, Some, None, IfSome, IsTrue, Result, Ok, Err, inl, inr, refl, sym, ap, subst, ◌∙◌}
use Rattle.name_registry.specs.Types.{Entry, Key, Kind, Name, NotFound, Refusal, Seen}
use Rattle.protocol.specs.Common.{entry_with}
use Rattle.cpu_words.specs.Common.{key_with}
use Rattle.passive_list.specs.Common.{ByWord, FindsInside, FindsWhatIsKept, FindsWhatStays, HasFoundAnew, HasFoundByMemory, HasFoundKept, HasRecalledByMemory, OnCpu, Refinds, entry_seen}
use Rattle.passive_list.proofs.ByMemory.{anew_after, by_load, inside_after, inside_kept, inside_stays, still_outside}
use Rattle.passive_list.proofs.Sharing.{found_by_memory, found_inside, sharing, entered}
use Rattle.passive_ref.specs.{HasGotByMemory, IsAcquired, OnPsref, why_not_acquired}
use Rattle.passive_ref.proofs.Gets.{got_by_memory, none_got}
use Rattle.name_registry.specs.LookingUp.{FindsAndAcquires, FindsFast, Gets, GetsAnew, GetsFound, GetsInSection, HasMissed, HasNotGot, LooksByMemory, LooksFast, LooksInside, LooksUp, MayBegin, TriedSo, Tries, found_or, got_of, looked_up}

inside : (m : ℕ) (key : Key) (a b : OnCpu) (r : Result Entry Refusal) → LooksInside key a b r → LooksInside key (sharing m a) (sharing m b) r
inside m key a b r had = record { seen = had.seen; is = had.is; finds = found_inside m key a b had.seen had.finds; stays = had.stays; kept = had.kept }

by_memory : (m : ℕ) (key : Key) (a b : OnCpu) (r : Result Entry Refusal) → LooksByMemory key a b r → LooksByMemory key (sharing m a) (sharing m b) r
by_memory m key a b r had = record { seen = had.seen; is = had.is; finds = found_by_memory m key a b had.seen had.finds; stays = had.stays; kept = had.kept }

-- a lookup
looks : (m : ℕ) (key : Key) (a b : OnCpu) (r : Result Entry Refusal) → LooksUp key a b r → LooksUp key (sharing m a) (sharing m b) r
looks m key a b r had = record {
  by_memory = λ may. by_memory m key a b r (had.by_memory may);
  spent = λ spent. ((had.spent spent).0, ap (sharing m) (had.spent spent).1);
  inside = λ deep. inside m key a b r (had.inside deep);
}

pub looks_up : (m : ℕ) (key : Key) (a b : OnCpu) (r : Result (Option Seen) Refusal) (s : Result Entry Refusal) → LooksUp key a b (looked_up key r) → s ≡ looked_up key r → LooksUp key (sharing m a) (sharing m b) s
looks_up m key a b r s had is = subst (LooksUp key (sharing m a) (sharing m b)) (sym is) (looks m key a b (looked_up key r) had)

-- A get

-- what an acquire of the last found entry returns and leaves
abbrev Acquired : OnCpu → OnCpu → Entry → Result (Entry × OnPsref) Refusal → Type 0
Acquired a b e r = ((f : Refusal) × (why_not_acquired a.view a.view.found ≡ Some f) × (r ≡ Err f) × (b ≡ a)) ⊎ ((p : OnPsref) × (r ≡ Ok (e, p)) × IsAcquired a b p)

acquired : (m : ℕ) (a b : OnCpu) (e : Entry) (r : Result (Entry × OnPsref) Refusal) → Acquired a b e r → Acquired (sharing m a) (sharing m b) e r
acquired m a b e r (inl (f, why, is, same)) = inl (f, why, is, ap (sharing m) same)
acquired m a b e r (inr (p, is, (last, found, new))) = inr (p, is, (last, found, record { cpu = new.cpu; number = new.number; after = ap (sharing m) new.after }))

both : (m : ℕ) (key : Key) (a b : OnCpu) (r : Result (Entry × OnPsref) Refusal) → FindsAndAcquires key a b r → FindsAndAcquires key (sharing m a) (sharing m b) r
both m key a b r had = record {
  looked = had.looked;
  middle = sharing m had.middle;
  looks = inside m key a had.middle had.looked had.looks;
  none = λ f is. ((had.none f is).0, ap (sharing m) (had.none f is).1);
  some = λ e is. acquired m had.middle b e r (had.some e is);
}

in_section : (m : ℕ) (key : Key) (a b : OnCpu) (r : Result (Entry × OnPsref) Refusal) → GetsInSection key a b r → GetsInSection key (sharing m a) (sharing m b) r
in_section m key a b r had = record {
  first = sharing m had.first;
  entered = had.entered;
  enters = entered m a had.first had.entered had.enters;
  refused = λ f is. ((had.refused f is).0, ap (sharing m) (had.refused f is).1);
  inside = λ ok. let g = had.inside ok in (sharing m g.0, both m key had.first g.0 r g.1, assumption g.2);
}

tried_so : (m : ℕ) (key : Key) (c b : OnCpu) (o : Option (Seen × OnPsref)) (r : Result (Entry × OnPsref) Refusal) (P Q : OnCpu → Type 0) → ((x : OnCpu) → P x → Q (sharing m x)) → TriedSo key c b o r P
    → TriedSo key (sharing m c) (sharing m b) o r Q
tried_so m key c b None r P Q more had = more c had
tried_so m key c b (Some g) r P Q more had = (had.0, ap (sharing m) had.1)

tries : (m : ℕ) (key : Key) (a b : OnCpu) (r : Result (Entry × OnPsref) Refusal) (P Q : OnCpu → Type 0) → ((x : OnCpu) → P x → Q (sharing m x)) → Tries key a b r P → Tries key (sharing m a) (sharing m b) r Q
tries m key a b r P Q more had =
    record { tried = sharing m had.tried; got = had.got; gets = got_by_memory m key a had.tried had.got had.gets; after = tried_so m key had.tried b had.got r P Q more had.after }

found : (m : ℕ) (key : Key) (a b : OnCpu) (r : Result (Entry × OnPsref) Refusal) → GetsFound key a b r → GetsFound key (sharing m a) (sharing m b) r
found m key a b r had = tries m key a b r (λ c. GetsInSection key c b r) (λ c. GetsInSection key c (sharing m b) r) (λ c more. in_section m key c b r more) had

anew : (m : ℕ) (key : Key) (a b : OnCpu) (r : Result (Entry × OnPsref) Refusal) → GetsAnew key a b r → GetsAnew key (sharing m a) (sharing m b) r
anew m key a b r had = record {
  middle = sharing m had.middle;
  looked = had.looked;
  looks = by_memory m key a had.middle had.looked had.looks;
  none = λ f is. ((had.none f is).0, ap (sharing m) (had.none f is).1);
  some = λ e is. found m key had.middle b r (had.some e is);
}

gets : (m : ℕ) (key : Key) (a b : OnCpu) (r : Result (Entry × OnPsref) Refusal) → Gets key a b r → Gets key (sharing m a) (sharing m b) r
gets m key a b r had = record {
  by_memory = λ may. tries m key a b r (λ c. GetsAnew key c b r) (λ c. GetsAnew key c (sharing m b) r) (λ c more. anew m key c b r more) (had.by_memory may);
  spent = λ spent. ((had.spent spent).0, ap (sharing m) (had.spent spent).1);
  inside = λ deep. both m key a b r (had.inside deep);
}

pub gets_so : (m : ℕ) (key : Key) (a b : OnCpu) (r : Result (Seen × OnPsref) Refusal) (s : Result (Entry × OnPsref) Refusal) → Gets key a b (got_of key r) → s ≡ got_of key r
    → Gets key (sharing m a) (sharing m b) s
gets_so m key a b r s had is = subst (Gets key (sharing m a) (sharing m b)) (sym is) (gets m key a b (got_of key r) had)

-- The fast paths and the slow ones

-- what was told after a load that found the entry live
pub looked_by_load : (key : Key) (a b : OnCpu) (o : Option Seen) → MayBegin a → HasRecalledByMemory key a b o → IfSome o (λ seen. LooksUp key a b (found_or (entry_seen key (Some seen))))
looked_by_load key a b None may had = tt
looked_by_load key a b (Some s) may had =
    let f = by_load key a b s had in
    record {
      by_memory = λ m. record { seen = Some s; is = refl; finds = f.0; stays = f.1; kept = f.2 };
      spent = λ spent. absurd (spent.1 may.1);
      inside = λ deep. absurd (deep may.0);
    }

pub has_missed : (key : Key) (a b : OnCpu) (o : Option Seen) → MayBegin a → HasRecalledByMemory key a b o → o ≡ None → HasMissed key a b
has_missed key a b o may had none = inl (may, subst (HasRecalledByMemory key a b) none had)

-- by the word of a kind
pub looked_by_word : (word : ℕ) (name : Name) (a b : OnCpu) (o : Option Seen) → MayBegin a → ByWord word o (λ k s. HasRecalledByMemory (key_with k name) a b s)
    → ByWord word o (λ k s. LooksFast (key_with k name) a b s)
looked_by_word word name a b None may had = λ k is. inl (may, had k is)
looked_by_word word name a b (Some s) may (k, is, had) = (k, is, looked_by_load (key_with k name) a b (Some s) may had)

pub looked_anew : (key : Key) (a c b : OnCpu) (o : Option Seen) → HasMissed key a c → MayBegin c → HasFoundAnew key c b o → LooksUp key a b (found_or (entry_seen key o))
looked_anew key a c b o (inl (may, had)) now anew =
    let f = anew_after key a c b o had anew may.0 in
    record {
      by_memory = λ m. record { seen = o; is = refl; finds = f.0; stays = f.1; kept = f.2 };
      spent = λ spent. absurd (spent.1 may.1);
      inside = λ deep. absurd (deep may.0);
    }
looked_anew key a c b o (inr (not, same)) now anew = absurd (not (subst MayBegin same now))

pub looked_nested : (key : Key) (a c b : OnCpu) (r : Result Entry Refusal) → HasMissed key a c → (MayBegin c → ⊥) → LooksUp key c b r → LooksUp key a b r
looked_nested key a c b r (inl (may, had)) not looks = let still = still_outside key a c had in absurd (not (still.0 ∙ may.0, subst IsTrue (sym still.1) may.1))
looked_nested key a c b r (inr (may, same)) not looks = subst (λ (x : OnCpu). LooksUp key x b r) same looks

pub found_by_load : (key : Key) (a b : OnCpu) (o : Option Seen) → IfSome o (λ seen. FindsInside key a b (Some seen)) → IfSome o (λ seen. LooksInside key a b (found_or (entry_seen key (Some seen))))
found_by_load key a b None had = tt
found_by_load key a b (Some s) had = record { seen = Some s; is = refl; finds = had; stays = inside_stays key a b (Some s) had; kept = inside_kept key a b (Some s) had }

pub found_by_word : (word : ℕ) (name : Name) (a b : OnCpu) (o : Option Seen) → ByWord word o (λ k s. Refinds (key_with k name) a b s) → ByWord word o (λ k s. FindsFast (key_with k name) a b s)
found_by_word word name a b None had = had
found_by_word word name a b (Some s) (k, is, had) = (k, is, found_by_load (key_with k name) a b (Some s) had)

pub found_after : (key : Key) (a c b : OnCpu) (o : Option Seen) → HasRecalledByMemory key a c None → HasFoundKept key c b o → LooksInside key a b (found_or (entry_seen key o))
found_after key a c b o missed kept =
    let had = inside_after key a c b o missed kept in
    record { seen = o; is = refl; finds = had; stays = inside_stays key a b o had; kept = inside_kept key a b o had }

pub got_by_load : (key : Key) (a b : OnCpu) (o : Option (Seen × OnPsref)) → MayBegin a → HasGotByMemory key a b o → IfSome o (λ got. Gets key a b (got_of key (Ok got)))
got_by_load key a b None may had = tt
got_by_load key a b (Some g) may had = record {
  by_memory = λ m. record { tried = b; got = Some g; gets = had; after = (refl, refl) };
  spent = λ spent. absurd (spent.1 may.1);
  inside = λ deep. absurd (deep may.0);
}

pub has_not_got : (key : Key) (a b : OnCpu) (o : Option (Seen × OnPsref)) → MayBegin a → HasGotByMemory key a b o → o ≡ None → HasNotGot key a b
has_not_got key a b o may had none = inl (may, subst (HasGotByMemory key a b) none had)

pub got_anew : (key : Key) (a c b : OnCpu) (r : Result (Entry × OnPsref) Refusal) → HasNotGot key a c → MayBegin c → GetsAnew key c b r → Gets key a b r
got_anew key a c b r (inl (may, had)) now anew = record {
  by_memory = λ m. record { tried = c; got = None; gets = had; after = anew };
  spent = λ spent. absurd (spent.1 may.1);
  inside = λ deep. absurd (deep may.0);
}
got_anew key a c b r (inr (not, same)) now anew = absurd (not (subst MayBegin same now))

pub got_nested : (key : Key) (a c b : OnCpu) (r : Result (Entry × OnPsref) Refusal) → HasNotGot key a c → (MayBegin c → ⊥) → Gets key c b r → Gets key a b r
got_nested key a c b r (inl (may, had)) not gets = let still = none_got key a c had in absurd (not (still.0 ∙ may.0, subst IsTrue (sym still.1) may.1))
got_nested key a c b r (inr (may, same)) not gets = subst (λ (x : OnCpu). Gets key x b r) same gets

-- A lookup before a get

same_refusal : (f g : Refusal) → ◌≡◌ {A = Result Entry Refusal} (Err f) (Err g) → f ≡ g
same_refusal f g is = cc

-- it finds nothing
pub missed_anew : (key : Key) (a b : OnCpu) (o : Option Seen) → o ≡ None → HasFoundByMemory key a b o → FindsWhatStays key a.view.pass b.view.pass (entry_seen key o)
    → FindsWhatIsKept key a.view.pass b.view.pass (entry_seen key o) → GetsAnew key a b (Err NotFound)
missed_anew key a b o none finds stays kept =
    let missed : found_or (entry_seen key o) ≡ Err NotFound = ap (λ (x : Option Seen). found_or (entry_seen key x)) none in
    record {
      middle = b;
      looked = found_or (entry_seen key o);
      looks = record { seen = o; is = refl; finds = finds; stays = stays; kept = kept };
      none = λ f is. (ap (λ (x : Refusal). Err x) (same_refusal NotFound f (sym missed ∙ is)), refl);
      some = λ e is. let clash : ◌≡◌ {A = Result Entry Refusal} (Err NotFound) (Ok e) = sym missed ∙ is in cc;
    }

-- it finds an entry
pub found_anew : (key : Key) (a c b : OnCpu) (o : Option Seen) (r : Result (Entry × OnPsref) Refusal) → (o ≡ None → ⊥) → HasFoundByMemory key a c o
    → FindsWhatStays key a.view.pass c.view.pass (entry_seen key o) → FindsWhatIsKept key a.view.pass c.view.pass (entry_seen key o) → GetsFound key c b r → GetsAnew key a b r
found_anew key a c b None r some finds stays kept gets = absurd (some refl)
found_anew key a c b (Some s) r some finds stays kept gets =
    let e : Entry = entry_with key s.slot s.number s.value in
    record {
      middle = c;
      looked = Ok e;
      looks = record { seen = Some s; is = refl; finds = finds; stays = stays; kept = kept };
      none = λ f is. let clash : ◌≡◌ {A = Result Entry Refusal} (Ok e) (Err f) = is in cc;
      some = λ f is. gets;
    }
