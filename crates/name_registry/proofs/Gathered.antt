-- How an audit lets all know the same of the keeper's log: a note goes from the keeper through all CPUs, and back.
use Rattle.std.proofs.Common.{append_assoc, ◌≡◌, ◌≢◌, ⊎_elim, ℕ, zero, suc, ◌+◌, ◌<◌, ◌≤◌, ℤ, List, [], ◌∷◌, ◌++◌, length, map, Option, None, set, length-set, refl, sym, ap, ◌∙◌, subst, arith}
use Rattle.std.proofs.lemmas.Bool.{cases_eq}
use Rattle.std.proofs.lemmas.List.{append-nil, length-append}
use mathlib.Core.List.{IsPrefix}
use mathlib.Core.Option.{some, some-injective}
use lib.ListN.{get_elem?}
use Rattle.atomic_table.proofs.Lists.{at_set}
use Rattle.name_registry.specs.Types.{Balance, Change, Settings, LogItem, Teller, KeeperView, Cpu, Keeper}
use Rattle.cpu_words.specs.Common.{changes_in, heard_from, IsShownAfter, with_note, keeper_with_note}
use Rattle.cpu_words.proofs.shown.Seeing.{prefix_both}
use Rattle.passive_list.specs.Common.{OnCpu, OnKeeper, HasOwnLog, HasHeardOn, WasShown, HeardAndTold}
use Rattle.name_registry.specs.Common.{HasLearned, IsNote, AreAllCpus, AreAlike, HasListened, HasToldAll, HaveHeardAndTold, HaveLearned, HavePass, IsAuditBy, IsAuditIn, IsShownOn, KnowAll, KnowTheSame, audited_below, keeper_after_tell, local_met, tallies_met, tally_by, tally_met}
use Rattle.name_registry.proofs.Audits.{cpu_at, each_same}
use Rattle.name_registry.proofs.Noted.{by_passing, learned}
use Rattle.passive_list.proofs.Rows.{no_more}

at_within : (l : List OnCpu) (i : ℕ) (a : OnCpu) → get_elem? l i ≡ some a → i < length l
at_within l i a e = (cpu_at l i a a e).0

-- Prefixes

-- what goes on from a list and begins it is that list
pub both_prefixes : {X : Type 0} (a b : List X) → IsPrefix a b → IsPrefix b a → a ≡ b
both_prefixes {X} a b first second = by first.0 first.1
  where
    by : (more : List X) → a ++ more ≡ b → a ≡ b
    by [] is = sym (append-nil a) ∙ is
    by (d ∷ more) is = absurd (let long = ap (λ (l : List X). length l) (sym is) ∙ length-append a (d ∷ more) in
        let short = ap (λ (l : List X). length l) (sym second.1) ∙ length-append b second.0 in omega (arith, long, short))

-- CPU by CPU

-- the first n of the CPUs xs have heard, and are ys then; the note tells on what the last one knows
pub record Gathered (xs ys : List OnCpu) (n : ℕ) (log note : List LogItem) : Type 0 where
  pub size : length ys ≡ length xs
  pub told : IsPrefix log note
  pub learned : (c : ℕ) (x y : OnCpu) → c < n → get_elem? xs c ≡ some x → get_elem? ys c ≡ some y → (HasLearned x y × (y.made ≡ x.made)) × HeardAndTold x y
  pub shown : (c : ℕ) (x : OnCpu) → c < n → get_elem? xs c ≡ some x → (d : List LogItem) × IsPrefix log d × IsPrefix d note × IsShownOn d x
  pub knows : (c : ℕ) (y : OnCpu) → c < n → get_elem? ys c ≡ some y → IsPrefix log y.known_log × IsPrefix y.known_log note
  pub rest : (c : ℕ) → n ≤ c → get_elem? ys c ≡ get_elem? xs c

pub learned_of : (note : List Change) (x y : OnCpu) → HasHeardOn note x y → HeardAndTold x y → HasLearned x y × (y.made ≡ x.made)
learned_of note x y heard log = (learned note x y heard (by_passing x y log), ap (λ (z : OnCpu). z.made) heard.is)

past_set : (xs : List OnCpu) (n c : ℕ) (y : OnCpu) → (c ≡ n → ⊥) → get_elem? (set xs n y) c ≡ get_elem? xs c
past_set [] n c y off = refl
past_set (x ∷ xs) zero zero y off = absurd (off refl)
past_set (x ∷ xs) zero (suc c) y off = refl
past_set (x ∷ xs) (suc n) zero y off = refl
past_set (x ∷ xs) (suc n) (suc c) y off = past_set xs n c y (λ same. off (ap suc same))

pub gathered_more : (xs ys : List OnCpu) (n : ℕ) (log note told : List LogItem) (h : List Change) (x y : OnCpu) → Gathered xs ys n log note → get_elem? ys n ≡ some x → HasHeardOn h x y
    → IsPrefix note y.known_log → WasShown h x y → told ≡ y.known_log → HeardAndTold x y
    → Gathered xs (set ys n y) (n + 1) log told
gathered_more xs ys n log note told h x y so_far at heard knows shown is own =
    let next : IsPrefix note told = subst (IsPrefix note) (sym is) knows in
    let mine : get_elem? xs n ≡ some x = sym (so_far.rest n (omega arith)) ∙ at in
    record {
      size = length-set ys n y ∙ so_far.size;
      told = prefix_both _ _ _ so_far.told next;
      learned = λ c u v lt was now. ⊎_elim
          (λ (p : (c ≡ n) × (y ≡ v)).
          let same : x ≡ u = some-injective x u (sym mine ∙ (ap (get_elem? xs) (sym p.0) ∙ was)) in
          subst (λ (q : OnCpu × OnCpu). (HasLearned q.0 q.1 × (q.1.made ≡ q.0.made)) × HeardAndTold q.0 q.1) (λ i. (same i, p.1 i)) (learned_of h x y heard own, own))
          (λ (p : (c ≢ n) × (get_elem? ys c ≡ some v)). so_far.learned c u v (let off = p.0 in omega (arith, lt, off)) was p.1)
          (at_set ys n c y v now);
      shown = λ c u lt was. ⊎_elim
          (λ (same : c ≡ n).
          let one : x ≡ u = some-injective x u (sym mine ∙ (ap (get_elem? xs) (sym same) ∙ was)) in
          (told, prefix_both _ _ _ so_far.told next, ([], append-nil told), subst (IsShownOn told) one (h, subst (λ (d : List LogItem). IsShownAfter d (Cpu (with_note x.view h))) (sym is) shown)))
          (λ (off : c ≡ n → ⊥).
          let p = so_far.shown c u (omega (arith, lt, off)) was in
          (p.0, p.1, prefix_both _ _ _ p.2 next, p.3))
          (cases_eq c n);
      knows = λ c v lt now. ⊎_elim
          (λ (p : (c ≡ n) × (y ≡ v)). subst (λ (z : OnCpu). IsPrefix log z.known_log × IsPrefix z.known_log told) p.1
          (prefix_both _ _ _ so_far.told knows, subst (IsPrefix y.known_log) (sym is) ([], append-nil y.known_log)))
          (λ (p : (c ≢ n) × (get_elem? ys c ≡ some v)). let had = so_far.knows c v (let off = p.0 in omega (arith, lt, off)) p.1 in (had.0, prefix_both _ _ _ had.1 next))
          (at_set ys n c y v now);
      rest = λ c le. past_set ys n c y (λ same. omega (arith, le, same)) ∙ so_far.rest c (omega (arith, le));
    }

-- all have heard, and the keeper has heard the last one

gathered_known : (xs ys : List OnCpu) (n : ℕ) (log note : List LogItem) → Gathered xs ys n log note → length ys ≤ n → IsPrefix note log → KnowAll log ys
gathered_known xs ys n log note all done back c y at =
    let p = all.knows c y (omega (arith, at_within ys c y at, done)) at in
    both_prefixes y.known_log log (prefix_both _ _ _ p.1 back) p.0

pub gathered_alike : (z : Settings) (a k : OnKeeper) (xs ys : List OnCpu) (n : ℕ) (log note : List LogItem) → Gathered xs ys n k.log note → length ys ≤ n → k ≡ record a { log = log }
    → IsPrefix note k.log → HasOwnLog z k → AreAlike a xs ys
gathered_alike z a k xs ys n log note all done is back own =
    record {
      log = k.log;
      known = gathered_known xs ys n k.log note all done back;
      keeper = (own.counts.0, subst (λ (v : KeeperView). IsShownAfter k.log (Keeper (keeper_with_note v own.counts.0))) (ap (λ (x : OnKeeper). x.view) is) own.counts.1);
      cpus = λ c x at.
          let p = all.shown c x (omega (arith, at_within xs c x at, all.size, done)) at in
          subst (λ (d : List LogItem). IsShownOn d x) (both_prefixes p.0 k.log (prefix_both _ _ _ p.2 back) p.1) p.3;
    }

-- What they have seen, and the note tells: the history, and no more

-- the first n of the CPUs have seen all of the history h, and the note, whose pass is p, tells all that they have
pub record HaveSeen (ys : List OnCpu) (n : ℕ) (h p : List Change) : Type 0 where
  pub told : IsPrefix h p
  pub each : (c : ℕ) (y : OnCpu) → c < n → get_elem? ys c ≡ some y → IsPrefix h y.view.pass × IsPrefix y.view.pass p

pub seen_more : (ys : List OnCpu) (n : ℕ) (h p q : List Change) (x y : OnCpu) → HaveSeen ys n h p → HasHeardOn p x y → q ≡ y.view.pass → HaveSeen (set ys n y) (n + 1) h q
seen_more ys n h p q x y so_far heard is =
    let next : IsPrefix p q = subst (IsPrefix p) (sym is) heard.told in
    record {
      told = prefix_both h p q so_far.told next;
      each = λ c v lt now. ⊎_elim
          (λ (o : (c ≡ n) × (y ≡ v)). subst (λ (z : OnCpu). IsPrefix h z.view.pass × IsPrefix z.view.pass q) o.1
          (prefix_both h p y.view.pass so_far.told heard.told, subst (IsPrefix y.view.pass) (sym is) ([], append-nil y.view.pass)))
          (λ (o : (c ≢ n) × (get_elem? ys c ≡ some v)). let had = so_far.each c v (let off = o.0 in omega (arith, lt, off)) o.1 in (had.0, prefix_both v.view.pass p q had.1 next))
          (at_set ys n c y v now);
    }

-- all have, and what the note tells is in the history
seen_all : (ys : List OnCpu) (n : ℕ) (h p : List Change) → HaveSeen ys n h p → length ys ≤ n → IsPrefix p h → HavePass h ys
seen_all ys n h p all done back c y at =
    let had = all.each c y (omega (arith, at_within ys c y at, done)) at in
    both_prefixes y.view.pass h (prefix_both y.view.pass p h had.1 back) had.0

-- the keeper k, which is a as it has told, has heard the last one, and is b
pub told_all : (z : Settings) (a k b : OnKeeper) (xs ys : List OnCpu) (n : ℕ) (note : List LogItem) (p : List Change) (h : Option Teller) → Gathered xs ys n k.log note → HaveSeen ys n a.view.history p
    → length ys ≤ n → k ≡ keeper_after_tell a → IsPrefix note k.log → IsPrefix p k.view.history → HasOwnLog z k → b.log ≡ k.log ++ heard_from None h → HasToldAll a ys b
told_all z a k b xs ys n note p h all seen done is back before own log =
    let history : k.view.history ≡ a.view.history = ap (λ (x : OnKeeper). x.view.history) is in
    let told : k.log ≡ (keeper_after_tell a).log = ap (λ (x : OnKeeper). x.log) is in
    record {
      passes = seen_all ys n a.view.history p seen done (subst (IsPrefix p) history before);
      known = λ c y at. gathered_known xs ys n k.log note all done back c y at ∙ told;
      changes = ap (λ (x : OnKeeper). length x.view.history) (sym is) ∙ own.changes ∙ ap (λ (x : OnKeeper). changes_in x.log) is;
      heard = (h, log ∙ ap (λ (l : List LogItem). l ++ heard_from None h) told);
    }

pub know_the_same : (a b : OnKeeper) (ys : List OnCpu) → HasToldAll a ys b → KnowTheSame ys
know_the_same a b ys told = record { history = a.view.history; log = (keeper_after_tell a).log; passes = told.passes; known = told.known; changes = told.changes }

pub gathered_learned : (xs ys : List OnCpu) (n : ℕ) (log note : List LogItem) → Gathered xs ys n log note → length ys ≤ n → HaveLearned xs ys
gathered_learned xs ys n log note all done = record {
  size = all.size;
  each = λ c x y was now. let low = at_within xs c x was in let size = all.size in (all.learned c x y (omega (arith, low, size, done)) was now).0;
}

pub gathered_notes : (xs ys : List OnCpu) (n : ℕ) (log note : List LogItem) → Gathered xs ys n log note → length ys ≤ n → HaveHeardAndTold xs ys
gathered_notes xs ys n log note all done c x y was now = let low = at_within xs c x was in let size = all.size in (all.learned c x y (omega (arith, low, size, done)) was now).1

-- nothing was done

pub learned_none : (xs : List OnCpu) → HaveLearned xs xs
learned_none xs = record {
  size = refl;
  each = λ c x y was now.
      subst (λ (z : OnCpu). HasLearned x z × (z.made ≡ x.made)) (some-injective x y (sym was ∙ now))
      (record { pass = ([], append-nil x.view.pass); known_log = ([], append-nil x.known_log); is = refl; log = no_more (IsNote x.view.id) x.log x.log refl }, refl);
}

there : (xs : List OnCpu) (c : ℕ) → c < length xs → (x : OnCpu) × (get_elem? xs c ≡ some x)
there [] c lt = absurd (omega (arith, lt))
there (x ∷ xs) zero lt = (x, refl)
there (x ∷ xs) (suc c) lt = there xs c (omega (arith, lt))

-- all CPUs stay all CPUs
pub all_learned : (n : ℕ) (xs ys : List OnCpu) → HaveLearned xs ys → AreAllCpus n xs → AreAllCpus n ys
all_learned n xs ys learned all = record {
  count = learned.size ∙ all.count;
  each = λ c y at.
      let was = there xs c (omega (arith, at_within ys c y at, learned.size)) in
      ap (λ (z : OnCpu). z.view.id) (learned.each c was.0 y was.1 at).0.is ∙ all.each c was.0 was.1;
}

pub listened_none : (a : OnKeeper) → HasListened a a
listened_none a = record { log = ([], append-nil a.log); is = (a.view.noted_pass, refl) }

pub listened : (a b : OnKeeper) (h : List Change) (log more : List LogItem) → b.view ≡ keeper_with_note a.view h → b.slots ≡ a.slots → b.log ≡ (a.log ++ log) ++ more → HasListened a b
listened a b h log more view slots is = record {
  log = (log ++ more, sym (append_assoc a.log log more) ∙ sym is);
  is = (h, λ j. record { view = view j; slots = slots j; log = b.log });
}

-- Its result is by the places, which are as they were

map_learned : (f : OnCpu → ℤ) (xs ys : List OnCpu) → length ys ≡ length xs → ((c : ℕ) (x y : OnCpu) → get_elem? xs c ≡ some x → get_elem? ys c ≡ some y → f y ≡ f x) → map f ys ≡ map f xs
map_learned f [] [] size each = refl
map_learned f [] (y ∷ ys) size each = absurd (omega (arith, size))
map_learned f (x ∷ xs) [] size each = absurd (omega (arith, size))
map_learned f (x ∷ xs) (y ∷ ys) size each = let one = each 0 x y refl refl in let rest = map_learned f xs ys (omega (arith, size)) (λ c u v was now. each (suc c) u v was now) in λ j. one j ∷ rest j

pub tallies_learned : (a b : OnKeeper) (xs ys : List OnCpu) (slots : ℕ) → HasListened a b → HaveLearned xs ys → tallies_met b ys slots ≡ tallies_met a xs slots
tallies_learned a b xs ys slots heard learned =
    ap (λ (k : OnKeeper). tallies_met k ys slots) heard.is.1
    ∙ each_same (tally_met a ys) (tally_met a xs) a.slots slots (λ t e there. ap (λ locals. tally_by a locals e.number t)
    (map_learned (local_met a t e.number) xs ys learned.size (λ c x y was now. ap (local_met a t e.number) (learned.each c x y was now).0.is)))

-- Its list is by the keeper's log, as it told: each CPU knows that log, and there is a CPU

pub same_log : (a b : OnKeeper) (ys : List OnCpu) (log : List LogItem) → 0 < length ys → KnowAll log ys → HasToldAll a ys b → log ≡ (keeper_after_tell a).log
same_log a b ys log lt known told = let one = there ys 0 lt in sym (known 0 one.0 one.1) ∙ told.known 0 one.0 one.1

pub audit_in_log : (z : Settings) (a b : OnKeeper) (xs ys : List OnCpu) (list : List Balance) → 0 < length ys → IsAuditBy z xs ys list → HasToldAll a ys b
    → IsAuditIn z (keeper_after_tell a).log xs list
audit_in_log z a b xs ys list lt by told = by.answer ∙ ap (λ (l : List LogItem). audited_below l xs z.slots) (same_log a b ys by.log lt by.known told)
