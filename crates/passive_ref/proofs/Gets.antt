-- A get by memory: where it may try, what it has then, how the data agree, and that a share of a ledger changes nothing of it.
use Rattle.std.proofs.Common.{◌≡◌, ℕ, Option, Some, None, inl, inr, ap, ◌≢◌, ⊎_elim, ◌+◌, ◌<◌, Bool, IfSome, if◌then◌else◌, List, ◌∷◌, ◌++◌, length, set, refl, sym, ◌∙◌, subst, arith}
use Rattle.std.proofs.lemmas.Bool.{cases_eq, eq-eqb, ne_eqb}
use mathlib.Core.List.{IsPrefix}
use Rattle.atomic_table.specs.Seated.{TableId}
use Rattle.passive_list.specs.Types.{Entry, Key, Settings, Try, Confirm, TakeBack, Recall, Word, Row, CpuView, LogItem}
use Rattle.protocol.specs.Common.{IsAttached, IsLiveAt, IsLookup, entry_with}
use Rattle.protocol.proofs.History.{one_entry}
use Rattle.cpu_words.specs.Common.{Named, references_to, with_hand, did, IsAt, IsIdle, IsShownCpu, HasSeenMore, HasTried, HasConfirmed, HasTakenBack, MayEndTry, MayTakeBack, MayTry, event_by}
use Rattle.cpu_words.specs.declared.view.InHand.{InHand}
use Rattle.cpu_words.specs.declared.view.InHand.TheVariants.{Empty as NoEntry, Trying as TryingEntry}
use Rattle.cpu_words.proofs.shown.Seeing.{attached_prefix}
use Rattle.passive_list.specs.Common.{OnCpu, may_begin, Memory, HasSeen as HasSeenOf, place_at, PassiveAgree, IsOurCpu, OnPlainCpu}
use Rattle.passive_list.specs.declared.lookup.Seen.{Seen}
use Rattle.passive_list.specs.declared.place.Found.{Found}
use Rattle.passive_list.specs.declared.place.NumberedCount.{NumberedCount}
use Rattle.passive_list.proofs.Sharing.{sharing}
use Rattle.passive_list.proofs.Memories.{stays}
use Rattle.passive_list.proofs.Agreeing.{net_same, noted_agrees, own_agrees, passive_longer}
use Rattle.passive_ref.specs.{OnPsref, HasGivenUp, HasGotByMemory, HasGotOn, IsGot, counted_for, EndsInVain, EndsWell, HasSeen, IsTakenAs, IsVain}
use Rattle.passive_ref.proofs.Changing.{added_passive, uncounted_here}

-- A CPU that has a share of a ledger, and the CPU without it: what is told of a get by the one is told of the other. And what a get without a reference leaves.

got_sharing : (m t n : ℕ) (a b : OnCpu) (r : Option OnPsref) → HasGotOn t n a b r → HasGotOn t n (sharing m a) (sharing m b) r
got_sharing m t n a b (Some p) had = record { entry = had.entry; at = had.at; pass = had.pass; live = had.live; word = had.word; is = ap (sharing m) had.is; cpu = had.cpu; number = had.number }
got_sharing m t n a b None (inl same) = inl (ap (sharing m) same.0, same.1)
got_sharing m t n a b None (inr had) = inr (record { pass = had.pass; is = ap (sharing m) had.is; log = had.log })

pub got_by_memory : (m : ℕ) (key : Key) (a b : OnCpu) (r : Option (Seen × OnPsref)) → HasGotByMemory key a b r → HasGotByMemory key (sharing m a) (sharing m b) r
got_by_memory m key a b r (None, at, had) = (None, at, (had.0, ap (sharing m) had.1))
got_by_memory m key a b None (Some s, at, had) = (Some s, at, got_sharing m s.slot s.number a b None had)
got_by_memory m key a b (Some g) (Some s, at, had) = (Some s, at, (had.0, got_sharing m s.slot s.number a b (Some g.1) had.1, had.2))

-- A get without a reference

-- the CPU is as deep as it was, and has as many sections left
abbrev as_deep : OnCpu → OnCpu → Type 0
as_deep a b = (b.depth ≡ a.depth) × (may_begin b.view ≡ may_begin a.view)

same_deep : (a b : OnCpu) → b ≡ a → as_deep a b
same_deep a b same = (ap (λ (c : OnCpu). c.depth) same, ap (λ (c : OnCpu). may_begin c.view) same)

pub none_got : (key : Key) (a b : OnCpu) → HasGotByMemory key a b None → as_deep a b
none_got key a b (None, at, had) = same_deep a b had.1
none_got key a b (Some s, at, inl same) = same_deep a b same.0
none_got key a b (Some s, at, inr had) = (ap (λ (c : OnCpu). c.depth) had.is, ap (λ (c : OnCpu). may_begin c.view) had.is)

-- A get by memory: where it may try, what it has then, and how the data agree.

-- Where a CPU may try

pub may_try : (x : CpuView) (t n : ℕ) (ps : List NumberedCount) → HasSeen x t n → IsIdle x → PassiveAgree x ps → (place_at ps t).count < x.settings.passive_limit → MayTry x t n
may_try x t n ps seen idle agree few = record {
  idle = idle;
  slot = seen.slots;
  entry = seen.entry;
  at = seen.at;
  attached = seen.attached;
  room = λ f among same.
      let number : (place_at ps t).number ≡ f.number = ap (λ (u : ℕ). (place_at ps u).number) (sym same) ∙ (agree.each f among).2 in
      omega (arith, few, agree.counts t ∙ ap (λ (k : ℕ). references_to k x.references) number);
}

-- the view while it tries
tried_is : (x y : CpuView) (t n : ℕ) → (may : MayTry x t n) → HasTried x n y → y ≡ with_hand x (TryingEntry may.entry)
tried_is x y t n may tried = tried may.entry may.attached may.at.number

pub tried_id : (x y : CpuView) (t n : ℕ) → MayTry x t n → HasTried x n y → y.id ≡ x.id
tried_id x y t n may tried = ap (λ (v : CpuView). v.id) (tried_is x y t n may tried)

pub may_end : (x y : CpuView) (t n : ℕ) → MayTry x t n → HasTried x n y → MayEndTry y t n
may_end x y t n may tried = subst (λ (v : CpuView). MayEndTry v t n) (sym (tried_is x y t n may tried)) (record {
  search = may.idle.search;
  slot = may.slot;
  entry = may.entry;
  at = may.at;
  attached = may.attached;
  trying = refl;
})

-- It came too late

pub late_id : (x y z : CpuView) (t n : ℕ) → MayTry x t n → HasTried x n y → HasSeenMore y z → z.id ≡ x.id
late_id x y z t n may tried late = ap (λ (v : CpuView). v.id) late.1 ∙ tried_id x y t n may tried

pub may_take_back : (x y z : CpuView) (t n : ℕ) → MayTry x t n → HasTried x n y → HasSeenMore y z → MayTakeBack z t
may_take_back x y z t n may tried late = record {
  entry = may.entry;
  trying = ap (λ (v : CpuView). v.hand) late.1 ∙ ap (λ (v : CpuView). v.hand) (tried_is x y t n may tried);
  slot = may.at.slot;
}

-- the view as all is taken back
pub vain : (x y z w : CpuView) (t n : ℕ) → MayTry x t n → HasTried x n y → HasSeenMore y z → HasTakenBack z w → IsVain x w
vain x y z w t n may tried late back =
    let first = tried_is x y t n may tried in
    let is : w ≡ record x { pass = z.pass } = back ∙ (ap (λ (v : CpuView). with_hand v NoEntry) late.1 ∙ ap (λ (v : CpuView). record v { pass = z.pass; hand = NoEntry }) first)
    ∙ ap (λ (h : InHand). record x { pass = z.pass; hand = h }) (sym may.idle.hand) in
    let pass : z.pass ≡ w.pass = sym (ap (λ (v : CpuView). v.pass) back) in
    record { longer = subst (IsPrefix x.pass) pass (subst (λ (v : CpuView). IsPrefix v.pass z.pass) first late.0); is = is ∙ ap (λ p. record x { pass = p }) pass }

-- the data agree with the view then
pub vain_agrees : (z : TableId) (a : Settings) (t u : TableId) (x y : CpuView) (c : Row) (w d : ℕ) (e : Found) (ps ns : List NumberedCount) (ms : Memory) → IsOurCpu z a t x c w d e ps ns ms → IsShownCpu y → u ≡ t → IsVain x y
    → IsOurCpu u y.settings u y c w d e ps ns ms
vain_agrees z a t u x y c w d e ps ns ms our is_shown same v =
    own_agrees z a u y c w d e ps ns ms (noted_agrees z a t u x y c w d e ps ns ms x.noted_pass our is_shown same v.longer v.is)

-- It has its reference

pub taken_as : (x y z : CpuView) (t n : ℕ) → MayTry x t n → HasTried x n y → HasConfirmed y z → IsTakenAs x z t n
taken_as x y z t n may tried confirmed =
    let e = may.entry in
    let had : HasConfirmed (with_hand x (TryingEntry e)) z = subst (λ (v : CpuView). HasConfirmed v z) (tried_is x y t n may tried) confirmed in
    let one : e ≡ had.entry = let q : TryingEntry e ≡ TryingEntry had.entry = had.trying in cc in record {
      entry = e;
      at = may.at;
      attached = may.attached;
      longer = had.longer;
      is = had.is ∙ (ap (λ (f : Entry). record x { pass = z.pass; hand = NoEntry; references = f ∷ x.references }) (sym one)
          ∙ ap (λ (h : InHand). record x { pass = z.pass; hand = h; references = e ∷ x.references }) (sym may.idle.hand));
      live = subst (IsLiveAt z.pass (length z.pass)) (sym one) had.live;
      alone = λ f among slot. had.alone f among (slot ∙ (sym may.at.slot ∙ ap (λ (g : Entry). g.slot) one)) ∙ (ap (λ (g : Entry). g.number) (sym one) ∙ may.at.number);
    }

-- what the place counts for it
counted_here : (x : CpuView) (ps : List NumberedCount) (e : Entry) (t n : ℕ) → PassiveAgree x ps → IsAt e t n → IsAttached x.pass e → counted_for n (place_at ps t) ≡ references_to n x.references
counted_here x ps e t n agree at attached =
    let p = place_at ps t in ⊎_elim
    (λ (same : p.number ≡ n). ap (λ (b : Bool). if b then p.count else 0) (eq-eqb p.number n same) ∙ (agree.counts t ∙ ap (λ (k : ℕ). references_to k x.references) same))
    (λ (off : p.number ≢ n). ap (λ (b : Bool). if b then p.count else 0) (ne_eqb p.number n off) ∙ sym (uncounted_here x ps t n e agree at attached off))
    (cases_eq p.number n)

-- the data agree with the view
pub taken_agrees : (z : TableId) (a : Settings) (t u : TableId) (x y : CpuView) (c : Row) (w d : ℕ) (o : Found) (ps ns : List NumberedCount) (ms : Memory) (s n m : ℕ)
    → IsOurCpu z a t x c w d o ps ns ms → IsShownCpu y → u ≡ t → s < x.settings.slots → IsTakenAs x y s n → m ≡ counted_for n (place_at ps s)
    → IsOurCpu u y.settings u y c w d o (set ps s (record { number = n; count = m + 1 })) ns ms
taken_agrees z a t u x y c w d o ps ns ms s n m our is_shown same few taken counted =
    let e = taken.entry in
    let v : CpuView = record x { pass = y.pass } in
    let z0 : CpuView = record x { pass = y.pass; references = e ∷ x.references } in
    let agree : PassiveAgree v ps = passive_longer x v ps refl refl taken.longer our.passive in
    let attached : IsAttached y.pass e = attached_prefix x.pass y.pass e taken.longer taken.attached in
    let qs = set ps s (record { number = n; count = m + 1 }) in
    let there : IsOurCpu z a u z0 c w d o qs ns ms = assumption (
      same ∙ our.table,
      added_passive v ps e s n m agree taken.at attached few taken.alone (counted ∙ counted_here v ps e s n agree taken.at attached),
      net_same x z0 ns refl refl refl refl our.net,
      stays x.settings.slots x.pass y.pass ms taken.longer our.memory,
      subst IsShownCpu taken.is is_shown,
      our,
    ) in
    own_agrees z a u y c w d o qs ns ms (subst (λ (q : CpuView). IsOurCpu z a u q c w d o qs ns ms) (sym taken.is) there)

-- How the log goes on

pub ends_well : (d c s n m w : ℕ) (l0 l1 l2 : List LogItem) → d ≡ c → m ≡ n → l1 ≡ l0 ++ did (Try c s n) (Word w) → l2 ≡ l1 ++ did (event_by n (Confirm c) (Recall c s) m) (Word m)
    → EndsWell d s n l0 l2
ends_well d c s n m w l0 l1 l2 id same first second =
    let event : event_by n (Confirm c) (Recall c s) m ≡ Confirm c = ap (λ (b : Bool). if b then Confirm c else Recall c s) (eq-eqb m n same) in
    subst (λ (i : ℕ). EndsWell i s n l0 l2) (sym id) (w, second ∙ (λ k. first k ++ did (event k) (Word (same k))))

pub ends_in_vain : (d c s n m w v : ℕ) (l0 l1 l2 l3 : List LogItem) → d ≡ c → m ≢ n → l1 ≡ l0 ++ did (Try c s n) (Word w) → l2 ≡ l1 ++ did (event_by n (Confirm c) (Recall c s) m) (Word m)
    → l3 ≡ l2 ++ did (TakeBack c) (Word v) → EndsInVain d s n l0 l3
ends_in_vain d c s n m w v l0 l1 l2 l3 id off first second third =
    let event : event_by n (Confirm c) (Recall c s) m ≡ Recall c s = ap (λ (b : Bool). if b then Confirm c else Recall c s) (ne_eqb m n off) in
    subst (λ (i : ℕ). EndsInVain i s n l0 l3) (sym id) (w, m, v, off, third ∙ ap (λ (l : List LogItem). l ++ did (TakeBack c) (Word v)) (second ∙ (λ k. first k ++ did (event k) (Word m))))

-- the entry that was got is the one that the CPU had seen, and is the registry's answer for its key
pub got_answer : (key : Key) (s : Seen) (o : OnPlainCpu) (b : OnCpu) (r : Option OnPsref) → HasSeenOf o key s → HasGotOn s.slot s.number o.cpu b r
    → IfSome r (λ _. IsLookup b.view.pass (length b.view.pass) key (Some (entry_with key s.slot s.number s.value)))
got_answer key s o b None seen got = tt
got_answer key s o b (Some p) seen got =
    let e = entry_with key s.slot s.number s.value in
    let there : IsAttached b.view.pass e = attached_prefix o.cpu.view.pass b.view.pass e got.pass seen.attached in
    let same : got.entry ≡ e = one_entry b.view.pass got.entry e got.live.attached there got.at.number in
    (subst (IsLiveAt b.view.pass (length b.view.pass)) same got.live, refl)

-- By the CPU that names its own table: o is it before, with the view x and the log l0

pub got_on : (t n : ℕ) (o : OnPlainCpu) (w : Named) (x y : CpuView) (depth : ℕ) (mm : Memory) (k0 k1 l0 l1 : List LogItem) (p : OnPsref)
    → ◌≡◌ {A = OnPlainCpu} (record { words = w; cpu = record { view = x; depth = depth; made = 0; memory = mm; known_log = k0; log = l0 } }) o → IsTakenAs x y t n → EndsWell x.id t n l0 l1 → k1 ≡ k0
    → p.cpu ≡ x.id → p.number ≡ n → IsGot t n o.cpu (record { view = y; depth = depth; made = 0; memory = mm; known_log = k1; log = l1 }) p
got_on t n o w x y depth mm k0 k1 l0 l1 p is taken ends known cpu number =
    subst (λ (m : OnPlainCpu). IsGot t n m.cpu (record { view = y; depth = depth; made = 0; memory = mm; known_log = k1; log = l1 }) p) is record {
      entry = taken.entry;
      at = taken.at;
      pass = taken.longer;
      live = taken.live;
      word = ends.0;
      is = λ i. record { view = taken.is i; depth = depth; made = 0; memory = mm; known_log = known i; log = ends.1 i };
      cpu = cpu;
      number = number;
    }

pub given_on : (t n : ℕ) (o : OnPlainCpu) (w : Named) (x y : CpuView) (depth : ℕ) (mm : Memory) (k0 k1 l0 l1 : List LogItem)
    → ◌≡◌ {A = OnPlainCpu} (record { words = w; cpu = record { view = x; depth = depth; made = 0; memory = mm; known_log = k0; log = l0 } }) o → IsVain x y → EndsInVain x.id t n l0 l1 → k1 ≡ k0
    → HasGivenUp t n o.cpu (record { view = y; depth = depth; made = 0; memory = mm; known_log = k1; log = l1 })
given_on t n o w x y depth mm k0 k1 l0 l1 is vain ends known =
    subst (λ (m : OnPlainCpu). HasGivenUp t n m.cpu (record { view = y; depth = depth; made = 0; memory = mm; known_log = k1; log = l1 })) is
    record { pass = vain.longer; is = λ i. record { view = vain.is i; depth = depth; made = 0; memory = mm; known_log = known i; log = l1 }; log = ends }
