-- The audit: what it is lent, behind handles; what it answers; and what it writes of C's.
use Rattle.std.proofs.Common.{◌≡◌, ℕ, zero, suc, ◌+◌, ◌-◌, ◌<◌, ◌≤◌, List, [], ◌∷◌, ◌++◌, length, get_or, map, take, drop, replicate, Option, Some, None, ⊎_elim, true, refl, sym, ap, ◌∙◌, subst, arith, ℤ, pos}
use Rattle.std.specs.Prelude.{IsSome, ⊤}
use Rattle.std.specs.List.{All}
use Rattle.std.proofs.lemmas.Bool.{cases_lt, false≢true}
use Rattle.std.proofs.lemmas.Option.{none-some, same_Some}
use Rattle.std.proofs.lemmas.List.{get_or-append_right, get_or-drop, length-map, take_at}
use Rattle.std.proofs.lemmas.List.Elements.{All-cons, All-nil}
use Rattle.std.proofs.lemmas.Simd.{map-map}
use mathlib.Core.Option.{some}
use lib.ListN.{get_elem?}
use Rattle.c_calls.specs.Types.{MissingCpu, MOST_CPUS, Settings}
use Rattle.registry_values.specs.Common.{Tally, number_of_refusal}
use Rattle.protocol.proofs.Cells.{get_or_all}
use Rattle.cpu_words.specs.Common.{Named}
use Rattle.passive_list.specs.Common.{OnCpu, OnKeeper, OnPlainCpu, OnPlainKeeper}
use Rattle.name_registry.specs.Common.{AreAllCpus, AreAllThere, AreAlike, AreOf, AreThere, AreTold, HasListened, HaveLearned, IsKeeperOf, each_below, local_met, locals_met, occupied, tallies_met, tally_met}
use Rattle.name_registry.proofs.Audits.{all_shown, cpu_at, each_all, each_map, each_same}
use Rattle.name_registry.proofs.Gathered.{learned_none, tallies_learned}
use Rattle.name_registry.proofs.Tallies.{told_right}
use Rattle.c_handles.specs.Heap.{is_nothing}
use Rattle.c_handles.specs.declared.values.plain.CBalance.{CBalance}
use Rattle.c_handles.specs.declared.values.plain.TheConstants.{DONE, NO_ROOM}
use Rattle.c_handles.specs.values.Places.{put}
use Rattle.c_handles.specs.declared.handle.CpuHandle.{CpuHandle}
use Rattle.c_calls.specs.Opening.{body_at, bodies_of}
use Rattle.c_calls.specs.Audits.{AreAllHere, AuditWrites, Audits, AuditsBodies, AuditsList, HaveHeard, balance_in, cpu_in, cpus_in, filled_up, table_in, tally_in}
use Rattle.c_calls.proofs.Handles.{none_past}

-- all are empty, those past the last too
pub all_none : (cs : List (Option OnPlainCpu)) (n : ℕ) → length cs ≤ n → ((k : ℕ) → k < n → body_at cs k ≡ None) → (k : ℕ) → body_at cs k ≡ None
all_none cs n past each k = ⊎_elim (λ (lt : k < n). each k lt) (λ (ge : n ≤ k). none_past cs k (omega (arith, past, ge))) (cases_lt k n)

-- What an audit answers, by the test that it came to.

module _ (z : Settings) (k : OnKeeper) (cs : List (Option OnPlainCpu)) (old new : List CBalance) (count count' : Option ℕ) where
  pub missing_cpu : (AreAllHere z.cpus cs → ⊥) → new ≡ old → count' ≡ count → Audits z k cs (number_of_refusal MissingCpu) old new count count'
  missing_cpu missing same left = record {
    missing = λ _. (refl, same, left);
    short = λ all _. absurd (missing all);
    enough = λ all _. absurd (missing all);
  }

  pub no_room : AreAllHere z.cpus cs → length old < occupied k z.slots → new ≡ old → count' ≡ put count (occupied k z.slots) → Audits z k cs NO_ROOM old new count count'
  no_room all short same counted = record {
    missing = λ missing. absurd (missing all);
    short = λ _ _. (refl, same, counted);
    enough = λ _ room. absurd (omega (arith, short, room));
  }

  pub audited : AreAllHere z.cpus cs → occupied k z.slots ≤ length old → AuditWrites z k cs old new → count' ≡ put count (occupied k z.slots) → Audits z k cs DONE old new count count'
  audited all room writes counted = record {
    missing = λ missing. absurd (missing all);
    short = λ _ short. absurd (omega (arith, short, room));
    enough = λ _ _. (refl, writes, counted);
  }

-- at null there is no list, and what is asked for has no length
pub without_list : (a b : OnPlainKeeper) (n : ℕ) (cs cs' : List (Option OnPlainCpu)) (room : ℕ) (list list' : Option (List CBalance)) (new : List CBalance) (count count' : Option ℕ)
    → is_nothing list ≡ true → list' ≡ list → room ≡ 0 → length new ≡ 0
    → AuditsBodies a b cs cs' n [] new count count' → AuditsList a b n cs cs' room list list' count count'
without_list a b n cs cs' room (Some l) list' new count count' null same none size made = absurd (false≢true null)
without_list a b n cs cs' room None list' (x ∷ new) count count' null same none size made = absurd (omega (arith, size))
without_list a b n cs cs' room None list' [] count count' null same none size made = (same, λ some. absurd (some none), λ _. made)

-- What an audit is lent, by the bodies of the handles

pub cpus_lent : (hs : List CpuHandle) → map (λ (h : CpuHandle). cpu_in h.body) hs ≡ cpus_in (bodies_of hs)
cpus_lent hs = sym (map-map cpu_in (λ (h : CpuHandle). h.body) hs)

pub tables_lent : (hs : List CpuHandle) → map (λ (h : CpuHandle). table_in h.body) hs ≡ map table_in (bodies_of hs)
tables_lent hs = sym (map-map table_in (λ (h : CpuHandle). h.body) hs)

table_at : (cs : List (Option OnPlainCpu)) (c : ℕ) → get_or (map table_in cs) c None ≡ table_in (body_at cs c)
table_at [] c = refl
table_at (o ∷ cs) zero = refl
table_at (o ∷ cs) (suc c) = table_at cs c

at_behind : (cs : List (Option OnPlainCpu)) (c : ℕ) (b : OnPlainCpu) → body_at cs c ≡ Some b → get_elem? (cpus_in cs) c ≡ some b.cpu
at_behind [] c b at = absurd (none-some b at)
at_behind (o ∷ cs) zero b at = ap (λ (x : Option OnPlainCpu). some (cpu_in x)) at
at_behind (o ∷ cs) (suc c) b at = at_behind cs c b at

-- the handle that has a CPU, and one that has none
behind : (o : Option OnPlainCpu) → IsSome (table_in o) → (b : OnPlainCpu) × (o ≡ Some b)
behind None there = absurd (false≢true there)
behind (Some b) there = (b, refl)

nothing : (o : Option OnPlainCpu) → table_in o ≡ None → o ≡ None
nothing None is = refl
nothing (Some b) is = absurd (none-some b.words (sym is))

has_behind : (cs : List (Option OnPlainCpu)) → AreThere (map table_in cs) → (c : ℕ) → c < length cs → (b : OnPlainCpu) × (body_at cs c ≡ Some b)
has_behind cs there c lt = behind (body_at cs c) (subst IsSome (table_at cs c) (there c (omega (arith, lt, length-map cs table_in))))

pub all_there : (n : ℕ) (cs : List (Option OnPlainCpu)) → AreAllHere n cs → AreAllThere n (map table_in cs) (cpus_in cs)
all_there n cs all = record {
  all = record {
    count = length-map cs cpu_in ∙ all.count;
    each = λ c x at.
        let has = all.each c (omega (arith, (cpu_at (cpus_in cs) c x x at).0, length-map cs cpu_in, all.count)) in
        ap (λ (y : OnCpu). y.view.id) (one_at (cpus_in cs) c x has.0.cpu at (at_behind cs c has.0 has.1)) ∙ has.2;
  };
  there = λ c lt. subst IsSome (sym (table_at cs c ∙ ap table_in (all.each c (omega (arith, lt, length-map cs table_in, all.count))).1)) refl;
}
  where
    one_at : (xs : List OnCpu) (c : ℕ) (x y : OnCpu) → get_elem? xs c ≡ some x → get_elem? xs c ≡ some y → x ≡ y
    one_at xs c x y is too = sym (cpu_at xs c x x is).1 ∙ (cpu_at xs c y x too).1

pub all_here : (n : ℕ) (cs : List (Option OnPlainCpu)) → AreAllThere n (map table_in cs) (cpus_in cs) → AreAllHere n cs
all_here n cs all = record {
  count = sym (length-map cs cpu_in) ∙ all.all.count;
  each = λ c lt.
      let b = has_behind cs all.there c (omega (arith, lt, length-map cs cpu_in, all.all.count)) in
      (b.0, b.1, all.all.each c b.0.cpu (at_behind cs c b.0 b.1));
}

-- and so of the handles that are lent

pub lent_here : (n : ℕ) (hs : List CpuHandle) → AreAllThere n (map (λ (h : CpuHandle). table_in h.body) hs) (map (λ (h : CpuHandle). cpu_in h.body) hs) → AreAllHere n (bodies_of hs)
lent_here n hs all = all_here n (bodies_of hs) (subst (λ (p : List (Option Named) × List OnCpu). AreAllThere n p.0 p.1) (λ i. (tables_lent hs i, cpus_lent hs i)) all)

pub here_lent : (n : ℕ) (hs : List CpuHandle) → AreAllHere n (bodies_of hs) → AreAllThere n (map (λ (h : CpuHandle). table_in h.body) hs) (map (λ (h : CpuHandle). cpu_in h.body) hs)
here_lent n hs all =
    subst (λ (p : List (Option Named) × List OnCpu). AreAllThere n p.0 p.1) (λ i. (sym (tables_lent hs) i, sym (cpus_lent hs) i)) (all_there n (bodies_of hs) all)

-- all are of the keeper's table
pub all_of_one : (w : Named) (cs : List (Option OnPlainCpu)) → AreThere (map table_in cs) → ((c : ℕ) (b : OnPlainCpu) → body_at cs c ≡ Some b → b.words ≡ w) → AreOf w (map table_in cs)
all_of_one w cs there same c lt =
    let b = has_behind cs there c (omega (arith, lt, length-map cs table_in)) in
    table_at cs c ∙ (ap table_in b.1 ∙ ap (λ (z : Named). Some z) (same c b.0 b.1))

pub lent_of_one : (w : Named) (hs : List CpuHandle) → AreThere (map (λ (h : CpuHandle). table_in h.body) hs) → ((c : ℕ) (b : OnPlainCpu) → body_at (bodies_of hs) c ≡ Some b → b.words ≡ w)
    → AreOf w (map (λ (h : CpuHandle). table_in h.body) hs)
lent_of_one w hs there same = subst (AreOf w) (sym (tables_lent hs)) (all_of_one w (bodies_of hs) (subst AreThere (tables_lent hs) there) same)

-- all have heard, or none
pub have_heard : (cs ds : List (Option OnPlainCpu)) → map table_in ds ≡ map table_in cs → HaveLearned (cpus_in cs) (cpus_in ds) → HaveHeard cs ds
have_heard cs ds tables learned = record {
  size = sym (length-map ds table_in) ∙ (ap length tables ∙ length-map cs table_in);
  same = λ c b is.
      let is : table_in (body_at ds c) ≡ Some b.words = at c ∙ ap table_in is in
      let a = behind (body_at ds c) (subst IsSome (sym is) refl) in
      (a.0, a.1, same_Some a.0.words b.words (sym (ap table_in a.1) ∙ is));
  none = λ c is. nothing (body_at ds c) (at c ∙ ap table_in is);
  learned = learned;
}
  where
    at : (c : ℕ) → table_in (body_at ds c) ≡ table_in (body_at cs c)
    at c = sym (table_at ds c) ∙ (ap (λ (ts : List (Option Named)). get_or ts c None) tables ∙ table_at cs c)

pub lent_heard : (hs ds : List CpuHandle) → map (λ (h : CpuHandle). table_in h.body) ds ≡ map (λ (h : CpuHandle). table_in h.body) hs
    → HaveLearned (map (λ (h : CpuHandle). cpu_in h.body) hs) (map (λ (h : CpuHandle). cpu_in h.body) ds) → HaveHeard (bodies_of hs) (bodies_of ds)
lent_heard hs ds tables learned =
    have_heard (bodies_of hs) (bodies_of ds) (sym (tables_lent ds) ∙ (tables ∙ tables_lent hs))
    (subst (λ (p : List OnCpu × List OnCpu). HaveLearned p.0 p.1) (λ i. (cpus_lent hs i, cpus_lent ds i)) learned)

pub none_heard : (cs ds : List (Option OnPlainCpu)) → ds ≡ cs → HaveHeard cs ds
none_heard cs ds is = subst (HaveHeard cs) (sym is) (record { size = refl; same = λ c b at. (b, at, refl); none = λ c at. at; learned = learned_none (cpus_in cs) })

-- What is written

-- each place has room for all CPUs
pub all_fit : (list : List CBalance) → All (λ (b : CBalance). ⊤) list
all_fit [] = All-nil (λ b. ⊤)
all_fit (b ∷ list) = All-cons (λ b. ⊤) b list tt (all_fit list)

-- of what was filled up, the first places are the CPUs', and the rest zeros
taken_back : (k : OnKeeper) (xs : List OnCpu) (cpus n t : ℕ) → length xs ≡ cpus → take cpus (filled_up (tally_met k xs n t)).locals ≡ locals_met k xs t n
taken_back k xs cpus n t all = take_at (locals_met k xs t n) _ cpus (length-map xs (local_met k t n) ∙ all)

zeros_past : (l : List ℤ) (c : ℕ) → length l ≤ c → get_or (l ++ drop (length l) (replicate MOST_CPUS (pos 0))) c (pos 0) ≡ pos 0
zeros_past l c past =
    get_or-append_right l (drop (length l) (replicate MOST_CPUS (pos 0))) (length l) c (pos 0) refl past
    ∙ (get_or-drop (length l) (replicate MOST_CPUS (pos 0)) (c - length l) (pos 0) ∙ get_or_all MOST_CPUS (pos 0) (length l + (c - length l)))

pub audit_told : (z : Settings) (k a : OnKeeper) (ys : List OnCpu) (cs : List (Option OnPlainCpu)) (first list : List CBalance) → IsKeeperOf z a → AreAllCpus z.cpus (cpus_in cs)
    → AreAlike a (cpus_in cs) ys → HasListened a k → HaveLearned (cpus_in cs) ys → AreTold balance_in (λ n t. filled_up (tally_met k ys n t)) k z.slots (occupied k z.slots) first list
    → AuditWrites z a cs first list
audit_told z k a ys cs first list known all alike heard learned told =
    let xs = cpus_in cs in
    let place : occupied k z.slots ≡ occupied a z.slots = ap (λ (b : OnKeeper). occupied b z.slots) heard.is.1 in
    let count : length ys ≡ z.cpus = learned.size ∙ all.count in
    let said = λ (n t : ℕ). filled_up (tally_met k ys n t) in
    let cut_to = λ (y : Tally). record y { locals = take z.cpus y.locals } in
    let there = take (occupied a z.slots) list in
    let same : there ≡ take (occupied k z.slots) list = ap (λ n. take n list) (sym place) in
    let shown : map balance_in there ≡ each_below said k.slots z.slots = ap (map balance_in) same ∙ told.met in
    let met : map (tally_in z.cpus) there ≡ tallies_met a xs z.slots =
    sym (map-map cut_to balance_in there) ∙ (ap (map cut_to) shown ∙ (each_map cut_to said k.slots z.slots
    ∙ (each_same (λ n t. cut_to (said n t)) (tally_met k ys) k.slots z.slots
    (λ t e is. ap (λ l. record (tally_met k ys e.number t) { locals = l }) (taken_back k ys z.cpus e.number t count))
    ∙ tallies_learned a k xs ys z.slots heard learned))) in
    let right = told_right (tally_in z.cpus) z a xs ys there known all alike met in
    let Zeros = λ (y : Tally). (c : ℕ) → z.cpus ≤ c → get_or y.locals c (pos 0) ≡ pos 0 in
    record {
      told = record {
        keeper = known;
        met = met;
        answer = right.0;
        tally = right.1;
        cut = all_shown balance_in Zeros there (subst (All Zeros) (sym shown) (each_all Zeros said k.slots z.slots
            (λ t e is c past. zeros_past (locals_met k ys t e.number) c (omega (arith, past, count, length-map ys (local_met k t e.number))))));
      };
      rest = ap (λ n. drop n list) (sym place) ∙ (told.rest ∙ ap (λ n. drop n first) place);
    }
