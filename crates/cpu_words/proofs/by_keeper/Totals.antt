-- Totals on the words: what was collected is added, and a reference that is given up is subtracted.
use Rattle.std.proofs.Common.{◌≡◌, ◌≢◌, inl, inr, ⊎_elim, ℕ, ◌+◌, ◌-◌, ◌%◌, ◌^◌, ◌<◌, ◌==◌, List, [], length, get_or, set, Some, Bool, true, false, cond, eq-eqb, ne_eqb, refl, sym, ap, ◌∙◌, subst, arith, Option}
use Rattle.std.proofs.Math.Nat.{lt_of_not-le}
use Rattle.std.proofs.lemmas.Bool.{cases_eq}
use Rattle.std.specs.Prelude.{slice_index}
use Rattle.atomic_table.specs.Table.{Joins as TableJoins}
use Rattle.cpu_words.specs.Types.{Entry, Settings, Mark, Slot, Live, Retired, LocalPlace, Free, Standing, Rest, Adding, Subtracting, TotalAdd, TotalSub, JoinKeeper, Done, Due}
use Rattle.protocol.specs.Common.{State, mark_at, total_at, number_standing, step, total_add, total_sub, IsIn, one_if, subtraction_due_at, addition_due_at, is_adding_at}
use Rattle.registry_values.specs.Common.{bias, no_mark, is_collected, is_some_collected, slot_at, slot_of}
use Rattle.protocol.proofs.History.{one_entry, attached_within}
use Rattle.protocol.proofs.Occupied.{attached_in, one_in, one_number, in_within}
use Rattle.protocol.proofs.Cells.{total_here, total_other, slot_number, any_within}
use Rattle.protocol.proofs.counts.Sums.{one_self, one_other, local_changed, standing_within}
use Rattle.protocol.proofs.keeps.References.{due_adding, due_subtracting}
use Rattle.protocol.proofs.keeps.MarkKeeps.{mark_place}
use Rattle.protocol.proofs.counts.Bounds.{adding_range, adding_within, subtracting_range}
use Rattle.cpu_words.specs.Common.{KeeperView, ReferenceView, Logged, View, Keeper, Reference, total_of, index, keeper_view, number_at, one_more, IsCollectedFor, KeeperShown, ReferenceShown, GivesUp, keeper_of, reference_of, Agrees, Good, number_or_none, did, JoinsBy, LoggedRuled, joined_seat, spent_seat, gives_up}
use Rattle.cpu_words.specs.Draining
use Rattle.cpu_words.proofs.shown.Showing.{JoinsSo, joins_on, reference_place}
use Rattle.cpu_words.proofs.logs.Logs.{seat_join}
use Rattle.cpu_words.proofs.shown.Placing.{agrees_set}
use Rattle.cpu_words.proofs.by_cpu.Locals.{one_more_same, one_more_other}
use Rattle.cpu_words.proofs.by_keeper.KeeperSteps.{beside, beside_stays, beside_words, with_keeper, leaves_all, keeper_good_after, keeper_makes, seen_by_keeper, KeeperDoes, KeeperPuts}
use Rattle.cpu_words.proofs.by_keeper.Draining.{due_alike}

-- Counts by number

-- one more at n, and nothing at other numbers
pub one_more_at : (l : List ℕ) (n m : ℕ) → number_at (one_more l n) m ≡ number_at l m + one_if (m == n)
one_more_at l n m = ⊎_elim
    (λ (same : m ≡ n).
    let new = ap (number_at (one_more l n)) same ∙ one_more_same l n in
    omega (arith, one_self m n same, new, ap (number_at l) same))
    (λ (off : m ≢ n). let none = one_other m n off in let new = one_more_other l n m off in omega (arith, none, new))
    (cases_eq m n)

-- the words after a total was written
pub total_words : (z : Settings) (words : List ℕ) (g : State) (slots : List Slot) (keeps : List (Option ℕ)) (due : Due) (t v : ℕ) → Good g → t < g.settings.slots → Agrees z words g
    → Agrees z (set words (index z (total_of t)) v) (with_keeper g (record g { totals = set g.totals t v; slots = slots; keeps = keeps; due = due }))
total_words z words g slots keeps due t v good slot agrees = agrees_set z words g _ (total_of t) v agrees refl slot (total_here g.totals t v (omega (arith, slot, good.holds.shape.totals)))
    (elim [ total_of u ↦ λ _ ne. total_other g.totals t v u (λ e. ne (ap total_of e)) | _ ↦ λ _ _. refl ])

-- the total of the slot t is written, and the keeper is at rest
abbrev totalling : State → ℕ → ℕ → State
totalling g t v = record g { totals = set g.totals t v; due = Rest }

-- what the keeper's view shows of it
shown_added : (g : State) (k : KeeperView) (t old : ℕ) → Good g → KeeperShown g k → g.due ≡ Adding t old
    → KeeperShown (with_keeper g (totalling g t (total_at g.totals t + old - bias))) (keeper_view (with_keeper g (totalling g t (total_at g.totals t + old - bias))) k)
shown_added g k t old good had due = assumption (
  λ (u : ℕ) (e : Entry) (live : slot_at g.slots u ≡ Live e). ap (λ n. n + number_at k.given_up e.number)
      (total_other g.totals t v u (λ same. let q : Live e ≡ Retired gone.0 = sym live ∙ ap (slot_at g.slots) same ∙ gone.1 in cc)) ∙ had.live_total u e live,
  λ (u : ℕ) (e : Entry) (retired : slot_at g.slots u ≡ Retired e). each u e (had.gives_up u e retired),
  had,
)
  where
    v : ℕ
    v = total_at g.totals t + old - bias

    gone : (e : Entry) × (slot_at g.slots t ≡ Retired e)
    gone = due_adding g.settings.cpus g.slots g.hands g.due g.locals t old due good.holds.references

    each : (u : ℕ) (e : Entry) → GivesUp g k.given_up u e.number → GivesUp (with_keeper g (totalling g t v)) k.given_up u e.number
    each u e was = ⊎_elim
        (λ (is : u ≡ t).
        let new_total : total_at (set g.totals t v) u ≡ v =
        ap (total_at (set g.totals t v)) is ∙ total_here g.totals t v (omega (arith, adding_within g t old good.holds due, good.holds.shape.totals)) in
        let a : addition_due_at u g.due ≡ old = ap (addition_due_at u) due ∙ ap (λ (b : Bool). cond b old 0) (eq-eqb t u (sym is)) in
        let b : is_adding_at u g.due ≡ 1 = ap (is_adding_at u) due ∙ one_self t u (sym is) in
        let none : subtraction_due_at u g.due ≡ 0 = ap (subtraction_due_at u) due in
        let range = (adding_range g t old good.holds due).0 in
        omega (arith, was, ap (total_at g.totals) is, new_total, a, b, none, range))
        (λ (off : u ≢ t).
        let ne : t ≢ u = λ q. off (sym q) in
        let none : subtraction_due_at u g.due ≡ 0 = ap (subtraction_due_at u) due in
        omega (arith, was, total_other g.totals t v u off, ap (addition_due_at u) due ∙ ap (λ (b : Bool). cond b old 0) (ne_eqb t u ne), ap (is_adding_at u) due ∙ one_other t u ne, none))
        (cases_eq u t)

pub total_add_may : (z : Settings) (k : KeeperView) (t old value : ℕ) → Draining.MayTotalAdd k t old value → KeeperPuts z k (total_of t) value (TotalAdd t) (Draining.TotalAddTold (TotalAdd t))
total_add_may z k t old value may s r i at fits =
    let g = r.g in
    let had : KeeperShown g k = (r.shows.fits i (Keeper k) at).1 in
    let seen = seen_by_keeper g k r.good had in
    let due : g.due ≡ Adding t old = sym seen.due ∙ may.due in
    let v = total_at g.totals t + old - bias in
    let is : value ≡ v = may.sum ∙ ap (λ (x : List ℕ). total_at x t + old - bias) seen.totals in
    let l = totalling g t v in
    let made : step g (TotalAdd t) ≡ Some (record { state = with_keeper g l; reply = Done }) = ap (total_add g t) due ∙ rw (eq-eqb t t refl) refl in
    let words : Agrees z (set s.words (index z (total_of t)) value) (with_keeper g l) =
    subst (λ n. Agrees z (set s.words (index z (total_of t)) n) (with_keeper g l)) (sym is)
    (total_words z s.words g l.slots l.keeps l.due t v r.good (adding_within g t old r.good.holds due) r.words) in
    let done = keeper_makes z s r i k (index z (total_of t)) value l (TotalAdd t) Done k at made (leaves_all g l refl refl refl refl (λ u d on. on)) (λ n. refl) refl
    (shown_added g k t old r.good had due) words in
    let change : keeper_view (with_keeper g l) k ≡ record k { totals = set k.totals t value; due = Rest } =
    ap (λ n. record (keeper_view g k) { totals = set g.totals t n; due = Rest }) (sym is) ∙ ap (λ (x : KeeperView). record x { totals = set x.totals t value; due = Rest }) (sym had.is) in
    (Keeper (keeper_view (with_keeper g l) k), done.0, (refl, (done.1, change)))

-- 1 at the slot t, where a subtraction is due, and 0 at the others
abbrev pub one_due : ℕ → ℕ → ℕ
one_due t u = subtraction_due_at u (Subtracting t)

-- one more reference to the entry e of t is given up: what is counted of all occupants
one_given : (g : State) (t : ℕ) (e : Entry) (given_up : List ℕ) → Good g → IsIn e (slot_at g.slots t)
    → (u : ℕ) (f : Entry) → IsIn f (slot_at g.slots u) → number_at (one_more given_up e.number) f.number ≡ number_at given_up f.number + one_due t u
one_given g t e given_up good here u f there =
    let more = one_more_at given_up e.number f.number in
    ⊎_elim
    (λ (is : u ≡ t).
    omega (arith, more, one_self f.number e.number (ap (λ (x : Entry). x.number) (one_in f e (slot_at g.slots t) here (subst (λ v. IsIn f (slot_at g.slots v)) is there))), one_self t u (sym is)))
    (λ (off : u ≢ t). omega (arith, more, one_other f.number e.number (λ q. off (one_number g.history g.slots t u e f good.holds.slots here there q).0), one_other t u (λ q. off (sym q))))
    (cases_eq u t)

-- the total of t is one less: what the totals of all slots were
pub one_subtracted : (totals : List ℕ) (t : ℕ) → t < length totals → 0 < total_at totals t → (u : ℕ) → total_at (set totals t (total_at totals t - 1)) u + one_due t u ≡ total_at totals u
one_subtracted totals t lt some_left u = ⊎_elim
    (λ (is : u ≡ t).
    omega (arith, ap (total_at (set totals t (total_at totals t - 1))) is ∙ total_here totals t (total_at totals t - 1) lt, ap (total_at totals) is, one_self t u (sym is), some_left))
    (λ (off : u ≢ t). omega (arith, total_other totals t (total_at totals t - 1) u off, one_other t u (λ q. off (sym q))))
    (cases_eq u t)

-- an occupied slot has a total
total_within : (g : State) (t : ℕ) (e : Entry) → Good g → IsIn e (slot_at g.slots t) → t < length g.totals
total_within g t e good here = omega (arith, in_within g.slots t e here, good.holds.shape.slots, good.holds.shape.totals)

-- a reference to the entry e of t is given up, and subtracted from the total of t: what the totals of all slots show
pub shown_less : (g : State) (k : KeeperView) (t : ℕ) (e : Entry) → Good g → IsIn e (slot_at g.slots t) → 0 < total_at g.totals t
    → (u : ℕ) (f : Entry) → IsIn f (slot_at g.slots u) → total_at (set g.totals t (total_at g.totals t - 1)) u + number_at (one_more k.given_up e.number) f.number
    ≡ total_at g.totals u + number_at k.given_up f.number
shown_less g k t e good here some_left u f there = omega (arith, one_given g t e k.given_up good here u f there, one_subtracted g.totals t (total_within g t e good here) some_left u)

-- a subtraction is due at no live entry's slot
none_due : (g : State) (t u : ℕ) (e f : Entry) → slot_at g.slots t ≡ Retired e → slot_at g.slots u ≡ Live f → one_due t u ≡ 0
none_due g t u e f retired live = one_other t u (λ same. let q : Live f ≡ Retired e = sym live ∙ ap (slot_at g.slots) (sym same) ∙ retired in cc)

-- no later entry's references are given up
pub later_less : (g : State) (k : KeeperView) (t : ℕ) (e : Entry) → Good g → KeeperShown g k → IsIn e (slot_at g.slots t) → (n : ℕ) → length g.history < n
    → number_at (one_more k.given_up e.number) n ≡ 0
later_less g k t e good had here n above = one_more_other k.given_up e.number n (λ same.
    absurd (omega (arith, (attached_within g.history e (attached_in g.history g.slots t e good.holds.slots here).0).1, above, same))) ∙ had.later n above

shown_subtracted : (g : State) (k : KeeperView) (t : ℕ) (e : Entry) → Good g → KeeperShown g k → slot_at g.slots t ≡ Retired e → g.due ≡ Subtracting t
    → KeeperShown (with_keeper g (totalling g t (total_at g.totals t - 1))) (keeper_view (with_keeper g (totalling g t (total_at g.totals t - 1))) k)
shown_subtracted g k t e good had retired due =
    let less = one_subtracted g.totals t (total_within g t e good (inr retired)) (subtracting_range g t good.holds due).1 in
    let lives : (u : ℕ) (f : Entry) → slot_at g.slots u ≡ Live f → total_at (set g.totals t (total_at g.totals t - 1)) u + number_at k.given_up f.number ≡ bias = λ u f live.
    omega (arith, had.live_total u f live, less u, none_due g t u e f retired live) in
    let given : (u : ℕ) (f : Entry) → slot_at g.slots u ≡ Retired f → GivesUp (with_keeper g (totalling g t (total_at g.totals t - 1))) k.given_up u f.number = λ u f gone.
    let d = due_alike g.due (Subtracting t) due u in
    omega (arith, had.gives_up u f gone, less u, d.0, d.1, d.2) in
    assumption (lives, given, had)

pub total_sub_may : (z : Settings) (k : KeeperView) (t : ℕ) → Draining.MayTotalSub k t
    → KeeperDoes z k (total_of t) (λ n. (n + (2 ^ 64 - 1)) % 2 ^ 64) (TotalSub t) (λ _. Done) (λ v _ l. Draining.TotalSubTold (TotalSub t) v l)
total_sub_may z k t may s r i at fits =
    let g = r.g in
    let had : KeeperShown g k = (r.shows.fits i (Keeper k) at).1 in
    let seen = seen_by_keeper g k r.good had in
    let due : g.due ≡ Subtracting t = sym seen.due ∙ may in
    let range = subtracting_range g t r.good.holds due in
    let gone = due_subtracting g.settings.cpus g.slots g.hands g.due g.locals t due r.good.holds.references in
    let e = gone.0 in
    let v = total_at g.totals t - 1 in
    let w = slice_index s.words (index z (total_of t)) in
    let next : (w + (2 ^ 64 - 1)) % 2 ^ 64 ≡ v = omega (arith, r.words.at (total_of t) range.0, range.1, fits) in
    let l = totalling g t v in
    let made : step g (TotalSub t) ≡ Some (record { state = with_keeper g l; reply = Done }) = ap (total_sub g t) due ∙ rw (eq-eqb t t refl) refl in
    let words : Agrees z (set s.words (index z (total_of t)) ((w + (2 ^ 64 - 1)) % 2 ^ 64)) (with_keeper g l) =
    subst (λ n. Agrees z (set s.words (index z (total_of t)) n) (with_keeper g l)) (sym next) (total_words z s.words g l.slots l.keeps l.due t v r.good range.0 r.words) in
    let done = keeper_makes z s r i k (index z (total_of t)) ((w + (2 ^ 64 - 1)) % 2 ^ 64) l (TotalSub t) Done k at made (leaves_all g l refl refl refl refl (λ u d on. on)) (λ n. refl) refl
    (shown_subtracted g k t e r.good had gone.1 due) words in
    let change : keeper_view (with_keeper g l) k ≡ record k { totals = set k.totals t (total_at k.totals t - 1); due = Rest } =
    ap (λ (x : KeeperView). record x { totals = set x.totals t (total_at x.totals t - 1); due = Rest }) (sym had.is) in
    (Keeper (keeper_view (with_keeper g l) k), done.0, (refl, (done.1, (e, ap (λ (x : List Slot). slot_at x t) seen.slots ∙ gone.1, change))))

-- References given up under the interlock

-- a count word was collected for the reference's entry, which is retired
record CollectedOf (g : State) (v : ReferenceView) : Type 0 where
  retired : slot_at g.slots v.entry.slot ≡ Retired v.entry
  some_one : is_some_collected g.settings.cpus (get_or g.marks v.entry.slot []) ≡ true

collected_of : (g : State) (k : KeeperView) (v : ReferenceView) → Good g → KeeperShown g k → ReferenceShown g v → Draining.MayJoinKeeper k v → CollectedOf g v
collected_of g k v good had ref may = ⊎_elim
    (λ (there : (c : ℕ) × (v.collected ≡ Some c)). by_release there.0 (ref.collected there.0 there.1))
    (λ (there : (t : ℕ) × (c : ℕ) × (e : Entry) × (slot_at k.slots t ≡ Retired e) × (e.number ≡ v.entry.number) × ((mark_at k.marks t c).collected ≡ true)).
    by_keeper there.0 there.1 there.2 there.3 there.4 there.5)
    may.is_collected
  where
    by_release : (c : ℕ) → IsCollectedFor g.slots g.marks v.entry c → CollectedOf g v
    by_release c is =
        let lt : c < g.settings.cpus = lt_of_not-le (λ past. let q : ◌≡◌ {A = Bool} false true = sym (had.beyond c v.entry.slot past) ∙ is.1 in cc) in
        let place = mark_place g v.entry.slot c v.entry good.holds is.0 lt in record {
          retired = is.0;
          some_one = any_within is_collected g.settings.cpus (get_or g.marks v.entry.slot []) no_mark c lt place.1 is.1;
        }

    by_keeper : (t c : ℕ) (e : Entry) → slot_at k.slots t ≡ Retired e → e.number ≡ v.entry.number → (mark_at k.marks t c).collected ≡ true → CollectedOf g v
    by_keeper t c e retired number marked =
        let seen = seen_by_keeper g k good had in
        let gone : slot_at g.slots t ≡ Retired e = sym (ap (λ (x : List Slot). slot_at x t) seen.slots) ∙ retired in
        let show = good.holds.slots.retired t e gone in
        let one : e ≡ v.entry = one_entry g.history e v.entry show.0 ref.attached number in
        let slot : t ≡ v.entry.slot = sym show.1 ∙ ap (λ (x : Entry). x.slot) one in
        by_release c (
          subst (λ (u : ℕ). slot_at g.slots u ≡ Retired v.entry) slot (gone ∙ ap (λ (x : Entry). Retired x) one),
          subst (λ (u : ℕ). (mark_at g.marks u c).collected ≡ true) slot (ap (λ (x : List (List Mark)). (mark_at x t c).collected) (sym seen.marks) ∙ marked),
        )

keeper_joins : (k : KeeperView) (v : ReferenceView) → Draining.MayJoinKeeper k v → JoinsSo JoinKeeper (Keeper k) (Reference v) (Keeper (Draining.keeper_after_join k v))
keeper_joins k v may g good had ref backs =
    let n = v.entry.number in
    let t = v.entry.slot in
    let there = collected_of g k v good had ref may in
    let rest : g.due ≡ Rest = sym (seen_by_keeper g k good had).due ∙ may.rest in
    let place = reference_place g v backs in
    let id = place.0 in
    let of : slot_of g.slots n ≡ Some t = slot_number g.history g.slots v.entry t good.holds.slots (inr there.retired) in
    let l = beside g (set g.locals id Free) (Subtracting t) g.keeps in
    let made : step g (JoinKeeper id) ≡ Some (record { state = with_keeper g l; reply = Done }) = rw (place.1, of, there.retired, rest, there.some_one) refl in
    let given = one_given g t v.entry k.given_up good (inr there.retired) in
    let lives : (u : ℕ) (e : Entry) → slot_at g.slots u ≡ Live e → total_at g.totals u + number_at (one_more k.given_up n) e.number ≡ bias = λ u e live.
    omega (arith, had.live_total u e live, given u e (inl live), none_due g t u v.entry e there.retired live) in
    let gives : (u : ℕ) (e : Entry) → slot_at g.slots u ≡ Retired e → GivesUp (with_keeper g l) (one_more k.given_up n) u e.number = λ u e gone.
    let d = due_alike g.due Rest rest u in
    omega (arith, had.gives_up u e gone, given u e (inr gone), d.0, d.1, d.2) in
    record {
      named = refl;
      settings = refl;
      seated = refl;
      words = beside_words g g.seated l.locals l.due l.keeps;
      stay = beside_stays g g.seated l.locals l.due l.keeps (omega arith);
      makes = record {
        id = id;
        names = ap (λ (x : LocalPlace). number_or_none (number_standing x)) place.1;
        after = with_keeper g l;
        made = made;
        good_after = keeper_good_after g l (JoinKeeper id) Done good (leaves_all g l refl refl refl refl (λ u d on. on)) made;
        shown = assumption (
          ap (λ (x : KeeperView). record x { due = Subtracting t; given_up = one_more x.given_up n }) had.is,
          lives,
          gives,
          later_less g k t v.entry good had (inr there.retired),
          had,
        );
        count = λ m. let a = local_changed m g.locals id (Standing n) Free (standing_within g.locals id n place.1) place.1 in omega arith;
      };
    }

-- the same of seats' views
pub joins_keeper : (z : Settings) (i : ℕ) (x : Logged) (o : ℕ) (u : Logged) (k : KeeperView) (v : ReferenceView) → x ≡ record x { view = Keeper (keeper_of x.view) } → x.ended ≡ false
    → keeper_of x.view ≡ k → u ≡ record u { view = Reference (reference_of u.view) } → u.ended ≡ false → reference_of u.view ≡ v → Draining.MayJoinKeeper k v → TableJoins (LoggedRuled z) i x o u (joined_seat Draining.with_given_up gives_up x u) spent_seat
joins_keeper z i x o u k v keeper going k_is ref other v_is may =
    seat_join z i o x u (Keeper k) (Reference v) Draining.with_given_up gives_up (did (JoinKeeper v.entry.number) Done) (keeper ∙ ap (λ (y : KeeperView). record x { view = Keeper y }) k_is)
    (ref ∙ ap (λ (y : ReferenceView). record u { view = Reference y }) v_is) going other tt (refl, tt) (refl, tt) (refl, tt) refl
    (joins_on z i (Keeper k) o (Reference v) (Keeper (Draining.keeper_after_join k v)) JoinKeeper (keeper_joins k v may) (refl, refl) (λ seat sits. sits))

pub join_keeper_by : (x u y : View) (k : KeeperView) (v : ReferenceView) → keeper_of x ≡ k → reference_of u ≡ v → y ≡ Draining.with_given_up x u → Draining.MayJoinKeeper k v
    → JoinsBy JoinKeeper (Keeper k) (Reference v) (Keeper (keeper_of y))
join_keeper_by x u y k v k_is v_is y_is may =
    let is : keeper_of y ≡ Draining.keeper_after_join k v = ap keeper_of y_is ∙ (λ j. Draining.keeper_after_join (k_is j) (v_is j)) in
    subst (λ w. JoinsBy JoinKeeper (Keeper k) (Reference v) (Keeper w)) (sym is) (λ g good had ref backs. (keeper_joins k v may g good had ref backs).makes)
