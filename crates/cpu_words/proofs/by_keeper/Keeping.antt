-- Keep by the keeper's seat: a reference's seat is joined into it, for a vacant slot.
use Rattle.std.proofs.Common.{◌≡◌, ⊎_elim, ℕ, ◌<◌, List, set, Option, Some, None, true, false, refl, sym, ap, ◌∙◌, subst, arith}
use Rattle.std.proofs.lemmas.Bool.{lt-ltb}
use Rattle.atomic_table.specs.Table.{Joins as TableJoins}
use Rattle.cpu_words.specs.Types.{Entry, Driver, Settings, Keep, Done, Slot, Vacant, Live, Retired, LocalPlace, Free, Standing}
use Rattle.registry_values.specs.Common.{slot_at, slot_of, is_driver}
use Rattle.protocol.specs.Common.{kept_at, number_standing, step, is_driver_slot, IsIn}
use Rattle.protocol.proofs.Cells.{slot_number}
use Rattle.protocol.proofs.counts.Sums.{local_changed, standing_within}
use Rattle.cpu_words.specs.Common.{KeeperView, ReferenceView, Logged, View, Keeper, Reference, keeper_of, reference_of, number_or_none, did, JoinsBy, MayKeep, keeper_after_keep, with_kept, LoggedRuled, joined_seat, spent_seat, keeps_for}
use Rattle.cpu_words.proofs.shown.Showing.{JoinsSo, joins_on, reference_place}
use Rattle.cpu_words.proofs.logs.Logs.{seat_join}
use Rattle.cpu_words.proofs.by_keeper.KeeperSteps.{with_keeper, leaves_all, keeper_good_after, beside, beside_stays, beside_words, seen_by_keeper}
use Rattle.cpu_words.proofs.by_cpu.CpuSteps.{local_here}

driver_slot : (e : Entry) (x : Slot) → IsIn e x → e.rec.kind ≡ Driver → is_driver_slot x ≡ true
driver_slot e x here kind = ⊎_elim
    (λ (live : x ≡ Live e). ap is_driver_slot live ∙ ap is_driver kind)
    (λ (retired : x ≡ Retired e). ap is_driver_slot retired ∙ ap is_driver kind)
    here

keep_joins : (k : KeeperView) (t : ℕ) (v : ReferenceView) → MayKeep k t v → JoinsSo (Keep t) (Keeper k) (Reference v) (Keeper (keeper_after_keep k t v))
keep_joins k t v may g good had ref backs =
    let e = v.entry in
    let n = e.number in
    let seen = seen_by_keeper g k good had in
    let lt : t < g.settings.slots = subst (λ (z : Settings). t < z.slots) seen.settings may.write.slot in
    let vacant : slot_at g.slots t ≡ Vacant = ap (λ (x : List Slot). slot_at x t) (sym seen.slots) ∙ may.write.vacant in
    let nothing : kept_at g.keeps t ≡ None = ap (λ (x : List (Option ℕ)). kept_at x t) (sym seen.keeps) ∙ may.nothing in
    let place = reference_place g v backs in
    let id = place.0 in
    let here : IsIn e (slot_at g.slots e.slot) = local_here g v id good ref place.1 in
    let of : slot_of g.slots n ≡ Some e.slot = slot_number g.history g.slots e e.slot good.holds.slots here in
    let l = beside g (set g.locals id Free) g.due (set g.keeps t (Some n)) in
    let made : step g (Keep t id) ≡ Some (record { state = with_keeper g l; reply = Done }) =
    rw (place.1, of, sym seen.due ∙ may.write.rest, lt-ltb t g.settings.slots lt, vacant, nothing, driver_slot e (slot_at g.slots e.slot) here may.driver) refl in
    record {
      named = refl;
      settings = refl;
      seated = refl;
      words = beside_words g g.seated l.locals l.due l.keeps;
      stay = beside_stays g g.seated l.locals l.due l.keeps (omega arith);
      makes = record {
        id = id;
        names = ap (λ (x : LocalPlace). number_or_none (number_standing x)) place.1;
        after = with_keeper g l;
        made = made;
        good_after = keeper_good_after g l (Keep t id) Done good (leaves_all g l refl refl refl refl (λ u d on. on)) made;
        shown = assumption (ap (λ (x : KeeperView). keeper_after_keep x t v) had.is, had);
        count = λ m. let a = local_changed m g.locals id (Standing n) Free (standing_within g.locals id n place.1) place.1 in omega arith;
      };
    }

-- the same of seats' views
pub keeps_seats : (z : Settings) (i : ℕ) (x : Logged) (o : ℕ) (u : Logged) (named t : ℕ) (k : KeeperView) (v : ReferenceView) → named ≡ t → x ≡ record x { view = Keeper (keeper_of x.view) }
    → x.ended ≡ false → keeper_of x.view ≡ k
    → u ≡ record u { view = Reference (reference_of u.view) } → u.ended ≡ false → reference_of u.view ≡ v → MayKeep k t v
    → TableJoins (LoggedRuled z) i x o u (joined_seat (with_kept named) (keeps_for named) x u) spent_seat
keeps_seats z i x o u named t k v is keeper going k_is ref other v_is may =
    subst (λ (m : ℕ). TableJoins (LoggedRuled z) i x o u (joined_seat (with_kept m) (keeps_for m) x u) spent_seat) (sym is)
    (seat_join z i o x u (Keeper k) (Reference v) (with_kept t) (keeps_for t) (did (Keep t v.entry.number) Done) (keeper ∙ ap (λ (y : KeeperView). record x { view = Keeper y }) k_is)
    (ref ∙ ap (λ (y : ReferenceView). record u { view = Reference y }) v_is) going other tt (refl, tt) (refl, tt) (refl, tt) refl
    (joins_on z i (Keeper k) o (Reference v) (Keeper (keeper_after_keep k t v)) (Keep t) (keep_joins k t v may) (refl, refl) (λ seat sits. sits)))

pub keep_by : (x u y : View) (named t : ℕ) (k : KeeperView) (v : ReferenceView) → named ≡ t → keeper_of x ≡ k → reference_of u ≡ v → y ≡ with_kept named x u → MayKeep k t v
    → JoinsBy (Keep t) (Keeper k) (Reference v) (Keeper (keeper_of y))
keep_by x u y named t k v same k_is v_is y_is may =
    let is : keeper_of y ≡ keeper_after_keep k t v = ap keeper_of y_is ∙ (λ j. keeper_after_keep (k_is j) (same j) (v_is j)) in
    subst (λ w. JoinsBy (Keep t) (Keeper k) (Reference v) (Keeper w)) (sym is) (λ g good had ref backs. (keep_joins k t v may g good had ref backs).makes)
