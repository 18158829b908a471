-- Attach, plug and detach are runs of lawful steps, and so is it where the slot of a retired entry is freed.
use Rattle.std.proofs.Common.{◌≡◌, ℕ, suc, ◌<◌, ◌≤◌, length, Option, Some, None, Bool, true, false, is_some, is_none, refl, sym, ap, subst, ◌∙◌, arith, zero, ◌+◌, ◌-◌}
use Rattle.std.specs.Prelude.{Ok, not, if◌then◌else◌}
use Rattle.std.proofs.lemmas.Bool.{and_parts, cases_lt, not-false, both_ways, lt-ltb}
use Rattle.std.proofs.lemmas.Option.{none-some}
use Rattle.registry_report.specs.Types.{Kind, Iface, Driver, Entry, Attach, Detach, Record, Refusal, Inside, NeedsDriver, NotFound, Settings, Key, NotRetired, Stage, Grace, Passive, Local, Freed}
use Rattle.registry_values.specs.Common.{key_of_record, is_iface, is_driver, found_answer, least_below, stage_of}
use Rattle.registry_values.proofs.Answers as answers
use Rattle.registry_values.proofs.Slots.{none_is, least_none}
use Rattle.protocol.specs.Common.{MayHold, keeps_rightly, after_change, IsLegal, IsLiveAt, IsLookup, Model, put, IsDriverHere, Stays, Goes_on, Attaches, Detaches, Sees, EndsAt, with_locals, IsUnheld, Gives_up, Uncounts, Vacates}
use Rattle.protocol.specs.Model.{Keeps}
use Rattle.protocol.proofs.History.{hold_was, hold_old, attached_old, attached_within, ended_within, length-after_change, one_entry}
use Rattle.protocol.proofs.model.RefiningSections.{put_here, put_is, put_other, two_steps}
use Rattle.protocol.proofs.keeps.Linking.{legal_attach, live_cases, new_attached, attached_before, legal_detach, was_there}
use Rattle.protocol.proofs.keeps.SectionKeeps.{none_from, some_from}
use Rattle.protocol.proofs.Either.{either}
use Rattle.protocol.proofs.keeps.Drivers.{is_driver_tells}
use Rattle.passive_core.proofs.Advancing.{least_some}
use Rattle.registry_report.specs.Common.{entry_of, is_driver_entry, is_driver_number, Registry, HasSlot, IsSound, IsSoundModel, IsLawfulTurn, end_of, has_ended, may_hold}
use Rattle.registry_report.specs.Turns
use Rattle.registry_report.proofs.Lookups.{entry_is, lookup_is, end_tells}
use Rattle.registry_report.proofs.sound.Turns.{dropped_counts, else_ok, hitched_ok, idle_turn, labelled_counts, not_ok, ok_turn, put_capped, put_cases, put_none, same_ok, still_there, count_none, is_this_own, is_this_tells, still_beside}

-- One change more

-- a new entry in a vacant slot
attach_keeps : (z : Settings) (m : Model) (labels : ℕ → Option ℕ) (c : ℕ) (e : Entry) → IsSoundModel z m labels → m.occupants e.slot ≡ None → e.number ≡ suc (length m.history)
    → IsLegal (after_change m.history (Attach e)) → IsSoundModel z (Turns.with_all_seen (Turns.with_entry m e) c) labels
attach_keeps z m labels c e on vacant number legal =
    let size : length (after_change m.history (Attach e)) ≡ suc (length m.history) = length-after_change m.history (Attach e) in
    let here : (f : Entry) → f ≡ e → put m.occupants e.slot (Some e.number) f.slot ≡ Some f.number =
    λ f one. subst (λ (g : Entry). put m.occupants e.slot (Some e.number) g.slot ≡ Some g.number) (sym one) (put_here m.occupants e.slot (Some e.number)) in
    record {
      legal = legal;
      live = λ f live. either (live_cases m.history e f number (subst (λ (n : ℕ). IsLiveAt (after_change m.history (Attach e)) n f) size live))
          (λ one. here f one)
          (λ old. still_there m.occupants e.slot f.slot (Some e.number) f.number vacant (on.live f old));
      held = λ d b f in_ hold. either (cases_lt f.number (suc (length m.history)))
          (λ lt. still_there m.occupants e.slot f.slot (Some e.number) f.number vacant (on.held d b f in_ (hold_was m.history (Attach e) b f hold (omega arith))))
          (λ ge.
          let top : f.number ≤ length (after_change m.history (Attach e)) = (attached_within (after_change m.history (Attach e)) f hold.attached).1 in
          here f (one_entry (after_change m.history (Attach e)) f e hold.attached (new_attached m.history (Attach e) e refl number) (omega arith)));
      begun = λ d b in_. let was = on.begun d b in_ in (was.0, omega (arith, was.1));
      seen = put_capped m.passes c (length (after_change m.history (Attach e))) (length m.history) on.seen (omega arith);
      unsearching = on.unsearching;
      last_found = λ d f is. let was = on.last_found d f is in (was.0, was.1, hold_old m.history (Attach e) was.0 f (on.begun d was.0 was.1).1 was.2);
      referring = on.referring;
      keeping = on.keeping;
      labelled = λ x n is. let was = on.labelled x n is in record {
        entry = was.entry;
        attached = attached_old m.history (Attach e) was.entry was.attached;
        numbered = was.numbered;
        occupant = still_there m.occupants e.slot was.entry.slot (Some e.number) n vacant was.occupant;
      };
      counted = on.counted;
    }

-- the end of a live entry
detach_keeps : (z : Settings) (m : Model) (labels : ℕ → Option ℕ) (c : ℕ) (e : Entry) → IsSoundModel z m labels → IsLiveAt m.history (length m.history) e
    → IsSoundModel z (Turns.with_all_seen (record m { history = after_change m.history (Detach e.number) }) c) labels
detach_keeps z m labels c e on live =
    let size : length (after_change m.history (Detach e.number)) ≡ suc (length m.history) = length-after_change m.history (Detach e.number) in
    record {
      legal = legal_detach m.history e on.legal live;
      live = λ f now. on.live f (was_there m.history e f (subst (λ (n : ℕ). IsLiveAt (after_change m.history (Detach e.number)) n f) size now)).0;
      held = λ d b f in_ hold. on.held d b f in_ (hold_was m.history (Detach e.number) b f hold (attached_before m.history e.number f hold.attached).0);
      begun = λ d b in_. let was = on.begun d b in_ in (was.0, omega (arith, was.1));
      seen = put_capped m.passes c (length (after_change m.history (Detach e.number))) (length m.history) on.seen (omega arith);
      unsearching = on.unsearching;
      last_found = λ d f is. let was = on.last_found d f is in (was.0, was.1, hold_old m.history (Detach e.number) was.0 f (on.begun d was.0 was.1).1 was.2);
      referring = on.referring;
      keeping = on.keeping;
      labelled = λ x n is. let was = on.labelled x n is in record {
        entry = was.entry;
        attached = attached_old m.history (Detach e.number) was.entry was.attached;
        numbered = was.numbered;
        occupant = was.occupant;
      };
      counted = on.counted;
    }

-- What an attach that isn't refused tells

record Given (r : Registry) (rec : Record) (e : Entry) : Type 0 where
  new_key : Turns.lookup_now r (key_of_record rec) ≡ None
  within : e.slot < r.settings.slots
  vacant : r.model.occupants e.slot ≡ None
  keepless : r.model.keeps e.slot ≡ None
  number : e.number ≡ suc (length r.model.history)
  is : e.rec ≡ rec

given_tells : (r : Registry) (rec : Record) (e : Entry) → Turns.given_entry r rec ≡ Ok e → Given r rec e
given_tells r rec e is =
    let told = answers.given_tells (is_some (Turns.lookup_now r (key_of_record rec))) (Turns.first_fit r) (Turns.room_of r) rec e is in
    let least = least_some (Turns.is_available r) r.settings.slots e.slot told.place in
    let fit = and_parts (is_none (r.model.occupants e.slot)) (is_none (r.model.keeps e.slot)) least.1 in
    record {
      new_key = none_is (Turns.lookup_now r (key_of_record rec)) told.free;
      within = least.0;
      vacant = none_from (r.model.occupants e.slot) fit.0;
      keepless = none_from (r.model.keeps e.slot) fit.1;
      number = omega (arith, ap (λ (x : Entry). x.number) told.entry);
      is = ap (λ (x : Entry). x.rec) told.entry;
    }

given_legal : (r : Registry) (rec : Record) (e : Entry) → IsSound r → Given r rec e → IsLegal (after_change r.model.history (Attach e))
given_legal r rec e on given =
    let none : IsLookup r.model.history (length r.model.history) (key_of_record rec) None =
    subst (IsLookup r.model.history (length r.model.history) (key_of_record rec)) given.new_key (lookup_is r.model.history on.legal (key_of_record rec) (length r.model.history)) in
    legal_attach r.model.history e on.legal given.number
    (λ f live same. none f live (same ∙ ap key_of_record given.is))
    (λ f live same. none-some f.number (sym given.vacant ∙ (ap r.model.occupants (sym same) ∙ on.live f live)))

driver_from : (k : Kind) → is_iface k ≡ false → is_driver k ≡ true
driver_from Iface is = absurd (let q : ◌≡◌ {A = Bool} true false = is in cc)
driver_from Driver is = refl

-- Attach

pub attached_lawful : (r : Registry) (c : ℕ) (rec : Record) (e : Entry) → IsSound r → Turns.attach_answer r c rec ≡ Ok e → IsLawfulTurn r (Turns.with_attached r c e)
attached_lawful r c rec e on is =
    let outside = else_ok (Turns.is_inside r c) Inside _ e is in
    let driver = else_ok (is_iface rec.kind) NeedsDriver (Turns.given_entry r rec) e outside.1 in
    let given = given_tells r rec e driver.1 in
    let legal = given_legal r rec e on given in
    let rightly : keeps_rightly (r.model.keeps e.slot) e.rec.kind ≡ true =
    ap (λ (o : Option ℕ). keeps_rightly o e.rec.kind) given.keepless ∙ driver_from e.rec.kind (ap (λ (x : Record). is_iface x.kind) given.is ∙ driver.0) in
    let le : r.model.passes c ≤ length (after_change r.model.history (Attach e)) = omega (arith, on.seen c, length-after_change r.model.history (Attach e)) in (
      attach_keeps r.settings r.model r.local_labels c e on given.vacant given.number legal,
      Goes_on (Turns.with_entry r.model e) _ (Goes_on r.model _ Stays (Attaches e given.vacant legal given.number rightly)) (Sees c (length (after_change r.model.history (Attach e))) le (omega arith)),
      refl,
    )

-- Plug

-- a slot takes the reference of a label over
keep_keeps : (z : Settings) (m : Model) (labels : ℕ → Option ℕ) (t x d : ℕ) → IsSoundModel z m labels → t < z.slots → labels x ≡ Some d → IsSoundModel z (Turns.with_reference_kept m t d) (put labels x None)
keep_keeps z m labels t x d on lt at =
    let keeping : (u n : ℕ) → put m.keeps t (Some d) u ≡ Some n → u < z.slots =
    λ u n is. either (put_cases m.keeps t (Some d) u) (λ here. omega (arith, here.0)) (λ off. on.keeping u n (sym off.1 ∙ is)) in
    assumption (λ (y n : ℕ) (is : put labels x None y ≡ Some n). on.labelled y n (put_none labels x y n is).1, dropped_counts labels m.locals x d at on.counted)

-- what a label names, and is a driver by its number, is in its slot
driver_here : (m : Model) (d : ℕ) → HasSlot m.history m.occupants d → is_driver_number m.history d ≡ true → IsDriverHere m d
driver_here m d has is = record {
  entry = has.entry;
  attached = has.attached;
  numbered = has.numbered;
  driver = is_driver_tells has.entry.rec.kind (ap is_driver_entry (sym (ap (entry_of m.history) (sym has.numbered) ∙ entry_is m.history has.entry has.attached)) ∙ is);
  slot = has.entry.slot;
  occupant = has.occupant;
}

pub plugged_lawful : (r : Registry) (c : ℕ) (rec : Record) (x d : ℕ) (e : Entry) → IsSound r → is_iface rec.kind ≡ true → r.local_labels x ≡ Some d → Turns.attach_iface_answer r c rec d ≡ Ok e
    → IsLawfulTurn r (Turns.with_attached_iface r c e x d)
plugged_lawful r c rec x d e on iface at is =
    let outside = else_ok (Turns.is_inside r c) Inside _ e is in
    let driver = else_ok (not (is_driver_number r.model.history d)) NeedsDriver (Turns.given_entry r rec) e outside.1 in
    let given = given_tells r rec e driver.1 in
    let legal = given_legal r rec e on given in
    let here = driver_here r.model d (on.labelled x d at) (not-false (is_driver_number r.model.history d) driver.0) in
    let some : 0 < r.model.locals d = omega (arith, labelled_counts r.local_labels x d at, on.counted d (suc x)) in
    let rightly : keeps_rightly (put r.model.keeps e.slot (Some d) e.slot) e.rec.kind ≡ true =
    ap (λ (o : Option ℕ). keeps_rightly o e.rec.kind) (put_here r.model.keeps e.slot (Some d)) ∙ (ap (λ (y : Record). is_iface y.kind) given.is ∙ iface) in
    let le : r.model.passes c ≤ length (after_change r.model.history (Attach e)) = omega (arith, on.seen c, length-after_change r.model.history (Attach e)) in (
      attach_keeps r.settings (Turns.with_reference_kept r.model e.slot d) (put r.local_labels x None) c e
          (keep_keeps r.settings r.model r.local_labels e.slot x d on given.within at) given.vacant given.number legal,
      Goes_on (Turns.with_entry (Turns.with_reference_kept r.model e.slot d) e) _
          (Goes_on (Turns.with_reference_kept r.model e.slot d) _ (Goes_on r.model _ Stays (Keeps e.slot d given.vacant given.keepless here some)) (Attaches e given.vacant legal given.number rightly))
          (Sees c (length (after_change r.model.history (Attach e))) le (omega arith)),
      refl,
    )

-- a record that is plugged is an interface's
pub plug_by : (r : Registry) (c : ℕ) (rec : Record) (x : ℕ) (o : Option ℕ) → IsSound r → is_iface rec.kind ≡ true → r.local_labels x ≡ o
    → IsLawfulTurn r (Turns.on_some r o (λ d. Turns.on_ok r (Turns.with_label o (λ d. Turns.command_answer (Turns.attach_iface_answer r c rec d))) (λ e. Turns.with_attached_iface r c e x d)))
plug_by r c rec x None on iface at = idle_turn r on
plug_by r c rec x (Some d) on iface at = ok_turn r (Turns.command_answer (Turns.attach_iface_answer r c rec d)) (λ e. Turns.with_attached_iface r c e x d) on
    (λ e is. plugged_lawful r c rec x d e on iface at (hitched_ok (Turns.attach_iface_answer r c rec d) e is))

-- Detach

found_tells : (o : Option Entry) (e : Entry) → found_answer o ≡ Ok e → o ≡ Some e
found_tells None e is = absurd (not_ok NotFound e is)
found_tells (Some f) e is = ap (λ (g : Entry). Some g) (same_ok {E = Refusal} f e is)

pub detached_lawful : (r : Registry) (c : ℕ) (key : Key) (e : Entry) → IsSound r → Turns.detach_answer r c key ≡ Ok e → IsLawfulTurn r (Turns.with_detached r c e)
detached_lawful r c key e on is =
    let outside = else_ok (Turns.is_inside r c) Inside (found_answer (Turns.lookup_now r key)) e is in
    let found : IsLookup r.model.history (length r.model.history) key (Some e) =
    subst (IsLookup r.model.history (length r.model.history) key) (found_tells (Turns.lookup_now r key) e outside.1) (lookup_is r.model.history on.legal key (length r.model.history)) in
    let le : r.model.passes c ≤ length (after_change r.model.history (Detach e.number)) = omega (arith, on.seen c, length-after_change r.model.history (Detach e.number)) in (
      detach_keeps r.settings r.model r.local_labels c e on found.0,
      Goes_on (record r.model { history = after_change r.model.history (Detach e.number) }) _ (Goes_on r.model _ Stays (Detaches e.number (legal_detach r.model.history e on.legal found.0)))
          (Sees c (length (after_change r.model.history (Detach e.number))) le (omega arith)),
      refl,
    )

-- If nothing is in the way of a retired entry, its slot is freed by lawful steps.

-- What a stage tells

freed_tells : (t u : ℕ) (a b : Option ℕ) (k : ℕ) → stage_of t a b k ≡ Freed u → (a ≡ None) × (b ≡ None) × (k ≡ 0) × (t ≡ u)
freed_tells t u (Some c) b k is = absurd (let q : Grace c ≡ Freed u = is in cc)
freed_tells t u None (Some c) k is = absurd (let q : Passive c ≡ Freed u = is in cc)
freed_tells t u None None zero is = (refl, refl, refl, (let q : Freed t ≡ Freed u = is in cc))
freed_tells t u None None (suc k) is = absurd (let q : Local (suc k) ≡ Freed u = is in cc)

-- the entry n is retired, its slot is t, and nothing holds it
record IsFree (r : Registry) (n t : ℕ) : Type 0 where
  position : ℕ
  ends : EndsAt r.model.history n position
  occupant : r.model.occupants t ≡ Some n
  unheld : IsUnheld r.model n

-- no section may hold an entry that ended if each such section would be in the way
unheld_from : (r : Registry) (n t p : ℕ) → IsSound r → end_of r.model.history n ≡ Some p → EndsAt r.model.history n p → Turns.first_obstacle r n t ≡ Freed t → IsUnheld r.model n
unheld_from r n t p on end ends stage =
    let none = freed_tells t t (least_below (Turns.has_section r n) r.settings.cpus) (least_below (Turns.has_passive r n) r.settings.cpus) (Turns.held_count r n) stage in
    record {
      sections = λ c b e in_ hold same.
          let off : Turns.has_section r n c ≡ false = least_none (Turns.has_section r n) r.settings.cpus none.0 c (on.begun c b in_).0 in
          let late : b < p = hold.unended p (subst (λ (k : ℕ). EndsAt r.model.history k p) (sym same) ends) in
          let holds : Turns.has_section r n c ≡ true = ap (λ (o : Option ℕ). may_hold o (end_of r.model.history n)) in_ ∙ (ap (may_hold (Some b)) end ∙ lt-ltb b p late) in
          both_ways (Turns.has_section r n c) off holds;
      passive = λ c. either (cases_lt 0 (r.model.passive c n))
          (λ some.
          let off : Turns.has_passive r n c ≡ false = least_none (Turns.has_passive r n) r.settings.cpus none.1 c (on.referring c n some) in
          absurd (both_ways (Turns.has_passive r n c) off (lt-ltb 0 (r.model.passive c n) some)))
          (λ no. omega arith);
      locals = omega (arith, none.2);
      keeps = λ u is.
          let off : Turns.is_this n (r.model.keeps u) ≡ false = count_none (λ t. Turns.is_this n (r.model.keeps t)) r.settings.slots u (omega (arith, none.2)) (on.keeping u n is) in
          both_ways (Turns.is_this n (r.model.keeps u)) off (ap (Turns.is_this n) is ∙ is_this_own n);
    }

retired_tells : (b : Bool) (o : Option ℕ) (t : ℕ) → (if b then o else None) ≡ Some t → (b ≡ true) × (o ≡ Some t)
retired_tells true o t is = (refl, is)
retired_tells false o t is = absurd (none-some t is)

stage_tells : (r : Registry) (n : ℕ) (o : Option ℕ) (stage : Stage) → Turns.stage_in r n o ≡ Ok stage → (t : ℕ) × (o ≡ Some t) × (Turns.first_obstacle r n t ≡ stage)
stage_tells r n None stage is = absurd (not_ok NotRetired stage is)
stage_tells r n (Some t) stage is = (t, refl, same_ok {E = Refusal} (Turns.first_obstacle r n t) stage is)

free_tells : (r : Registry) (n t : ℕ) → IsSound r → Turns.advance_answer r n ≡ Ok (Freed t) → IsFree r n t
free_tells r n t on is =
    let at = stage_tells r n (Turns.retired_slot r n) (Freed t) is in
    let own : at.0 ≡ t = (freed_tells at.0 t (least_below (Turns.has_section r n) r.settings.cpus) (least_below (Turns.has_passive r n) r.settings.cpus) (Turns.held_count r n) at.2).3 in
    let retired = retired_tells (has_ended r.model.history n) (Turns.slot_of r n) at.0 at.1 in
    let end = some_from (end_of r.model.history n) retired.0 in
    let ends : EndsAt r.model.history n end.0 = end_tells r.model.history n end.0 end.1 in
    let found = least_some (λ u. Turns.is_this n (r.model.occupants u)) r.settings.slots at.0 retired.1 in
    record {
      position = end.0;
      ends = ends;
      occupant = ap r.model.occupants (sym own) ∙ is_this_tells n (r.model.occupants at.0) found.1;
      unheld = unheld_from r n t end.0 on end.1 ends (subst (λ (u : ℕ). Turns.first_obstacle r n u ≡ Freed t) own at.2);
    }

-- What freeing keeps

-- the slot t is vacant, where no live, held or labelled entry stood in it
vacate_keeps : (z : Settings) (m : Model) (labels : ℕ → Option ℕ) (t n p : ℕ) (keeps : ℕ → Option ℕ) → IsSoundModel z m labels → m.occupants t ≡ Some n → EndsAt m.history n p → IsUnheld m n
    → ((u d : ℕ) → keeps u ≡ Some d → m.keeps u ≡ Some d) → IsSoundModel z (record m { occupants = put m.occupants t None; keeps = keeps }) labels
vacate_keeps z m labels t n p keeps on at ends unheld kept =
    let live : (e : Entry) → IsLiveAt m.history (length m.history) e → put m.occupants t None e.slot ≡ Some e.number =
    λ e live. still_beside m.occupants t e.slot n e.number at (on.live e live)
    (λ same. let late = live.unended p (subst (λ (k : ℕ). EndsAt m.history k p) (sym same) ends) in omega (arith, late, (ended_within m.history n p ends).1)) in
    let held : (c b : ℕ) (e : Entry) → m.sections c ≡ Some b → MayHold m.history b e → put m.occupants t None e.slot ≡ Some e.number =
    λ c b e in_ hold. still_beside m.occupants t e.slot n e.number at (on.held c b e in_ hold) (λ same. unheld.sections c b e in_ hold same) in
    let labelled : (x k : ℕ) → labels x ≡ Some k → HasSlot m.history (put m.occupants t None) k = λ x k is.
    let was = on.labelled x k is in
    let there = still_beside m.occupants t was.entry.slot n k at was.occupant (λ same. omega (arith, labelled_counts labels x k is, on.counted k (suc x), ap m.locals same, unheld.locals)) in
    record { entry = was.entry; attached = was.attached; numbered = was.numbered; occupant = there } in
    assumption (λ (u d : ℕ) (is : keeps u ≡ Some d). on.keeping u d (kept u d is))

-- Freed

freed_by : (r : Registry) (n t : ℕ) (o : Option ℕ) → IsSound r → IsFree r n t → r.model.keeps t ≡ o → IsLawfulTurn r (Turns.with_freed r t o)
freed_by r n t None on free at = (
  vacate_keeps r.settings r.model r.local_labels t n free.position r.model.keeps on free.occupant free.ends free.unheld (λ u d is. is),
  Goes_on r.model _ Stays (Vacates t n free.position free.occupant free.ends free.unheld at),
  refl,
)
freed_by r n t (Some d) on free at =
    let m : Model = r.model in
    let given : Model = record (with_locals m d (m.locals d + 1)) { occupants = put m.occupants t None; keeps = put m.keeps t None } in
    let more : put m.locals d (m.locals d + 1) d ≡ m.locals d + 1 = put_here m.locals d (m.locals d + 1) in (
      vacate_keeps r.settings r.model r.local_labels t n free.position (put m.keeps t None) on free.occupant free.ends free.unheld (λ u k is. (put_none m.keeps t u k is).1),
      two_steps m given (with_locals given d (given.locals d - 1)) (Turns.with_freed r t (Some d)).model (Gives_up t n free.position d free.occupant free.ends free.unheld at)
          (Uncounts d (omega (arith, more)))
          (assumption (put_is (put m.locals d (m.locals d + 1)) m.locals d (put m.locals d (m.locals d + 1) d - 1) (omega (arith, more)) (λ j off. put_other m.locals d (m.locals d + 1) j off))),
      refl,
    )

pub staged_lawful : (r : Registry) (n : ℕ) (stage : Stage) → IsSound r → Turns.advance_answer r n ≡ Ok stage → IsLawfulTurn r (Turns.after_stage r n stage)
staged_lawful r n (Local k) on is = (on, Stays, refl)
staged_lawful r n (Freed t) on is = freed_by r n t (r.model.keeps t) on (free_tells r n t on is) refl
staged_lawful r n _ on is = idle_turn r on

pub advance_turn : (r : Registry) (n : ℕ) → IsSound r → IsLawfulTurn r (Turns.after_advance r n)
advance_turn r n on = ok_turn r (Turns.advance_answer r n) (Turns.after_stage r n) on (λ stage is. staged_lawful r n stage on is)

pub destroyed_by : (r : Registry) (n : ℕ) (b : Bool) → IsSound r → IsLawfulTurn r (if b then r else Turns.after_advance r n)
destroyed_by r n true on = idle_turn r on
destroyed_by r n false on = advance_turn r n on
