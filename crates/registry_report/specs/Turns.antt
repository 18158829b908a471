-- What each command answers, and what it leaves of the registry.
use Rattle.std.specs.Prelude.{ℕ, zero, suc, ◌+◌, ◌==◌, nat_lt, List, [], ◌∷◌, ◌++◌, length, Option, Some, None, is_none, is_some, Bool, false, not, ◌&&◌, Result, Ok, Err, if◌then◌else◌, ℤ, pos, neg_ℤ, ◌-ℤ◌, ◌-◌, true}
use Rattle.registry_report.specs.Types.{Room, Entry, Record, CorePsref, Refusal, Stage, Key, Attach, Detach, Grace, Passive, Local, Freed}
use Rattle.registry_values.specs.Common.{least_below, stage_of, key_of_record, is_iface, Tally}
use Rattle.registry_values.specs.declared.refusal.Refusal.TheVariants as refusal
use Rattle.registry_values.specs.Answers as answers
use Rattle.protocol.specs.Common.{one_if, after_change, Model, put, with_passive, with_locals}
use Rattle.registry_report.specs.declared.session.Reading.{Reading}
use Rattle.registry_report.specs.declared.hitch.Hitch.{Hitch}
use Rattle.registry_report.specs.declared.hitch.Hitch.TheVariants.{NoLabel, LabelTaken, NotInside, Refused}
use Rattle.registry_report.specs.Registry.{lookup, is_driver_number, value_of, end_of, has_ended, live_entries, may_hold, Registry}

-- What each command answers: by lookups in the history, the first-fit slot, the first obstacle, and who holds what.

-- a call's answer, as a command's
abbrev pub command_answer : {X : Type 0} → Result X Refusal → Result X Hitch
command_answer (Ok x) = Ok x
command_answer (Err f) = Err (Refused f)

-- a refusal, if there is one, else the answer
abbrev pub unless : {X E : Type 0} → Option E → Result X E → Result X E
unless refusal answer = answers.unless refusal answer

abbrev pub is_inside : Registry → ℕ → Bool
is_inside r c = is_some (r.model.sections c)

-- what a lookup answers now
abbrev pub lookup_now : Registry → Key → Option Entry
lookup_now r key = lookup r.model.history key (length r.model.history)

-- Entries

-- a slot without an occupant that keeps nothing, and the least of them
abbrev pub is_available : Registry → ℕ → Bool
is_available r t = is_none (r.model.occupants t) && is_none (r.model.keeps t)

abbrev pub first_fit : Registry → Option ℕ
first_fit r = least_below (is_available r) r.settings.slots

-- what an attach asks of the history
abbrev pub room_of : Registry → Room
room_of r = record { changes = length r.model.history; live = live_entries r.model.history; limit = r.settings.change_limit }

-- the entry that an attach of the record makes
abbrev pub given_entry : Registry → Record → Result Entry Refusal
given_entry r rec = answers.given_entry (is_some (lookup_now r (key_of_record rec))) (first_fit r) (room_of r) rec

abbrev pub attach_answer : Registry → ℕ → Record → Result Entry Refusal
attach_answer r c rec = answers.attach_answer (is_inside r c) (is_iface rec.kind) (given_entry r rec)

-- an interface, on the driver with the number d
abbrev pub attach_iface_answer : Registry → ℕ → Record → ℕ → Result Entry Refusal
attach_iface_answer r c rec d = answers.attach_answer (is_inside r c) (not (is_driver_number r.model.history d)) (given_entry r rec)

-- what follows from a label's reference
abbrev pub with_label : {L X : Type 0} → Option L → (L → Result X Hitch) → Result X Hitch
with_label None f = Err NoLabel
with_label (Some l) f = f l

-- a label that is to be filled has no reference
abbrev pub if_free : {L X : Type 0} → Option L → Result X Hitch → Result X Hitch
if_free None answer = answer
if_free (Some l) answer = Err LabelTaken

abbrev pub plug_answer : Registry → ℕ → Record → ℕ → Result Entry Hitch
plug_answer r c rec x = with_label (r.local_labels x) (λ d. command_answer (attach_iface_answer r c rec d))

abbrev pub detach_answer : Registry → ℕ → Key → Result Entry Refusal
detach_answer r c key = answers.detach_answer (is_inside r c) (lookup_now r key)

-- Sections

abbrev pub may_begin : Registry → ℕ → Bool
may_begin r c = nat_lt (r.begun c) r.settings.section_limit

abbrev pub enter_answer : Registry → ℕ → Result (Unit {0}) Refusal
enter_answer r c = answers.enter_answer (r.depths c) (not (is_inside r c)) (may_begin r c)

-- whether the section stays open
abbrev pub exit_answer : Registry → ℕ → Result Bool Hitch
exit_answer r c = if is_inside r c then Ok (not (r.depths c == 1)) else Err NotInside

abbrev pub find_answer : Registry → ℕ → Key → Result (Option Entry) Hitch
find_answer r c key = if is_inside r c then Ok (lookup_now r key) else Err NotInside

-- Passive references

-- one more of c to n
abbrev pub one_more : Registry → ℕ → ℕ → Result ℕ Refusal
one_more r c n = unless (answers.why_full (r.model.passive c n) r.settings.passive_limit) (Ok n)

-- to what c found last
abbrev pub acquire_answer : Registry → ℕ → Option Entry → Result ℕ Refusal
acquire_answer r c None = Err refusal.NothingFound
acquire_answer r c (Some e) = one_more r c e.number

-- why c may not use a reference
abbrev pub misuse : Registry → ℕ → CorePsref → Option Refusal
misuse r c p = answers.why_unusable (p.cpu == c) (nat_lt 0 (r.model.passive c p.number))

abbrev pub reference_answer : Registry → ℕ → ℕ → Result ℕ Hitch
reference_answer r c a = if_free (r.passive_labels a) (command_answer (acquire_answer r c (r.model.found c)))

abbrev pub copy_answer : Registry → ℕ → ℕ → ℕ → Result ℕ Hitch
copy_answer r c a b = with_label (r.passive_labels a) (λ p. if_free (r.passive_labels b) (command_answer (unless (misuse r c p) (one_more r c p.number))))

abbrev pub held_answer : Registry → ℕ → ℕ → Result Bool Hitch
held_answer r c a = with_label (r.passive_labels a) (λ p. Ok (nat_lt 0 (r.model.passive c p.number)))

abbrev pub reading_of : Registry → ℕ → Reading
reading_of r n = record { number = n; value = value_of r.model.history n }

abbrev pub read_answer : Registry → ℕ → ℕ → Result Reading Hitch
read_answer r c a = with_label (r.passive_labels a) (λ p. command_answer (unless (misuse r c p) (Ok (reading_of r p.number))))

abbrev pub release_answer : Registry → ℕ → ℕ → Result ℕ Hitch
release_answer r c a = with_label (r.passive_labels a) (λ p. command_answer (unless (misuse r c p) (Ok p.number)))

-- Local references

-- why c's own net count for n may not be one more
abbrev pub why_uncounted : Registry → ℕ → ℕ → Option Refusal
why_uncounted r c n = answers.why_uncounted (r.acquired c n) (r.released c n + r.settings.count_limit)

abbrev pub count_of_found : Registry → ℕ → Option Entry → Result ℕ Refusal
count_of_found r c None = Err refusal.NothingFound
count_of_found r c (Some e) = unless (why_uncounted r c e.number) (Ok e.number)

abbrev pub count_answer : Registry → ℕ → ℕ → Result ℕ Hitch
count_answer r c x = if_free (r.local_labels x) (command_answer (count_of_found r c (r.model.found c)))

abbrev pub peek_answer : Registry → ℕ → Result Reading Hitch
peek_answer r x = with_label (r.local_labels x) (λ n. Ok (reading_of r n))

abbrev pub uncount_answer : Registry → ℕ → Result ℕ Hitch
uncount_answer r x = with_label (r.local_labels x) (λ n. Ok n)

-- Destruction

abbrev pub is_this : ℕ → Option ℕ → Bool
is_this n None = false
is_this n (Some m) = m == n

-- how many numbers below a bound pass
abbrev pub count_below : (ℕ → Bool) → ℕ → ℕ
count_below p zero = 0
count_below p (suc n) = count_below p n + one_if (p n)

-- the local references to n, those that slots keep among them
abbrev pub held_count : Registry → ℕ → ℕ
held_count r n = r.model.locals n + count_below (λ t. is_this n (r.model.keeps t)) r.settings.slots

abbrev pub has_section : Registry → ℕ → ℕ → Bool
has_section r n c = may_hold (r.model.sections c) (end_of r.model.history n)

abbrev pub has_passive : Registry → ℕ → ℕ → Bool
has_passive r n c = nat_lt 0 (r.model.passive c n)

-- what stands between the retired entry n in the slot t and the freeing of t
abbrev pub first_obstacle : Registry → ℕ → ℕ → Stage
first_obstacle r n t = stage_of t (least_below (has_section r n) r.settings.cpus) (least_below (has_passive r n) r.settings.cpus) (held_count r n)

-- the slot whose occupant is n
abbrev pub slot_of : Registry → ℕ → Option ℕ
slot_of r n = least_below (λ t. is_this n (r.model.occupants t)) r.settings.slots

abbrev pub retired_slot : Registry → ℕ → Option ℕ
retired_slot r n = if has_ended r.model.history n then slot_of r n else None

abbrev pub stage_in : Registry → ℕ → Option ℕ → Result Stage Refusal
stage_in r n place = answers.stage_in (first_obstacle r n) place

abbrev pub advance_answer : Registry → ℕ → Result Stage Refusal
advance_answer r n = stage_in r n (retired_slot r n)

abbrev pub destroy_answer : Registry → ℕ → ℕ → Result ℕ Refusal
destroy_answer r c n = answers.destroy_answer (is_inside r c) (advance_answer r n)

-- whether the caller is inside a section, else the lowest-numbered CPU that is
abbrev pub perform_answer : Registry → ℕ → Result (Unit {0}) Refusal
perform_answer r c = answers.perform_answer (is_inside r c) (least_below (is_inside r) r.settings.cpus)

-- Audits

-- c's net count for n; nothing once n's counts are collected
abbrev pub net_count : Registry → ℕ → ℕ → ℤ
net_count r n c = if r.is_collected n then pos 0 else pos (r.acquired c n) -ℤ pos (r.released c n)

abbrev pub list_below : {X : Type 0} → (ℕ → X) → ℕ → List X
list_below f zero = []
list_below f (suc n) = list_below f n ++ f n ∷ []

-- what was collected, or what was given up, with a minus
abbrev pub total_of : Registry → ℕ → ℤ
total_of r n = if r.is_collected n then pos (held_count r n) else neg_ℤ (pos (r.given_up n))

abbrev pub tally_of : Registry → ℕ → ℕ → Tally
tally_of r n t = record { number = n; slot = t; held = pos (held_count r n); locals = list_below (net_count r n) r.settings.cpus; total = total_of r n }

abbrev pub tallies_in : Registry → ℕ → Option ℕ → List Tally
tallies_in r t None = []
tallies_in r t (Some n) = tally_of r n t ∷ []

-- of the slots below a number, least first
abbrev pub tallies_below : Registry → ℕ → List Tally
tallies_below r zero = []
tallies_below r (suc t) = tallies_below r t ++ tallies_in r t (r.model.occupants t)

abbrev pub audit_answer : Registry → List Tally
audit_answer r = tallies_below r r.settings.slots

-- What each command leaves: the model's steps, and the labels, depths and tallies beside them.

-- the registry after an answer, and as it was after none
abbrev pub on_ok : {X E : Type 0} → Registry → Result X E → (X → Registry) → Registry
on_ok r (Ok x) f = f x
on_ok r (Err e) f = r

abbrev pub on_some : {X : Type 0} → Registry → Option X → (X → Registry) → Registry
on_some r None f = r
on_some r (Some x) f = f x

abbrev pub with_model : Registry → Model → Registry
with_model r m = record r { model = m }

-- the CPU has seen the whole history
abbrev pub with_all_seen : Model → ℕ → Model
with_all_seen m c = record m { passes = put m.passes c (length m.history) }

abbrev pub with_entry : Model → Entry → Model
with_entry m e = record m { history = after_change m.history (Attach e); occupants = put m.occupants e.slot (Some e.number) }

abbrev pub with_attached : Registry → ℕ → Entry → Registry
with_attached r c e = with_model r (with_all_seen (with_entry r.model e) c)

-- the slot takes a local reference to d over
abbrev pub with_reference_kept : Model → ℕ → ℕ → Model
with_reference_kept m t d = record (with_locals m d (m.locals d - 1)) { keeps = put m.keeps t (Some d) }

abbrev pub with_attached_iface : Registry → ℕ → Entry → ℕ → ℕ → Registry
with_attached_iface r c e x d = record r { model = with_all_seen (with_entry (with_reference_kept r.model e.slot d) e) c; local_labels = put r.local_labels x None }

abbrev pub after_plug : Registry → ℕ → ℕ → Result Entry Hitch → Registry
after_plug r c x answer = on_some r (r.local_labels x) (λ d. on_ok r answer (λ e. with_attached_iface r c e x d))

abbrev pub with_detached : Registry → ℕ → Entry → Registry
with_detached r c e = with_model r (with_all_seen (record r.model { history = after_change r.model.history (Detach e.number) }) c)

-- the section gets deeper, or begins
abbrev pub with_section_begun : Registry → ℕ → Registry
with_section_begun r c = record r {
  model = record (with_all_seen r.model c) { sections = put r.model.sections c (Some (length r.model.history)) };
  depths = put r.depths c 1;
  begun = put r.begun c (r.begun c + 1);
}

abbrev pub with_section_entered : Registry → ℕ → Registry
with_section_entered r c = if is_inside r c then record r { depths = put r.depths c (r.depths c + 1) } else with_section_begun r c

-- the section gets less deep, or ends
abbrev pub with_section_ended : Registry → ℕ → Registry
with_section_ended r c = record r {
  model = record r.model { sections = put r.model.sections c None; found = put r.model.found c None };
  depths = put r.depths c 0;
}

abbrev pub with_section_exited : Registry → ℕ → Bool → Registry
with_section_exited r c true = record r { depths = put r.depths c (r.depths c - 1) }
with_section_exited r c false = with_section_ended r c

abbrev pub with_found : Registry → ℕ → Option Entry → Registry
with_found r c answer = with_model r (record (with_all_seen r.model c) { found = put r.model.found c answer })

-- one passive reference of c to n more, which the label names
abbrev pub with_reference : Registry → ℕ → ℕ → ℕ → Registry
with_reference r c a n = record r {
  model = with_passive r.model c n (r.model.passive c n + 1);
  passive_labels = put r.passive_labels a (Some (record { cpu = c; number = n }));
}

abbrev pub without_reference : Registry → ℕ → ℕ → ℕ → Registry
without_reference r c a n = record r {
  model = with_passive r.model c n (r.model.passive c n - 1);
  passive_labels = put r.passive_labels a None;
}

abbrev pub put_at : {X : Type 0} → (ℕ → ℕ → X) → ℕ → ℕ → X → ℕ → ℕ → X
put_at f c n x = put f c (put (f c) n x)

-- one local reference to n more, counted by c, which the label names
abbrev pub with_one_counted : Registry → ℕ → ℕ → ℕ → Registry
with_one_counted r c x n = record r {
  model = with_locals r.model n (r.model.locals n + 1);
  acquired = put_at r.acquired c n (r.acquired c n + 1);
  local_labels = put r.local_labels x (Some n);
}

-- one less: by c's own count, or, once its counts are collected, under the interlock
abbrev pub with_one_uncounted : Registry → ℕ → ℕ → ℕ → Registry
with_one_uncounted r c x n = record r {
  model = with_locals r.model n (r.model.locals n - 1);
  released = if r.is_collected n then r.released else put_at r.released c n (r.released c n + 1);
  given_up = if r.is_collected n then put r.given_up n (r.given_up n + 1) else r.given_up;
  local_labels = put r.local_labels x None;
}

-- the slot is vacant, and what it kept is given up
abbrev pub with_freed : Registry → ℕ → Option ℕ → Registry
with_freed r t None = with_model r (record r.model { occupants = put r.model.occupants t None })
with_freed r t (Some d) = record r {
  model = record r.model { occupants = put r.model.occupants t None; keeps = put r.model.keeps t None };
  given_up = put r.given_up d (r.given_up d + 1);
}

abbrev pub after_stage : Registry → ℕ → Stage → Registry
after_stage r n (Grace c) = r
after_stage r n (Passive c) = r
after_stage r n (Local k) = record r { is_collected = put r.is_collected n true }
after_stage r n (Freed t) = with_freed r t (r.model.keeps t)

abbrev pub after_advance : Registry → ℕ → Registry
after_advance r n = on_ok r (advance_answer r n) (after_stage r n)

abbrev pub after_destroy : Registry → ℕ → ℕ → Registry
after_destroy r c n = if is_inside r c then r else after_advance r n
