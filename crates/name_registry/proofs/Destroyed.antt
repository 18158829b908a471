-- Destroying: what a turn tells the caller's CPU, what is kept of all turns, and the end of a registry.
use Rattle.cpu_words.proofs.laws.Freed.{freed_by_keeper, freed_is_gone}
use Rattle.name_registry.specs.Destroying.{StaysGone}
use Rattle.std.proofs.Common.{◌≡◌, ◌∙◌, ⊎_elim, ℕ, ◌<◌, ◌&&◌, Bool, true, List, [], ◌∷◌, ◌++◌, length, Some, None, Result, Ok, Err, eq-eqb, refl, sym, ap, subst, append-nil, append_assoc, arith, zero, suc, ◌≤◌, false, inl, IfOk, IfErr}
use Rattle.std.proofs.lemmas.List.{length-append}
use Rattle.std.proofs.lemmas.Option.{none-some, same_Some}
use mathlib.Core.List.{IsPrefix}
use Rattle.name_registry.specs.Types.{Change, Entry, Refusal, Settings, Slot, Vacant, Live, Retired, Stage, Grace, Passive, Local, Freed, Mark, Hear, KeptSub, Tell, Vacate, Done, Rest, LogItem, CpuView, KeeperView, Keeper, Inside, NotRetired}
use Rattle.registry_values.specs.Common.{is_retired, is_retired_as, retired_slot, slot_at, IsObstacle, destroy_result_of}
use Rattle.registry_values.proofs.Slots.{retired_slot_tells}
use Rattle.protocol.specs.Common.{addition_due_at, is_adding_at, subtraction_due_at, State, count_at, mark_at, total_at}
use Rattle.protocol.proofs.keeps.Linking.{within_retired}
use Rattle.protocol.proofs.Cells.{position_fails}
use Rattle.cpu_words.specs.Common.{has_looked, has_looked_passive, is_drawn, occupant, occupant_of, word_if, IsFreedFrom, keeper_with_note, did, part, HasClosed}
use Rattle.cpu_words.proofs.by_keeper.KeeperSteps.{seen_by_keeper}
use Rattle.cpu_words.proofs.logs.Slots.{not_attached}
use Rattle.cpu_words.proofs.laws.Freed.{ended_runs}
use Rattle.cpu_words.proofs.shown.Seeing.{prefix_both}
use Rattle.passive_list.specs.Common.{OnCpu, OnKeeper, HasOwnLog, HasHeardOn, as_teller, cpu_after_tell, has_heard, has_told}
use Rattle.passive_list.proofs.Walking.{prefix_length}
use Rattle.local_count.specs.Draining.{HasFreed}
use Rattle.name_registry.specs.Common.{EndsIn, HasAdvanced, HasEnded, Meets, HasAdvancedFor, hears_cpu, keeper_after_hear, keeper_after_tell, AnswersBy, IsNotRetired, IsRetiredIn, IsTurn, IsGoneIfFreed, Destroys, DestroysOutside, HasDestroyed, LastMeeting, SomeAdvancedFor, TurnsMeeting, IsDestroyRefusal, HasLearned, IsDestroyAnswer, ClosesRun, StaysGoneBy, tells_and_hears}
use Rattle.name_registry.specs.Destroying
use Rattle.name_registry.proofs.Noted.{heard_told_again, met_again, learned, by_meeting_again}
use Rattle.name_registry.proofs.Waited.{Learns, learns_none, learns_more}

-- What a turn of a destroy tells the caller's CPU, by the keeper's log.

-- What is retired, by the keeper and by its log

retired_in_log : (z : Settings) (a : OnKeeper) (t n : ℕ) (e : Entry) → HasOwnLog z a → slot_at a.slots t ≡ Retired e → e.number ≡ n → IsRetiredIn t n a.log
retired_in_log z a t n e own at same = subst (λ (m : ℕ). IsRetiredIn t m a.log) same (own.occupants t ∙ ap occupant_of at, own.slots.retired t e at)

not_retired : (z : Settings) (a : OnKeeper) (n : ℕ) → HasOwnLog z a → retired_slot a.slots n ≡ None → IsNotRetired n a.log
not_retired z a n own none t is = by (slot_at a.slots t) refl
  where
    by : (x : Slot) → slot_at a.slots t ≡ x → ⊥
    by Vacant at = none-some n (sym (own.occupants t ∙ ap occupant_of at) ∙ is.0)
    by (Live e) at = not_attached t n e.number a.log is.1 (own.slots.live t e at)
    by (Retired e) at =
        let same : e.number ≡ n = same_Some e.number n (sym (own.occupants t ∙ ap occupant_of at) ∙ is.0) in
        position_fails (is_retired_as n) a.slots t Vacant none (within_retired a.slots t e at) (ap (is_retired_as n) at ∙ eq-eqb e.number n same)

-- What was met

-- the last item is the one that ends the log, and was made since the turn began
ends_in : (begin old new : List LogItem) (d : LogItem) → IsPrefix begin old → EndsIn old d new → (before : List LogItem) × IsPrefix begin before × (new ≡ before ++ d ∷ [])
ends_in begin old new d from ends = (old ++ ends.0, prefix_both _ _ _ from (ends.0, refl), ends.1)

met_section : (z : Settings) (a b : OnKeeper) (t c : ℕ) (begin : List LogItem) → HasOwnLog z b → IsPrefix begin a.log → Destroying.MeetsGrace a t c b → Destroying.MetSection t c begin b.log
met_section z a b t c begin own from meets =
    let last = ends_in begin a.log b.log (has_looked t c meets.sees.word) from meets.sees.log in
    search (last.1, last.2, meets.sees.odd, own.marks.snapped t c meets.sees.word meets.sees.snapshot, λ (d : ℕ) (lt : d < c). own.marks.passed t d (meets.lesser d lt))

met_reference : (z : Settings) (a b : OnKeeper) (t c : ℕ) (begin : List LogItem) → HasOwnLog z b → IsPrefix begin a.log → Destroying.MeetsPassive a t c b → Destroying.MetReference z.cpus t c begin b.log
met_reference z a b t c begin own from meets =
    let last = ends_in begin a.log b.log (has_looked_passive t c meets.sees.word) from meets.sees.log in
    search (last.1, last.2, meets.sees.some, λ (d : ℕ) (lt : d < z.cpus). own.marks.passed t d (meets.passed d (subst (λ (s : Settings). d < s.cpus) (sym own.settings) lt)))

met_locals : (z : Settings) (a b : OnKeeper) (t n k : ℕ) (e : Entry) → HasOwnLog z b → slot_at a.slots t ≡ Retired e → e.number ≡ n → Destroying.MeetsLocal a t k b → Destroying.MetLocals z.cpus t n k b.log
met_locals z a b t n k e own at same meets =
    let s = own.counts.1 in
    let g : State = s.g in
    let seen = seen_by_keeper g (keeper_with_note b.view own.counts.0) s.good s.shown in
    let occupied : occupant t b.log ≡ Some n = own.occupants t ∙ ap occupant_of (ap (λ (l : List Slot). slot_at l t) meets.leaves.slots ∙ at) ∙ ap (λ (m : ℕ). Some m) same in
    let gone : is_retired (slot_at g.slots t) ≡ true = ap is_retired (ap (λ (l : List Slot). slot_at l t) (sym seen.slots) ∙ meets.held.retired) in
    let due : g.due ≡ Rest = sym seen.due ∙ own.rest in
    let adding : addition_due_at t g.due ≡ 0 = ap (addition_due_at t) due in
    let subtracting : subtraction_due_at t g.due ≡ 0 = ap (subtraction_due_at t) due in
    let totals : total_at b.view.totals t ≡ total_at g.totals t = ap (λ (l : List ℕ). total_at l t) seen.totals in
    let low : (d : ℕ) → d < z.cpus → d < b.view.settings.cpus = λ d lt. subst (λ (y : Settings). d < y.cpus) (sym own.settings) lt in
    record {
      some = meets.some;
      collected = λ d lt.
          let drawn : is_drawn g t d ≡ true = let marked = ap (λ (ms : List (List Mark)). (mark_at ms t d).collected) (sym seen.marks) ∙ meets.collected d (low d lt) in λ i. gone i && marked i in
          (count_at g.nets d t, s.counts.words t d ∙ ap (λ (y : Bool). word_if y (count_at g.nets d t)) drawn);
      left = let total = s.totals.total t n occupied in let held = meets.total in omega (arith, total, held, totals, adding, ap (is_adding_at t) due, subtracting);
      passed = λ d lt. own.marks.passed t d (meets.passed d (low d lt));
    }

pub ended_freed : (m : OnKeeper) (t : ℕ) (b : OnKeeper) (e : Entry) → HasEnded m t b → slot_at m.slots t ≡ Retired e → IsFreedFrom t e.number b.log
ended_freed m t b e ended at = ⊎_elim (λ v. v.1.freed e at) (λ (f : HasFreed m t b). f.freed e at) ended

has_met : (z : Settings) (a b : OnKeeper) (t n : ℕ) (e : Entry) (begin : List LogItem) (stage : Stage) → HasOwnLog z b → IsPrefix begin a.log → slot_at a.slots t ≡ Retired e → e.number ≡ n
    → Meets a t stage b → Destroying.HasMet z.cpus t n stage begin b.log
has_met z a b t n e begin (Grace c) own from at same meets = met_section z a b t c begin own from meets
has_met z a b t n e begin (Passive c) own from at same meets = met_reference z a b t c begin own from meets
has_met z a b t n e begin (Local k) own from at same meets = met_locals z a b t n k e own at same meets
has_met z a b t n e begin (Freed u) own from at same meets =
    (meets.0, subst (λ (j : ℕ). IsFreedFrom t j b.log) same (ended_freed meets.1.between t b e meets.1.ended (ap (λ (l : List Slot). slot_at l t) meets.1.leaves.slots ∙ at)))

-- The log goes on

ended_on : (m : OnKeeper) (t : ℕ) (b : OnKeeper) → HasEnded m t b → IsPrefix m.log b.log
ended_on m t b ended = ⊎_elim
    (λ v. (did (Vacate t) Done ++ did (Hear None) Done, sym (append_assoc m.log (did (Vacate t) Done) (did (Hear None) Done)) ∙ sym v.1.log))
    (λ (f : HasFreed m t b). (did (KeptSub t) Done, sym f.log))
    ended

meets_on : (a : OnKeeper) (t : ℕ) (stage : Stage) (b : OnKeeper) → Meets a t stage b → IsPrefix a.log b.log
meets_on a t (Grace c) b meets = meets.leaves.worked.log
meets_on a t (Passive c) b meets = meets.leaves.worked.log
meets_on a t (Local n) b meets = meets.leaves.log
meets_on a t (Freed u) b meets = prefix_both _ _ _ meets.1.leaves.log (ended_on meets.1.between t b meets.1.ended)

advanced_on : (a : OnKeeper) (n : ℕ) (answer : Result Stage Refusal) (b : OnKeeper) → HasAdvanced a n answer b → IsPrefix a.log b.log
advanced_on a n (Ok stage) b has = meets_on a has.0 stage b has.2
advanced_on a n (Err refusal) b has = ([], append-nil a.log ∙ ap (λ (k : OnKeeper). k.log) (sym has.2))

-- The turn

answers_by : (z : Settings) (a h b : OnKeeper) (n : ℕ) (answer : Result Stage Refusal) → HasOwnLog z a → HasOwnLog z b → h.slots ≡ a.slots → IsPrefix a.log h.log → HasAdvanced h n answer b
    → AnswersBy z.cpus n answer a.log b.log
answers_by z a h b n (Ok stage) own end slots from has =
    let told = (retired_slot_tells h.slots n has.0 has.1).1 in
    (has.0, retired_in_log z a has.0 n told.0 own (ap (λ (l : List Slot). slot_at l has.0) (sym slots) ∙ told.1) told.2, has_met z h b has.0 n told.0 a.log stage end from told.1 told.2 has.2)
answers_by z a h b n (Err refusal) own end slots from has = (has.0, not_retired z a n own (ap (λ (l : List Slot). retired_slot l n) (sym slots) ∙ has.1))

-- what the CPU hears has the keeper's log as the turn ended
told_end : (a b : OnKeeper) (x y : OnCpu) → b ≡ keeper_after_tell (keeper_after_hear a (cpu_after_tell x)) → IsPrefix b.log y.known_log → IsPrefix a.log y.known_log
told_end a b x y is told =
    let hear : List LogItem = hears_cpu (cpu_after_tell x) in
    let log : b.log ≡ a.log ++ (hear ++ did (Tell None) Done) = ap (λ (k : OnKeeper). k.log) is ∙ append_assoc a.log hear (did (Tell None) Done) in
    prefix_both _ _ _ (hear ++ did (Tell None) Done, sym log) told

pub told_turn : (z : Settings) (a : OnKeeper) (x : OnCpu) (n : ℕ) (answer : Result Stage Refusal) (b : OnKeeper) (y : OnCpu) → HasAdvancedFor z a x n answer b y → IsTurn z n x answer y
told_turn z a x n answer b y has = record {
  begin = a.log;
  log = has.end.log;
  known = has.known;
  seen = has.seen;
  on = prefix_both _ _ _ (hears_cpu x, refl) (advanced_on (keeper_after_hear a x) n answer has.end has.made);
  heard = record { teller = as_teller x; cpu = refl; later = omega arith; heard = advanced_on (keeper_after_hear a x) n answer has.end has.made };
  told = told_end has.end b x y has.is has.told;
  answers = answers_by z a (keeper_after_hear a x) has.end n answer has.own has.own_end refl (hears_cpu x, refl) has.made;
}

-- the steps of one, put together
pub made_turn : (z : Settings) (a h end k b : OnKeeper) (x same after y : OnCpu) (n : ℕ) (answer : Result Stage Refusal) → IsPrefix x.known_log a.log → IsPrefix x.view.pass h.view.history
    → HasOwnLog z a → h ≡ keeper_after_hear a x → same ≡ cpu_after_tell x
    → HasAdvanced h n answer end → HasOwnLog z end → k ≡ keeper_after_hear end same → after ≡ cpu_after_tell same → b ≡ keeper_after_tell k → HasHeardOn k.view.history after y
    → IsPrefix b.log y.known_log → y.log ≡ after.log ++ has_heard after None → HasAdvancedFor z a x n answer b y
made_turn z a h end k b x same after y n answer known seen own heard first made own_end again second is hears told log = record {
  known = known;
  seen =
      let history : h.view.history ≡ a.view.history = ap (λ (o : OnKeeper). o.view.history) heard in
      omega (arith, ap (λ (l : List Change). length l) (sym seen.1) ∙ length-append x.view.pass seen.0, ap (λ (l : List Change). length l) history, own.changes);
  own = own;
  end = end;
  made = subst (λ (o : OnKeeper). HasAdvanced o n answer end) heard made;
  own_end = own_end;
  is = is ∙ ap keeper_after_tell (again ∙ ap (keeper_after_hear end) first);
  hears = heard_told_again end.view.history x y (subst (λ (o : OnCpu). HasHeardOn end.view.history o y) (second ∙ ap cpu_after_tell first)
      (subst (λ (l : List Change). HasHeardOn l after y) (ap (λ (o : OnKeeper). o.view.history) again) hears));
  told = told;
  cpu_log = met_again x same after y first second log;
}

-- What a caller keeps of the turns of a destroy, though nothing is known of the keeper between them.

unfreed : (stage : Stage) → ((t : ℕ) → stage ≡ Freed t → ⊥) → IsObstacle stage
unfreed (Grace c) not = tt
unfreed (Passive c) not = tt
unfreed (Local n) not = tt
unfreed (Freed t) not = absurd (not t refl)

-- the turn after an obstacle found nothing retired: its refusal is the answer
pub ends_unretired : {X : Type 0} (turn : X → Result Stage Refusal → X → Type 0) (n turns : ℕ) (x z y : X) (stage : Stage) (refusal : Refusal) (answer : Result ℕ Refusal)
    → suc n < turns → LastMeeting turn n x (Ok stage) z → ((t : ℕ) → stage ≡ Freed t → ⊥) → turn z (Err refusal) y → answer ≡ Err refusal → Destroys turn turns x answer y
ends_unretired turn n turns x z y stage refusal answer few last not made told = record {
  earlier = suc n;
  few = few;
  met = Err refusal;
  last = (z, (last.0, Ok stage, last.1, last.2, unfreed stage not), made);
  enough = inl (λ bad. bad);
  told = told;
}

-- by the last turn's answer

met_freed : (z : Settings) (number : ℕ) (x y : OnCpu) (met : Result Stage Refusal) → SomeAdvancedFor z number x met y → IfOk (destroy_result_of met) (λ t. t < z.slots)
met_freed z number x y (Ok (Grace c)) is = tt
met_freed z number x y (Ok (Passive c)) is = tt
met_freed z number x y (Ok (Local n)) is = tt
met_freed z number x y (Ok (Freed t)) is = is.1
met_freed z number x y (Err refusal) is = tt

met_refused : (z : Settings) (number : ℕ) (x y : OnCpu) (met : Result Stage Refusal) → SomeAdvancedFor z number x met y → IfErr (destroy_result_of met) (λ f. IsDestroyRefusal z false f)
met_refused z number x y (Ok (Grace c)) is = (refl, is.1, tt)
met_refused z number x y (Ok (Passive c)) is = (refl, is.1, tt)
met_refused z number x y (Ok (Local n)) is = (refl, is.1, tt)
met_refused z number x y (Ok (Freed t)) is = tt
met_refused z number x y (Err refusal) is = subst (λ (f : Refusal). IsDestroyRefusal z false f) (sym is.0.2.made.0) refl

pub destroyed_small : (z : Settings) (number turns : ℕ) (inside : Bool) (x y : OnCpu) (answer : Result ℕ Refusal) → inside ≡ false → HasDestroyed z number turns x answer y
    → IfOk answer (λ t. (inside ≡ false) × (t < z.slots))
destroyed_small z number turns inside x y (Ok t) out is =
    let small = subst (λ (r : Result ℕ Refusal). IfOk r (λ u. u < z.slots)) (sym is.told) (met_freed z number is.last.0 y is.met is.last.2) in (out, small)
destroyed_small z number turns inside x y (Err refusal) out is = tt

pub destroyed_refused : (z : Settings) (number turns : ℕ) (inside : Bool) (x y : OnCpu) (answer : Result ℕ Refusal) → inside ≡ false → HasDestroyed z number turns x answer y
    → IfErr answer (λ f. IsDestroyRefusal z inside f)
destroyed_refused z number turns inside x y answer out is =
    subst (λ (b : Bool). IfErr answer (λ f. IsDestroyRefusal z b f)) (sym out)
    (subst (λ (r : Result ℕ Refusal). IfErr r (λ f. IsDestroyRefusal z false f)) (sym is.told) (met_refused z number is.last.0 y is.met is.last.2))

pub destroys_outside : (z : Settings) (number turns : ℕ) (inside : Bool) (x y : OnCpu) (answer : Result ℕ Refusal) → inside ≡ false → HasDestroyed z number turns x answer y
    → DestroysOutside z number turns inside x answer y
destroys_outside z number turns inside x y answer out is = subst (λ (b : Bool). DestroysOutside z number turns b x answer y) (sym out) is

pub destroys_inside : (z : Settings) (number turns : ℕ) (inside : Bool) (x : OnCpu) → inside ≡ true → DestroysOutside z number turns inside x (Err Inside) x
destroys_inside z number turns inside x in_ = subst (λ (b : Bool). DestroysOutside z number turns b x (Err Inside) x) (sym in_) (refl, refl)

-- What the CPU knows then: the entry is gone from its slot

pub freed_more : (t n : ℕ) (log later : List LogItem) → IsPrefix log later → IsFreedFrom t n log → IsFreedFrom t n later
freed_more t n log later pre is =
    search (sym pre.1 ∙ (ap (λ (l : List LogItem). l ++ pre.0) is.are ∙ append_assoc is.before (is.item ∷ is.after) pre.0), is.detached, is.freed)

pub advanced_freed : (a : OnKeeper) (n t : ℕ) (b : OnKeeper) → HasAdvanced a n (Ok (Freed t)) b → IsFreedFrom t n b.log
advanced_freed a n t b has =
    let meets = has.2.1 in
    let told = (retired_slot_tells a.slots n has.0 has.1).1 in
    let freed : IsFreedFrom has.0 told.0.number b.log = ended_freed meets.between has.0 b told.0 meets.ended (ap (λ (l : List Slot). slot_at l has.0) meets.leaves.slots ∙ told.1) in
    subst (λ (p : ℕ × ℕ). IsFreedFrom p.0 p.1 b.log) (λ k. (sym has.2.0 k, told.2 k)) freed

pub advanced_gone : (a : OnKeeper) (n : ℕ) (r : Result Stage Refusal) (b : OnKeeper) → HasAdvanced a n r b → IsGoneIfFreed n r b.log
advanced_gone a n (Ok (Grace c)) b is = tt
advanced_gone a n (Ok (Passive c)) b is = tt
advanced_gone a n (Ok (Local k)) b is = tt
advanced_gone a n (Ok (Freed t)) b is = advanced_freed a n t b is
advanced_gone a n (Err refusal) b is = tt

pub met_gone : (z : Settings) (n : ℕ) (x y : OnCpu) (met : Result Stage Refusal) → SomeAdvancedFor z n x met y → IfOk (destroy_result_of met) (λ t. IsFreedFrom t n y.known_log)
met_gone z n x y (Ok (Grace c)) is = tt
met_gone z n x y (Ok (Passive c)) is = tt
met_gone z n x y (Ok (Local k)) is = tt
met_gone z n x y (Ok (Freed t)) is =
    let turn = is.2 in
    freed_more t n turn.log y.known_log turn.told (subst (λ (u : ℕ). IsFreedFrom u n turn.log) (sym turn.answers.2.0) turn.answers.2.1)
met_gone z n x y (Err refusal) is = tt

pub destroyed_gone : (z : Settings) (n turns : ℕ) (x y : OnCpu) (answer : Result ℕ Refusal) → HasDestroyed z n turns x answer y → IfOk answer (λ t. IsFreedFrom t n y.known_log)
destroyed_gone z n turns x y answer is = subst (λ (r : Result ℕ Refusal). IfOk r (λ t. IsFreedFrom t n y.known_log)) (sym is.told) (met_gone z n is.last.0 y is.met is.last.2)

pub destroyed_forever : (z : Settings) (n turns : ℕ) (x y : OnCpu) (answer : Result ℕ Refusal) → HasDestroyed z n turns x answer y → IfOk answer (λ t. StaysGone z t n y)
destroyed_forever z n turns x y (Ok t) is = λ s i l ruled at more. freed_is_gone z s i l t n ruled at (freed_more t n y.known_log l.known_log more (destroyed_gone z n turns x y (Ok t) is))
destroyed_forever z n turns x y (Err f) is = tt

-- the same of whoever has the keeper's log
pub stays_gone : (z : Settings) (t n : ℕ) (log : List LogItem) → IsFreedFrom t n log → StaysGoneBy z t n log
stays_gone z t n log is s i l ruled at has = ⊎_elim
    (λ (heard : IsPrefix log l.known_log). freed_is_gone z s i l t n ruled at (freed_more t n log l.known_log heard is))
    (λ (own : (k : KeeperView) × (l.view ≡ Keeper k) × IsPrefix log l.log). freed_by_keeper z s i l own.0 t n ruled at own.1 (freed_more t n log l.log own.2 is))
    has

-- What else changed of the CPU

learns_turn : (z : Settings) (n : ℕ) (x y : OnCpu) (met : Result Stage Refusal) → SomeAdvancedFor z n x met y → Learns x y
learns_turn z n x y met is = (learned is.0.2.end.view.history x y is.0.2.hears (by_meeting_again x y is.0.2.cpu_log), ap (λ (o : OnCpu). o.made) is.0.2.hears.is)

learns_meeting : (z : Settings) (n turns : ℕ) (x y : OnCpu) → TurnsMeeting (SomeAdvancedFor z n) turns x y → Learns x y
learns_meeting z n zero x y is = subst (λ (o : OnCpu). Learns x o) (sym is) (learns_none x)
learns_meeting z n (suc turns) x y is = learns_more x is.0 y (learns_meeting z n turns x is.0 is.2) (learns_turn z n is.0 y is.1 is.3)

pub learns_destroyed : (z : Settings) (n turns : ℕ) (x y : OnCpu) (answer : Result ℕ Refusal) → HasDestroyed z n turns x answer y → Learns x y
learns_destroyed z n turns x y answer is = learns_more x is.last.0 y (learns_meeting z n is.earlier x is.last.0 is.last.1) (learns_turn z n is.last.0 y is.met is.last.2)

-- What the last turn met

log_longer : (x y : OnCpu) → HasLearned x y → length x.log ≤ length y.log
log_longer x y learned = let size = ap (λ (l : List LogItem). length l) learned.log.are ∙ length-append x.log learned.log.since in omega (arith, size)

-- the last turn is one for a caller that knew less, too: what the CPU knew when that call began
turn_since : (z : Settings) (n : ℕ) (x m : OnCpu) (answer : Result Stage Refusal) (y : OnCpu) → Learns x m → IsTurn z n m answer y → IsTurn z n x answer y
turn_since z n x m answer y learns turn = record {
  begin = turn.begin;
  log = turn.log;
  known = prefix_both _ _ _ learns.0.known_log turn.known;
  seen = let less = prefix_length x.view.pass m.view.pass learns.0.pass in omega (arith, less, turn.seen);
  on = turn.on;
  heard = record {
    teller = turn.heard.teller;
    cpu = turn.heard.cpu ∙ ap (λ (o : OnCpu). o.view.id) learns.0.is;
    later = let more = log_longer x m learns.0 in omega (arith, more, turn.heard.later);
    heard = turn.heard.heard;
  };
  told = turn.told;
  answers = turn.answers;
}

met_told : (z : Settings) (n : ℕ) (x y : OnCpu) (met : Result Stage Refusal) → IsTurn z n x met y → IsDestroyAnswer z n x (destroy_result_of met) y
met_told z n x y (Ok (Grace c)) turn = turn
met_told z n x y (Ok (Passive c)) turn = turn
met_told z n x y (Ok (Local k)) turn = turn
met_told z n x y (Ok (Freed t)) turn = turn
met_told z n x y (Err refusal) turn =
    let is : refusal ≡ NotRetired = turn.answers.0 in
    subst (λ (f : Refusal). IsDestroyAnswer z n x (Err f) y) (sym is) (subst (λ (f : Refusal). IsTurn z n x (Err f) y) is turn)

pub destroyed_told : (z : Settings) (n turns : ℕ) (x y : OnCpu) (answer : Result ℕ Refusal) → HasDestroyed z n turns x answer y → IsDestroyAnswer z n x answer y
destroyed_told z n turns x y answer is =
    let turn = turn_since z n x is.last.0 is.met y (learns_meeting z n is.earlier x is.last.0 is.last.1) is.last.2.2 in
    subst (λ (r : Result ℕ Refusal). IsDestroyAnswer z n x r y) (sym is.told) (met_told z n x y is.met turn)

-- The end of a registry: the keeper heard what the CPU knew, then the CPU what the keeper did, and the words were closed by its seat.

pub closes_run : (z : Settings) (x y : OnCpu) (history : List Change) (last : List ℕ) → HasHeardOn history (cpu_after_tell x) y → y.log ≡ (cpu_after_tell x).log ++ has_heard (cpu_after_tell x) None
    → HasClosed z y.view y.log y.known_log last → ClosesRun z x last
closes_run z x y history last heard log closed =
    let its = ended_runs z y.view y.log y.known_log last closed in
    let view : y.view ≡ record x.view { pass = y.view.pass; noted_pass = history } = ap (λ (c : OnCpu). c.view) heard.is in
    let noted : y.view.noted_pass ≡ history = ap (λ (v : CpuView). v.noted_pass) view in
    let whole : part (its.run.seat y.view.id) its.run.acts ≡ x.log ++ tells_and_hears x = its.own ∙ (log ∙ append_assoc x.log (has_told x) (has_heard x None)) in
    let known : IsPrefix x.known_log its.keeper_log = prefix_both x.known_log y.known_log its.keeper_log heard.known_log its.known in
    record {
      keeper = its.keeper;
      log = its.keeper_log;
      run = its.run;
      own = subst (λ (c : ℕ). part (its.run.seat c) its.run.acts ≡ x.log ++ tells_and_hears x) (ap (λ (v : CpuView). v.id) view) whole;
      view = y.view;
      grown = view ∙ ap (λ (h : List Change). record x.view { pass = y.view.pass; noted_pass = h }) (sym noted);
      shown = its.shown;
      known = known;
      seen = prefix_both x.view.pass y.view.pass its.keeper.history heard.pass its.seen;
      gone = λ t n freed. its.run.gone t n (freed_more t n x.known_log its.keeper_log known freed);
    }
