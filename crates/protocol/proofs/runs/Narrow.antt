-- The pure machine: its lists of events are lists of `step`, and what it attaches has a lawful name; the worked rows, computed.
use Rattle.std.proofs.Common.{◌≡◌, ℕ, ◌+◌, List, [], ◌∷◌, length, Option, Some, Bool, true, false, if◌then◌else◌, refl, sym, subst, arith, ◌++◌}
use Rattle.std.specs.Prelude.{IsTrue}
use Rattle.std.proofs.lemmas.Option.{none-some, same_Some}
use Rattle.protocol.specs.Types.{Entry, Change, Attach, Detach, Replace, Key}
use Rattle.protocol.specs.History.{change_at, rank_at}
use Rattle.registry_values.specs.Common.{key_of}
use Rattle.protocol.proofs.keeps.Replacing.{may_republish_tells}
use Rattle.registry_values.specs.Common.{is_lawful}
use Rattle.registry_values.specs.Names.{are_name_words, are_key_words}
use Rattle.registry_values.specs.Common.{bias}
use Rattle.protocol.specs.Common.{IsAttached, Event, Publish, Outcome, Reply, RecordWords, State, guard, names_lawfully, narrow_step, opening, row_at, state_after, step, Run, after_change, entry_of, Holds, AreNamedLawfully, NarrowEvents, NarrowNames, NarrowRuns, Found, FrozenLink, CollectRace, ReplaceRace, ReplacedUnder, KeptDriver, Ref, after, LoadLink, TryRace, Gives}
use Rattle.protocol.specs.Rows
use Rattle.protocol.specs.Model
use Rattle.protocol.proofs.Either.{either}
use Rattle.protocol.proofs.History.{attach_cases, empty_brings}
use Rattle.protocol.proofs.keeps.Keeping.{after_keeps, opening_holds, step_keeps}
use Rattle.protocol.proofs.keeps.ListKeeps.{entry_shows}
use Rattle.protocol.proofs.Made.{Made, Publishes, Unpublishes, Republishes, each_event}
use Rattle.protocol.proofs.runs.Steps.{turned_state}

guard_tells : (b : Bool) (o : Option Outcome) (x : Outcome) → guard b o ≡ Some x → (b ≡ true) × (o ≡ Some x)
guard_tells b o x is = grind (arith, none-some)

pub narrow_events : NarrowEvents
narrow_events s event o is = (guard_tells (names_lawfully s event) (step s event) o is).1

-- Lists

-- what both runs have in common
abbrev made : State → ℕ → ℕ → Option Reply → Run
made s taken refused last = record { state = s; counted = record { taken = taken; refused = refused; last = last } }

-- the runs of all events and of those kept, after runs that refused m and n events
record Alike (x y : Run) (all kept : List Event) (m n : ℕ) : Type 0 where
  state : x.state ≡ y.state
  taken : x.counted.taken ≡ y.counted.taken
  last : x.counted.last ≡ y.counted.last
  refused : x.counted.refused + length kept + n ≡ y.counted.refused + length all + m

abbrev AllAlike : List Event → Type 0
AllAlike es = (s : State) (k m n : ℕ) (l : Option Reply)
    → Alike (Model.narrow_run_of_events (made s k m l) es) (Model.run_of_events (made s k n l) (Model.with_lawful_names s es)) es (Model.with_lawful_names s es) m n

alike_step : (s : State) (es : List Event) (k m n : ℕ) (l : Option Reply) (o : Option Outcome) → AllAlike es
    → Alike (Model.narrow_run_of_events (Model.run_with_event (made s k m l) o) es) (Model.run_of_events (Model.run_with_event (made s k n l) o) (Model.with_lawful_names (state_after s o) es)) es (Model.with_lawful_names (state_after s o) es) m n
alike_step s es k m n l o all = grind arith

-- by the name that the first event publishes, if it does
alike_name : (s : State) (e : Event) (es : List Event) (k m n : ℕ) (l : Option Reply) (b : Bool) → AllAlike es
    → Alike (Model.narrow_run_of_events (Model.run_with_event (made s k m l) (guard b (step s e))) es)
    (Model.run_of_events (made s k n l) (if b then e ∷ Model.with_lawful_names (state_after s (step s e)) es else Model.with_lawful_names s es)) (e ∷ es)
    (if b then e ∷ Model.with_lawful_names (state_after s (step s e)) es else Model.with_lawful_names s es) m n
alike_name s e es k m n l b all = grind (arith, alike_step)

alike : (es : List Event) (s : State) (k m n : ℕ) (l : Option Reply)
    → Alike (Model.narrow_run_of_events (made s k m l) es) (Model.run_of_events (made s k n l) (Model.with_lawful_names s es)) es (Model.with_lawful_names s es) m n
alike [] s k m n l = record { state = refl; taken = refl; last = refl; refused = omega arith }
alike (e ∷ es) s k m n l = alike_name s e es k m n l (names_lawfully s e) (alike es)

pub narrow_runs : NarrowRuns
narrow_runs s events = grind (arith, alike)

-- Names

named_attach : (h : List Change) (e : Entry) → IsTrue (is_lawful e.rec.name) → AreNamedLawfully h → AreNamedLawfully (after_change h (Attach e))
named_attach h e lawful named f att = either (attach_cases h (Attach e) f att) (λ old. named f old.was) (λ new. subst (λ (g : Entry). IsTrue (is_lawful g.rec.name)) (same_Some e f new.is) lawful)

named_detach : (h : List Change) (n : ℕ) → AreNamedLawfully h → AreNamedLawfully (after_change h (Detach n))
named_detach h n named f att = either (attach_cases h (Detach n) f att) (λ old. named f old.was) (λ new. absurd (none-some f new.is))

-- what takes another's place has its name
named_swap : (h : List Change) (r : ℕ) (f e : Entry) → IsAttached h f → key_of f ≡ key_of e → AreNamedLawfully h → AreNamedLawfully (after_change h (Replace f.number r e))
named_swap h r f e old key named g att = either (attach_cases h (Replace f.number r e) g att)
    (λ was. named g was.was)
    (λ new. subst (λ (i : Entry). IsTrue (is_lawful i.rec.name)) (same_Some e g new.is) (subst (λ (k : Key). IsTrue (is_lawful k.name)) key (named f old)))

-- the name of a row that the pure machine publishes
name_of_row : (s : State) (t : ℕ) (e : Entry) → entry_of t (row_at s.rows t) ≡ Some e → names_lawfully s (Publish t) ≡ true → IsTrue (is_lawful e.rec.name)
name_of_row s t e is lawful = subst (λ (r : RecordWords). are_name_words r.high r.low ≡ true) (entry_shows t (row_at s.rows t) e is).1 lawful

made_named : (s n : State) (e : Event) (r : Reply) → Holds s → Made s e n r → names_lawfully s e ≡ true → AreNamedLawfully s.history → AreNamedLawfully n.history
made_named s _ _ _ on (Publishes t e is may) lawful named = named_attach s.history e (name_of_row s t e is lawful) named
made_named s _ _ _ on (Unpublishes t head next e at rest is) lawful named = named_detach s.history e.number named
made_named s _ _ _ on (Republishes t u head next e f of at may is) lawful named =
    named_swap s.history (rank_at s.history f.number) f e (on.slots.live u f at).0.attached (may_republish_tells s t u e f on of at may).2.swap.key named
made_named s _ _ _ on _ lawful named = named

named_if : (s : State) (event : Event) (b : Bool) → Holds s → names_lawfully s event ≡ b → AreNamedLawfully s.history → AreNamedLawfully (state_after s (guard b (step s event))).history
named_if s event true on is named = each_event (λ o. AreNamedLawfully (state_after s o).history) s event named (λ n r made. made_named s n event r on made is named)
named_if s event false on is named = named

holds_if : (s : State) (event : Event) (b : Bool) → Holds s → Holds (state_after s (guard b (step s event)))
holds_if s event b on = grind (arith, after_keeps, step_keeps)

ran_named : (r : Run) (es : List Event) → Holds r.state → AreNamedLawfully r.state.history → AreNamedLawfully (Model.narrow_run_of_events r es).state.history
ran_named r [] on named = named
ran_named r (e ∷ es) on named =
    let turned = turned_state r (narrow_step r.state e) in
    ran_named (Model.run_with_event r (narrow_step r.state e)) es
    (subst Holds (sym turned) (holds_if r.state e (names_lawfully r.state e) on))
    (subst (λ (s : State). AreNamedLawfully s.history) (sym turned) (named_if r.state e (names_lawfully r.state e) on refl named))

pub narrow_names : NarrowNames
narrow_names z events fit = ran_named (Model.empty_run (opening z)) events (opening_holds z fit) (λ e att. absurd (empty_brings e.number e att))

-- The worked rows, computed.

attached : Gives (opening Rows.two_cpus) Rows.attaches (Rows.done_replies 35) Rows.all_three
unfolding are_key_words
attached = (refl, refl)

begun : Gives Rows.all_three Rows.search_begins (Rows.done_replies 2 ++ Rows.loads 3 ++ Rows.loads 3 ++ Rows.loads 2 ++ Rows.loads Rows.wm2.high ++ Rows.loads 0 ++ Rows.loads 2 ++ Rows.loads 2 ++ Rows.loads 2) Rows.search_case
begun = (refl, refl)

detached : Gives Rows.search_case Rows.detaches (Rows.done_replies 1 ++ Rows.loads 1 ++ Rows.loads 0 ++ Rows.done_replies 3 ++ Rows.loads 1 ++ Rows.loads 0 ++ Rows.done_replies 2 ++ Rows.try_replies ++ Rows.try_replies) Rows.unlinked_case
detached = (refl, refl)

gone_on : Gives Rows.unlinked_case Rows.search_goes_on (Rows.loads Rows.wm1.high ++ Rows.loads 0 ++ Rows.loads 1 ++ Rows.loads 1 ++ Rows.loads 2 ++ Rows.loads Rows.wm0.high ++ Rows.loads 0 ++ Some (Found Rows.first) ∷ []) Rows.has_found
gone_on = (refl, refl)

pub frozen_link : FrozenLink
frozen_link = record { attached = attached; begun = begun; detached = detached; gone_on = gone_on; is_freed = refl; are_vacant = refl }

pub collect_race : CollectRace
unfolding are_key_words
collect_race = record { detached = refl; race = refl; counted = refl }

pub try_race : TryRace
unfolding are_key_words
try_race = record { tries = refl; tried = refl; confirmed = refl; detached = refl; headed = refl; refound = refl; unhidden = refl; freed = refl; given = refl }

attached_two : Gives (opening Rows.two_cpus) Rows.attaches_two (Rows.done_replies 24) Rows.only_two
unfolding are_key_words
attached_two = (refl, refl)

replace_begun : Gives Rows.only_two Rows.replace_begins (Rows.done_replies 10 ++ Rows.loads 2 ++ Rows.loads 2 ++ Rows.loads 2 ++ Rows.loads Rows.wm1.high ++ Rows.loads 0) Rows.replace_case
replace_begun = (refl, refl)

replace_later : Rows.replies Rows.replace_case (Rows.replaces_one ++ LoadLink 0 ∷ Rows.loads_five)
    ≡ Rows.replace_replies ++ Rows.loads 3 ++ Rows.loads 3 ++ Rows.loads 2 ++ Rows.loads Rows.wm0.high ++ Rows.loads 0 ++ Some (Found Rows.newer) ∷ []
unfolding are_key_words rank_at change_at
replace_later = refl

replace_earlier : Rows.replies Rows.replace_case (LoadLink 0 ∷ (Rows.replaces_one ++ Rows.loads_five))
    ≡ Rows.loads 1 ++ Rows.replace_replies ++ Rows.loads 1 ++ Rows.loads 2 ++ Rows.loads Rows.wm0.high ++ Rows.loads 0 ++ Some (Found Rows.first) ∷ []
unfolding are_key_words rank_at change_at
replace_earlier = refl

replace_kept : Rows.replies (after Rows.replace_case Rows.replaces_one) (Rows.try_events 0) ≡ Rows.try_replies
unfolding are_key_words rank_at change_at
replace_kept = refl

pub replace_race : ReplaceRace
replace_race = record { attached = attached_two; begun = replace_begun; later = replace_later; earlier = replace_earlier; kept = replace_kept }

pub replaced_under : ReplacedUnder
unfolding are_key_words rank_at change_at
replaced_under = record { begun = (refl, refl); replaced = (refl, refl); goes_on = refl; anew = refl; kept = refl }

kept_attached : Gives (opening Rows.two_slots) Rows.keep_events
    (Rows.done_replies 13 ++ Rows.loads 1 ++ Rows.loads 1 ++ Rows.loads 2 ++ Rows.loads Rows.wm.high ++ Rows.loads 0 ++ Some (Found Rows.wm_entry) ∷ Rows.loads bias ++ Some (Ref 0) ∷ Rows.done_replies 12) Rows.keep_case
unfolding are_key_words
kept_attached = (refl, refl)

pub kept_driver : KeptDriver
kept_driver = record { attached = kept_attached; detached = refl; goes = refl; are_vacant = refl }
