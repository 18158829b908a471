-- The commands on sections and lookups: what they give and leave, as any command does.
use Rattle.std.proofs.Common.{◌≡◌, ℕ, ◌<◌, Option, None, Bool, true, false, not, is_some, sym, ap, subst, ◌∙◌}
use Rattle.std.specs.Prelude.{Result, Err, if◌then◌else◌, ◌==◌, Ok}
use Rattle.registry_report.specs.Types.{NoMemory, Entry, Refusal, Key}
use Rattle.protocol.specs.Common.{Holds}
use Rattle.protocol.specs.Events as events
use Rattle.protocol.proofs.model.RefiningSections.{put_here}
use Rattle.passive_core.specs.Common.{all_seated, IsLookupNow, after_enter_command, after_exit_command, after_find}
use Rattle.passive_core.specs.Commands as core
use Rattle.registry_report.specs.Common.{Hitch, Refused, Gives, Leaves, Registry, SessionState, Shows, NotInside, enter_answer, exit_answer, find_answer, command_answer, is_inside, lookup_now, with_core, with_section_entered, with_section_exited, with_found, on_ok}
use Rattle.registry_report.proofs.shows.Attached.{now_is}
use Rattle.registry_report.proofs.shows.Sectioned.{enter_answers, enter_shows, exit_shows, found_shows, inside_is}

-- A result that is due is given, and what shows the registry is left.

pub gives : {X : Type 0} (given answer : Result X Hitch) → answer ≡ given → Gives given answer
gives (Err (Refused NoMemory)) answer is = tt
gives given answer is = is

pub leaves : {X : Type 0} (given : Result X Hitch) (s : SessionState) (r : Registry) → Shows s r → Leaves given (Shows s r)
leaves (Err (Refused NoMemory)) s r on = tt
leaves given s r on = on

-- The commands on sections and lookups: what they give and leave.

pub enter_done : (s : SessionState) (r : Registry) (c : ℕ) (result : Result (Unit {0}) Refusal) → Holds s.core → Shows s r → c < s.core.settings.cpus → result ≡ core.enter_answer s.core c
    → Gives (command_answer result) (command_answer (enter_answer r c))
    × Leaves (command_answer result) (Shows (with_core s (after_enter_command s.core c)) (on_ok r (enter_answer r c) (λ done. with_section_entered r c)))
enter_done s r c result holds on low is = (
  gives (command_answer result) (command_answer (enter_answer r c)) (ap command_answer (sym (enter_answers s r c on) ∙ sym is)),
  leaves (command_answer result) (with_core s (after_enter_command s.core c)) (on_ok r (enter_answer r c) (λ done. with_section_entered r c)) (enter_shows s r c holds on low),
)

-- whether the section is open after an exit
stays_open : (r : Registry) (c : ℕ) (stays : Bool) → is_inside r c ≡ true → is_inside (with_section_exited r c stays) c ≡ stays
stays_open r c true in_ = in_
stays_open r c false in_ = ap is_some (put_here r.model.sections c None)

-- inside one, whether it stays open
pub exit_inside : (s : SessionState) (r : Registry) (c : ℕ) (stays : Bool) → Holds s.core → Shows s r → c < s.core.settings.cpus → events.is_inside s.core c ≡ true
    → stays ≡ events.is_inside (after_exit_command s.core c) c
    → (exit_answer r c ≡ Ok stays) × Shows (with_core s (after_exit_command s.core c)) (on_ok r (exit_answer r c) (with_section_exited r c))
exit_inside s r c stays holds on low in_ is =
    let shows = exit_shows s r c holds on low in_ in
    let answer : exit_answer r c ≡ Ok (not (r.depths c == 1)) = ap (λ (b : Bool). if b then Ok (not (r.depths c == 1)) else Err NotInside) (inside_is s r c on ∙ in_) in
    let after : is_inside (with_section_exited r c (not (r.depths c == 1))) c ≡ stays =
    inside_is (with_core s (after_exit_command s.core c)) (with_section_exited r c (not (r.depths c == 1))) c shows ∙ sym is in (
      answer ∙ ap (λ (b : Bool). Ok b) (sym (stays_open r c (not (r.depths c == 1)) (inside_is s r c on ∙ in_)) ∙ after),
      subst (λ (b : Result Bool Hitch). Shows (with_core s (after_exit_command s.core c)) (on_ok r b (with_section_exited r c))) (sym answer) shows,
    )

pub find_inside : (s : SessionState) (r : Registry) (c : ℕ) (key : Key) (found : Option Entry) → Holds s.core → Shows s r → c < s.core.settings.cpus → events.is_inside s.core c ≡ true
    → IsLookupNow s.core key found
    → (find_answer r c key ≡ Ok found) × Shows (with_core s (after_find (all_seated s.core) c found)) (on_ok r (find_answer r c key) (with_found r c))
find_inside s r c key found holds on low in_ is =
    let answer : find_answer r c key ≡ Ok found =
    ap (λ (b : Bool). if b then Ok (lookup_now r key) else Err NotInside) (inside_is s r c on ∙ in_) ∙ ap (λ (a : Option Entry). Ok a) (now_is s r key holds on found is) in
    (answer, subst (λ (b : Result (Option Entry) Hitch). Shows (with_core s (after_find (all_seated s.core) c found)) (on_ok r b (with_found r c))) (sym answer) (found_shows s r c found holds on low))
