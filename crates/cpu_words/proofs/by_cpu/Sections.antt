-- Enter and Exit on the words.
use Rattle.std.proofs.Common.{◌≡◌, ℕ, ◌+◌, ◌*◌, ◌%◌, ◌^◌, ◌≤◌, ◌<◌, List, length, take, get_or, set, Some, None, refl, sym, ap, ◌∙◌, subst, arith, get_or-set_same, get_or-set_other}
use Rattle.std.proofs.lemmas.Bool.{lt-ltb}
use Rattle.std.proofs.lemmas.Option.{none-some}
use Rattle.std.specs.Prelude.{slice_index}
use mathlib.Core.List.{IsPrefix}
use Rattle.cpu_words.specs.Types.{Change, Settings, Enter, Exit, Done}
use Rattle.protocol.specs.Common.{State, section_at, depth_at, seen_at, step}
use Rattle.cpu_words.specs.Common.{CpuView, Cpu, section_of, passive_of, count_of, word_at, index, cpu_view, depth_of, CpuShown, Agrees, Good, MayEnter, HasEntered, MayExit, HasExited}
use Rattle.cpu_words.proofs.shown.Placing.{agrees_set}
use Rattle.cpu_words.proofs.shown.Seeing.{prefix_longer, take_whole, Seen, seen_of, idle_of}
use Rattle.cpu_words.proofs.by_cpu.CpuSteps.{with_lists, same_counts, shown_on, found_on, cpu_makes, CpuDoes}

-- the words after a step on the CPU's section word
pub section_words : (z : Settings) (words : List ℕ) (g : State) (x : CpuView) (l : State) (m : ℕ) → Seen g x → Good g → Agrees z words g → l.passive ≡ g.passive → l.counts ≡ g.counts
    → l.section ≡ set g.section x.id m → Agrees z (set words (index z (section_of x.id)) m) (with_lists g l)
section_words z words g x l m seen good agrees passive counts is =
    agrees_set z words g (with_lists g l) (section_of x.id) m agrees refl seen.lt (ap (λ (s : List ℕ). get_or s x.id 0) is ∙ get_or-set_same g.section x.id m 0 seen.in_section)
    (elim [
      | section_of d ↦ λ _ ne. ap (λ (s : List ℕ). get_or s d 0) is ∙ get_or-set_other g.section x.id d m 0 (λ e. ne (ap section_of e))
      | passive_of d t ↦ λ _ _. ap (λ (p : List (List ℕ)). word_at (record g { passive = p }) (passive_of d t)) passive
      | count_of d t ↦ λ _ _. ap (λ (p : List (List ℕ)). word_at (record g { counts = p }) (count_of d t)) counts
      | _ ↦ λ _ _. refl
    ])

pub enter_may : (z : Settings) (x : CpuView) (c : ℕ) → x.id ≡ c → MayEnter x → CpuDoes z x (section_of c) (λ n. (n + 1) % 2 ^ 64) (Enter c) (λ _. Done) (λ v _ y. HasEntered v y)
enter_may z x c id may = rw (← id)
    (λ s r i at fits.
    let g = r.g in
    let had : CpuShown g x = (r.shows.fits i (Cpu x) at).1 in
    let seen = seen_of g x r.good had in
    let room : section_at g x.id < 2 * g.settings.section_limit = omega (arith, may.room, ap (λ (a : Settings). a.section_limit) seen.settings, seen.section) in
    let next : (slice_index s.words (index z (section_of x.id)) + 1) % 2 ^ 64 ≡ section_at g x.id + 1 = omega (arith, r.words.at (section_of x.id) seen.lt, room, seen.fit) in
    let n = length g.history in
    let l = record g { section = set g.section x.id (section_at g x.id + 1); begins = set g.begins x.id (Some n); depths = set g.depths x.id 1; seen = set g.seen x.id n } in
    let y = cpu_view (with_lists g l) x.id x in
    let section : y.section ≡ section_at g x.id + 1 = get_or-set_same g.section x.id (section_at g x.id + 1) 0 seen.in_section in
    let begins : y.begin ≡ Some n = get_or-set_same g.begins x.id (Some n) None seen.in_begins in
    let sees : get_or l.seen x.id 0 ≡ n = get_or-set_same g.seen x.id n 0 seen.in_seen in
    let passes : y.pass ≡ g.history = ap (λ k. take k g.history) sees ∙ take_whole g.history in
    let made : step g (Enter x.id) ≡ Some (record { state = with_lists g l; reply = Done }) =
    rw (idle_of g x seen had may.idle, sym seen.begin ∙ may.outside, lt-ltb (section_at g x.id) (2 * g.settings.section_limit) room) refl in
    let leaves = same_counts g x.id l refl refl refl refl
    (λ d ne. get_or-set_other g.section x.id d _ 0 ne) (λ d ne. get_or-set_other g.begins x.id d _ None ne) (λ d ne. get_or-set_other g.depths x.id d _ 0 ne)
    (λ d ne. get_or-set_other g.seen x.id d _ 0 ne) (λ d ne. refl) (λ d ne. refl) in
    let shown = shown_on g x l had refl refl refl (get_or-set_same g.depths x.id 1 0 seen.in_depths ∙ sym (ap depth_of begins)) (omega (arith, seen.within, sees)) (omega (arith, sees))
    (found_on g x (get_or l.seen x.id 0) had (omega (arith, seen.within, sees)) (omega (arith, sees))) in
    let words = subst (λ m. Agrees z (set s.words (index z (section_of x.id)) m) (with_lists g l)) (sym next) (section_words z s.words g x l (section_at g x.id + 1) seen r.good r.words refl refl refl) in
    let done = cpu_makes z s r i x (index z (section_of x.id)) ((slice_index s.words (index z (section_of x.id)) + 1) % 2 ^ 64) l (Enter x.id) Done x at made leaves
    (λ k. refl) refl shown words in
    let longer : IsPrefix x.pass y.pass =
    subst (λ p. IsPrefix p y.pass) (sym seen.pass) (prefix_longer g.history (seen_at g x.id) (get_or l.seen x.id 0) (omega (arith, seen.within, sees)) (omega (arith, sees))) in
    let begun : y.begin ≡ Some (length y.pass) = begins ∙ ap (λ (h : List Change). Some (length h)) (sym passes) in
    let change : y ≡ record x { section = x.section + 1; begin = Some (length y.pass); pass = y.pass } =
    (λ k. record y { section = section k; begin = begun k }) ∙ ap (λ (v : CpuView). record v { section = v.section + 1; begin = Some (length y.pass); pass = y.pass }) (sym had.is) in
    (Cpu y, done.0, (refl, (done.1, (longer, change)))))

pub exit_may : (z : Settings) (x : CpuView) (c : ℕ) → x.id ≡ c → MayExit x → CpuDoes z x (section_of c) (λ n. (n + 1) % 2 ^ 64) (Exit c) (λ _. Done) (λ v _ y. HasExited v y)
exit_may z x c id may = rw (← id)
    (λ s r i at fits.
    let g = r.g in
    let had : CpuShown g x = (r.shows.fits i (Cpu x) at).1 in
    let seen = seen_of g x r.good had in
    let room : section_at g x.id ≤ 2 * g.settings.section_limit = r.good.holds.sections.limited x.id in
    let next : (slice_index s.words (index z (section_of x.id)) + 1) % 2 ^ 64 ≡ section_at g x.id + 1 = omega (arith, r.words.at (section_of x.id) seen.lt, room, seen.fit) in
    let l = record g { section = set g.section x.id (section_at g x.id + 1); begins = set g.begins x.id None; depths = set g.depths x.id 0; found = set g.found x.id None } in
    let y = cpu_view (with_lists g l) x.id x in
    let section : y.section ≡ section_at g x.id + 1 = get_or-set_same g.section x.id (section_at g x.id + 1) 0 seen.in_section in
    let begins : y.begin ≡ None = get_or-set_same g.begins x.id None None seen.in_begins in
    let nothing : y.found ≡ None = get_or-set_same g.found x.id None None seen.in_found in
    let depth : depth_at g x.id ≡ 1 = had.depth ∙ ap depth_of may.inside.1 in
    let made : step g (Exit x.id) ≡ Some (record { state = with_lists g l; reply = Done }) = rw (idle_of g x seen had may.idle, sym seen.begin ∙ may.inside.1, depth) refl in
    let leaves = same_counts g x.id l refl refl refl refl
    (λ d ne. get_or-set_other g.section x.id d _ 0 ne) (λ d ne. get_or-set_other g.begins x.id d _ None ne) (λ d ne. get_or-set_other g.depths x.id d _ 0 ne)
    (λ d ne. refl) (λ d ne. refl) (λ d ne. get_or-set_other g.found x.id d _ None ne) in
    let shown = shown_on g x l had refl refl refl (get_or-set_same g.depths x.id 0 0 seen.in_depths ∙ sym (ap depth_of begins)) (omega arith) seen.within
    (λ e is. absurd (none-some e (sym nothing ∙ is))) in
    let words = subst (λ m. Agrees z (set s.words (index z (section_of x.id)) m) (with_lists g l)) (sym next) (section_words z s.words g x l (section_at g x.id + 1) seen r.good r.words refl refl refl) in
    let done = cpu_makes z s r i x (index z (section_of x.id)) ((slice_index s.words (index z (section_of x.id)) + 1) % 2 ^ 64) l (Exit x.id) Done x at made leaves (λ k. refl) refl shown words in
    let change : y ≡ record x { section = x.section + 1; begin = None; found = None } =
    (λ k. record y { section = section k; begin = begins k; found = nothing k }) ∙ ap (λ (v : CpuView). record v { section = v.section + 1; begin = None; found = None }) (sym had.is) in
    (Cpu y, done.0, (refl, (done.1, change))))
