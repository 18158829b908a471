-- Each command of a script is a run of lawful steps of the model, and so are all of them.
use Rattle.std.proofs.Common.{◌≡◌, true, refl, ◌&&◌, nat_lt, ltb-true}
use Rattle.std.proofs.lemmas.Bool.{and_parts}
use Rattle.std.proofs.lemmas.List.Sums.{AllPass-from_list_all}
use Rattle.registry_report.specs.Types.{Settings, Key, Command, Plug, Enter, Exit, Find, Reference, Copy, Release, Count, Uncount, Advance, Destroy}
use Rattle.registry_values.specs.Common.{is_lawful, is_iface}
use Rattle.registry_language.specs.declared.command.Command.TheVariants.{Attach, Detach}
use Rattle.registry_report.specs.Common.{ReportIsModelRun, Registry, opening_registry, after, IsSound, IsLawfulTurn}
use Rattle.registry_report.specs.Turns
use Rattle.registry_language.specs.Program.{is_label, suits}
use Rattle.registry_report.proofs.sound.Turns.{each_turn, idle_turn, ok_turn, opened_sound}
use Rattle.registry_report.proofs.sound.Entries.{attached_lawful, detached_lawful, plug_by, advance_turn, destroyed_by}
use Rattle.registry_report.proofs.sound.Sections.{copy_lawful, count_lawful, reference_lawful, release_lawful, uncount_lawful, entered_by, exited_lawful, found_lawful}

-- the command suits the settings
abbrev Fits : Settings → Command → Type 0
Fits z command = suits z command ≡ true

command_turn : (r : Registry) (command : Command) → IsSound r → Fits r.settings command → IsLawfulTurn r (after r command)
command_turn r (Attach c rec) on fits = ok_turn r (Turns.attach_answer r c rec) (Turns.with_attached r c) on (λ e is. attached_lawful r c rec e on is)
command_turn r (Plug c rec x) on fits =
    let p = and_parts (nat_lt c r.settings.cpus && is_lawful rec.name && is_iface rec.kind) (is_label x) fits in
    plug_by r c rec x.place (r.local_labels x.place) on (and_parts (nat_lt c r.settings.cpus && is_lawful rec.name) (is_iface rec.kind) p.0).1 refl
command_turn r (Detach c kind name) on fits =
    let key : Key = record { kind = kind; name = name } in
    ok_turn r (Turns.detach_answer r c key) (Turns.with_detached r c) on (λ e is. detached_lawful r c key e on is)
command_turn r (Enter c) on fits = ok_turn r (Turns.enter_answer r c) (λ done. Turns.with_section_entered r c) on (λ done is. entered_by r c (Turns.is_inside r c) on (ltb-true c r.settings.cpus fits) refl)
command_turn r (Exit c) on fits = ok_turn r (Turns.exit_answer r c) (Turns.with_section_exited r c) on (λ stays is. exited_lawful r c stays on is)
command_turn r (Find c kind name) on fits =
    let key : Key = record { kind = kind; name = name } in
    ok_turn r (Turns.find_answer r c key) (Turns.with_found r c) on (λ answer is. found_lawful r c key answer on is)
command_turn r (Reference c a) on fits = ok_turn r (Turns.reference_answer r c a.place) (Turns.with_reference r c a.place) on (λ n is. reference_lawful r c a.place n on is)
command_turn r (Copy c a b) on fits = ok_turn r (Turns.copy_answer r c a.place b.place) (Turns.with_reference r c b.place) on (λ n is. copy_lawful r c a.place b.place n on is)
command_turn r (Release c a) on fits = ok_turn r (Turns.release_answer r c a.place) (Turns.without_reference r c a.place) on (λ n is. release_lawful r c a.place n on is)
command_turn r (Count c x) on fits = ok_turn r (Turns.count_answer r c x.place) (Turns.with_one_counted r c x.place) on (λ n is. count_lawful r c x.place n on is)
command_turn r (Uncount c x) on fits = ok_turn r (Turns.uncount_answer r x.place) (Turns.with_one_uncounted r c x.place) on (λ n is. uncount_lawful r c x.place n on is)
command_turn r (Advance n) on fits = advance_turn r n on
command_turn r (Destroy c n turns) on fits = destroyed_by r n (Turns.is_inside r c) on
command_turn r _ on fits = idle_turn r on

pub report_runs : ReportIsModelRun
report_runs p is = (each_turn after Fits command_turn (opening_registry p.settings) p.commands (opened_sound p.settings) (AllPass-from_list_all (suits p.settings) p.commands is.suited)).1
