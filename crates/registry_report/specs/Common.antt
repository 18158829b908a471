-- The definitions of this crate that proofs and the crates above cite, and for its own proofs its types, passed on from one place. Declares nothing.
pub use Rattle.registry_report.specs.declared.hitch.Hitch.{Hitch}
pub use Rattle.registry_report.specs.declared.hitch.Hitch.TheVariants.{LabelTaken, NoLabel, NotInside, Refused}
pub use Rattle.registry_report.specs.declared.session.Reading.{Reading}
pub use Rattle.registry_report.specs.Turns.{acquire_answer, advance_answer, attach_answer, attach_iface_answer, audit_answer, command_answer, copy_answer, count_below, count_of_found}
pub use Rattle.registry_report.specs.Turns.{destroy_answer, detach_answer, enter_answer, exit_answer, find_answer, first_fit, first_obstacle, given_entry, has_passive, has_section, held_answer}
pub use Rattle.registry_report.specs.Turns.{held_count, if_free, is_available, is_inside, is_this, list_below, lookup_now, may_begin, misuse, net_count, one_more, perform_answer, plug_answer}
pub use Rattle.registry_report.specs.Turns.{read_answer, reading_of, reference_answer, release_answer, retired_slot, room_of, stage_in, tallies_below, tallies_in, tally_of, uncount_answer}
pub use Rattle.registry_report.specs.Turns.{unless, why_uncounted, with_label, after_advance, after_destroy, after_plug, after_stage, on_ok, on_some, put_at, with_attached}
pub use Rattle.registry_report.specs.Turns.{with_attached_iface, with_detached, with_found, with_freed, with_one_counted, with_one_uncounted, with_reference, with_reference_kept}
pub use Rattle.registry_report.specs.Turns.{with_section_begun, with_section_ended, with_section_entered, with_section_exited, without_reference}
pub use Rattle.registry_report.specs.Registry.{answer_after, end_of, entry_of, has_ended, is_attach, is_detach, is_driver_entry, is_driver_number, is_end_of, live_entries, lookup, may_hold}
pub use Rattle.registry_report.specs.Registry.{place_after, value_in, value_of, Registry, opening_registry}
pub use Rattle.registry_report.specs.Session.{Gives, Leaves, IsSession, SessionState, label_answer, with_core, without_labels, CountsLive, IsFresh, Shows, ShowsModel, ShowsTallies, SnapshotsFollow}
pub use Rattle.registry_report.specs.Session.{number_at}
pub use Rattle.registry_report.specs.Report.{ReportIsModelRun, after, report, text_of, HasSlot, IsLawfulTurn, IsSound, IsSoundModel, after_each, labels_for}
pub use Rattle.registry_report.specs.Lines.{balance_line, balance_lines, line_of_words, spaced_words}
pub use Rattle.registry_report.specs.Printed.{IsHitchOf, IsLineOf, IsOfAttach, IsOfDestroy, IsOfEnter, IsOfPerform, IsRunOf, MayHitch, MayWantMemory, WritesFront, WritesRun, AppendsPrefix}
pub use Rattle.registry_report.specs.Printed.{IsWhileRunning, Written}
