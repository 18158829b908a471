-- The definitions of this crate that proofs and the crates above cite, and for its own proofs its types, passed on from one place. Declares nothing.
pub use Rattle.registry_values.specs.declared.answer.Room.{Room}
pub use Rattle.registry_values.specs.declared.entry.Entry.{Entry}
pub use Rattle.registry_values.specs.declared.entry.Kind.{Kind}
pub use Rattle.registry_values.specs.declared.entry.Kind.TheVariants.{Driver, Iface}
pub use Rattle.registry_values.specs.declared.entry.Record.{Record}
pub use Rattle.registry_values.specs.declared.name.Name.{Name}
pub use Rattle.registry_values.specs.declared.refusal.Refusal.{Refusal}
pub use Rattle.registry_values.specs.declared.refusal.Refusal.TheVariants.{HistoryFull, Inside, LocalFull, NameTaken, NeedsDriver, NoSlot}
pub use Rattle.registry_values.specs.declared.settings.Settings.{Settings}
pub use Rattle.registry_values.specs.declared.limits.TheConstants.{MOST_CHANGES, MOST_COUNT, MOST_CPUS, MOST_SECTIONS, MOST_SLOTS}
pub use Rattle.registry_values.specs.declared.slot.Key.{Key}
pub use Rattle.registry_values.specs.declared.slot.Slot.{Slot}
pub use Rattle.registry_values.specs.declared.slot.Slot.TheVariants.{Live, Retired, Vacant}
pub use Rattle.registry_values.specs.Answers.{attach_answer, detach_answer, enter_answer, entry_in, found_answer, given_entry, has_room, next_entry, unless, wait_answer, why_full, why_uncounted}
pub use Rattle.registry_values.specs.Answers.{why_unusable, Tally, bias, less_bias, local_of, sum_of, tally_shown, Answers, IsRefusalOfNew, number_of_refusal, IsObstacle, destroy_result}
pub use Rattle.registry_values.specs.Answers.{destroy_result_of, stage_in, stage_of}
pub use Rattle.registry_values.specs.Names.{IdsComeBack, NamesComeBack, digit_byte, digit_value, digits, id_bytes, id_of_bytes, is_same, said_by, value_of, IsWritten, RoundTrip, are_zeros, bad_place}
pub use Rattle.registry_values.specs.Names.{bytes_of, high_word, is_allowed, is_key, is_lawful, key_of_words, is_name, is_padded, is_rest, low_word, name_of, name_of_bytes, padded_bytes}
pub use Rattle.registry_values.specs.Limits.{are_fit, are_limits_fit, are_sizes_fit, are_usual, is_within}
pub use Rattle.registry_values.specs.Slots.{Grows, are_clear, are_collected, has_changed, have_passed, is_clear, is_collected, is_even, is_out, is_passed, is_some_collected, least_below}
pub use Rattle.registry_values.specs.Slots.{mark_after_collect, mark_after_look, mark_after_passive_look, no_mark, or_next, are_words_of, has_number, is_available, is_driver, is_iface, is_live}
pub use Rattle.registry_values.specs.Slots.{is_live_as, is_retired, is_retired_as, is_taken, is_vacant, key_of, key_of_record, kind_word, leads_to, live_count, retired_number, retired_slot, same_key}
pub use Rattle.registry_values.specs.Slots.{same_kind, same_name, slot_at, slot_before, slot_of}
