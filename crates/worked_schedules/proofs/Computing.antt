-- All that a schedule computes with, by one name.
use Prim.Native.Nat.{ℕ}
use lib.Count.{ones}
use Rattle.agreement.specs.Carried.{handed}
use Rattle.agreement.specs.Rule.{has_sent, breaks_rule}
use Rattle.closing.specs.Close.{close_number}
use Rattle.contents.specs.Contents.{faulty_in, faulty_line, header_as, is_faulty_key, items_in, message_in, numbered, send_then, sends_in, sends_of}
use Rattle.entries.specs.Bytes.{entry_of, entry_bytes, entries_of, entries_bytes}
use Rattle.laws.specs.Masks.{mask_of, count, every}
use Rattle.node.specs.Batches.{sound_batch, sound_kept}
use Rattle.node.specs.Opening.{open_number}
use Rattle.node.specs.State.{kept_right, sound_node}
use Rattle.played.specs.Playing.{breach_from}
use Rattle.print.specs.Texts.{decimal_of, digits_in, item_text, more_text, list_text}
use Rattle.rehearsal.specs.Rehearsal.{played_text, form_text}
use Rattle.report.specs.Lines.{lines_text, all_lines, nodes_that}
use Rattle.outcome.specs.Logs.{made_log}
use Rattle.outcome.specs.Marks.{place_in, distinct}
use Rattle.outcome.specs.Spoken.{slot_with}
use Rattle.rules.specs.Log.{decision, decisions}
use Rattle.rules.specs.Signers.{signer, signers_of, enough}
use Rattle.rules.specs.Sizes.{is_batch, sized, sizes, fits, is_log}
use Rattle.rules.specs.Step.{gather, taken_up, keeps, newly, passes_on}
use Rattle.rules.specs.Vote.{shows, opened, accepted, passed_on}
use Rattle.schedule.specs.Forms.{form_after, form_of, form_sends, form_trays, found, is_end, is_tray}
use Rattle.header.specs.Header.{and_then, head_from, with_faults, with_faulty, with_line, with_nodes}
use Rattle.schedule.specs.Sends.{send_as, send_in, send_of, fitting, rank_in}
use Rattle.signing.specs.Count.{signers_number}
use Rattle.signing.specs.Slots.{slot_in}
use Rattle.step.specs.Course.{after, outbox}
use Rattle.step.specs.Step.{step_number}
use Rattle.text.specs.Hex.{hex_of, is_hex, pairs_of}
use Rattle.text.specs.Lines.{keyed, lines_of, list_line, number_line}
use Rattle.text.specs.Lists.{ahead, and_item, below_as, checked, item_of, items_of, list_of, split}
use Rattle.text.specs.Numbers.{decimal, digit_of, digits_below, entry_as, entry_in, field_of, number_in, value_from}
use Rattle.text.specs.Places.{place_of as place-of-byte}
use Rattle.tray.specs.Trays.{sound_tray}
use Rattle.wire.specs.Inbox.{place_of, message_of, well_cut, inbox_bytes}
use Rattle.wire.specs.Message.{votes_after, votes_of, message_bytes}
use Rattle.wire.specs.Record.{unreadable, record_bytes}

unfoldable pub computing : ℕ
unfolding mask_of sized is_batch place-of-byte digit_of digits_below value_from decimal number_in field_of entry_as entry_in ahead split below_as item_of
    and_item items_of checked list_of lines_of keyed number_line list_line is_hex pairs_of hex_of with_nodes with_faults with_faulty with_line and_then
    head_from send_as send_in send_of header_as items_in is_faulty_key faulty_line faulty_in send_then sends_in sends_of message_in numbered fitting rank_in
    is_end found is_tray form_sends form_trays form_after form_of sizes fits is_log every gather shows opened accepted passed_on taken_up keeps newly
    passes_on decision decisions ones entry_of entry_bytes entries_of entries_bytes unreadable record_bytes votes_after votes_of message_bytes message_of
    well_cut inbox_bytes sound_tray sound_batch sound_kept kept_right sound_node open_number step_number after outbox close_number handed has_sent breaks_rule
    count signer signers_of enough slot_in signers_number form_text played_text breach_from lines_text all_lines decimal_of digits_in item_text more_text
    list_text made_log place_in distinct slot_with nodes_that place_of
computing = 0
