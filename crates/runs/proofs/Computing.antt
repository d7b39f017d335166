-- All that a run computes with, by one name.
use Prim.Native.Nat.{ℕ}
use lib.Count.{ones}
use Rattle.laws.specs.Masks.{count, mask_of, every}
use Rattle.rules.specs.Sizes.{sized, sizes, is_batch, fits, is_log}
use Rattle.rules.specs.Vote.{shows, opened, accepted, passed_on}
use Rattle.rules.specs.Step.{gather, taken_up, keeps, newly, passes_on}
use Rattle.rules.specs.Log.{decision, decisions}
use Rattle.rules.specs.Signers.{signer, signers_of, enough}
use Rattle.entries.specs.Bytes.{entry_of, entry_bytes, entries_of, entries_bytes}
use Rattle.wire.specs.Record.{unreadable, record_bytes}
use Rattle.wire.specs.Message.{votes_after, votes_of, message_bytes}
use Rattle.wire.specs.Inbox.{place_of, message_of, well_cut, inbox_bytes}
use Rattle.tray.specs.Trays.{sound_tray}
use Rattle.node.specs.Batches.{sound_batch, sound_kept}
use Rattle.node.specs.State.{kept_right, sound_node}
use Rattle.node.specs.Opening.{open_number}
use Rattle.step.specs.Step.{step_number}
use Rattle.step.specs.Course.{after, outbox}
use Rattle.closing.specs.Close.{close_number}
use Rattle.signing.specs.Slots.{slot_in}
use Rattle.signing.specs.Count.{signers_number}
use Rattle.agreement.specs.Carried.{handed}
use Rattle.agreement.specs.Rule.{has_sent, breaks_rule}
use Rattle.runs.specs.Handed.{inbox}

unfoldable pub computing : ℕ
unfolding inbox sizes sized is_batch fits is_log every gather shows opened accepted passed_on taken_up keeps newly passes_on decision decisions ones
    entry_of entry_bytes entries_of entries_bytes unreadable record_bytes votes_after votes_of message_bytes place_of message_of well_cut inbox_bytes sound_tray
    sound_batch sound_kept kept_right sound_node open_number step_number after outbox close_number handed has_sent breaks_rule count mask_of signer signers_of
    enough slot_in signers_number
computing = 0
