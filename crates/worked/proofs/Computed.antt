-- Each answer is what the definitions of the call's promise compute to.
use Rattle.std.proofs.Common.{refl}
use lib.Count.{ones}
use Rattle.laws.specs.Masks.{mask_of, every}
use Rattle.rules.specs.Sizes.{sized, sizes, is_batch, fits, is_log}
use Rattle.rules.specs.Vote.{shows, opened, accepted, passed_on}
use Rattle.rules.specs.Step.{gather, taken_up, keeps, newly, passes_on}
use Rattle.rules.specs.Log.{decision, decisions}
use Rattle.rules.specs.Signers.{signer, signers_of, enough}
use Rattle.entries.specs.Bytes.{entry_of, entry_bytes, entries_of, entries_bytes}
use Rattle.wire.specs.Record.{unreadable, record_bytes}
use Rattle.wire.specs.Message.{votes_after, votes_of, message_bytes}
use Rattle.wire.specs.Inbox.{place_of, message_of, well_cut, unreadable_senders}
use Rattle.tray.specs.Trays.{sound_tray}
use Rattle.node.specs.Batches.{sound_batch, sound_kept}
use Rattle.node.specs.State.{kept_right, sound_node}
use Rattle.node.specs.Opening.{open_number}
use Rattle.step.specs.Step.{step_number}
use Rattle.closing.specs.Close.{close_number}
use Rattle.signing.specs.Slots.{slot_in}
use Rattle.signing.specs.Count.{signers_number}
use Rattle.worked.specs.Claim.{WorkedExamples}
use Rattle.worked.proofs.Holding.{answered, ◌also◌, nothing_more, all_holding}

pub worked_examples : WorkedExamples
unfolding open_number opened sound_node kept_right sound_kept sound_batch sound_tray is_batch sizes sized every gather record_bytes entries_bytes entry_bytes step_number well_cut place_of message_of unreadable_senders mask_of taken_up keeps newly accepted shows ones passed_on passes_on votes_of votes_after unreadable entries_of entry_of message_bytes close_number decisions decision is_log fits signers_number enough signers_of signer slot_in
worked_examples =
    all_holding (
    (answered refl refl)  -- P1
    also (record { answers = answered refl refl; node_is = refl; outbox_is = refl })
    also (record { answers = answered refl refl; node = refl; outbox_is = refl })
    also (refl, record { answers = answered refl refl; output_is = refl })
    also (answered refl refl, record { are = refl })  -- P2
    also (answered refl refl, refl)
    also (answered refl refl, record { are = refl })  -- P3
    also (answered refl refl, refl)
    also (record { answers = answered refl refl; node = refl; outbox_is = refl })
    also (answered refl refl, record { are = refl })  -- P4
    also (answered refl refl, refl)
    also (record { answers = answered refl refl; node = refl; outbox_is = refl })
    also (answered refl refl)  -- P5
    also (record { answers = answered refl refl; node_is = refl; outbox_is = refl })
    also (record { answers = answered refl refl; node = refl; outbox_is = refl })
    also (record { answers = answered refl refl; node = refl; outbox_is = refl })
    also (record { answers = answered refl refl; node = refl; outbox_is = refl })  -- P6
    also (record { answers = answered refl refl; node = refl; outbox_is = refl })
    also (refl, record { answers = answered refl refl; output_is = refl })
    also (record { answers = answered refl refl; node = refl; outbox_is = refl })  -- P7
    also (record { answers = answered refl refl; node = refl; outbox_is = refl })  -- P8
    also (answered refl refl, record { are = refl })  -- P9
    also (answered refl refl, refl)
    also (record { answers = answered refl refl; node = refl; outbox_is = refl })
    also (record { answers = answered refl refl; node = refl; outbox_is = refl })  -- P10
    also (record { answers = answered refl refl; node = refl; outbox_is = refl })
    also (refl, record { answers = answered refl refl; output_is = refl })
    also (record { answers = answered refl refl; node = refl; outbox_is = refl })
    also (refl, record { answers = answered refl refl; output_is = refl })
    also (answered refl refl)  -- P11
    also (answered refl refl)
    also nothing_more)
