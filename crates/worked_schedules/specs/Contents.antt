-- What document 01's schedule holds: its faulty nodes, trays and sends.
use Rattle.std.specs.Prelude.{[], ◌∷◌, ◌≡◌}
use Rattle.entries.specs.Fields.{entry}
use Rattle.contents.specs.Contents.{entries_of_tray, faulty_of, message_for, send_line, sends_of}
use Rattle.worked_schedules.specs.Document.{document}

abbrev pub DocumentContents : Type 0
DocumentContents =
    (faulty_of document ≡ 0 ∷ [])
    × (entries_of_tray document 0 ≡ [])
    × (entries_of_tray document 1 ≡ entry 1 5 40 ∷ [])
    × (entries_of_tray document 2 ≡ entry 2 5 60 ∷ [])
    × (sends_of document ≡ record { round = 1; from = 0; to = 1; message = 0 ∷ 1 ∷ 1 ∷ 0 ∷ 0 ∷ 3 ∷ 0 ∷ 5 ∷ 0 ∷ 0 ∷ 0 ∷ 70 ∷ [] } ∷ [])
    × (send_line document 0 ≡ 7)
    × (message_for document 1 0 1 ≡ 0 ∷ 1 ∷ 1 ∷ 0 ∷ 0 ∷ 3 ∷ 0 ∷ 5 ∷ 0 ∷ 0 ∷ 0 ∷ 70 ∷ [])
    × (message_for document 2 0 1 ≡ [])
