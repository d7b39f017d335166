-- "Worked examples (P: proved together)": the tests in the document's order, each from literal bytes to whole answers.
use Rattle.std.specs.Prelude.{ℕ, List, [], ◌∷◌, ◌++◌, replicate, Some, None, Ok, Err}
use Rattle.std.proofs.Math.Option.{none, some}
use Rattle.rules.specs.declared.refusal.Refusal.TheVariants.{FewSigners}
use Rattle.rules.specs.Vote.{Batch}
use Rattle.rules.specs.Signers.{Mark}
use Rattle.tray.specs.Trays.{tray_of}
use Rattle.node.specs.State.{fresh}
use Rattle.entries.specs.Fields.{entry}
use Rattle.signing.specs.Slots.{slot_size}
use Rattle.worked.specs.Test.{Test, reads, hears, makes, opens, steps, closes, counts}
use Rattle.worked.specs.Halls.{stepped, alone, own, keeping, from0, silence}

-- lent memory before a call: sevens, so that what is left as it was shows
abbrev lent : ℕ → List ℕ
lent size = replicate size 7

-- "P1 n=1, f=0, tray 0.0.1: open, one round with two zero bytes, close: log 0.0.1."
abbrev pub p1 : List Test
p1 =
    makes 1 0 0 (Ok (alone 0 []))
    ∷ opens (alone 0 []) (tray_of (entry 0 0 1 ∷ [])) (lent 13) (Ok 12) (alone 1 (entry 0 0 1 ∷ []), 0 ∷ 1 ∷ 1 ∷ 0 ∷ 0 ∷ 0 ∷ 0 ∷ 0 ∷ 0 ∷ 0 ∷ 0 ∷ 1 ∷ 7 ∷ [])
    ∷ steps (alone 1 (entry 0 0 1 ∷ [])) (0 ∷ 0 ∷ []) (lent 1) (stepped 0 0) (alone 2 (entry 0 0 1 ∷ []), lent 1)
    ∷ closes (alone 2 (entry 0 0 1 ∷ [])) [] (lent 2) ((entry 0 0 1 ∷ []) ∷ []) (Ok 1) (entry 0 0 1 ∷ 7 ∷ [])
    ∷ []

-- the schedule's send, in hex as there
abbrev twelve : List ℕ
twelve = 0x00 ∷ 0x01 ∷ 0x01 ∷ 0x00 ∷ 0x00 ∷ 0x03 ∷ 0x00 ∷ 0x05 ∷ 0x00 ∷ 0x00 ∷ 0x00 ∷ 0x46 ∷ []

-- "P2 the 12 bytes of the send above read as primary 0, witness 0, entry 3.5.70."
abbrev pub p2 : List Test
p2 =
    reads 3 twelve (Ok (Some (record { primary = 0; mask = 1; count = 1; next = 12 }))) (0x00 ∷ 0x03 ∷ 0x00 ∷ 0x05 ∷ 0x00 ∷ 0x00 ∷ 0x00 ∷ 0x46 ∷ [])
    ∷ hears 3 twelve (Ok (Some 1)) (some (record { primary = 0; mask = 1; batch = entry 3 5 70 ∷ [] } ∷ []))
    ∷ []

-- an unreadable message: by the record's reader, by the message's, and by node 1 of three in round 1, which counts sender 0 and keeps nothing
abbrev not_read : (size : ℕ) (message : List ℕ) → List Test
not_read size message =
    reads 3 message (Ok None) []
    ∷ hears 3 message (Ok None) none
    ∷ steps (keeping 1 []) (from0 size message) (lent 1) (stepped 0 1) (keeping 2 [], lent 1)
    ∷ []

-- the bytes of the entry 0.0.watthours
abbrev small : ℕ → List ℕ
small watt_hours = 0 ∷ 0 ∷ 0 ∷ 0 ∷ 0 ∷ 0 ∷ 0 ∷ watt_hours ∷ []

-- "P3 a record with k=17 is unreadable": its seventeen entries are all there, and ascend.
abbrev pub p3 : List Test
p3 =
    not_read 140
    (0 ∷ 17 ∷ 1 ∷ 0
    ∷ small 0 ++ small 1 ++ small 2 ++ small 3 ++ small 4 ++ small 5 ++ small 6 ++ small 7 ++ small 8 ++ small 9 ++ small 10 ++ small 11 ++ small 12 ++ small 13
    ++ small 14 ++ small 15 ++ small 16)

-- "P4 equal neighbouring entries: unreadable."
abbrev pub p4 : List Test
p4 = not_read 20 (0 ∷ 2 ∷ 1 ∷ 0 ∷ 0 ∷ 3 ∷ 0 ∷ 5 ∷ 0 ∷ 0 ∷ 0 ∷ 70 ∷ 0 ∷ 3 ∷ 0 ∷ 5 ∷ 0 ∷ 0 ∷ 0 ∷ 70 ∷ [])

-- a record of primary 0 with this mask and the entry 3.5.watthours
abbrev one : (mask watt_hours : ℕ) → List ℕ
one mask watt_hours = 0 ∷ 1 ∷ mask ∷ 0 ∷ 0 ∷ 3 ∷ 0 ∷ 5 ∷ 0 ∷ 0 ∷ 0 ∷ watt_hours ∷ []

-- "P5 round 2, witnesses {0} only: readable, not kept." Node 1 of three is made, opens with 1.5.40 and hears silence in round 1.
abbrev pub p5 : List Test
p5 =
    makes 3 1 1 (Ok (fresh 3 1 1))
    ∷ opens (fresh 3 1 1) (tray_of own) (lent 13) (Ok 12) (keeping 1 [], 1 ∷ 1 ∷ 2 ∷ 0 ∷ 0 ∷ 1 ∷ 0 ∷ 5 ∷ 0 ∷ 0 ∷ 0 ∷ 40 ∷ 7 ∷ [])
    ∷ steps (keeping 1 []) silence (lent 1) (stepped 0 0) (keeping 2 [], lent 1)
    ∷ steps (keeping 2 []) (from0 12 (one 1 70)) (lent 1) (stepped 0 0) (keeping 3 [], lent 1)
    ∷ []

-- 3.5.70 and 3.5.80, a batch each
abbrev two : List Batch
two = (entry 3 5 70 ∷ []) ∷ (entry 3 5 80 ∷ []) ∷ []

-- "P6 round 1, two batches of primary 0 in one message: both kept, decision empty." After a silent round 2 the log is the own batch.
abbrev pub p6 : List Test
p6 =
    steps (keeping 1 []) (from0 24 (one 1 70 ++ one 1 80)) (lent 25) (stepped 24 0) (keeping 2 two, one 3 70 ++ one 3 80 ++ (7 ∷ []))
    ∷ steps (keeping 2 two) silence [] (stepped 0 0) (keeping 3 two, [])
    ∷ closes (keeping 3 two) [] (lent 2) ([] ∷ own ∷ [] ∷ []) (Ok 1) (entry 1 5 40 ∷ 7 ∷ [])
    ∷ []

-- "P7 a third batch in that message: dropped, not passed on."
abbrev pub p7 : List Test
p7 = steps (keeping 1 []) (from0 36 (one 1 70 ++ one 1 80 ++ one 1 90)) (lent 25) (stepped 24 0) (keeping 2 two, one 3 70 ++ one 3 80 ++ (7 ∷ [])) ∷ []

-- "P8 primary 0, witnesses {1, 2}, round 2: not kept."
abbrev pub p8 : List Test
p8 = steps (keeping 2 []) (from0 12 (one 6 70)) (lent 1) (stepped 0 0) (keeping 3 [], lent 1) ∷ []

-- "P9 n=3, mask bit 3 set: unreadable."
abbrev pub p9 : List Test
p9 = not_read 12 (one 9 70)

-- the empty batch alone, and with 3.5.70 after it
abbrev empty : List Batch
empty = [] ∷ []

abbrev empty_and_another : List Batch
empty_and_another = [] ∷ (entry 3 5 70 ∷ []) ∷ []

-- "P10 an empty batch, then another: decision empty both times." The empty batch is kept in round 1; round 2 is silent, or another comes, with witnesses 0 and 2.
abbrev pub p10 : List Test
p10 =
    steps (keeping 1 []) (from0 4 (0 ∷ 0 ∷ 1 ∷ 0 ∷ [])) (lent 5) (stepped 4 0) (keeping 2 empty, 0 ∷ 0 ∷ 3 ∷ 0 ∷ 7 ∷ [])
    ∷ steps (keeping 2 empty) silence [] (stepped 0 0) (keeping 3 empty, [])
    ∷ closes (keeping 3 empty) [] (lent 2) ([] ∷ own ∷ [] ∷ []) (Ok 1) (entry 1 5 40 ∷ 7 ∷ [])
    ∷ steps (keeping 2 empty) (from0 12 (one 5 70)) (lent 1) (stepped 0 0) (keeping 3 empty_and_another, lent 1)
    ∷ closes (keeping 3 empty_and_another) [] (lent 2) ([] ∷ own ∷ [] ∷ []) (Ok 1) (entry 1 5 40 ∷ 7 ∷ [])
    ∷ []

-- 32 bytes
abbrev mark : Mark
mark =
    1 ∷ 2 ∷ 3 ∷ 4 ∷ 5 ∷ 6 ∷ 7 ∷ 8 ∷ 9 ∷ 10 ∷ 11 ∷ 12 ∷ 13 ∷ 14 ∷ 15 ∷ 16 ∷ 17 ∷ 18 ∷ 19 ∷ 20 ∷ 21 ∷ 22 ∷ 23 ∷ 24 ∷ 25 ∷ 26 ∷ 27 ∷ 28 ∷ 29 ∷ 30 ∷ 31 ∷ 32
    ∷ []

-- a slot of zeros is silent
abbrev silent : List ℕ
silent = replicate slot_size 0

-- "P11 f=1, one equal mark from another: done; none: 10." Node 0 of three counts; node 1 speaks, or nobody does.
abbrev pub p11 : List Test
p11 =
    counts 3 1 0 mark (silent ++ (1 ∷ mark) ++ silent) (Ok 3)
    ∷ counts 3 1 0 mark (silent ++ silent ++ silent) (Err FewSigners)
    ∷ []

-- P1 to P11
abbrev pub tests : List Test
tests = p1 ++ p2 ++ p3 ++ p4 ++ p5 ++ p6 ++ p7 ++ p8 ++ p9 ++ p10 ++ p11
