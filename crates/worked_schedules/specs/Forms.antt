-- "A missing line is bad at the number it would have; a line without its LF is bad; anything after `end=` is bad": document 01's schedule, and schedules that are
-- bad in each way, with their forms.
use Rattle.std.specs.Prelude.{◌≡◌, [], ◌∷◌, ◌++◌, Ok}
use Rattle.schedule.specs.Forms.{form_of}
use Rattle.header.specs.Header.{bad}
use Rattle.worked_schedules.specs.Document.{n_three, f_one, faulty_zero, tray_none, tray_forty, tray_sixty, send_seventy, the_end, document, header}

-- ---- the header

abbrev pub HeaderForms : Type 0
HeaderForms =
    -- document 01's schedule
    (form_of (document) ≡ Ok header)
    -- an empty file
    × (form_of ([]) ≡ bad 1)
    -- another key
    × (form_of ((120 ∷ 61 ∷ 51 ∷ 10 ∷ []) ++ f_one ++ faulty_zero ++ tray_none ++ tray_forty ++ tray_sixty ++ send_seventy ++ the_end) ≡ bad 1)
    -- n is no number
    × (form_of ((110 ∷ 61 ∷ 10 ∷ []) ++ f_one ++ faulty_zero ++ tray_none ++ tray_forty ++ tray_sixty ++ send_seventy ++ the_end) ≡ bad 1)
    -- n is 0
    × (form_of ((110 ∷ 61 ∷ 48 ∷ 10 ∷ []) ++ f_one ++ faulty_zero ++ tray_none ++ tray_forty ++ tray_sixty ++ send_seventy ++ the_end) ≡ bad 1)
    -- n is 17
    × (form_of ((110 ∷ 61 ∷ 49 ∷ 55 ∷ 10 ∷ []) ++ f_one ++ faulty_zero ++ tray_none ++ tray_forty ++ tray_sixty ++ send_seventy ++ the_end) ≡ bad 1)
    -- a leading zero
    × (form_of ((110 ∷ 61 ∷ 48 ∷ 51 ∷ 10 ∷ []) ++ f_one ++ faulty_zero ++ tray_none ++ tray_forty ++ tray_sixty ++ send_seventy ++ the_end) ≡ bad 1)
    -- 3 and 2 ^ 64: nothing wraps
    × (form_of ((110 ∷ 61 ∷ 49 ∷ 56 ∷ 52 ∷ 52 ∷ 54 ∷ 55 ∷ 52 ∷ 52 ∷ 48 ∷ 55 ∷ 51 ∷ 55 ∷ 48 ∷ 57 ∷ 53 ∷ 53 ∷ 49 ∷ 54 ∷ 49 ∷ 57 ∷ 10 ∷ []) ++ f_one ++ faulty_zero ++ tray_none ++ tray_forty ++ tray_sixty ++ send_seventy ++ the_end) ≡ bad 1)
    -- the second line is missing
    × (form_of (n_three) ≡ bad 2)
    -- n is not above 2f
    × (form_of (n_three ++ (102 ∷ 61 ∷ 50 ∷ 10 ∷ []) ++ faulty_zero ++ tray_none ++ tray_forty ++ tray_sixty ++ send_seventy ++ the_end) ≡ bad 2)
    -- more than f faulty
    × (form_of (n_three ++ f_one ++ (102 ∷ 97 ∷ 117 ∷ 108 ∷ 116 ∷ 121 ∷ 61 ∷ 48 ∷ 44 ∷ 49 ∷ 10 ∷ []) ++ tray_none ++ tray_forty ++ tray_sixty ++ send_seventy ++ the_end) ≡ bad 3)
    -- a node that is not there
    × (form_of (n_three ++ f_one ++ (102 ∷ 97 ∷ 117 ∷ 108 ∷ 116 ∷ 121 ∷ 61 ∷ 51 ∷ 10 ∷ []) ++ tray_none ++ tray_forty ++ tray_sixty ++ send_seventy ++ the_end) ≡ bad 3)

-- ---- the trays

abbrev pub TrayForms : Type 0
TrayForms =
    -- a faulty node's tray is checked alike
    (form_of (n_three ++ f_one ++ faulty_zero ++ (116 ∷ 114 ∷ 97 ∷ 121 ∷ 61 ∷ 49 ∷ 46 ∷ 53 ∷ 10 ∷ []) ++ tray_forty ++ tray_sixty ++ send_seventy ++ the_end) ≡ bad 4)
    -- watt-hours of 2 ^ 32
    × (form_of (n_three ++ f_one ++ faulty_zero ++ (116 ∷ 114 ∷ 97 ∷ 121 ∷ 61 ∷ 48 ∷ 46 ∷ 48 ∷ 46 ∷ 52 ∷ 50 ∷ 57 ∷ 52 ∷ 57 ∷ 54 ∷ 55 ∷ 50 ∷ 57 ∷ 54 ∷ 10 ∷ []) ++ tray_forty ++ tray_sixty ++ send_seventy ++ the_end) ≡ bad 4)
    -- 17 entries
    × (form_of (n_three ++ f_one ++ faulty_zero ++ (116 ∷ 114 ∷ 97 ∷ 121 ∷ 61 ∷ 48 ∷ 46 ∷ 48 ∷ 46 ∷ 48 ∷ 44 ∷ 48 ∷ 46 ∷ 48 ∷ 46 ∷ 49 ∷ 44 ∷ 48 ∷ 46 ∷ 48 ∷ 46 ∷ 50 ∷ 44 ∷ 48 ∷ 46 ∷ 48 ∷ 46 ∷ 51 ∷ 44 ∷ 48 ∷ 46 ∷ 48 ∷ 46 ∷ 52 ∷ 44 ∷ 48 ∷ 46 ∷ 48 ∷ 46 ∷ 53 ∷ 44 ∷ 48 ∷ 46 ∷ 48 ∷ 46 ∷ 54 ∷ 44 ∷ 48 ∷ 46 ∷ 48 ∷ 46 ∷ 55 ∷ 44 ∷ 48 ∷ 46 ∷ 48 ∷ 46 ∷ 56 ∷ 44 ∷ 48 ∷ 46 ∷ 48 ∷ 46 ∷ 57 ∷ 44 ∷ 48 ∷ 46 ∷ 48 ∷ 46 ∷ 49 ∷ 48 ∷ 44 ∷ 48 ∷ 46 ∷ 48 ∷ 46 ∷ 49 ∷ 49 ∷ 44 ∷ 48 ∷ 46 ∷ 48 ∷ 46 ∷ 49 ∷ 50 ∷ 44 ∷ 48 ∷ 46 ∷ 48 ∷ 46 ∷ 49 ∷ 51 ∷ 44 ∷ 48 ∷ 46 ∷ 48 ∷ 46 ∷ 49 ∷ 52 ∷ 44 ∷ 48 ∷ 46 ∷ 48 ∷ 46 ∷ 49 ∷ 53 ∷ 44 ∷ 48 ∷ 46 ∷ 48 ∷ 46 ∷ 49 ∷ 54 ∷ 10 ∷ []) ++ tray_forty ++ tray_sixty ++ send_seventy ++ the_end) ≡ bad 4)
    -- equal entries
    × (form_of (n_three ++ f_one ++ faulty_zero ++ tray_none ++ (116 ∷ 114 ∷ 97 ∷ 121 ∷ 61 ∷ 49 ∷ 46 ∷ 53 ∷ 46 ∷ 52 ∷ 48 ∷ 44 ∷ 49 ∷ 46 ∷ 53 ∷ 46 ∷ 52 ∷ 48 ∷ 10 ∷ []) ++ tray_sixty ++ send_seventy ++ the_end) ≡ bad 5)
    -- a tray line is missing
    × (form_of (n_three ++ f_one ++ faulty_zero ++ tray_none ++ tray_forty ++ send_seventy ++ the_end) ≡ bad 6)

-- ---- the sends and the end

abbrev pub SendForms : Type 0
SendForms =
    -- round 0
    (form_of (n_three ++ f_one ++ faulty_zero ++ tray_none ++ tray_forty ++ tray_sixty ++
    (115 ∷ 101 ∷ 110 ∷ 100 ∷ 61 ∷ 48 ∷ 44 ∷ 48 ∷ 44 ∷ 49 ∷ 44 ∷ 48 ∷ 48 ∷ 10 ∷ []) ++ the_end) ≡ bad 7)
    -- round f + 2
    × (form_of (n_three ++ f_one ++ faulty_zero ++ tray_none ++ tray_forty ++ tray_sixty ++
    (115 ∷ 101 ∷ 110 ∷ 100 ∷ 61 ∷ 51 ∷ 44 ∷ 48 ∷ 44 ∷ 49 ∷ 44 ∷ 48 ∷ 48 ∷ 10 ∷ []) ++ the_end) ≡ bad 7)
    -- from a correct node
    × (form_of (n_three ++ f_one ++ faulty_zero ++ tray_none ++ tray_forty ++ tray_sixty ++
    (115 ∷ 101 ∷ 110 ∷ 100 ∷ 61 ∷ 49 ∷ 44 ∷ 49 ∷ 44 ∷ 50 ∷ 44 ∷ 48 ∷ 48 ∷ 10 ∷ []) ++ the_end) ≡ bad 7)
    -- to a faulty node
    × (form_of (n_three ++ f_one ++ faulty_zero ++ tray_none ++ tray_forty ++ tray_sixty ++
    (115 ∷ 101 ∷ 110 ∷ 100 ∷ 61 ∷ 49 ∷ 44 ∷ 48 ∷ 44 ∷ 48 ∷ 44 ∷ 48 ∷ 48 ∷ 10 ∷ []) ++ the_end) ≡ bad 7)
    -- to a node that is not there
    × (form_of (n_three ++ f_one ++ faulty_zero ++ tray_none ++ tray_forty ++ tray_sixty ++
    (115 ∷ 101 ∷ 110 ∷ 100 ∷ 61 ∷ 49 ∷ 44 ∷ 48 ∷ 44 ∷ 51 ∷ 44 ∷ 48 ∷ 48 ∷ 10 ∷ []) ++ the_end) ≡ bad 7)
    -- an empty message
    × (form_of (n_three ++ f_one ++ faulty_zero ++ tray_none ++ tray_forty ++ tray_sixty ++ (115 ∷ 101 ∷ 110 ∷ 100 ∷ 61 ∷ 49 ∷ 44 ∷ 48 ∷ 44 ∷ 49 ∷ 44 ∷ 10 ∷ []) ++ the_end) ≡ bad 7)
    -- half a byte
    × (form_of (n_three ++ f_one ++ faulty_zero ++ tray_none ++ tray_forty ++ tray_sixty ++
    (115 ∷ 101 ∷ 110 ∷ 100 ∷ 61 ∷ 49 ∷ 44 ∷ 48 ∷ 44 ∷ 49 ∷ 44 ∷ 48 ∷ 48 ∷ 48 ∷ 10 ∷ []) ++ the_end) ≡ bad 7)
    -- upper-case hex
    × (form_of (n_three ++ f_one ++ faulty_zero ++ tray_none ++ tray_forty ++ tray_sixty ++
    (115 ∷ 101 ∷ 110 ∷ 100 ∷ 61 ∷ 49 ∷ 44 ∷ 48 ∷ 44 ∷ 49 ∷ 44 ∷ 48 ∷ 65 ∷ 10 ∷ []) ++ the_end) ≡ bad 7)
    -- two equal sends
    × (form_of (n_three ++ f_one ++ faulty_zero ++ tray_none ++ tray_forty ++ tray_sixty ++ send_seventy ++ send_seventy ++ the_end) ≡ bad 8)
    -- a send to 1 after one to 2
    × (form_of (n_three ++ f_one ++ faulty_zero ++ tray_none ++ tray_forty ++ tray_sixty ++
    (115 ∷ 101 ∷ 110 ∷ 100 ∷ 61 ∷ 49 ∷ 44 ∷ 48 ∷ 44 ∷ 50 ∷ 44 ∷ 48 ∷ 48 ∷ 10 ∷ []) ++ send_seventy ++ the_end) ≡ bad 8)
    -- no end
    × (form_of (n_three ++ f_one ++ faulty_zero ++ tray_none ++ tray_forty ++ tray_sixty ++ send_seventy) ≡ bad 8)
    -- an end without its LF
    × (form_of (n_three ++ f_one ++ faulty_zero ++ tray_none ++ tray_forty ++ tray_sixty ++ send_seventy ++ (101 ∷ 110 ∷ 100 ∷ 61 ∷ [])) ≡ bad 8)
    -- an end that is not empty
    × (form_of (n_three ++ f_one ++ faulty_zero ++ tray_none ++ tray_forty ++ tray_sixty ++ send_seventy ++ (101 ∷ 110 ∷ 100 ∷ 61 ∷ 120 ∷ 10 ∷ [])) ≡ bad 8)
    -- a byte after the end
    × (form_of (n_three ++ f_one ++ faulty_zero ++ tray_none ++ tray_forty ++ tray_sixty ++ send_seventy ++ the_end ++ (120 ∷ [])) ≡ bad 9)
    -- a line after the end
    × (form_of (n_three ++ f_one ++ faulty_zero ++ tray_none ++ tray_forty ++ tray_sixty ++ send_seventy ++ the_end ++ the_end) ≡ bad 9)
