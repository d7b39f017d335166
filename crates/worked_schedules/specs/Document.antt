-- "Input, whole" and "Output, whole": document 01's own schedule, and what it prints.
use Rattle.std.specs.Prelude.{ℕ, List, [], ◌∷◌, ◌++◌}
use Rattle.header.specs.declared.Header.{Header}

-- ---- its lines

-- n=3
abbrev pub n_three : List ℕ
n_three = 110 ∷ 61 ∷ 51 ∷ 10 ∷ []

-- f=1
abbrev pub f_one : List ℕ
f_one = 102 ∷ 61 ∷ 49 ∷ 10 ∷ []

-- faulty=0
abbrev pub faulty_zero : List ℕ
faulty_zero = 102 ∷ 97 ∷ 117 ∷ 108 ∷ 116 ∷ 121 ∷ 61 ∷ 48 ∷ 10 ∷ []

-- tray=
abbrev pub tray_none : List ℕ
tray_none = 116 ∷ 114 ∷ 97 ∷ 121 ∷ 61 ∷ 10 ∷ []

-- tray=1.5.40
abbrev pub tray_forty : List ℕ
tray_forty = 116 ∷ 114 ∷ 97 ∷ 121 ∷ 61 ∷ 49 ∷ 46 ∷ 53 ∷ 46 ∷ 52 ∷ 48 ∷ 10 ∷ []

-- tray=2.5.60
abbrev pub tray_sixty : List ℕ
tray_sixty = 116 ∷ 114 ∷ 97 ∷ 121 ∷ 61 ∷ 50 ∷ 46 ∷ 53 ∷ 46 ∷ 54 ∷ 48 ∷ 10 ∷ []

-- send=1,0,1,000101000003000500000046
abbrev pub send_seventy : List ℕ
send_seventy = 115 ∷ 101 ∷ 110 ∷ 100 ∷ 61 ∷ 49 ∷ 44 ∷ 48 ∷ 44 ∷ 49 ∷ 44 ∷ 48 ∷ 48 ∷ 48 ∷ 49 ∷ 48 ∷ 49 ∷ 48 ∷ 48 ∷ 48 ∷ 48 ∷ 48 ∷ 51 ∷ 48 ∷ 48 ∷ 48 ∷ 53 ∷ 48 ∷ 48 ∷ 48 ∷ 48 ∷ 48 ∷ 48 ∷ 52 ∷ 54 ∷ 10 ∷ []

-- end=
abbrev pub the_end : List ℕ
the_end = 101 ∷ 110 ∷ 100 ∷ 61 ∷ 10 ∷ []

-- the whole file
abbrev pub document : List ℕ
document = n_three ++ f_one ++ faulty_zero ++ tray_none ++ tray_forty ++ tray_sixty ++ send_seventy ++ the_end

-- what its header says: three nodes, one faulty at most, and that is node 0
abbrev pub header : Header
header = record { n = 3; f = 1; faulty = 0b001 }

-- ---- what is printed of it

abbrev pub printed : List ℕ
printed =
    110 ∷ 61 ∷ 51 ∷ 10
    ∷ 102 ∷ 61 ∷ 49 ∷ 10
    ∷ 110 ∷ 111 ∷ 100 ∷ 101 ∷ 61 ∷ 49 ∷ 10
    ∷ 108 ∷ 111 ∷ 103 ∷ 61 ∷ 49 ∷ 46 ∷ 53 ∷ 46 ∷ 52 ∷ 48 ∷ 44 ∷ 50 ∷ 46 ∷ 53 ∷ 46 ∷ 54 ∷ 48 ∷ 44 ∷ 51 ∷ 46 ∷ 53 ∷ 46 ∷ 55 ∷ 48 ∷ 10
    ∷ 115 ∷ 105 ∷ 103 ∷ 110 ∷ 101 ∷ 114 ∷ 115 ∷ 61 ∷ 49 ∷ 44 ∷ 50 ∷ 10
    ∷ 110 ∷ 111 ∷ 100 ∷ 101 ∷ 61 ∷ 50 ∷ 10
    ∷ 108 ∷ 111 ∷ 103 ∷ 61 ∷ 49 ∷ 46 ∷ 53 ∷ 46 ∷ 52 ∷ 48 ∷ 44 ∷ 50 ∷ 46 ∷ 53 ∷ 46 ∷ 54 ∷ 48 ∷ 44 ∷ 51 ∷ 46 ∷ 53 ∷ 46 ∷ 55 ∷ 48 ∷ 10
    ∷ 115 ∷ 105 ∷ 103 ∷ 110 ∷ 101 ∷ 114 ∷ 115 ∷ 61 ∷ 49 ∷ 44 ∷ 50 ∷ 10 ∷ []
