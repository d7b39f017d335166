-- "lines of key=value": the keys of the lines after the header, each with its `=`.
use Rattle.std.specs.Prelude.{ℕ, List, [], ◌∷◌}

-- tray=
abbrev pub tray_key : List ℕ
tray_key = 116 ∷ 114 ∷ 97 ∷ 121 ∷ 61 ∷ []

-- send=
abbrev pub send_key : List ℕ
send_key = 115 ∷ 101 ∷ 110 ∷ 100 ∷ 61 ∷ []

-- end=
abbrev pub end_key : List ℕ
end_key = 101 ∷ 110 ∷ 100 ∷ 61 ∷ []
