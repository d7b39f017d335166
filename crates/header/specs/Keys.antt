-- "lines of key=value": the keys of the header, each with its `=`.
use Rattle.std.specs.Prelude.{ℕ, List, [], ◌∷◌}

-- n=
abbrev pub nodes_key : List ℕ
nodes_key = 110 ∷ 61 ∷ []

-- f=
abbrev pub faults_key : List ℕ
faults_key = 102 ∷ 61 ∷ []

-- faulty=
abbrev pub faulty_key : List ℕ
faulty_key = 102 ∷ 97 ∷ 117 ∷ 108 ∷ 116 ∷ 121 ∷ 61 ∷ []
