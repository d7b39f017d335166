-- "in this order: `n`, `f`, `faulty` (ascending node numbers by commas, or empty)"; "n by its size, f by 2f < n, more than f faulty at the `faulty` line".
use Rattle.std.specs.Prelude.{ℕ, ◌+◌, ◌*◌, Bool, cond, List, [], ◌∷◌, ltb, leb, eqb, length, get_or, drop, Option, Some, None, Result, Ok, Err}
use Rattle.laws.specs.Masks.{bit, mask_of}
use Rattle.laws.specs.Members.{holds}
use Rattle.rules.specs.Sizes.{nodes_most, sized}
use Rattle.text.specs.Numbers.{word_most}
use Rattle.text.specs.Lines.{number_line, list_line}
use Rattle.text.specs.declared.Kind.TheVariants.{Below}
use Rattle.header.specs.Keys.{nodes_key, faults_key, faulty_key}
use Rattle.header.specs.declared.Key.{Key}
use Rattle.header.specs.declared.Key.TheVariants.{Nodes, Faults, Faulty}
use Rattle.header.specs.declared.Header.{Header}
use Rattle.header.specs.declared.BadLine.{BadLine}

-- the header lines, in their order: a line's number is its place in this list, counted from 1
abbrev pub header_keys : List Key
header_keys = Nodes ∷ Faults ∷ Faulty ∷ []

-- how many they are
abbrev pub header_size : ℕ
header_size = length header_keys

-- the header before its first line
abbrev pub no_header : Header
no_header = record { n = 0; f = 0; faulty = 0 }

-- the mask of the nodes in a list
abbrev pub mask_in : List ℕ → ℕ
mask_in xs = mask_of (λ (j : ℕ). holds j xs) nodes_most

-- node j's bit in the mask of the faulty nodes
abbrev pub faulty_bit : Header → ℕ → Bool
faulty_bit h j = eqb (bit h.faulty j) 1

-- the line with this number is bad
abbrev pub bad : ℕ → Result Header BadLine
bad k = Err (record { 0 = k })

-- n nodes: bad by its size
unfoldable pub with_nodes : ℕ → Header → Option ℕ → Result Header BadLine
with_nodes k h (Some n) = cond (sized n) (Ok (record { n = n; f = h.f; faulty = h.faulty })) (bad k)
with_nodes k h None = bad k

-- f with 2f < n
unfoldable pub with_faults : ℕ → Header → Option ℕ → Result Header BadLine
with_faults k h (Some f) = cond (ltb (2 * f) h.n) (Ok (record { n = h.n; f = f; faulty = h.faulty })) (bad k)
with_faults k h None = bad k

-- at most f faulty nodes
unfoldable pub with_faulty : ℕ → Header → Option (List ℕ) → Result Header BadLine
with_faulty k h None = bad k
with_faulty k h (Some xs) = cond (leb (length xs) h.f) (Ok (record { n = h.n; f = h.f; faulty = mask_in xs })) (bad k)

-- what line k, which has this key, makes of the header so far
unfoldable pub with_line : Key → ℕ → Header → List ℕ → Result Header BadLine
with_line Nodes k h l = with_nodes k h (number_line nodes_key word_most l)
with_line Faults k h l = with_faults k h (number_line faults_key word_most l)
with_line Faulty k h l = with_faulty k h (list_line faulty_key (Below h.n) l)

-- a bad line ends the reading
unfoldable pub and_then : Result Header BadLine → (Header → Result Header BadLine) → Result Header BadLine
and_then (Ok h) rest = rest h
and_then (Err line) rest = Err line

-- the lines with these keys, of which the first is line k; a missing line is empty, and so bad
unfoldable pub head_from : List Key → ℕ → Header → List (List ℕ) → Result Header BadLine
head_from [] k h ls = Ok h
head_from (key ∷ keys) k h ls = and_then (with_line key k h (get_or ls 0 [])) (λ (x : Header). head_from keys (k + 1) x (drop 1 ls))

-- the header of a schedule's lines, or its first bad line
abbrev pub headed_of : List (List ℕ) → Result Header BadLine
headed_of ls = head_from header_keys 1 no_header ls
