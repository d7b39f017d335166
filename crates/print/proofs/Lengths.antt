-- How long a text is.
use Prim.Native.Nat.{◌%◌, ◌*◌, ◌+◌, ◌/◌, ◌<◌, ◌^◌, ◌≤◌, suc, zero, ℕ}
use mathlib.Core.Bool.{Bool, false, true}
use mathlib.Core.List.{List, [], ◌++◌, ◌∷◌}
use mathlib.Core.Path.{◌≡◌, refl}
use native.Mathlib.Nat.{one-le-pow, pow-suc}
use native.Mathlib.Omega.{arith}
use borrow.Author.Tests.{ltb-false, ltb-true}
use lib.Dec.{ltb}
use lib.ListN.{get_or, length, length-append}
use Rattle.text.specs.Places.{comma, dot, lf}
use Rattle.print.specs.Texts.{decimal_of, entry_text, item_text, line_text, list_text, low_text, more_text}
use Rattle.print.specs.declared.Items.TheVariants.{Entries, Nodes}
use Rattle.print.proofs.Printing.{small_length, step_length}

bound_case : (k v : ℕ) (t : Bool) → ltb v 10 ≡ t → v < 10 ^ suc (suc k) → (v / 10 < 10 ^ suc k → length (decimal_of (v / 10)) ≤ suc k)
    → length (decimal_of v) ≤ suc (suc k)
bound_case k v true e h ih = omega (arith, small_length v (ltb-true _ _ e))
bound_case k v false e h ih =
    let l : 10 ≤ v = ltb-false _ _ e in
    let p : 10 ^ suc (suc k) ≡ 10 ^ suc k * 10 = pow-suc 10 (suc k) in
    omega (arith, ih (omega (arith, p)), step_length v l)

-- a number below a power of ten has no more digits than that power
pub decimal_bound : (k v : ℕ) → v < 10 ^ suc k → length (decimal_of v) ≤ suc k
decimal_bound zero v h = omega (arith, small_length v (omega arith))
decimal_bound (suc k) v h = bound_case k v (ltb v 10) refl h (λ z. decimal_bound k (v / 10) z)

least_case : (k v : ℕ) (t : Bool) → ltb v 10 ≡ t → 10 ^ suc k ≤ v → (10 ^ k ≤ v / 10 → suc k ≤ length (decimal_of (v / 10)))
    → suc (suc k) ≤ length (decimal_of v)
least_case k v true e h ih = absurd (omega (arith, pow-suc 10 k, ltb-true _ _ e, one-le-pow k 10 (omega arith)))
least_case k v false e h ih =
    let l : 10 ≤ v = ltb-false _ _ e in
    omega (arith, ih (omega (arith, pow-suc 10 k)), step_length v l)

one_digit : (v : ℕ) (t : Bool) → ltb v 10 ≡ t → 1 ≤ length (decimal_of v)
one_digit v true e = omega (arith, small_length v (ltb-true _ _ e))
one_digit v false e = omega (arith, step_length v (ltb-false _ _ e))

-- and one that is no less than it has more
decimal_least : (k v : ℕ) → 10 ^ k ≤ v → suc k ≤ length (decimal_of v)
decimal_least zero v h = one_digit v (ltb v 10) refl
decimal_least (suc k) v h = least_case k v (ltb v 10) refl h (λ z. decimal_least k (v / 10) z)

-- the length of a number is one more than its logarithm
pub decimal_length : (k v : ℕ) → 10 ^ k ≤ v → v < 10 * 10 ^ k → length (decimal_of v) ≡ k + 1
decimal_length k v low high = let p : 10 ^ suc k ≡ 10 ^ k * 10 = pow-suc 10 k in omega (arith, decimal_least k v low, decimal_bound k v (omega (arith, p)))

pub entry_length : (x : ℕ) → length (entry_text x) ≡ length (decimal_of (x / 2 ^ 48)) + 1 + (length (decimal_of (x / 2 ^ 32 % 2 ^ 16)) + 1 + length
    (decimal_of (x % 2 ^ 32)))
entry_length x =
    omega (
      arith,
      length-append (decimal_of (x / 2 ^ 48) ++ (dot ∷ [])) (low_text x),
      length-append (decimal_of (x / 2 ^ 48)) (dot ∷ []),
      length-append (decimal_of (x / 2 ^ 32 % 2 ^ 16) ++ (dot ∷ [])) (decimal_of (x % 2 ^ 32)),
      length-append (decimal_of (x / 2 ^ 32 % 2 ^ 16)) (dot ∷ []),
    )

-- an entry has at most 22 bytes: 65535.65535.4294967295
pub entry_most : (x : ℕ) → x < 2 ^ 64 → length (entry_text x) ≤ 22
entry_most x h =
    let m = decimal_bound 4 (x / 2 ^ 48) (omega arith) in
    let i = decimal_bound 4 (x / 2 ^ 32 % 2 ^ 16) (omega arith) in
    let w = decimal_bound 9 (x % 2 ^ 32) (omega arith) in
    omega (arith, entry_length x, m, i, w)

pub line_length : (key value : List ℕ) → length (line_text key value) ≡ length key + length value + 1
line_length key value = omega (arith, length-append key (value ++ (lf ∷ [])), length-append value (lf ∷ []))

-- a list of entries has at most 22 bytes and a comma for each
more_entries : (xs : List ℕ) → ((k : ℕ) → get_or xs k 0 < 2 ^ 64) → length (more_text Entries xs) ≤ 23 * length xs
unfolding more_text item_text
more_entries [] h = omega arith
more_entries (x ∷ xs) h = omega (
  arith,
  length-append (comma ∷ entry_text x) (more_text Entries xs),
  entry_most x (h 0),
  more_entries xs (λ k. h (suc k)),
)

pub entries_most : (xs : List ℕ) → ((k : ℕ) → get_or xs k 0 < 2 ^ 64) → length (list_text Entries xs) ≤ 23 * length xs
unfolding list_text item_text
entries_most [] h = omega arith
entries_most (x ∷ xs) h = omega (arith, length-append (entry_text x) (more_text Entries xs), entry_most x (h 0), more_entries xs (λ k. h (suc k)))

-- a list of node numbers below 100 has at most two bytes and a comma for each
more_nodes : (xs : List ℕ) → ((k : ℕ) → get_or xs k 0 < 100) → length (more_text Nodes xs) ≤ 3 * length xs
unfolding more_text item_text
more_nodes [] h = omega arith
more_nodes (x ∷ xs) h =
    let b = decimal_bound 1 x (omega (arith, h 0)) in
    omega (arith, length-append (comma ∷ decimal_of x) (more_text Nodes xs), b, more_nodes xs (λ k. h (suc k)))

pub nodes_most_lem : (xs : List ℕ) → ((k : ℕ) → get_or xs k 0 < 100) → length (list_text Nodes xs) ≤ 3 * length xs
unfolding list_text item_text
nodes_most_lem [] h = omega arith
nodes_most_lem (x ∷ xs) h =
    let b = decimal_bound 1 x (omega (arith, h 0)) in
    omega (arith, length-append (decimal_of x) (more_text Nodes xs), b, more_nodes xs (λ k. h (suc k)))
