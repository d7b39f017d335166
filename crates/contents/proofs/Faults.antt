-- The faulty nodes: their list and their mask are of one mind, and a list counts no more nodes than it has.
use Prim.Native.Nat.{◌+◌, ◌<◌, ◌≤◌, suc, zero, ℕ}
use mathlib.Core.Bool.{Bool, ◌&&◌, ◌||◌, false, true}
use mathlib.Core.List.{List, [], ◌∷◌}
use mathlib.Core.Path.{◌∙◌, ◌≡◌, ap, ap₂, refl, sym}
use native.Mathlib.Omega.{arith}
use borrow.Author.Tests.{eqb-true, le-ltb, lt-ltb, ltb-true}
use lib.Dec.{eqb, ltb}
use lib.ListN.{length}
use Rattle.laws.specs.Masks.{as_bit, bit, count, mask_of}
use Rattle.laws.specs.Members.{holds}
use Rattle.laws.proofs.Count.{count_none}
use Rattle.laws.proofs.Bits.{mask_bit}
use Rattle.laws.proofs.Tests.{clash}
use Rattle.rules.specs.Sizes.{nodes_most}
use Rattle.text.specs.Lines.{lines_of}
use Rattle.header.specs.Header.{headed_of}
use Rattle.header.specs.Header.{faulty_bit}
use Rattle.header.specs.declared.BadLine.{BadLine}
use Rattle.std.specs.Prelude.{Result, Ok, Err}
use Rattle.header.specs.declared.Header.{Header}
use Rattle.header.proofs.Heads.{Whole, header_told}
use Rattle.contents.specs.Contents.{header_as, header_of, faulty_in, faulty_line, faulty_of, is_faulty, is_faulty_key, items_in}

-- ---- the list of a header that was read

pub faulty_is : (s : List ℕ) (h : Header) (e : headed_of (lines_of s) ≡ Ok h) (w : Whole (lines_of s) h) → faulty_of s ≡ w.faulty
unfolding faulty_in faulty_line is_faulty_key items_in
faulty_is s h e w = ap (λ (x : Result Header BadLine). faulty_in x (lines_of s)) e ∙ ap items_in w.listed

pub mask_is : (s : List ℕ) (h : Header) → headed_of (lines_of s) ≡ Ok h → h.faulty ≡ mask_of (is_faulty s) nodes_most
mask_is s h e =
    let w = header_told (lines_of s) h e in
    w.mask ∙ ap (λ (xs : List ℕ). mask_of (λ (j : ℕ). holds j xs) nodes_most) (sym (faulty_is s h e w))

pub no_mask : (s : List ℕ) (b : BadLine) → headed_of (lines_of s) ≡ Err b → 0 ≡ mask_of (is_faulty s) nodes_most
unfolding faulty_in mask_of
no_mask s b e = ap (λ (x : Result Header BadLine). mask_of (λ (j : ℕ). holds j (faulty_in x (lines_of s))) nodes_most) (sym e)

pub mask_held : (s : List ℕ) → (header_of s).faulty ≡ mask_of (is_faulty s) nodes_most
unfolding header_as
mask_held s = go (headed_of (lines_of s)) refl
  where
    go : (r : Result Header BadLine) → headed_of (lines_of s) ≡ r → (header_as r).faulty ≡ mask_of (is_faulty s) nodes_most
    go (Ok h) e = mask_is s h e
    go (Err b) e = no_mask s b e

-- ---- the bits of the mask are the members of the list

module _ (s : List ℕ) (h : Header) (e : headed_of (lines_of s) ≡ Ok h) (j : ℕ) where
  bit_is : bit h.faulty j ≡ as_bit (ltb j nodes_most && is_faulty s j)
  bit_is = ap (λ (m : ℕ). bit m j) (mask_is s h e) ∙ mask_bit (is_faulty s) nodes_most j

  pub bit_faulty : faulty_bit h j ≡ true → (j < nodes_most) × (is_faulty s j ≡ true)
  bit_faulty q = go (ltb j nodes_most) (is_faulty s j) refl refl
    where
      go : (a b : Bool) → ltb j nodes_most ≡ a → is_faulty s j ≡ b → (j < nodes_most) × (is_faulty s j ≡ true)
      go true true x y = (ltb-true j nodes_most x, y)
      go true false x y = absurd (clash q (ap (λ (m : ℕ). eqb m 1) (bit_is ∙ ap₂ (λ (u v : Bool). as_bit (u && v)) x y)))
      go false b x y = absurd (clash q (ap (λ (m : ℕ). eqb m 1) (bit_is ∙ ap₂ (λ (u v : Bool). as_bit (u && v)) x y)))

  pub bit_correct : j < nodes_most → faulty_bit h j ≡ false → is_faulty s j ≡ false
  bit_correct l q = go (is_faulty s j) refl
    where
      go : (b : Bool) → is_faulty s j ≡ b → is_faulty s j ≡ false
      go false y = y
      go true y = absurd (clash (ap (λ (m : ℕ). eqb m 1) (bit_is ∙ ap₂ (λ (u v : Bool). as_bit (u && v)) (lt-ltb j nodes_most l) y)) q)

-- ---- a list counts no more than it has

count_either : (t u : ℕ → Bool) (n : ℕ) → count (λ (j : ℕ). t j || u j) n ≤ count t n + count u n
unfolding count
count_either t u zero = omega arith
count_either t u (suc n) = go (t n) (u n) (count_either t u n)
  where
    go : (a b : Bool) → count (λ (j : ℕ). t j || u j) n ≤ count t n + count u n
        → as_bit (a || b) + count (λ (j : ℕ). t j || u j) n ≤ as_bit a + count t n + (as_bit b + count u n)
    go true true h = omega arith
    go true false h = omega arith
    go false true h = omega arith
    go false false h = omega arith

count_one : (x n : ℕ) → count (λ (j : ℕ). eqb x j) n ≤ as_bit (ltb x n)
unfolding count
count_one x zero = omega arith
count_one x (suc n) = go (eqb x n) refl (count_one x n)
  where
    go : (t : Bool) → eqb x n ≡ t → count (λ (j : ℕ). eqb x j) n ≤ as_bit (ltb x n) → as_bit t + count (λ (j : ℕ). eqb x j) n ≤ as_bit (ltb x (suc n))
    go true e h =
        let q : x ≡ n = eqb-true x n e in
        let a : n ≤ x = omega arith in
        let b : x < suc n = omega arith in
        rw (lt-ltb x (suc n) b) (omega (arith, rw (le-ltb x n a) at h))
    go false e h = up (ltb x n) refl
      where
        up : (t : Bool) → ltb x n ≡ t → as_bit false + count (λ (j : ℕ). eqb x j) n ≤ as_bit (ltb x (suc n))
        up true k = let b : x < suc n = omega (arith, ltb-true x n k) in rw (lt-ltb x (suc n) b) (omega (arith, rw k at h))
        up false k = omega (arith, rw k at h)

at_most_one : (t : Bool) → as_bit t ≤ 1
at_most_one true = omega arith
at_most_one false = omega arith

pub count_listed : (xs : List ℕ) (n : ℕ) → count (λ (j : ℕ). holds j xs) n ≤ length xs
count_listed [] n = omega (arith, count_none n)
count_listed (x ∷ xs) n =
    omega (arith, count_either (λ (j : ℕ). eqb x j) (λ (j : ℕ). holds j xs) n, count_one x n, at_most_one (ltb x n), count_listed xs n)
