-- What a slot says, and where each slot stands among them.
use Rattle.std.proofs.Common.{ℕ, zero, suc, ◌+◌, ◌*◌, ◌/◌, ◌<◌, ◌≡◌, Bool, true, false, ◌&&◌, List, [], ◌∷◌, eqb, length, get_or, take, drop, refl, ◌∙◌, ap, arith}
use Rattle.std.proofs.Math.Nat.{mul-zero}
use Rattle.std.proofs.Math.Seq.{drop-drop}
use Rattle.std.specs.List.{fold, zip}
use Rattle.std.specs.Simd.{first_chunks}
use Rattle.laws.specs.Members.{same}
use Rattle.rules.specs.Signers.{Mark, signer}
use Rattle.signing.specs.Slots.{slot_size, slot_in, slot_of}
use mathlib.Core.Logic.{◌≢◌}
use mathlib.Core.Path.{sym, ap₂}
use Prim.Native.Nat.{◌-◌}
use borrow.Author.Tests.{eq-eqb, ne_eqb}
use Rattle.rules.specs.Signers.{speaks}
use Rattle.signing.specs.Slots.{mark_size, speaking}

-- two lists of one length are equal where each pair of bytes is, all of them tested
none_joins : (ps : List (ℕ × ℕ)) → fold (λ (b : Bool) (p : ℕ × ℕ). b && eqb p.0 p.1) false ps ≡ false
none_joins [] = refl
none_joins (p ∷ ps) = none_joins ps

pub alike : (xs ys : List ℕ) → length xs ≡ length ys → fold (λ (b : Bool) (p : ℕ × ℕ). b && eqb p.0 p.1) true (zip xs ys) ≡ same xs ys
alike [] [] h = refl
alike [] (y ∷ ys) h = absurd (omega arith)
alike (x ∷ xs) [] h = absurd (omega arith)
alike (x ∷ xs) (y ∷ ys) h = go (eqb x y) (alike xs ys (omega arith))
  where
    go : (t : Bool) → fold (λ (b : Bool) (p : ℕ × ℕ). b && eqb p.0 p.1) true (zip xs ys) ≡ same xs ys
        → fold (λ (b : Bool) (p : ℕ × ℕ). b && eqb p.0 p.1) t (zip xs ys) ≡ (t && same xs ys)
    go true e = e
    go false e = none_joins (zip xs ys)

-- bytes cut into parts of n: part j starts at n * j
part_at : (n k : ℕ) (bytes : List ℕ) (j : ℕ) (d : List ℕ) → j < k → get_or (first_chunks n k bytes) j d ≡ take n (drop (n * j) bytes)
part_at n zero bytes j d h = absurd (omega arith)
part_at n (suc k) bytes zero d h = rw mul-zero refl
part_at n (suc k) bytes (suc j) d h =
    let e : n + n * j ≡ n * suc j = omega arith in
    part_at n k (drop n bytes) j d (omega arith) ∙ ap (take n) (drop-drop (n * j) n bytes ∙ ap (λ (i : ℕ). drop i bytes) e)

-- the j-th of the slots as they are cut is node j's
pub signs_there : (me : ℕ) (mark : Mark) (slots : List ℕ) (parts : List (List ℕ)) → parts ≡ first_chunks slot_size (length slots / slot_size) slots
    → (j : ℕ) (d : List ℕ) → j < length slots / slot_size
    → signer me mark (λ (i : ℕ). slot_in (get_or parts j d)) j ≡ signer me mark (slot_of slots) j
unfolding signer
signs_there me mark slots parts e j d h = rw (e, part_at slot_size (length slots / slot_size) slots j d h) refl

-- ---- what a slot says goes by its first byte, and who is a signer by the number first and by the slot after

module _ (bytes : List ℕ) (mark : Mark) where
  pub silence : get_or bytes 0 0 ≢ speaking → speaks mark (slot_in bytes) ≡ false
  unfolding slot_in
  silence h = simp (ne_eqb _ _ h)

  pub speech : length bytes ≡ slot_size → get_or bytes 0 0 ≡ speaking → speaks mark (slot_in bytes) ≡ same (take (length bytes - 1) (drop 1 bytes)) mark
  unfolding slot_in
  speech l h =
      let e : mark_size ≡ length bytes - 1 = omega arith in
      simp (eq-eqb _ _ h) (ap (λ (k : ℕ). same (take k (drop 1 bytes)) mark) e)

module _ (me : ℕ) (mark : Mark) (slots : List ℕ) (j : ℕ) where
  pub own_signs : j ≡ me → signer me mark (slot_of slots) j ≡ true
  unfolding signer
  own_signs e = simp (eq-eqb j me e)

  -- another signs where its slot does, cut out from one place to another
  pub other_signs : (start end : ℕ) → j ≢ me → start ≡ slot_size * j → end ≡ start + slot_size
      → signer me mark (slot_of slots) j ≡ speaks mark (slot_in (take (end - start) (drop start slots)))
  unfolding signer
  other_signs start end h s e =
      let k : slot_size ≡ end - start = omega arith in
      simp (ne_eqb j me h) (ap₂ (λ (x y : ℕ). speaks mark (slot_in (take x (drop y slots)))) k (sym s))
