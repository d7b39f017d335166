-- The slots of nodes stand one after the other, each of the same size: one more is written after those before it, and each is found at its place.
use Prim.Native.Nat.{ℕ, zero, suc, ◌+◌, ◌*◌, ◌≤◌, ◌<◌}
use mathlib.Core.Path.{◌≡◌, refl, sym, ap, ap₂, ◌∙◌}
use mathlib.Core.Logic.{⊎_elim}
use mathlib.Core.Bool.{Bool, true, false}
use mathlib.Core.List.{List, ◌∷◌, ◌++◌, append_assoc}
use native.Mathlib.Nat.{not-suc-le-zero, le_of_suc-le-suc, eq-or-lt_of_le}
use native.Mathlib.Numerals.{add-one}
use native.Mathlib.Omega.{arith}
use borrow.Rule.Slice.PartMut.{put_mid}
use lib.ListN.{length, take, drop, replicate, length-append, length-drop}
use lib.Seq.{take_at, take_all, drop_at, drop-drop, take-append-le, drop-append-le}
use Rattle.rules.specs.Signers.{Mark}
use Rattle.rules.specs.Step.{gather}
use Rattle.signing.specs.Slots.{mark_size, slot_size, speaking}
use Rattle.outcome.specs.Marks.{mark_with}
use Rattle.outcome.specs.Spoken.{slot_with, slots_with}

pub mark_size_lem : (number : ℕ) → length (mark_with number) ≡ mark_size
mark_size_lem number = refl

pub slot_size_lem : (faulty : Bool) (mark : Mark) → length mark ≡ mark_size → length (slot_with faulty mark) ≡ slot_size
unfolding slot_with
slot_size_lem true mark l = refl
slot_size_lem false mark l = omega arith

-- a faulty node is silent, a correct one speaks
module _ (faulty : Bool) (mark : Mark) where
  pub silent_slot : faulty ≡ true → replicate slot_size 0 ≡ slot_with faulty mark
  unfolding slot_with
  silent_slot e = simp e

  pub speaking_slot : faulty ≡ false → speaking ∷ mark ≡ slot_with faulty mark
  unfolding slot_with
  speaking_slot e = simp e

module _ (t : ℕ → Bool) (mark : ℕ → Mark) (l : (j : ℕ) → length (mark j) ≡ mark_size) where
  pub slots_size : (n : ℕ) → length (slots_with t mark n) ≡ slot_size * n
  unfolding gather
  slots_size zero = refl
  slots_size (suc n) = omega (arith, length-append (slots_with t mark n) (slot_with (t n) (mark n)), slots_size n, slot_size_lem (t n) (mark n) (l n))

  slots_more : (n : ℕ) → slots_with t mark n ++ slot_with (t n) (mark n) ≡ slots_with t mark (n + 1)
  unfolding gather
  slots_more n = ap (slots_with t mark) (sym (add-one n))

  -- node j's slot stands at its place
  pub slot_at : (n j : ℕ) → j < n → take slot_size (drop (slot_size * j) (slots_with t mark n)) ≡ slot_with (t j) (mark j)
  unfolding gather
  slot_at zero j m = absurd (not-suc-le-zero m)
  slot_at (suc n) j m = ⊎_elim (λ e. last e) (λ k. before k (slot_at n j k)) (eq-or-lt_of_le (le_of_suc-le-suc m))
    where
      front : List ℕ
      front = slots_with t mark n

      new : List ℕ
      new = slot_with (t n) (mark n)

      last : j ≡ n → take slot_size (drop (slot_size * j) (front ++ new)) ≡ slot_with (t j) (mark j)
      last e =
          rw e (ap (take slot_size) (drop_at front new (slot_size * n) (slots_size n)) ∙ take_all slot_size new (omega (arith, slot_size_lem (t n) (mark n) (l n))))

      before : j < n → take slot_size (drop (slot_size * j) front) ≡ slot_with (t j) (mark j) → take slot_size (drop (slot_size * j) (front ++ new)) ≡ slot_with (t j) (mark j)
      before k h =
          let a : slot_size * j ≤ length front = omega (arith, slots_size n) in
          let b : slot_size ≤ length (drop (slot_size * j) front) = omega (arith, slots_size n, length-drop (slot_size * j) front) in
          ap (take slot_size) (drop-append-le (slot_size * j) front new a) ∙ take-append-le slot_size (drop (slot_size * j) front) new b ∙ h

  -- ---- writing one after the other: output₀ before, output with those below j

  pub none_spoken : (output : List ℕ) → output ≡ slots_with t mark 0 ++ drop (slot_size * 0) output
  unfolding gather
  none_spoken output = refl

  module _ (output₀ output : List ℕ) (j : ℕ) (e : output ≡ slots_with t mark j ++ drop (slot_size * j) output₀) where
    pub next_spoken : (w : List ℕ) (k : ℕ) → w ≡ slot_with (t j) (mark j) → slot_size * j + k ≡ slot_size * (j + 1)
        → put_mid (slot_size * j) k output w ≡ slots_with t mark (j + 1) ++ drop (slot_size * (j + 1)) output₀
    next_spoken w k we size =
        let front : List ℕ = slots_with t mark j in
        let before : take (slot_size * j) output ≡ front = ap (take (slot_size * j)) e ∙ take_at front (drop (slot_size * j) output₀) (slot_size * j) (slots_size j) in
        let behind : drop (slot_size * j) output ≡ drop (slot_size * j) output₀ = ap (drop (slot_size * j)) e ∙ drop_at front (drop (slot_size * j) output₀) (slot_size * j) (slots_size j) in
        ap₂ (λ (x z : List ℕ). x ++ (w ++ z)) before (ap (drop k) behind ∙ drop-drop k (slot_size * j) output₀ ∙ ap (λ (i : ℕ). drop i output₀) size)
        ∙ sym (append_assoc front w (drop (slot_size * (j + 1)) output₀))
        ∙ ap (λ (x : List ℕ). x ++ drop (slot_size * (j + 1)) output₀) (ap (λ (x : List ℕ). front ++ x) we ∙ slots_more j)
