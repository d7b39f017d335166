-- Messages put after their length, one slot after the other.
use Prim.Native.Nat.{ℕ, ◌+◌, ◌*◌, ◌/◌, ◌%◌, ◌≤◌}
use mathlib.Core.Path.{◌≡◌, refl, sym, ap, ap₂, ◌∙◌}
use mathlib.Core.List.{List, [], ◌∷◌, ◌++◌, append-nil, append_assoc}
use native.Mathlib.Numerals.{add-one}
use native.Mathlib.Omega.{arith}
use lib.ListN.{length, take, drop, length-append, length-drop, take-append-drop}
use lib.Seq.{take_at, drop_at, drop-drop, drop-append-le, length-take-le}
use Rattle.laws.specs.Parts.{onto}
use Rattle.rules.specs.Step.{gather}
use Rattle.wire.specs.Sizes.{length_size, message_most}
use Rattle.wire.specs.Inbox.{inbox_bytes}
use Rattle.roundtrip.proofs.Inboxes.{inbox_append}

-- ---- a message after its length

-- what is put in a slot
abbrev pub slot : List ℕ → List ℕ
slot m = inbox_bytes (m ∷ [])

pub slot_length : (m : List ℕ) → length (slot m) ≡ length_size + length m
unfolding inbox_bytes
slot_length m = omega (arith, ap length (append-nil m))

pub one_slot : (o y m : List ℕ) (k : ℕ) → length_size ≤ length o → k ≡ length m → y ≡ onto m (drop length_size o)
    → k % 256 ∷ k / 256 % 256 ∷ y ≡ onto (slot m) o
unfolding inbox_bytes
one_slot [] y m k l q e = absurd (omega arith)
one_slot (a ∷ []) y m k l q e = absurd (omega arith)
one_slot (a ∷ b ∷ o) y m k l q e =
    let same : m ++ drop (length m) o ≡ (m ++ []) ++ drop (length (m ++ [])) o = ap (λ (t : List ℕ). t ++ drop (length t) o) (sym (append-nil m)) in
    ap₂ (λ (x : ℕ) (t : List ℕ). x % 256 ∷ x / 256 % 256 ∷ t) q (e ∙ same)

-- ---- slot after slot

-- as many bytes as a slot may have
abbrev pub slot_most : ℕ
slot_most = length_size + message_most

-- what is written over the front of a part that was lent is written over the front
part_home : (w x : List ℕ) (k : ℕ) → length w ≤ k → k ≤ length x → onto w (take k x) ++ drop k x ≡ onto w x
part_home w x k l h =
    append_assoc w (drop (length w) (take k x)) (drop k x)
    ∙ ap (λ (t : List ℕ). w ++ t) (sym (drop-append-le (length w) (take k x) (drop k x) (omega (arith, length-take-le k x h))) ∙ ap (drop (length w)) (take-append-drop k x))

-- the first j slots, of these messages
abbrev pub slots : (ℕ → List ℕ) → ℕ → List ℕ
slots m j = inbox_bytes (gather (λ (k : ℕ). m k ∷ []) j)

module _ (m : ℕ → List ℕ) (d : List ℕ) where
  -- the first j are put, and `at` is where they end
  pub record Slotted (j at : ℕ) (o : List ℕ) : Type 0 where
    pub ends : at ≡ length (slots m j)
    pub low : at ≤ slot_most * j
    pub holds : o ≡ slots m j ++ drop at d

  pub none_slotted : Slotted 0 0 d
  unfolding gather inbox_bytes
  none_slotted = record { ends = refl; low = omega arith; holds = refl }

  slots_more : (j : ℕ) → slots m j ++ slot (m j) ≡ slots m (j + 1)
  unfolding gather
  slots_more j = sym (inbox_append (gather (λ (k : ℕ). m k ∷ []) j) (m j ∷ [])) ∙ ap (slots m) (sym (add-one j))

  pub one_slotted : (j at k : ℕ) (o y : List ℕ) → Slotted j at o → k ≡ slot_most → at + slot_most ≤ length d → length o ≡ length d → length (m j) ≤ message_most → (a : ℕ)
      → a ≡ length (slot (m j)) → y ≡ onto (slot (m j)) (take k (drop at o)) → Slotted (j + 1) (at + a) (take at o ++ (y ++ drop k (drop at o)))
  one_slotted j at k o y here z l same short a e put =
      let p = slots m j in
      let w = slot (m j) in
      let few : length w ≤ slot_most = omega (arith, slot_length (m j), short) in
      record {
        ends = omega (arith, here.ends, e, length-append p w, ap length (slots_more j));
        low = omega (arith, here.low, e, few);
        holds =
            ap (λ (t : List ℕ). take at o ++ (t ++ drop k (drop at o))) put
            ∙ ap (λ (t : List ℕ). take at o ++ t) (part_home w (drop at o) k (omega (arith, few)) (omega (arith, length-drop at o, same)))
            ∙ ap₂ (λ (x t : List ℕ). x ++ onto w t) (ap (take at) here.holds ∙ take_at p (drop at d) at (sym here.ends))
            (ap (drop at) here.holds ∙ drop_at p (drop at d) at (sym here.ends))
            ∙ ap (λ (t : List ℕ). p ++ (w ++ t)) (drop-drop (length w) at d)
            ∙ sym (append_assoc p w (drop (at + length w) d))
            ∙ ap₂ (λ (t : List ℕ) (b : ℕ). t ++ drop (at + b) d) (slots_more j) (sym e);
      }
