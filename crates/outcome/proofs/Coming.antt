-- What is held, numbered, spoken and counted is what the logs of the correct nodes give.
use Prim.Native.Nat.{ℕ, ◌*◌, ◌≤◌, ◌<◌}
use mathlib.Core.Path.{◌≡◌, refl, sym, ap, ap₂, ◌∙◌}
use mathlib.Core.Bool.{Bool, false}
use mathlib.Core.List.{List}
use native.Mathlib.Nat.{le_trans}
use lib.ListN.{length, get_or, take, drop}
use lib.Seq.{take_at}
use Rattle.laws.specs.Parts.{onto}
use Rattle.rules.specs.Sizes.{nodes_most}
use Rattle.entries.specs.Places.{held_in}
use Rattle.entries.specs.declared.places.Places.{Places}
use Rattle.closing.specs.Gather.{decided_most}
use Rattle.signing.specs.Slots.{slot_size}
use Rattle.outcome.specs.Marks.{mark_with, mark_at}
use Rattle.outcome.specs.Spoken.{slots_with, slots_at}
use Rattle.outcome.specs.Signing.{counted_with, mask_at}
use Rattle.outcome.specs.Held.{log_at, AllHeld, Numbered, AllCounted}
use Rattle.outcome.specs.declared.marks.Numbers.{Numbers}
use Rattle.outcome.proofs.Made.{held_log}
use Rattle.outcome.proofs.Speaking.{mark_size_lem, slots_size}
use Rattle.outcome.proofs.Alike.{slots_same, mark_same}

-- the slots that were written are the first bytes of the places
pub spoken_part : (t : ℕ → Bool) (numbers : List ℕ) (n : ℕ) (places after : List ℕ) (size : ℕ) → size ≡ slot_size * n
    → after ≡ onto (slots_with t (λ j. mark_with (get_or numbers j 0)) n) places → take size after ≡ slots_with t (λ j. mark_with (get_or numbers j 0)) n
spoken_part t numbers n places after size z e =
    let w : List ℕ = slots_with t (λ j. mark_with (get_or numbers j 0)) n in
    ap (take size) e ∙ take_at w (drop (length w) places) size (slots_size t (λ j. mark_with (get_or numbers j 0)) (λ j. mark_size_lem (get_or numbers j 0)) n ∙ sym z)

-- ---- by the logs

module _ (n f : ℕ) (t : ℕ → Bool) (log : ℕ → List ℕ) (held : List (Places decided_most)) (h : AllHeld log nodes_most held) (most : n ≤ nodes_most)
    (x : Numbers) (num : Numbered t (log_at held) n x) where
  its_log : (j : ℕ) → j < n → t j ≡ false → log_at held j ≡ log j
  its_log j l e = ap held_in (h j (le_trans l most)) ∙ held_log (log j)

  its_mark : (j : ℕ) → j < n → t j ≡ false → mark_with (get_or x.of j 0) ≡ mark_at t log n j
  its_mark j l e = ap mark_with (num.each j l e) ∙ mark_same n t t (λ k m. refl) (log_at held) log its_log j l e

  its_slots : slots_with t (λ j. mark_with (get_or x.of j 0)) n ≡ slots_at t log n
  its_slots = slots_same n t t (λ k m. refl) (λ j. mark_with (get_or x.of j 0)) (mark_at t log n) its_mark

  pub its_signers : (masks : List ℕ) → AllCounted n f (λ j. mark_with (get_or x.of j 0)) (slots_with t (λ j. mark_with (get_or x.of j 0)) n) n masks
      → (i : ℕ) → i < n → t i ≡ false → get_or masks i 0 ≡ mask_at n f t log i
  its_signers masks c i l e = c i l ∙ ap₂ (counted_with n f i) (its_mark i l e) its_slots
