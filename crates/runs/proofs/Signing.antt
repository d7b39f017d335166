-- The premises of signing can be tested as those of a run can, and so can a count that does not find what the claim says.
use Prim.Native.Nat.{ℕ}
use mathlib.Core.Path.{◌≡◌, refl, ap, subst}
use mathlib.Core.Bool.{Bool, true, false, not, ◌&&◌, ◌||◌}
use mathlib.Core.List.{List}
use mathlib.Core.Option.{none, some}
use borrow.Author.Tests.{eqb-true, eqb-false, ne_eqb, not-true}
use lib.Dec.{eqb}
use Rattle.laws.specs.Members.{same}
use Rattle.laws.proofs.Tests.{clash, both, other}
use Rattle.laws.proofs.Members.{same_eq, same_self}
use Rattle.rules.specs.Refusals.{done}
use Rattle.rules.specs.Signers.{Mark, Slot, speaks}
use Rattle.signing.specs.Slots.{are_slots, slot_of}
use Rattle.signing.specs.Count.{signers_number}
use Rattle.agreement.specs.Hall.{Hall, closes}
use Rattle.agreement.specs.Granted.{Correct, Marked, SlotsCut, Alike, Reaches, Signs, Counts, Signing, Counting}
use Rattle.agreement.specs.Claim.{Signed}
use Rattle.runs.proofs.Deciding.{correct, is_correct, each_correct, at_correct}

-- a slot that speaks a mark, and one that speaks no other
speaks_it : (m : Mark) (s : Slot) → speaks m s ≡ true → s ≡ some m
speaks_it m none h = absurd (clash h refl)
speaks_it m (some x) h = ap (λ (k : Mark). some k) (same_eq x m h)

abbrev speaks_only : Mark → Slot → Bool
speaks_only m none = true
speaks_only m (some x) = same x m

only_it : (m x : Mark) (s : Slot) → speaks_only m s ≡ true → s ≡ some x → x ≡ m
only_it m x s h e = same_eq x m (subst (λ (t : Slot). speaks_only m t ≡ true) e h)

module _ (hall : Hall) (mark : ℕ → Mark) where
  -- ---- the premises

  abbrev all_cut : (slots : ℕ → List ℕ) → Bool
  all_cut slots = each_correct hall (λ i. are_slots hall.n (slots i))

  pub cut_by : (slots : ℕ → List ℕ) → all_cut slots ≡ true → SlotsCut hall slots
  cut_by slots h = at_correct hall _ h

  abbrev all_alike : Bool
  all_alike = each_correct hall (λ i. each_correct hall (λ j. same (mark i) (mark j)))

  pub alike_by : all_alike ≡ true → Alike hall mark
  alike_by h i j ci cj di dj e = same_eq (mark i) (mark j) (at_correct hall _ (at_correct hall _ h i ci) j cj)

  abbrev all_reach : (slots : ℕ → List ℕ) → Bool
  all_reach slots = each_correct hall (λ i. each_correct hall (λ j. eqb i j || speaks (mark j) (slot_of (slots i) j)))

  pub reaches_by : (slots : ℕ → List ℕ) → all_reach slots ≡ true → Reaches hall mark slots
  reaches_by slots h i j ci cj ne d =
      speaks_it (mark j) (slot_of (slots i) j) (other _ _ (at_correct hall _ (at_correct hall _ h i ci) j cj) (ne_eqb i j ne))

  pub signing_by : (slots : ℕ → List ℕ) → all_cut slots ≡ true → all_alike ≡ true → all_reach slots ≡ true → Signing hall mark slots
  signing_by slots c a r = record { cut = cut_by slots c; alike = alike_by a; reaches = reaches_by slots r }

  abbrev others_sign : (k : ℕ) (slots : List ℕ) → Bool
  others_sign k slots = each_correct hall (λ j. eqb j k || (eqb (closes hall j) done && speaks_only (mark j) (slot_of slots j)))

  pub signs_by : (k : ℕ) (slots : List ℕ) → others_sign k slots ≡ true → Signs hall mark k slots
  signs_by k slots h j x cj ne e =
      let t = both (eqb (closes hall j) done) (speaks_only (mark j) (slot_of slots j)) (other _ _ (at_correct hall _ h j cj) (ne_eqb j k ne)) in
      record { makes = eqb-true (closes hall j) done t.0; its = only_it (mark j) x (slot_of slots j) t.1 e }

  abbrev counts_right : (k : ℕ) (m : Mark) → Bool
  counts_right k m = hall.faulty k || (eqb (closes hall k) done && same m (mark k))

  pub counts_by : (k : ℕ) (m : Mark) → counts_right k m ≡ true → Counts hall mark k m
  counts_by k m h ck =
      let t = both (eqb (closes hall k) done) (same m (mark k)) (other (hall.faulty k) _ h ck.fine) in
      record { makes = eqb-true (closes hall k) done t.0; its = same_eq m (mark k) t.1 }

  pub counting_by : (k : ℕ) (m : Mark) (slots : List ℕ) → others_sign k slots ≡ true → counts_right k m ≡ true → Counting hall mark k m slots
  counting_by k m slots s c = record { signs = signs_by k slots s; counts = counts_by k m c }

  -- ---- what the claim says is not found

  pub not_found : (slots : ℕ → List ℕ) (i : ℕ) → correct hall i ≡ true → closes hall i ≡ done
      → eqb (signers_number hall.n hall.f i (mark i) (slots i)) done ≡ false → Signed hall mark slots → ⊥
  not_found slots i t d h s = eqb-false _ done h (s.finds i (is_correct hall i t) d).counts

  pub not_marked : (m : Mark) → each_correct hall (λ i. not (same m (mark i))) ≡ true → (i : ℕ) → Correct hall i → Marked hall mark i m → ⊥
  not_marked m h i ci k = clash (subst (λ (x : Mark). same m x ≡ true) k.its (same_self m)) (not-true _ (at_correct hall _ h i ci))
