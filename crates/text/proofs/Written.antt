-- Text that is put is determined: what is answered and what the output holds afterwards.
use Prim.Native.Nat.{◌<◌, ◌≤◌, ℕ}
use mathlib.Core.List.{List, []}
use mathlib.Core.Path.{◌∙◌, ◌≡◌, refl, subst, sym}
use native.Mathlib.Omega.{arith}
use borrow.Author.Tests.{le-leb, lt-leb}
use lib.ListN.{length}
use Rattle.laws.specs.Parts.{onto}
use Rattle.text.specs.Put.{Put}

pub put_determined : (w out after after' : List ℕ) (a a' : ℕ) → Put w out a after → Put w out a' after' → (a ≡ a') × (after ≡ after')
put_determined w out after after' a a' p q = (p.answers ∙ sym q.answers, p.leaves ∙ sym q.leaves)

-- there is room, and it is written
pub put_done : (w out after : List ℕ) (a : ℕ) → length w ≤ length out → a ≡ length w → after ≡ onto w out → Put w out a after
put_done w out after a h e f = record { answers = e ∙ simp (le-leb _ _ h); leaves = f ∙ simp (le-leb _ _ h) }

-- there is no room, and nothing is written
pub put_none : (w out : List ℕ) → length out < length w → Put w out 0 out
put_none w out h = record { answers = simp (lt-leb _ _ h); leaves = simp (lt-leb _ _ h) }

-- nothing is to be written
pub put_nothing : (w out : List ℕ) → w ≡ [] → Put w out 0 out
put_nothing w out e = subst (λ (x : List ℕ). Put x out 0 out) (sym e) (put_done [] out out 0 (omega arith) refl refl)

-- equal texts are put alike
pub put_equal : (v w out after : List ℕ) (a : ℕ) → v ≡ w → Put v out a after → Put w out a after
put_equal v w out after a e p = subst (λ (x : List ℕ). Put x out a after) e p
