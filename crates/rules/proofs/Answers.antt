-- What an answer tells: a row's number is one row's alone, so a promise determines its answer; and what an answer is built from.
use Rattle.std.proofs.Common.{ℕ, zero, suc, ◌-◌, ◌≡◌, List, [], ◌∷◌, get_or, refl, sym, ap, ◌∙◌, arith, Option, Some, None, Result, Ok, Err}
use Rattle.rules.specs.declared.refusal.Refusal.{Refusal}
use Rattle.rules.specs.declared.refusal.Refusal.TheVariants.{Sizes, Unsound, Phase, IllCut, Held, Full, NoLog, LogFull, Short, FewSigners, FirstAfterLast}
use Rattle.rules.specs.Refusals.{done, if_done}
use Rattle.rules.specs.Answers.{number_of, number_in, value_in, Answers}

-- ---- a row and its number

rows : List Refusal
rows = Sizes ∷ Unsound ∷ Phase ∷ IllCut ∷ Held ∷ Full ∷ NoLog ∷ LogFull ∷ Short ∷ FewSigners ∷ FirstAfterLast ∷ []

row_of : ℕ → Refusal
row_of k = get_or rows (k - 1) Sizes

row_back : (r : Refusal) → row_of (number_of r) ≡ r
unfolding row_of rows
row_back Sizes = refl
row_back Unsound = refl
row_back Phase = refl
row_back IllCut = refl
row_back Held = refl
row_back Full = refl
row_back NoLog = refl
row_back LogFull = refl
row_back Short = refl
row_back FewSigners = refl
row_back FirstAfterLast = refl

pub same_row : (a b : Refusal) → number_of a ≡ number_of b → a ≡ b
same_row a b e = sym (row_back a) ∙ ap row_of e ∙ row_back b

-- no row has the number of a call that is done
pub no_row : {P : Type 0} (r : Refusal) → number_of r ≡ done → P
no_row Sizes e = absurd (omega arith)
no_row Unsound e = absurd (omega arith)
no_row Phase e = absurd (omega arith)
no_row IllCut e = absurd (omega arith)
no_row Held e = absurd (omega arith)
no_row Full e = absurd (omega arith)
no_row NoLog e = absurd (omega arith)
no_row LogFull e = absurd (omega arith)
no_row Short e = absurd (omega arith)
no_row FewSigners e = absurd (omega arith)
no_row FirstAfterLast e = absurd (omega arith)

-- ---- what gives an answer

refused_by : {A : Type 0} (k : ℕ) (v : A) (r : Refusal) → k ≡ number_of r → Answers k v (Err r)
refused_by zero v r e = no_row r (sym e)
refused_by (suc k) v r e = record { number_is = sym e; value_is = refl }

-- the first row that refuses is this one
pub refuses : {A : Type 0} {k : ℕ} {v : A} {r : Refusal} → k ≡ number_of r → Answers k v (Err r)
refuses {A} {k} {v} {r} e = refused_by k v r e

answered_by : {A : Type 0} (k : ℕ) (v x : A) → k ≡ done → x ≡ v → Answers k v (Ok x)
answered_by zero v x e q = record { number_is = refl; value_is = ap Some q }
answered_by (suc k) v x e q = absurd (omega arith)

-- no row refuses
pub answers : {A : Type 0} {k : ℕ} {v x : A} → k ≡ done → x ≡ v → Answers k v (Ok x)
answers {A} {k} {v} {x} e q = answered_by k v x e q

-- ---- what an answer tells

given_by : {A : Type 0} (k : ℕ) (v x : A) → Answers k v (Ok x) → x ≡ v
given_by zero v x p = let e : Some x ≡ Some v = p.value_is in cc
given_by (suc k) v x p = absurd (omega arith)

-- it is done, and the value is this one
pub given : {A : Type 0} {k : ℕ} {v x : A} → Answers k v (Ok x) → (k ≡ done) × (x ≡ v)
given {A} {k} {v} {x} p = (sym p.number_is, given_by k v x p)

same_answer : {A : Type 0} (a b : Result A Refusal) → number_in a ≡ number_in b → value_in a ≡ value_in b → a ≡ b
same_answer (Ok x) (Ok y) e f = cc
same_answer (Ok x) (Err s) e f = no_row s (sym e)
same_answer (Err r) (Ok y) e f = no_row r e
same_answer (Err r) (Err s) e f = ap Err (same_row r s e)

-- any two answers that satisfy the promise are equal
pub determined : {A : Type 0} {k : ℕ} {v : A} (a b : Result A Refusal) → Answers k v a → Answers k v b → a ≡ b
determined a b p q = same_answer a b (p.number_is ∙ sym q.number_is) (p.value_is ∙ sym q.value_is)
