-- The value of an answer, or another one where it is refused.
use Rattle.std.proofs.Common.{ℕ, zero, suc, ◌≡◌, refl, Result, Ok, Err, arith}
use Rattle.std.specs.Result.{result_unwrap_or}
use Rattle.rules.specs.declared.refusal.Refusal.{Refusal}
use Rattle.rules.specs.Refusals.{if_done}
use Rattle.rules.specs.Answers.{Answers}
use Rattle.rules.proofs.Answers.{given, no_row}

pub answered_or : {A : Type 0} (k : ℕ) (v d : A) (r : Result A Refusal) → Answers k v r → result_unwrap_or r d ≡ if_done k v d
answered_or zero v d (Ok x) p = (given p).1
answered_or zero v d (Err r) p = no_row r p.number_is
answered_or (suc k) v d (Ok x) p = let e = p.number_is in absurd (omega arith)
answered_or (suc k) v d (Err r) p = refl
