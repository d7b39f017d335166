-- What it is that a premise is needed: a run in which every other premise holds, and the claim does not.
use Rattle.std.specs.Prelude.{ℕ, ◌≡◌, ◌≢◌, List}
use Rattle.rules.specs.Refusals.{done}
use Rattle.agreement.specs.Hall.{Hall, closes, log_of}
use Rattle.agreement.specs.Claim.{Agreed}
use Rattle.runs.specs.Premises.{Premise, Holds}

-- that the premise itself does not hold follows, by demand 3
pub record Needed (p : Premise) (hall : Hall) : Type 0 where
  pub others : (q : Premise) → q ≢ p → Holds hall q
  pub fails : Agreed hall → ⊥

-- node i's close is done, with this log
pub record Makes (hall : Hall) (i : ℕ) (log : List ℕ) : Type 0 where
  pub makes : closes hall i ≡ done
  pub its : log_of hall i ≡ log
