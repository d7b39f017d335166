-- "This record is sent in round 1; what a step in round r writes is sent, and read, in round r + 1." What the nodes of a run keep, send and make of it,
-- whatever they hear.
use Rattle.std.specs.Prelude.{ℕ, zero, suc, ◌+◌, Bool, List, [], ◌∷◌}
use Rattle.rules.specs.Vote.{Batch, Vote, opened}
use Rattle.rules.specs.Step.{kept_most, taken_up, newly, kept_after, passes_on}
use Rattle.rules.specs.Log.{decision, decisions, Outcome, closed}

pub record Run : Type 0 where
  -- n nodes, of which f may be faulty
  pub n : ℕ
  pub f : ℕ
  pub faulty : ℕ → Bool
  -- the batch that each node opens with
  pub opening : ℕ → Batch
  -- heard r i j: the votes that node i reads in round r in the message of sender j
  pub heard : ℕ → ℕ → ℕ → List Vote
  -- the old log
  pub old : List ℕ

module _ (run : Run) where
  -- the votes that node i takes up in round r
  abbrev pub votes_at : (r i : ℕ) → List Vote
  votes_at r i = taken_up run.n i (run.heard r i)

  -- what node i has kept for primary p after round r
  unfoldable pub kept : (r i p : ℕ) → List Batch
  kept zero i p = []
  kept (suc r) i p = kept_after kept_most (suc r) p (kept r i p) (votes_at (suc r) i)

  -- the votes by which node i newly keeps batches for primary p in round r
  unfoldable pub new_at : (r i p : ℕ) → List Vote
  new_at zero i p = []
  new_at (suc r) i p = newly kept_most (suc r) p (kept r i p) (votes_at (suc r) i)

  -- what node i sends in round r
  unfoldable pub sent : (r i : ℕ) → List Vote
  sent zero i = []
  sent (suc zero) i = opened i (run.opening i) ∷ []
  sent (suc (suc r)) i = passes_on run.n run.f i (suc r) (kept r i) (votes_at (suc r) i)

  -- node i's decision for primary p, and its close, after round f + 1
  unfoldable pub decides : (i p : ℕ) → Batch
  decides i p = decision i (run.opening i) p (kept (run.f + 1) i p)

  unfoldable pub new_log : (i : ℕ) → Outcome
  new_log i = closed run.old (decisions run.n i (run.opening i) (kept (run.f + 1) i))
