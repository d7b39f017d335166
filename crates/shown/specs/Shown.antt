-- "A readable send that shows a correct node's bit for a primary and batch which that node has not itself sent in that round or before, with whatever mask,
-- breaks the rules." By the states in which the nodes take the round: what a node has sent by then is its own batch and all that it has kept.
use Rattle.std.specs.Prelude.{ℕ, Bool, not, ◌&&◌, ◌||◌, List, eqb, leb, ltb, length}
use Rattle.laws.specs.Masks.{bit, every}
use Rattle.laws.specs.Members.{those}
use Rattle.rules.specs.Sizes.{sized}
use Rattle.rules.specs.Vote.{Vote}
use Rattle.wire.specs.Message.{votes_of}
use Rattle.node.specs.Batches.{batch_of, same_batch}
use Rattle.node.specs.State.{node_at, kept_at}
use Rattle.node.specs.declared.Batch.{Batch}
use Rattle.node.specs.declared.Kept.{Kept}
use Rattle.node.specs.declared.Node.{Node}
use Rattle.round.specs.Found.{votes_in}

-- the batch is one of those kept
abbrev pub kept_holds : Kept → Batch → Bool
kept_holds k b = (leb 1 k.count && same_batch b k.first) || (leb 2 k.count && same_batch b k.second)

-- it is the own batch of the primary itself
abbrev pub is_own : Node → ℕ → Batch → Bool
is_own s p b = eqb p s.me && same_batch b s.own

-- a node in this state has sent primary p and the batch
unfoldable pub has_sent : Node → ℕ → Batch → Bool
has_sent s p b = is_own s p b || kept_holds (kept_at s.kept p) b

-- the witness mask shows the bit of node c, which is correct and in this state has not sent it; `faulty` is the mask of the faulty nodes
abbrev pub forged_for : (faulty : ℕ) (s : Node) (p mask : ℕ) (b : Batch) (c : ℕ) → Bool
forged_for faulty s p mask b c = not (eqb (bit faulty c) 1) && (eqb (bit mask c) 1 && not (has_sent s p b))

module _ (n faulty : ℕ) (nodes : List Node) where
  -- it does so of some node
  unfoldable pub forged : (p mask : ℕ) (b : Batch) → Bool
  forged p mask b = not (every (λ c. not (forged_for faulty (node_at nodes c) p mask b c)) n)

  -- so of one of the votes
  unfoldable pub forged_among : List Vote → Bool
  forged_among votes = ltb 0 (length (those (λ (v : Vote). forged v.primary v.mask (batch_of v.batch)) votes))

  -- the message breaks the rule
  unfoldable pub breaks : List ℕ → Bool
  breaks message = sized n && forged_among (votes_in (votes_of n message))
