-- "A readable send that shows a correct node's bit for a primary and batch which that node has not itself sent in that round or before, with whatever mask,
-- breaks the rules."
use Rattle.std.specs.Prelude.{ℕ, zero, suc, Bool, false, not, ◌&&◌, ◌||◌, List, eqb, ltb, length}
use Rattle.laws.specs.Masks.{every}
use Rattle.laws.specs.Members.{among, those}
use Rattle.rules.specs.Vote.{Batch, Vote, batches, shows}
use Rattle.wire.specs.Message.{votes_of}
use Rattle.round.specs.Found.{votes_in}
use Rattle.agreement.specs.Hall.{Hall, sends}

module _ (hall : Hall) where
  -- the batches of primary p that node c sends in round r
  abbrev pub batches_sent : (r c p : ℕ) → List Batch
  batches_sent r c p = batches (those (λ (v : Vote). eqb v.primary p) (votes_in (votes_of hall.n (sends hall c r))))

  -- node c has itself sent primary p and batch b, in round r or before
  unfoldable pub has_sent : (r c p : ℕ) (b : Batch) → Bool
  has_sent zero c p b = false
  has_sent (suc r) c p b = among b (batches_sent (suc r) c p) || has_sent r c p b

  -- in round r the vote shows the bit of node c, which is correct and has not sent it
  abbrev pub forged_for : (r : ℕ) (v : Vote) (c : ℕ) → Bool
  forged_for r v c = not (hall.faulty c) && (shows c v && not (has_sent r c v.primary v.batch))

  -- it does so of some node
  abbrev pub forged : (r : ℕ) (v : Vote) → Bool
  forged r v = not (every (λ c. not (forged_for r v c)) hall.n)

  -- one of the message's votes does
  unfoldable pub breaks_rule : (r : ℕ) (message : List ℕ) → Bool
  breaks_rule r message = ltb 0 (length (those (forged r) (votes_in (votes_of hall.n message))))
