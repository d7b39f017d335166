-- "A node's vote is its bit with a primary and a batch, whatever other bits stand beside it."
use Rattle.std.specs.Prelude.{ℕ, ◌^◌, Bool, ◌&&◌, List, map, eqb, leb}
use Rattle.std.specs.Int.Bits.{bit_or}
use Rattle.std.specs.Int.Count.{ones}
use Rattle.laws.specs.Masks.{bit}

abbrev pub Batch : Type 0
Batch = List ℕ

-- what a record says: a primary, the mask of its witnesses, a batch
pub record Vote : Type 0 where
  pub primary : ℕ
  pub mask : ℕ
  pub batch : List ℕ

abbrev pub batches : List Vote → List Batch
batches vs = map (λ (v : Vote). v.batch) vs

-- node j is a witness: its bit is set
unfoldable pub shows : (j : ℕ) (v : Vote) → Bool
shows j v = eqb (bit v.mask j) 1

-- "own number, own batch, own bit only"
unfoldable pub opened : (me : ℕ) (own : Batch) → Vote
opened me own = record { primary = me; mask = 2 ^ me; batch = own }

-- "It accepts a vote when the primary's bit is set and at least r bits of the witness mask are set."
unfoldable pub accepted : (r p : ℕ) (v : Vote) → Bool
accepted r p v = eqb v.primary p && (shows p v && leb r (ones v.mask))

-- "with the mask of the first accepted vote for it and the own bit added"
unfoldable pub passed_on : (me : ℕ) (v : Vote) → Vote
passed_on me v = record { primary = v.primary; mask = bit_or v.mask (2 ^ me); batch = v.batch }
