-- Each answer is the test that the branches before it have left open.
use borrow.Author.Tests.{lt-leb, le-leb}
use Rattle.rules.specs.Sizes.{sized}
use Rattle.rules.proofs.is_sized.Goals as goal

pub returns-then-n-lt1 : goal.returns-then-n-lt1
unfolding sized
returns-then-n-lt1 c = simp (lt-leb _ _ c.if-n-lt1.true)

pub returns : goal.returns
unfolding sized
returns c = simp (le-leb _ _ c.if-n-lt1.false)
