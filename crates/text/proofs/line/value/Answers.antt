-- Where nothing follows the key, the value is empty.
use Rattle.text.proofs.Keys.{value_none}
use Rattle.text.proofs.line.value.Goals as goal

pub returns-then-line-k : goal.returns-then-line-k
returns-then-line-k c = value_none c.args.key.now c.args.line.now c.if-line-k.true
