-- The number, and one byte more.
use Rattle.print.specs.Texts.{decimal_of}
use Rattle.print.proofs.Printing.{byte_over}
use Rattle.print.proofs.fill.number_then.Goals as goal

pub returns : goal.returns
returns c = byte_over (decimal_of c.args.v) c.args.output.now c.args.b c.requires c.number-k.ensures
