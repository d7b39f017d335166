-- The list, and one byte more.
use Rattle.text.specs.Places.{lf}
use Rattle.print.specs.Texts.{list_text}
use Rattle.print.proofs.Printing.{byte_over}
use Rattle.print.proofs.fill.list_then_lf.Goals as goal

pub returns : goal.returns
returns c = byte_over (list_text c.args.kind c.args.xs.now) c.args.output.now lf c.requires c.list-k.ensures
