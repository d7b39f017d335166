-- All of them are walked over.
use Rattle.std.proofs.Common.{◌∙◌, ap, length, sym}
use Rattle.std.proofs.lemmas.Iterator.Consumers.{count_from_yields_List}
use Rattle.contents.proofs.Walk.{walks}
use Rattle.contents.proofs.send_count.Goals as goal

pub returns : goal.returns
returns c = count_from_yields_List c.of.result c.count.result c.count.ensures.ran (walks c.of.result) ∙ ap length (sym c.of.ensures)
