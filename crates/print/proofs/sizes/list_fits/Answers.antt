-- The first item, and the others with their commas.
use Rattle.std.proofs.Common.{ap, sym, ◌∙◌, arith}
use borrow.Author.Tests.{le-leb, lt-leb}
use lib.ListN.{length}
use Rattle.print.specs.Texts.{list_text}
use Rattle.print.proofs.Printing.{fits_rest, list_length, list_none}
use Rattle.print.proofs.sizes.list_fits.Goals as goal

pub returns-in_default : goal.returns-in_default
returns-in_default c =
    let a = c.args in
    sym (le-leb (length (list_text a.kind a.xs.now)) a.room (omega (arith, ap length (list_none a.kind a.xs.now c.in_default.ensures.cases))))

pub returns-then-size-room : goal.returns-then-size-room
returns-then-size-room c =
    let a = c.args in
    fits_rest a.kind _ _ c.in-Some.ensures.cases.0 a.room _ c.item_size-size.ensures.0 (omega arith) c.more_fits.ensures

pub returns-else-size-room : goal.returns-else-size-room
returns-else-size-room c =
    let a = c.args in
    lt-leb c.item_size-size.result a.room (omega arith)
    ∙ sym (lt-leb (length (list_text a.kind a.xs.now)) a.room (omega (arith, list_length a.kind _ _ c.in-Some.ensures.cases.0, c.item_size-size.ensures.0)))
