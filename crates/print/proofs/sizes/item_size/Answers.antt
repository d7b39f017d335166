-- A number's digits, or three numbers with two dots between them.
use mathlib.Core.Path.{◌∙◌, ap, sym}
use native.Mathlib.Omega.{arith}
use lib.ListN.{length}
use Rattle.print.specs.Texts.{item_text}
use Rattle.print.specs.declared.Items.{Items}
use Rattle.print.proofs.Lengths.{entry_length}
use Rattle.print.proofs.sizes.item_size.Goals as goal

pub returns-in-Nodes : goal.returns-in-Nodes
unfolding item_text
returns-in-Nodes c =
    let a = c.args in (
      c.number_size.ensures.0 ∙ ap (λ (k : Items). length (item_text k a.x)) (sym c.in-Nodes.is),
      omega (
        arith,
        c.number_size.ensures.1,
      ),
    )

pub returns-in-Entries : goal.returns-in-Entries
unfolding item_text
returns-in-Entries c =
    let a = c.args in
    let kind = ap (λ (k : Items). length (item_text k a.x)) (sym c.in-Entries.is) in
    let m = c.number_size-meter.ensures in
    let i = c.number_size-interval.ensures in
    let w = c.number_size-in-Entries.ensures in
    (omega (arith, entry_length a.x, m.0, i.0, w.0) ∙ kind, omega (arith, m.1, i.1, w.1))
