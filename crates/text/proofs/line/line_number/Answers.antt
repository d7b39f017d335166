-- A line without its key has no number.
use mathlib.Core.Path.{◌∙◌, ap, sym}
use Rattle.text.specs.Numbers.{number_in}
use Rattle.text.proofs.Keys.{number_line_no, number_line_yes}
use Rattle.text.proofs.line.line_number.Goals as goal

pub returns-then-not-keyed : goal.returns-then-not-keyed
returns-then-not-keyed c =
    let a = c.args in
    sym (number_line_no a.key.now a.line.now _ (sym c.keyed.ensures ∙ c.if-not-keyed.true))

pub returns : goal.returns
returns c =
    let a = c.args in
    c.read_number.ensures ∙ ap (number_in a.most) c.value.ensures
    ∙ sym (number_line_yes a.key.now a.line.now _ (sym c.keyed.ensures
    ∙ c.if-not-keyed.false))
