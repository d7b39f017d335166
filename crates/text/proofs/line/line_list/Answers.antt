-- A line without its key has no list.
use Rattle.std.proofs.Common.{ap, sym, ◌∙◌, List, ℕ}
use Rattle.text.specs.Lists.{list_of, listed_as}
use Rattle.text.proofs.Commas.{none_listed}
use Rattle.text.proofs.Keys.{list_line_no, list_line_yes}
use Rattle.text.proofs.line.line_list.Goals as goal

pub returns-then-not-keyed : goal.returns-then-not-keyed
returns-then-not-keyed c =
    let a = c.args in none_listed (list_line_no a.key.now a.line.now a.kind (sym c.keyed.ensures ∙ c.if-not-keyed.true))

pub returns : goal.returns
returns c =
    let a = c.args in
    c.read_list.ensures
    ∙ ap (λ (v : List ℕ). listed_as (list_of a.kind v)) c.value.ensures
    ∙ ap listed_as (sym (list_line_yes a.key.now a.line.now a.kind (sym c.keyed.ensures ∙ c.if-not-keyed.false)))
