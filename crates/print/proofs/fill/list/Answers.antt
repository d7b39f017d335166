-- The first item, and the others with their commas into the rest behind it.
use Rattle.std.proofs.Common.{ℕ, List, length, ap, sym, ◌∙◌}
use Rattle.laws.specs.Parts.{onto}
use Rattle.print.specs.Texts.{item_text, more_text}
use Rattle.print.proofs.Printing.{both_over, left_fits, list_none, list_room, list_some, part_room}
use Rattle.print.proofs.fill.list.Goals as goal

pub returns-in_default : goal.returns-in_default
returns-in_default c =
    let a = c.args in
    let e = sym (list_none a.kind a.xs.now c.in_default.ensures.cases) in
    (ap length e, ap (λ (w : List ℕ). onto w a.output.now) e)

pub item-a-requires : goal.item-a-requires
item-a-requires c =
    let a = c.args in
    let l = c.in-Some in
    left_fits (item_text a.kind l.first.now) (more_text a.kind l.others.now) _ (list_room a.kind _ _ l.ensures.cases.0 _ c.requires)

pub all_more-b-requires : goal.all_more-b-requires
all_more-b-requires c =
    let a = c.args in
    let l = c.in-Some in
    part_room (item_text a.kind l.first.now) (more_text a.kind l.others.now) a.output.now (list_room a.kind _ _ l.ensures.cases.0 _ c.requires) c.item-a.ensures

pub returns : goal.returns
returns c =
    let a = c.args in
    let l = c.in-Some in
    let both = both_over (item_text a.kind l.first.now) (more_text a.kind l.others.now) a.output.now (list_room a.kind _ _ l.ensures.cases.0 _ c.requires) c.item-a.ensures
    c.all_more-b.ensures in
    let e = sym (list_some a.kind _ _ l.ensures.cases.0) in
    (both.0 ∙ ap length e, both.1 ∙ ap (λ (w : List ℕ). onto w a.output.now) e)
