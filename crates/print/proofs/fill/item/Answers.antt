-- As the kind says.
use Prim.Native.Nat.{◌≤◌, ℕ}
use mathlib.Core.List.{List}
use mathlib.Core.Path.{◌∙◌, ap, subst, sym}
use lib.ListN.{length}
use Rattle.laws.specs.Parts.{onto}
use Rattle.print.specs.Texts.{item_text}
use Rattle.print.specs.declared.Items.{Items}
use Rattle.print.proofs.fill.item.Goals as goal

pub number-requires : goal.number-requires
unfolding item_text
number-requires c =
    let a = c.args in
    subst (λ (k : Items). length (item_text k a.x) ≤ length a.output.now) c.in-Nodes.is
    c.requires

pub entry-requires : goal.entry-requires
unfolding item_text
entry-requires c =
    let a = c.args in
    subst (λ (k : Items). length (item_text k a.x) ≤ length a.output.now) c.in-Entries.is
    c.requires

pub returns-in-Nodes : goal.returns-in-Nodes
unfolding item_text
returns-in-Nodes c =
    let a = c.args in
    let e = ap (λ (k : Items). item_text k a.x) (sym c.in-Nodes.is) in
    (c.number.ensures.0 ∙ ap length e, c.number.ensures.1 ∙ ap (λ (w : List ℕ). onto w a.output.now) e)

pub returns-in-Entries : goal.returns-in-Entries
unfolding item_text
returns-in-Entries c =
    let a = c.args in
    let e = ap (λ (k : Items). item_text k a.x) (sym c.in-Entries.is) in
    (c.entry.ensures.0 ∙ ap length e, c.entry.ensures.1 ∙ ap (λ (w : List ℕ). onto w a.output.now) e)
