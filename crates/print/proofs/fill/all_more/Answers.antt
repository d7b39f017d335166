-- The first i items are written.
use Prim.Native.Nat.{ℕ}
use mathlib.Core.List.{List, ◌∷◌}
use mathlib.Core.Path.{◌∙◌, ap, refl, sym}
use native.Mathlib.Omega.{arith}
use lib.ListN.{get_or, length, take}
use Rattle.laws.specs.Parts.{onto}
use Rattle.text.specs.Places.{comma}
use Rattle.print.specs.Texts.{item_text, more_text}
use Rattle.print.specs.declared.Items.{Items}
use Rattle.print.proofs.Printing.{both_over, more_room, more_turn, part_room}
use Rattle.print.proofs.fill.all_more.Goals as goal

abbrev done : Items → List ℕ → ℕ → List ℕ
done kind xs i = more_text kind (take i xs)

abbrev next : Items → List ℕ → ℕ → List ℕ
next kind xs i = comma ∷ item_text kind (get_or xs i 0)

pub loop-x-init : goal.loop-x-init
unfolding more_text
loop-x-init c = (c.requires, (refl, refl))

pub more-at-requires : goal.more-at-requires
more-at-requires c =
    let a = c.args in
    let l = c.loop-x in
    let room = more_room a.kind a.xs.now l.x-index _ l.invariant.0 (omega arith) in
    part_room (done a.kind a.xs.now l.x-index) (next a.kind a.xs.now l.x-index) a.output.now room l.invariant.1

pub loop-x-preserved : goal.loop-x-preserved
loop-x-preserved c =
    let a = c.args in
    let l = c.loop-x in
    let room = more_room a.kind a.xs.now l.x-index _ l.invariant.0 (omega arith) in
    let both = both_over (done a.kind a.xs.now l.x-index) (next a.kind a.xs.now l.x-index) a.output.now room l.invariant.1
    c.more-at.ensures in
    let e = sym (more_turn a.kind a.xs.now l.x-index (omega arith)) in
    (l.invariant.0, (both.0 ∙ ap length e, both.1 ∙ ap (λ (t : List ℕ). onto t a.output.now) e))
