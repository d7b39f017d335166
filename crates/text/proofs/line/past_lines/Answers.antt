-- What is left has the lines after those that were passed.
use Rattle.std.proofs.Common.{arith, ap, refl, sym, ◌∙◌, drop, ℕ, ◌≡◌}
use borrow.Author.Tests.{eqb-true}
use Rattle.laws.proofs.Lent.{rest_of}
use Rattle.text.specs.Lines.{lines_of}
use Rattle.text.proofs.Cuts.{len_le, lines_over, lines_turn}
use Rattle.text.proofs.line.past_lines.Goals as goal

pub slice_bounds-rest-count : goal.slice_bounds-rest-count
slice_bounds-rest-count c = omega (arith, c.line_len.ensures, len_le c.loop.rest.now)

pub slice_bounds-rest-start : goal.slice_bounds-rest-start
slice_bounds-rest-start c = omega (arith, c.line_len.ensures, len_le c.loop.rest.now)

pub loop-init : goal.loop-init
loop-init c = refl

pub loop-preserved : goal.loop-preserved
loop-preserved c =
    ap lines_of (rest_of c.loop.rest.now _) ∙ lines_turn c.args.s.now c.loop.rest.now c.loop.counter _ c.line_len.ensures c.loop.invariant

pub returns-then-is_empty : goal.returns-then-is_empty
returns-then-is_empty c = lines_over c.args.s.now c.loop.rest.now c.loop.counter c.args.k (eqb-true _ _ (sym c.if-is_empty.ensures)) (omega arith) c.loop.invariant

pub returns : goal.returns
returns c =
    let all : c.loop.counter ≡ c.args.k = omega arith in
    c.loop.invariant ∙ ap (λ (j : ℕ). drop j (lines_of c.args.s.now)) all
