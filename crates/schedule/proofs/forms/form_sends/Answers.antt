-- The answer for the whole is the answer for the lines that are left, of which the first is line k.
use Rattle.std.proofs.Common.{◌≡◌, ◌+◌, ◌∙◌, Err, List, Option, ap, arith, length, length-drop, sym, unwrap_or, ℕ}
use Rattle.std.proofs.lemmas.Result.{err_from_is_err_and}
use Rattle.header.proofs.Heads.{refused}
use borrow.Author.Tests.{eqb-false, eqb-true}
use Rattle.laws.proofs.Lent.{rest_of}
use Rattle.text.specs.Lines.{lines_of}
use Rattle.text.proofs.Cuts.{Turn, lines_none, lines_some, turn}
use Rattle.schedule.specs.Forms.{form_sends}
use Rattle.schedule.proofs.Turns.{sends_bad, sends_end, sends_go, sends_good, sends_more}
use Rattle.schedule.proofs.forms.form_sends.Goals as goal
use Rattle.schedule.proofs.forms.form_sends.Goals.{After-first_line-line}

-- the line that is read
here : (c : goal.After-first_line-line) → Turn c.loop-rest.rest.now c.first_line-line.result.now
here c =
    let some : length c.loop-rest.rest.now ≡ 0 → ⊥ = eqb-false _ _ (sym c.loop-rest-test.ensures) in
    turn _ _ (omega arith) c.first_line-line.ensures

pub slice_bounds-after-count : goal.slice_bounds-after-count
slice_bounds-after-count c = (here c).fits

pub slice_bounds-after-start : goal.slice_bounds-after-start
slice_bounds-after-start c = let t = (here (goal.at.slice_bounds-after-start c).After-first_line-line).fits in omega arith

pub returns-then-is_empty : goal.returns-then-is_empty
returns-then-is_empty c =
    let a = c.args in
    let l = c.loop-rest in
    let t = here (goal.at.returns-then-is_empty c).After-first_line-line in
    let none = lines_none _ (eqb-true _ _ (sym c.if-is_empty.ensures)) in
    sym (l.invariant.left ∙ ap (form_sends a.h l.k l.last) t.next
    ∙ sends_good a.h l.k l.last _ _ (sym c.if-is_end.ensures) (ap length (ap lines_of (sym (rest_of l.rest.now _)) ∙ none)))

pub returns-else-is_empty : goal.returns-else-is_empty
returns-else-is_empty c =
    let a = c.args in
    let l = c.loop-rest in
    let t = here (goal.at.returns-else-is_empty c).After-first_line-line in
    let some = eqb-false _ _ (sym c.if-is_empty.ensures) in
    sym (l.invariant.left ∙ ap (form_sends a.h l.k l.last) t.next
    ∙ sends_more a.h l.k l.last _ _ (sym c.if-is_end.ensures) (lines_some _ (omega (arith, ap length (rest_of l.rest.now (length c.first_line-line.result.now))))))

pub returns-in_err-rank : goal.returns-in_err-rank
returns-in_err-rank c =
    let a = c.args in
    let l = c.loop-rest in
    let t = here (goal.at.returns-in_err-rank c).After-first_line-line in
    let p = err_from_is_err_and c.from_residual.result c.from_residual.ensures.1 in
    let rank = sym (ap (λ (o : Option ℕ). unwrap_or o 0) c.in_err-rank.ensures.ok_part) ∙ c.send_rank.ensures in
    p.1 ∙ ap Err (p.2 ∙ refused _ _ _ c.in_err-rank.ensures.value)
    ∙ sym (l.invariant.left ∙ ap (form_sends a.h l.k l.last) t.next ∙ sends_bad a.h l.k l.last _ _ 0 rank (sym c.if-is_end.ensures) (omega arith))

pub returns-then-rank-last : goal.returns-then-rank-last
returns-then-rank-last c =
    let a = c.args in
    let l = c.loop-rest in
    let t = here (goal.at.returns-then-rank-last c).After-first_line-line in
    sym (l.invariant.left ∙ ap (form_sends a.h l.k l.last) t.next
    ∙ sends_bad a.h l.k l.last _ _ _ (sym (ap (λ (o : Option ℕ). unwrap_or o 0) c.in_ok-rank.ensures.ok_part) ∙ c.send_rank.ensures) (sym c.if-is_end.ensures) c.if-rank-last.true)

pub loop-rest-smaller : goal.loop-rest-smaller
loop-rest-smaller c =
    let t = here (goal.at.loop-rest-smaller c).After-first_line-line in
    let f = t.fits in let g = t.further in let n = length c.first_line-line.result.now in
    omega (arith, ap length (rest_of c.loop-rest.rest.now n), length-drop n c.loop-rest.rest.now)

pub loop-rest-preserved : goal.loop-rest-preserved
loop-rest-preserved c =
    let a = c.args in
    let l = c.loop-rest in
    let t = here (goal.at.loop-rest-preserved c).After-first_line-line in
    let f = t.fits in let g = t.further in
    record {
      few =
          let h = l.invariant.few in
          let n = length c.first_line-line.result.now in
          omega (arith, ap length (rest_of l.rest.now n), length-drop n l.rest.now);
      left =
          l.invariant.left ∙ ap (form_sends a.h l.k l.last) t.next
          ∙ sends_go a.h l.k l.last _ _ _ (sym (ap (λ (o : Option ℕ). unwrap_or o 0) c.in_ok-rank.ensures.ok_part) ∙ c.send_rank.ensures) (sym c.if-is_end.ensures) c.if-rank-last.false
          ∙ ap (λ (u : List ℕ). form_sends a.h (l.k + 1) c.in_ok-rank.rank (lines_of u)) (sym (rest_of l.rest.now _));
    }

pub returns : goal.returns
returns c =
    let a = c.args in
    let l = c.loop-rest in
    sym (l.invariant.left ∙ sends_end a.h l.k l.last _ (lines_none l.rest.now (eqb-true _ _ (sym c.loop-rest-test.ensures))))
