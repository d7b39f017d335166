-- The answer for the whole is the answer for the tray lines that are left and the lines that are left.
use Rattle.std.proofs.Common.{◌≡◌, ◌+◌, ◌-◌, ◌∙◌, ap, arith, drop, length, sym, take, ℕ}
use Rattle.laws.proofs.Lent.{rest_of}
use Rattle.text.specs.Lines.{lines_of}
use Rattle.text.proofs.Cuts.{line_fits, lines_after}
use Rattle.header.specs.Header.{header_size}
use Rattle.schedule.specs.Forms.{form_sends, form_trays}
use Rattle.schedule.proofs.Turns.{trays_bad, trays_end, trays_go}
use Rattle.schedule.proofs.forms.form_trays.Goals as goal

pub returns-then-not-is_tray : goal.returns-then-not-is_tray
returns-then-not-is_tray c =
    let a = c.args in
    let l = c.loop-i in
    let after = lines_after l.rest.now _ c.first_line-line.ensures in
    sym (l.invariant ∙ trays_bad a.h (header_size + 1 + l.i) l.i _ _ _ c.first_line-line.ensures after c.loop-i-test.true
    (sym c.is_tray.ensures ∙ c.if-not-is_tray.true))

pub slice_bounds-rest-count : goal.slice_bounds-rest-count
slice_bounds-rest-count c = line_fits c.loop-i.rest.now _ c.first_line-line.ensures

pub slice_bounds-rest-start : goal.slice_bounds-rest-start
slice_bounds-rest-start c = omega (arith, line_fits c.loop-i.rest.now _ c.first_line-line.ensures)

pub loop-i-preserved : goal.loop-i-preserved
loop-i-preserved c =
    let a = c.args in
    let l = c.loop-i in
    let line = c.first_line-line.result.now in
    let after = lines_after l.rest.now line c.first_line-line.ensures ∙ ap lines_of (sym (rest_of l.rest.now (length line))) in
    let k : header_size + 1 + l.i + 1 ≡ header_size + 1 + (l.i + 1) = omega arith in
    l.invariant
    ∙ trays_go a.h (header_size + 1 + l.i) l.i _ _ _ c.first_line-line.ensures after c.loop-i-test.true (sym c.is_tray.ensures ∙ c.if-not-is_tray.false)
    ∙ ap (λ (j : ℕ). form_trays a.h j (a.h.n - (l.i + 1)) (lines_of (take (length l.rest.now - length line) (drop (length line) l.rest.now)))) k

pub returns : goal.returns
returns c =
    let a = c.args in
    let l = c.loop-i in
    let all : a.h.n ≡ l.i = omega arith in
    c.form_sends.ensures ∙ ap (λ (j : ℕ). form_sends a.h (header_size + 1 + j) 0 (lines_of l.rest.now)) all
    ∙ sym (l.invariant ∙ trays_end a.h (header_size + 1 + l.i) l.i _ (omega arith))
