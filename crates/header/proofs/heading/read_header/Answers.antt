-- The lines are read one after the other, and the first bad one ends the reading.
use Rattle.std.proofs.Common.{◌∙◌, ap, Err, sym}
use Rattle.std.proofs.lemmas.Result.{err_from_is_err_and}
use Rattle.text.specs.Lines.{lines_of}
use Rattle.header.proofs.Heads.{head_one, head_two, head_three, header_zero}
use Rattle.header.proofs.heading.read_header.Goals as goal

pub returns-in_err-h : goal.returns-in_err-h
returns-in_err-h c =
    let d = c.default.ensures in
    let p = err_from_is_err_and c.from_residual.result c.from_residual.ensures.1 in
    p.1 ∙ ap Err p.2 ∙ sym (head_one (lines_of c.args.s.now) _ (header_zero _ d.0 d.1.0 d.1.1) _ c.first_line.ensures _ c.in_err-h.ensures)

pub returns-in_err-h-2 : goal.returns-in_err-h-2
returns-in_err-h-2 c =
    let d = c.default.ensures in
    let p = err_from_is_err_and c.from_residual-in_err-h-2.result c.from_residual-in_err-h-2.ensures.1 in
    p.1 ∙ ap Err p.2
    ∙ sym (head_two (lines_of c.args.s.now) _ (header_zero _ d.0 d.1.0 d.1.1) _ c.first_line.ensures _ c.in_ok-h.ensures _ c.past_lines-s.ensures _
    c.first_line-2.ensures _ c.in_err-h-2.ensures)

pub returns : goal.returns
returns c =
    let d = c.default.ensures in
    c.with_faulty.ensures
    ∙ sym (head_three (lines_of c.args.s.now) _ (header_zero _ d.0 d.1.0 d.1.1) _ c.first_line.ensures _ c.in_ok-h.ensures _ c.past_lines-s.ensures _
    c.first_line-2.ensures _ c.in_ok-h-2.ensures _ c.past_lines-s-2.ensures _ c.first_line-3.ensures)
