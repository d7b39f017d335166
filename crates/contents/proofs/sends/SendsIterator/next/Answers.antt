-- The first line of what is left is a send, or the sends are over.
use Rattle.std.proofs.Common.{◌∙◌, ◌∷◌, ap, arith, length, rules, sym}
use Rattle.laws.proofs.Lent.{rest_of}
use Rattle.text.specs.Lines.{lines_of}
use Rattle.text.proofs.Cuts.{line_fits}
use Rattle.schedule.proofs.Fits.{none_told}
use Rattle.contents.specs.Contents.{sends_in, sent}
use Rattle.contents.proofs.Walk.{line_there, sends_further, sends_over, sent_line}
use Rattle.contents.proofs.sends.SendsIterator.next.Goals as goal

pub returns-in_err-send-clause-steps : goal.returns-in_err-send-clause-steps
returns-in_err-send-clause-steps c =
    rw c.from_residual.ensures (sends_over c.args.self.now.rest.now _ c.first_line-line.ensures (none_told _ c.in_err-send.ensures))

pub slice_bounds-self-count : goal.slice_bounds-self-count
slice_bounds-self-count c = line_fits c.args.self.now.rest.now _ c.first_line-line.ensures

pub slice_bounds-self-start : goal.slice_bounds-self-start
slice_bounds-self-start c = omega (arith, line_fits c.args.self.now.rest.now _ c.first_line-line.ensures)

pub returns-clause-steps : goal.returns-clause-steps
returns-clause-steps c =
    let s = c.args.self.now.rest.now in
    sends_further s _ _ c.first_line-line.ensures (sent_line _ _ _ c.in_ok-send.ensures c.message_text.ensures)
    ∙ ap (λ t. sent c.in_ok-send.send c.message_text.result.now ∷ sends_in (lines_of t)) (sym (rest_of s (length c.first_line-line.result.now)))

pub returns-clause-goes : goal.returns-clause-goes
returns-clause-goes c =
    let t = line_there c.args.self.now.rest.now _ _ c.first_line-line.ensures (sent_line _ _ _ c.in_ok-send.ensures c.message_text.ensures) in
    let f = t.fits in let g = t.further in search rules
