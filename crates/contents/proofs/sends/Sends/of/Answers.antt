-- Past the header, and past as many lines as there are nodes.
use Rattle.std.proofs.Common.{◌∙◌, ap, drop}
use Rattle.text.specs.Lines.{lines_of}
use Rattle.contents.proofs.Lines.{sends_after}
use Rattle.contents.proofs.sends.Sends.of.Goals as goal

pub returns : goal.returns
returns c =
    sends_after c.args.s.now _ _ c.past_lines.ensures
    (c.past_lines-rest.ensures ∙ ap (λ h. drop h.n (lines_of c.past_lines.result.now)) c.header_of.ensures)
