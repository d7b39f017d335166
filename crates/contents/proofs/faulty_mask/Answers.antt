-- The header has the mask; one that was not read has nobody's.
use Rattle.std.proofs.Common.{◌∙◌, ap}
use Rattle.contents.proofs.Faults.{mask_held}
use Rattle.contents.proofs.faulty_mask.Goals as goal

pub returns : goal.returns
returns c = ap (λ h. h.faulty) c.header_of.ensures ∙ mask_held c.args.s.now
