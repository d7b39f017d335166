-- The header that was read, or the one of zeros.
use Rattle.std.proofs.Common.{◌∙◌, ap}
use Rattle.header.specs.Header.{no_header}
use Rattle.std.specs.Result.{result_unwrap_or}
use Rattle.contents.proofs.Lines.{header_or}
use Rattle.contents.proofs.header_of.Goals as goal

pub returns : goal.returns
returns c = c.unwrap_or.ensures ∙ ap (λ r. result_unwrap_or r no_header) c.read_header.ensures ∙ header_or _
