-- Up to the LF and with it, or all of it.
use mathlib.Core.Path.{sym}
use Rattle.text.proofs.Cuts.{len_all, len_some}
use Rattle.text.proofs.line.line_len.Goals as goal

pub returns-then-k-s : goal.returns-then-k-s
returns-then-k-s c = sym (len_some c.args.s.now _ c.place-k.ensures c.if-k-s.true)

pub returns-else-k-s : goal.returns-else-k-s
returns-else-k-s c = sym (len_all c.args.s.now _ c.place-k.ensures c.if-k-s.false)
