-- An odd number of bytes is no hex; else the digits decide.
use Rattle.std.proofs.Common.{sym, ◌∙◌}
use borrow.Author.Tests.{ne_eqb}
use Rattle.text.proofs.Pairs.{hex_even, hex_odd}
use Rattle.text.proofs.hex.is_hex.Goals as goal

pub returns-then-s-eq0 : goal.returns-then-s-eq0
returns-then-s-eq0 c = c.are_digits.ensures ∙ sym (hex_even c.args.s.now c.if-s-eq0.true)

pub returns-else-s-eq0 : goal.returns-else-s-eq0
returns-else-s-eq0 c = ne_eqb _ _ c.if-s-eq0.false ∙ sym (hex_odd c.args.s.now c.if-s-eq0.false)
