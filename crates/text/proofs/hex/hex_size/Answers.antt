-- Two digits are one byte.
use Rattle.std.proofs.Common.{sym}
use Rattle.text.proofs.Pairs.{hex_size_no, hex_size_yes}
use Rattle.text.proofs.hex.hex_size.Goals as goal

pub returns-then-is_hex : goal.returns-then-is_hex
returns-then-is_hex c = sym (hex_size_yes c.args.s.now (sym c.if-is_hex.ensures))

pub returns-else-is_hex : goal.returns-else-is_hex
returns-else-is_hex c = sym (hex_size_no c.args.s.now (sym c.if-is_hex.ensures))
