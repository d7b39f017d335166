-- What is no hex says nothing; what is hex says half as many bytes as it has digits.
use Rattle.std.proofs.Common.{arith, sym, ◌∙◌}
use Rattle.text.specs.Hex.{hex_of}
use Rattle.text.proofs.Pairs.{hex_digits, hex_no, hex_size_yes, put_hex}
use Rattle.text.proofs.Written.{put_none, put_nothing}
use Rattle.text.proofs.hex.hex_into.Goals.{then-not-is_hex-via-then-not-is_hex, then-not-is_hex-via-else-not-is_hex+then-output-s}
use Rattle.text.proofs.hex.hex_into.Goals as goal

pub returns-then-not-is_hex : goal.returns-then-not-is_hex
returns-then-not-is_hex c =
    let s = c.args.s.now in elim c.then-not-is_hex.branch [
      | then-not-is_hex-via-then-not-is_hex w ↦ put_nothing (hex_of s) _ (hex_no s (sym c.is_hex.ensures ∙ w.if-not-is_hex.true))
      | then-not-is_hex-via-else-not-is_hex+then-output-s w ↦
          put_none (hex_of s) _ (omega (arith, w.if-output-s.true, hex_size_yes s (sym c.is_hex.ensures ∙ w.if-not-is_hex.false)))
    ]

pub pairs_into-requires : goal.pairs_into-requires
pairs_into-requires c =
    let h = hex_digits c.args.s.now (sym c.is_hex.ensures ∙ c.if-not-is_hex.false) in
    (omega (arith, h.0), h.1)

pub returns : goal.returns
returns c =
    let a = c.args in
    let h = sym c.is_hex.ensures ∙ c.if-not-is_hex.false in
    put_hex a.s.now a.output.now _ _ h (omega arith) c.pairs_into.ensures.0 c.pairs_into.ensures.1
