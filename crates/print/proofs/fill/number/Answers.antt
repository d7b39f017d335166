-- The library's text of a number is its digits.
use Rattle.std.proofs.Common.{◌≡◌, List, ℕ, ap, ◌∙◌, arith, length}
use Rattle.laws.specs.Parts.{onto}
use Rattle.print.specs.Texts.{decimal_of}
use Rattle.print.proofs.Printing.{library_digits}
use Rattle.print.proofs.fill.number.Goals as goal

pub bytes-requires : goal.bytes-requires
bytes-requires c =
    let e : c.as_bytes.result.now ≡ decimal_of c.args.v = c.as_bytes.ensures.value ∙ c.format.ensures.text ∙ library_digits c.args.v c.ranges.v.fits in
    omega (arith, ap length e, c.requires)

pub returns : goal.returns
returns c =
    let e : c.as_bytes.result.now ≡ decimal_of c.args.v = c.as_bytes.ensures.value ∙ c.format.ensures.text ∙ library_digits c.args.v c.ranges.v.fits in
    (c.bytes.ensures.0 ∙ ap length e, c.bytes.ensures.1 ∙ ap (λ (w : List ℕ). onto w c.args.output.now) e)
