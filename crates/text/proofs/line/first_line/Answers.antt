-- As many bytes as the first line has.
use Prim.Native.Nat.{ℕ}
use mathlib.Core.Path.{◌∙◌, ap, sym}
use native.Mathlib.Omega.{arith}
use lib.ListN.{take}
use lib.Seq.{length-take-le}
use Rattle.text.proofs.Cuts.{len_le, line_first}
use Rattle.text.proofs.line.first_line.Goals as goal

pub slice_bounds-result-end : goal.slice_bounds-result-end
slice_bounds-result-end c =
    let s = c.args.s.now in
    sym (length-take-le c.line_len-size.result s (omega (arith, c.line_len-size.ensures, len_le s)))

pub returns : goal.returns
returns c =
    let s = c.args.s.now in
    ap (λ (k : ℕ). take k s) c.line_len-size.ensures ∙ sym (line_first s)
