-- Without the byte there is no field; else the number before it.
use Rattle.std.proofs.Common.{arith, sym, ◌∙◌}
use Rattle.text.proofs.Digits.{field_none, field_some}
use Rattle.text.proofs.decimal.read_field.Goals as goal

pub returns-then-s-k : goal.returns-then-s-k
returns-then-s-k c = sym (field_none _ _ _ _ c.place-k.ensures c.if-s-k.true)

pub returns : goal.returns
returns c =
    let a = c.args in
    c.read_number.ensures ∙ sym (field_some a.sep a.most a.s.now _ c.place-k.ensures (omega arith))
