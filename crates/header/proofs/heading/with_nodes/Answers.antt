-- No number, no size, or a size.
use Rattle.std.proofs.Common.{◌∙◌, ap, Err, sym}
use Rattle.std.proofs.lemmas.Result.{err_from_is_err_and}
use Rattle.header.proofs.Heads.{nodes_bad, nodes_good, nodes_none, refused}
use Rattle.header.proofs.heading.with_nodes.Goals as goal

pub returns-in_err-n : goal.returns-in_err-n
returns-in_err-n c =
    let a = c.args in
    let p = err_from_is_err_and c.from_residual.result c.from_residual.ensures.1 in
    p.1 ∙ ap Err (p.2 ∙ refused _ _ _ c.in_err-n.ensures.value) ∙ sym (nodes_none a.k a.h _ (sym c.line_number.ensures ∙ c.in_err-n.ensures.ok_part))

pub returns-then-is_sized : goal.returns-then-is_sized
returns-then-is_sized c =
    let a = c.args in sym (nodes_good a.k a.h _ _ (sym c.line_number.ensures ∙ c.in_ok-n.ensures.ok_part) (sym c.if-is_sized.ensures))

pub returns-else-is_sized : goal.returns-else-is_sized
returns-else-is_sized c =
    let a = c.args in sym (nodes_bad a.k a.h _ _ (sym c.line_number.ensures ∙ c.in_ok-n.ensures.ok_part) (sym c.if-is_sized.ensures))
