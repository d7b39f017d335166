-- No list, too many, or few enough.
use Rattle.std.proofs.Common.{◌∙◌, ap, Err, sym}
use Rattle.std.proofs.lemmas.Result.{err_from_is_err_and}
use Rattle.header.specs.Header.{mask_in}
use Rattle.header.proofs.Heads.{faulty_bad, faulty_few, faulty_many, refused}
use Rattle.header.proofs.heading.with_faulty.Goals as goal

pub returns-in_err-list : goal.returns-in_err-list
returns-in_err-list c =
    let a = c.args in
    let p = err_from_is_err_and c.from_residual.result c.from_residual.ensures.1 in
    p.1 ∙ ap Err (p.2 ∙ refused _ _ _ c.in_err-list.ensures.value) ∙ sym (faulty_bad a.k a.h _ (sym c.in_err-list.ensures.ok_part ∙ c.line_list.ensures))

pub returns-then-h-list : goal.returns-then-h-list
returns-then-h-list c =
    let a = c.args in sym (faulty_many a.k a.h _ _ (sym c.in_ok-list.ensures.ok_part ∙ c.line_list.ensures) c.if-h-list.true)

pub returns : goal.returns
returns c =
    let a = c.args in
    sym (faulty_few a.k a.h _ _ (sym c.in_ok-list.ensures.ok_part ∙ c.line_list.ensures) _ c.if-h-list.false (c.mask_of-faulty.ensures ∙ ap mask_in c.in_use.ensures))
