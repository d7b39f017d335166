-- No number, too many, or few enough.
use Rattle.std.proofs.Common.{◌∙◌, ap, arith, Err, sym}
use Rattle.std.proofs.lemmas.Result.{err_from_is_err_and}
use Rattle.text.specs.Numbers.{word_most}
use Rattle.text.proofs.Keys.{line_small}
use Rattle.header.specs.Keys.{faults_key}
use Rattle.header.proofs.Heads.{faults_few, faults_many, faults_none, refused}
use Rattle.header.proofs.heading.with_faults.Goals as goal

pub returns-in_err-f : goal.returns-in_err-f
returns-in_err-f c =
    let a = c.args in
    let p = err_from_is_err_and c.from_residual.result c.from_residual.ensures.1 in
    p.1 ∙ ap Err (p.2 ∙ refused _ _ _ c.in_err-f.ensures.value) ∙ sym (faults_none a.k a.h _ (sym c.line_number.ensures ∙ c.in_err-f.ensures.ok_part))

pub overflow_mul-f : goal.overflow_mul-f
overflow_mul-f c =
    omega (arith, line_small faults_key c.args.line.now word_most _ (sym c.in_ok-f.ensures.ok_part ∙ c.line_number.ensures))

pub returns-then-f-h : goal.returns-then-f-h
returns-then-f-h c =
    let a = c.args in sym (faults_few a.k a.h _ _ (sym c.line_number.ensures ∙ c.in_ok-f.ensures.ok_part) c.if-f-h.true)

pub returns-else-f-h : goal.returns-else-f-h
returns-else-f-h c =
    let a = c.args in sym (faults_many a.k a.h _ _ (sym c.line_number.ensures ∙ c.in_ok-f.ensures.ok_part) c.if-f-h.false)
