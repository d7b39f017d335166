-- A bad line is answered, of the form or of a send; else what was played is what the report asks for.
use Rattle.std.proofs.Common.{sym, refl}
use Rattle.std.proofs.lemmas.Result.{err_from_is_err_and}
use Rattle.rehearsal.proofs.Tellings.{bad_form, broken, report_tells}
use Rattle.rehearsal.proofs.telling.tell_run.Goals as goal

pub returns : goal.returns
returns c =
    let a = c.args in
    let told = c.report_into in
    report_tells a.schedule.now c.in_ok-header.header (sym c.in_ok-header.ensures) c.in_ok-nodes.nodes c.in_ok-nodes.ensures a.text.now told.result _ told.ensures

pub returns-in_err-header : goal.returns-in_err-header
returns-in_err-header c =
    let p = err_from_is_err_and c.from_residual.result c.from_residual.ensures.1 in
    rw (p.1, p.2) (bad_form c.args.schedule.now _ c.in_err-header.ensures, refl)

pub returns-in_err-nodes : goal.returns-in_err-nodes
returns-in_err-nodes c =
    let p = err_from_is_err_and c.from_residual-in_err-nodes.result c.from_residual-in_err-nodes.ensures.1 in
    rw (p.1, p.2) (broken c.args.schedule.now c.in_ok-header.header (sym c.in_ok-header.ensures) _ c.in_err-nodes.ensures, refl)
