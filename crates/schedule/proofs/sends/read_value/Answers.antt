-- Three numbers, each read behind the one before.
use Rattle.std.proofs.Common.{◌∙◌, sym}
use Rattle.schedule.specs.Sends.{send_in}
use Rattle.schedule.proofs.Fits.{send_one, send_three, send_two, send_whole, sending_none, sending_some}
use Rattle.schedule.proofs.sends.read_value.Goals as goal

pub returns-in_err-round : goal.returns-in_err-round
returns-in_err-round c =
    let v = c.args.v.now in c.from_residual.ensures ∙ sending_none (send_in v) (send_one v (sym c.in_err-round.ensures))

pub returns-in_err-from : goal.returns-in_err-from
returns-in_err-from c =
    let v = c.args.v.now in
    c.from_residual-in_err-from.ensures
    ∙ sending_none (send_in v) (send_two v _ c.past-after.ensures _ (sym c.in_ok-round.ensures) (sym c.in_err-from.ensures))

pub returns-in_err-to : goal.returns-in_err-to
returns-in_err-to c =
    let v = c.args.v.now in
    c.from_residual-in_err-to.ensures
    ∙ sending_none (send_in v) (send_three v _ c.past-after.ensures _ (sym c.in_ok-round.ensures) _ c.past.ensures _ (sym c.in_ok-from.ensures)
    (sym c.in_err-to.ensures))

pub returns : goal.returns
returns c =
    let v = c.args.v.now in
    sending_some (send_in v) _ (send_whole v _ c.past-after.ensures _ (sym c.in_ok-round.ensures) _ c.past.ensures _ (sym c.in_ok-from.ensures) _
    (sym c.in_ok-to.ensures))
