-- What the close leaves in empty places is the log, held.
use Rattle.std.proofs.Common.{ℕ, List, [], ap, subst}
use Rattle.closing.specs.Close.{Close}
use Rattle.outcome.proofs.Made.{close_holds}
use Rattle.outcome.proofs.logs.log_of.Goals as goal

pub returns : goal.returns
returns c =
    let closes = subst (λ (places : List ℕ). Close c.args.node [] places c.close.result c.close.new.output) (ap (λ x. x.entries) c.none-log.ensures) c.close.ensures in
    close_holds c.args.node c.close.result _ closes _ c.unwrap_or.ensures
