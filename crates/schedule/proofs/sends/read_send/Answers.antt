-- A line without its key is no send.
use Prim.Native.Nat.{ℕ}
use mathlib.Core.List.{List}
use mathlib.Core.Path.{◌∙◌, ap, sym}
use Rattle.schedule.specs.Sends.{send_in, sending_as}
use Rattle.schedule.proofs.Fits.{line_no, line_yes}
use Rattle.schedule.proofs.sends.read_send.Goals as goal

pub returns-then-not-keyed : goal.returns-then-not-keyed
returns-then-not-keyed c = line_no c.args.line.now (sym c.keyed.ensures ∙ c.if-not-keyed.true)

pub returns : goal.returns
returns c =
    let line = c.args.line.now in
    c.read_value.ensures ∙ ap (λ (v : List ℕ). sending_as (send_in v)) c.value.ensures
    ∙ line_yes line (sym c.keyed.ensures ∙ c.if-not-keyed.false)
