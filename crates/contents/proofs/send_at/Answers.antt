-- The k-th of those that are walked over.
use Rattle.std.proofs.Common.{◌∙◌, Bor, List, Option, ap, option_map, sym, ℕ}
use Rattle.std.proofs.lemmas.Iterator.Consumers.{nth_from_yields_List}
use Rattle.schedule.specs.Sends.{Send, sending_as}
use Rattle.schedule.specs.declared.Send.{Send as Numbered}
use Rattle.contents.specs.Contents.{sending_at, sent}
use Rattle.contents.proofs.Walk.{sending_is, walks}
use Rattle.contents.proofs.send_at.Goals as goal

pub returns-in_err-send : goal.returns-in_err-send
unfolding sending_as
returns-in_err-send c =
    let found = nth_from_yields_List c.nth.result c.nth.new.self c.args.k c.nth.ensures.ran (walks c.of.result) in
    c.from_residual.ensures
    ∙ sym (ap (λ (xs : List Send). sending_at xs c.args.k) c.of.ensures ∙ sending_is _ c.args.k ∙ ap sending_as (sym found)
    ∙ ap (λ (o : Option (Numbered × Bor (List ℕ))). sending_as (option_map (λ x. sent x.0 x.1.now) o)) c.in_err-send.was)

pub returns : goal.returns
unfolding sending_as
returns c =
    let found = nth_from_yields_List c.nth.result c.nth.new.self c.args.k c.nth.ensures.ran (walks c.of.result) in
    sym (ap (λ (xs : List Send). sending_at xs c.args.k) c.of.ensures ∙ sending_is _ c.args.k ∙ ap sending_as (sym found)
    ∙ ap (λ (o : Option (Numbered × Bor (List ℕ))). sending_as (option_map (λ x. sent x.0 x.1.now) o)) c.in_ok-send.was)
