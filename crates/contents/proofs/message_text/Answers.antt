-- The first of those that are walked over which has the numbers.
use Rattle.std.proofs.Common.{◌∙◌, Bor, List, Option, ap, option_map, rules, sym, tests, ℕ}
use Rattle.std.proofs.lemmas.Iterator.Search.{find_from_yields_List}
use Rattle.schedule.specs.Sends.{Send}
use Rattle.schedule.specs.declared.Send.{Send as Numbered}
use Rattle.contents.specs.Contents.{message_in, numbered, sent}
use Rattle.contents.proofs.Walk.{hex_empty, message_is, text_in, walks}
use Rattle.contents.proofs.message_text.Goals as goal

pub returns-in-Some : goal.returns-in-Some
unfolding numbered text_in
returns-in-Some c =
    let a = c.args.send in
    let found = find_from_yields_List (λ (x : Send). numbered a.round a.from a.to x.round x.from x.to) c.find.new.self _ c.find.result c.find.ensures.ran (walks c.of.result)
    (λ x b q k. search (rules, tests)) in
    sym (ap (message_in a.round a.from a.to) c.of.ensures ∙ message_is a.round a.from a.to _ ∙ ap text_in (sym found)
    ∙ ap (λ (o : Option (Numbered × Bor (List ℕ))). text_in (option_map (λ x. sent x.0 x.1.now) o)) c.in-Some.is)

pub returns-in-None : goal.returns-in-None
unfolding numbered text_in
returns-in-None c =
    let a = c.args.send in
    let found = find_from_yields_List (λ (x : Send). numbered a.round a.from a.to x.round x.from x.to) c.find.new.self _ c.find.result c.find.ensures.ran (walks c.of.result)
    (λ x b q k. search (rules, tests)) in
    hex_empty ∙ sym (ap (message_in a.round a.from a.to) c.of.ensures ∙ message_is a.round a.from a.to _ ∙ ap text_in (sym found)
    ∙ ap (λ (o : Option (Numbered × Bor (List ℕ))). text_in (option_map (λ x. sent x.0 x.1.now) o)) c.in-None.is)
