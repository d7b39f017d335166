-- The first place that `position` finds, or the length.
use Rattle.std.proofs.Common.{eqb, rules, sym, ◌∙◌, ap, length, Option, ℕ, unwrap_or}
use Rattle.std.proofs.lemmas.Iterator.{YieldsList-from_slice}
use Rattle.std.proofs.lemmas.Iterator.Search.{position_from_yields_List}
use borrow.Author.Tests.{tests}
use Rattle.text.proofs.Scan.{place_first}
use Rattle.text.proofs.places.place.Goals as goal

pub returns : goal.returns
returns c =
    let a = c.args in
    let found = position_from_yields_List (λ (b : ℕ). eqb b a.c) _ _ c.position.result c.position.ensures.ran
    (YieldsList-from_slice _ c.iter.ensures.rest) (λ x b q k. search (rules, tests)) in
    c.unwrap_or.ensures ∙ ap (λ (o : Option ℕ). unwrap_or o (length a.s.now)) found ∙ sym (place_first a.c a.s.now)
