-- The search goes over the numbers below i, and each is alike or not.
use Rattle.std.proofs.Common.{◌≡◌, ℕ, Bool, List, true, false}
use Rattle.std.proofs.lemmas.Iterator.{first_from_Range}
use borrow.Author.Rules.{rules}
use borrow.Author.Tests.{tests}
use Rattle.outcome.specs.Signing.{has_bit}
use Rattle.outcome.specs.Held.{log_at}
use Rattle.outcome.proofs.Numbering.{alike, first_is}
use Rattle.outcome.proofs.marks.first_alike.Goals as goal

pub returns : goal.returns
returns c =
    let a = c.args in
    let t : ℕ → Bool = has_bit a.header.faulty in
    let log : ℕ → List ℕ = log_at a.logs.now in
    let asks : ℕ → Bool = alike t log a.i in
    first_is t log a.i _ (first_from_Range _ _ _ _ (λ k. asks k ≡ true) (λ k. asks k ≡ false) c.find.ensures.ran (λ x q k. search (rules, tests)) (λ x q k. search (rules, tests)))
