-- The slots that are written stand in the first bytes of the places.
use mathlib.Core.Path.{subst}
use lib.ListN.{get_or, replicate}
use Rattle.outcome.specs.Marks.{mark_with}
use Rattle.outcome.specs.Signing.{has_bit}
use Rattle.outcome.specs.Held.{AllCounted}
use Rattle.outcome.proofs.Coming.{spoken_part}
use Rattle.outcome.proofs.signers.count_all.Goals as goal

pub returns : goal.returns
returns c =
    let a = c.args in
    let s = c.put_slots-size in
    let part = spoken_part (has_bit a.header.faulty) a.numbers a.header.n (replicate 528 0) _ s.result s.ensures.0 s.ensures.1 in
    subst (λ slots. AllCounted a.header.n a.header.f (λ j. mark_with (get_or a.numbers j 0)) slots a.header.n c.count_each.result) part c.count_each.ensures
