-- Each place holds what is kept for its primary, and no masks.
use Rattle.std.proofs.Common.{ℕ, ◌≡◌, ◌<◌, [], length, get_or, rules}
use borrow.Author.Tests.{tests}
use Rattle.node.specs.State.{kept_at}
use Rattle.round.proofs.Mapped.{mapped}
use Rattle.round.proofs.Starts.{bare, all_bare}
use Rattle.round.proofs.finding.begin.Goals as goal

pub returns : goal.returns
returns c =
    let kept = c.args.kept.now in
    let size : length kept ≡ 16 = search rules in
    let none = kept_at [] 0 in
    let each : (p : ℕ) → p < 16 → get_or c.from_fn.result p (bare none) ≡ bare (get_or kept p none) =
    λ p l. let called = c.from_fn.ensures.items.at p (bare none) l in search (rules, tests) in
    all_bare kept c.from_fn.result (mapped bare none kept c.from_fn.result 16 size c.from_fn.ensures.items.long each)
