-- A sound node in a round finds the votes of its well-cut inbox; what is passed on of it is written where there is room.
use Rattle.std.proofs.Common.{ℕ, ◌≡◌, [], ◌≤◌, ◌<◌, length, get_or, take, sym, arith, rules}
use borrow.Author.Tests.{tests}
use Rattle.std.proofs.lemmas.Result.{err_from_is_err_and}
use lib.Seq.{length-take-le}
use Rattle.node.proofs.Sound.{sound_sizes}
use Rattle.keeping.specs.declared.Found.{Found}
use Rattle.passing.specs.Passing.{found_at}
use Rattle.round.proofs.Mapped.{mapped}
use Rattle.step.proofs.Steps.{primaries_most, rounds_told, Passes, passes, next_node, no_room, is_stepped}
use Rattle.step.proofs.stepping.take.Goals as goal
use Rattle.step.proofs.stepping.take.Goals.{After-primaries_in-primaries}

-- what is passed on of what was found is what the step passes on
said_so : (c : After-primaries_in-primaries)
    → let a = c.args in Passes a.node.now a.inbox.now (take c.primaries_in-primaries.result c.take_inbox.new.found)
said_so c =
    let a = c.args in
    passes a.node.now a.inbox.now c.requires.0 _ _ _ c.requires.2 c.requires.3 c.begin-found.ensures c.take_inbox.ensures _ c.primaries_in-primaries.ensures

pub primaries_in-primaries-requires : goal.primaries_in-primaries-requires
primaries_in-primaries-requires c =
    let t = sound_sizes c.args.node.now c.requires.0 in
    omega (arith, t.half, t.most)

-- there are places for all of them
places : (c : After-primaries_in-primaries) → c.primaries_in-primaries.result ≤ length c.take_inbox.new.found
places c =
    let s = c.args.node.now in
    omega (arith, c.primaries_in-primaries.ensures, primaries_most s.n s.f s.phase, (sound_sizes s c.requires.0).most, c.take_inbox.array_long)

pub slice_bounds-found-end : goal.slice_bounds-found-end
slice_bounds-found-end c = places (goal.at.slice_bounds-found-end c).After-primaries_in-primaries

pub slice_bounds-pass_on-end : goal.slice_bounds-pass_on-end
slice_bounds-pass_on-end c =
    sym (length-take-le _ c.take_inbox.new.found (places (goal.at.slice_bounds-pass_on-end c).After-primaries_in-primaries))

pub pass_on-requires : goal.pass_on-requires
pass_on-requires c =
    let n = sound_sizes c.args.node.now c.requires.0 in
    let t = said_so (goal.at.pass_on-requires c).After-primaries_in-primaries in
    (n.nodes, omega (arith, n.node, n.most), t.most, t.held, t.sayable)

pub returns-in_err-length : goal.returns-in_err-length
returns-in_err-length c =
    let a = c.args in
    let p = err_from_is_err_and c.from_residual.result c.from_residual.ensures.1 in
    rw (p.1, p.2)
    (no_room a.node.now a.inbox.now a.outbox.now c.requires.0 c.requires.1 c.requires.2 _
    (said_so (goal.at.returns-in_err-length c).After-primaries_in-primaries).says _ _ c.in_err-length.ensures)

pub overflow_add-node : goal.overflow_add-node
overflow_add-node c =
    let t = sound_sizes c.args.node.now c.requires.0 in
    record { fits = omega (arith, rounds_told c.args.node.now c.requires.1, t.half, t.most) }

pub returns : goal.returns
returns c =
    let a = c.args in
    let size : length c.take_inbox.new.found ≡ 16 = search rules in
    let none = found_at [] 0 in
    let found = c.take_inbox.new.found in
    let each : (p : ℕ) → p < 16 → get_or c.from_fn-node.result p none.kept ≡ (get_or found p none).kept =
    λ p l. let called = c.from_fn-node.ensures.items.at p none.kept l in search (rules, tests) in
    let kept = mapped (λ (x : Found). x.kept) none found c.from_fn-node.result 16 size c.from_fn-node.ensures.items.long each in
    is_stepped a.node.now a.inbox.now a.outbox.now c.requires.0 c.requires.1 c.requires.2 _
    (said_so (goal.at.returns c).After-primaries_in-primaries).says _ _ _ _ c.in_ok-length.ensures c.requires.3
    (next_node a.node.now a.inbox.now c.requires.0 _ _ _ c.requires.2 c.requires.3 c.begin-found.ensures c.take_inbox.ensures _ kept)
