-- The first i items and the room that is left make the whole room.
use Prim.Native.Nat.{◌+◌}
use mathlib.Core.Path.{sym}
use native.Mathlib.Nat.{zero-add}
use native.Mathlib.Omega.{arith}
use borrow.Author.Tests.{lt-leb}
use lib.ListN.{length}
use Rattle.print.specs.Texts.{more_text}
use Rattle.print.proofs.Printing.{more_length, more_part}
use Rattle.print.proofs.sizes.more_fits.Goals as goal

pub loop-x-init : goal.loop-x-init
unfolding more_text
loop-x-init c = zero-add c.args.room

pub returns-then-left-size : goal.returns-then-left-size
returns-then-left-size c =
    let a = c.args in
    let l = c.loop-x in
    let more = more_length a.kind a.xs.now l.x-index (omega arith) in
    let part = more_part a.kind a.xs.now (l.x-index + 1) in
    sym (lt-leb (length (more_text a.kind a.xs.now)) a.room (omega (arith, l.invariant, more, part, c.item_size-size.ensures.0)))

pub loop-x-preserved : goal.loop-x-preserved
loop-x-preserved c =
    let a = c.args in
    let l = c.loop-x in
    let more = more_length a.kind a.xs.now l.x-index (omega arith) in
    omega (arith, l.invariant, more, c.item_size-size.ensures.0)
