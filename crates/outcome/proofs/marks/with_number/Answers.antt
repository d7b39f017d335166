-- A faulty node adds no log; a correct one has the log of a node below, and its number, or the next number.
use mathlib.Core.Path.{refl, sym, ◌∙◌}
use native.Mathlib.Omega.{arith}
use Rattle.outcome.specs.Signing.{has_bit}
use Rattle.outcome.specs.Held.{log_at}
use Rattle.outcome.proofs.Numbering.{distinct_most, faulty_numbered, old_numbered, new_numbered}
use Rattle.outcome.proofs.marks.with_number.Goals as goal

pub returns-then-is_faulty : goal.returns-then-is_faulty
returns-then-is_faulty c =
    let a = c.args in
    faulty_numbered (has_bit a.header.faulty) (log_at a.logs.now) a.i a.numbers c.requires.1 (sym c.is_faulty.ensures ∙ c.if-is_faulty.true)

pub overflow_cast-numbers : goal.overflow_cast-numbers
overflow_cast-numbers c =
    let a = c.args in
    omega (arith, c.requires.1.count, distinct_most (has_bit a.header.faulty) (log_at a.logs.now) a.i)

pub overflow_add-numbers : goal.overflow_add-numbers
overflow_add-numbers c =
    let a = c.args in
    omega (arith, c.requires.1.count, distinct_most (has_bit a.header.faulty) (log_at a.logs.now) a.i)

pub returns-in-Some : goal.returns-in-Some
returns-in-Some c =
    let a = c.args in
    let f = sym c.is_faulty.ensures ∙ c.if-is_faulty.false in
    old_numbered (has_bit a.header.faulty) (log_at a.logs.now) a.i a.numbers c.requires.1 f c.requires.0 c.in-Some.k c.in-Some.ensures

pub returns-in-None : goal.returns-in-None
returns-in-None c =
    let a = c.args in
    let f = sym c.is_faulty.ensures ∙ c.if-is_faulty.false in
    new_numbered (has_bit a.header.faulty) (log_at a.logs.now) a.i a.numbers c.requires.1 f c.requires.0 c.in-None.ensures _ refl
