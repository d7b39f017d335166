-- The run stands before its next round, round after round.
use mathlib.Core.Path.{ap, ◌∙◌}
use native.Mathlib.Omega.{arith}
use Rattle.standing.specs.Standing.{standing}
use Rattle.standing.specs.Run.{hall_of}
use Rattle.standing.proofs.Standings.{stands_there}
use Rattle.standing.proofs.rounds.Run.advance_to.Goals as goal

pub loop-at-preserved : goal.loop-at-preserved
loop-at-preserved c =
    let r = c.args.self.now in
    let e = c.advance.ensures in (
      λ l. omega (arith, e.next),
      λ h.
          let here = c.loop-at.invariant.1 h in
          record { form = here.form; stands = stands_there (hall_of r.s.now r.header.n r.header.f) _ _ (e.stands here) },
    )

pub returns : goal.returns
returns c here first last =
    let r = c.args.self.now in
    let l = c.loop-at in
    (l.invariant.1 here).stands ∙ ap (standing (hall_of r.s.now r.header.n r.header.f)) (omega (arith, l.invariant.0 first))
