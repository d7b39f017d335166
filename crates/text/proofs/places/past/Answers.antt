-- Nothing follows where the byte is not there.
use native.Mathlib.Omega.{arith}
use Rattle.text.proofs.Scan.{past_none, past_some, place_within}
use Rattle.text.proofs.places.past.Goals as goal

pub slice_bounds-result-count : goal.slice_bounds-result-count
slice_bounds-result-count c = omega (
  arith,
  place_within c.args.c _ c.args.s.now
      c.place-k.ensures,
)

pub slice_bounds-result-start : goal.slice_bounds-result-start
slice_bounds-result-start c = omega (arith, place_within c.args.c _ c.args.s.now c.place-k.ensures)

pub returns-then-s-k : goal.returns-then-s-k
returns-then-s-k c =
    let a = c.args in
    past_none a.c _ a.s.now c.place-k.ensures c.if-s-k.true

pub returns : goal.returns
returns c =
    let a = c.args in
    past_some a.c _ a.s.now c.place-k.ensures
