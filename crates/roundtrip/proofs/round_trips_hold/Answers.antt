-- The claim is the theorem.
use mathlib.Core.Path.{refl}
use Rattle.roundtrip.proofs.Claim.{round_trips}
use Rattle.roundtrip.proofs.round_trips_hold.Goals as goal

pub returns : goal.returns
returns c = (refl, round_trips)
