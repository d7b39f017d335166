-- Before turn k no send before the k-th breaks the rule, and the run stands before a round that is not after the k-th send's.
use Prim.Native.Nat.{◌+◌, ◌≤◌, ◌<◌}
use mathlib.Core.Path.{◌≡◌}
use Rattle.contents.specs.Contents.{sends_of}
use lib.ListN.{length}
use Rattle.standing.specs.Standing.{standing}
use Rattle.standing.specs.Run.{hall_of}
use Rattle.played.specs.Playing.{breach}
use Rattle.played.proofs.Sends.{send_at}
use Rattle.played.proofs.Breaches.{left}
use Rattle.played.proofs.playing.play_good.Given as goal

abbrev pub invariant-loop-k : goal.invariant-loop-k
invariant-loop-k l =
    let s = l.run.s.now in
    let h = l.run.header in
    record {
      rest : breach s h.n h.f ≡ left s h l.k;
      stands : l.here ≡ standing (hall_of s h.n h.f) l.here.next;
      most : l.here.next ≤ h.f + 1;
      early : l.k < length (sends_of s) → l.here.next ≤ (send_at (sends_of s) l.k).round;
    }
