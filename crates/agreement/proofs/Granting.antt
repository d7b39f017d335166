-- What demand 3 grants of a run in bytes gives the premises of the theorem over votes: whole messages read as what was sent, no mask that is read has a bit
-- n or above, and a vote that is shown was sent.
use Prim.Native.Nat.{ℕ}
use mathlib.Core.Path.{◌≡◌, refl, ap, ◌∙◌}
use mathlib.Core.List.{List}
use mathlib.Core.Option.{Option, none, some}
use native.Mathlib.Omega.{arith}
use borrow.Author.Tests.{lt-ltb}
use Rattle.laws.specs.Members.{In}
use Rattle.rules.specs.Vote.{Vote}
use Rattle.rules.specs.Premises.{Premises}
use Rattle.rules.proofs.Sizes.{majority}
use Rattle.wire.specs.Message.{votes_of}
use Rattle.wire.specs.Inbox.{message_of}
use Rattle.wire.proofs.Writings.{said}
use Rattle.round.specs.Found.{votes_in}
use Rattle.step.proofs.PassedVotes.{heard_sayable}
use Rattle.agreement.specs.Hall.{Hall}
use Rattle.agreement.specs.Granted.{Correct, Round, Granted}
use Rattle.agreement.proofs.Follows.{over_votes, Unhindered}
use Rattle.agreement.proofs.Sendings.{sends_read, sent_ruled}

-- a vote that is heard stands in a readable message
pub heard_in : (o : Option (List Vote)) (v : Vote) → In v (votes_in o) → (votes : List Vote) × (o ≡ some votes) × In v votes
heard_in none v m = absurd m
heard_in (some votes) v m = (votes, refl, m)

module _ (hall : Hall) (G : Granted hall) where
  -- nothing hinders a correct node
  pub unhindered : (i : ℕ) → Correct hall i → Unhindered hall i
  unhindered i ci = record {
    numbers = majority hall.n hall.f i G.nodes (omega (arith, G.above)) ∙ lt-ltb i hall.n ci.node;
    tray = G.trays i ci;
    entries = G.entries i ci;
    room = G.room i ci;
    cut = λ r b. G.cut i r ci b;
    bytes = λ r b. G.bytes i r ci b;
  }

  pub granted : Premises (over_votes hall)
  granted = record {
    few = G.few;
    above = omega (arith, G.above);
    well_formed = G.well_formed;
    whole = λ r i j b ci cj ne.
        let round : Round hall r = record { first = b.0; last = b.1 } in
        let fj : Correct hall j = record { node = cj.node; fine = cj.fine } in
        ap (λ (m : List ℕ). votes_in (votes_of hall.n m)) (G.whole i j r (record { node = ci.node; fine = ci.fine }) fj ne round)
        ∙ ap votes_in (sends_read hall j (unhindered j fj) r round);
    anything = λ r i j b ci fj v m. (said hall.n v (heard_sayable hall.n (hall.inbox i r) j v m)).mask;
    unforged = λ r i j b ci fj v m c cc shown.
        let h = heard_in (votes_of hall.n (message_of (hall.inbox i r) j)) v m in
        let fc : Correct hall c = record { node = cc.node; fine = cc.fine } in
        sent_ruled hall c (unhindered c fc) r v.primary v.batch b.1
        (G.unforged i j r (record { node = ci.node; fine = ci.fine }) (record { node = fj.node; lies = fj.lies }) (record { first = b.0; last = b.1 })
        h.0 h.1 v h.2 c fc shown);
  }
