-- The claims, each from the laws of its subject.
use Prim.Native.Nat.{ℕ}
use mathlib.Core.Path.{◌≡◌}
use mathlib.Core.Bool.{true}
use Rattle.rules.specs.Sizes.{sized}
use Rattle.rules.proofs.Sizes.{sized_most}
use Rattle.roundtrip.specs.Records.{Records}
use Rattle.roundtrip.specs.Claim.{RoundTrips}
use Rattle.roundtrip.proofs.Records.{reads_back, record_bytes_lem, record_most_lem, record_again, vote_sayable}
use Rattle.roundtrip.proofs.Sayable.{decided, refused}
use Rattle.roundtrip.proofs.Messages.{messages}
use Rattle.roundtrip.proofs.Inboxes.{inboxes}
use Rattle.roundtrip.proofs.Masks.{masks}

records : (n : ℕ) → sized n ≡ true → Records n
records n nodes =
    let most = sized_most n nodes in
    record {
      read_back = λ v rest say. reads_back n most v say rest;
      are_bytes = λ v say. record_bytes_lem n most v say.test;
      at_most = λ v say. record_most_lem n most v say.test;
      written_again = record_again n;
      vote_sayable = vote_sayable n;
      decided = decided n nodes;
      refused = refused n nodes;
    }

pub round_trips : RoundTrips
round_trips n nodes = record { records = records n nodes; messages = messages n (sized_most n nodes); inboxes = inboxes n; masks = masks n }
