-- The theorems of the wire, over the definitions that the promises of `wire` cite.
use Rattle.std.specs.Prelude.{ℕ, ◌≡◌, true}
use Rattle.rules.specs.Sizes.{sized}
use Rattle.roundtrip.specs.Records.{Records}
use Rattle.roundtrip.specs.Messages.{Messages}
use Rattle.roundtrip.specs.Inboxes.{Inboxes}
use Rattle.roundtrip.specs.Masks.{Masks}

pub record RoundTripsAt (n : ℕ) : Type 0 where
  pub records : Records n
  pub messages : Messages n
  pub inboxes : Inboxes n
  pub masks : Masks n

-- of any n nodes, 1 to 16
abbrev pub RoundTrips : Type 0
RoundTrips = (n : ℕ) → sized n ≡ true → RoundTripsAt n
