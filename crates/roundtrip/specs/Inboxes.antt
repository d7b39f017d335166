-- Messages put together as an inbox are cut back, and a well-cut inbox is put together again.
use Rattle.std.specs.Prelude.{ℕ, zero, suc, ◌*◌, ◌^◌, ◌<◌, ◌≡◌, ◌≢◌, ◌↔◌, true, List, [], ◌∷◌, ◌++◌, length, get_or}
use Rattle.std.proofs.Math.Option.{none}
use Rattle.laws.specs.Masks.{bit}
use Rattle.laws.specs.Members.{In}
use Rattle.entries.specs.Bytes.{AreBytes}
use Rattle.wire.specs.Sizes.{length_size}
use Rattle.wire.specs.Message.{votes_of}
use Rattle.wire.specs.Inbox.{message_of, well_cut, inbox_bytes, unreadable_senders}

-- the messages of senders 0 to n - 1
unfoldable pub messages : ℕ → List ℕ → List (List ℕ)
messages zero s = []
messages (suc n) s = messages n s ++ (message_of s n ∷ [])

-- n messages, none "too long for its two length bytes": each below 65,536 bytes
pub record Fit (n : ℕ) (ms : List (List ℕ)) : Type 0 where
  pub many : length ms ≡ n
  pub short : (m : List ℕ) → In m ms → length m < 2 ^ (8 * length_size)

pub record Inboxes (n : ℕ) : Type 0 where
  -- n messages below 65,536 bytes put together as an inbox cut back into the same n messages
  pub cut_back : (ms : List (List ℕ)) → Fit n ms → well_cut n (inbox_bytes ms) ≡ true
  pub same_message : (ms : List (List ℕ)) → Fit n ms → (j : ℕ) → j < n → message_of (inbox_bytes ms) j ≡ get_or ms j []
  pub same_messages : (ms : List (List ℕ)) → Fit n ms → messages n (inbox_bytes ms) ≡ ms
  -- a well-cut inbox put together again from its messages has the same bytes
  pub together_again : (s : List ℕ) → AreBytes s → well_cut n s ≡ true → inbox_bytes (messages n s) ≡ s
  -- "a mask of the senders whose message was unreadable, never the own bit"
  pub unreadable_bit : (me : ℕ) (s : List ℕ) (j : ℕ)
      → (bit (unreadable_senders n me s) j ≡ 1) ↔ ((j < n) × (j ≢ me) × (votes_of n (message_of s j) ≡ none))
  pub never_own : (me : ℕ) (s : List ℕ) → bit (unreadable_senders n me s) me ≡ 0
