-- A message written reads back as its votes, and a message read is written again.
use Rattle.std.specs.Prelude.{ℕ, ◌≤◌, ◌<◌, ◌≡◌, ◌⊎◌, ◌↔◌, true, false, List, ◌++◌, length}
use Rattle.std.proofs.Math.Option.{none, some}
use Rattle.laws.specs.Members.{In}
use Rattle.rules.specs.Vote.{Vote}
use Rattle.entries.specs.Bytes.{AreBytes}
use Rattle.wire.specs.Sizes.{message_most}
use Rattle.wire.specs.Record.{unreadable}
use Rattle.wire.specs.Message.{votes_of, silent, message_bytes}
use Rattle.roundtrip.specs.Records.{Sayable}

abbrev pub AllSayable : ℕ → List Vote → Type 0
AllSayable n vs = (v : Vote) → In v vs → Sayable n v

-- the bytes of one list of sayable votes within the limit
pub record BytesOf (n : ℕ) (s : List ℕ) (vs : List Vote) : Type 0 where
  pub bytes : message_bytes vs ≡ s
  pub sayable : AllSayable n vs
  pub short : length s ≤ message_most

-- the votes of its first records, and then an unreadable one
pub record OneUnreadable (n : ℕ) (s : List ℕ) : Type 0 where
  pub votes : List Vote
  pub rest : List ℕ
  pub bytes : message_bytes votes ++ rest ≡ s
  pub sayable : AllSayable n votes
  pub left : 0 < length rest
  pub not_read : unreadable n rest ≡ true

pub record Messages (n : ℕ) : Type 0 where
  -- a message written reads back as the same votes
  pub read_back : (vs : List Vote) → AllSayable n vs → length (message_bytes vs) ≤ message_most → votes_of n (message_bytes vs) ≡ some vs
  -- a readable message written again from its votes gives the same bytes
  pub written_again : (s : List ℕ) (vs : List Vote) → AreBytes s → votes_of n s ≡ some vs → BytesOf n s vs
  -- a message is readable exactly when it is the bytes of one list of sayable votes within the limit, and of no other list
  pub readable : (s : List ℕ) → AreBytes s → (silent (votes_of n s) ≡ false) ↔ ((vs : List Vote) × BytesOf n s vs)
  pub no_other : (s : List ℕ) (vs ws : List Vote) → BytesOf n s vs → BytesOf n s ws → vs ≡ ws
  -- "A message over 3,960 bytes, or with one unreadable record, is unreadable and counts wholly as silence."
  pub is_unreadable : (s : List ℕ) → AreBytes s → (votes_of n s ≡ none) ↔ ((message_most < length s) ⊎ OneUnreadable n s)
