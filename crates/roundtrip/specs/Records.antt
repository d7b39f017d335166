-- A record written reads back as its vote, and a record read is written again.
use Rattle.std.specs.Prelude.{ℕ, ◌≤◌, ◌≡◌, ◌↔◌, true, false, List, ◌++◌, length, take}
use Rattle.rules.specs.Vote.{Vote}
use Rattle.entries.specs.Bytes.{AreBytes, AreEntries}
use Rattle.wire.specs.Sizes.{record_most}
use Rattle.wire.specs.Record.{size_of, vote_of, unreadable, record_bytes}
use Rattle.wire.specs.Writer.{sayable, write_number}

-- the vote passes the writer's test at n; "An entry is a 64-bit number"
pub record Sayable (n : ℕ) (v : Vote) : Type 0 where
  pub test : sayable n v ≡ true
  pub entries : AreEntries v.batch

-- some record readable at n says the vote
pub record Says (n : ℕ) (v : Vote) : Type 0 where
  pub bytes : List ℕ
  pub are_bytes : AreBytes bytes
  pub reads : unreadable n bytes ≡ false
  pub vote : vote_of bytes ≡ v

-- what is read where the record of a vote stands before other bytes
pub record ReadBack (n : ℕ) (v : Vote) (rest : List ℕ) : Type 0 where
  pub reads : unreadable n (record_bytes v ++ rest) ≡ false
  pub vote : vote_of (record_bytes v ++ rest) ≡ v
  pub size : size_of (record_bytes v ++ rest) ≡ length (record_bytes v)

pub record Records (n : ℕ) : Type 0 where
  -- a record written reads back as the same vote with any bytes after it
  pub read_back : (v : Vote) (rest : List ℕ) → Sayable n v → ReadBack n v rest
  -- what is written is bytes, at most 132
  pub are_bytes : (v : Vote) → Sayable n v → AreBytes (record_bytes v)
  pub at_most : (v : Vote) → Sayable n v → length (record_bytes v) ≤ record_most
  -- a readable record written again from its vote gives the same bytes, and its vote can be written
  pub written_again : (s : List ℕ) → AreBytes s → unreadable n s ≡ false → record_bytes (vote_of s) ≡ take (size_of s) s
  pub vote_sayable : (s : List ℕ) → AreBytes s → unreadable n s ≡ false → Sayable n (vote_of s)
  -- the writer's test decides whether some record readable at n says the vote
  pub decided : (v : Vote) → AreEntries v.batch → (sayable n v ≡ true) ↔ Says n v
  -- 2: "no record readable at the handed n says the vote to be written"
  pub refused : (v : Vote) → AreEntries v.batch → (room : ℕ) → (write_number n v room ≡ 2) ↔ (Says n v → ⊥)
