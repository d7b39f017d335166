-- Refusal 2: a vote that passes the writer's test is said by its own record, and what a readable record says passes the test; so the test decides
-- whether some record readable at n says the vote.
use Prim.Native.Nat.{ℕ}
use mathlib.Core.Path.{◌≡◌, refl, sym, ap, ◌∙◌}
use mathlib.Core.Logic.{◌↔◌}
use mathlib.Core.Bool.{Bool, true, false}
use mathlib.Core.List.{[], append-nil}
use native.Mathlib.Omega.{arith}
use lib.Dec.{leb}
use lib.ListN.{length}
use Rattle.laws.proofs.Tests.{clash}
use Rattle.rules.specs.Sizes.{sized}
use Rattle.rules.specs.Refusals.{refuse◌unless◌then◌, done}
use Rattle.rules.specs.Vote.{Vote}
use Rattle.rules.proofs.Sizes.{sized_most}
use Rattle.entries.specs.Bytes.{AreEntries}
use Rattle.wire.specs.Record.{vote_of, unreadable, record_bytes}
use Rattle.wire.specs.Writer.{sayable, write_number}
use Rattle.roundtrip.specs.Records.{Sayable, Says}
use Rattle.roundtrip.proofs.Records.{reads_back, record_bytes_lem, vote_sayable}

not_two : (r : Bool) → (refuse 9 unless r then done) ≡ 2 → ⊥
not_two true e = omega arith
not_two false e = omega arith

module _ (n : ℕ) (nodes : sized n ≡ true) (v : Vote) (t : AreEntries v.batch) where
  said_by_own : sayable n v ≡ true → Says n v
  said_by_own h =
      let say : Sayable n v = record { test = h; entries = t } in
      let b = reads_back n (sized_most n nodes) v say [] in
      let e = sym (append-nil (record_bytes v)) in
      record {
        bytes = record_bytes v;
        are_bytes = record_bytes_lem n (sized_most n nodes) v say.test;
        reads = ap (unreadable n) e ∙ b.reads;
        vote = ap vote_of e ∙ b.vote;
      }

  passes : Says n v → sayable n v ≡ true
  passes w = ap (sayable n) (sym w.vote) ∙ (vote_sayable n w.bytes w.are_bytes w.reads).test

  pub decided : (sayable n v ≡ true) ↔ Says n v
  decided = (said_by_own, passes)

  -- the number, by the test
  number : (room : ℕ) (b : Bool) → sayable n v ≡ b → (write_number n v room ≡ 2) ↔ (Says n v → ⊥)
  unfolding write_number
  number room true e =
      (λ h w. not_two (leb (length (record_bytes v)) room) (simp (nodes, e) at h), λ none. absurd (none (said_by_own e)))
  number room false e = (λ h w. clash (passes w) e, λ none. simp (nodes, e))

  pub refused : (room : ℕ) → (write_number n v room ≡ 2) ↔ (Says n v → ⊥)
  refused room = number room (sayable n v) refl
