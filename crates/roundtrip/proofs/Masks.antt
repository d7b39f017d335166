-- Masks: the laws of set bits, said of a vote's witnesses.
use Prim.Native.Nat.{ℕ, ◌^◌, ◌<◌}
use mathlib.Core.Path.{◌≡◌}
use lib.Count.{ones}
use Rattle.laws.specs.Masks.{count}
use Rattle.laws.proofs.Bits.{low_bits, below, ones_count}
use Rattle.rules.specs.Vote.{Vote, shows}
use Rattle.roundtrip.specs.Masks.{Masks}

witnesses : (n : ℕ) (v : Vote) → v.mask < 2 ^ n → ones v.mask ≡ count (λ (j : ℕ). shows j v) n
unfolding shows
witnesses n v h = ones_count n v.mask h

pub masks : (n : ℕ) → Masks n
masks n = record { no_bit_above = λ m. (low_bits n m, below n m); witnesses = witnesses n }
