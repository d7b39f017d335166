-- "the witness mask, low byte first, bit j for node j": a mask of n nodes, and its witnesses.
use Rattle.std.specs.Prelude.{ℕ, ◌^◌, ◌≤◌, ◌<◌, ◌≡◌, ◌↔◌}
use Rattle.std.specs.Int.Count.{ones}
use Rattle.laws.specs.Masks.{bit, count}
use Rattle.rules.specs.Vote.{Vote, shows}

pub record Masks (n : ℕ) : Type 0 where
  -- a mask below 2 ^ n is one with no bit n or above
  pub no_bit_above : (m : ℕ) → (m < 2 ^ n) ↔ ((j : ℕ) → n ≤ j → bit m j ≡ 0)
  -- the bits counted by `u16::count_ones` are the witnesses
  pub witnesses : (v : Vote) → v.mask < 2 ^ n → ones v.mask ≡ count (λ (j : ℕ). shows j v) n
