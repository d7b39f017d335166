-- One vote: a bit is set or not, passing on adds the own bit and no other, and acceptance is its three tests.
use Prim.Native.Nat.{ℕ, suc, ◌≤◌, ◌^◌}
use mathlib.Core.Path.{◌≡◌, refl, ◌∙◌}
use mathlib.Core.Logic.{◌≢◌}
use mathlib.Core.Bool.{Bool, true, false, and-false}
use native.Mathlib.Omega.{arith}
use borrow.Author.Tests.{eqb-true, eqb-false, eq-eqb, leb-true, leb-false}
use lib.Count.{ones}
use lib.Dec.{eqb}
use Rattle.laws.specs.Masks.{bit}
use Rattle.laws.proofs.Tests.{clash}
use Rattle.laws.proofs.Count.{or_bit, own_bit, other_bit, ones_or, ones_own}
use Rattle.rules.specs.Vote.{Batch, Vote, shows, opened, accepted, passed_on}

shows_bit : (j : ℕ) (v : Vote) → shows j v ≡ true → bit v.mask j ≡ 1
unfolding shows
shows_bit j v h = eqb-true (bit v.mask j) 1 h

bit_shows : (j : ℕ) (v : Vote) → bit v.mask j ≡ 1 → shows j v ≡ true
unfolding shows
bit_shows j v h = eq-eqb (bit v.mask j) 1 h

no_bit : (j : ℕ) (v : Vote) → shows j v ≡ false → bit v.mask j ≡ 0
no_bit j v h = let ne : bit v.mask j ≢ 1 = λ e. clash (bit_shows j v e) h in omega arith

-- ---- passed on

pub passed_shows : (c me : ℕ) (v : Vote) → shows c v ≡ true → shows c (passed_on me v) ≡ true
unfolding passed_on
passed_shows c me v h = bit_shows c (passed_on me v) (or_bit v.mask (2 ^ me) c ∙ omega (arith, shows_bit c v h))

-- nobody else's bit is added
pub shown_before : (c me : ℕ) (v : Vote) → c ≢ me → shows c (passed_on me v) ≡ true → shows c v ≡ true
unfolding passed_on
shown_before c me v ne h =
    bit_shows c v (omega (arith, or_bit v.mask (2 ^ me) c, shows_bit c (passed_on me v) h, other_bit c me ne))

pub passed_ones : (me : ℕ) (v : Vote) → shows me v ≡ false → ones (passed_on me v).mask ≡ suc (ones v.mask)
unfolding passed_on
passed_ones me v h = ones_or me v.mask (no_bit me v h)

-- ---- accepted

pub record Accepted (r p : ℕ) (v : Vote) : Type 0 where
  pub of : v.primary ≡ p
  pub bit_set : shows p v ≡ true
  pub many : r ≤ ones v.mask

-- a vote of another primary, or without the primary's bit, is not accepted
of_another : (r p : ℕ) (v : Vote) → eqb v.primary p ≡ false → accepted r p v ≡ false
unfolding accepted
of_another r p v n = simp n

without_the_bit : (r p : ℕ) (v : Vote) → shows p v ≡ false → accepted r p v ≡ false
unfolding accepted
without_the_bit r p v n = simp (n, and-false)

pub accepted_says : (r p : ℕ) (v : Vote) → accepted r p v ≡ true → Accepted r p v
unfolding accepted
accepted_says r p v h = record { of = eqb-true v.primary p e; bit_set = s; many = let g = simp (e, s) at h in omega (arith, leb-true) }
  where
    needed : (t : Bool) → (t ≡ false → accepted r p v ≡ false) → t ≡ true
    needed true without = refl
    needed false without = absurd (clash h (without refl))

    e : eqb v.primary p ≡ true
    e = needed (eqb v.primary p) (of_another r p v)

    s : shows p v ≡ true
    s = needed (shows p v) (without_the_bit r p v)

pub accepts : (r p : ℕ) (v : Vote) → v.primary ≡ p → shows p v ≡ true → r ≤ ones v.mask → accepted r p v ≡ true
unfolding accepted
accepts r p v e h k = go (accepted r p v) refl
  where
    go : (t : Bool) → accepted r p v ≡ t → accepted r p v ≡ true
    go true g = g
    go false g = let x = simp (eq-eqb v.primary p e, h, accepted) at g in absurd (omega (arith, leb-false))

-- ---- opened

pub opened_accepted : (p : ℕ) (b : Batch) → accepted 1 p (opened p b) ≡ true
unfolding opened
opened_accepted p b = accepts 1 p (opened p b) refl (bit_shows p (opened p b) (own_bit p)) (omega (arith, ones_own p))

-- it shows nobody else
pub opened_shows : (c me : ℕ) (b : Batch) → shows c (opened me b) ≡ true → c ≡ me
unfolding opened
opened_shows c me b h = go (eqb c me) refl
  where
    go : (t : Bool) → eqb c me ≡ t → c ≡ me
    go true e = eqb-true c me e
    go false e = absurd (omega (arith, shows_bit c (opened me b) h, other_bit c me (eqb-false c me e)))
