-- Digits, numbers and entries: what is read of the front decides, with what is left, what the whole is.
use Rattle.std.specs.Prelude.{Option, Some, None, is_some}
use Prim.Native.Nat.{◌*◌, ◌+◌, ◌<◌, ◌^◌, ◌≤◌, ℕ}
use mathlib.Core.Bool.{Bool, ◌&&◌, and-false, cond, false, true}
use mathlib.Core.List.{List, [], ◌∷◌}
use mathlib.Core.Path.{◌∙◌, ◌≡◌, ap, ap₂, refl, sym}
use native.Mathlib.Omega.{arith}
use borrow.Author.Tests.{le-leb, le-ltb, leb-true, lt-leb, lt-ltb, ltb-false, ltb-true}
use lib.Dec.{leb, ltb}
use lib.ListN.{drop, drop_of_length-le, get_or, length, take}
use Rattle.std.specs.List.{list_all}
use Rattle.std.proofs.lemmas.List.{drop_more}
use Rattle.laws.proofs.Tests.{zero_one}
use Rattle.text.specs.Numbers.{decimal, digit_in, digit_of, digits_below, entry_as, entry_in, field_of, half_most, leading_zero, number_in, value_from, word_most}
use Rattle.text.specs.Places.{dot, past, place_of, up_to}

-- no value is read where there is no number
pub no_value : {v : ℕ} → Some v ≡ None → ⊥
no_value e = zero_one cc

pub value_is : {v w : ℕ} → Some v ≡ Some w → v ≡ w
value_is e = cc

-- ---- digits

-- a byte below `0` is no digit
pub digit_under : (b : ℕ) → b < 48 → digit_of b ≡ 16
unfolding digit_of
digit_under b h = simp (lt-ltb _ _ h)

-- a digit that was read, and a byte that is none
module _ (base b : ℕ) where
  digit_case : (t : Bool) → ltb (digit_of b) base ≡ t → (d : ℕ) → cond t (Some (digit_of b)) None ≡ Some d → (d ≡ digit_of b) × (d < base)
  digit_case true o d e = let q : d ≡ digit_of b = cc in (q, omega (arith, ltb-true _ _ o, q))
  digit_case false o d e = absurd (zero_one cc)

  pub digit_some : (d : ℕ) → digit_in base b ≡ Some d → (d ≡ digit_of b) × (d < base)
  digit_some d e = digit_case (ltb (digit_of b) base) refl d e

  none_case : (t : Bool) → ltb (digit_of b) base ≡ t → cond t (Some (digit_of b)) None ≡ None → base ≤ digit_of b
  none_case true o e = absurd (zero_one cc)
  none_case false o e = ltb-false _ _ o

  pub digit_none : digit_in base b ≡ None → base ≤ digit_of b
  digit_none e = none_case (ltb (digit_of b) base) refl e

  pub digit_read : digit_of b < base → digit_in base b ≡ Some (digit_of b)
  digit_read o = simp (lt-ltb _ _ o)

-- all of them, by the library's word
some_is : (base b : ℕ) → is_some (digit_in base b) ≡ ltb (digit_of b) base
some_is base b = go (ltb (digit_of b) base)
  where
    go : (t : Bool) → is_some (cond t (Some (digit_of b)) None) ≡ t
    go true = refl
    go false = refl

pub digits_all : (base : ℕ) (s : List ℕ) → digits_below base s ≡ list_all (λ (b : ℕ). is_some (digit_in base b)) s
unfolding digits_below
digits_all base [] = refl
digits_all base (b ∷ s) = ap₂ (λ (t u : Bool). t && u) (sym (some_is base b)) (digits_all base s)

module _ (base : ℕ) (s : List ℕ) (i : ℕ) (h : i < length s) where
  pub digits_stop : base ≤ digit_of (get_or s i 0) → digits_below base (drop i s) ≡ false
  unfolding digits_below
  digits_stop o = ap (digits_below base) (drop_more s i 0 h) ∙ simp (le-ltb _ _ o)

-- ---- numbers

-- what the number is, once v is read and t is left
unfoldable pub number_from : ℕ → ℕ → List ℕ → Option ℕ
number_from most v t = cond (digits_below 10 t && leb (value_from v t) most) (Some (value_from v t)) None

module _ (most : ℕ) (s : List ℕ) where
  pub number_none : length s ≡ 0 → number_in most s ≡ None
  unfolding number_in decimal
  number_none e = let l : length s < 1 = omega arith in simp (lt-leb _ _ l)

  pub number_zero : leading_zero s ≡ true → number_in most s ≡ None
  unfolding number_in decimal
  number_zero e = simp (e, and-false)

  pub number_start : (length s ≡ 0 → ⊥) → leading_zero s ≡ false → number_in most s ≡ number_from most 0 s
  unfolding number_in decimal number_from
  number_start n e = let l : 1 ≤ length s = omega arith in simp (e, le-leb _ _ l)

value_le : (v : ℕ) (t : List ℕ) → v ≤ value_from v t
unfolding value_from
value_le v [] = omega arith
value_le v (b ∷ t) = let h = value_le (v * 10 + digit_of b) t in omega arith

pub number_over : (most v : ℕ) (t : List ℕ) → most < v → number_from most v t ≡ None
unfolding number_from
number_over most v t h = let l : most < value_from v t = omega (arith, value_le v t) in simp (lt-leb _ _ l, and-false)

from_cons : (most v b : ℕ) (t : List ℕ) → digit_of b < 10 → number_from most v (b ∷ t) ≡ number_from most (v * 10 + digit_of b) t
unfolding number_from value_from digits_below
from_cons most v b t o = simp (lt-ltb _ _ o)

module _ (most v : ℕ) (s : List ℕ) (i : ℕ) (h : i < length s) where
  pub number_stop : digit_in 10 (get_or s i 0) ≡ None → number_from most v (drop i s) ≡ None
  unfolding number_from
  number_stop e = simp (digits_stop 10 s i h (digit_none 10 (get_or s i 0) e))

  pub number_go : (d : ℕ) → digit_in 10 (get_or s i 0) ≡ Some d → number_from most v (drop i s) ≡ number_from most (v * 10 + d) (drop (i + 1) s)
  number_go d e =
      let t = digit_some 10 (get_or s i 0) d e in
      ap (number_from most v) (drop_more s i 0 h) ∙ from_cons most v (get_or s i 0) (drop (i + 1) s) (omega (arith, t.0, t.1))
      ∙ ap (λ (x : ℕ). number_from most (v * 10 + x) (drop (i + 1) s)) (sym t.0)

pub number_end : (most v : ℕ) (s : List ℕ) (i : ℕ) → length s ≤ i → v ≤ most → number_from most v (drop i s) ≡ Some v
unfolding number_from value_from digits_below
number_end most v s i h o = ap (number_from most v) (drop_of_length-le s {i = i} h) ∙ simp (le-leb _ _ o)

-- a number that was read is no more than it may be
pub number_small : (most : ℕ) (s : List ℕ) (v : ℕ) → Some v ≡ number_in most s → v ≤ most
unfolding number_in
number_small most s v e = go (decimal s) (leb (value_from 0 s) most) refl e
  where
    go : (t u : Bool) → leb (value_from 0 s) most ≡ u → Some v ≡ cond (t && u) (Some (value_from 0 s)) None → v ≤ most
    go true true h q = omega (arith, leb-true (value_from 0 s) most h, value_is q)
    go true false h q = absurd (no_value q)
    go false u h q = absurd (no_value q)

-- ---- fields

module _ (sep most : ℕ) (s : List ℕ) where
  pub field_none : (k : ℕ) → k ≡ place_of sep s → length s ≤ k → field_of sep most s ≡ None
  unfolding field_of
  field_none k e h = let o : length s ≤ place_of sep s = omega arith in simp (le-ltb _ _ o)

  pub field_some : (k : ℕ) → k ≡ place_of sep s → k < length s → field_of sep most s ≡ number_in most (take k s)
  unfolding field_of
  field_some k e h = let o : place_of sep s < length s = omega arith in simp (lt-ltb _ _ o) (ap (λ (j : ℕ). number_in most (take j s)) (sym e))

  pub field_small : (v : ℕ) → Some v ≡ field_of sep most s → v ≤ most
  unfolding field_of
  field_small v e = go (ltb (place_of sep s) (length s)) e
    where
      go : (t : Bool) → Some v ≡ cond t (number_in most (up_to sep s)) None → v ≤ most
      go true q = number_small most (up_to sep s) v q
      go false q = absurd (no_value q)

-- ---- entries: their three numbers, one after the other

module _ (s : List ℕ) where
  pub entry_one : field_of dot half_most s ≡ None → entry_in s ≡ None
  unfolding entry_in entry_as
  entry_one a = simp a

  module _ (t : List ℕ) (e : t ≡ past dot s) (m : ℕ) (a : field_of dot half_most s ≡ Some m) where
    pub entry_two : field_of dot half_most t ≡ None → entry_in s ≡ None
    unfolding entry_in entry_as
    entry_two b = let b' : field_of dot half_most (past dot s) ≡ None = rw e at b in simp (a, b')

    module _ (u : List ℕ) (d : u ≡ past dot t) (i : ℕ) (b : field_of dot half_most t ≡ Some i) where
      pub entry_three : number_in word_most u ≡ None → entry_in s ≡ None
      unfolding entry_in entry_as
      entry_three w =
          let b' : field_of dot half_most (past dot s) ≡ Some i = rw e at b in
          let w' : number_in word_most (past dot (past dot s)) ≡ None = rw e at (rw d at w) in
          simp (a, b', w')

      pub entry_whole : (w : ℕ) → number_in word_most u ≡ Some w → entry_in s ≡ Some (m * 281474976710656 + i * 4294967296 + w)
      unfolding entry_in entry_as
      entry_whole w g =
          let b' : field_of dot half_most (past dot s) ≡ Some i = rw e at b in
          let g' : number_in word_most (past dot (past dot s)) ≡ Some w = rw e at (rw d at g) in
          simp (a, b', g')

-- an entry is a 64-bit number
pub entry_small : (s : List ℕ) (v : ℕ) → Some v ≡ entry_in s → v < 2 ^ 64
unfolding entry_in entry_as
entry_small s v e =
    go (field_of dot half_most s) (field_of dot half_most (past dot s)) (number_in word_most (past dot (past dot s))) e
    (λ x q. field_small dot half_most s x q) (λ x q. field_small dot half_most (past dot s) x q)
    (λ x q. number_small word_most (past dot (past dot s)) x q)
  where
    go : (a b w : Option ℕ) → Some v ≡ entry_as a b w → ((x : ℕ) → Some x ≡ a → x ≤ half_most) → ((x : ℕ) → Some x ≡ b → x ≤ half_most)
        → ((x : ℕ) → Some x ≡ w → x ≤ word_most) → v < 2 ^ 64
    go (Some m) (Some i) (Some w) q f g h = omega (arith, value_is q, f m refl, g i refl, h w refl)
    go (Some m) (Some i) None q f g h = absurd (no_value q)
    go (Some m) None w q f g h = absurd (no_value q)
    go None b w q f g h = absurd (no_value q)
