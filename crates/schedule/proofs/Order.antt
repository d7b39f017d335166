-- Ranks are in the order of the sends: "by round, from, to".
use Prim.Native.Nat.{ℕ, ◌+◌, ◌*◌, ◌<◌}
use mathlib.Core.Path.{◌≡◌, refl, ap₂, ◌∙◌}
use mathlib.Core.Bool.{Bool, true, false, ◌&&◌, ◌||◌}
use native.Mathlib.Omega.{arith}
use borrow.Author.Tests.{lt-ltb, le-ltb, ltb-true, ltb-false, eq-eqb, ne_eqb, eqb-true, eqb-false}
use lib.Dec.{ltb, eqb}
use Rattle.rules.specs.Sizes.{nodes_most}
use Rattle.schedule.specs.Sends.{Send, rank_of}

-- of two numbers of two digits the high digit decides, and where it is the same the low one
module _ (a b c d : ℕ) (l : b < nodes_most) (m : d < nodes_most) where
  abbrev left : ℕ
  left = a * nodes_most + b

  abbrev right : ℕ
  right = c * nodes_most + d

  two_below : ltb left right ≡ (ltb a c || (eqb a c && ltb b d))
  two_below = go (ltb a c) refl (eqb a c) refl (ltb b d) refl
    where
      go : (x : Bool) → ltb a c ≡ x → (y : Bool) → eqb a c ≡ y → (z : Bool) → ltb b d ≡ z → ltb left right ≡ (x || (y && z))
      go true p y q z r = lt-ltb left right (omega (arith, ltb-true a c p))
      go false p true q true r = lt-ltb left right (omega (arith, eqb-true a c q, ltb-true b d r))
      go false p true q false r = le-ltb left right (omega (arith, eqb-true a c q, ltb-false b d r))
      go false p false q z r = let ne = eqb-false a c q in le-ltb left right (omega (arith, ltb-false a c p))

  two_same : eqb left right ≡ (eqb a c && eqb b d)
  two_same = go (eqb a c) refl (eqb b d) refl
    where
      go : (x : Bool) → eqb a c ≡ x → (y : Bool) → eqb b d ≡ y → eqb left right ≡ (x && y)
      go true p true q = eq-eqb left right (omega (arith, eqb-true a c p, eqb-true b d q))
      go true p false q = let ne = eqb-false b d q in ne_eqb left right (λ (e : left ≡ right). ne (omega (arith, eqb-true a c p)))
      go false p y q = let ne = eqb-false a c p in ne_eqb left right (λ (e : left ≡ right). ne (omega arith))

-- a round before; in the same round a sender before; of the same sender a receiver before
pub by_round_from_to : (x y : Send) → x.from < nodes_most → x.to < nodes_most → y.from < nodes_most → y.to < nodes_most
    → ltb (rank_of x) (rank_of y)
    ≡ (ltb x.round y.round || (eqb x.round y.round && (ltb x.from y.from || (eqb x.from y.from && ltb x.to y.to))))
by_round_from_to x y a b c d =
    two_below (x.round * nodes_most + x.from) x.to (y.round * nodes_most + y.from) y.to b d
    ∙ ap₂ (λ (s t : Bool). s || (t && ltb x.to y.to)) (two_below x.round x.from y.round y.from a c) (two_same x.round x.from y.round y.from a c)
    ∙ joined (ltb x.round y.round) (eqb x.round y.round) (ltb x.from y.from) (eqb x.from y.from) (ltb x.to y.to)
  where
    joined : (p q r s t : Bool) → ((p || (q && r)) || ((q && s) && t)) ≡ (p || (q && (r || (s && t))))
    joined true q r s t = refl
    joined false true r s t = refl
    joined false false r s t = refl
