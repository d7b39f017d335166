-- The message for a round, a sender and a receiver is that of the very send, for no two sends have the same numbers.
use Prim.Native.Nat.{◌<◌, ◌^◌, ◌≤◌, ℕ}
use mathlib.Core.Bool.{Bool, ◌&&◌, cond, false, true}
use mathlib.Core.List.{List, [], ◌∷◌, map}
use mathlib.Core.Logic.{◌⊎◌, inl, inr, ⊎_elim}
use mathlib.Core.Path.{◌≡◌, ap, refl, subst, sym}
use native.Mathlib.Omega.{arith}
use borrow.Author.Tests.{eq-eqb, eqb-true, ltb-true}
use lib.Dec.{eqb, ltb}
use lib.ListN.{get_or, length}
use Rattle.laws.specs.Members.{In}
use Rattle.laws.specs.Order.{ascends, ascends_from}
use Rattle.laws.proofs.Order.{rest_ascends}
use Rattle.laws.proofs.Tests.{both, clash}
use Rattle.entries.specs.Bytes.{AreBytes}
use Rattle.wire.specs.Sizes.{message_most}
use Rattle.std.specs.Prelude.{Ok}
use Rattle.header.specs.declared.Header.{Header}
use Rattle.schedule.specs.Forms.{form_of}
use Rattle.schedule.specs.Sends.{Send, rank_of}
use Rattle.contents.specs.Contents.{message_for, message_in, numbered, sends_of}
use Rattle.contents.proofs.Bytes.{sends_bytes}
use Rattle.contents.proofs.Good.{good_send, sends_ascend}

numbered_told : (r i j a b d : ℕ) → numbered r i j a b d ≡ true → (a ≡ r) × (b ≡ i) × (d ≡ j)
unfolding numbered
numbered_told r i j a b d e =
    let p = both (eqb a r) (eqb b i && eqb d j) e in
    let q = both (eqb b i) (eqb d j) p.1 in
    (eqb-true a r p.0, eqb-true b i q.0, eqb-true d j q.1)

numbered_same : (r i j : ℕ) → numbered r i j r i j ≡ true
unfolding numbered
numbered_same r i j = simp (eq-eqb r r refl, eq-eqb i i refl, eq-eqb j j refl)

-- what ascends from a is above it
rank_above : (a : ℕ) (xs : List Send) (x : Send) → ascends_from a (map rank_of xs) ≡ true → In x xs → a < rank_of x
rank_above a [] x o i = absurd i
rank_above a (y ∷ ys) x o i =
    let p = both (ltb a (rank_of y)) (ascends_from (rank_of y) (map rank_of ys)) o in
    let l : a < rank_of y = ltb-true a (rank_of y) p.0 in
    ⊎_elim (λ e. subst (λ (z : Send). a < rank_of z) (sym e) l) (λ j. omega (arith, rank_above (rank_of y) ys x p.1 j, l)) i

found_in : (xs : List Send) (x : Send) → ascends (map rank_of xs) ≡ true → In x xs → message_in x.round x.from x.to xs ≡ x.message
unfolding message_in
found_in [] x o i = absurd i
found_in (y ∷ ys) x o i = go (numbered x.round x.from x.to y.round y.from y.to) refl i (λ j. found_in ys x (rest_ascends
    (rank_of y) (map rank_of ys) o) j)
  where
    go : (t : Bool) → numbered x.round x.from x.to y.round y.from y.to ≡ t → (x ≡ y) ⊎ In x ys
        → (In x ys → message_in x.round x.from x.to ys ≡ x.message)
        → cond t y.message (message_in x.round x.from x.to ys) ≡ x.message
    go true e (inl q) rest = ap (λ (z : Send). z.message) (sym q)
    go true e (inr j) rest =
        let t = numbered_told x.round x.from x.to y.round y.from y.to e in
        absurd (omega (arith, rank_above (rank_of y) ys x o j, t.0, t.1, t.2))
    go false e (inl q) rest =
        absurd (clash (subst (λ (z : Send). numbered x.round x.from x.to z.round z.from z.to ≡ true) q (numbered_same x.round
        x.from x.to)) e)
    go false e (inr j) rest = rest j

-- the message of a send is what is found for its numbers
pub message_found : (s : List ℕ) (h : Header) → form_of s ≡ Ok h → (x : Send) → In x (sends_of s)
    → message_for s x.round x.from x.to ≡ x.message
message_found s h good x i = found_in (sends_of s) x (sends_ascend s h good) i

-- what is found for some numbers is the message of a send that has them
pub record From (s : List ℕ) (r i j : ℕ) : Type 0 where
  pub send : Send
  pub sent : In send (sends_of s)
  pub round_is : send.round ≡ r
  pub from_is : send.from ≡ i
  pub to_is : send.to ≡ j
  pub message_is : message_for s r i j ≡ send.message

from_in : (r i j : ℕ) (xs : List Send)
    → (message_in r i j xs ≡ []) ⊎ ((x : Send) × In x xs × (x.round ≡ r) × (x.from ≡ i) × (x.to ≡ j) × (message_in r i j xs ≡ x.message))
unfolding message_in
from_in r i j [] = inl refl
from_in r i j (y ∷ ys) = go (numbered r i j y.round y.from y.to) refl (from_in r i j ys)
  where
    go : (t : Bool) → numbered r i j y.round y.from y.to ≡ t
        → (message_in r i j ys ≡ []) ⊎ ((x : Send) × In x ys × (x.round ≡ r) × (x.from ≡ i) × (x.to ≡ j) × (message_in r i j ys ≡ x.message))
        → (cond t y.message (message_in r i j ys) ≡ []) ⊎ ((x : Send) × In x (y ∷ ys) × (x.round ≡ r) × (x.from ≡ i) × (x.to ≡ j) × (cond t
        y.message (message_in r i j ys) ≡ x.message))
    go true e rest = let t = numbered_told r i j y.round y.from y.to e in inr (y, inl refl, t.0, t.1, t.2, refl)
    go false e (inl q) = inl q
    go false e (inr q) = inr (q.0, inr q.1, q.2, q.3, q.4, q.5)

pub message_from : (s : List ℕ) (r i j : ℕ) → (message_for s r i j ≡ []) ⊎ From s r i j
message_from s r i j =
    ⊎_elim (λ q. inl q) (λ q. inr (record { send = q.0; sent = q.1; round_is = q.2; from_is = q.3; to_is = q.4; message_is = q.5 }))
    (from_in r i j (sends_of s))

-- whatever is found is bytes
pub message_bytes_lem : (s : List ℕ) (r i j : ℕ) → AreBytes (message_for s r i j)
message_bytes_lem s r i j =
    ⊎_elim (λ q. λ k. subst (λ (m : List ℕ). get_or m k 0 < 2 ^ 8) (sym q) (omega arith))
    (λ q. λ k. subst (λ (m : List ℕ). get_or m k 0 < 2 ^ 8) (sym q.message_is) (sends_bytes s q.send q.sent k))
    (message_from s r i j)

-- and no longer than a message may be
pub message_size : (s : List ℕ) (h : Header) (r i j : ℕ) → form_of s ≡ Ok h → length (message_for s r i j) ≤ message_most
message_size s h r i j good =
    ⊎_elim (λ q. omega (arith, ap length q))
    (λ q. omega (arith, ap length q.message_is, (good_send s h good q.send q.sent).size_most))
    (message_from s r i j)
