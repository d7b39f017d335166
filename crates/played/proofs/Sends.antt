-- The sends of a schedule of good form, one after the other: rounds never go down, and there are few.
use Prim.Native.Nat.{ℕ, zero, suc, ◌+◌, ◌*◌, ◌≤◌, ◌<◌}
use mathlib.Core.Path.{◌≡◌, refl, ap, ◌∙◌}
use mathlib.Core.Bool.{true}
use mathlib.Core.List.{List, [], ◌∷◌, map}
use native.Mathlib.Omega.{arith}
use borrow.Author.Tests.{ltb-true}
use lib.Dec.{ltb}
use lib.ListN.{length, get_or, length-map, get_or-map}
use Rattle.laws.specs.Order.{ascends_from, ascends}
use Rattle.laws.proofs.Tests.{both}
use Rattle.laws.proofs.Order.{places_rise}
use Rattle.laws.proofs.Members.{at_in}
use Rattle.rules.specs.Sizes.{nodes_most}
use Rattle.rules.proofs.Sizes.{sized_most}
use Rattle.schedule.specs.Sends.{Send, sending_as, rank_of}
use Rattle.schedule.specs.Forms.{form_of}
use Rattle.header.specs.declared.Header.{Header}
use Rattle.schedule.specs.declared.Send.{Send as Numbered}
use Rattle.std.proofs.Common.{Ok, Some, None}
use Rattle.contents.specs.Contents.{sends_of, sending_at, message_for}
use Rattle.contents.proofs.Good.{Fair, good_sizes, good_send, sends_ascend}
use Rattle.contents.proofs.Found.{message_found}

-- what stands beyond the last
abbrev no_send : Send
no_send = record { round = 0; from = 0; to = 0; message = [] }

-- the k-th of some sends
abbrev pub send_at : List Send → ℕ → Send
send_at xs k = get_or xs k no_send

-- ---- what the answer of `send_at` tells

sending_at_lem : (xs : List Send) (k : ℕ) → k < length xs
    → sending_at xs k ≡ Some (record { round = (send_at xs k).round; from = (send_at xs k).from; to = (send_at xs k).to })
unfolding sending_at sending_as
sending_at_lem [] k l = absurd (omega arith)
sending_at_lem (x ∷ xs) zero l = refl
sending_at_lem (x ∷ xs) (suc k) l = sending_at_lem xs k (omega arith)

pub sent_numbers : (xs : List Send) (k : ℕ) (y : Numbered) → k < length xs → Some y ≡ sending_at xs k
    → (y.round ≡ (send_at xs k).round) × (y.from ≡ (send_at xs k).from) × (y.to ≡ (send_at xs k).to)
sent_numbers xs k y l e =
    let x = send_at xs k in
    let z : Numbered = record { round = x.round; from = x.from; to = x.to } in
    let q : Some y ≡ Some z = e ∙ sending_at_lem xs k l in
    let w : y ≡ z = cc in
    (ap (λ (u : Numbered). u.round) w, ap (λ (u : Numbered). u.from) w, ap (λ (u : Numbered). u.to) w)

pub never_none : (xs : List Send) (k : ℕ) → k < length xs → None ≡ sending_at xs k → ⊥
never_none xs k l e = let q = e ∙ sending_at_lem xs k l in cc

-- ---- their order

-- what ascends strictly goes up by one at least
goes_up : (x : ℕ) (xs : List ℕ) → ascends_from x xs ≡ true → (k : ℕ) → k < length xs → x + k < get_or xs k 0
goes_up x [] a k l = absurd (omega arith)
goes_up x (y ∷ ys) a zero l = omega (arith, ltb-true x y (both (ltb x y) (ascends_from y ys) a).0)
goes_up x (y ∷ ys) a (suc k) l =
    let p = both (ltb x y) (ascends_from y ys) a in
    omega (arith, ltb-true x y p.0, goes_up y ys p.1 k (omega arith))

place_least : (xs : List ℕ) → ascends xs ≡ true → (k : ℕ) → k < length xs → k ≤ get_or xs k 0
place_least [] a k l = absurd (omega arith)
place_least (x ∷ xs) a zero l = omega arith
place_least (x ∷ xs) a (suc k) l = omega (arith, goes_up x xs a k (omega arith))

module _ (s : List ℕ) (h : Header) (form : form_of s ≡ Ok h) where
  abbrev at : ℕ → Send
  at k = send_at (sends_of s) k

  pub send_fits : (k : ℕ) → k < length (sends_of s) → Fair s h.n h.f (at k)
  send_fits k l = good_send s h form (at k) (at_in (sends_of s) k no_send l)

  pub send_message : (k : ℕ) → k < length (sends_of s) → message_for s (at k).round (at k).from (at k).to ≡ (at k).message
  send_message k l = message_found s h form (at k) (at_in (sends_of s) k no_send l)

  abbrev ranks : List ℕ
  ranks = map rank_of (sends_of s)

  rank_at : (k : ℕ) → get_or ranks k 0 ≡ rank_of (at k)
  rank_at k = get_or-map rank_of (sends_of s) k no_send

  within : (k : ℕ) → k < length (sends_of s) → ((at k).from < nodes_most) × ((at k).to < nodes_most)
  within k l =
      let x = send_fits k l in
      let m = sized_most h.n (good_sizes s h form).0 in
      (omega (arith, x.from_node), omega (arith, x.to_node))

  -- rounds never go down
  pub send_rounds : (k : ℕ) → k + 1 < length (sends_of s) → (at k).round ≤ (at (k + 1)).round
  send_rounds k l =
      let a = within k (omega arith) in
      let b = within (k + 1) l in
      let up = places_rise ranks (sends_ascend s h form) k (k + 1) (omega arith) (omega (arith, length-map (sends_of s) rank_of)) in
      omega (arith, up, rank_at k, rank_at (k + 1), a.0, a.1, b.0, b.1)

  -- no send is further on than its rank
  pub send_few : (k : ℕ) → k < length (sends_of s) → k < (h.f + 2) * (nodes_most * nodes_most)
  send_few k l =
      let a = within k l in
      let least = place_least ranks (sends_ascend s h form) k (omega (arith, length-map (sends_of s) rank_of)) in
      omega (arith, least, rank_at k, (send_fits k l).round_most, a.0, a.1)
