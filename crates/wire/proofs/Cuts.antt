-- The cut of an inbox: places only grow, so an inbox that ends before a message does can't end where the last one does.
use Prim.Native.Nat.{ℕ, zero, suc, ◌+◌, ◌*◌, ◌-◌, ◌%◌, ◌^◌, ◌≤◌, ◌<◌}
use mathlib.Core.Path.{◌≡◌, refl, sym, ap, ap₂, ◌∙◌}
use mathlib.Core.Bool.{Bool, true, false}
use mathlib.Core.List.{List}
use mathlib.Core.Logic.{⊎_elim}
use native.Mathlib.Nat.{eq-or-lt_of_le, one-mul}
use native.Mathlib.Numerals.{add-one}
use native.Mathlib.Omega.{arith}
use borrow.Author.Tests.{leb-true, leb-false, lt-ltb, le-ltb, eq-eqb, ne_eqb}
use lib.Dec.{leb}
use Rattle.std.proofs.Common.{Ok, Err}
use lib.ListN.{length, take, drop}
use Rattle.laws.specs.Masks.{as_bit, mask_of}
use Rattle.laws.proofs.Bits.{mask_turn, mask_fits, one_shifted}
use Rattle.rules.specs.Sizes.{nodes_most, sized}
use Rattle.rules.specs.Refusals.{refuse◌unless◌then◌, done}
use Rattle.rules.specs.Answers.{number_of}
use Rattle.rules.specs.declared.refusal.Refusal.{Refusal}
use Rattle.rules.specs.declared.refusal.Refusal.TheVariants.{Sizes, IllCut}
use Rattle.rules.proofs.Answers.{no_row, refuses, answers, given}
use Rattle.wire.specs.Sizes.{length_size}
use Rattle.wire.specs.Inbox.{length_at, end_at, place_of, message_of, well_cut, MessageAt, is_unreadable, unreadable_senders, inbox_number, ReadInbox}
use Rattle.wire.specs.declared.Span.{Span}
use borrow.Author.Tests.{le-leb}

-- ---- one message

-- what an answer tells
pub record Told (s : List ℕ) (at start end : ℕ) : Type 0 where
  pub fits : end_at s at ≤ length s
  pub start_is : start ≡ at + length_size
  pub end_is : end ≡ end_at s at

module _ (s : List ℕ) (at : ℕ) where
  fits_by : (t : Bool) → leb (end_at s at) (length s) ≡ t → (refuse 4 unless t then done) ≡ done → end_at s at ≤ length s
  fits_by true u e = leb-true _ _ u
  fits_by false u e = absurd (omega arith)

  pub message_told : (p : Span) → MessageAt s at (Ok p) → Told s at p.start p.end
  message_told p r =
      let g = given r in
      record {
        fits = fits_by (leb (end_at s at) (length s)) refl g.0;
        start_is = ap (λ (q : Span). q.start) g.1;
        end_is = ap (λ (q : Span). q.end) g.1;
      }

  missing_by : (r : Refusal) (t : Bool) → leb (end_at s at) (length s) ≡ t → number_of r ≡ (refuse 4 unless t then done) → (length s < end_at s at) × (number_of r ≡ 4)
  missing_by r true u e = no_row r e
  missing_by r false u e = (leb-false _ _ u, e)

  pub missing_told : (r : Refusal) → MessageAt s at (Err r) → (length s < end_at s at) × (number_of r ≡ 4)
  missing_told r p = missing_by r (leb (end_at s at) (length s)) refl p.number_is

-- ---- places

pub next_place : (s : List ℕ) (j at end : ℕ) → at ≡ place_of s j → end ≡ end_at s at → end ≡ place_of s (j + 1)
unfolding place_of
next_place s j at end e f = f ∙ ap (end_at s) e ∙ ap (place_of s) (sym (add-one j))

places_up : (s : List ℕ) (j n : ℕ) → j ≤ n → place_of s j ≤ place_of s n
unfolding place_of
places_up s j zero h = let e : j ≡ 0 = omega arith in rw e (omega arith)
places_up s j (suc n) h = ⊎_elim (λ e. rw e (omega arith)) (λ l. omega (arith, places_up s j n (omega arith))) (eq-or-lt_of_le h)

-- the inbox ends before the message of a sender below n does
pub too_short : (n : ℕ) (s : List ℕ) (j : ℕ) → j < n → length s < end_at s (place_of s j) → well_cut n s ≡ false
unfolding well_cut place_of
too_short n s j h l =
    let up : end_at s (place_of s j) ≤ place_of s n = places_up s (suc j) n (omega arith) in
    ne_eqb (place_of s n) (length s) (λ e. omega arith)

-- ---- one sender's turn: its message stands at its place, and its bit joins the mask of those before it

pub own_place : (s : List ℕ) (j at start end : ℕ) → Told s at start end → at ≡ place_of s j → take (end - start) (drop start s) ≡ message_of s j
unfolding message_of
own_place s j at start end told e =
    let l : end - start ≡ length_at s at = omega (arith, told.start_is, told.end_is) in
    ap₂ (λ (k i : ℕ). take k (drop i s)) l told.start_is ∙ ap (λ (i : ℕ). take (length_at s i) (drop (i + length_size) s)) e

module _ (n me : ℕ) (s : List ℕ) where
  abbrev pub unreadable_from : ℕ → Bool
  unreadable_from j = is_unreadable n me j (message_of s j)

  module _ (j at start end mask bit : ℕ) (told : Told s at start end) (e : at ≡ place_of s j) (m : mask ≡ mask_of unreadable_from j)
      (b : bit ≡ as_bit (is_unreadable n me j (take (end - start) (drop start s))) * 2 ^ j) where
    its_bit : bit ≡ as_bit (unreadable_from j) * 2 ^ j
    its_bit = b ∙ ap (λ (u : List ℕ). as_bit (is_unreadable n me j u) * 2 ^ j) (own_place s j at start end told e)

    pub sender_joins : mask + bit ≡ mask_of unreadable_from (j + 1)
    sender_joins = mask_turn nodes_most unreadable_from j mask bit m its_bit

    pub still_fits : j < nodes_most → mask + bit < 2 ^ nodes_most
    still_fits = mask_fits nodes_most unreadable_from j mask bit m its_bit

pub bit_set : (t : Bool) (j : ℕ) → t ≡ true → j < nodes_most → (1 * 2 ^ j) % 2 ^ nodes_most ≡ as_bit t * 2 ^ j
bit_set t j e h = one_shifted j 16 h ∙ sym (ap (λ (x : Bool). as_bit x * 2 ^ j) e ∙ one-mul (2 ^ j))

-- ---- the answers

module _ (n me : ℕ) (s : List ℕ) where
  pub no_nodes_lem : sized n ≡ false → ReadInbox n me s (Err Sizes)
  unfolding inbox_number
  no_nodes_lem h = refuses (simp h)

  module _ (nodes : sized n ≡ true) where
    pub no_me : n ≤ me → ReadInbox n me s (Err Sizes)
    unfolding inbox_number
    no_me h = let e = le-ltb _ _ h in refuses (simp (nodes, e))

    module _ (own : me < n) where
      pub ill_cut : (r : Refusal) → number_of r ≡ 4 → well_cut n s ≡ false → ReadInbox n me s (Err r)
      unfolding inbox_number
      ill_cut r k c = let e = lt-ltb _ _ own in refuses (simp (nodes, e, c) (sym k))

      pub heard : (mask : ℕ) → place_of s n ≡ length s → mask ≡ mask_of (unreadable_from n me s) n → ReadInbox n me s (Ok mask)
      unfolding inbox_number well_cut unreadable_senders
      heard mask q m =
          let e = lt-ltb _ _ own in
          let c = eq-eqb (place_of s n) (length s) q in
          answers (simp (nodes, e, c)) m

      pub too_long : place_of s n < length s → ReadInbox n me s (Err IllCut)
      unfolding well_cut
      too_long h = ill_cut IllCut refl (ne_eqb (place_of s n) (length s) (λ e. omega arith))

-- ---- the message is there

pub is_message : (s : List ℕ) (at k : ℕ) → end_at s at ≤ length s → k ≡ length_at s at
    → MessageAt s at (Ok (record { start = at + length_size; end = at + length_size + k }))
is_message s at k h e =
    answers (simp (le-leb _ _ h)) (λ i. record { start = at + length_size; end = at + length_size + e i })
