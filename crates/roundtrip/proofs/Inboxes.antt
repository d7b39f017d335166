-- Inboxes: after the first message the rest is an inbox of its own, whose places count from its start; and what stands before a place is the inbox
-- of the messages before it.
use Prim.Native.Nat.{ℕ, zero, suc, ◌+◌, ◌*◌, ◌/◌, ◌%◌, ◌^◌, ◌≤◌, ◌<◌}
use mathlib.Core.Path.{◌≡◌, refl, sym, ap, ap₂, ◌∙◌}
use mathlib.Core.Logic.{◌≢◌, inl, inr}
use mathlib.Core.Bool.{Bool, true, false, not, ◌&&◌, and-false}
use mathlib.Core.List.{List, [], ◌∷◌, ◌++◌, append_assoc, append-nil}
use mathlib.Core.Option.{Option, none, some}
use native.Mathlib.Nat.{add_assoc, add-zero}
use native.Mathlib.Omega.{arith}
use borrow.Author.Tests.{lt-ltb, ltb-true, eq-eqb, ne_eqb, eqb-true}
use lib.Dec.{eqb, ltb, lit<}
use lib.ListN.{length, get_or, take, drop, length-append, length-drop}
use lib.Seq.{get_or-append-add, drop-append-add, take-append_seam, drop-drop, get_or-drop, take-add, take_all, length-take-le}
use Rattle.laws.specs.Masks.{bit, as_bit}
use Rattle.laws.specs.Members.{In}
use Rattle.laws.proofs.Tests.{clash, both}
use Rattle.laws.proofs.Bits.{mask_bit}
use Rattle.laws.proofs.Pairs.{pair_back, low_again, high_again}
use Rattle.rules.specs.Vote.{Vote}
use Rattle.entries.specs.Bytes.{AreBytes}
use Rattle.wire.specs.Sizes.{length_size}
use Rattle.wire.specs.Message.{votes_of, silent}
use Rattle.wire.specs.Inbox.{length_at, end_at, place_of, message_of, well_cut, inbox_bytes, is_unreadable, unreadable_senders}
use Rattle.roundtrip.specs.Inboxes.{messages, Fit, Inboxes}
use Rattle.roundtrip.proofs.Entries.{append_bytes, drop_bytes, take_bytes}

-- no message is too long for its two length bytes
abbrev Short : List (List ℕ) → Type 0
Short ms = (m : List ℕ) → In m ms → length m < 2 ^ (8 * length_size)

-- ---- put together and cut: m first, then the inbox t

module _ (m t : List ℕ) (h : length m < 2 ^ (8 * length_size)) where
  front : List ℕ
  front = length m % 256 ∷ length m / 256 % 256 ∷ m

  whole : List ℕ
  whole = front ++ t

  first_length : length_at whole 0 ≡ length m
  unfolding front whole
  first_length = pair_back (length m) h

  first_message : message_of whole 0 ≡ m
  unfolding front whole message_of place_of
  first_message = ap (λ (k : ℕ). take k (m ++ t)) first_length ∙ take-append_seam m t

  length_on : (a : ℕ) → length_at whole (length front + a) ≡ length_at t a
  unfolding whole
  length_on a =
      ap₂ (λ (x y : ℕ). x + 256 * y) (get_or-append-add front t a 0)
      (ap (λ (k : ℕ). get_or (front ++ t) k 0) (add_assoc (length front) a 1) ∙ get_or-append-add front t (a + 1) 0)

  place_on : (j : ℕ) → place_of whole (suc j) ≡ length front + place_of t j
  unfolding place_of front
  place_on zero = omega (arith, first_length)
  place_on (suc j) =
      ap (end_at whole) (place_on j) ∙ omega (arith, length_on (place_of t j))

  message_on : (j : ℕ) → message_of whole (suc j) ≡ message_of t j
  unfolding message_of whole
  message_on j =
      ap (λ (a : ℕ). take (length_at whole a) (drop (a + length_size) whole)) (place_on j)
      ∙ ap₂ take (length_on (place_of t j))
      (ap (λ (k : ℕ). drop k (front ++ t)) (add_assoc (length front) (place_of t j) length_size) ∙ drop-append-add front t (place_of t j + length_size))

  messages_on : (k : ℕ) → messages (suc k) whole ≡ m ∷ messages k t
  unfolding messages
  messages_on zero = ap (λ (x : List ℕ). x ∷ []) first_message
  messages_on (suc k) = ap₂ (λ (x : List (List ℕ)) (y : List ℕ). x ++ (y ∷ [])) (messages_on k) (message_on k)

cut_back : (ms : List (List ℕ)) → Short ms → place_of (inbox_bytes ms) (length ms) ≡ length (inbox_bytes ms)
unfolding inbox_bytes place_of whole front
cut_back [] h = refl
cut_back (m ∷ ms) h =
    let t : List ℕ = inbox_bytes ms in
    place_on m t (h m (inl refl)) (length ms) ∙ omega (arith, cut_back ms (λ x i. h x (inr i)), length-append m t)

same_message : (ms : List (List ℕ)) → Short ms → (j : ℕ) → j < length ms → message_of (inbox_bytes ms) j ≡ get_or ms j []
unfolding inbox_bytes whole front
same_message [] h j l = absurd (omega arith)
same_message (m ∷ ms) h zero l = first_message m (inbox_bytes ms) (h m (inl refl))
same_message (m ∷ ms) h (suc j) l = message_on m (inbox_bytes ms) (h m (inl refl)) j ∙ same_message ms (λ x i. h x (inr i)) j (omega arith)

same_messages : (ms : List (List ℕ)) → Short ms → messages (length ms) (inbox_bytes ms) ≡ ms
unfolding inbox_bytes messages whole front
same_messages [] h = refl
same_messages (m ∷ ms) h =
    messages_on m (inbox_bytes ms) (h m (inl refl)) (length ms) ∙ ap (λ (t : List (List ℕ)). m ∷ t) (same_messages ms (λ x i. h x (inr i)))

-- ---- cut and put together again

pub inbox_append : (ms ns : List (List ℕ)) → inbox_bytes (ms ++ ns) ≡ inbox_bytes ms ++ inbox_bytes ns
unfolding inbox_bytes
inbox_append [] ns = refl
inbox_append (m ∷ ms) ns =
    ap (λ (t : List ℕ). length m % 256 ∷ length m / 256 % 256 ∷ t)
    (ap (λ (t : List ℕ). m ++ t) (inbox_append ms ns) ∙ sym (append_assoc m (inbox_bytes ms) (inbox_bytes ns)))

-- an inbox of messages in bytes is bytes, and the messages of an inbox are
pub inbox_bytes_lem : (ms : List (List ℕ)) → ((m : List ℕ) → In m ms → AreBytes m) → AreBytes (inbox_bytes ms)
unfolding inbox_bytes
inbox_bytes_lem [] h i = lit< tt
inbox_bytes_lem (m ∷ ms) h zero = omega arith
inbox_bytes_lem (m ∷ ms) h (suc zero) = omega arith
inbox_bytes_lem (m ∷ ms) h (suc (suc i)) = append_bytes m (inbox_bytes ms) (h m (inl refl)) (inbox_bytes_lem ms (λ x k. h x (inr k))) i

pub message_bytes_lem : (s : List ℕ) (j : ℕ) → AreBytes s → AreBytes (message_of s j)
unfolding message_of
message_bytes_lem s j t =
    let at : ℕ = place_of s j in
    take_bytes (drop (at + length_size) s) (length_at s at) (drop_bytes s (at + length_size) t)

-- two bytes and as many as they state
one_again : (u : List ℕ) → AreBytes u → length_size + length_at u 0 ≤ length u
    → inbox_bytes (take (length_at u 0) (drop length_size u) ∷ []) ≡ take (length_size + length_at u 0) u
unfolding inbox_bytes
one_again [] t h = absurd (omega arith)
one_again (a ∷ []) t h = absurd (omega arith)
one_again (a ∷ b ∷ r) t h =
    let k : ℕ = a + 256 * b in
    let l : length (take k r) ≡ k = length-take-le k r (omega arith) in
    let ea : length (take k r) % 256 ≡ a = ap (λ (x : ℕ). x % 256) l ∙ low_again a b (t 0) in
    let eb : length (take k r) / 256 % 256 ≡ b = ap (λ (x : ℕ). x / 256 % 256) l ∙ high_again a b (t 0) (t 1) in
    let er : take k r ++ [] ≡ take k r = append-nil (take k r) in
    (λ i. ea i ∷ eb i ∷ er i) ∙ sym (take-add length_size k (a ∷ b ∷ r))

module _ (s : List ℕ) (t : AreBytes s) where
  length_from : (at : ℕ) → length_at (drop at s) 0 ≡ length_at s at
  length_from at =
      ap₂ (λ (x y : ℕ). x + 256 * y) (get_or-drop at s 0 0 ∙ ap (λ (k : ℕ). get_or s k 0) (add-zero at)) (get_or-drop at s 1 0)

  again_at : (at : ℕ) → end_at s at ≤ length s
      → inbox_bytes (take (length_at s at) (drop (at + length_size) s) ∷ []) ≡ take (length_size + length_at s at) (drop at s)
  again_at at h =
      ap₂ (λ (k : ℕ) (u : List ℕ). inbox_bytes (take k u ∷ [])) (sym (length_from at)) (sym (drop-drop length_size at s))
      ∙ one_again (drop at s) (drop_bytes s at t) (omega (arith, length_from at, length-drop at s))
      ∙ ap (λ (k : ℕ). take (length_size + k) (drop at s)) (length_from at)

  -- the bytes before a place are the messages before it
  before_place : (k : ℕ) → place_of s k ≤ length s → inbox_bytes (messages k s) ≡ take (place_of s k) s
  unfolding messages message_of place_of inbox_bytes
  before_place zero h = refl
  before_place (suc k) h =
      let at : ℕ = place_of s k in
      let l : ℕ = length_at s at in
      let e : at + (length_size + l) ≡ end_at s at = omega arith in
      inbox_append (messages k s) (message_of s k ∷ [])
      ∙ ap₂ (λ (a b : List ℕ). a ++ b) (before_place k (omega arith)) (again_at at h)
      ∙ sym (take-add at (length_size + l) s)
      ∙ ap (λ (j : ℕ). take j s) e

  together_again : (n : ℕ) → well_cut n s ≡ true → inbox_bytes (messages n s) ≡ s
  unfolding well_cut
  together_again n c =
      let e = eqb-true (place_of s n) (length s) c in
      before_place n (omega arith) ∙ take_all (place_of s n) s (omega arith)

-- ---- the senders whose message is unreadable

silent_none : (o : Option (List Vote)) → silent o ≡ true → o ≡ none
silent_none none h = refl
silent_none (some vs) h = absurd (clash h refl)

is_one : (b : Bool) → as_bit b ≡ 1 → b ≡ true
is_one true e = refl
is_one false e = absurd (omega arith)

module _ (n me : ℕ) (s : List ℕ) where
  bit_of : (j : ℕ) → bit (unreadable_senders n me s) j ≡ as_bit (ltb j n && (not (eqb j me) && silent (votes_of n (message_of s j))))
  unfolding unreadable_senders
  bit_of j = mask_bit (λ (i : ℕ). is_unreadable n me i (message_of s i)) n j

  never_own : bit (unreadable_senders n me s) me ≡ 0
  never_own = bit_of me ∙ simp (eq-eqb me me refl, and-false)

  bit_told : (j : ℕ) → bit (unreadable_senders n me s) j ≡ 1 → (j < n) × (j ≢ me) × (votes_of n (message_of s j) ≡ none)
  bit_told j e =
      let o : Option (List Vote) = votes_of n (message_of s j) in
      let a = both (ltb j n) (not (eqb j me) && silent o) (is_one _ (sym (bit_of j) ∙ e)) in
      let b = both (not (eqb j me)) (silent o) a.1 in
      (ltb-true j n a.0, λ q. clash b.0 (ap not (eq-eqb j me q)), silent_none o b.1)

  told_bit : (j : ℕ) → (j < n) × (j ≢ me) × (votes_of n (message_of s j) ≡ none) → bit (unreadable_senders n me s) j ≡ 1
  told_bit j w = bit_of j ∙ simp (lt-ltb j n w.0, ne_eqb j me w.1, w.2)

well_cut_lem : (n : ℕ) (ms : List (List ℕ)) → Fit n ms → well_cut n (inbox_bytes ms) ≡ true
unfolding well_cut
well_cut_lem n ms w = eq-eqb (place_of (inbox_bytes ms) n) (length (inbox_bytes ms)) (rw (sym w.many) (cut_back ms w.short))

pub inboxes : (n : ℕ) → Inboxes n
inboxes n = record {
  cut_back = well_cut_lem n;
  same_message = λ ms w j h. same_message ms w.short j (omega (arith, w.many));
  same_messages = λ ms w. rw (sym w.many) (same_messages ms w.short);
  together_again = λ s t c. together_again s t n c;
  unreadable_bit = λ me s j. (bit_told n me s j, told_bit n me s j);
  never_own = never_own n;
}
