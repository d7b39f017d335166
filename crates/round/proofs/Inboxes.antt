-- An inbox, sender by sender: the votes of the senders below j are taken up, and the mask tells whether those of sender j are.
use Prim.Native.Nat.{ℕ, ◌+◌, ◌-◌, ◌<◌}
use mathlib.Core.Path.{◌≡◌, refl, sym, ap, subst, ◌∙◌}
use mathlib.Core.Bool.{Bool, true, false, not, cond, ◌&&◌}
use mathlib.Core.List.{List, [], ◌++◌, append-nil}
use mathlib.Core.Option.{Option, none, some}
use native.Mathlib.Numerals.{add-one}
use borrow.Author.Tests.{lt-ltb, not-true}
use lib.Dec.{eqb}
use lib.ListN.{length, take, drop}
use Rattle.laws.specs.Masks.{bit, as_bit}
use Rattle.laws.proofs.Bits.{mask_bit}
use Rattle.laws.proofs.Tests.{clash, both}
use Rattle.rules.specs.Sizes.{sized}
use Rattle.rules.specs.Vote.{Vote}
use Rattle.rules.specs.Step.{others, gather, taken_up}
use Rattle.wire.specs.Message.{votes_of, silent}
use Rattle.wire.specs.Inbox.{place_of, end_at, message_of, is_unreadable, unreadable_senders}
use Rattle.wire.proofs.Cuts.{Told, too_short, own_place}
use Rattle.keeping.specs.Keeping.{takes_up}
use Rattle.round.specs.Found.{votes_in, heard_from, Take, TakeMessage, TakeInbox}
use Rattle.keeping.specs.declared.Found.{Found}
use Rattle.round.proofs.Takes.{take_none, take_join}

-- ---- what the mask tells of a sender

bit_told : (own silence : Bool) → (not own && eqb (as_bit (true && (not own && silence))) 0) ≡ (not own && not silence)
bit_told true silence = refl
bit_told false true = refl
bit_told false false = refl

no_votes : (me : ℕ) (own : Bool) (o : Option (List Vote)) → (not own && not (silent o)) ≡ false → cond own [] (others me (votes_in o)) ≡ []
no_votes me true o h = refl
no_votes me false none h = refl
no_votes me false (some vs) h = absurd (clash refl h)

module _ (n me : ℕ) (s : List ℕ) (j unreadable : ℕ) (low : j < n) (e : unreadable ≡ unreadable_senders n me s) where
  sender_told : takes_up me j unreadable ≡ (not (eqb j me) && not (silent (votes_of n (message_of s j))))
  unfolding unreadable_senders
  sender_told =
      ap (λ (x : ℕ). not (eqb j me) && eqb x 0) (ap (λ (u : ℕ). bit u j) e ∙ mask_bit (λ i. is_unreadable n me i (message_of s i)) n j)
      ∙ ap (λ (t : Bool). not (eqb j me) && eqb (as_bit (t && is_unreadable n me j (message_of s j))) 0) (lt-ltb j n low)
      ∙ bit_told (eqb j me) (silent (votes_of n (message_of s j)))

  -- a sender that is taken up is another, and readable
  heard : takes_up me j unreadable ≡ true → (eqb j me ≡ false) × (silent (votes_of n (message_of s j)) ≡ false)
  heard h =
      let t = both (not (eqb j me)) (not (silent (votes_of n (message_of s j)))) (sym sender_told ∙ h) in
      (not-true (eqb j me) t.0, not-true (silent (votes_of n (message_of s j))) t.1)

  -- one that is not has no votes
  passed_over : takes_up me j unreadable ≡ false → cond (eqb j me) [] (others me (heard_from n s j)) ≡ []
  passed_over h = no_votes me (eqb j me) (votes_of n (message_of s j)) (sym sender_told ∙ h)

-- ---- the loop over the senders

one_sender : (me : ℕ) (from : ℕ → List Vote) (j : ℕ) → taken_up (j + 1) me from ≡ taken_up j me from ++ cond (eqb j me) [] (others me (from j))
unfolding taken_up gather
one_sender me from j = ap (λ (k : ℕ). taken_up k me from) (add-one j)

-- the senders below j are passed
pub record Passed (n me r : ℕ) (s : List ℕ) (unreadable : ℕ) (found after : List Found) (j : ℕ) : Type 0 where
  pub taken : sized n ≡ true → unreadable ≡ unreadable_senders n me s → Take r found after (taken_up j me (heard_from n s))

module _ (n me r : ℕ) (s : List ℕ) (unreadable : ℕ) (found : List Found) where
  pub at_start : Passed n me r s unreadable found found 0
  unfolding taken_up gather
  at_start = record { taken = λ nodes e. take_none r found }

  module _ (after : List Found) (j at : ℕ) (place : at ≡ place_of s j) (here : Passed n me r s unreadable found after j) where
    module _ (low : j < n) where
      pub is_passed : (next : List Found) (t : Bool) → t ≡ takes_up me j unreadable → t ≡ false → next ≡ after → Passed n me r s unreadable found next (j + 1)
      is_passed next t told not_so same = record {
        taken = λ nodes e.
            let votes = taken_up j me (heard_from n s) in
            let none_more = passed_over n me s j unreadable low e (sym told ∙ not_so) in
            let all : taken_up (j + 1) me (heard_from n s) ≡ votes = one_sender me (heard_from n s) j ∙ ap (λ (l : List Vote). votes ++ l) none_more ∙ append-nil votes in
            rw (all, same) (here.taken nodes e);
      }

      pub is_taken : (next : List Found) (t : Bool) → t ≡ takes_up me j unreadable → t ≡ true → (start end : ℕ) → Told s at start end
          → TakeMessage n me r after (take (end - start) (drop start s)) next → Passed n me r s unreadable found next (j + 1)
      is_taken next t told so start end place_told more-taken = record {
        taken = λ nodes e.
            let q = heard n me s j unreadable low e (sym told ∙ so) in
            let m = subst (λ (u : List ℕ). TakeMessage n me r after u next) (own_place s j at start end place_told place) more-taken in
            let more : others me (heard_from n s j) ≡ cond (eqb j me) [] (others me (heard_from n s j)) = simp q.0 in
            subst (λ (l : List Vote). Take r found next l) (sym (one_sender me (heard_from n s) j))
            (take_join r found after next (taken_up j me (heard_from n s)) (cond (eqb j me) [] (others me (heard_from n s j))) (here.taken nodes e)
            (subst (λ (l : List Vote). Take r after next l) more (m.readable nodes q.1)));
      }

      -- an inbox that ends before a message does is ill cut
      pub no_message : length s < end_at s at → TakeInbox n me r found s unreadable after
      no_message h = record {
        cut = λ nodes c e. absurd (clash c (too_short n s j low (subst (λ (i : ℕ). length s < end_at s i) place h)));
      }

    pub at_end : j ≡ n → TakeInbox n me r found s unreadable after
    at_end all = record { cut = λ nodes c e. subst (λ (k : ℕ). Take r found after (taken_up k me (heard_from n s))) all (here.taken nodes e) }
