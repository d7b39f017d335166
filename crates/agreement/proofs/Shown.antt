-- The rule on shown votes is the demand's premise: where a readable message does not break it, a correct node whose bit a vote shows has sent that vote.
use Prim.Native.Nat.{ℕ, zero, suc}
use mathlib.Core.Path.{◌≡◌, refl, sym, ap, subst}
use mathlib.Core.Bool.{Bool, true, false, not}
use mathlib.Core.List.{List, [], ◌∷◌}
use mathlib.Core.Option.{Option, some}
use native.Mathlib.Nat.{le_refl, le_trans, le-suc}
use native.Mathlib.Omega.{arith}
use borrow.Author.Tests.{ltb-false, eqb-true, not-false}
use lib.Dec.{eqb, ltb}
use lib.ListN.{length}
use Rattle.laws.specs.Masks.{every}
use Rattle.laws.specs.Members.{In, those, among}
use Rattle.laws.proofs.Tests.{clash, other}
use Rattle.laws.proofs.Every.{every_each}
use Rattle.laws.proofs.Members.{in_those, those_in, map_in, among_in}
use Rattle.rules.specs.Vote.{Batch, Vote, shows}
use Rattle.wire.specs.Message.{votes_of}
use Rattle.round.specs.Found.{votes_in}
use Rattle.agreement.specs.Hall.{Hall, sends}
use Rattle.agreement.specs.Granted.{Correct, HasSent}
use Rattle.agreement.specs.Rule.{batches_sent, has_sent, forged_for, forged, breaks_rule}
use Rattle.agreement.proofs.Granting.{heard_in}

-- none passes a test that none is left of
none_pass : {A : Type 0} (t : A → Bool) (x : A) (l : List A) → ltb 0 (length (those t l)) ≡ false → In x l → t x ≡ false
none_pass t x l h m = go (t x) refl
  where
    nobody : (k : List _) → ltb 0 (length k) ≡ false → In x k → ⊥
    nobody [] e i = i
    nobody (y ∷ k) e i = let l = ltb-false 0 (length (y ∷ k)) e in omega arith

    go : (b : Bool) → t x ≡ b → t x ≡ false
    go true e = absurd (nobody (those t l) h (in_those t x l m e))
    go false e = e

module _ (hall : Hall) where
  sent_in_lem : (r c p : ℕ) (b : Batch) → among b (batches_sent hall r c p) ≡ true → HasSent hall r c p b
  sent_in_lem r c p b h =
      let o : Option (List Vote) = votes_of hall.n (sends hall c r) in
      let t = map_in (λ (v : Vote). v.batch) b (those (λ (v : Vote). eqb v.primary p) (votes_in o)) (among_in b (batches_sent hall r c p) h) in
      let u = those_in (λ (v : Vote). eqb v.primary p) t.0 (votes_in o) t.1 in
      let w = heard_in o t.0 u.0 in
      record { round = r; by = le_refl r; votes = w.0; read = w.1; vote = t.0; its = w.2; of = eqb-true t.0.primary p u.1; says = sym t.2 }

  later : (r c p : ℕ) (b : Batch) → HasSent hall r c p b → HasSent hall (suc r) c p b
  later r c p b s = record {
    round = s.round;
    by = le_trans s.by (le-suc r);
    votes = s.votes;
    read = s.read;
    vote = s.vote;
    its = s.its;
    of = s.of;
    says = s.says;
  }

  pub has_sent_lem : (r c p : ℕ) (b : Batch) → has_sent hall r c p b ≡ true → HasSent hall r c p b
  unfolding has_sent
  has_sent_lem zero c p b h = absurd (clash h refl)
  has_sent_lem (suc r) c p b h = go (among b (batches_sent hall (suc r) c p)) refl (has_sent_lem r c p b)
    where
      go : (t : Bool) → among b (batches_sent hall (suc r) c p) ≡ t → (has_sent hall r c p b ≡ true → HasSent hall r c p b) → HasSent hall (suc r) c p b
      go true e before = sent_in_lem (suc r) c p b e
      go false e before = later r c p b (before (other _ _ h e))

  pub rule_kept : (r : ℕ) (message : List ℕ) → breaks_rule hall r message ≡ false → (votes : List Vote) → votes_of hall.n message ≡ some votes
      → (v : Vote) → In v votes → (c : ℕ) → Correct hall c → shows c v ≡ true → HasSent hall r c v.primary v.batch
  unfolding breaks_rule
  rule_kept r message h votes e v m c cc s = has_sent_lem r c v.primary v.batch (go (has_sent hall r c v.primary v.batch) refl)
    where
      shown_right : forged hall r v ≡ false
      shown_right = none_pass (forged hall r) v (votes_in (votes_of hall.n message)) h (subst (λ (o : Option (List Vote)). In v (votes_in o)) (sym e) m)

      for_c : not (forged_for hall r v c) ≡ true
      for_c = every_each (λ (x : ℕ). not (forged_for hall r v x)) hall.n (not-false (every _ hall.n) shown_right) c cc.node

      go : (b : Bool) → has_sent hall r c v.primary v.batch ≡ b → has_sent hall r c v.primary v.batch ≡ true
      go true q = q
      go false q =
          let f : forged_for hall r v c ≡ true = simp (cc.fine, s, q) in
          absurd (clash for_c (ap not f))
