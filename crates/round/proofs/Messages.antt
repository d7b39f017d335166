-- A message, record by record: what takes up the votes that are left takes up all, once those before are taken up.
use Prim.Native.Nat.{ℕ}
use mathlib.Core.Path.{◌≡◌, refl, sym, ap, subst, ◌∙◌}
use mathlib.Core.Logic.{⊎_elim}
use mathlib.Core.Bool.{Bool, true, false, not, cond}
use native.Mathlib.Omega.{arith}
use mathlib.Core.List.{List, [], ◌∷◌, ◌++◌}
use mathlib.Core.Option.{Option, none, some}
use lib.Dec.{eqb}
use lib.ListN.{length, drop}
use Rattle.laws.proofs.Order.{lt_or_ge}
use Rattle.laws.proofs.Tests.{clash}
use Rattle.rules.specs.Sizes.{sized}
use Rattle.rules.specs.Vote.{Vote}
use Rattle.rules.specs.Step.{others}
use Rattle.wire.specs.Record.{size_of, vote_of, unreadable}
use Rattle.wire.specs.Message.{before, votes_after, votes_of, silent}
use Rattle.wire.proofs.Messages.{all_left, silent_before, one_more, stuck, none_left}
use Rattle.round.specs.Found.{votes_in, Take, TakeMessage}
use Rattle.keeping.specs.declared.Found.{Found}
use Rattle.round.proofs.Takes.{take_none, take_join}

-- ---- one vote before the others

others_join : (me : ℕ) (v : Vote) (vs : List Vote) → others me (v ∷ []) ++ others me vs ≡ others me (v ∷ vs)
others_join me v vs = go (eqb v.primary me)
  where
    go : (t : Bool) → cond (not t) (v ∷ []) [] ++ others me vs ≡ cond (not t) (v ∷ others me vs) (others me vs)
    go true = refl
    go false = refl

others_before : (me : ℕ) (v : Vote) (o : Option (List Vote)) → silent o ≡ false → others me (v ∷ []) ++ others me (votes_in o) ≡ others me (votes_in (before v o))
others_before me v none h = absurd (clash refl h)
others_before me v (some vs) h = others_join me v vs

-- ---- the loop over the records

-- the votes of the rest are still to be taken up
pub record Reached (n me r : ℕ) (s : List ℕ) (found after : List Found) (rest : List ℕ) : Type 0 where
  pub readable : sized n ≡ true → silent (votes_of n s) ≡ false → silent (votes_after n 0 rest) ≡ false
  pub goes : sized n ≡ true → silent (votes_of n s) ≡ false → (result : List Found) → Take r after result (others me (votes_in (votes_after n 0 rest)))
      → Take r found result (others me (votes_in (votes_of n s)))

module _ (n me r : ℕ) (s : List ℕ) (found : List Found) where
  at_once : silent (votes_of n s) ≡ false → votes_of n s ≡ votes_after n 0 s
  at_once h = all_left n s h

  pub at_start : Reached n me r s found found s
  at_start = record {
    readable = λ nodes h. ap silent (sym (at_once h)) ∙ h;
    goes = λ nodes h result t. subst (λ (o : Option (List Vote)). Take r found result (others me (votes_in o))) (sym (at_once h)) t;
  }

  module _ (after : List Found) (rest : List ℕ) (here : Reached n me r s found after rest) where
    -- a record is read, and its vote taken up
    pub next_vote : unreadable n rest ≡ false → (next : List Found) → Take r after next (others me (vote_of rest ∷ []))
        → Reached n me r s found next (drop (size_of rest) rest)
    next_vote e next t =
        let v : Vote = vote_of rest in
        let left : Option (List Vote) = votes_after n 0 (drop (size_of rest) rest) in
        let more : votes_after n 0 rest ≡ before v left = one_more n rest e in
        let heard : silent (votes_after n 0 rest) ≡ false → silent left ≡ false = λ h. sym (ap silent more ∙ silent_before v left) ∙ h in
        record {
          readable = λ nodes h. heard (here.readable nodes h);
          goes = λ nodes h result u.
              here.goes nodes h result
              (subst (λ (l : List Vote). Take r after result l)
              (others_before me v left (heard (here.readable nodes h)) ∙ ap (λ (o : Option (List Vote)). others me (votes_in o)) (sym more))
              (take_join r after next result (others me (v ∷ [])) (others me (votes_in left)) t u));
        }

    -- where no record can be read there is none
    pub at_end : (sized n ≡ true → unreadable n rest ≡ true) → TakeMessage n me r found s after
    at_end u = record {
      readable = λ nodes h.
          ⊎_elim
          (λ l. absurd (clash (ap silent (stuck n rest l (u nodes))) (here.readable nodes h)))
          (λ l. here.goes nodes h after
          (subst (λ (o : Option (List Vote)). Take r after after (others me (votes_in o))) (sym (none_left n rest (omega arith))) (take_none r after)))
          (lt_or_ge 0 (length rest));
    }
