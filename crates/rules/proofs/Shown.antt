-- Every vote that a correct node reads has no bit n or above, and a correct node whose bit it shows has sent it: of a faulty sender's votes this is a
-- premise, and a correct sender adds its own bit to a vote that it has read and sends it.
use Prim.Native.Nat.{ℕ, zero, suc, ◌+◌, ◌^◌, ◌≤◌, ◌<◌, zero-le, suc-le-suc}
use mathlib.Core.Path.{◌≡◌, refl, sym, ap, subst, ◌∙◌}
use mathlib.Core.Logic.{⊎_elim}
use mathlib.Core.Bool.{Bool, true, false}
use native.Mathlib.Nat.{le_refl, le_trans, le-suc}
use borrow.Author.Tests.{eqb-true, eqb-false}
use lib.Bits.{or_lt}
use lib.Dec.{eqb}
use lib.Pow.{pow-lt}
use Rattle.laws.specs.Members.{In}
use Rattle.rules.specs.Vote.{Vote, shows, opened, passed_on}
use Rattle.rules.specs.Run.{Run, votes_at, kept, new_at, sent}
use Rattle.rules.specs.Premises.{Correct, Faulty, HasSent, Premises}
use Rattle.rules.proofs.Votes.{shown_before, opened_shows}
use Rattle.rules.proofs.Inbox.{TakenUp, taken_of, PassedOn}
use Rattle.rules.proofs.Sent.{new_vote, passed_of}

module _ (run : Run) (P : Premises run) where
  pub record Shown (r : ℕ) (v : Vote) : Type 0 where
    pub range : v.mask < 2 ^ run.n
    pub shown : (c : ℕ) → Correct run c → shows c v ≡ true → HasSent run r c v.primary v.batch

  -- a vote that node j sends itself shows j
  itself : (r c j : ℕ) (v : Vote) → In v (sent run r j) → c ≡ j → HasSent run r c v.primary v.batch
  itself r c j v h e =
      subst (λ (x : ℕ). HasSent run r x v.primary v.batch) (sym e)
      (record { round = r; by = le_refl r; vote = v; its = h; of = refl; says = refl })

  read_shown : (r i : ℕ) → suc r ≤ run.f + 1 → Correct run i → ((j : ℕ) (v : Vote) → Correct run j → In v (sent run (suc r) j) → Shown (suc r) v)
      → (v : Vote) → In v (votes_at run (suc r) i) → Shown (suc r) v
  read_shown r i l ci others v h = go (run.faulty j) refl
    where
      t : TakenUp run.n i (run.heard (suc r) i) v
      t = taken_of run.n i (run.heard (suc r) i) v h

      j : ℕ
      j = t.from

      go : (b : Bool) → run.faulty j ≡ b → Shown (suc r) v
      go true e =
          let fj : Faulty run j = record { node = t.node; lies = e } in
          record {
            range = P.anything (suc r) i j (suc-le-suc zero-le, l) ci fj v t.heard_it;
            shown = P.unforged (suc r) i j (suc-le-suc zero-le, l) ci fj v t.heard_it;
          }
      go false e =
          let cj : Correct run j = record { node = t.node; fine = e } in
          others j v cj (rw (P.whole (suc r) i j (suc-le-suc zero-le, l) ci cj (λ q. t.other (sym q))) at t.heard_it)

  sent_shown : (r j : ℕ) (v : Vote) → r ≤ run.f + 1 → Correct run j → In v (sent run r j) → Shown r v
  unfolding sent opened new_at passed_on
  sent_shown zero j v l cj h = absurd h
  sent_shown (suc zero) j v l cj h =
      record {
        range = ⊎_elim (λ e. rw e (pow-lt cj.node)) (λ k. absurd k) h;
        shown = λ c cc s. itself 1 c j v h (⊎_elim (λ e. opened_shows c j (run.opening j) (rw e at s)) (λ k. absurd k) h);
      }
  sent_shown (suc (suc r)) j v l cj h =
      go (λ u k. read_shown r j (le_trans (le-suc (suc r)) l) cj (λ i w ci m. sent_shown (suc r) i w (le_trans (le-suc (suc r)) l) ci m) u k)
    where
      t : PassedOn run.n run.f j (suc r) (kept run r j) (votes_at run (suc r) j) v
      t = passed_of run r j v h

      go : ((u : Vote) → In u (votes_at run (suc r) j) → Shown (suc r) u) → Shown (suc (suc r)) v
      go read = record { range = rw t.passed (or_lt run.n u.mask (2 ^ j) o.range (pow-lt cj.node)); shown = λ c cc s. pick c cc s (eqb c j) refl }
        where
          u : Vote
          u = t.vote

          o : Shown (suc r) u
          o = read u (new_vote run r j t.primary u t.new).read

          pick : (c : ℕ) → Correct run c → shows c v ≡ true → (b : Bool) → eqb c j ≡ b → HasSent run (suc (suc r)) c v.primary v.batch
          pick c cc s true e = itself (suc (suc r)) c j v h (eqb-true c j e)
          pick c cc s false e =
              let a = o.shown c cc (shown_before c j u (eqb-false c j e) (rw t.passed at s)) in
              record {
                round = a.round;
                by = le_trans a.by (le-suc (suc r));
                vote = a.vote;
                its = a.its;
                of = a.of ∙ ap (λ (x : Vote). x.primary) (sym t.passed);
                says = a.says ∙ ap (λ (x : Vote). x.batch) (sym t.passed);
              }

  pub votes_shown : (r i : ℕ) → suc r ≤ run.f + 1 → Correct run i → (v : Vote) → In v (votes_at run (suc r) i) → Shown (suc r) v
  votes_shown r i l ci = read_shown r i l ci (λ j w cj m. sent_shown (suc r) j w l cj m)
