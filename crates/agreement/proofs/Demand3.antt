-- Demand 3: the run over votes agrees, and what each correct node's calls answer is what that run says. Slots in bytes are slots as the rules count them.
use Prim.Native.Nat.{ℕ}
use mathlib.Core.Path.{◌≡◌, sym, ◌∙◌}
use mathlib.Core.Logic.{inl, inr}
use mathlib.Core.List.{List}
use borrow.Author.Tests.{leb-true}
use Rattle.rules.specs.Refusals.{done}
use Rattle.rules.specs.Signers.{Mark, signers_of, enough}
use Rattle.rules.specs.Sizes.{sizes}
use Rattle.rules.specs.Log.{made}
use Rattle.rules.specs.Run.{new_log}
use Rattle.rules.specs.Premises.{Correct as CorrectOver, Marked as MarkedOver, Counting as CountingOver, Signing as SigningOver}
use Rattle.rules.specs.Claim.{Agreed as AgreedOver}
use Rattle.rules.proofs.Refusals.{row_passed}
use Rattle.rules.proofs.Logs.{one_log}
use Rattle.rules.proofs.Signed.{demand_3 as over-votes}
use Rattle.signing.specs.Slots.{are_slots, slot_of}
use Rattle.signing.specs.Count.{signers_number}
use Rattle.agreement.specs.Hall.{Hall, closes, log_of}
use Rattle.agreement.specs.Granted.{Correct, Granted, Marked, Counting, Signing}
use Rattle.agreement.specs.Claim.{Agreed, Signed, Demand3}
use Rattle.agreement.proofs.Follows.{over_votes}
use Rattle.agreement.proofs.Granting.{unhindered, granted}
use Rattle.agreement.proofs.Closes.{made_closes, full_closes, closes_made}

-- ---- one log, or all are told that it is full

module _ (hall : Hall) (G : Granted hall) where
  abbrev over : {i : ℕ} → Correct hall i → CorrectOver (over_votes hall) i
  over ci = record { node = ci.node; fine = ci.fine }

  abbrev back : {i : ℕ} → CorrectOver (over_votes hall) i → Correct hall i
  back ci = record { node = ci.node; fine = ci.fine }

  -- a correct node's close and what the rules make: each tells the other
  by_rules : (i : ℕ) → Correct hall i → (log : List ℕ) → new_log (over_votes hall) i ≡ made log → (closes hall i ≡ done) × (log_of hall i ≡ log)
  by_rules i ci = made_closes hall i (unhindered hall G i ci) G.well_formed

  by_close : (i : ℕ) → Correct hall i → closes hall i ≡ done → new_log (over_votes hall) i ≡ made (log_of hall i)
  by_close i ci = closes_made hall i (unhindered hall G i ci) G.well_formed

  same_answer : AgreedOver (over_votes hall) → Agreed hall
  same_answer (inl (log, one)) = inl (
    log,
    record {
      makes = λ i ci. (by_rules i ci log (one.makes i (over ci))).0;
      same = λ i ci. (by_rules i ci log (one.makes i (over ci))).1;
      well_formed = one.well_formed;
      old_in = one.old_in;
      opened_in = λ c e cc. one.opened_in c e (over cc);
    },
  )
  same_answer (inr all-full) = inr (λ i ci. full_closes hall i (unhindered hall G i ci) G.well_formed (all-full i (over ci)))

  pub agreed : Agreed hall
  agreed = same_answer (one_log (over_votes hall) (granted hall G))

  -- ---- the signers of a mark

  module _ (mark : ℕ → Mark) where
    marked : (j : ℕ) (m : Mark) → Correct hall j → Marked hall mark j m → MarkedOver (over_votes hall) mark j m
    marked j m cj t = record { log = log_of hall j; makes = by_close j cj t.makes; its = t.its }

    back_marked : (j : ℕ) (m : Mark) → Correct hall j → MarkedOver (over_votes hall) mark j m → Marked hall mark j m
    back_marked j m cj t = record { makes = (by_rules j cj t.log t.makes).0; its = t.its }

    counting : (k : ℕ) (m : Mark) (slots : List ℕ) → Counting hall mark k m slots → CountingOver (over_votes hall) mark k m (slot_of slots)
    counting k m slots c = record {
      signs = λ j x cj ne e. marked j x (back cj) (c.signs j x (back cj) ne e);
      counts = λ ck. marked k m (back ck) (c.counts (back ck));
    }

    signing : (slots : ℕ → List ℕ) → Signing hall mark slots → SigningOver (over_votes hall) mark (λ i. slot_of (slots i))
    signing slots S = record {
      majority = G.above;
      alike = λ i j log ci cj mi mj.
          let a = by_rules i (back ci) log mi in
          let b = by_rules j (back cj) log mj in
          S.alike i j (back ci) (back cj) a.0 b.0 (a.1 ∙ sym b.1);
      reaches = λ i j log ci cj ne mj. S.reaches i j (back ci) (back cj) ne (by_rules j (back cj) log mj).0;
    }

    pub signed : (slots : ℕ → List ℕ) → Signing hall mark slots → Signed hall mark slots
    unfolding signers_number enough
    signed slots S =
        let over-signed = (over-votes (over_votes hall) (granted hall G)).1 mark (λ i. slot_of (slots i)) (signing slots S) in
        record {
          finds = λ i ci d.
              let e = over-signed.finds i (log_of hall i) (over ci) (by_close i ci d) in
              record { counts = simp ((unhindered hall G i ci).numbers, S.cut i ci, e); enough = leb-true _ _ e };
          no_other = λ k m handed c d i ci.
              let a = row_passed 0 (sizes hall.n hall.f k) _ d in
              let b = row_passed 3 (are_slots hall.n handed) _ a.1 in
              let e = row_passed 9 (enough hall.f (signers_of hall.n k m (slot_of handed))) done b.1 in
              back_marked i m ci (over-signed.no_other k m (slot_of handed) (counting k m handed c) e.0 i (over ci));
        }

pub demand_3 : Demand3
demand_3 hall G = (agreed hall G, signed hall G)
