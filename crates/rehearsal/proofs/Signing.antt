-- The marks of a rehearsal go by the logs, and the slots that every node is handed say each correct node's mark and nothing of a faulty one: what demand 3
-- grants for signing.
use Prim.Native.Nat.{ℕ}
use mathlib.Core.Path.{◌≡◌, sym, ap, ◌∙◌}
use mathlib.Core.Bool.{Bool, cond}
use mathlib.Core.List.{List}
use mathlib.Core.Option.{none, some}
use borrow.Author.Tests.{eq-eqb}
use Rattle.rules.specs.Signers.{Mark}
use Rattle.signing.specs.Slots.{slot_of}
use Rattle.agreement.specs.Hall.{Hall}
use Rattle.agreement.specs.Granted.{Correct, Counting, Signing}
use Rattle.schedule.specs.Forms.{form_of}
use Rattle.std.specs.Prelude.{Ok}
use Rattle.header.specs.declared.Header.{Header}
use Rattle.contents.specs.Contents.{is_faulty}
use Rattle.standing.specs.Run.{hall_of}
use Rattle.played.specs.Playing.{breach}
use Rattle.outcome.specs.Marks.{place_in, mark_with, distinct, number_at}
use Rattle.outcome.proofs.Speaking.{mark_size_lem, slots_size}
use Rattle.outcome.proofs.OneLog.{spoken_at}
use Rattle.rehearsal.specs.Claim.{printed_log, marks, slots, RehearsalsGranted}
use Rattle.rehearsal.proofs.Premises.{run_granted}
use Rattle.rehearsal.proofs.Agreed.{printed, makes}

some_is : {a b : Mark} → some a ≡ some b → b ≡ a
some_is e = cc

module _ (s : List ℕ) (h : Header) (good : form_of s ≡ Ok h) (kept : breach s h.n h.f ≡ 0) where
  abbrev n : ℕ
  n = h.n

  abbrev f : ℕ
  f = h.f

  abbrev hall : Hall
  hall = hall_of s n f

  -- a correct node's slot says its mark
  says : (j : ℕ) → Correct hall j → slot_of (slots s n f) j ≡ some (marks s n f j)
  says j cj =
      spoken_at n (is_faulty s) (printed_log s n f) j cj.node
      ∙ ap (λ (b : Bool). cond b none (some (marks s n f j))) cj.fine

  signing : Signing hall (marks s n f) (λ i. slots s n f)
  signing = record {
    cut = λ i ci. eq-eqb _ _ (slots_size (is_faulty s) (marks s n f) (λ k. mark_size_lem (number_at (is_faulty s) (printed_log s n f) n k)) n);
    alike = λ i j ci cj mi mj e.
        ap (λ (log : List ℕ). mark_with (place_in log (distinct (is_faulty s) (printed_log s n f) n))) (printed s h good kept i ci ∙ e ∙ sym (printed s h good kept j cj));
    reaches = λ i j ci cj ne m. says j cj;
  }

  counting : (k : ℕ) → Correct hall k → Counting hall (marks s n f) k (marks s n f k) (slots s n f)
  counting k ck = record {
    signs = λ j x cj ne e. record { makes = makes s h good kept j cj; its = some_is (sym (says j cj) ∙ e) };
    counts = λ c. record { makes = makes s h good kept k c; its = λ i. marks s n f k };
  }

pub rehearsals_granted : RehearsalsGranted
rehearsals_granted s h good kept = record { run = run_granted s h good kept; signing = signing s h good kept; counting = counting s h good kept }
