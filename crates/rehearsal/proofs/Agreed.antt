-- All printed logs are one log, and every printed line of signers is the correct nodes: a corollary of demand 3. The log of a rehearsal is never full, since the
-- decisions have at most 256 entries.
use Prim.Native.Nat.{ℕ, zero, suc, ◌+◌, ◌≤◌, ◌<◌}
use mathlib.Core.Path.{◌≡◌, refl, sym, ap, subst, ◌∙◌}
use mathlib.Core.Logic.{inl, inr}
use mathlib.Core.Bool.{Bool, true, false, not, cond}
use mathlib.Core.List.{List, [], ◌∷◌}
use native.Mathlib.Nat.{le_refl}
use native.Mathlib.Omega.{arith}
use borrow.Author.Tests.{le-leb}
use lib.ListN.{length, length-append}
use Rattle.laws.specs.Masks.{count, as_bit}
use Rattle.laws.specs.Members.{In}
use Rattle.rules.specs.Sizes.{log_most, fits, is_log}
use Rattle.rules.specs.Refusals.{done}
use Rattle.rules.specs.Step.{gather}
use Rattle.rules.proofs.Logs.{some_correct}
use Rattle.tray.proofs.Sound.{of_entries}
use Rattle.node.specs.State.{sound_node}
use Rattle.node.specs.declared.Node.{Node}
use Rattle.closing.specs.Close.{new_log_of, close_number}
use Rattle.agreement.specs.Hall.{Hall, node_after, closes, log_of}
use Rattle.agreement.specs.Granted.{Correct, Granted}
use Rattle.agreement.specs.Claim.{OneLog, Agreed}
use Rattle.agreement.proofs.Follows.{over_votes, follows, stays_sound}
use Rattle.agreement.proofs.Granting.{unhindered, granted}
use Rattle.agreement.proofs.Demand3.{agreed}
use Rattle.schedule.specs.Forms.{form_of}
use Rattle.std.specs.Prelude.{Ok}
use Rattle.header.specs.declared.Header.{Header}
use Rattle.contents.specs.Contents.{is_faulty, entries_of_tray}
use Rattle.standing.specs.Run.{hall_of}
use Rattle.played.specs.Playing.{breach}
use Rattle.outcome.specs.Logs.{made_log}
use Rattle.report.specs.Lines.{all_lines, nodes_that}
use Rattle.outcome.proofs.Made.{new_log_most, makes_log}
use Rattle.outcome.proofs.OneLog.{many_correct}
use Rattle.report.proofs.OneLog.{one_report}
use Rattle.rehearsal.specs.Rehearsal.{played_text, form_text}
use Rattle.rehearsal.specs.Claim.{correct_nodes, one_text, OneLog as Printed, RehearsalsAgree}
use Rattle.rehearsal.proofs.Premises.{run_granted}

-- as many are listed as pass the test
listed_count : (t : ℕ → Bool) (n : ℕ) → length (nodes_that t n) ≡ count t n
unfolding nodes_that gather count
listed_count t zero = refl
listed_count t (suc n) = length-append (nodes_that t n) (cond (t n) (n ∷ []) []) ∙ one (t n) (listed_count t n)
  where
    one : (b : Bool) → length (nodes_that t n) ≡ count t n → length (nodes_that t n) + length (cond b (n ∷ []) []) ≡ as_bit b + count t n
    one true e = omega arith
    one false e = omega arith

module _ (s : List ℕ) (h : Header) (good : form_of s ≡ Ok h) (kept : breach s h.n h.f ≡ 0) where
  abbrev n : ℕ
  n = h.n

  abbrev f : ℕ
  f = h.f

  abbrev hall : Hall
  hall = hall_of s n f

  abbrev G : Granted hall
  G = run_granted s h good kept

  -- node i when its rounds are over
  abbrev pub last : ℕ → Node
  last i = node_after hall i (f + 1)

  module _ (i : ℕ) (ci : Correct hall i) where
    sound_last : sound_node (last i) ≡ true
    sound_last = stays_sound hall i (unhindered hall G i ci) (f + 1)

    rounds_over : (last i).f + 2 ≤ (last i).phase
    rounds_over =
        let e = follows hall i (unhindered hall G i ci) (f + 1) (le_refl (f + 1)) in
        let a : (last i).f ≡ f = ap (λ (x : Node). x.f) e in
        let b : (last i).phase ≡ suc (f + 1) = ap (λ (x : Node). x.phase) e in
        omega (arith, a, b)

    -- the log that is printed is the one that its close makes
    pub printed : made_log (last i) ≡ log_of hall i
    printed = makes_log (last i) sound_last rounds_over

    -- and the close does make one
    pub makes : closes hall i ≡ done
    unfolding close_number is_log fits
    makes =
        let l : length (new_log_of (last i) []) ≤ log_most = omega (arith, new_log_most (last i) sound_last) in
        simp (sound_last, le-leb _ _ rounds_over, le-leb _ _ l)

  one_of : Agreed hall → (log : List ℕ) × OneLog hall log
  one_of (inl one) = one
  one_of (inr all-full) =
      let c = some_correct (over_votes hall) (granted hall G) in
      let ci : Correct hall c.0 = record { node = c.1.node; fine = c.1.fine } in
      absurd (let z = all-full c.0 ci in let y = makes c.0 ci in omega arith)

  many : f + 1 ≤ count (λ (j : ℕ). not (is_faulty s j)) n
  many = many_correct n f (is_faulty s) G.few G.above

  module _ (log : List ℕ) (one : OneLog hall log) where
    its_log : (i : ℕ) → i < n → is_faulty s i ≡ false → made_log (last i) ≡ log
    its_log i l e = let ci : Correct hall i = record { node = l; fine = e } in printed i ci ∙ one.same i ci

    one_text_lem : played_text s n f 0 ≡ one_text s n f log (correct_nodes s n)
    unfolding played_text all_lines
    one_text_lem =
        one_report n f (is_faulty s) last log (λ i l e. (unhindered hall G i (record { node = l; fine = e })).numbers) many its_log

    all_in : (c e : ℕ) → c < n → is_faulty s c ≡ false → In e (entries_of_tray s c) → In e log
    all_in c e l h m = one.opened_in c e (record { node = l; fine = h }) (subst (In e) (sym (of_entries (entries_of_tray s c))) m)

  one_log : (log : List ℕ) × Printed s n f log
  unfolding form_text
  one_log =
      let one = one_of (agreed hall G) in (
        one.0,
        record {
          prints = ap (form_text s) good ∙ ap (played_text s n f) kept ∙ one_text_lem one.0 one.1;
          well_formed = one.1.well_formed;
          opened_in = all_in one.0 one.1;
          enough = omega (arith, listed_count (λ (j : ℕ). not (is_faulty s j)) n, many);
        },
      )

pub rehearsals_agree_lem : RehearsalsAgree
rehearsals_agree_lem s h good kept = one_log s h good kept
