-- Soundness is kept by a step: what was kept was right, and what is newly kept is the batch of a vote taken up, so a batch, of a primary below n that is not
-- the node itself; the rules keep at most two, different; and a phase that names a round is at most f + 1, so the next is at most f + 2.
use Prim.Native.Nat.{ℕ, zero, suc, ◌+◌, ◌≤◌, ◌<◌}
use mathlib.Core.Path.{◌≡◌, refl, ap, ap₂, subst, ◌∙◌}
use mathlib.Core.Logic.{◌≢◌, inl}
use mathlib.Core.Bool.{Bool, true, false, not, ◌&&◌, and-false}
use mathlib.Core.List.{List, [], ◌∷◌, ◌++◌}
use native.Mathlib.Omega.{arith}
use borrow.Author.Tests.{leb-true, lt-ltb, ne_eqb}
use lib.Dec.{leb, ltb, eqb}
use lib.ListN.{length}
use Rattle.laws.specs.Members.{In}
use Rattle.laws.proofs.Tests.{clash, both}
use Rattle.rules.specs.Refusals.{if_done}
use Rattle.std.proofs.Common.{Result}
use Rattle.rules.specs.declared.refusal.Refusal.{Refusal}
use Rattle.rules.specs.Vote.{Vote, batches}
use Rattle.rules.proofs.Inbox.{taken_of}
use Rattle.wire.proofs.Writings.{said}
use Rattle.node.specs.Batches.{entries_of, batch_of}
use Rattle.node.specs.State.{may_keep, sound_node, node_of}
use Rattle.node.specs.declared.Batch.{Batch}
use Rattle.node.specs.declared.Node.{Node}
use Rattle.node.proofs.Sound.{Right, sound_right, sound_is_of, of_is_sound}
use Rattle.round.specs.Found.{heard_from}
use Rattle.step.specs.Step.{kept_by, stepped_node, in_rounds, step_number, Step}
use Rattle.step.specs.declared.Stepped.{Stepped}
use Rattle.step.proofs.PassedVotes.{taken_sayable, new_for, new_read, new_of, kept_keepable}
use Rattle.step.proofs.Steps.{step_found, rounds_told}

-- ---- for whom something may be kept

module _ (n me r p : ℕ) (l : 1 ≤ r) where
  may_keep_lem : p < n → p ≢ me → may_keep n me (r + 1) p ≡ true
  may_keep_lem b ne = simp (lt-ltb 1 (r + 1) (omega arith), lt-ltb p n b, ne_eqb p me ne)

  -- for whom nothing may be kept after a round, nothing might before
  not_before : may_keep n me (r + 1) p ≡ false → may_keep n me r p ≡ false
  not_before h =
      let e : (ltb p n && not (eqb p me)) ≡ false = simp (lt-ltb 1 (r + 1) (omega arith)) at h in
      ap (λ (t : Bool). ltb 1 r && t) e ∙ and-false (ltb 1 r)

-- ---- what a step newly keeps

no_members : {A : Type 0} (l : List A) → ((x : A) → In x l → ⊥) → l ≡ []
no_members [] h = refl
no_members (x ∷ l) h = absurd (h x (inl refl))

module _ (s : Node) (inbox : List ℕ) where
  new_for_other : (p : ℕ) (v : Vote) → In v (new_for s inbox p) → (p < s.n) × (p ≢ s.me)
  new_for_other p v i =
      let k = new_read s inbox p v i in
      let t = taken_of s.n s.me (heard_from s.n inbox) v k in
      (subst (λ (q : ℕ). q < s.n) (new_of s inbox p v i) (said s.n v (taken_sayable s inbox v k)).primary, λ e. t.not_own (new_of s inbox p v i ∙ e))

  new_none : (p : ℕ) → 1 ≤ s.phase → may_keep s.n s.me (s.phase + 1) p ≡ false → new_for s inbox p ≡ []
  new_none p l h =
      no_members (new_for s inbox p) (λ v i. let t = new_for_other p v i in clash (may_keep_lem s.n s.me s.phase p l t.0 t.1) h)

  -- ---- the state afterwards

  module _ (h : sound_node s ≡ true) where
    stepped_right : in_rounds s ≡ true → Right s.n s.f s.me (s.phase + 1) (entries_of s.own) (kept_by s inbox)
    stepped_right r =
        let t = sound_right s h in
        let l = leb-true 1 s.phase (both (leb 1 s.phase) (leb s.phase (s.f + 1)) r).0 in
        record {
          numbers = t.numbers;
          phases = omega (arith, rounds_told s r);
          own_batch = t.own_batch;
          own_empty = λ z. absurd (omega arith);
          keeps = record {
            keepable = λ p b. kept_keepable s inbox p (t.keeps.keepable p b);
            nothing = λ p b m.
                let old = t.keeps.nothing p b (not_before s.n s.me s.phase p l m) in
                ap₂ (λ (x : List (List ℕ)) (y : List Vote). x ++ batches y) old (new_none p l m);
          };
        }

    stepped_is_of : stepped_node s inbox ≡ node_of s.n s.f s.me (s.phase + 1) (entries_of s.own) (kept_by s inbox)
    stepped_is_of =
        let own : s.own ≡ batch_of (entries_of s.own) = ap (λ (x : Node). x.own) (sound_is_of s h) in
        ap (λ (b : Batch). record { n = s.n; f = s.f; me = s.me; phase = s.phase + 1; own = b; kept = (stepped_node s inbox).kept }) own

    pub stepped_is_sound : in_rounds s ≡ true → sound_node (stepped_node s inbox) ≡ true
    stepped_is_sound r =
        ap sound_node stepped_is_of
        ∙ of_is_sound s.n s.f s.me (s.phase + 1) (entries_of s.own) (kept_by s inbox) (stepped_right r)

  -- whatever a step answers, a sound state stays sound
  pub step_stays_sound : (out : List ℕ) (answer : Result Stepped Refusal) (node : Node) (after : List ℕ) → Step s inbox out answer node after
      → sound_node s ≡ true → sound_node node ≡ true
  step_stays_sound out answer node after p h = ap sound_node p.node ∙ go (step_number s inbox (length out)) refl
    where
      go : (k : ℕ) → step_number s inbox (length out) ≡ k → sound_node (if_done k (stepped_node s inbox) s) ≡ true
      go zero e = stepped_is_sound h (step_found s inbox out (length out) e).rounds
      go (suc k) e = h
