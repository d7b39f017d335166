-- What a step takes up and what it passes on, by members: what is gathered is what some number below n gives.
use Prim.Native.Nat.{ℕ, zero, suc, ◌+◌, ◌*◌, ◌-◌, ◌≤◌, ◌<◌}
use mathlib.Core.Path.{◌≡◌, refl, sym, ap, subst, ◌∙◌}
use mathlib.Core.Logic.{◌≢◌, inl, ⊎_elim}
use mathlib.Core.Bool.{Bool, true, false, cond, not}
use mathlib.Core.List.{List, [], ◌∷◌, map}
use native.Mathlib.Nat.{le_refl, le_trans, le-suc, not-suc-le-zero, le_of_suc-le-suc, eq-or-lt_of_le}
use native.Mathlib.Omega.{arith}
use borrow.Author.Tests.{eqb-false, ne_eqb, not-true}
use lib.Dec.{eqb}
use lib.ListN.{length, length-append, length-map}
use Rattle.laws.specs.Members.{In, those}
use Rattle.laws.proofs.Members.{in_left, in_right, in_either, in_those, those_in, in_map, map_in}
use Rattle.rules.specs.Vote.{Batch, Vote, passed_on}
use Rattle.rules.specs.Step.{kept_most, gather, taken_up, newly, passes_on}
use Rattle.rules.proofs.Votes.{accepted_says}
use Rattle.rules.proofs.Newly.{newly_new, newly_few}

module _ {A : Type 0} (g : ℕ → List A) where
  pub gather_in : (n j : ℕ) (x : A) → j < n → In x (g j) → In x (gather g n)
  unfolding gather
  gather_in zero j x l h = absurd (not-suc-le-zero l)
  gather_in (suc n) j x l h =
      ⊎_elim (λ e. in_right x (gather g n) (g n) (subst (λ (k : ℕ). In x (g k)) e h)) (λ k. in_left x (gather g n) (g n) (gather_in n j x k h))
      (eq-or-lt_of_le (le_of_suc-le-suc l))

  pub gather_of : (n : ℕ) (x : A) → In x (gather g n) → (j : ℕ) × (j < n) × In x (g j)
  unfolding gather
  gather_of zero x h = absurd h
  gather_of (suc n) x h =
      ⊎_elim (λ k. let t = gather_of n x k in (t.0, le_trans t.1 (le-suc n), t.2)) (λ k. (n, le_refl (suc n), k)) (in_either x (gather g n) (g n) h)

pub gather_same : {A : Type 0} (g h : ℕ → List A) (n : ℕ) → ((j : ℕ) → j < n → g j ≡ h j) → gather g n ≡ gather h n
unfolding gather
gather_same g h zero e = refl
gather_same g h (suc n) e = rw (gather_same g h n (λ j l. e j (le_trans l (le-suc n))), e n (le_refl (suc n)))

-- where each number gives k at most, and one of them nothing
module _ {A : Type 0} (g : ℕ → List A) (k : ℕ) (few : (j : ℕ) → length (g j) ≤ k) where
  pub gather_few : (n : ℕ) → length (gather g n) ≤ k * n
  unfolding gather
  gather_few zero = omega arith
  gather_few (suc n) = omega (arith, gather_few n, few n, length-append (gather g n) (g n))

  pub gather_but_one : (n i : ℕ) → i < n → length (g i) ≡ 0 → length (gather g n) ≤ k * (n - 1)
  unfolding gather
  gather_but_one zero i l e = absurd (not-suc-le-zero l)
  gather_but_one (suc n) i l e =
      let p : n ≡ suc n - 1 = omega arith in
      subst (λ (j : ℕ). length (gather g (suc n)) ≤ k * j) p
      (⊎_elim
      (λ q. omega (arith, gather_few n, length-append (gather g n) (g n), ap (λ (j : ℕ). length (g j)) (sym q) ∙ e))
      (λ m. more n m (gather_but_one n i m e))
      (eq-or-lt_of_le (le_of_suc-le-suc l)))
    where
      more : (n : ℕ) → i < n → length (gather g n) ≤ k * (n - 1) → length (gather g (suc n)) ≤ k * n
      more zero m h = absurd (not-suc-le-zero m)
      more (suc n) m h =
          let e : suc n - 1 ≡ n = omega arith in
          omega (arith, ap (λ (j : ℕ). k * j) e, few (suc n), length-append (gather g (suc n)) (g (suc n)))

-- ---- taken up: another's message, another's batch

module _ (n me : ℕ) (heard : ℕ → List Vote) where
  abbrev of_others : ℕ → List Vote
  of_others j = those (λ (v : Vote). not (eqb v.primary me)) (heard j)

  pub taken_in : (j : ℕ) (v : Vote) → j < n → j ≢ me → v.primary ≢ me → In v (heard j) → In v (taken_up n me heard)
  unfolding taken_up
  taken_in j v l nj np h =
      gather_in (λ (x : ℕ). cond (eqb x me) [] (of_others x)) n j v l
      (rw (ne_eqb j me nj) (in_those (λ (w : Vote). not (eqb w.primary me)) v (heard j) h (rw (ne_eqb v.primary me np))))

  pub record TakenUp (v : Vote) : Type 0 where
    pub from : ℕ
    pub node : from < n
    pub other : from ≢ me
    pub heard_it : In v (heard from)
    pub not_own : v.primary ≢ me

  pub taken_of : (v : Vote) → In v (taken_up n me heard) → TakenUp v
  unfolding taken_up
  taken_of v h = go (gather_of (λ (x : ℕ). cond (eqb x me) [] (of_others x)) n v h)
    where
      go : (j : ℕ) × (j < n) × In v (cond (eqb j me) [] (of_others j)) → TakenUp v
      go t = pick (eqb t.0 me) refl
        where
          pick : (b : Bool) → eqb t.0 me ≡ b → TakenUp v
          pick true e = absurd (rw e at t.2)
          pick false e =
              let k = those_in (λ (w : Vote). not (eqb w.primary me)) v (heard t.0) (rw e at t.2) in
              record {
                from = t.0;
                node = t.1;
                other = eqb-false t.0 me e;
                heard_it = k.0;
                not_own = eqb-false v.primary me (not-true (eqb v.primary me) k.1);
              }

-- ---- passed on

module _ (n f me r : ℕ) (kept : ℕ → List Batch) (votes : List Vote) where
  abbrev passed_for : ℕ → List Vote
  passed_for p = map (passed_on me) (newly kept_most r p (kept p) votes)

  pub passes_in : (p : ℕ) (v : Vote) → r ≢ f + 1 → p < n → In v (newly kept_most r p (kept p) votes) → In (passed_on me v) (passes_on n f me r kept votes)
  unfolding passes_on
  passes_in p v ne l h = rw (ne_eqb r (f + 1) ne) (gather_in passed_for n p (passed_on me v) l (in_map (passed_on me) v (newly kept_most r p (kept p) votes) h))

  pub record PassedOn (w : Vote) : Type 0 where
    pub primary : ℕ
    pub node : primary < n
    pub vote : Vote
    pub new : In vote (newly kept_most r primary (kept primary) votes)
    pub passed : w ≡ passed_on me vote

  pub passes_of : (w : Vote) → In w (passes_on n f me r kept votes) → PassedOn w
  unfolding passes_on
  passes_of w h = go (eqb r (f + 1)) refl
    where
      go : (b : Bool) → eqb r (f + 1) ≡ b → PassedOn w
      go true e = absurd (rw e at h)
      go false e =
          let t = gather_of passed_for n w (rw e at h) in
          let m = map_in (passed_on me) w (newly kept_most r t.0 (kept t.0) votes) t.2 in
          record { primary = t.0; node = t.1; vote = m.0; new = m.1; passed = m.2 }

  -- nothing is passed on for the node itself, since nothing of its own is taken up
  module _ (others : (v : Vote) → In v votes → v.primary ≢ me) where
    none_own : (ws : List Vote) → ((v : Vote) → In v ws → In v (newly kept_most r me (kept me) votes)) → length ws ≡ 0
    none_own [] i = refl
    none_own (v ∷ vs) i =
        let q = newly_new kept_most r me (kept me) votes v (i v (inl refl)) in
        absurd (others v q.read (accepted_says r me v q.taken).of)

    -- at most two for each other primary
    pub passes_few : me < n → ((p : ℕ) → length (kept p) ≤ kept_most) → length (passes_on n f me r kept votes) ≤ kept_most * (n - 1)
    unfolding passes_on
    passes_few l within = go (eqb r (f + 1)) refl
      where
        few : (p : ℕ) → length (passed_for p) ≤ kept_most
        few p =
            omega (arith, length-map (newly kept_most r p (kept p) votes) (passed_on me), newly_few kept_most r p (kept p) votes (within p))

        own : length (passed_for me) ≡ 0
        own = length-map (newly kept_most r me (kept me) votes) (passed_on me) ∙ none_own (newly kept_most r me (kept me) votes) (λ v i. i)

        go : (b : Bool) → eqb r (f + 1) ≡ b → length (passes_on n f me r kept votes) ≤ kept_most * (n - 1)
        go true e = rw e (omega arith)
        go false e = rw e (gather_but_one passed_for kept_most few n me l own)
