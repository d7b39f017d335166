-- Distinct logs are numbered in node order: a log that a correct node below has keeps that one's number, another gets the next.
use Prim.Native.Nat.{ℕ, zero, suc, ◌+◌, ◌≤◌, ◌<◌}
use mathlib.Core.Path.{◌≡◌, refl, sym, ap, ◌∙◌}
use mathlib.Core.Logic.{◌≢◌, ⊎_elim}
use mathlib.Core.Bool.{Bool, true, false, not, cond, ◌&&◌, ◌||◌}
use mathlib.Core.List.{List, [], ◌∷◌, ◌++◌}
use native.Mathlib.Nat.{not-suc-le-zero, le_of_suc-le-suc, eq-or-lt_of_le}
use native.Mathlib.Numerals.{add-one}
use native.Mathlib.Omega.{arith}
use borrow.Author.Tests.{not-true}
use lib.ListN.{length, get_or, set, length-append, length-set}
use lib.Seq.{get_or-set_same, get_or-set_other}
use Rattle.std.specs.Prelude.{Option, Some, None, MatchOption}
use Rattle.laws.specs.Members.{same, among}
use Rattle.laws.proofs.Members.{same_eq, same_self}
use Rattle.laws.proofs.Tests.{both, clash, neither}
use Rattle.rules.specs.Sizes.{nodes_most}
use Rattle.outcome.specs.Marks.{place_in, distinct}
use Rattle.outcome.specs.Held.{Numbered, FirstAlike}
use Rattle.outcome.specs.declared.marks.Numbers.{Numbers}

-- ---- places

pub place_kept : (l : List ℕ) (ks ms : List (List ℕ)) → among l ks ≡ true → place_in l (ks ++ ms) ≡ place_in l ks
unfolding place_in
place_kept l [] ms h = absurd (clash h refl)
place_kept l (k ∷ ks) ms h = go (same l k) h (λ q. place_kept l ks ms q)
  where
    go : (b : Bool) → (b || among l ks) ≡ true → (among l ks ≡ true → place_in l (ks ++ ms) ≡ place_in l ks)
        → cond b 0 (suc (place_in l (ks ++ ms))) ≡ cond b 0 (suc (place_in l ks))
    go true q f = refl
    go false q f = ap suc (f q)

pub place_next : (l : List ℕ) (ks : List (List ℕ)) → among l ks ≡ false → place_in l (ks ++ (l ∷ [])) ≡ length ks
unfolding place_in
place_next l [] h = simp (same_self l)
place_next l (k ∷ ks) h =
    let n = neither (same l k) (among l ks) h in
    simp n.0 (ap suc (place_next l ks n.1))

among_left : (l : List ℕ) (ks ms : List (List ℕ)) → among l ks ≡ true → among l (ks ++ ms) ≡ true
among_left l [] ms h = absurd (clash h refl)
among_left l (k ∷ ks) ms h = go (same l k) h (λ q. among_left l ks ms q)
  where
    go : (b : Bool) → (b || among l ks) ≡ true → (among l ks ≡ true → among l (ks ++ ms) ≡ true) → (b || among l (ks ++ ms)) ≡ true
    go true q f = refl
    go false q f = f q

among_last : (l : List ℕ) (ks : List (List ℕ)) → among l (ks ++ (l ∷ [])) ≡ true
among_last l [] = simp (same_self l)
among_last l (k ∷ ks) = go (same l k) (among_last l ks)
  where
    go : (b : Bool) → among l (ks ++ (l ∷ [])) ≡ true → (b || among l (ks ++ (l ∷ []))) ≡ true
    go true q = refl
    go false q = q

among_none : (l m : List ℕ) (ks : List (List ℕ)) → among l ks ≡ false → same l m ≡ false → among l (ks ++ (m ∷ [])) ≡ false
among_none l m [] h d = simp d
among_none l m (k ∷ ks) h d = let n = neither (same l k) (among l ks) h in simp n.0 (among_none l m ks n.1 d)

-- ---- the distinct logs

module _ (t : ℕ → Bool) (log : ℕ → List ℕ) where
  faulty_adds_none : (i : ℕ) → t i ≡ true → distinct t log (i + 1) ≡ distinct t log i
  unfolding distinct
  faulty_adds_none i e = rw (add-one i) (simp e)

  held_adds_none : (i : ℕ) → among (log i) (distinct t log i) ≡ true → distinct t log (i + 1) ≡ distinct t log i
  unfolding distinct
  held_adds_none i e = rw (add-one i) (go (t i))
    where
      go : (b : Bool) → cond (b || among (log i) (distinct t log i)) (distinct t log i) (distinct t log i ++ (log i ∷ [])) ≡ distinct t log i
      go true = refl
      go false = simp e

  new_adds_one : (i : ℕ) → t i ≡ false → among (log i) (distinct t log i) ≡ false → distinct t log (i + 1) ≡ distinct t log i ++ (log i ∷ [])
  unfolding distinct
  new_adds_one i f e = rw (add-one i) (simp (f, e))

  -- they are no more than the nodes
  pub distinct_most : (i : ℕ) → length (distinct t log i) ≤ i
  unfolding distinct
  distinct_most zero = omega arith
  distinct_most (suc i) = go (t i || among (log i) (distinct t log i)) (distinct_most i)
    where
      go : (b : Bool) → length (distinct t log i) ≤ i → length (cond b (distinct t log i) (distinct t log i ++ (log i ∷ []))) ≤ suc i
      go true h = omega arith
      go false h = omega (arith, length-append (distinct t log i) (log i ∷ []))

  -- each correct node's log is one of them
  pub its_among : (i j : ℕ) → j < i → t j ≡ false → among (log j) (distinct t log i) ≡ true
  unfolding distinct
  its_among zero j l f = absurd (not-suc-le-zero l)
  its_among (suc i) j l f = ⊎_elim (λ e. last e) (λ k. kept (its_among i j k f) (t i || among (log i) (distinct t log i))) (eq-or-lt_of_le (le_of_suc-le-suc l))
    where
      kept : among (log j) (distinct t log i) ≡ true → (b : Bool) → among (log j) (cond b (distinct t log i) (distinct t log i ++ (log i ∷ []))) ≡ true
      kept h true = h
      kept h false = among_left (log j) (distinct t log i) (log i ∷ []) h

      own : (b c : Bool) → b ≡ false → among (log i) (distinct t log i) ≡ c → among (log i) (cond (b || c) (distinct t log i) (distinct t log i ++ (log i ∷ []))) ≡ true
      own true c p q = absurd (clash refl p)
      own false true p q = q
      own false false p q = among_last (log i) (distinct t log i)

      last : j ≡ i → among (log j) (cond (t i || among (log i) (distinct t log i)) (distinct t log i) (distinct t log i ++ (log i ∷ []))) ≡ true
      last e = ap (λ (k : ℕ). among (log k) (cond (t i || among (log i) (distinct t log i)) (distinct t log i) (distinct t log i ++ (log i ∷ [])))) e
          ∙ own (t i) (among (log i) (distinct t log i)) (ap t (sym e) ∙ f) refl

  -- a log that no correct node has is none of them
  pub none_among : (l : List ℕ) (i : ℕ) → ((j : ℕ) → j < i → t j ≡ false → same l (log j) ≡ false) → among l (distinct t log i) ≡ false
  unfolding distinct
  none_among l zero h = refl
  none_among l (suc i) h = go (t i) refl (among (log i) (distinct t log i)) (none_among l i (λ j m f. h j (omega arith) f))
    where
      go : (b : Bool) → t i ≡ b → (c : Bool) → among l (distinct t log i) ≡ false → among l (cond (b || c) (distinct t log i) (distinct t log i ++ (log i ∷ []))) ≡ false
      go true p c q = q
      go false p true q = q
      go false p false q = among_none l (log i) (distinct t log i) q (h i (omega arith) p)

  -- ---- one turn

  module _ (i : ℕ) (x : Numbers) (h : Numbered t log i x) where
    pub faulty_numbered : t i ≡ true → Numbered t log (i + 1) x
    faulty_numbered e =
        let d : distinct t log i ≡ distinct t log (i + 1) = sym (faulty_adds_none i e) in
        record {
          places = h.places;
          count = h.count ∙ ap length d;
          each = λ j l f. h.each j (below j l f) f ∙ ap (place_in (log j)) d;
        }
      where
        below : (j : ℕ) → j < i + 1 → t j ≡ false → j < i
        below j l f = ⊎_elim (λ q. absurd (clash e (ap t (sym q) ∙ f))) (λ k. k) (eq-or-lt_of_le (le_of_suc-le-suc (rw (sym (add-one i)) l)))

    module _ (f : t i ≡ false) (most : i < nodes_most) where
      within : i < length x.of
      within = omega (arith, h.places)

      -- node i has the log of node k, and its number
      pub old_numbered : (k : ℕ) → FirstAlike t log i (Some k) → Numbered t log (i + 1) (record { count = x.count; of = set x.of i (get_or x.of k 0) })
      old_numbered k a =
          let e : log i ≡ log k = a.2 in
          let d : distinct t log i ≡ distinct t log (i + 1) = sym (held_adds_none i (ap (λ (y : List ℕ). among y (distinct t log i)) e ∙ its_among i k a.0 a.1)) in
          record {
            places = length-set x.of i _ ∙ h.places;
            count = h.count ∙ ap length d;
            each = λ j m g. ⊎_elim
                (λ q. rw q (get_or-set_same x.of i _ 0 within ∙ h.each k a.0 a.1 ∙ ap (λ (y : List ℕ). place_in y (distinct t log i)) (sym e) ∙ ap (place_in (log i)) d))
                (λ q. let ne : j ≢ i = λ z. omega arith in get_or-set_other x.of i j _ 0 ne ∙ h.each j q g ∙ ap (place_in (log j)) d)
                (eq-or-lt_of_le (le_of_suc-le-suc (rw (sym (add-one i)) m)));
          }

      -- no node below has node i's log: it gets the next number
      pub new_numbered : FirstAlike t log i None → (c : ℕ) → c ≡ x.count → Numbered t log (i + 1) (record { count = x.count + 1; of = set x.of i c })
      new_numbered a c ce =
          let none : among (log i) (distinct t log i) ≡ false = none_among (log i) i a in
          let d : distinct t log (i + 1) ≡ distinct t log i ++ (log i ∷ []) = new_adds_one i f none in
          record {
            places = length-set x.of i _ ∙ h.places;
            count = omega (arith, h.count, ap length d, length-append (distinct t log i) (log i ∷ []));
            each = λ j m g. ⊎_elim
                (λ q. rw q (get_or-set_same x.of i c 0 within ∙ ce ∙ h.count ∙ sym (ap (place_in (log i)) d ∙ place_next (log i) (distinct t log i) none)))
                (λ q. let ne : j ≢ i = λ y. omega arith in
                get_or-set_other x.of i j c 0 ne ∙ h.each j q g ∙ sym (ap (place_in (log j)) d ∙ place_kept (log j) (distinct t log i) (log i ∷ []) (its_among i j q g)))
                (eq-or-lt_of_le (le_of_suc-le-suc (rw (sym (add-one i)) m)));
          }

  pub none_numbered : (places : List ℕ) → length places ≡ nodes_most → Numbered t log 0 (record { count = 0; of = places })
  unfolding distinct
  none_numbered places l = record { places = l; count = refl; each = λ j l. absurd (not-suc-le-zero l) }

-- ---- the first node alike

module _ (t : ℕ → Bool) (log : ℕ → List ℕ) (i : ℕ) where
  -- what the search asks of node k
  abbrev pub alike : ℕ → Bool
  alike k = not (t k) && same (log i) (log k)

  -- what it finds is alike
  pub first_is : (r : Option ℕ) → MatchOption r ((j : ℕ) → 0 ≤ j → j < i → alike j ≡ false) (λ k. (0 ≤ k) × (k < i) × (alike k ≡ true) × ((j : ℕ) → 0 ≤ j → j < k → alike j ≡ false))
      → FirstAlike t log i r
  first_is (Some k) h = let b = both (not (t k)) (same (log i) (log k)) h.2 in (h.1, not-true (t k) b.0, same_eq (log i) (log k) b.1)
  first_is None h = λ j l f. here (same (log i) (log j)) (t j) f (h j (omega arith) l)
    where
      here : (b c : Bool) → c ≡ false → (not c && b) ≡ false → b ≡ false
      here b true p q = absurd (clash refl p)
      here b false p q = q
