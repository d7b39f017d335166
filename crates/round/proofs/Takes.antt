-- What some votes more make of what is found. No votes change nothing, and votes join up. One vote can change what is found for its own primary alone: it is
-- accepted for no other; and where it is not wanted it changes nothing at all.
use Prim.Native.Nat.{ℕ, ◌<◌}
use mathlib.Core.Path.{◌≡◌, refl, sym, ap, subst, ◌∙◌}
use mathlib.Core.Logic.{◌≢◌}
use mathlib.Core.Bool.{Bool, true, false, not, cond, ◌&&◌}
use mathlib.Core.List.{List, [], ◌∷◌, ◌++◌, append-nil, append_assoc}
use borrow.Author.Tests.{ne_eqb, eqb-true, eqb-false, not-true}
use lib.Dec.{eqb, ltb}
use lib.ListN.{length, get_or, set}
use lib.Seq.{set-get_or}
use Rattle.laws.specs.Members.{among}
use Rattle.laws.proofs.Tests.{clash, both}
use Rattle.rules.specs.Sizes.{nodes_most}
use Rattle.rules.specs.Vote.{Batch, Vote, shows, accepted}
use Rattle.rules.specs.Step.{others, gather, kept_most, keeps, newly, kept_after}
use Rattle.rules.proofs.Newly.{newly_snoc}
use Rattle.rules.proofs.Gathered.{each_at, each_set}
use Rattle.node.specs.Batches.{batch_of}
use Rattle.node.specs.declared.Batch.{Batch as BatchHeld}
use Rattle.keeping.specs.Keeping.{found_for, accepted_by, has_room, is_new, wanted, Keep}
use Rattle.keeping.proofs.Keeps.{keep_none}
use Rattle.round.specs.Found.{found_by, Take}
use Rattle.keeping.specs.declared.Found.{Found}

module _ (r : ℕ) where
  pub take_none : (a : List Found) → Take r a a []
  take_none a = record { takes = λ kept votes e. e ∙ ap (found_by r kept) (sym (append-nil votes)) }

  pub take_join : (a b c : List Found) (xs ys : List Vote) → Take r a b xs → Take r b c ys → Take r a c (xs ++ ys)
  take_join a b c xs ys t u = record {
    takes = λ kept votes e. u.takes kept (votes ++ xs) (t.takes kept votes e) ∙ ap (found_by r kept) (append_assoc votes xs ys);
  }

-- ---- whether one vote's batch is kept

other_primary : (cap r q : ℕ) (kept : List Batch) (v : Vote) → v.primary ≢ q → keeps cap r q kept v ≡ false
unfolding keeps accepted
other_primary cap r q kept v h = simp (ne_eqb v.primary q h)

neither_way : (a n t : Bool) → (t && a) ≡ false → (a && (n && t)) ≡ false
neither_way false n t h = refl
neither_way true n true h = absurd (clash refl h)
neither_way true true false h = refl
neither_way true false false h = refl

-- it has room for its batch, and is accepted
abbrev taken : (me r many : ℕ) → Vote → Bool
taken me r many v = has_room me v.primary many && accepted_by r v.primary v.mask

module _ (me r : ℕ) (kept : List Batch) (v : Vote) where
  not_taken : eqb v.primary me ≡ false → taken me r (length kept) v ≡ false → keeps kept_most r v.primary kept v ≡ false
  unfolding keeps accepted shows
  not_taken e h =
      neither_way (accepted_by r v.primary v.mask) (not (among v.batch kept)) (ltb (length kept) kept_most) (simp e at h)

  is_taken : taken me r (length kept) v ≡ true
      → (eqb v.primary me ≡ false) × ((not (among v.batch kept) && ltb (length kept) kept_most) ≡ keeps kept_most r v.primary kept v)
  unfolding keeps accepted shows
  is_taken h =
      let a = both (has_room me v.primary (length kept)) (accepted_by r v.primary v.mask) h in
      (not-true (eqb v.primary me) (both _ _ a.0).0, ap (λ (t : Bool). t && (not (among v.batch kept) && ltb (length kept) kept_most)) (sym a.1))

-- ---- one vote more

-- what is found for primary q by some votes
abbrev found_at : (r : ℕ) (kept : ℕ → List Batch) (votes : List Vote) (q : ℕ) → Found
found_at r kept votes q = found_for (kept q) (newly kept_most r q (kept q) votes)

module _ (r : ℕ) (kept : ℕ → List Batch) (votes : List Vote) (v : Vote) where
  unmoved : (q : ℕ) → keeps kept_most r q (kept_after kept_most r q (kept q) votes) v ≡ false → found_at r kept votes q ≡ found_at r kept (votes ++ (v ∷ [])) q
  unmoved q e =
      let new : List Vote = newly kept_most r q (kept q) votes in
      ap (found_for (kept q)) (sym (newly_snoc kept_most r q (kept q) votes v ∙ ap (λ (t : Bool). new ++ cond t (v ∷ []) []) e ∙ append-nil new))

  all_unmoved : ((q : ℕ) → keeps kept_most r q (kept_after kept_most r q (kept q) votes) v ≡ false) → found_by r kept votes ≡ found_by r kept (votes ++ (v ∷ []))
  all_unmoved h = λ i. gather (λ (q : ℕ). unmoved q (h q) i ∷ []) nodes_most

module _ (me r : ℕ) (found : List Found) (d : Found) (v : Vote) (low : v.primary < nodes_most) where
  -- what is found for the vote's primary
  its : (kept : ℕ → List Batch) (votes : List Vote) → found ≡ found_by r kept votes → get_or found v.primary d ≡ found_at r kept votes v.primary
  its kept votes e = ap (λ (f : List Found). get_or f v.primary d) e ∙ each_at (found_at r kept votes) d nodes_most v.primary low

  many : (kept : ℕ → List Batch) (votes : List Vote) → found ≡ found_by r kept votes
      → (get_or found v.primary d).kept.count ≡ length (kept_after kept_most r v.primary (kept v.primary) votes)
  many kept votes e = ap (λ (f : Found). f.kept.count) (its kept votes e)

  abbrev at_its : Found
  at_its = get_or found v.primary d

  abbrev test : Bool
  test = taken me r at_its.kept.count v

  left : test ≡ false → Take r found found (others me (v ∷ []))
  left h = go (eqb v.primary me) refl
    where
      nowhere : eqb v.primary me ≡ false → (kept : ℕ → List Batch) (votes : List Vote) → found ≡ found_by r kept votes → (q : ℕ) (t : Bool) → eqb v.primary q ≡ t
          → keeps kept_most r q (kept_after kept_most r q (kept q) votes) v ≡ false
      nowhere e kept votes b q true t =
          subst (λ (p : ℕ). keeps kept_most r p (kept_after kept_most r p (kept p) votes) v ≡ false) (eqb-true v.primary q t)
          (not_taken me r (kept_after kept_most r v.primary (kept v.primary) votes) v e (subst (λ (k : ℕ). taken me r k v ≡ false) (many kept votes b) h))
      nowhere e kept votes b q false t = other_primary kept_most r q (kept_after kept_most r q (kept q) votes) v (eqb-false v.primary q t)

      go : (t : Bool) → eqb v.primary me ≡ t → Take r found found (others me (v ∷ []))
      go true e = rw e (take_none r found)
      go false e = rw e record {
        takes = λ kept votes b. b ∙ all_unmoved r kept votes v (λ q. nowhere e kept votes b q (eqb v.primary q) refl);
      }

  kept_with : test ≡ true → (b : BatchHeld) (x : Found) → b ≡ batch_of v.batch → Keep at_its v.mask b x → Take r found (set found v.primary x) (others me (v ∷ []))
  kept_with w b x h k = go (eqb v.primary me) refl
    where
      kept_as_lem : (kept : ℕ → List Batch) (votes : List Vote) → found ≡ found_by r kept votes → x ≡ found_at r kept (votes ++ (v ∷ [])) v.primary
      kept_as_lem kept votes e =
          let p : ℕ = v.primary in
          let new : List Vote = newly kept_most r p (kept p) votes in
          let q = is_taken me r (kept_after kept_most r p (kept p) votes) v (subst (λ (j : ℕ). taken me r j v ≡ true) (many kept votes e) w) in
          k.keeps (kept p) new v (its kept votes e) refl h
          ∙ ap (found_for (kept p)) (ap (λ (t : Bool). new ++ cond t (v ∷ []) []) q.1 ∙ sym (newly_snoc kept_most r p (kept p) votes v))

      go : (t : Bool) → eqb v.primary me ≡ t → Take r found (set found v.primary x) (others me (v ∷ []))
      go true e = absurd (clash e (not-true (eqb v.primary me) (both _ _ (both (has_room me v.primary at_its.kept.count) _ w).0).0))
      go false e = rw e record {
        takes = λ kept votes b.
            ap (λ (f : List Found). set f v.primary x) b
            ∙ each_set (found_at r kept votes) (found_at r kept (votes ++ (v ∷ []))) d x nodes_most v.primary low (kept_as_lem kept votes b)
            (λ q n. unmoved r kept votes v q (other_primary kept_most r q (kept_after kept_most r q (kept q) votes) v (λ i. n (sym i))));
      }

  -- a vote changes nothing where there is no room for its batch, or where it is not wanted; else its batch is kept
  module _ (after : List Found) (t : Bool) (told : t ≡ has_room me v.primary at_its.kept.count) where
    pub vote_left : t ≡ false → after ≡ found → Take r found after (others me (v ∷ []))
    vote_left none same = subst (λ (f : List Found). Take r found f (others me (v ∷ []))) (sym same) (left (simp (sym told ∙ none)))

    module _ (so : t ≡ true) (b : BatchHeld) (h : b ≡ batch_of v.batch) (u : Bool) (wants : u ≡ wanted r v.primary v.mask at_its b) where
      room : has_room me v.primary at_its.kept.count ≡ true
      room = sym told ∙ so

      pub vote_kept : u ≡ true → (x : Found) → (is_new at_its b ≡ true → Keep at_its v.mask b x) → after ≡ set found v.primary x
          → Take r found after (others me (v ∷ []))
      vote_kept is x k set_is =
          let w = both (accepted_by r v.primary v.mask) (is_new at_its b) (sym wants ∙ is) in
          subst (λ (f : List Found). Take r found f (others me (v ∷ []))) (sym set_is) (kept_with (simp (room, w.0)) b x h (k w.1))

      pub vote_dropped : u ≡ false → after ≡ found → Take r found after (others me (v ∷ []))
      vote_dropped not_so same = subst (λ (f : List Found). Take r found f (others me (v ∷ []))) (sym same) (go (accepted_by r v.primary v.mask) refl)
        where
          go : (s : Bool) → accepted_by r v.primary v.mask ≡ s → Take r found found (others me (v ∷ []))
          go false e = left (simp (room, e))
          go true e =
              subst (λ (f : List Found). Take r found f (others me (v ∷ []))) (set-get_or found v.primary d)
              (kept_with (simp (room, e)) b at_its h (keep_none at_its v.mask b (simp e at (sym wants ∙ not_so))))
