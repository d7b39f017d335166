-- The step: each refusal is one test, in the order of the rows; what has passed them finds the votes taken up, so what is kept, passed on and written is
-- what they say.
use Prim.Native.Nat.{ℕ, zero, suc, ◌+◌, ◌≤◌, ◌<◌}
use mathlib.Core.Path.{◌≡◌, refl, sym, ap, ap₂, subst, ◌∙◌}
use mathlib.Core.Bool.{Bool, true, false, cond}
use mathlib.Core.List.{List, [], ◌∷◌, map}
use native.Mathlib.Omega.{arith}
use borrow.Author.Tests.{eq-eqb, lt-leb, le-leb, leb-true, lt-ltb}
use Rattle.std.proofs.Common.{Result, Ok, Err}
use lib.Dec.{leb, eqb}
use lib.ListN.{length, take, length-take}
use Rattle.std.proofs.lemmas.List.{get_or-take}
use Rattle.laws.specs.Parts.{onto}
use Rattle.laws.proofs.Lent.{onto_length}
use Rattle.laws.proofs.Tests.{both}
use Rattle.rules.specs.Sizes.{nodes_most}
use Rattle.rules.specs.Refusals.{refuse◌unless◌then◌, done, if_done}
use Rattle.rules.specs.Step.{gather, kept_most, newly, passes_on}
use Rattle.rules.specs.Vote.{Batch, Vote, passed_on}
use Rattle.rules.specs.Answers.{number_of}
use Rattle.rules.specs.declared.refusal.Refusal.{Refusal}
use Rattle.rules.specs.declared.refusal.Refusal.TheVariants.{Unsound, Phase}
use Rattle.rules.proofs.Answers.{no_row, refuses, answers, given}
use Rattle.rules.proofs.Newly.{newly_few}
use Rattle.rules.proofs.Inbox.{gather_same}
use Rattle.rules.proofs.Gathered.{each_at, each_length}
use Rattle.rules.proofs.Refusals.{row_passed}
use Rattle.wire.specs.Message.{message_bytes}
use Rattle.wire.specs.Inbox.{well_cut, unreadable_senders, inbox_number, ReadInbox}
use Rattle.node.specs.Batches.{kept_as}
use Rattle.node.specs.State.{kept_at, kept_for, sound_node}
use Rattle.node.specs.declared.Kept.{Kept}
use Rattle.node.specs.declared.Node.{Node}
use Rattle.node.proofs.Sound.{sound_right, sound_is_of, sound_sizes}
use Rattle.keeping.specs.Keeping.{found_for}
use Rattle.round.specs.Found.{found_by, Begin, TakeInbox}
use Rattle.round.proofs.Mapped.{each_mapped}
use Rattle.keeping.specs.declared.Found.{Found}
use Rattle.passing.specs.Passing.{AllHeld, EachHeld, found_at, passed_for, passed_below, passed_all, AllSayable, PassOn}
use Rattle.passing.proofs.Outboxes.{new_passed, found_held, not_passed, is_passed}
use Rattle.step.specs.Step.{taken_by, passed_by, stepped_node, kept_in, primaries_in, in_rounds, step_number, Step}
use Rattle.step.specs.declared.Stepped.{Stepped}
use Rattle.step.proofs.PassedVotes.{kept_few, passed_by_sayable, new_for, new_of, kept_keepable}
use mathlib.Core.Bool.{and-false}

-- ---- the primaries of whom something is passed on

module _ (n f r : ℕ) where
  pub last_round : r ≡ f + 1 → 0 ≡ primaries_in n f r
  last_round e = simp (eq-eqb r (f + 1) e)

  pub primaries_most : primaries_in n f r ≤ n
  primaries_most = go (eqb r (f + 1))
    where
      go : (b : Bool) → cond b 0 n ≤ n
      go true = omega arith
      go false = omega arith

  passes_gathered : (me : ℕ) (kept : ℕ → List Batch) (votes : List Vote)
      → gather (λ (p : ℕ). map (passed_on me) (newly kept_most r p (kept p) votes)) (primaries_in n f r) ≡ passes_on n f me r kept votes
  unfolding passes_on gather
  passes_gathered me kept votes = go (eqb r (f + 1))
    where
      go : (b : Bool) → gather (λ (p : ℕ). map (passed_on me) (newly kept_most r p (kept p) votes)) (cond b 0 n)
          ≡ cond b [] (gather (λ (p : ℕ). map (passed_on me) (newly kept_most r p (kept p) votes)) n)
      go true = refl
      go false = refl

-- ---- the answers

pub before_rounds : (s : Node) → s.phase < 1 → in_rounds s ≡ false
before_rounds s l = simp (lt-leb _ _ l)

pub after_rounds : (s : Node) → s.f + 1 < s.phase → in_rounds s ≡ false
after_rounds s l = simp (lt-leb _ _ l, and-false)

pub in_rounds_lem : (s : Node) → 1 ≤ s.phase → s.phase ≤ s.f + 1 → in_rounds s ≡ true
in_rounds_lem s l h = simp (le-leb _ _ l, le-leb _ _ h)

pub rounds_told : (s : Node) → in_rounds s ≡ true → s.phase ≤ s.f + 1
rounds_told s h = leb-true s.phase (s.f + 1) (both (leb 1 s.phase) (leb s.phase (s.f + 1)) h).1

module _ (s : Node) (inbox out : List ℕ) where
  pub unsound : sound_node s ≡ false → Step s inbox out (Err Unsound) s out
  unfolding step_number
  unsound h = record { answers = refuses (simp h); node = simp h; outbox_is = simp h }

  module _ (h : sound_node s ≡ true) where
    pub out_of_rounds : in_rounds s ≡ false → Step s inbox out (Err Phase) s out
    unfolding step_number
    out_of_rounds r = record { answers = refuses (simp (h, r)); node = simp (h, r); outbox_is = simp (h, r) }

    module _ (r : in_rounds s ≡ true) where
      pub ill_cut : (x : Refusal) → (well_cut s.n inbox ≡ false) × (4 ≡ number_of x) → Step s inbox out (Err x) s out
      unfolding step_number
      ill_cut x w = record { answers = refuses (simp (h, r, w.0) w.1); node = simp (h, r, w.0); outbox_is = simp (h, r, w.0) }

      module _ (w : well_cut s.n inbox ≡ true) (vs : List Vote) (e : vs ≡ passed_by s inbox) (after : List ℕ) where
        pub no_room : (x : Refusal) → PassOn vs out (Err x) after → Step s inbox out (Err x) s after
        unfolding step_number
        no_room x p =
            let f = not_passed (passed_by s inbox) out x after (subst (λ (us : List Vote). PassOn us out (Err x) after) e p) in
            let t = lt-leb (length (message_bytes (passed_by s inbox))) (length out) f.0 in
            record { answers = refuses (simp (h, r, w, t) f.1); node = simp (h, r, w, t); outbox_is = simp (h, r, w, t) f.2 }

        pub is_stepped : (k u : ℕ) (node : Node) → PassOn vs out (Ok k) after → u ≡ unreadable_senders s.n s.me inbox → node ≡ stepped_node s inbox
            → Step s inbox out (Ok (record { length = k; unreadable = u })) node after
        unfolding step_number
        is_stepped k u node p told v =
            let f = is_passed (passed_by s inbox) out k after (subst (λ (us : List Vote). PassOn us out (Ok k) after) e p) in
            let t = le-leb (length (message_bytes (passed_by s inbox))) (length out) f.0 in
            record {
              answers = answers (simp (h, r, w, t)) (λ i. record { length = f.1 i; unreadable = told i });
              node = simp (h, r, w, t) v;
              outbox_is = simp (h, r, w, t) f.2;
            }

  -- what a step that is done has found
  pub record CanStep (room : ℕ) : Type 0 where
    pub sound : sound_node s ≡ true
    pub rounds : in_rounds s ≡ true
    pub cut : well_cut s.n inbox ≡ true
    pub fits : length (message_bytes (passed_by s inbox)) ≤ room

  pub step_found : (room : ℕ) → step_number s inbox room ≡ done → CanStep room
  unfolding step_number
  step_found room d =
      let a = row_passed 1 (sound_node s) _ d in
      let b = row_passed 2 (in_rounds s) _ a.1 in
      let c = row_passed 3 (well_cut s.n inbox) _ b.1 in
      let e = row_passed 8 (leb (length (message_bytes (passed_by s inbox))) room) done c.1 in
      record { sound = a.0; rounds = b.0; cut = c.0; fits = leb-true _ _ e.0 }

  -- the outbox keeps its length
  pub step_length : (answer : Result Stepped Refusal) (node : Node) (after : List ℕ) → Step s inbox out answer node after → length after ≡ length out
  step_length answer node after p = ap length p.outbox_is ∙ go (step_number s inbox (length out)) refl
    where
      go : (k : ℕ) → step_number s inbox (length out) ≡ k → length (if_done k (onto (message_bytes (passed_by s inbox)) out) out) ≡ length out
      go zero e = onto_length (message_bytes (passed_by s inbox)) out (step_found (length out) e).fits
      go (suc k) e = refl

-- ---- what a sound node finds

-- what is passed on of what was found is what the step passes on
pub record Passes (s : Node) (inbox : List ℕ) (found : List Found) : Type 0 where
  pub most : length found ≤ nodes_most
  pub held : EachHeld found
  pub says : passed_all s found ≡ passed_by s inbox
  pub sayable : AllSayable s.n (passed_all s found)

module _ (s : Node) (inbox : List ℕ) (h : sound_node s ≡ true) where
  kept_is : s.kept ≡ gather (λ (p : ℕ). kept_as (kept_for s p) ∷ []) nodes_most
  kept_is = ap (λ (x : Node). x.kept) (sound_is_of s h)

  -- the inbox is well cut exactly when the reader does not refuse it
  cut_number : inbox_number s.n s.me inbox ≡ (refuse 4 unless well_cut s.n inbox then done)
  unfolding inbox_number
  cut_number = simp ((sound_sizes s h).nodes, lt-ltb _ _ (sound_sizes s h).node)

  pub cut_ill : (x : Refusal) → ReadInbox s.n s.me inbox (Err x) → (well_cut s.n inbox ≡ false) × (4 ≡ number_of x)
  cut_ill x t = go (well_cut s.n inbox) refl (t.number_is ∙ cut_number)
    where
      go : (b : Bool) → well_cut s.n inbox ≡ b → number_of x ≡ (refuse 4 unless b then done) → (well_cut s.n inbox ≡ false) × (4 ≡ number_of x)
      go true e k = no_row x k
      go false e k = (e, sym k)

  pub cut_well : (u : ℕ) → ReadInbox s.n s.me inbox (Ok u) → (well_cut s.n inbox ≡ true) × (u ≡ unreadable_senders s.n s.me inbox)
  cut_well u t = let g = given t in (go (well_cut s.n inbox) refl (sym cut_number ∙ g.0), g.1)
    where
      go : (b : Bool) → well_cut s.n inbox ≡ b → (refuse 4 unless b then done) ≡ done → well_cut s.n inbox ≡ true
      go true e k = e
      go false e k = absurd (omega arith)

  module _ (begun found : List Found) (u : ℕ) (w : well_cut s.n inbox ≡ true) (e : u ≡ unreadable_senders s.n s.me inbox) (b : Begin s.kept begun)
      (t : TakeInbox s.n s.me s.phase begun inbox u found) where
    pub found_is : found ≡ found_by s.phase (kept_for s) (taken_by s inbox)
    found_is = (t.cut (sound_sizes s h).nodes w e).takes (kept_for s) [] (b.begins s.phase (kept_for s) kept_is)

    found_at_lem : (p : ℕ) → p < nodes_most → found_at found p ≡ found_for (kept_for s p) (new_for s inbox p)
    found_at_lem p l = ap (λ (x : List Found). found_at x p) found_is ∙ each_at (λ (q : ℕ). found_for (kept_for s q) (new_for s inbox q)) _ nodes_most p l

    found_size : length found ≡ nodes_most
    found_size = ap length found_is ∙ each_length (λ (p : ℕ). found_for (kept_for s p) (new_for s inbox p)) nodes_most

    each_held : EachHeld found
    each_held p k =
        let l : p < nodes_most = omega (arith, found_size) in
        subst AllHeld (sym (found_at_lem p l))
        (found_held (kept_for s p) (new_for s inbox p) (newly_few kept_most s.phase p (kept_for s p) (taken_by s inbox) (kept_few s p))
        (kept_keepable s inbox p ((sound_right s h).keeps.keepable p l)).each)

    old_count : (p : ℕ) → p < nodes_most → (kept_at s.kept p).count ≡ length (kept_for s p)
    old_count p l =
        ap (λ (x : List Kept). (kept_at x p).count) kept_is ∙ ap (λ (x : Kept). x.count) (each_at (λ (q : ℕ). kept_as (kept_for s q)) _ nodes_most p l)

    passed_at : (p : ℕ) → p < nodes_most → passed_for s.me p (kept_at s.kept p).count (found_at found p) ≡ map (passed_on s.me) (new_for s inbox p)
    passed_at p l =
        ap₂ (passed_for s.me p) (old_count p l) (found_at_lem p l)
        ∙ new_passed s.me p (kept_for s p) (new_for s inbox p) (newly_few kept_most s.phase p (kept_for s p) (taken_by s inbox) (kept_few s p)) (new_of s inbox p)

    pub passes : (m : ℕ) → m ≡ primaries_in s.n s.f s.phase → Passes s inbox (take m found)
    passes m e =
        let most : m ≤ nodes_most = omega (arith, primaries_most s.n s.f s.phase, (sound_sizes s h).most) in
        let size : length (take m found) ≡ m = omega (arith, length-take m found, found_size) in
        let first : (p : ℕ) → p < m → found_at (take m found) p ≡ found_at found p = λ p l. get_or-take m found p _ l in
        let says : passed_all s (take m found) ≡ passed_by s inbox =
        ap (passed_below s.me s.kept (take m found)) size
        ∙ gather_same (λ (p : ℕ). passed_for s.me p (kept_at s.kept p).count (found_at (take m found) p)) (λ (p : ℕ). map (passed_on s.me) (new_for s inbox p)) m
        (λ p l. ap (passed_for s.me p (kept_at s.kept p).count) (first p l) ∙ passed_at p (omega arith))
        ∙ ap (gather (λ (p : ℕ). map (passed_on s.me) (new_for s inbox p))) e
        ∙ passes_gathered s.n s.f s.phase s.me (kept_for s) (taken_by s inbox) in
        record {
          most = omega arith;
          held = λ p l. subst AllHeld (sym (first p (omega arith))) (each_held p (omega (arith, found_size)));
          says = says;
          sayable = subst (AllSayable s.n) (sym says) (passed_by_sayable s inbox (sound_sizes s h).node);
        }

    pub next_node : (kept : List Kept) → kept ≡ kept_in found
        → record { n = s.n; f = s.f; me = s.me; phase = s.phase + 1; own = s.own; kept = kept } ≡ stepped_node s inbox
    next_node kept k =
        let g : ℕ → Found = λ p. found_for (kept_for s p) (newly kept_most s.phase p (kept_for s p) (taken_by s inbox)) in
        ap (λ (x : List Kept). record { n = s.n; f = s.f; me = s.me; phase = s.phase + 1; own = s.own; kept = x }) (k ∙ ap kept_in found_is ∙ each_mapped (λ (x : Found). x.kept) g nodes_most)
