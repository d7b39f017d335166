-- Soundness is kept: a fresh node is sound, and an opening leaves a sound state sound. An outbox with room for the longest record is never too short.
use Prim.Native.Nat.{ℕ, zero, suc, ◌≤◌}
use mathlib.Core.Path.{◌≡◌, refl, ap, ◌∙◌}
use mathlib.Core.Logic.{◌≢◌}
use mathlib.Core.Bool.{Bool, true, false, ◌&&◌}
use mathlib.Core.List.{List, []}
use native.Mathlib.Omega.{arith}
use borrow.Author.Tests.{le-leb, leb-true, eqb-true}
use lib.Dec.{leb, eqb}
use lib.ListN.{length}
use Rattle.std.proofs.Common.{Result, Ok}
use Rattle.laws.proofs.Tests.{both}
use Rattle.rules.specs.Sizes.{sizes}
use Rattle.rules.specs.Refusals.{done, if_done}
use Rattle.rules.specs.Vote.{opened}
use Rattle.rules.specs.declared.refusal.Refusal.{Refusal}
use Rattle.rules.proofs.Refusals.{row_passed}
use Rattle.rules.proofs.Answers.{given}
use Rattle.wire.specs.Sizes.{record_most}
use Rattle.wire.specs.Record.{record_bytes}
use Rattle.wire.proofs.Writings.{record_length}
use Rattle.tray.specs.Trays.{entries_of, sound_tray}
use Rattle.tray.specs.declared.Tray.{Tray}
use Rattle.tray.proofs.Sound.{batch_parts, sound_parts}
use Rattle.node.specs.State.{may_keep, sound_node, fresh, New}
use Rattle.node.specs.Opening.{opening_vote, opened_node, open_number, Open}
use Rattle.node.specs.declared.Node.{Node}
use Rattle.node.proofs.Lists.{empty_is_batch, batch_is_sound}
use Rattle.node.proofs.Sound.{sound_told, told_sound, of_is_sound}

-- ---- the fresh node

pub fresh_is_sound : (n f me : ℕ) → sizes n f me ≡ true → sound_node (fresh n f me) ≡ true
fresh_is_sound n f me h =
    of_is_sound n f me 0 [] (λ p. [])
    (record {
      numbers = h;
      phases = omega arith;
      own_batch = empty_is_batch;
      own_empty = λ z. refl;
      keeps = record { keepable = λ p l. record { few = tt; each = λ b i. absurd i }; nothing = λ p l m. refl };
    })

-- a node that is made is the fresh node of sizes that hold
module _ (n f me : ℕ) (node : Node) (r : New n f me (Ok node)) where
  pub made_sizes : sizes n f me ≡ true
  made_sizes = (row_passed 0 (sizes n f me) done (given r).0).0

  pub made_is_fresh : node ≡ fresh n f me
  made_is_fresh = (given r).1

-- ---- opening

-- what an opening that is done has found
pub record CanOpen (s : Node) (t : Tray) (room : ℕ) : Type 0 where
  pub sound : sound_node s ≡ true
  pub fine : sound_tray t ≡ true
  pub unopened : s.phase ≡ 0
  pub fits : length (record_bytes (opening_vote s t)) ≤ room

module _ (s : Node) (t : Tray) where
  pub open_found : (room : ℕ) → open_number s t room ≡ done → CanOpen s t room
  unfolding open_number
  open_found room d =
      let a = row_passed 1 (sound_node s && sound_tray t) _ d in
      let b = both (sound_node s) (sound_tray t) a.0 in
      let c = row_passed 2 (eqb s.phase 0) _ a.1 in
      let e = row_passed 8 (leb (length (record_bytes (opening_vote s t))) room) done c.1 in
      record { sound = b.0; fine = b.1; unopened = eqb-true s.phase 0 c.0; fits = leb-true _ _ e.0 }

  pub opened_is_sound : sound_node s ≡ true → sound_tray t ≡ true → s.phase ≡ 0 → sound_node (opened_node s t) ≡ true
  opened_is_sound h fine p =
      let k = sound_told s h in
      told_sound (opened_node s t)
      (record {
        numbers = k.numbers;
        phases = omega arith;
        own = batch_is_sound (entries_of t) (sound_parts t fine).1;
        own_empty = λ z. absurd (omega arith);
        places = k.places;
        kept = k.kept;
        nothing = λ q l m. k.nothing q l (ap (λ (x : ℕ). may_keep s.n s.me x q) p);
      })

  -- whatever an opening answers, a sound state stays sound
  pub open_stays_sound : (out : List ℕ) (answer : Result ℕ Refusal) (now : Node) (after : List ℕ) → sound_node s ≡ true → Open s t out answer now after → sound_node now ≡ true
  open_stays_sound out answer now after h o = ap sound_node o.node_is ∙ go (open_number s t (length out)) refl
    where
      go : (k : ℕ) → open_number s t (length out) ≡ k → sound_node (if_done k (opened_node s t) s) ≡ true
      go zero e = let c = open_found (length out) e in opened_is_sound h c.fine c.unopened
      go (suc k) e = h

  -- the longest record fits
  pub opening_size : sound_tray t ≡ true → length (record_bytes (opening_vote s t)) ≤ record_most
  unfolding opened
  opening_size fine = omega (arith, record_length (opening_vote s t), (batch_parts (entries_of t) (sound_parts t fine).1).0)

  pub never_9 : (room : ℕ) → record_most ≤ room → open_number s t room ≢ 9
  unfolding open_number
  never_9 room h e = go (sound_node s) refl (sound_tray t) refl (eqb s.phase 0) refl
    where
      go : (a : Bool) → sound_node s ≡ a → (b : Bool) → sound_tray t ≡ b → (c : Bool) → eqb s.phase 0 ≡ c → ⊥
      go true p true q true r =
          let l = le-leb (length (record_bytes (opening_vote s t))) room (omega (arith, opening_size q)) in
          let z : open_number s t room ≡ 0 = simp (p, q, r, l) in omega arith
      go true p true q false r = let z : open_number s t room ≡ 3 = simp (p, q, r) in omega arith
      go true p false q c r = let z : open_number s t room ≡ 2 = simp (p, q) in omega arith
      go false p b q c r = let z : open_number s t room ≡ 2 = simp p in omega arith
