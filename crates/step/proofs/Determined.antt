-- The promise of the step determines its outcome: any two outcomes that satisfy it are equal. And room for two records of each other node is enough.
use Prim.Native.Nat.{ℕ, ◌*◌, ◌-◌, ◌≤◌}
use mathlib.Core.Path.{◌≡◌, refl, sym, ◌∙◌}
use mathlib.Core.Logic.{◌≢◌}
use mathlib.Core.Bool.{Bool, true, false}
use mathlib.Core.List.{List}
use native.Mathlib.Omega.{arith}
use borrow.Author.Tests.{le-leb}
use lib.ListN.{length}
use Rattle.node.proofs.Sound.{sound_sizes}
use Rattle.std.proofs.Common.{Result}
use Rattle.rules.specs.declared.refusal.Refusal.{Refusal}
use Rattle.rules.proofs.Answers.{determined}
use Rattle.rules.specs.Step.{kept_most}
use Rattle.wire.specs.Sizes.{record_most}
use Rattle.wire.specs.Message.{message_bytes}
use Rattle.wire.specs.Inbox.{well_cut}
use Rattle.node.specs.State.{sound_node}
use Rattle.node.specs.declared.Node.{Node}
use Rattle.step.specs.Step.{passed_by, in_rounds, step_number, Step}
use Rattle.step.specs.declared.Stepped.{Stepped}
use Rattle.step.proofs.PassedVotes.{passed_by_most}

pub step_determined : (s : Node) (inbox outbox : List ℕ) (a b : Result Stepped Refusal) (m n : Node) (o u : List ℕ)
    → Step s inbox outbox a m o → Step s inbox outbox b n u → (a ≡ b) × (m ≡ n) × (o ≡ u)
step_determined s inbox outbox a b m n o u p q =
    (determined a b p.answers q.answers, p.node ∙ sym q.node, p.outbox_is ∙ sym q.outbox_is)

pub never_9 : (s : Node) (inbox : List ℕ) (room : ℕ) → kept_most * (s.n - 1) * record_most ≤ room → step_number s inbox room ≢ 9
unfolding step_number
never_9 s inbox room h e = go (sound_node s) refl (in_rounds s) refl (well_cut s.n inbox) refl
  where
    go : (a : Bool) → sound_node s ≡ a → (b : Bool) → in_rounds s ≡ b → (c : Bool) → well_cut s.n inbox ≡ c → ⊥
    go true p true q true r =
        let l = le-leb (length (message_bytes (passed_by s inbox))) room (omega (arith, passed_by_most s inbox (sound_sizes s p).node)) in
        let z : ◌≡◌ {A = ℕ} 0 9 = simp (p, q, r, l) at e in
        omega arith
    go true p true q false r = let z : ◌≡◌ {A = ℕ} 4 9 = simp (p, q, r) at e in omega arith
    go true p false q c r = let z : ◌≡◌ {A = ℕ} 3 9 = simp (p, q) at e in omega arith
    go false p b q c r = let z : ◌≡◌ {A = ℕ} 2 9 = simp p at e in omega arith
