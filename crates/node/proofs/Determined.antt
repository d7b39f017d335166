-- Any two outcomes that keep a promise are equal: the promise says what each part of the outcome is.
use Rattle.std.proofs.Common.{ℕ, ◌≡◌, List, Result, sym, ◌∙◌}
use Rattle.rules.specs.declared.refusal.Refusal.{Refusal}
use Rattle.rules.proofs.Answers.{determined}
use Rattle.tray.specs.declared.Tray.{Tray}
use Rattle.node.specs.State.{New}
use Rattle.node.specs.Opening.{Open}
use Rattle.node.specs.declared.Node.{Node}

pub new_determined : (n f me : ℕ) (a b : Result Node Refusal) → New n f me a → New n f me b → a ≡ b
new_determined n f me a b p q = determined a b p q

pub open_determined : (s : Node) (t : Tray) (outbox : List ℕ) (a b : Result ℕ Refusal) (x y : Node) (o u : List ℕ)
    → Open s t outbox a x o → Open s t outbox b y u → (a ≡ b) × (x ≡ y) × (o ≡ u)
open_determined s t outbox a b x y o u p q = (determined a b p.answers q.answers, p.node_is ∙ sym q.node_is, p.outbox_is ∙ sym q.outbox_is)
