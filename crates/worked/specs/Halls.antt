-- What the tests hand over and expect: nodes by their parts, inboxes of three.
use Rattle.std.specs.Prelude.{ℕ, zero, suc, List, [], ◌∷◌, ◌++◌, Result, Ok}
use Rattle.rules.specs.declared.refusal.Refusal.{Refusal}
use Rattle.rules.specs.Vote.{Batch}
use Rattle.node.specs.State.{node_of}
use Rattle.node.specs.declared.Node.{Node}
use Rattle.step.specs.declared.Stepped.{Stepped}
use Rattle.entries.specs.Fields.{entry}

-- the answer of a step that is done
abbrev pub stepped : (length unreadable : ℕ) → Result Stepped Refusal
stepped length unreadable = Ok (record { length = length; unreadable = unreadable })

-- ---- a node alone: n = 1, f = 0

-- in this phase, with these entries of its own
abbrev pub alone : (phase : ℕ) (own : Batch) → Node
alone phase own = node_of 1 0 0 phase own (λ p. [])

-- ---- node 1 of three, of which one may be faulty

-- what it opens with: 1.5.40
abbrev pub own : Batch
own = entry 1 5 40 ∷ []

-- these batches are kept for primary 0, nothing for others
abbrev pub for0 : List Batch → ℕ → List Batch
for0 kept zero = kept
for0 kept (suc p) = []

-- in this phase, opened, with these batches kept for primary 0
abbrev pub keeping : (phase : ℕ) (kept : List Batch) → Node
keeping phase kept = node_of 3 1 1 phase own (for0 kept)

-- an inbox of three: sender 0 says so many bytes, the others are silent
abbrev pub from0 : (size : ℕ) (message : List ℕ) → List ℕ
from0 size message = size ∷ 0 ∷ (message ++ (0 ∷ 0 ∷ 0 ∷ 0 ∷ []))

abbrev pub silence : List ℕ
silence = 0 ∷ 0 ∷ 0 ∷ 0 ∷ 0 ∷ 0 ∷ []
