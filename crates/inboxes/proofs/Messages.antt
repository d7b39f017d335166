-- What node j hands to node i is short, and what is put over the front is read back.
use Prim.Native.Nat.{ℕ, ◌≤◌}
use mathlib.Core.Path.{◌≡◌, refl, ap, ap₂, ◌∙◌}
use mathlib.Core.List.{List}
use native.Mathlib.Omega.{arith}
use lib.ListN.{length, take, drop, length-take, length-append}
use lib.Seq.{take_at}
use Rattle.std.proofs.lemmas.Bool.Decides.{nat_tests}
use Rattle.laws.specs.Parts.{onto}
use Rattle.wire.specs.Sizes.{message_most}
use Rattle.inboxes.specs.Inboxes.{message_to}
use Rattle.inboxes.specs.declared.Outbox.{Outbox}
use mathlib.Core.Logic.{◌≢◌}
use borrow.Author.Tests.{eq-eqb, ne_eqb}
use Rattle.laws.specs.Masks.{bit}
use Rattle.contents.specs.Contents.{message_for}
use Rattle.inboxes.specs.Inboxes.{given_in}

module _ (s : List ℕ) (faulty r i j : ℕ) (o : Outbox) where
  abbrev m : List ℕ
  m = message_to s faulty r i j o

  -- what a faulty node is said to send is put where it is a message
  pub from_faulty : j ≢ i → bit faulty j ≡ 1 → m ≡ given_in (message_for s r j i)
  from_faulty h e = simp (ne_eqb j i h, eq-eqb (bit faulty j) 1 e)

  pub short : length m ≤ message_most
  short = grind (arith, nat_tests, length-take {A = ℕ})

-- what was put over the front is read back whole
pub front_read : (w z after : List ℕ) (a : ℕ) → a ≡ length w → after ≡ onto w z → (a ≤ length after) × (take a after ≡ w)
front_read w z after a e f =
    (omega (arith, e, ap length f, length-append w (drop (length w) z)), ap₂ take e f ∙ take_at w (drop (length w) z) (length w) refl)
