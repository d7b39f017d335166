-- The message goes after the two bytes of its length.
use mathlib.Core.Path.{ap, ◌∙◌}
use mathlib.Core.List.{List, ◌++◌}
use Prim.Native.Nat.{ℕ}
use native.Mathlib.Omega.{arith}
use Rattle.laws.specs.Parts.{onto}
use Rattle.inboxes.specs.Inboxes.{message_to}
use Rattle.inboxes.proofs.Copies.{slot_length, one_slot}
use Rattle.inboxes.proofs.Post.put_slot.Goals as goal

pub returns : goal.returns
returns c =
    let p = c.args.self.now in
    let m = message_to p.s.now p.header.faulty p.r p.i c.args.j c.args.its.now in
    let e = c.put_message-size.ensures in (
      omega (arith, e.0, slot_length m),
      ap (λ (t : List ℕ). t ++ c.put_message-size.new.output) (c.copy_from_slice.ensures.after ∙ c.to_le_bytes.ensures)
          ∙ one_slot c.args.output.now _ m _ (omega arith) e.0 (e.1 ∙ ap (onto m) c.split_at_mut-length.ensures.back),
    )
