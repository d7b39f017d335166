-- Before turn j the mask is that of the signers among 0 to j - 1.
use Rattle.std.proofs.Common.{ℕ, ◌+◌, ◌*◌, ◌/◌, ◌%◌, ◌^◌, ◌≡◌, ◌<◌, Bool, [], length, ◌∙◌, refl, arith}
use Rattle.laws.specs.Masks.{as_bit, mask_of}
use Rattle.laws.proofs.Bits.{shifted_bit, mask_turn, mask_fits}
use Rattle.rules.specs.Sizes.{nodes_most}
use Rattle.rules.specs.Signers.{signer, signers_of}
use Rattle.signing.specs.Slots.{slot_size, slot_of}
use mir.Val.{bool_byte}
use Rattle.signing.proofs.Slots.{signs_there}
use Rattle.signing.proofs.count.signers_mask.Goals as goal

pub loop-j-init : goal.loop-j-init
unfolding mask_of
loop-j-init c = refl

-- the bit of a turn, which joins those before it
turn : (t : ℕ → Bool) (j mask byte : ℕ) (b : Bool) → j < nodes_most → mask ≡ mask_of t j → byte ≡ bool_byte b → b ≡ t j
    → (mask + byte * 2 ^ j % 2 ^ 16 < 2 ^ 16) × (mask + byte * 2 ^ j % 2 ^ 16 ≡ mask_of t (j + 1))
turn t j mask byte b h m q e =
    let bit : byte * 2 ^ j % 2 ^ 16 ≡ as_bit (t j) * 2 ^ j = rw q (shifted_bit b (t j) j nodes_most h e) in
    (mask_fits nodes_most t j mask _ m bit h, mask_turn nodes_most t j mask _ m bit)

pub overflow_add-mask : goal.overflow_add-mask
overflow_add-mask c =
    let a = c.args in
    let l = c.loop-j in
    let there = signs_there a.me a.mark.now a.slots.now c.as_chunks.result.0.now c.as_chunks.ensures.front l.j [] (omega arith) in
    omega (arith, (turn (signer a.me a.mark.now (slot_of a.slots.now)) l.j l.mask c.from.result c.is_signer.result (omega arith) l.invariant c.from.ensures (c.is_signer.ensures ∙ there)).0)

pub loop-j-preserved : goal.loop-j-preserved
loop-j-preserved c =
    let a = c.args in
    let l = c.loop-j in
    let there = signs_there a.me a.mark.now a.slots.now c.as_chunks.result.0.now c.as_chunks.ensures.front l.j [] (omega arith) in
    (turn (signer a.me a.mark.now (slot_of a.slots.now)) l.j l.mask c.from.result c.is_signer.result (omega arith) l.invariant c.from.ensures (c.is_signer.ensures ∙ there)).1

pub returns : goal.returns
unfolding signers_of
returns c =
    let a = c.args in
    let all : c.loop-j.j ≡ length a.slots.now / slot_size = omega arith in
    rw all at c.loop-j.invariant
