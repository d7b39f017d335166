-- The bytes of the pairs so far are written; the digits that are left say the rest.
use Rattle.std.proofs.Common.{◌∙◌, ap, arith, sym}
use Rattle.text.proofs.Pairs.{hex_byte, hex_done, hex_high, hex_low, hex_turn, hexed_start, some_there}
use Rattle.text.proofs.hex.pairs_into.Goals as goal

pub loop-i-init : goal.loop-i-init
loop-i-init c =
    let e = c.into_iter-i-iterator.ensures.into_iter_gives in
    let source = ap (λ it. it.iter) e ∙ c.enumerate-i-items.ensures.source in
    record {
      hexed = hexed_start _ _ _ _ (ap (λ it. it.count) e ∙ c.enumerate-i-items.ensures.count) (ap (λ it. it.rest.now) source ∙ c.chunks_exact.ensures.rest)
          c.requires.0 c.requires.1;
      two = ap (λ it. it.size) source ∙ c.chunks_exact.ensures.size;
    }

pub unwrap-high-requires : goal.unwrap-high-requires
unwrap-high-requires c =
    let l = c.loop-i in let t = c.in-Some.ensures.steps in
    some_there (c.digit.ensures ∙ hex_high _ _ _ _ _ l.invariant.hexed _ _ t.0.1.0 (t.0.1.1 ∙ l.invariant.two))

pub unwrap-low-requires : goal.unwrap-low-requires
unwrap-low-requires c =
    let l = c.loop-i in let t = c.in-Some.ensures.steps in
    some_there (c.digit-in-loop-i.ensures ∙ hex_low _ _ _ _ _ l.invariant.hexed _ _ t.0.1.0 (t.0.1.1 ∙ l.invariant.two))

pub overflow_cast-output : goal.overflow_cast-output
overflow_cast-output c =
    let l = c.loop-i in let t = c.in-Some.ensures.steps in
    omega (
      arith,
      hex_byte _ _ _ _ _ l.invariant.hexed _ _ t.0.1.0 (t.0.1.1 ∙ l.invariant.two) c.unwrap-high.result c.unwrap-low.result
          (sym c.digit.ensures ∙ c.unwrap-high.ensures) (sym c.digit-in-loop-i.ensures ∙ c.unwrap-low.ensures),
    )

pub loop-i-preserved : goal.loop-i-preserved
loop-i-preserved c =
    let l = c.loop-i in let t = c.in-Some.ensures.steps in
    record {
      hexed = rw (t.1, t.2) (hex_turn _ _ _ _ _ l.invariant.hexed _ _ t.0.1.0 (t.0.1.1 ∙ l.invariant.two) _ _
          (sym c.digit.ensures ∙ c.unwrap-high.ensures) (sym c.digit-in-loop-i.ensures ∙ c.unwrap-low.ensures));
      two = t.0.0 ∙ l.invariant.two;
    }

pub returns : goal.returns
returns c =
    let l = c.loop-i in
    hex_done _ _ _ _ _ l.invariant.hexed (omega (arith, l.invariant.two, c.in-None.ensures.steps.0.1.0))
