-- No send, one that does not fit, or one that does.
use Rattle.std.proofs.Common.{◌∙◌, Option, ap, arith, sym, unwrap_or, ℕ}
use Rattle.schedule.proofs.Fits.{fits_told, none_told, rank_fit, rank_none, rank_unfit, sent_told}
use Rattle.schedule.proofs.sends.send_rank.Goals as goal

pub returns-in_err-send : goal.returns-in_err-send
returns-in_err-send c =
    ap (λ (o : Option ℕ). unwrap_or o 0) c.from_residual.ensures ∙ rank_none c.args.h _ (none_told _ c.in_err-send.ensures)

pub returns-then-not-is_fitting : goal.returns-then-not-is_fitting
returns-then-not-is_fitting c =
    let a = c.args in
    let t = sent_told a.line.now _ c.in_ok-send.ensures in
    rank_unfit a.h _ _ t.is (sym (fits_told a.h a.line.now _ _ _ _ _ c.message_text.ensures c.hex_size.ensures) ∙ sym c.is_fitting.ensures
    ∙ c.if-not-is_fitting.true)

pub overflow_mul-result : goal.overflow_mul-result
overflow_mul-result c = let t = sent_told c.args.line.now _ c.in_ok-send.ensures in omega (arith, t.round, t.from, t.to)

pub overflow_add-result : goal.overflow_add-result
overflow_add-result c = let t = sent_told c.args.line.now _ c.in_ok-send.ensures in omega (arith, t.round, t.from, t.to)

pub overflow_mul-result-2 : goal.overflow_mul-result-2
overflow_mul-result-2 c = let t = sent_told c.args.line.now _ c.in_ok-send.ensures in omega (arith, t.round, t.from, t.to)

pub overflow_add-result-2 : goal.overflow_add-result-2
overflow_add-result-2 c = let t = sent_told c.args.line.now _ c.in_ok-send.ensures in omega (arith, t.round, t.from, t.to)

pub returns : goal.returns
returns c =
    let a = c.args in
    let t = sent_told a.line.now _ c.in_ok-send.ensures in
    rank_fit a.h _ _ t.is (sym (fits_told a.h a.line.now _ _ _ _ _ c.message_text.ensures c.hex_size.ensures) ∙ sym c.is_fitting.ensures
    ∙ c.if-not-is_fitting.false)
