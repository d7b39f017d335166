-- The bytes are gone over as `all` does.
use Rattle.std.proofs.Common.{is_some, rules, sym, tests, ◌∙◌, ℕ}
use Rattle.std.proofs.lemmas.Iterator.{YieldsList-from_slice}
use Rattle.std.proofs.lemmas.Iterator.Search.{all_from_yields_List}
use Rattle.text.specs.Numbers.{digit_in}
use Rattle.text.proofs.Digits.{digits_all}
use Rattle.text.proofs.hex.are_digits.Goals as goal

pub returns : goal.returns
returns c =
    all_from_yields_List (λ (b : ℕ). is_some (digit_in 16 b)) _ _ c.all.result c.all.ensures.ran (YieldsList-from_slice _ c.iter.ensures.rest)
    (λ x b q k. search (rules, tests))
    ∙ sym (digits_all 16 c.args.s.now)
