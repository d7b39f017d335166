-- As the kind says.
use Rattle.std.proofs.Common.{◌∙◌, ap, rules, sym, tests}
use Rattle.text.specs.Lists.{below_as, item_of}
use Rattle.text.specs.declared.Kind.{Kind}
use Rattle.text.proofs.Commas.{below_kept}
use Rattle.text.proofs.list.read_item.Goals as goal

pub returns-in-Below : goal.returns-in-Below
unfolding item_of
returns-in-Below c =
    below_kept c.in-Below.n _ (λ v b k. search (rules, tests)) _ _ c.filter.ensures
    ∙ ap (below_as c.in-Below.n) c.read_number.ensures
    ∙ ap (λ (k : Kind). item_of k c.args.s.now) (sym c.in-Below.is)

pub returns-in-Entry : goal.returns-in-Entry
unfolding item_of
returns-in-Entry c = c.read_entry.ensures ∙ ap (λ (k : Kind). item_of k c.args.s.now) (sym c.in-Entry.is)
