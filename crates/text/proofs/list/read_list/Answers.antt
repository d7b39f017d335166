-- The items of the parts so far, and the part that is read next, decide what the whole list is.
use Rattle.std.proofs.Common.{Some, [], ◌∙◌, ap, arith, eqb, refl, rules, sym, tests, ℕ}
use Rattle.std.proofs.lemmas.Iterator.Consumers.{YieldsList-at, YieldsList-end, YieldsList-turn}
use Rattle.std.proofs.lemmas.Iterator.Splits.{YieldsList-from_slice_split}
use Rattle.std.proofs.lemmas.List.{length-append}
use borrow.Author.Tests.{eqb-false, eqb-true}
use Rattle.text.specs.Lists.{listed_as}
use Rattle.text.specs.Places.{comma}
use Rattle.text.proofs.Commas.{going_start, item_bad, item_full, item_low, item_next, items_end, listed_is, none_listed, no_items}
use Rattle.text.proofs.list.read_list.Goals.{then-count-eq-BATCH_MOST-via-then-count-eq-BATCH_MOST, then-count-eq-BATCH_MOST-via-else-count-eq-BATCH_MOST+then-not-follows}
use Rattle.text.proofs.list.read_list.Goals as goal

pub returns-then-is_empty : goal.returns-then-is_empty
returns-then-is_empty c =
    ap Some c.none.ensures
    ∙ listed_is [] _ 0 refl refl ∙ ap listed_as (sym (no_items c.args.kind c.args.s.now (eqb-true _ _ (sym c.if-is_empty.ensures))))

pub loop-part-init : goal.loop-part-init
loop-part-init c = going_start c.args.kind c.args.s.now

pub returns-in_err-x : goal.returns-in_err-x
returns-in_err-x c =
    let t = YieldsList-turn (YieldsList-at c.into_iter-part-iterator.ensures.into_iter_gives (YieldsList-from_slice_split _ (λ (b : ℕ). eqb b comma) c.args.s.now
    c.split-part-items.ensures.rest c.split-part-items.ensures.done c.split-part-items.ensures.closure (λ x b q k. search (rules, tests))))
    c.loop-part.yielded _ c.loop-part.yielded_by _ _ c.in-Some.part c.in-Some.is c.next.ensures.steps in
    let h = eqb-false _ _ (sym c.if-is_empty.ensures) in
    c.from_residual.ensures ∙ none_listed (item_bad c.args.kind c.args.s.now _ _ _ _ c.loop-part.invariant h c.in-Some.part.now t.0 t.1 (sym c.in_err-x.ensures))

pub returns-then-count-eq-BATCH_MOST : goal.returns-then-count-eq-BATCH_MOST
returns-then-count-eq-BATCH_MOST c =
    let t = YieldsList-turn (YieldsList-at c.into_iter-part-iterator.ensures.into_iter_gives (YieldsList-from_slice_split _ (λ (b : ℕ). eqb b comma) c.args.s.now
    c.split-part-items.ensures.rest c.split-part-items.ensures.done c.split-part-items.ensures.closure (λ x b q k. search (rules, tests))))
    c.loop-part.yielded _ c.loop-part.yielded_by _ _ c.in-Some.part c.in-Some.is c.next.ensures.steps in
    let h = eqb-false _ _ (sym c.if-is_empty.ensures) in
    none_listed (elim c.then-count-eq-BATCH_MOST.branch [
      | then-count-eq-BATCH_MOST-via-then-count-eq-BATCH_MOST w ↦ item_full c.args.kind c.args.s.now _ _ _ _ c.loop-part.invariant h c.in-Some.part.now t.0 t.1 w.if-count-eq-BATCH_MOST.true
      | then-count-eq-BATCH_MOST-via-else-count-eq-BATCH_MOST+then-not-follows w ↦
          item_low c.args.kind c.args.s.now _ _ _ _ c.loop-part.invariant h c.in-Some.part.now t.0 t.1 _ (sym c.in_ok-x.ensures) (sym w.follows.ensures ∙ w.if-not-follows.true)
    ])

pub bounds-entries-count : goal.bounds-entries-count
bounds-entries-count c = let f = c.loop-part.invariant.few in omega arith

pub loop-part-preserved : goal.loop-part-preserved
loop-part-preserved c =
    let t = YieldsList-turn (YieldsList-at c.into_iter-part-iterator.ensures.into_iter_gives (YieldsList-from_slice_split _ (λ (b : ℕ). eqb b comma) c.args.s.now
    c.split-part-items.ensures.rest c.split-part-items.ensures.done c.split-part-items.ensures.closure (λ x b q k. search (rules, tests))))
    c.loop-part.yielded _ c.loop-part.yielded_by _ _ c.in-Some.part c.in-Some.is c.next.ensures.steps in
    let h = eqb-false _ _ (sym c.if-is_empty.ensures) in
    let f = c.loop-part.invariant.few in
    rw (length-append c.loop-part.yielded _) (item_next c.args.kind c.args.s.now _ _ _ _ c.loop-part.invariant h c.in-Some.part.now t.0 t.1 _ (sym c.in_ok-x.ensures) (omega arith)
    (sym c.follows.ensures ∙ c.if-not-follows.false))

pub returns : goal.returns
returns c =
    let t = YieldsList-end (YieldsList-at c.into_iter-part-iterator.ensures.into_iter_gives (YieldsList-from_slice_split _ (λ (b : ℕ). eqb b comma) c.args.s.now
    c.split-part-items.ensures.rest c.split-part-items.ensures.done c.split-part-items.ensures.closure (λ x b q k. search (rules, tests))))
    c.loop-part.yielded _ c.loop-part.yielded_by _ _ c.in-None.is c.next.ensures.steps in
    items_end _ _ _ _ _ _ c.loop-part.invariant (eqb-false _ _ (sym c.if-is_empty.ensures)) t.1
