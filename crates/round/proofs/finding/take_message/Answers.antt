-- Before each record: what takes up the votes of the rest takes up all. A record's vote changes what is found for its primary, if there is room and it is
-- wanted.
use Rattle.std.proofs.Common.{◌≡◌, ℕ, ◌<◌, List, [], ◌∷◌, length, length-drop, drop, sym, ap, subst, ◌∙◌, None, Ok, arith, rules}
use lib.Seq.{set-get_or}
use Rattle.laws.proofs.Lent.{rest_of}
use Rattle.node.proofs.Lists.{batch_read}
use Rattle.rules.specs.Vote.{Vote}
use Rattle.rules.specs.Step.{others}
use Rattle.rules.proofs.Sizes.{sized_most}
use Rattle.wire.specs.Record.{vote_of, batch_of}
use Rattle.wire.specs.Reader.{ReadRecord}
use Rattle.wire.proofs.Readings.{Told, vote_told, unreadable_told, readable_whole}
use Rattle.round.specs.Found.{Take}
use Rattle.round.proofs.Takes.{vote_left, vote_kept, vote_dropped}
use Rattle.round.proofs.Messages.{Reached, at_start, next_vote, at_end}
use Rattle.round.proofs.finding.take_message.Goals as goal
use Rattle.round.proofs.finding.take_message.Goals.{In-Ok-Some, then-has_room+then-wants, then-has_room+else-wants, else-has_room}

-- what the answer tells of the record
told : (c : In-Ok-Some) → let v = c.in-Ok-Some.vote in Told c.args.node.now.n c.loop-vote.rest.now v.primary v.mask v.count v.next
told c = vote_told _ _ _ (rw c.in-Ok-Some.field-0-is at c.in-Ok-Some.ensures)

-- a vote's primary is a node
below : (n : ℕ) (s : List ℕ) (p m k x : ℕ) → Told n s p m k x → p < 16
below n s p m k x t = omega (arith, t.primary, (readable_whole _ _ t.reads).primary, sized_most n t.nodes)

pub loop-vote-init : goal.loop-vote-init
loop-vote-init c = let a = c.args in at_start a.node.now.n a.node.now.me a.node.now.phase a.message.now a.found.now

pub offset_bounds-found-vote : goal.offset_bounds-found-vote
offset_bounds-found-vote c = let h = below _ _ _ _ _ _ (told c) in omega arith

pub bounds-found-vote : goal.bounds-found-vote
bounds-found-vote c = below _ _ _ _ _ _ (told c)

pub slice_bounds-rest-count : goal.slice_bounds-rest-count
slice_bounds-rest-count c =
    let t = told (goal.at.slice_bounds-rest-count c).In-Ok-Some in
    omega (arith, t.next, (readable_whole _ _ t.reads).all)

pub slice_bounds-rest-start : goal.slice_bounds-rest-start
slice_bounds-rest-start c =
    let t = told (goal.at.slice_bounds-rest-start c).In-Ok-Some in
    omega (arith, t.next, (readable_whole _ _ t.reads).all)

pub loop-vote-smaller : goal.loop-vote-smaller
loop-vote-smaller c =
    let s = c.loop-vote.rest.now in
    let x = c.in-Ok-Some.vote.next in
    let t = told (goal.at.loop-vote-smaller c).In-Ok-Some in
    omega (arith, ap length (rest_of s x), length-drop x s, t.next, (readable_whole _ _ t.reads).all)

pub loop-vote-preserved : goal.loop-vote-preserved
loop-vote-preserved c =
    let a = c.args in
    let l = c.loop-vote in
    let s = l.rest.now in
    let t = told (goal.at.loop-vote-preserved c).In-Ok-Some in
    let p = below _ _ _ _ _ _ t in
    let v : Vote = record { primary = c.in-Ok-Some.vote.primary; mask = c.in-Ok-Some.vote.mask; batch = batch_of s } in
    let says : v ≡ vote_of s = λ i. record { primary = t.primary i; mask = t.mask i; batch = batch_of s } in
    let room = c.has_room.ensures in
    let taken : Take a.node.now.phase l.found c.if-has_room.found (others a.node.now.me (v ∷ [])) =
    elim c.if-has_room.branch [
      | then-has_room+then-wants w ↦
          let b = w.batch_from-batch.ensures ∙ batch_read a.node.now.n s _ _ _ _ _ t w.batch_bytes.ensures.bytes in
          vote_kept a.node.now.me a.node.now.phase l.found _ v p c.if-has_room.found _ room w.if-has_room.true w.batch_from-batch.result b _ w.wants.ensures w.if-wants.true
          _ w.keep.ensures w.found-is
      | then-has_room+else-wants w ↦
          let b = w.batch_from-batch.ensures ∙ batch_read a.node.now.n s _ _ _ _ _ t w.batch_bytes.ensures.bytes in
          vote_dropped a.node.now.me a.node.now.phase l.found _ v p c.if-has_room.found _ room w.if-has_room.true w.batch_from-batch.result b _ w.wants.ensures w.if-wants.false
          (w.found-is ∙ set-get_or l.found _ _)
      | else-has_room w ↦ vote_left a.node.now.me a.node.now.phase l.found _ v p c.if-has_room.found _ room w.if-has_room.false (w.found-is ∙ set-get_or l.found _ _)
    ] in
    let next = next_vote a.node.now.n a.node.now.me a.node.now.phase a.message.now a.found.now l.found s l.invariant t.reads c.if-has_room.found
    (subst (λ (u : Vote). Take a.node.now.phase l.found c.if-has_room.found (others a.node.now.me (u ∷ []))) says taken) in
    subst (Reached a.node.now.n a.node.now.me a.node.now.phase a.message.now a.found.now c.if-has_room.found)
    (sym (rest_of s c.in-Ok-Some.vote.next ∙ ap (λ (j : ℕ). drop j s) t.next)) next

pub returns-in_default : goal.returns-in_default
returns-in_default c =
    let a = c.args in
    let none : c.in_default.field-0 ≡ None = search rules in
    at_end a.node.now.n a.node.now.me a.node.now.phase a.message.now a.found.now _ _ c.loop-vote.invariant
    (λ nodes. (unreadable_told _ _ (subst (ReadRecord a.node.now.n c.loop-vote.rest.now) (c.in_default.is ∙ ap Ok none) c.read_record.ensures)).1)
