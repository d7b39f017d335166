-- What is told of a schedule: a bad line is short, and what was played is what the report asks for: the nodes after the last round, and who is faulty.
use Prim.Native.Nat.{ℕ, zero, suc, ◌+◌, ◌^◌, ◌≤◌, ◌<◌}
use mathlib.Core.Path.{◌≡◌, refl, sym, ap, subst, ◌∙◌}
use mathlib.Core.Bool.{Bool, true, false}
use mathlib.Core.List.{List}
use native.Mathlib.Nat.{le_trans}
use native.Mathlib.Numerals.{add-one}
use native.Mathlib.Omega.{arith}
use borrow.Author.Tests.{leb-true, lt-ltb}
use lib.Dec.{leb}
use lib.ListN.{length}
use Rattle.std.specs.Prelude.{Result, Ok, Err}
use Rattle.std.specs.Result.{result_unwrap_or}
use Rattle.rules.specs.declared.refusal.Refusal.{Refusal}
use Rattle.rules.specs.Refusals.{if_done}
use Rattle.outcome.proofs.Answered.{answered_or}
use Rattle.laws.specs.Masks.{mask_of}
use Rattle.node.specs.State.{node_at}
use Rattle.laws.proofs.Bits.{mask_tells}
use Rattle.rules.specs.Sizes.{nodes_most}
use Rattle.rules.proofs.Gathered.{each_at}
use Rattle.rules.proofs.Sizes.{sized_most}
use Rattle.node.specs.declared.Node.{Node}
use Rattle.agreement.specs.Hall.{Hall, node_after}
use Rattle.text.specs.Put.{Put}
use Rattle.print.specs.Texts.{decimal_of}
use Rattle.schedule.specs.Forms.{form_of}
use Rattle.header.specs.declared.Header.{Header}
use Rattle.header.specs.declared.BadLine.{BadLine}
use Rattle.contents.specs.Contents.{is_faulty}
use Rattle.contents.proofs.Faults.{mask_held}
use Rattle.contents.proofs.Good.{good_header, good_sizes}
use Rattle.standing.specs.Standing.{correct, node_before, standing, stood_at}
use Rattle.standing.specs.Run.{hall_of}
use Rattle.played.specs.Playing.{breach, played_as, played_to, played_of}
use Rattle.outcome.specs.Signing.{has_bit}
use Rattle.report.specs.Report.{report_of, text_most, Reports}
use Rattle.report.proofs.Printing.{put_writes, writes_as}
use Rattle.print.proofs.Lengths.{decimal_bound, line_length}
use Rattle.report.proofs.Alike.{same_nodes}
use Rattle.rehearsal.specs.Rehearsal.{bad_key, bad_text, played_text, form_text, rehearsal_of, rehearsal_number, Rehearse}
use Rattle.rehearsal.specs.Telling.{Tells}

-- ---- a bad line

-- its number is a machine's word
pub bad_tells : (k : ℕ) (w text : List ℕ) (r : ℕ) (after : List ℕ) → k < 2 ^ 64 → w ≡ bad_text k → Put (bad_text k) text r after → Tells w text r after
bad_tells k w text r after l e p = record {
  writes = writes_as (bad_text k) w text r after (sym e) (put_writes (bad_text k) text r after p);
  most = subst (λ (x : List ℕ). length x ≤ text_most) (sym e) (omega (arith, line_length bad_key (decimal_of k), decimal_bound 19 k (omega arith)));
}

-- ---- what was played

module _ (s : List ℕ) (h : Header) (good : form_of s ≡ Ok h) where
  abbrev n : ℕ
  n = h.n

  abbrev f : ℕ
  f = h.f

  abbrev hall : Hall
  hall = hall_of s n f

  is_played : played_of s ≡ played_to hall (breach s n f)
  unfolding played_as
  is_played = ap (played_as s) good

  is_told : rehearsal_of s ≡ played_text s n f (breach s n f)
  unfolding form_text
  is_told = ap (form_text s) good

  -- the first send that breaks the rule
  pub broken : (line : BadLine) → Err line ≡ played_of s → rehearsal_of s ≡ bad_text line.0
  unfolding played_text played_to
  broken line e = is_told ∙ go (breach s n f) (e ∙ is_played)
    where
      go : (k : ℕ) → Err line ≡ played_to hall k → played_text s n f k ≡ bad_text line.0
      go zero q = cc
      go (suc k) q = ap bad_text (let z : line ≡ record { 0 = suc k } = cc in ap (λ (x : BadLine). x.0) (sym z))

  -- ---- the nodes after the last round

  module _ (nodes : List Node) (e : Ok nodes ≡ played_of s) where
    none_breaks : (breach s n f ≡ 0) × (nodes ≡ (standing hall (suc (suc hall.f))).nodes)
    unfolding played_to
    none_breaks = go (breach s n f) (e ∙ is_played)
      where
        go : (k : ℕ) → Ok nodes ≡ played_to hall k → (k ≡ 0) × (nodes ≡ (standing hall (suc (suc hall.f))).nodes)
        go zero q = (refl, cc)
        go (suc k) q = cc

    abbrev handed : ℕ → Node
    handed i = node_at nodes i

    within : (i : ℕ) → i < n → i < nodes_most
    within i l = le_trans l (sized_most n (good_sizes s h good).0)

    same_node : (i : ℕ) → i < n → handed i ≡ (stood_at hall (suc (suc f)) i).node
    same_node i l = ap (λ (ns : List Node). node_at ns i) none_breaks.1 ∙ each_at (λ (j : ℕ). (stood_at hall (suc (suc f)) j).node) _ nodes_most i (within i l)

    node_is : (i : ℕ) → i < n → is_faulty s i ≡ false → node_after hall i (f + 1) ≡ handed i
    unfolding node_before
    node_is i l q =
        let fine : correct hall i ≡ true = simp (lt-ltb i n l, q) in
        let stands : (stood_at hall (suc (suc f)) i).node ≡ node_after hall i (suc f) = simp fine in
        ap (node_after hall i) (add-one f) ∙ sym (same_node i l ∙ stands)

    mask_is : h.faulty ≡ mask_of (is_faulty s) nodes_most
    mask_is = ap (λ (x : Header). x.faulty) (sym (good_header s h good)) ∙ mask_held s

    faulty_is : (j : ℕ) → j < n → is_faulty s j ≡ has_bit h.faulty j
    faulty_is j l = sym (ap (λ (m : ℕ). has_bit m j) mask_is ∙ mask_tells (is_faulty s) nodes_most j (within j l))

    reported : rehearsal_of s ≡ report_of n f (has_bit h.faulty) (node_at nodes)
    unfolding played_text
    reported =
        is_told ∙ ap (played_text s n f) none_breaks.0
        ∙ same_nodes n (is_faulty s) (has_bit h.faulty) faulty_is (λ (i : ℕ). node_after hall i (f + 1)) handed node_is f

    pub report_tells : (text : List ℕ) (r : ℕ) (after : List ℕ) → Reports n f h.faulty nodes text r after → Tells (rehearsal_of s) text r after
    report_tells text r after w =
        let sizes = good_sizes s h good in
        let few : n ≤ nodes_most = sized_most n sizes.0 in
        record {
          writes = writes_as _ (rehearsal_of s) text r after (sym reported) (w.writes few);
          most = subst (λ (x : List ℕ). length x ≤ text_most) (sym reported) (w.most few (omega (arith, sizes.1)));
        }

-- ---- a bad line of the form

pub bad_form : (s : List ℕ) (line : BadLine) → Err line ≡ form_of s → rehearsal_of s ≡ bad_text line.0
unfolding form_text
bad_form s line e = ap (form_text s) (sym e)

-- no more is told than there is room for
pub told_within : (s output : List ℕ) (answer : Result ℕ Refusal) (after : List ℕ) → Rehearse s output answer after → result_unwrap_or answer 0 ≤ length output
told_within s output answer after p = go (leb (length (rehearsal_of s)) (length output)) refl
  where
    value : result_unwrap_or answer 0 ≡ if_done (rehearsal_number s (length output)) (length (rehearsal_of s)) 0
    value = answered_or (rehearsal_number s (length output)) (length (rehearsal_of s)) 0 answer p.answers

    go : (b : Bool) → leb (length (rehearsal_of s)) (length output) ≡ b → result_unwrap_or answer 0 ≤ length output
    go true e = let q : result_unwrap_or answer 0 ≡ length (rehearsal_of s) = value ∙ simp e in omega (arith, leb-true (length (rehearsal_of s)) (length output) e)
    go false e = let q : result_unwrap_or answer 0 ≡ 0 = value ∙ simp e in omega arith

-- ---- a schedule of good form is told by what its run comes to

pub good_told : (s text : List ℕ) (r : ℕ) (after : List ℕ) (h : Header) → form_of s ≡ Ok h
    → Tells (played_text s h.n h.f (breach s h.n h.f)) text r after → Tells (rehearsal_of s) text r after
good_told s text r after h e t = subst (λ (w : List ℕ). Tells w text r after) (sym (is_told s h e)) t

-- one of bad form by its line
pub bad_told : (s text : List ℕ) (r : ℕ) (after : List ℕ) (line : BadLine) → form_of s ≡ Err line → line.0 < 2 ^ 64
    → Put (bad_text line.0) text r after → Tells (rehearsal_of s) text r after
bad_told s text r after line e l p = bad_tells line.0 (rehearsal_of s) text r after l (bad_form s line (sym e)) p
