-- Text written after text, and lines after lines.
use Prim.Native.Nat.{ℕ, ◌+◌, ◌-◌, ◌≤◌}
use mathlib.Core.Path.{◌≡◌, refl, sym, ap, subst, ◌∙◌}
use mathlib.Core.Bool.{Bool, true, false, cond}
use mathlib.Core.List.{List, [], ◌∷◌, ◌++◌, append_assoc, append-nil}
use native.Mathlib.Numerals.{add-one}
use native.Mathlib.Omega.{arith}
use borrow.Author.Tests.{le-leb, leb-true}
use lib.ListN.{length, take, drop, length-append, length-drop}
use lib.Seq.{length-take-le}
use Rattle.laws.proofs.Lent.{comes_back}
use Rattle.rules.specs.Step.{gather}
use Rattle.print.specs.Texts.{line_text}
use Rattle.text.specs.Put.{room_for, Put}
use Rattle.outcome.specs.Signing.{has_bit}
use Rattle.report.specs.Lines.{Line, lines_text, node_lines, all_lines}
use Rattle.report.specs.Report.{Writes}

-- ---- text after text

pub put_writes : (w text : List ℕ) (r : ℕ) (after : List ℕ) → Put w text r after → Writes w text r after
put_writes w text r after p = record {
  within = go (room_for w text) refl;
  answers = λ h. p.answers ∙ simp (le-leb _ _ h);
  leaves = λ h. p.leaves ∙ simp (le-leb _ _ h);
}
  where
    go : (b : Bool) → room_for w text ≡ b → r ≤ length text
    go true e =
        let a : r ≡ length w = p.answers ∙ simp e in
        omega (arith, leb-true (length w) (length text) e)
    go false e =
        let a : r ≡ 0 = p.answers ∙ simp e in
        omega arith

-- the same text by another name
pub writes_as : (v w text : List ℕ) (r : ℕ) (after : List ℕ) → v ≡ w → Writes v text r after → Writes w text r after
writes_as v w text r after e h = subst (λ x. Writes x text r after) e h

pub writes_none : (text : List ℕ) → Writes [] text 0 text
writes_none text = record { within = omega arith; answers = λ h. refl; leaves = λ h. refl }

-- v is written, the rest of the text is lent, and w is written over the front of that
module _ (v w text : List ℕ) (a : ℕ) (part : List ℕ) (p : Writes v text a part) (size : length part ≡ length text) (b : ℕ) (y : List ℕ)
    (q : Writes w (take (length part - a) (drop a part)) b y) where
  rest : length (take (length part - a) (drop a part)) ≡ length text - a
  rest = length-take-le (length part - a) (drop a part) (omega (arith, length-drop a part)) ∙ omega (arith, size)

  pub sum_within : a + b ≤ length text
  sum_within = omega (arith, p.within, q.within, rest)

  pub writes_both : Writes (v ++ w) text (a + b) (take a part ++ (y ++ drop (length part - a) (drop a part)))
  writes_both = record {
    within = sum_within;
    answers = λ h. omega (arith, first h, second h, length-append v w);
    leaves = λ h.
        comes_back v w text part y a (sym (first h)) p.within (p.leaves (fits h) ∙ ap (λ (k : ℕ). v ++ drop k text) (sym (first h))) (q.leaves (more h))
        ∙ ap (λ (k : ℕ). (v ++ w) ++ drop k text) (written h);
  }
    where
      fits : length (v ++ w) ≤ length text → length v ≤ length text
      fits h = omega (arith, length-append v w)

      first : length (v ++ w) ≤ length text → a ≡ length v
      first h = p.answers (fits h)

      more : length (v ++ w) ≤ length text → length w ≤ length (take (length part - a) (drop a part))
      more h = omega (arith, first h, length-append v w, rest)

      written : length (v ++ w) ≤ length text → a + length w ≡ length (v ++ w)
      written h = omega (arith, first h, length-append v w)

      second : length (v ++ w) ≤ length text → b ≡ length w
      second h = q.answers (more h)

-- ---- lines after lines

pub lines_append : (ls ms : List Line) → lines_text (ls ++ ms) ≡ lines_text ls ++ lines_text ms
unfolding lines_text
lines_append [] ms = refl
lines_append (l ∷ ls) ms = ap (λ (s : List ℕ). line_text l.key l.value ++ s) (lines_append ls ms) ∙ sym
    (append_assoc (line_text l.key l.value) (lines_text ls) (lines_text ms))

pub two_lines : (l m : Line) → line_text l.key l.value ++ line_text m.key m.value ≡ lines_text (l ∷ m ∷ [])
unfolding lines_text
two_lines l m = ap (λ (s : List ℕ). line_text l.key l.value ++ s) (sym (append-nil (line_text m.key m.value)))

pub three_lines : (l m k : Line) → (line_text l.key l.value ++ line_text m.key m.value) ++ line_text k.key k.value ≡ lines_text (l ∷ m ∷ k ∷ [])
unfolding lines_text
three_lines l m k =
    append_assoc (line_text l.key l.value) (line_text m.key m.value) (line_text k.key k.value)
    ∙ ap (λ (s : List ℕ). line_text l.key l.value ++ (line_text m.key m.value ++ s)) (sym (append-nil (line_text k.key k.value)))

-- nothing of a faulty node is printed, of a correct one its lines
pub faulty_prints_none : (faulty i : ℕ) (ls : List Line) → has_bit faulty i ≡ true → [] ≡ lines_text (cond (has_bit faulty i) [] ls)
unfolding lines_text
faulty_prints_none faulty i ls e = simp e

pub correct_prints : (faulty i : ℕ) (ls : List Line) → has_bit faulty i ≡ false → lines_text ls ≡ lines_text (cond (has_bit faulty i) [] ls)
correct_prints faulty i ls e = simp e

-- the lines of the nodes below i, and of node i
module _ (t : ℕ → Bool) (log signers : ℕ → List ℕ) where
  pub no_nodes_lem : lines_text (all_lines t log signers 0) ≡ []
  unfolding lines_text all_lines gather
  no_nodes_lem = refl

  pub node_after_lem : (i : ℕ) → lines_text (all_lines t log signers i) ++ lines_text (cond (t i) [] (node_lines i (log i) (signers i))) ≡ lines_text (all_lines t log signers (i + 1))
  unfolding all_lines gather
  node_after_lem i = sym (lines_append (all_lines t log signers i) (cond (t i) [] (node_lines i (log i) (signers i)))) ∙ ap
      (λ (k : ℕ). lines_text (all_lines t log signers k)) (sym (add-one i))
