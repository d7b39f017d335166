-- Lines: a text is its first line and the lines of the rest.
use Prim.Native.Nat.{◌+◌, ◌<◌, ◌≤◌, suc, ℕ}
use mathlib.Core.Bool.{Bool, cond, false, true}
use mathlib.Core.List.{List, [], ◌++◌, ◌∷◌}
use mathlib.Core.Path.{◌∙◌, ◌≡◌, ap, ap₂, refl, sym}
use native.Mathlib.Omega.{arith}
use borrow.Author.Tests.{le-ltb, lt-ltb, ltb-true}
use lib.Dec.{eqb, leb-suc-suc, ltb}
use lib.ListN.{drop, drop_of_length-le, get_or, length, length-drop, take}
use lib.Seq.{drop-drop, length-take-le}
use Rattle.text.specs.Lines.{line_len, lines_of}
use Rattle.text.specs.Lists.{ahead}
use Rattle.text.specs.Places.{lf, place_of}

-- the length of the first line, by where its LF stands
abbrev len_at : ℕ → ℕ → ℕ
len_at p l = cond (ltb p l) (p + 1) l

len_suc : (p l : ℕ) → len_at (suc p) (suc l) ≡ suc (len_at p l)
len_suc p l = ap (λ (t : Bool). cond t (suc p + 1) (suc l)) (leb-suc-suc (suc p) l) ∙ go (ltb p l)
  where
    go : (t : Bool) → cond t (suc p + 1) (suc l) ≡ suc (cond t (p + 1) l)
    go true = omega arith
    go false = refl

one : (b : ℕ) (t : Bool) → cond t ((b ∷ []) ∷ []) (ahead b []) ≡ take (len_at (cond t 0 1) 1) (b ∷ []) ∷ lines_of (drop (len_at (cond t 0 1) 1)
    (b ∷ []))
unfolding ahead lines_of
one b true = refl
one b false = refl

more : (b a : ℕ) (s : List ℕ) (p l : ℕ) (t : Bool) → lines_of (a ∷ s) ≡ take (len_at p l) (a ∷ s) ∷ lines_of (drop (len_at p l) (a ∷ s))
    → cond t ((b ∷ []) ∷ lines_of (a ∷ s)) (ahead b (lines_of (a ∷ s)))
    ≡ take (len_at (cond t 0 (suc p)) (suc l)) (b ∷ a ∷ s) ∷ lines_of (drop (len_at (cond t 0 (suc p)) (suc l)) (b ∷ a ∷ s))
unfolding ahead
more b a s p l true ih = let o : 0 < suc l = omega arith in simp (lt-ltb 0 (suc l) o)
more b a s p l false ih = ap (ahead b) ih ∙ ap (λ (k : ℕ). take k (b ∷ a ∷ s) ∷ lines_of (drop k (b ∷ a ∷ s))) (sym (len_suc p l))

lines_cons : (b : ℕ) (s : List ℕ) → lines_of (b ∷ s) ≡ take (line_len (b ∷ s)) (b ∷ s) ∷ lines_of (drop (line_len (b ∷ s)) (b ∷ s))
unfolding lines_of line_len place_of
lines_cons b [] = one b (eqb b lf)
lines_cons b (a ∷ s) = more b a s (place_of lf (a ∷ s)) (length (a ∷ s)) (eqb b lf) (lines_cons a s)

pub lines_none : (s : List ℕ) → length s ≡ 0 → lines_of s ≡ []
unfolding lines_of
lines_none [] h = refl
lines_none (b ∷ s) h = absurd (omega arith)

-- the first line, empty where there is none
pub line_first : (s : List ℕ) → get_or (lines_of s) 0 [] ≡ take (line_len s) s
unfolding lines_of line_len place_of
line_first [] = refl
line_first (b ∷ s) = ap (λ (ls : List (List ℕ)). get_or ls 0 []) (lines_cons b s)

-- the lines after the first
lines_rest : (s : List ℕ) → drop 1 (lines_of s) ≡ lines_of (drop (line_len s) s)
unfolding lines_of line_len place_of
lines_rest [] = refl
lines_rest (b ∷ s) = ap (λ (ls : List (List ℕ)). drop 1 ls) (lines_cons b s)

lines_more : (s : List ℕ) → 0 < length s → lines_of s ≡ get_or (lines_of s) 0 [] ∷ drop 1 (lines_of s)
lines_more [] h = absurd (omega arith)
lines_more (b ∷ s) h =
    lines_cons b s ∙ ap₂ (λ (l : List ℕ) (ls : List (List ℕ)). l ∷ ls) (sym (line_first (b ∷ s))) (sym (lines_rest (b ∷ s)))

len_case : (p l : ℕ) (t : Bool) → ltb p l ≡ t → (cond t (p + 1) l ≤ l) × (0 < l → 0 < cond t (p + 1) l)
len_case p l true h = let o : p < l = ltb-true _ _ h in (omega arith, λ z. omega arith)
len_case p l false h = (omega arith, λ z. z)

pub len_le : (s : List ℕ) → line_len s ≤ length s
unfolding line_len
len_le s = (len_case (place_of lf s) (length s) (ltb (place_of lf s) (length s)) refl).0

len_pos : (s : List ℕ) → 0 < length s → 0 < line_len s
unfolding line_len
len_pos s h = (len_case (place_of lf s) (length s) (ltb (place_of lf s) (length s)) refl).1 h

module _ (s : List ℕ) (k : ℕ) (e : k ≡ place_of lf s) where
  pub len_some : k < length s → line_len s ≡ k + 1
  unfolding line_len
  len_some h = let o : place_of lf s < length s = omega arith in simp (lt-ltb _ _ o) (ap (λ (j : ℕ). j + 1) (sym e))

  pub len_all : length s ≤ k → line_len s ≡ length s
  unfolding line_len
  len_all h = let o : length s ≤ place_of lf s = omega arith in simp (le-ltb _ _ o)

-- one more line is passed; e is the length of the line there
pub lines_turn : (s rest : List ℕ) (k e : ℕ) → e ≡ line_len rest → lines_of rest ≡ drop k (lines_of s) → lines_of (drop e rest) ≡ drop (k + 1) (lines_of s)
lines_turn s rest k e ee h =
    ap (λ (j : ℕ). lines_of (drop j rest)) ee ∙ sym (lines_rest rest) ∙ ap (drop 1) h ∙ drop-drop 1 k (lines_of s)

-- past the end of a text there are no lines, so none before a later line either
pub lines_over : (s rest : List ℕ) (i k : ℕ) → length rest ≡ 0 → i ≤ k → lines_of rest ≡ drop i (lines_of s) → lines_of rest ≡ drop k (lines_of s)
lines_over s rest i k h l e =
    let n : lines_of rest ≡ [] = lines_none rest h in
    let m : length (lines_of s) ≤ i = omega (arith, ap length (sym e ∙ n), length-drop i (lines_of s)) in
    n ∙ sym (drop_of_length-le (lines_of s) {i = k} (omega arith))

-- a text that is not empty has lines
pub lines_some : (s : List ℕ) → 0 < length s → length (lines_of s) ≡ 0 → ⊥
lines_some s h z = omega (arith, z, ap length (lines_more s h))

-- the first line of a text, and the lines after it
module _ (s line : List ℕ) (e : line ≡ get_or (lines_of s) 0 []) where
  line_long : length line ≡ line_len s
  line_long = ap length (e ∙ line_first s) ∙ length-take-le (line_len s) s (len_le s)

  pub line_fits : length line ≤ length s
  line_fits = omega (arith, line_long, len_le s)

  pub lines_after : drop 1 (lines_of s) ≡ lines_of (drop (length line) s)
  lines_after = lines_rest s ∙ ap (λ (k : ℕ). lines_of (drop k s)) (sym line_long)

-- a text that is not empty: a loop goes past its first line
pub record Turn (s line : List ℕ) : Type 0 where
  pub fits : length line ≤ length s
  pub further : 0 < length line
  pub next : lines_of s ≡ line ∷ lines_of (drop (length line) s)

pub turn : (s line : List ℕ) → 0 < length s → line ≡ get_or (lines_of s) 0 [] → Turn s line
turn s line h e = record {
  fits = line_fits s line e;
  further = omega (arith, line_long s line e, len_pos s h);
  next = lines_more s h ∙ ap₂ (λ (l : List ℕ) (ls : List (List ℕ)). l ∷ ls) (sym e) (lines_after s line e);
}

-- ---- a text is its lines put together, so that its lines determine it

whole : List (List ℕ) → List ℕ
whole [] = []
whole (l ∷ ls) = l ++ whole ls

whole_ahead : (b : ℕ) (ls : List (List ℕ)) → whole (ahead b ls) ≡ b ∷ whole ls
unfolding whole ahead
whole_ahead b [] = refl
whole_ahead b (l ∷ ls) = refl

lines_whole : (s : List ℕ) → whole (lines_of s) ≡ s
unfolding whole lines_of
lines_whole [] = refl
lines_whole (b ∷ s) = go (eqb b lf) (lines_whole s)
  where
    go : (t : Bool) → whole (lines_of s) ≡ s → whole (cond t ((b ∷ []) ∷ lines_of s) (ahead b (lines_of s))) ≡ b ∷ s
    go true h = ap (λ (l : List ℕ). b ∷ l) h
    go false h = whole_ahead b (lines_of s) ∙ ap (λ (l : List ℕ). b ∷ l) h

pub lines_determine : (s t : List ℕ) → lines_of s ≡ lines_of t → s ≡ t
lines_determine s t e = sym (lines_whole s) ∙ ap whole e ∙ lines_whole t
