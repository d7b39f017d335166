-- The lines after the header, one after the other: the answer for the whole is the answer for the rest.
use Prim.Native.Nat.{◌+◌, ◌-◌, ◌<◌, ◌≤◌, suc, ℕ}
use mathlib.Core.Bool.{cond, false, true}
use mathlib.Core.List.{List, [], ◌∷◌}
use Rattle.std.specs.Prelude.{Option, Some, None, Result, Ok, Err, is_some}
use mathlib.Core.Path.{◌∙◌, ◌≡◌, ap, ap₂, refl, sym}
use native.Mathlib.Omega.{arith}
use borrow.Author.Tests.{eq-eqb, le-leb, le-ltb, lt-leb, lt-ltb, ne_eqb}
use lib.Dec.{eqb}
use lib.ListN.{drop, get_or, length}
use Rattle.text.specs.Lines.{keyed, lines_of, list_line}
use Rattle.text.specs.Lists.{listed_as}
use Rattle.text.specs.declared.Kind.TheVariants.{Entry}
use Rattle.schedule.specs.Forms.{form_after, form_of, form_sends, form_trays, found, is_end, is_tray, schedule_most}
use Rattle.header.specs.Header.{bad, headed_of, header_size}
use Rattle.header.specs.declared.BadLine.{BadLine}
use Rattle.schedule.specs.Keys.{end_key, tray_key}
use Rattle.schedule.specs.Sends.{rank_in, send_of}
use Rattle.header.specs.declared.Header.{Header}

-- ---- the end, and trays

pub end_no : (l : List ℕ) → keyed end_key l ≡ false → is_end l ≡ false
unfolding is_end
end_no l e = simp e

pub end_yes : (l : List ℕ) → keyed end_key l ≡ true → is_end l ≡ eqb (length l) 5
unfolding is_end
end_yes l e = simp e

pub tray_is : (l : List ℕ) → is_some (listed_as (list_line tray_key Entry l)) ≡ is_tray l
unfolding is_tray found listed_as
tray_is l = go (list_line tray_key Entry l)
  where
    go : (o : Option (List ℕ)) → is_some (listed_as o) ≡ found o
    go None = refl
    go (Some xs) = refl

-- ---- sends

module _ (h : Header) (k last : ℕ) (l : List ℕ) (ls : List (List ℕ)) where
  pub sends_good : is_end l ≡ true → length ls ≡ 0 → form_sends h k last (l ∷ ls) ≡ Ok h
  unfolding form_sends
  sends_good a b = simp (a, eq-eqb _ _ b)

  pub sends_more : is_end l ≡ true → (length ls ≡ 0 → ⊥) → form_sends h k last (l ∷ ls) ≡ bad (k + 1)
  unfolding form_sends
  sends_more a b = simp (a, ne_eqb _ _ b)

  module _ (r : ℕ) (re : r ≡ rank_in h (send_of l)) (a : is_end l ≡ false) where
    pub sends_bad : r ≤ last → form_sends h k last (l ∷ ls) ≡ bad k
    unfolding form_sends
    sends_bad o = let o' : rank_in h (send_of l) ≤ last = omega arith in simp (a, le-ltb _ _ o')

    pub sends_go : last < r → form_sends h k last (l ∷ ls) ≡ form_sends h (k + 1) r ls
    unfolding form_sends
    sends_go o =
        let o' : last < rank_in h (send_of l) = omega arith in
        simp (a, lt-ltb _ _ o') (ap (λ (x : ℕ). form_sends h (k + 1) x ls) (sym re))

pub sends_end : (h : Header) (k last : ℕ) (ls : List (List ℕ)) → ls ≡ [] → form_sends h k last ls ≡ bad k
unfolding form_sends
sends_end h k last ls e = ap (form_sends h k last) e

-- ---- trays

module _ (h : Header) (k i : ℕ) (l : List ℕ) (ls rest : List (List ℕ)) (le : l ≡ get_or ls 0 []) (re : drop 1 ls ≡ rest) (o : i < h.n) where
  trays_are : form_trays h k (h.n - i) ls ≡ cond (is_tray l) (form_trays h (k + 1) (h.n - (i + 1)) rest) (bad k)
  unfolding form_trays
  trays_are =
      let e : h.n - i ≡ suc (h.n - (i + 1)) = omega arith in
      ap (λ (j : ℕ). form_trays h k j ls) e
      ∙ ap₂ (λ (x : List ℕ) (xs : List (List ℕ)). cond (is_tray x) (form_trays h (k + 1) (h.n - (i + 1)) xs) (bad k)) (sym le) re

  pub trays_bad : is_tray l ≡ false → form_trays h k (h.n - i) ls ≡ bad k
  trays_bad a = trays_are ∙ simp a

  pub trays_go : is_tray l ≡ true → form_trays h k (h.n - i) ls ≡ form_trays h (k + 1) (h.n - (i + 1)) rest
  trays_go a = trays_are ∙ simp a

pub trays_end : (h : Header) (k i : ℕ) (ls : List (List ℕ)) → h.n ≤ i → form_trays h k (h.n - i) ls ≡ form_sends h k 0 ls
unfolding form_trays
trays_end h k i ls l = let e : h.n - i ≡ 0 = omega arith in ap (λ (j : ℕ). form_trays h k j ls) e

-- ---- the whole

pub form_long : (s : List ℕ) → schedule_most < length s → form_of s ≡ bad 0
unfolding form_of
form_long s h = simp (lt-leb _ _ h)

module _ (s : List ℕ) (h : length s ≤ schedule_most) where
  form_is : form_of s ≡ form_after (headed_of (lines_of s)) (drop header_size (lines_of s))
  unfolding form_of
  form_is = simp (le-leb _ _ h)

  pub form_bad : (line : BadLine) → headed_of (lines_of s) ≡ Err line → form_of s ≡ Err line
  unfolding form_after
  form_bad line e = form_is ∙ ap (λ (x : Result Header BadLine). form_after x (drop header_size (lines_of s))) e

  pub form_good : (x : Header) → headed_of (lines_of s) ≡ Ok x → form_of s ≡ form_trays x (header_size + 1) x.n (drop header_size (lines_of s))
  unfolding form_after
  form_good x e = form_is ∙ ap (λ (y : Result Header BadLine). form_after y (drop header_size (lines_of s))) e
