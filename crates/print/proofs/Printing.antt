-- Text over the front of an output: one byte more, one part more, one item more.
use Prim.Native.Nat.{◌%◌, ◌+◌, ◌-◌, ◌/◌, ◌<◌, ◌^◌, ◌≤◌, suc, zero, ℕ}
use mathlib.Core.Bool.{Bool, cond, false, true}
use mathlib.Core.List.{List, [], ◌++◌, ◌∷◌, append_assoc, append-nil}
use mathlib.Core.Path.{◌∙◌, ◌≡◌, ap, refl, sym}
use native.Mathlib.Numerals.{add-one}
use native.Mathlib.Omega.{arith}
use borrow.Author.Tests.{le-leb, le-ltb, leb-false, leb-true, lt-leb, lt-ltb, ltb-false}
use borrow.Rule.Slice.PartMut.{put_mid}
use lib.Dec.{leb, ltb}
use lib.ListN.{drop, get_or, length, length-append, length-drop, set, take, take-append-drop}
use lib.Seq.{append_snoc, drop-cons, set_at, take-suc}
use Rattle.std.specs.Fmt.{decimal}
use Rattle.std.proofs.lemmas.Fmt.{decimal_by_steps}
use Rattle.laws.specs.Parts.{onto}
use Rattle.laws.proofs.Lent.{comes_back, onto_length, rest_of}
use Rattle.text.specs.Places.{comma}
use Rattle.print.specs.Texts.{decimal_of, digits_in, item_text, list_text, more_text}
use Rattle.print.specs.declared.Items.{Items}

-- ---- digits

fuel_case : (d e v : ℕ) (t : Bool) → ltb v 10 ≡ t → v < suc d → v < suc e → ((w : ℕ) → w < d → w < e → digits_in d w ≡ digits_in e w)
    → cond t ((48 + v) ∷ []) (digits_in d (v / 10) ++ ((48 + v % 10) ∷ [])) ≡ cond t ((48 + v) ∷ []) (digits_in e (v / 10) ++ ((48 + v % 10) ∷ []))
fuel_case d e v true o h k ih = refl
fuel_case d e v false o h k ih =
    let l : 10 ≤ v = ltb-false _ _ o in
    ap (λ (x : List ℕ). x ++ ((48 + v % 10) ∷ [])) (ih (v / 10) (omega arith) (omega arith))

-- as many steps as there are digits are enough
fuel : (d e v : ℕ) → v < d → v < e → digits_in d v ≡ digits_in e v
unfolding digits_in
fuel zero e v h k = absurd (omega arith)
fuel (suc d) zero v h k = absurd (omega arith)
fuel (suc d) (suc e) v h k = fuel_case d e v (ltb v 10) refl h k (λ w a b. fuel d e w a b)

pub decimal_small : (v : ℕ) → v < 10 → decimal_of v ≡ (48 + v) ∷ []
unfolding decimal_of digits_in
decimal_small v h = simp (lt-ltb _ _ h)

pub decimal_step : (v : ℕ) → 10 ≤ v → decimal_of v ≡ decimal_of (v / 10) ++ ((48 + v % 10) ∷ [])
unfolding decimal_of digits_in
decimal_step v h =
    simp (le-ltb _ _ h) (ap (λ (x : List ℕ). x ++ ((48 + v % 10) ∷ [])) (fuel v (suc (v / 10)) (v / 10) (omega arith) (omega arith)))

-- they are what the library writes of v
pub library_digits : (v : ℕ) → v < 2 ^ 64 → decimal v ≡ decimal_of v
library_digits =
    decimal_by_steps (λ n ds. ds ≡ decimal_of n) (λ n h. sym (decimal_small n h))
    (λ n ds h e. ap (λ (x : List ℕ). x ++ ((48 + n % 10) ∷ [])) e ∙ sym (decimal_step n h))

pub small_length : (v : ℕ) → v < 10 → length (decimal_of v) ≡ 1
small_length v h = ap length (decimal_small v h)

pub step_length : (v : ℕ) → 10 ≤ v → length (decimal_of v) ≡ length (decimal_of (v / 10)) + 1
step_length v h = ap length (decimal_step v h) ∙ length-append (decimal_of (v / 10)) ((48 + v % 10) ∷ [])

-- ---- over the front

-- one byte more
pub onto_byte : (w out last : List ℕ) (k b : ℕ) → k ≡ length w → last ≡ onto w out → length w + 1 ≤ length out
    → set last k b ≡ onto (w ++ (b ∷ [])) out
onto_byte w out last k b e f h =
    let l : length w < length out = omega arith in
    let n : suc (length w) ≡ length (w ++ (b ∷ [])) = omega (arith, length-append w (b ∷ [])) in
    ap (λ (x : List ℕ). set x k b) (f ∙ ap (λ (x : List ℕ). w ++ x) (drop-cons out (length w) 0 l))
    ∙ set_at w (get_or out (length w) 0) (drop (suc (length w)) out) b k (sym e)
    ∙ sym (append_snoc w b (drop (suc (length w)) out))
    ∙ ap (λ (j : ℕ). w ++ (b ∷ []) ++ drop j out) n

-- w is written over the front of out: so many bytes
abbrev pub Over : (w out : List ℕ) (k : ℕ) (last : List ℕ) → Type 0
Over w out k last = (k ≡ length w) × (last ≡ onto w out)

-- w is written, and a byte behind it
module _ (w out : List ℕ) (b : ℕ) {last : List ℕ} {k : ℕ} (h : length (w ++ (b ∷ [])) ≤ length out) (p : Over w out k last) where
  room_behind : length w + 1 ≤ length out
  room_behind = omega (arith, h, length-append w (b ∷ []))

  pub byte_over : Over (w ++ (b ∷ [])) out (k + 1) (set last k b)
  byte_over = (omega (arith, p.0, length-append w (b ∷ [])), onto_byte w out last k b p.0 p.1 room_behind)

pub left_fits : (v w : List ℕ) (n : ℕ) → length (v ++ w) ≤ n → length v ≤ n
left_fits v w n h = omega (arith, length-append v w)

-- v is written, and the rest behind it is lent for w
module _ (v w out : List ℕ) {last : List ℕ} {r : ℕ} (h : length (v ++ w) ≤ length out) (p : Over v out r last) where
  as_long : length last ≡ length out
  as_long = ap length p.1 ∙ onto_length v out (left_fits v w (length out) h)

  pub part_room : length w ≤ length (take (length last - r) (drop r last))
  part_room = rw (rest_of last r, length-drop r last) (omega (arith, h, p.0, as_long, length-append v w))

  -- it has come back
  module _ {q : ℕ} {back : List ℕ} (g : Over w (take (length last - r) (drop r last)) q back) where
    both_length : r + q ≡ length (v ++ w)
    both_length = omega (arith, p.0, g.0, length-append v w)

    both_onto : put_mid r (length last - r) last back ≡ onto (v ++ w) out
    both_onto =
        let e : last ≡ v ++ drop r out = p.1 ∙ ap (λ (j : ℕ). v ++ drop j out) (sym p.0) in
        let l : r ≤ length out = omega (arith, h, p.0, length-append v w) in
        let n : r + length w ≡ length (v ++ w) = omega (arith, p.0, length-append v w) in
        comes_back v w out last back r (sym p.0) l e g.1 ∙ ap (λ (j : ℕ). (v ++ w) ++ drop j out) n

    pub both_over : Over (v ++ w) out (r + q) (put_mid r (length last - r) last back)
    both_over = (both_length, both_onto)

-- ---- lists

pub list_none : (kind : Items) (xs : List ℕ) → length xs ≡ 0 → list_text kind xs ≡ []
unfolding list_text
list_none kind [] h = refl
list_none kind (x ∷ xs) h = absurd (omega arith)

pub list_some : (kind : Items) (x : ℕ) (xs : List ℕ) {all : List ℕ} → all ≡ x ∷ xs → list_text kind all ≡ item_text kind x ++ more_text kind xs
unfolding list_text
list_some kind x xs e = ap (list_text kind) e

more_append : (kind : Items) (xs ys : List ℕ) → more_text kind (xs ++ ys) ≡ more_text kind xs ++ more_text kind ys
unfolding more_text
more_append kind [] ys = refl
more_append kind (x ∷ xs) ys =
    ap (λ (t : List ℕ). (comma ∷ item_text kind x) ++ t) (more_append kind xs ys)
    ∙ sym (append_assoc (comma ∷ item_text kind x) (more_text kind xs) (more_text kind ys))

-- one item more
pub more_turn : (kind : Items) (xs : List ℕ) (i : ℕ) → i < length xs
    → more_text kind (take (i + 1) xs) ≡ more_text kind (take i xs) ++ (comma ∷ item_text kind (get_or xs i 0))
unfolding more_text
more_turn kind xs i l =
    ap (λ (j : ℕ). more_text kind (take j xs)) (add-one i) ∙ ap (more_text kind) (take-suc xs i 0 l) ∙ more_append kind (take i xs) (get_or xs i 0 ∷ [])
    ∙ ap (λ (t : List ℕ). more_text kind (take i xs) ++ t) (append-nil (comma ∷ item_text kind (get_or xs i 0)))

-- the first items are no longer than all
pub more_part : (kind : Items) (xs : List ℕ) (i : ℕ) → length (more_text kind (take i xs)) ≤ length (more_text kind xs)
more_part kind xs i =
    omega (
      arith,
      ap (λ (t : List ℕ). length (more_text kind t)) (take-append-drop i xs),
      ap length (more_append kind (take i xs) (drop i xs)),
      length-append (more_text kind (take i xs)) (more_text kind (drop i xs)),
    )

-- where there is room for all, there is room for one item more
pub more_room : (kind : Items) (xs : List ℕ) (i n : ℕ) → length (more_text kind xs) ≤ n → i < length xs
    → length (more_text kind (take i xs) ++ (comma ∷ item_text kind (get_or xs i 0))) ≤ n
more_room kind xs i n h l = omega (arith, ap length (more_turn kind xs i l), more_part kind xs (i + 1))

pub more_length : (kind : Items) (xs : List ℕ) (i : ℕ) → i < length xs
    → length (more_text kind (take (i + 1) xs)) ≡ length (more_text kind (take i xs)) + (1 + length (item_text kind (get_or xs i 0)))
more_length kind xs i l = omega (
  arith,
  ap length (more_turn kind xs i l),
  length-append (more_text kind (take i xs)) (comma ∷ item_text kind (get_or xs i 0)),
)

module _ (kind : Items) (x : ℕ) (xs : List ℕ) {all : List ℕ} (e : all ≡ x ∷ xs) where
  pub list_length : length (list_text kind all) ≡ length (item_text kind x) + length (more_text kind xs)
  list_length = ap length (list_some kind x xs e) ∙ length-append (item_text kind x) (more_text kind xs)

  pub list_room : (n : ℕ) → length (list_text kind all) ≤ n → length (item_text kind x ++ more_text kind xs) ≤ n
  list_room n l = omega (arith, ap length (list_some kind x xs e))

  -- whether all fits is whether the others fit behind the first
  pub fits_rest : (room first : ℕ) {t : Bool} → first ≡ length (item_text kind x) → first ≤ room → t ≡ leb (length (more_text kind xs)) (room - first)
      → t ≡ leb (length (list_text kind all)) room
  fits_rest room first {t} h l q = q ∙ go (leb (length (more_text kind xs)) (room - first)) refl
    where
      go : (b : Bool) → leb (length (more_text kind xs)) (room - first) ≡ b → leb (length (more_text kind xs)) (room - first) ≡ leb (length (list_text kind all)) room
      go true b = b ∙ sym (le-leb (length (list_text kind all)) room (omega (arith, leb-true (length (more_text kind xs)) (room - first) b, list_length)))
      go false b = b ∙ sym (lt-leb (length (list_text kind all)) room (omega (arith, leb-false (length (more_text kind xs)) (room - first) b, list_length)))
