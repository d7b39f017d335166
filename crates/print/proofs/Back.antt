-- What the printer writes of a number and of an entry, the reader reads back.
use Prim.Native.Nat.{◌%◌, ◌*◌, ◌+◌, ◌-◌, ◌/◌, ◌<◌, ◌^◌, ◌≤◌, suc, zero, ℕ}
use mathlib.Core.Bool.{Bool, ◌&&◌, cond, false, true}
use mathlib.Core.List.{List, [], ◌++◌, ◌∷◌}
use mathlib.Core.Path.{◌∙◌, ◌≡◌, ap, ap₂, refl}
use native.Mathlib.Omega.{arith}
use borrow.Author.Tests.{le-leb, le-ltb, leb-true, lt-ltb, ltb-false, ltb-true, ne_eqb}
use lib.Dec.{eqb, leb, ltb}
use lib.ListN.{get_or-append, drop, get_or, length, length-append, take}
use lib.Seq.{append_snoc, drop_at, take-append_seam}
use Rattle.laws.proofs.Tests.{both}
use Rattle.text.specs.Numbers.{decimal, digit_of, digits_below, entry_as, entry_in, field_of, half_most, number_in, value_from, word_most}
use Rattle.text.specs.Places.{dot, past, place_of}
use Rattle.std.specs.Prelude.{Some}
use Rattle.text.proofs.Digits.{digit_under}
use Rattle.print.specs.Texts.{decimal_of, digits_in, entry_text, low_text}

digit_back : (d : ℕ) → d < 10 → digit_of (48 + d) ≡ d
unfolding digit_of
digit_back d h =
    let a : 48 ≤ 48 + d = omega arith in
    let b : 48 + d ≤ 57 = omega arith in
    let e : 48 + d - 48 ≡ d = omega arith in
    simp (le-ltb _ _ a, le-leb _ _ b) e

value_append : (v : ℕ) (xs : List ℕ) (y : ℕ) → value_from v (xs ++ (y ∷ [])) ≡ value_from v xs * 10 + digit_of y
unfolding value_from
value_append v [] y = refl
value_append v (x ∷ xs) y = value_append (v * 10 + digit_of x) xs y

digits_append : (xs : List ℕ) (y : ℕ) → digits_below 10 xs ≡ true → digit_of y < 10 → digits_below 10 (xs ++ (y ∷ [])) ≡ true
unfolding digits_below
digits_append [] y e h = simp (lt-ltb _ _ h)
digits_append (x ∷ xs) y e h = go (ltb (digit_of x) 10) e (λ q. digits_append xs y q h)
  where
    go : (t : Bool) → (t && digits_below 10 xs) ≡ true → (digits_below 10 xs ≡ true → digits_below 10 (xs ++ (y ∷ [])) ≡ true)
        → (t && digits_below 10 (xs ++ (y ∷ []))) ≡ true
    go true q f = f q
    go false q f = q

-- what holds of the digits of v
record Digits (v : ℕ) (ds : List ℕ) : Type 0 where
  says : value_from 0 ds ≡ v
  digits : digits_below 10 ds ≡ true
  some : 1 ≤ length ds
  lead : (2 ≤ length ds) → 48 < get_or ds 0 0
  high : (1 ≤ v) → 48 < get_or ds 0 0

fine_small : (v : ℕ) → v < 10 → Digits v ((48 + v) ∷ [])
unfolding value_from digits_below
fine_small v h =
    let e = digit_back v h in
    let l : digit_of (48 + v) < 10 = omega (arith, e) in
    record { says = omega (arith, e); digits = simp (lt-ltb _ _ l); some = omega arith; lead = λ z. absurd (omega arith); high = λ z. omega arith }

fine_more : (v : ℕ) (ds : List ℕ) → 10 ≤ v → Digits (v / 10) ds → Digits v (ds ++ ((48 + v % 10) ∷ []))
fine_more v ds h g =
    let r : v % 10 < 10 = omega arith in
    let e = digit_back (v % 10) r in
    let s = g.says in
    let l : digit_of (48 + v % 10) < 10 = omega (arith, e) in
    let f : 48 < get_or ds 0 0 = g.high (omega arith) in
    let p : get_or (ds ++ ((48 + v % 10) ∷ [])) 0 0 ≡ get_or ds 0 0 = get_or-append ds ((48 + v % 10) ∷ []) 0 0 g.some in
    record {
      says = omega (arith, value_append 0 ds (48 + v % 10), e, s);
      digits = digits_append ds (48 + v % 10) g.digits l;
      some = omega (arith, length-append ds ((48 + v % 10) ∷ []));
      lead = λ z. omega (arith, p, f);
      high = λ z. omega (arith, p, f);
    }

fine_case : (d v : ℕ) (t : Bool) → ltb v 10 ≡ t → v < suc d → ((w : ℕ) → w < d → Digits w (digits_in d w))
    → Digits v (cond t ((48 + v) ∷ []) (digits_in d (v / 10) ++ ((48 + v % 10) ∷ [])))
fine_case d v true e h ih = fine_small v (ltb-true _ _ e)
fine_case d v false e h ih = let l : 10 ≤ v = ltb-false _ _ e in fine_more v (digits_in d (v / 10)) l (ih (v / 10) (omega arith))

fine_in : (d v : ℕ) → v < d → Digits v (digits_in d v)
unfolding digits_in
fine_in zero v h = absurd (omega arith)
fine_in (suc d) v h = fine_case d v (ltb v 10) refl h (λ w q. fine_in d w q)

lead_case : (ds : List ℕ) (t : Bool) → leb 2 (length ds) ≡ t → (2 ≤ length ds → 48 < get_or ds 0 0) → (t && eqb (get_or ds 0 0) 48) ≡ false
lead_case ds true e f = let q : 48 < get_or ds 0 0 = f (leb-true _ _ e) in let n : get_or ds 0 0 ≡ 48 → ⊥ = λ z. omega arith in simp (ne_eqb _ _ n)
lead_case ds false e f = refl

pub number_back : (most v : ℕ) → v ≤ most → number_in most (decimal_of v) ≡ Some v
unfolding number_in decimal decimal_of
number_back most v h =
    let g = fine_in (suc v) v (omega arith) in
    let a = lead_case (digits_in (suc v) v) (leb 2 (length (digits_in (suc v) v))) refl g.lead in
    simp (le-leb _ _ g.some, a, g.digits, g.says, le-leb _ _ h)

-- ---- entries

decimal_digits : (v : ℕ) → digits_below 10 (decimal_of v) ≡ true
unfolding decimal_of
decimal_digits v = (fine_in (suc v) v (omega arith)).digits

-- a dot behind digits is the first
place_dot : (ds t : List ℕ) → digits_below 10 ds ≡ true → place_of dot (ds ++ (dot ∷ t)) ≡ length ds
unfolding place_of digits_below
place_dot [] t e = refl
place_dot (d ∷ ds) t e =
    let p = both (ltb (digit_of d) 10) (digits_below 10 ds) e in
    let l : digit_of d < 10 = ltb-true (digit_of d) 10 p.0 in
    let other : d ≡ dot → ⊥ = λ q. omega (arith, l, ap digit_of q ∙ digit_under dot (omega arith)) in
    simp (ne_eqb d dot other) (ap suc (place_dot ds t p.1))

module _ (v most : ℕ) (h : v ≤ most) (t : List ℕ) where
  text : List ℕ
  text = (decimal_of v ++ (dot ∷ [])) ++ t

  text_is : text ≡ decimal_of v ++ (dot ∷ t)
  unfolding text
  text_is = append_snoc (decimal_of v) dot t

  place_is : place_of dot text ≡ length (decimal_of v)
  place_is = ap (place_of dot) text_is ∙ place_dot (decimal_of v) t (decimal_digits v)

  front_back : field_of dot most ((decimal_of v ++ (dot ∷ [])) ++ t) ≡ Some v
  unfolding text field_of
  front_back =
      let l : place_of dot text < length text = omega (arith, place_is, ap length text_is, length-append (decimal_of v) (dot ∷ t)) in
      simp (lt-ltb (place_of dot text) (length text) l)
      (ap (number_in most) (ap₂ take place_is text_is ∙ take-append_seam (decimal_of v) (dot ∷ t)) ∙ number_back most v h)

  rest_back : past dot ((decimal_of v ++ (dot ∷ [])) ++ t) ≡ t
  unfolding text
  rest_back =
      ap (λ (k : ℕ). drop (k + 1) text) place_is
      ∙ drop_at (decimal_of v ++ (dot ∷ [])) t (length (decimal_of v) + 1) (length-append (decimal_of v) (dot ∷ []))

pub entry_back : (x : ℕ) → x < 2 ^ 64 → entry_in (entry_text x) ≡ Some x
unfolding entry_in entry_as
entry_back x h =
    let a = front_back (x / 2 ^ 48) half_most (omega arith) (low_text x) in
    let r = rest_back (x / 2 ^ 48) half_most (omega arith) (low_text x) in
    let b : field_of dot half_most (past dot (entry_text x)) ≡ Some (x / 2 ^ 32 % 2 ^ 16) =
    ap (field_of dot half_most) r ∙ front_back (x / 2 ^ 32 % 2 ^ 16) half_most (omega arith) (decimal_of (x % 2 ^ 32)) in
    let d : number_in word_most (past dot (past dot (entry_text x))) ≡ Some (x % 2 ^ 32) =
    ap (λ (t : List ℕ). number_in word_most (past dot t)) r
    ∙ ap (number_in word_most) (rest_back (x / 2 ^ 32 % 2 ^ 16) half_most (omega arith) (decimal_of (x % 2 ^ 32)))
    ∙ number_back word_most (x % 2 ^ 32) (omega arith) in
    let sum : x / 2 ^ 48 * 2 ^ 48 + x / 2 ^ 32 % 2 ^ 16 * 2 ^ 32 + x % 2 ^ 32 ≡ x = omega arith in
    simp (a, b, d) (ap Some sum)
