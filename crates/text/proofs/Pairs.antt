-- Hex: each pair of digits is one byte, written behind those before it.
use Rattle.std.specs.Prelude.{IsSome, Option, Some, is_some}
use Prim.Native.Nat.{◌%◌, ◌*◌, ◌+◌, ◌/◌, ◌<◌, ◌^◌, ◌≤◌, suc, zero, ℕ}
use mathlib.Core.Bool.{Bool, false, true}
use mathlib.Core.List.{List, [], ◌++◌, ◌∷◌, append-nil}
use mathlib.Core.Path.{◌∙◌, ◌≡◌, ap, refl, sym}
use native.Mathlib.Omega.{arith}
use borrow.Author.Tests.{eq-eqb, eqb-true, ltb-true, ne_eqb}
use lib.Dec.{eqb, ltb}
use lib.ListN.{drop, get_or, length, length-append, length-set, set}
use lib.Seq.{append_snoc, set_at}
use Rattle.std.proofs.lemmas.List.{drop_more}
use Rattle.laws.specs.Parts.{onto}
use Rattle.laws.proofs.Tests.{both}
use Rattle.text.specs.Hex.{hex_of, is_hex, pairs_of}
use Rattle.text.specs.Numbers.{digit_in, digit_of, digits_below}
use Rattle.text.specs.Put.{Put}
use Rattle.text.proofs.Digits.{digit_read, digit_some}
use Rattle.text.proofs.Written.{put_done}

-- what the loop keeps: the bytes written, and the answer in terms of the digits that are left
pub record Hexed (s out₀ out : List ℕ) (i : ℕ) (rest : List ℕ) : Type 0 where
  pub ws : List ℕ
  pub said : pairs_of s ≡ ws ++ pairs_of rest
  pub size : length ws ≡ i
  pub held : out ≡ ws ++ drop i out₀
  pub twice : length s ≡ 2 * i + length rest
  pub room : length s ≤ 2 * length out₀
  pub digits : digits_below 16 rest ≡ true
  pub kept : length out ≡ length out₀

pub hexed_start : (s rest out : List ℕ) (i : ℕ) → i ≡ 0 → rest ≡ s → length s ≤ 2 * length out → digits_below 16 s ≡ true → Hexed s out out i rest
hexed_start s rest out i z e h d = record {
  ws = [];
  said = ap pairs_of (sym e);
  size = sym z;
  held = ap (λ (k : ℕ). drop k out) (sym z);
  twice = omega (arith, ap length e, z);
  room = h;
  digits = ap (digits_below 16) e ∙ d;
  kept = refl;
}

below_cons : (x : ℕ) (t : List ℕ) → digits_below 16 (x ∷ t) ≡ true → (digit_of x < 16) × (digits_below 16 t ≡ true)
unfolding digits_below
below_cons x t e = let p = both (ltb (digit_of x) 16) (digits_below 16 t) e in (ltb-true (digit_of x) 16 p.0, p.1)

two : (pair : List ℕ) → length pair ≡ 2 → pair ≡ get_or pair 0 0 ∷ get_or pair 1 0 ∷ []
two [] e = absurd (omega (arith, e))
two (a ∷ []) e = absurd (omega (arith, e))
two (a ∷ b ∷ []) e = refl
two (a ∷ b ∷ d ∷ t) e = absurd (omega (arith, e))

pub some_there : {o : Option ℕ} {d : ℕ} → o ≡ Some d → IsSome o
some_there e = ap is_some e

-- one turn, at a pair of digits
module _ (s out₀ out rest : List ℕ) (i : ℕ) (g : Hexed s out₀ out i rest) (pair after : List ℕ) (e : rest ≡ pair ++ after) (l : length pair ≡ 2) where
  pairs : rest ≡ get_or pair 0 0 ∷ get_or pair 1 0 ∷ after
  pairs = e ∙ ap (λ (p : List ℕ). p ++ after) (two pair l)

  first : (digit_of (get_or pair 0 0) < 16) × (digits_below 16 (get_or pair 1 0 ∷ after) ≡ true)
  first = below_cons (get_or pair 0 0) (get_or pair 1 0 ∷ after) (ap (digits_below 16) (sym pairs) ∙ g.digits)

  second : (digit_of (get_or pair 1 0) < 16) × (digits_below 16 after ≡ true)
  second = below_cons (get_or pair 1 0) after first.1

  long : length s ≡ 2 * i + (2 + length after)
  long = let t = g.twice in omega (arith, ap length pairs)

  pub hex_room : i < length out
  hex_room = let b = g.room in let d = g.kept in omega (arith, long)

  pub hex_high : digit_in 16 (get_or pair 0 0) ≡ Some (digit_of (get_or pair 0 0))
  hex_high = digit_read 16 (get_or pair 0 0) first.0

  pub hex_low : digit_in 16 (get_or pair 1 0) ≡ Some (digit_of (get_or pair 1 0))
  hex_low = digit_read 16 (get_or pair 1 0) second.0

  module _ (x y : ℕ) (xs : digit_in 16 (get_or pair 0 0) ≡ Some x) (ys : digit_in 16 (get_or pair 1 0) ≡ Some y) where
    xe : x ≡ digit_of (get_or pair 0 0)
    xe = (digit_some 16 (get_or pair 0 0) x xs).0

    ye : y ≡ digit_of (get_or pair 1 0)
    ye = (digit_some 16 (get_or pair 1 0) y ys).0

    pub hex_byte : x * 16 + y < 256
    hex_byte = omega (arith, first.0, second.0, xe, ye)

    pub hex_turn : Hexed s out₀ (set out i (x * 16 + y)) (i + 1) after
    unfolding pairs_of
    hex_turn =
        let l : i < length out₀ = let a = hex_room in let d = g.kept in omega arith in
        record {
          ws = g.ws ++ ((x * 16 + y) ∷ []);
          said =
              g.said ∙ ap (λ (t : List ℕ). g.ws ++ pairs_of t) pairs
              ∙ ap (λ (b : ℕ). g.ws ++ (b ∷ pairs_of after))
              (ap (λ (p : ℕ). p * 16 + digit_of (get_or pair 1 0)) (sym xe) ∙ ap (λ (q : ℕ). x * 16 + q) (sym ye))
              ∙ sym (append_snoc g.ws (x * 16 + y) (pairs_of after));
          size = let e = g.size in omega (arith, length-append g.ws ((x * 16 + y) ∷ []));
          held =
              ap (λ (t : List ℕ). set t i (x * 16 + y)) (g.held ∙ ap (λ (t : List ℕ). g.ws ++ t) (drop_more out₀ i 0 l))
              ∙ set_at g.ws (get_or out₀ i 0) (drop (i + 1) out₀) (x * 16 + y) i g.size
              ∙ sym (append_snoc g.ws (x * 16 + y) (drop (i + 1) out₀));
          twice = omega (arith, long);
          room = g.room;
          digits = second.1;
          kept = length-set out i (x * 16 + y) ∙ g.kept;
        }

few : (t : List ℕ) → length t < 2 → pairs_of t ≡ []
unfolding pairs_of
few [] h = refl
few (a ∷ []) h = refl
few (a ∷ b ∷ t) h = absurd (omega arith)

pairs_size : (s : List ℕ) → length (pairs_of s) ≡ length s / 2
unfolding pairs_of
pairs_size [] = refl
pairs_size (a ∷ []) = refl
pairs_size (a ∷ b ∷ s) = omega (arith, pairs_size s)

pub hex_done : (s out₀ out rest : List ℕ) (i : ℕ) → Hexed s out₀ out i rest → length rest < 2
    → (length s / 2 ≡ length (pairs_of s)) × (out ≡ onto (pairs_of s) out₀)
hex_done s out₀ out rest i g h =
    let e : pairs_of s ≡ g.ws = g.said ∙ ap (λ (t : List ℕ). g.ws ++ t) (few rest h) ∙ append-nil g.ws in
    let n : i ≡ length (pairs_of s) = sym g.size ∙ ap length (sym e) in
    (sym (pairs_size s), g.held ∙ ap (λ (w : List ℕ). w ++ drop i out₀) (sym e) ∙ ap (λ (j : ℕ). pairs_of s ++ drop j out₀) n)

-- ---- whether a text is hex, and how many bytes it says

pub hex_odd : (s : List ℕ) → (length s % 2 ≡ 0 → ⊥) → is_hex s ≡ false
unfolding is_hex
hex_odd s h = simp (ne_eqb _ _ h)

pub hex_even : (s : List ℕ) → length s % 2 ≡ 0 → is_hex s ≡ digits_below 16 s
unfolding is_hex
hex_even s h = simp (eq-eqb _ _ h)

pub hex_no : (s : List ℕ) → is_hex s ≡ false → hex_of s ≡ []
unfolding hex_of
hex_no s e = simp e

hex_yes : (s : List ℕ) → is_hex s ≡ true → hex_of s ≡ pairs_of s
unfolding hex_of
hex_yes s e = simp e

pub hex_digits : (s : List ℕ) → is_hex s ≡ true → (length s % 2 ≡ 0) × (digits_below 16 s ≡ true)
unfolding is_hex
hex_digits s e = let p = both (eqb (length s % 2) 0) (digits_below 16 s) e in (eqb-true (length s % 2) 0 p.0, p.1)

pub hex_size_no : (s : List ℕ) → is_hex s ≡ false → length (hex_of s) ≡ 0
hex_size_no s e = ap length (hex_no s e)

pub hex_size_yes : (s : List ℕ) → is_hex s ≡ true → length (hex_of s) ≡ length s / 2
hex_size_yes s e = ap length (hex_yes s e) ∙ pairs_size s

-- what hex says are bytes
pairs_bytes : (s : List ℕ) → digits_below 16 s ≡ true → (i : ℕ) → get_or (pairs_of s) i 0 < 2 ^ 8
unfolding pairs_of
pairs_bytes [] d i = omega arith
pairs_bytes (a ∷ []) d i = omega arith
pairs_bytes (a ∷ b ∷ s) d zero =
    let p = below_cons a (b ∷ s) d in
    let q = below_cons b s p.1 in
    omega (arith, p.0, q.0)
pairs_bytes (a ∷ b ∷ s) d (suc i) = pairs_bytes s (below_cons b s (below_cons a (b ∷ s) d).1).1 i

pub hex_bytes : (s : List ℕ) (i : ℕ) → get_or (hex_of s) i 0 < 2 ^ 8
hex_bytes s i = go (is_hex s) refl
  where
    go : (t : Bool) → is_hex s ≡ t → get_or (hex_of s) i 0 < 2 ^ 8
    go true e = rw (hex_yes s e) (pairs_bytes s (hex_digits s e).1 i)
    go false e = rw (hex_no s e) (omega arith)

-- the pairs are written, and they are what the hex says
pub put_hex : (s out after : List ℕ) (a : ℕ) → is_hex s ≡ true → length s / 2 ≤ length out → a ≡ length (pairs_of s) → after ≡ onto (pairs_of s) out
    → Put (hex_of s) out a after
put_hex s out after a h l e f =
    let q = hex_yes s h in
    put_done (hex_of s) out after a (omega (arith, hex_size_yes s h)) (e ∙ ap length (sym q)) (f ∙ ap (λ (w : List ℕ). onto w out) (sym q))
