-- Entries and their bytes: eight digits to the base 256 put together give the number, and the digits of that number are those eight.
use Prim.Native.Nat.{ℕ, zero, suc, ◌+◌, ◌*◌, ◌/◌, ◌%◌, ◌^◌, ◌≤◌, ◌<◌}
use mathlib.Core.Path.{◌≡◌, refl, sym, ap, ap₂, subst, ◌∙◌}
use mathlib.Core.List.{List, [], ◌∷◌, ◌++◌}
use native.Mathlib.Omega.{arith}
use lib.Dec.{lit<}
use lib.ListN.{length, take, drop, length-drop}
use lib.Seq.{get_or-drop, take-add}
use Rattle.entries.specs.Bytes.{entry_size, entry_of, entry_bytes, entries_of, entries_bytes, AreBytes, AreEntries}

-- ---- to bytes and back

-- digits, lowest first, put together again
digits : (x q₁ q₂ q₃ q₄ q₅ q₆ q₇ r₀ r₁ r₂ r₃ r₄ r₅ r₆ r₇ : ℕ) → x ≡ q₁ * 256 + r₀ → q₁ ≡ q₂ * 256 + r₁ → q₂ ≡ q₃ * 256 + r₂ → q₃ ≡ q₄ * 256 + r₃
    → q₄ ≡ q₅ * 256 + r₄ → q₅ ≡ q₆ * 256 + r₅ → q₆ ≡ q₇ * 256 + r₆ → q₇ ≡ r₇
    → r₇ * 2 ^ 56 + r₆ * 2 ^ 48 + r₅ * 2 ^ 40 + r₄ * 2 ^ 32 + r₃ * 2 ^ 24 + r₂ * 2 ^ 16 + r₁ * 2 ^ 8 + r₀ ≡ x
digits x q₁ q₂ q₃ q₄ q₅ q₆ q₇ r₀ r₁ r₂ r₃ r₄ r₅ r₆ r₇ e₀ e₁ e₂ e₃ e₄ e₅ e₆ e₇ = omega arith

entry_back : (x : ℕ) (rest : List ℕ) → x < 2 ^ 64 → entry_of (entry_bytes x ++ rest) ≡ x
unfolding entry_of entry_bytes
entry_back x rest h =
    digits x (x / 2 ^ 8) (x / 2 ^ 16) (x / 2 ^ 24) (x / 2 ^ 32) (x / 2 ^ 40) (x / 2 ^ 48) (x / 2 ^ 56) _ _ _ _ _ _ _ _
    (omega arith) (omega arith) (omega arith) (omega arith) (omega arith) (omega arith) (omega arith) (omega arith)

pub entries_back : (es rest : List ℕ) → AreEntries es → entries_of (length es) (entries_bytes es ++ rest) ≡ es
unfolding entries_of entries_bytes entry_bytes
entries_back [] rest t = refl
entries_back (x ∷ xs) rest t = ap₂ (λ (a : ℕ) (s : List ℕ). a ∷ s) (entry_back x (entries_bytes xs ++ rest) (t 0)) (entries_back xs rest (λ i. t (suc i)))

entry_bytes_lem : (x : ℕ) (s : List ℕ) → AreBytes s → AreBytes (entry_bytes x ++ s)
unfolding entry_bytes
entry_bytes_lem x s t zero = omega arith
entry_bytes_lem x s t (suc zero) = omega arith
entry_bytes_lem x s t (suc (suc zero)) = omega arith
entry_bytes_lem x s t (suc (suc (suc zero))) = omega arith
entry_bytes_lem x s t (suc (suc (suc (suc zero)))) = omega arith
entry_bytes_lem x s t (suc (suc (suc (suc (suc zero))))) = omega arith
entry_bytes_lem x s t (suc (suc (suc (suc (suc (suc zero)))))) = omega arith
entry_bytes_lem x s t (suc (suc (suc (suc (suc (suc (suc zero))))))) = omega arith
entry_bytes_lem x s t (suc (suc (suc (suc (suc (suc (suc (suc i)))))))) = t i

pub append_bytes : (s t : List ℕ) → AreBytes s → AreBytes t → AreBytes (s ++ t)
append_bytes [] t a b i = b i
append_bytes (x ∷ s) t a b zero = a 0
append_bytes (x ∷ s) t a b (suc i) = append_bytes s t (λ j. a (suc j)) b i

pub entries_bytes_lem : (es : List ℕ) → AreBytes (entries_bytes es)
unfolding entries_bytes
entries_bytes_lem [] = λ i. lit< tt
entries_bytes_lem (x ∷ xs) = entry_bytes_lem x (entries_bytes xs) (entries_bytes_lem xs)

-- ---- from bytes and back

bytes_back : (a b c d e f g h : ℕ) (s : List ℕ) → a < 256 → b < 256 → c < 256 → d < 256 → e < 256 → f < 256 → g < 256 → h < 256
    → entry_bytes (entry_of (a ∷ b ∷ c ∷ d ∷ e ∷ f ∷ g ∷ h ∷ s)) ≡ a ∷ b ∷ c ∷ d ∷ e ∷ f ∷ g ∷ h ∷ []
unfolding entry_of entry_bytes
bytes_back a b c d e f g h s ha hb hc hd he hf hg hh =
    let x : ℕ = a * 2 ^ 56 + b * 2 ^ 48 + c * 2 ^ 40 + d * 2 ^ 32 + e * 2 ^ 24 + f * 2 ^ 16 + g * 2 ^ 8 + h in
    let ea : x / 2 ^ 56 % 256 ≡ a = omega arith in
    let eb : x / 2 ^ 48 % 256 ≡ b = omega arith in
    let ec : x / 2 ^ 40 % 256 ≡ c = omega arith in
    let ed : x / 2 ^ 32 % 256 ≡ d = omega arith in
    let ee : x / 2 ^ 24 % 256 ≡ e = omega arith in
    let ef : x / 2 ^ 16 % 256 ≡ f = omega arith in
    let eg : x / 2 ^ 8 % 256 ≡ g = omega arith in
    let eh : x % 256 ≡ h = omega arith in
    λ i. ea i ∷ eb i ∷ ec i ∷ ed i ∷ ee i ∷ ef i ∷ eg i ∷ eh i ∷ []

entry_again : (s : List ℕ) → AreBytes s → entry_size ≤ length s → entry_bytes (entry_of s) ≡ take entry_size s
entry_again (a ∷ b ∷ c ∷ d ∷ e ∷ f ∷ g ∷ h ∷ s) t l = bytes_back a b c d e f g h s (t 0) (t 1) (t 2) (t 3) (t 4) (t 5) (t 6) (t 7)
entry_again [] t l = absurd (omega arith)
entry_again (a ∷ []) t l = absurd (omega arith)
entry_again (a ∷ b ∷ []) t l = absurd (omega arith)
entry_again (a ∷ b ∷ c ∷ []) t l = absurd (omega arith)
entry_again (a ∷ b ∷ c ∷ d ∷ []) t l = absurd (omega arith)
entry_again (a ∷ b ∷ c ∷ d ∷ e ∷ []) t l = absurd (omega arith)
entry_again (a ∷ b ∷ c ∷ d ∷ e ∷ f ∷ []) t l = absurd (omega arith)
entry_again (a ∷ b ∷ c ∷ d ∷ e ∷ f ∷ g ∷ []) t l = absurd (omega arith)

pub drop_bytes : (s : List ℕ) (k : ℕ) → AreBytes s → AreBytes (drop k s)
drop_bytes s k t i = subst (λ (x : ℕ). x < 2 ^ 8) (sym (get_or-drop k s i 0)) (t (k + i))

pub take_bytes : (s : List ℕ) (k : ℕ) → AreBytes s → AreBytes (take k s)
take_bytes s zero t i = lit< tt
take_bytes [] (suc k) t i = lit< tt
take_bytes (b ∷ s) (suc k) t zero = t 0
take_bytes (b ∷ s) (suc k) t (suc i) = take_bytes s k (λ j. t (suc j)) i

pub entries_again : (k : ℕ) (s : List ℕ) → AreBytes s → entry_size * k ≤ length s → entries_bytes (entries_of k s) ≡ take (entry_size * k) s
unfolding entries_of entries_bytes
entries_again zero s t l = refl
entries_again (suc k) s t l =
    let r : List ℕ = drop entry_size s in
    let e : entry_size + entry_size * k ≡ entry_size * suc k = omega arith in
    ap₂ (λ (a b : List ℕ). a ++ b) (entry_again s t (omega arith)) (entries_again k r (drop_bytes s entry_size t) (omega (arith, length-drop entry_size s)))
    ∙ sym (take-add entry_size (entry_size * k) s)
    ∙ ap (λ (j : ℕ). take j s) e

entry_fits : (s : List ℕ) → AreBytes s → entry_of s < 2 ^ 64
unfolding entry_of
entry_fits s t = omega (arith, t 0, t 1, t 2, t 3, t 4, t 5, t 6, t 7)

pub entries_fit : (k : ℕ) (s : List ℕ) → AreBytes s → AreEntries (entries_of k s)
unfolding entries_of
entries_fit zero s t i = lit< tt
entries_fit (suc k) s t zero = entry_fits s t
entries_fit (suc k) s t (suc i) = entries_fit k (drop entry_size s) (drop_bytes s entry_size t) i
