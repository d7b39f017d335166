-- The header: what each line makes of it, and the lines one after the other.
use Prim.Native.Nat.{◌*◌, ◌<◌, ◌≤◌, ℕ}
use mathlib.Core.Bool.{Bool, ◌||◌, cond, false, true}
use mathlib.Core.List.{List, [], ◌∷◌}
use Rattle.std.specs.Prelude.{Option, Some, None, Result, Ok, Err, ok_or}
use Rattle.std.specs.List.{list_any}
use mathlib.Core.Path.{◌∙◌, ◌≡◌, ap, ap₂, refl, sym}
use native.Mathlib.Omega.{arith}
use borrow.Author.Tests.{le-leb, le-ltb, leb-true, lt-leb, lt-ltb, ltb-true}
use lib.Dec.{eqb, leb, ltb}
use lib.ListN.{drop, get_or, length, take}
use lib.Seq.{length-take-le}
use Rattle.laws.proofs.Tests.{zero_one}
use Rattle.laws.specs.Members.{any, holds}
use Rattle.rules.specs.Sizes.{batch_most, sized}
use Rattle.text.specs.Lines.{list_line, number_line}
use Rattle.text.specs.Lists.{listed_as}
use Rattle.entries.specs.declared.places.Places.{Places}
use Rattle.text.specs.Numbers.{word_most}
use Rattle.text.specs.declared.Kind.TheVariants.{Below}
use Rattle.text.proofs.Handed.{listed_none, listed_room, listed_some}
use Rattle.header.specs.Header.{and_then, bad, head_from, headed_of, mask_in, no_header, with_faults, with_faulty, with_line, with_nodes}
use Rattle.header.specs.Keys.{faults_key, faulty_key, nodes_key}
use Rattle.header.specs.declared.Key.TheVariants.{Faults, Faulty, Nodes}
use Rattle.header.specs.declared.BadLine.{BadLine}
use Rattle.header.specs.declared.Header.{Header}

-- ---- the library's words

-- what is refused where a line says nothing is that line
pub refused : {A : Type 0} (o : Option A) (b d : BadLine) → ◌≡◌ {A = Result A BadLine} (Err b) (ok_or o d) → b ≡ d
refused None b d e = cc
refused (Some x) b d e = absurd (zero_one cc)

any_is : (t : ℕ → Bool) (xs : List ℕ) → list_any t xs ≡ any t xs
any_is t [] = refl
any_is t (x ∷ xs) = ap (λ (b : Bool). t x || b) (any_is t xs)

pub holds_is : (j : ℕ) (xs : List ℕ) → list_any (λ (x : ℕ). eqb x j) xs ≡ holds j xs
holds_is j xs = any_is (λ (x : ℕ). eqb x j) xs

-- ---- one line

module _ (k : ℕ) (h : Header) (x : Option ℕ) where
  pub nodes_none : x ≡ None → with_nodes k h x ≡ bad k
  unfolding with_nodes
  nodes_none e = simp e

  pub faults_none : x ≡ None → with_faults k h x ≡ bad k
  unfolding with_faults
  faults_none e = simp e

  module _ (v : ℕ) (e : x ≡ Some v) where
    pub nodes_bad : sized v ≡ false → with_nodes k h x ≡ bad k
    unfolding with_nodes
    nodes_bad q = simp (e, q)

    pub nodes_good : sized v ≡ true → with_nodes k h x ≡ Ok (record { n = v; f = h.f; faulty = h.faulty })
    unfolding with_nodes
    nodes_good q = simp (e, q)

    pub faults_many : h.n ≤ 2 * v → with_faults k h x ≡ bad k
    unfolding with_faults
    faults_many l = simp (e, le-ltb _ _ l)

    pub faults_few : 2 * v < h.n → with_faults k h x ≡ Ok (record { n = h.n; f = v; faulty = h.faulty })
    unfolding with_faults
    faults_few l = simp (e, lt-ltb _ _ l)

module _ (k : ℕ) (h : Header) (o : Option (List ℕ)) where
  pub faulty_bad : None ≡ listed_as o → with_faulty k h o ≡ bad k
  unfolding with_faulty
  faulty_bad e = ap (with_faulty k h) (listed_none o e)

  module _ (l : Places batch_most) (e : Some l ≡ listed_as o) where
    faulty_size : length (take l.count l.entries) ≡ l.count
    faulty_size = length-take-le l.count l.entries (listed_room o l e)

    pub faulty_many : h.f < l.count → with_faulty k h o ≡ bad k
    unfolding with_faulty
    faulty_many m =
        let q : h.f < length (take l.count l.entries) = omega (arith, faulty_size) in
        ap (with_faulty k h) (listed_some o l e) ∙ simp (lt-leb _ _ q)

    pub faulty_few : (m : ℕ) → l.count ≤ h.f → m ≡ mask_in (take l.count l.entries)
        → with_faulty k h o ≡ Ok (record { n = h.n; f = h.f; faulty = m })
    unfolding with_faulty
    faulty_few m s q =
        let b : length (take l.count l.entries) ≤ h.f = omega (arith, faulty_size) in
        ap (with_faulty k h) (listed_some o l e)
        ∙ simp (le-leb _ _ b) (ap (λ (y : ℕ). Ok (record { n = h.n; f = h.f; faulty = y })) (sym q))

-- ---- one line after the other: what their numbers and their list decide

module _ (ls : List (List ℕ)) where
  abbrev pub first : Result Header BadLine
  first = with_nodes 1 no_header (number_line nodes_key word_most (get_or ls 0 []))

  abbrev pub second : Header → Result Header BadLine
  second h = with_faults 2 h (number_line faults_key word_most (get_or (drop 1 ls) 0 []))

  abbrev pub third : Header → Result Header BadLine
  third h = with_faulty 3 h (list_line faulty_key (Below h.n) (get_or (drop 1 (drop 1 ls)) 0 []))

  headed_is : headed_of ls ≡ and_then first (λ (x : Header). and_then (second x) (λ (y : Header). and_then (third y) (λ (z : Header). Ok z)))
  unfolding head_from with_line
  headed_is = refl

  module _ (before : Header) (z : before ≡ no_header) (l : List ℕ) (le : l ≡ get_or ls 0 []) where
    first_is : with_nodes 1 before (number_line nodes_key word_most l) ≡ first
    first_is = ap₂ (λ (x : Header) (m : List ℕ). with_nodes 1 x (number_line nodes_key word_most m)) z le

    pub head_one : (b : BadLine) → Err b ≡ with_nodes 1 before (number_line nodes_key word_most l) → headed_of ls ≡ Err b
    unfolding and_then
    head_one b e = let q : first ≡ Err b = sym (e ∙ first_is) in headed_is ∙ simp q

    module _ (h : Header) (e : Ok h ≡ with_nodes 1 before (number_line nodes_key word_most l)) (ms : List (List ℕ)) (me : ms ≡ drop 1 ls) (m : List ℕ)
        (mf : m ≡ get_or ms 0 []) where
      first_read : first ≡ Ok h
      first_read = sym (e ∙ first_is)

      second_is : with_faults 2 h (number_line faults_key word_most m) ≡ second h
      second_is = ap (λ (q : List ℕ). with_faults 2 h (number_line faults_key word_most q)) (mf ∙ ap (λ (qs : List (List ℕ)). get_or qs 0 []) me)

      pub head_two : (b : BadLine) → Err b ≡ with_faults 2 h (number_line faults_key word_most m) → headed_of ls ≡ Err b
      unfolding and_then
      head_two b d = let q : second h ≡ Err b = sym (d ∙ second_is) in headed_is ∙ simp (first_read, q)

      pub head_three : (y : Header) → Ok y ≡ with_faults 2 h (number_line faults_key word_most m) → (os : List (List ℕ)) → os ≡ drop 1 ms → (o : List ℕ)
          → o ≡ get_or os 0 [] → headed_of ls ≡ with_faulty 3 y (list_line faulty_key (Below y.n) o)
      unfolding and_then
      head_three y d os oe o of =
          let q : second h ≡ Ok y = sym (d ∙ second_is) in
          let line : o ≡ get_or (drop 1 (drop 1 ls)) 0 [] = of ∙ ap (λ (qs : List (List ℕ)). get_or qs 0 []) (oe ∙ ap (drop 1) me) in
          headed_is ∙ simp (first_read, q) (go (third y) ∙ ap (λ (p : List ℕ). with_faulty 3 y (list_line faulty_key (Below y.n) p)) (sym line))
        where
          go : (r : Result Header BadLine) → and_then r (λ (z : Header). Ok z) ≡ r
          go (Ok z) = refl
          go (Err b) = refl

-- the header that the reading starts from
pub header_zero : (h : Header) → h.n ≡ 0 → h.f ≡ 0 → h.faulty ≡ 0 → h ≡ no_header
header_zero h a b d = λ i. record { n = a i; f = b i; faulty = d i }

-- ---- what a header that was read tells

pub read_is : {a b : Header} → ◌≡◌ {A = Result Header BadLine} (Ok a) (Ok b) → a ≡ b
read_is e = cc

pub bad_read : {b : BadLine} {h : Header} → ◌≡◌ {A = Result Header BadLine} (Err b) (Ok h) → ⊥
bad_read e = zero_one cc

then_told : (x : Result Header BadLine) (g : Header → Result Header BadLine) (z : Header) → and_then x g ≡ Ok z → (h : Header) × (x ≡ Ok h) × (g h ≡ Ok z)
unfolding and_then
then_told (Ok h) g z e = (h, refl, e)
then_told (Err b) g z e = absurd (bad_read e)

nodes_told : (k : ℕ) (h y : Header) (x : Option ℕ) → with_nodes k h x ≡ Ok y → sized y.n ≡ true
unfolding with_nodes
nodes_told k h y None e = absurd (bad_read e)
nodes_told k h y (Some n) e = go (sized n) refl e
  where
    go : (t : Bool) → sized n ≡ t → cond t (Ok (record { n = n; f = h.f; faulty = h.faulty })) (bad k) ≡ Ok y → sized y.n ≡ true
    go true s q = ap (λ (z : Header). sized z.n) (sym (read_is q)) ∙ s
    go false s q = absurd (bad_read q)

faults_told : (k : ℕ) (h y : Header) (x : Option ℕ) → with_faults k h x ≡ Ok y → (y.n ≡ h.n) × (2 * y.f < y.n)
unfolding with_faults
faults_told k h y None e = absurd (bad_read e)
faults_told k h y (Some f) e = go (ltb (2 * f) h.n) refl e
  where
    go : (t : Bool) → ltb (2 * f) h.n ≡ t → cond t (Ok (record { n = h.n; f = f; faulty = h.faulty })) (bad k) ≡ Ok y
        → (y.n ≡ h.n) × (2 * y.f < y.n)
    go true s q =
        let a : h.n ≡ y.n = ap (λ (z : Header). z.n) (read_is q) in
        let b : f ≡ y.f = ap (λ (z : Header). z.f) (read_is q) in
        (sym a, omega (arith, ltb-true (2 * f) h.n s))
    go false s q = absurd (bad_read q)

faulty_told : (k : ℕ) (h y : Header) (o : Option (List ℕ)) → with_faulty k h o ≡ Ok y
    → (xs : List ℕ) × (o ≡ Some xs) × (length xs ≤ y.f) × (y.n ≡ h.n) × (y.f ≡ h.f) × (y.faulty ≡ mask_in xs)
unfolding with_faulty
faulty_told k h y None e = absurd (bad_read e)
faulty_told k h y (Some xs) e = go (leb (length xs) h.f) refl e
  where
    go : (t : Bool) → leb (length xs) h.f ≡ t → cond t (Ok (record { n = h.n; f = h.f; faulty = mask_in xs })) (bad k) ≡ Ok y
        → (zs : List ℕ) × (Some xs ≡ Some zs) × (length zs ≤ y.f) × (y.n ≡ h.n) × (y.f ≡ h.f) × (y.faulty ≡ mask_in zs)
    go true s q =
        let a : h.n ≡ y.n = ap (λ (z : Header). z.n) (read_is q) in
        let b : h.f ≡ y.f = ap (λ (z : Header). z.f) (read_is q) in
        let c : mask_in xs ≡ y.faulty = ap (λ (z : Header). z.faulty) (read_is q) in
        (xs, refl, omega (arith, leb-true (length xs) h.f s), sym a, sym b, sym c)
    go false s q = absurd (bad_read q)

pub record Whole (ls : List (List ℕ)) (h : Header) : Type 0 where
  pub nodes : sized h.n ≡ true
  pub half : 2 * h.f < h.n
  pub faulty : List ℕ
  pub listed : list_line faulty_key (Below h.n) (get_or (drop 1 (drop 1 ls)) 0 []) ≡ Some faulty
  pub few : length faulty ≤ h.f
  pub mask : h.faulty ≡ mask_in faulty

pub header_told : (ls : List (List ℕ)) (h : Header) → headed_of ls ≡ Ok h → Whole ls h
unfolding head_from with_line
header_told ls h e =
    let a = then_told (with_line Nodes 1 no_header (get_or ls 0 [])) (λ (x : Header). head_from (Faults ∷ Faulty ∷ []) 2 x (drop 1 ls)) h e in
    let b = then_told (with_line Faults 2 a.0 (get_or (drop 1 ls) 0 [])) (λ (x : Header). head_from (Faulty ∷ []) 3 x (drop 1 (drop 1 ls))) h a.2 in
    let d = then_told (with_line Faulty 3 b.0 (get_or (drop 1 (drop 1 ls)) 0 [])) (λ (x : Header). Ok x) h b.2 in
    let p = nodes_told 1 no_header a.0 (number_line nodes_key word_most (get_or ls 0 [])) a.1 in
    let q = faults_told 2 a.0 b.0 (number_line faults_key word_most (get_or (drop 1 ls) 0 [])) b.1 in
    let w = faulty_told 3 b.0 h (list_line faulty_key (Below b.0.n) (get_or (drop 1 (drop 1 ls)) 0 [])) (d.1 ∙ d.2) in
    let n : h.n ≡ b.0.n = w.3 in
    let f : h.f ≡ b.0.f = w.4 in
    record {
      nodes = ap sized (n ∙ q.0) ∙ p;
      half = omega (arith, q.1, n, f);
      faulty = w.0;
      listed = ap (λ (k : ℕ). list_line faulty_key (Below k) (get_or (drop 1 (drop 1 ls)) 0 [])) n ∙ w.1;
      few = w.2;
      mask = w.5;
    }
