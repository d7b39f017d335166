-- Lists by commas: the items read and the parts that are left decide what the whole list is.
use Rattle.std.specs.Prelude.{MatchOption, Option, Some, None}
use Rattle.std.specs.Bool.{then_some}
use Prim.Native.Nat.{◌+◌, ◌-◌, ◌<◌, ◌≤◌, suc, ℕ}
use mathlib.Core.Bool.{Bool, ◌&&◌, ◌||◌, and-false, cond, false, true}
use mathlib.Core.List.{List, [], ◌++◌, ◌∷◌}
use mathlib.Core.Path.{◌∙◌, ◌≡◌, ap, refl, sym}
use native.Mathlib.Omega.{arith}
use borrow.Author.Tests.{eq-eqb, le-leb, lt-leb, ne_eqb}
use lib.Dec.{eqb, eqb-suc-zero, ltb}
use lib.ListN.{drop, get_or, length, length-append, replicate, set, take}
use lib.Seq.{append_snoc, set_at, take-length}
use Rattle.std.specs.List.{onto_first, slice_split}
use Rattle.std.proofs.lemmas.List.{drop_more, take-append-drop, take_more}
use Rattle.laws.specs.Masks.{count}
use Rattle.laws.specs.Order.{ascends, ascends_from}
use Rattle.rules.specs.Sizes.{batch_most, is_batch}
use Rattle.text.specs.Lists.{ahead, and_item, below_as, checked, item_of, items_of, list_of, listed_as, split}
use Rattle.text.specs.Places.{comma}
use Rattle.text.specs.declared.Kind.{Kind}

-- ---- the parts between commas, by the library's word

ahead_is : (b : ℕ) (ps : List (List ℕ)) → onto_first b ps ≡ ahead b ps
unfolding ahead
ahead_is b [] = refl
ahead_is b (p ∷ ps) = refl

abbrev pub parts_of : List ℕ → List (List ℕ)
parts_of s = slice_split (λ (b : ℕ). eqb b comma) s

split_is : (s : List ℕ) → parts_of s ≡ split comma s
unfolding split
split_is [] = refl
split_is (b ∷ s) =
    ap (λ (ps : List (List ℕ)). cond (eqb b comma) ([] ∷ ps) (onto_first b ps)) (split_is s)
    ∙ ap (λ (qs : List (List ℕ)). cond (eqb b comma) ([] ∷ split comma s) qs) (ahead_is b (split comma s))

-- ---- ascending

abbrev last_from : ℕ → List ℕ → ℕ
last_from d [] = d
last_from d (x ∷ xs) = last_from x xs

and_assoc : (a b c : Bool) → (a && (b && c)) ≡ ((a && b) && c)
and_assoc true b c = refl
and_assoc false b c = refl

from_seam : (d : ℕ) (xs : List ℕ) (x : ℕ) (ys : List ℕ) → ascends_from d (xs ++ (x ∷ ys)) ≡ (ascends_from d xs && (ltb
    (last_from d xs) x && ascends_from x ys))
from_seam d [] x ys = refl
from_seam d (y ∷ xs) x ys = ap (λ (t : Bool). ltb d y && t) (from_seam y xs x ys)
    ∙ and_assoc (ltb d y) (ascends_from y xs) (ltb (last_from y xs) x && ascends_from x ys)

seam : (xs : List ℕ) (x : ℕ) (ys : List ℕ) → ascends (xs ++ (x ∷ ys)) ≡ (ascends xs && ((eqb (length xs) 0 || ltb
    (last_from 0 xs) x) && ascends_from x ys))
seam [] x ys = refl
seam (y ∷ xs) x ys = from_seam y xs x ys ∙ ap (λ (t : Bool). ascends_from y xs && ((t || ltb (last_from y xs) x) && ascends_from x ys)) (sym
    (eqb-suc-zero (length xs)))

last_snoc : (d : ℕ) (xs : List ℕ) (x : ℕ) → last_from d (xs ++ (x ∷ [])) ≡ x
last_snoc d [] x = refl
last_snoc d (y ∷ xs) x = last_snoc y xs x

-- ---- numbers below n

-- what a filter keeps of a number that was read, where its test is that the number is below n
pub below_kept : (n : ℕ) (Gives : ℕ → Bool → Type 0) → ((v : ℕ) (b : Bool) → Gives v b → b ≡ ltb v n) → (read kept : Option ℕ)
    → MatchOption read (kept ≡ None) (λ v. (b : Bool) × Gives v b × (kept ≡ then_some b v)) → kept ≡ below_as n read
unfolding below_as
below_kept n Gives test None kept e = e
below_kept n Gives test (Some v) kept (b, gives, e) = e ∙ go b ∙ ap (λ (t : Bool). cond t (Some v) None) (test v b gives)
  where
    go : (t : Bool) → then_some t v ≡ cond t (Some v) None
    go true = refl
    go false = refl

-- ---- the answer, once some items are read

abbrev front : List ℕ → Option (List ℕ) → Option (List ℕ)
front xs None = None
front xs (Some ys) = Some (xs ++ ys)

front_none : (o : Option (List ℕ)) → front [] o ≡ o
front_none None = refl
front_none (Some ys) = refl

unordered_case : (xs : List ℕ) (x : ℕ) (o : Option (List ℕ)) → (eqb (length xs) 0 || ltb (last_from 0 xs) x) ≡ false
    → checked (front xs (and_item (Some x) o)) ≡ None
unfolding and_item checked is_batch
unordered_case xs x None e = refl
unordered_case xs x (Some ys) e =
    let f : ascends (xs ++ (x ∷ ys)) ≡ false = seam xs x ys ∙ simp (e, and-false) in
    simp (f, and-false)

full_case : (xs : List ℕ) (x : Option ℕ) (o : Option (List ℕ)) → length xs ≡ batch_most → checked (front xs (and_item x o)) ≡ None
unfolding and_item checked is_batch
full_case xs None o e = refl
full_case xs (Some x) None e = refl
full_case xs (Some x) (Some ys) e =
    let l : batch_most < length (xs ++ (x ∷ ys)) = omega (arith, length-append xs (x ∷ ys)) in
    simp (lt-leb _ _ l)

-- the items of parts that are joined
joined : Option (List ℕ) → Option (List ℕ) → Option (List ℕ)
joined None o = None
joined (Some xs) o = front xs o

and_joined : (v : Option ℕ) (a b : Option (List ℕ)) → and_item v (joined a b) ≡ joined (and_item v a) b
unfolding and_item joined
and_joined None a b = refl
and_joined (Some x) None b = refl
and_joined (Some x) (Some ys) None = refl
and_joined (Some x) (Some ys) (Some zs) = refl

items_joined : (kind : Kind) (ps qs : List (List ℕ)) → items_of kind (ps ++ qs) ≡ joined (items_of kind ps) (items_of kind qs)
unfolding items_of joined
items_joined kind [] qs = sym (front_none (items_of kind qs))
items_joined kind (p ∷ ps) qs =
    ap (and_item (item_of kind p)) (items_joined kind ps qs) ∙ and_joined (item_of kind p) (items_of kind ps) (items_of kind qs)

-- what the loop keeps: the items of the first n parts, ascending, and the places not used are zero
pub record Going (kind : Kind) (s items : List ℕ) (count last n : ℕ) : Type 0 where
  pub xs : List ℕ
  pub shape : items ≡ xs ++ replicate (batch_most - count) 0
  pub size : length xs ≡ count
  pub few : count ≤ batch_most
  pub order : ascends xs ≡ true
  pub tip : last ≡ last_from 0 xs
  pub read : items_of kind (take n (parts_of s)) ≡ Some xs

pub going_start : (kind : Kind) (s : List ℕ) → Going kind s (replicate batch_most 0) 0 0 0
unfolding items_of
going_start kind s = record { xs = []; shape = refl; size = refl; few = omega arith; order = refl; tip = refl; read = refl }

pub no_items : (kind : Kind) (s : List ℕ) → length s ≡ 0 → list_of kind s ≡ Some []
unfolding list_of
no_items kind s h = simp (eq-eqb _ _ h)

some_items : (kind : Kind) (s : List ℕ) → (length s ≡ 0 → ⊥) → list_of kind s ≡ checked (items_of kind (parts_of s))
unfolding list_of
some_items kind s h = simp (ne_eqb _ _ h) (ap (λ (ps : List (List ℕ)). checked (items_of kind ps)) (sym (split_is s)))

pub listed_is : (zs items : List ℕ) (n : ℕ) → length zs ≡ n → items ≡ zs ++ replicate (batch_most - n) 0
    → Some (record { count = n; entries = items }) ≡ listed_as (Some zs)
unfolding listed_as
listed_is zs items n e f = λ i. Some (record { count = sym e i; entries = (f ∙ ap (λ (k : ℕ). zs ++ replicate (batch_most - k) 0) (sym e)) i })

pub none_listed : {o : Option (List ℕ)} → o ≡ None → None ≡ listed_as o
unfolding listed_as
none_listed e = ap listed_as (sym e)

-- one turn, at the part p, where there are some bytes
module _ (kind : Kind) (s items : List ℕ) (count last n : ℕ) (g : Going kind s items count last n) (h : length s ≡ 0 → ⊥) (p : List ℕ)
    (there : n < length (parts_of s)) (pe : p ≡ get_or (parts_of s) n p) where
  ps : List (List ℕ)
  ps = parts_of s

  after : List (List ℕ)
  after = drop (n + 1) ps

  cut : list_of kind s ≡ checked (front g.xs (and_item (item_of kind p) (items_of kind after)))
  unfolding items_of joined after ps
  cut =
      some_items kind s h
      ∙ ap (λ (qs : List (List ℕ)). checked (items_of kind qs)) (sym (take-append-drop n (parts_of s)))
      ∙ ap checked (items_joined kind (take n (parts_of s)) (drop n (parts_of s)))
      ∙ ap (λ (o : Option (List ℕ)). checked (joined o (items_of kind (drop n (parts_of s))))) g.read
      ∙ ap (λ (qs : List (List ℕ)). checked (front g.xs (items_of kind qs)))
      (drop_more (parts_of s) n p there ∙ ap (λ (q : List ℕ). q ∷ drop (n + 1) (parts_of s)) (sym pe))

  pub item_bad : item_of kind p ≡ None → list_of kind s ≡ None
  unfolding and_item checked
  item_bad e = cut ∙ ap (λ (v : Option ℕ). checked (front g.xs (and_item v (items_of kind after)))) e

  pub item_full : count ≡ batch_most → list_of kind s ≡ None
  item_full e = cut ∙ full_case g.xs (item_of kind p) (items_of kind after) (g.size ∙ e)

  module _ (x : ℕ) (xe : item_of kind p ≡ Some x) where
    pub item_low : (eqb count 0 || ltb last x) ≡ false → list_of kind s ≡ None
    item_low e =
        let f : (eqb (length g.xs) 0 || ltb (last_from 0 g.xs) x) ≡ false = rw (g.size, ← g.tip) e in
        cut ∙ ap (λ (v : Option ℕ). checked (front g.xs (and_item v (items_of kind after)))) xe ∙ unordered_case g.xs x (items_of kind after) f

    pub item_next : count < batch_most → (eqb count 0 || ltb last x) ≡ true → Going kind s (set items count x) (count + 1) x (n + 1)
    unfolding items_of joined and_item ps
    item_next room o = record {
      xs = g.xs ++ (x ∷ []);
      shape =
          let m : batch_most - count ≡ suc (batch_most - (count + 1)) = omega arith in
          ap (λ (l : List ℕ). set l count x) (g.shape ∙ ap (λ (j : ℕ). g.xs ++ replicate j 0) m)
          ∙ set_at g.xs 0 (replicate (batch_most - (count + 1)) 0) x count g.size
          ∙ sym (append_snoc g.xs x (replicate (batch_most - (count + 1)) 0));
      size = let e = g.size in omega (arith, length-append g.xs (x ∷ []));
      few = omega arith;
      order =
          let f : (eqb (length g.xs) 0 || ltb (last_from 0 g.xs) x) ≡ true = rw (g.size, ← g.tip) o in
          seam g.xs x [] ∙ simp (g.order, f);
      tip = sym (last_snoc 0 g.xs x);
      read =
          ap (items_of kind) (take_more (parts_of s) n p there ∙ ap (λ (q : List ℕ). take n (parts_of s) ++ (q ∷ [])) (sym pe))
          ∙ items_joined kind (take n (parts_of s)) (p ∷ [])
          ∙ simp (g.read, xe);
    }

-- all the parts are read
pub items_end : (kind : Kind) (s items : List ℕ) (count last n : ℕ) → Going kind s items count last n → (length s ≡ 0 → ⊥)
    → n ≡ length (parts_of s) → Some (record { count = count; entries = items }) ≡ listed_as (list_of kind s)
unfolding checked is_batch
items_end kind s items count last n g h e =
    let all : take n (parts_of s) ≡ parts_of s = ap (λ (k : ℕ). take k (parts_of s)) e ∙ take-length (parts_of s) in
    let few : length g.xs ≤ batch_most = let a = g.size in let b = g.few in omega arith in
    let read : items_of kind (parts_of s) ≡ Some g.xs = ap (items_of kind) (sym all) ∙ g.read in
    let whole : list_of kind s ≡ Some g.xs = some_items kind s h ∙ ap checked read ∙ simp (le-leb _ _ few, g.order) in
    listed_is g.xs items count g.size g.shape ∙ ap listed_as (sym whole)
