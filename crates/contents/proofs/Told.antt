-- What the answer that the form is good tells of the lines: the header was read, every send fits, and they ascend.
use Prim.Native.Nat.{◌+◌, ◌<◌, suc, zero, ℕ}
use mathlib.Core.Bool.{Bool, cond, false, true}
use mathlib.Core.List.{List, [], ◌∷◌, map}
use mathlib.Core.Logic.{◌⊎◌, inl, inr}
use Rattle.std.specs.Prelude.{Option, Some, None, Result, Ok, Err}
use mathlib.Core.Path.{◌∙◌, ◌≡◌, ap, refl, subst, sym}
use native.Mathlib.Numerals.{one-add}
use native.Mathlib.Omega.{arith}
use borrow.Author.Tests.{lt-ltb, ltb-true}
use lib.Dec.{eqb, leb, ltb}
use lib.ListN.{drop, get_or, length, take}
use lib.Seq.{drop-drop}
use Rattle.laws.specs.Members.{In}
use Rattle.laws.specs.Order.{ascends_from}
use Rattle.laws.proofs.Members.{same_eq}
use Rattle.laws.proofs.Tests.{both}
use Rattle.text.specs.Lines.{keyed, lines_of, value_of}
use Rattle.text.proofs.Keys.{key_starts}
use Rattle.schedule.specs.Forms.{form_after, form_of, form_sends, form_trays, is_end, is_tray, schedule_most}
use Rattle.header.specs.Header.{bad, headed_of, header_size}
use Rattle.schedule.specs.Keys.{end_key, send_key}
use Rattle.schedule.specs.Sends.{Send, fits, rank_in, rank_of, send_in, send_of}
use Rattle.header.specs.declared.BadLine.{BadLine}
use Rattle.header.specs.declared.Header.{Header}
use Rattle.header.proofs.Heads.{Whole, bad_read, header_told, read_is}
use Rattle.contents.specs.Contents.{header_of, sends_in, sends_of}
use Rattle.contents.proofs.Lines.{header_is}
use Rattle.contents.proofs.Walk.{sends_none, sends_some}

-- ---- lines that are sends, and the line that is none

-- the key `end=` is not the key `send=`
not_both : (l : List ℕ) → keyed end_key l ≡ true → keyed send_key l ≡ true → ⊥
not_both l a b =
    let p : 101 ≡ get_or (take 4 l) 0 0 = ap (λ (x : List ℕ). get_or x 0 0) (same_eq end_key (take 4 l) (key_starts end_key l a)) in
    let q : 115 ≡ get_or (take 5 l) 0 0 = ap (λ (x : List ℕ). get_or x 0 0) (same_eq send_key (take 5 l) (key_starts send_key l b)) in
    first l p q
  where
    first : (x : List ℕ) → 101 ≡ get_or (take 4 x) 0 0 → 115 ≡ get_or (take 5 x) 0 0 → ⊥
    first [] p q = omega arith
    first (y ∷ x) p q = omega arith

end_no_send : (l : List ℕ) → is_end l ≡ true → send_of l ≡ None
unfolding is_end send_of
end_no_send l e = go (keyed send_key l) refl
  where
    go : (t : Bool) → keyed send_key l ≡ t → cond t (send_in (value_of send_key l)) None ≡ None
    go true k = absurd (not_both l (both (keyed end_key l) (eqb (length l) (length end_key + 1)) e).0 k)
    go false k = refl

rank_told : (h : Header) (o : Option Send) (last : ℕ) → last < rank_in h o → (x : Send) × (o ≡ Some x) × (fits h x ≡ true) × (rank_in h o ≡ rank_of x)
unfolding rank_in
rank_told h None last l = absurd (omega arith)
rank_told h (Some x) last l = go (fits h x) refl l
  where
    go : (t : Bool) → fits h x ≡ t → last < cond t (rank_of x) 0
        → (y : Send) × (Some x ≡ Some y) × (fits h y ≡ true) × (cond (fits h x) (rank_of x) 0 ≡ rank_of y)
    go true f q = (x, refl, f, rw f refl)
    go false f q = absurd (omega arith)

-- ---- the sends of lines of good form

pub record Sends (h : Header) (last : ℕ) (xs : List Send) (z : Header) : Type 0 where
  pub same : h ≡ z
  pub fit : (x : Send) → In x xs → fits h x ≡ true
  pub order : ascends_from last (map rank_of xs) ≡ true

no_more : (h : Header) (last : ℕ) (z : Header) → h ≡ z → Sends h last [] z
no_more h last z e = record { same = e; fit = λ x i. absurd i; order = refl }

one_more : (h : Header) (last : ℕ) (z : Header) (x : Send) (xs : List Send) → last < rank_of x → fits h x ≡ true → Sends h (rank_of x) xs z
    → Sends h last (x ∷ xs) z
one_more h last z x xs l q r =
    record { same = r.same; fit = each; order = rw (lt-ltb last (rank_of x) l) r.order }
  where
    each : (y : Send) → (y ≡ x) ⊎ In y xs → fits h y ≡ true
    each y (inl e) = ap (fits h) e ∙ q
    each y (inr i) = r.fit y i

sends_told : (h : Header) (k last : ℕ) (ls : List (List ℕ)) (z : Header) → form_sends h k last ls ≡ Ok z → Sends h last (sends_in ls) z
unfolding form_sends
sends_told h k last [] z e = absurd (bad_read e)
sends_told h k last (l ∷ ls) z e = go (is_end l) refl e (λ a b q. sends_told h a b ls z q)
  where
    done : (t : Bool) → is_end l ≡ true → cond t (Ok h) (bad (k + 1)) ≡ Ok z → Sends h last (sends_in (l ∷ ls)) z
    done true a q = let g = read_is q in subst (λ (xs : List Send). Sends h last xs z) (sym (sends_none l ls (end_no_send l a)))
        (no_more h last z g)
    done false a q = absurd (bad_read q)

    next : (t : Bool) → ltb last (rank_in h (send_of l)) ≡ t → cond t (form_sends h (k + 1) (rank_in h (send_of l)) ls) (bad k) ≡ Ok z
        → ((a b : ℕ) → form_sends h a b ls ≡ Ok z → Sends h b (sends_in ls) z) → Sends h last (sends_in (l ∷ ls)) z
    next false b q ih = absurd (bad_read q)
    next true b q ih =
        let o : last < rank_in h (send_of l) = ltb-true last (rank_in h (send_of l)) b in
        let r = rank_told h (send_of l) last o in
        let s : Sends h (rank_of r.0) (sends_in ls) z = subst (λ (m : ℕ). Sends h m (sends_in ls) z) r.3 (ih (k + 1) (rank_in h
        (send_of l)) q) in
        subst (λ (xs : List Send). Sends h last xs z) (sym (sends_some l ls r.0 r.1))
        (one_more h last z r.0 (sends_in ls) (subst (λ (m : ℕ). last < m) r.3 o) r.2 s)

    go : (t : Bool) → is_end l ≡ t
        → cond t (cond (eqb (length ls) 0) (Ok h) (bad (k + 1))) (cond (ltb last (rank_in h (send_of l))) (form_sends h (k + 1) (rank_in h
        (send_of l)) ls) (bad k)) ≡ Ok z
        → ((a b : ℕ) → form_sends h a b ls ≡ Ok z → Sends h b (sends_in ls) z) → Sends h last (sends_in (l ∷ ls)) z
    go true a q ih = done (eqb (length ls) 0) a q
    go false a q ih = next (ltb last (rank_in h (send_of l))) refl q ih

trays_told : (h : Header) (k left : ℕ) (ls : List (List ℕ)) (z : Header) → form_trays h k left ls ≡ Ok z
    → (j : ℕ) × (form_sends h j 0 (drop left ls) ≡ Ok z)
unfolding form_trays
trays_told h k zero ls z e = (k, e)
trays_told h k (suc left) ls z e = go (is_tray (get_or ls 0 [])) e (λ q. trays_told h (k + 1) left (drop 1 ls) z q)
  where
    go : (t : Bool) → cond t (form_trays h (k + 1) left (drop 1 ls)) (bad k) ≡ Ok z
        → (form_trays h (k + 1) left (drop 1 ls) ≡ Ok z → (j : ℕ) × (form_sends h j 0 (drop left (drop 1 ls)) ≡ Ok z))
        → (j : ℕ) × (form_sends h j 0 (drop (suc left) ls) ≡ Ok z)
    go false q ih = absurd (bad_read q)
    go true q ih =
        let r = ih q in
        (r.0, ap (λ (xs : List (List ℕ)). form_sends h r.0 0 xs) (sym (drop-drop left 1 ls ∙ ap (λ (j : ℕ). drop j ls) (one-add left))) ∙ r.1)

-- ---- the whole schedule

pub record Held (s : List ℕ) (h : Header) : Type 0 where
  pub read : headed_of (lines_of s) ≡ Ok h
  pub whole : Whole (lines_of s) h
  pub sends : Sends h 0 (sends_of s) h

pub held : (s : List ℕ) (z : Header) → form_of s ≡ Ok z → Held s z
unfolding form_of form_after sends_of
held s z e = go (leb (length s) schedule_most) e
  where
    rest : (x : Result Header BadLine) → headed_of (lines_of s) ≡ x → form_after x (drop header_size (lines_of s)) ≡ Ok z → Held s z
    rest (Err b) r q = absurd (bad_read q)
    rest (Ok h) r q =
        let t = trays_told h (header_size + 1) h.n (drop header_size (lines_of s)) z q in
        let w = sends_told h t.0 0 (drop h.n (drop header_size (lines_of s))) z t.1 in
        let p : drop h.n (drop header_size (lines_of s)) ≡ drop (header_size + (header_of s).n) (lines_of s) =
        drop-drop h.n header_size (lines_of s) ∙ ap (λ (x : Header). drop (header_size + x.n) (lines_of s)) (sym (header_is s h r)) in
        let all : Sends h 0 (sends_of s) z = subst (λ (ls : List (List ℕ)). Sends h 0 (sends_in ls) z) p w in
        let read : headed_of (lines_of s) ≡ Ok z = r ∙ ap Ok w.same in
        record { read = read; whole = header_told (lines_of s) z read; sends = subst (λ (x : Header). Sends x 0 (sends_of s) z) w.same all }

    go : (t : Bool) → cond t (form_after (headed_of (lines_of s)) (drop header_size (lines_of s))) (bad 0) ≡ Ok z → Held s z
    go false q = absurd (bad_read q)
    go true q = rest (headed_of (lines_of s)) refl q
