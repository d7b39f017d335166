-- Sends: their numbers one after the other, the tests in their order, their rank.
use Prim.Native.Nat.{◌+◌, ◌<◌, ◌≤◌, ℕ}
use mathlib.Core.Bool.{Bool, ◌&&◌, cond, false, not, true}
use mathlib.Core.List.{List}
use Rattle.std.specs.Prelude.{Option, Some, None}
use mathlib.Core.Path.{◌∙◌, ◌≡◌, ap, refl, sym}
use borrow.Author.Tests.{leb-true, ltb-true, not-true}
use lib.Dec.{leb, ltb}
use lib.ListN.{length}
use Rattle.laws.proofs.Tests.{both, zero_one}
use Rattle.wire.specs.Sizes.{message_most}
use Rattle.text.specs.Hex.{hex_of}
use Rattle.text.specs.Lines.{keyed, value_of}
use Rattle.text.specs.Numbers.{field_of, word_most}
use Rattle.text.specs.Places.{comma, past}
use Rattle.text.proofs.Digits.{field_small}
use Rattle.schedule.specs.Keys.{send_key}
use Rattle.schedule.specs.Sends.{Send, fits, fitting, message_text, rank_in, rank_of, send_as, send_in, send_of, sending_as}
use Rattle.header.specs.Header.{faulty_bit}
use Rattle.header.specs.declared.Header.{Header}
use Rattle.schedule.specs.declared.Send.{Send as Numbered}
use Prim.Native.Nat.{◌-◌}
use mathlib.Core.Bool.{and-false}
use native.Mathlib.Omega.{arith}
use borrow.Author.Tests.{le-leb, le-ltb, lt-leb, lt-ltb}

-- ---- the three numbers of a send

module _ (v : List ℕ) where
  pub send_one : field_of comma word_most v ≡ None → send_in v ≡ None
  unfolding send_in send_as
  send_one a = simp a

  module _ (t : List ℕ) (e : t ≡ past comma v) (r : ℕ) (a : field_of comma word_most v ≡ Some r) where
    pub send_two : field_of comma word_most t ≡ None → send_in v ≡ None
    unfolding send_in send_as
    send_two b = let b' : field_of comma word_most (past comma v) ≡ None = rw e at b in simp (a, b')

    module _ (u : List ℕ) (d : u ≡ past comma t) (i : ℕ) (b : field_of comma word_most t ≡ Some i) where
      pub send_three : field_of comma word_most u ≡ None → send_in v ≡ None
      unfolding send_in send_as
      send_three w =
          let b' : field_of comma word_most (past comma v) ≡ Some i = rw e at b in
          let w' : field_of comma word_most (past comma (past comma v)) ≡ None = rw e at (rw d at w) in
          simp (a, b', w')

      pub send_whole : (j : ℕ) → field_of comma word_most u ≡ Some j
          → send_in v ≡ Some (record { round = r; from = i; to = j; message = hex_of (message_text v) })
      unfolding send_in send_as
      send_whole j w =
          let b' : field_of comma word_most (past comma v) ≡ Some i = rw e at b in
          let w' : field_of comma word_most (past comma (past comma v)) ≡ Some j = rw e at (rw d at w) in
          simp (a, b', w')

pub sending_none : (o : Option Send) → o ≡ None → None ≡ sending_as o
unfolding sending_as
sending_none o e = simp e

pub sending_some : (o : Option Send) (x : Send) → o ≡ Some x → Some (record { round = x.round; from = x.from; to = x.to }) ≡ sending_as o
unfolding sending_as
sending_some o x e = simp e

pub line_no : (l : List ℕ) → keyed send_key l ≡ false → None ≡ sending_as (send_of l)
unfolding send_of sending_as
line_no l e = simp e

pub line_yes : (l : List ℕ) → keyed send_key l ≡ true → sending_as (send_in (value_of send_key l)) ≡ sending_as (send_of l)
unfolding send_of
line_yes l e = simp e

-- ---- what a send that was read tells

-- the numbers read are small, and the send is they and its message
pub record Told (l : List ℕ) (x : Numbered) : Type 0 where
  pub is : send_of l ≡ Some (record { round = x.round; from = x.from; to = x.to; message = hex_of (message_text (value_of send_key l)) })
  pub round : x.round ≤ word_most
  pub from : x.from ≤ word_most
  pub to : x.to ≤ word_most

as_told : (x y z : Option ℕ) (m : List ℕ) (n : Numbered) → Some n ≡ sending_as (send_as x y z m) → (x ≡ Some n.round) × (y ≡ Some n.from) × (z ≡ Some n.to)
unfolding send_as sending_as
as_told (Some a) (Some b) (Some c) m n e =
    let p : n ≡ record { round = a; from = b; to = c } = cc in
    (ap (λ (q : Numbered). Some q.round) (sym p), ap (λ (q : Numbered). Some q.from) (sym p), ap (λ (q : Numbered). Some q.to) (sym p))
as_told (Some a) (Some b) None m n e = absurd (zero_one cc)
as_told (Some a) None z m n e = absurd (zero_one cc)
as_told None y z m n e = absurd (zero_one cc)

pub sent_told : (l : List ℕ) (x : Numbered) → Some x ≡ sending_as (send_of l) → Told l x
unfolding send_of send_in sending_as send_as
sent_told l x e = go (keyed send_key l) refl e
  where
    v : List ℕ
    v = value_of send_key l

    go : (t : Bool) → keyed send_key l ≡ t → Some x ≡ sending_as (cond t (send_in (value_of send_key l)) None) → Told l x
    go false k q = absurd (zero_one cc)
    go true k q =
        let a = as_told (field_of comma word_most v) (field_of comma word_most (past comma v)) (field_of comma word_most (past comma (past comma v)))
        (message_text v) x q in
        record {
          is = rw (k, a.0, a.1, a.2) refl;
          round = field_small comma word_most v x.round (sym a.0);
          from = field_small comma word_most (past comma v) x.from (sym a.1);
          to = field_small comma word_most (past comma (past comma v)) x.to (sym a.2);
        }

pub none_told : (o : Option Send) → None ≡ sending_as o → o ≡ None
unfolding sending_as
none_told None e = refl
none_told (Some x) e = absurd (zero_one cc)

-- ---- the tests in their order

-- what the tests tell
pub record Fitting (h : Header) (r i j size : ℕ) : Type 0 where
  pub early : 1 ≤ r
  pub late : r ≤ h.f + 1
  pub from : faulty_bit h i ≡ true
  pub node : j < h.n
  pub to : faulty_bit h j ≡ false
  pub least : 1 ≤ size
  pub most : size ≤ message_most

each : (a b c d e f g : Bool) → (a && (b && (c && (d && (e && (f && g)))))) ≡ true
    → (a ≡ true) × (b ≡ true) × (c ≡ true) × (d ≡ true) × (e ≡ true) × (f ≡ true) × (g ≡ true)
each a b c d e f g h =
    let p = both a (b && (c && (d && (e && (f && g))))) h in
    let q = both b (c && (d && (e && (f && g)))) p.1 in
    let r = both c (d && (e && (f && g))) q.1 in
    let s = both d (e && (f && g)) r.1 in
    let t = both e (f && g) s.1 in
    let u = both f g t.1 in
    (p.0, q.0, r.0, s.0, t.0, u.0, u.1)

pub fitting_told : (h : Header) (r i j size : ℕ) → fitting h r i j size ≡ true → Fitting h r i j size
unfolding fitting
fitting_told h r i j size e =
    let t = each (leb 1 r) (leb r (h.f + 1)) (faulty_bit h i) (ltb j h.n) (not (faulty_bit h j)) (leb 1 size) (leb size message_most) e in
    record {
      early = leb-true 1 r t.0;
      late = leb-true r (h.f + 1) t.1;
      from = t.2;
      node = ltb-true j h.n t.3;
      to = not-true (faulty_bit h j) t.4;
      least = leb-true 1 size t.5;
      most = leb-true size message_most t.6;
    }

-- ---- ranks

module _ (h : Header) (o : Option Send) where
  pub rank_none : o ≡ None → 0 ≡ rank_in h o
  unfolding rank_in
  rank_none e = simp e

  module _ (x : Send) (e : o ≡ Some x) where
    pub rank_unfit : fits h x ≡ false → 0 ≡ rank_in h o
    unfolding rank_in
    rank_unfit q = simp (e, q)

    pub rank_fit : fits h x ≡ true → rank_of x ≡ rank_in h o
    unfolding rank_in
    rank_fit q = simp (e, q)

-- the send of a line, by the numbers and the size that were read
pub fits_told : (h : Header) (l m : List ℕ) (r i j size : ℕ) → m ≡ message_text (value_of send_key l) → size ≡ length (hex_of m)
    → fitting h r i j size ≡ fits h (record { round = r; from = i; to = j; message = hex_of (message_text (value_of send_key l)) })
fits_told h l m r i j size e f = ap (fitting h r i j) (f ∙ ap (λ (t : List ℕ). length (hex_of t)) e)

-- ---- whether a send fits, each test by itself

module _ (h : Header) (r i j size : ℕ) where
  pub too_early : r < 1 → fitting h r i j size ≡ false
  unfolding fitting
  too_early l = simp (lt-leb _ _ l)

  pub too_late : 1 ≤ r → h.f < r - 1 → fitting h r i j size ≡ false
  unfolding fitting
  too_late a l = let b : h.f + 1 < r = omega arith in simp (lt-leb _ _ b, and-false)

  pub from_correct : faulty_bit h i ≡ false → fitting h r i j size ≡ false
  unfolding fitting
  from_correct e = simp (e, and-false)

  pub to_nobody : h.n ≤ j → fitting h r i j size ≡ false
  unfolding fitting
  to_nobody l = simp (le-ltb _ _ l, and-false)

  pub to_faulty : faulty_bit h j ≡ true → fitting h r i j size ≡ false
  unfolding fitting
  to_faulty e = simp (e, and-false)

  pub too_short : size < 1 → fitting h r i j size ≡ false
  unfolding fitting
  too_short l = simp (lt-leb _ _ l, and-false)

  pub by_size : 1 ≤ r → r - 1 ≤ h.f → faulty_bit h i ≡ true → j < h.n → faulty_bit h j ≡ false → 1 ≤ size
      → fitting h r i j size ≡ leb size message_most
  unfolding fitting
  by_size a b d e g l = let b' : r ≤ h.f + 1 = omega arith in simp (le-leb _ _ a, le-leb _ _ b', d, lt-ltb _ _ e, g, le-leb _ _ l)
