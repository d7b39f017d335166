-- What the run needs of a schedule of good form: its sizes, its faulty nodes, its trays, its sends and their order.
use Prim.Native.Nat.{◌*◌, ◌+◌, ◌<◌, ◌^◌, ◌≤◌, ℕ}
use mathlib.Core.Bool.{Bool, false, true}
use mathlib.Core.List.{List, [], ◌∷◌, map}
use mathlib.Core.Logic.{◌⊎◌, inl, inr, ⊎_elim}
use Rattle.std.specs.Prelude.{Option, Some, None, Ok}
use mathlib.Core.Path.{◌∙◌, ◌≡◌, ap, refl, subst, sym}
use native.Mathlib.Omega.{arith}
use borrow.Author.Tests.{eqb-true}
use lib.Dec.{eqb, leb}
use lib.ListN.{get_or-eq_default, drop, get_or, length}
use Rattle.laws.specs.Masks.{count}
use Rattle.laws.specs.Members.{In, holds}
use Rattle.laws.specs.Order.{ascends}
use Rattle.laws.proofs.Members.{at_in}
use Rattle.laws.proofs.Order.{lt_or_ge, rest_ascends}
use Rattle.laws.proofs.Tests.{both, clash, other}
use Rattle.rules.specs.Sizes.{batch_most, is_batch, sized}
use Rattle.rules.proofs.Sizes.{sized_most}
use Rattle.entries.specs.Bytes.{AreBytes, AreEntries}
use Rattle.wire.specs.Sizes.{message_most}
use Rattle.text.specs.Lines.{lines_of, list_line}
use Rattle.text.specs.declared.Kind.TheVariants.{Below, Entry}
use Rattle.text.proofs.Listed.{below_small, entry_item, line_batch, line_read}
use Rattle.schedule.specs.Forms.{form_of}
use Rattle.header.specs.Header.{header_size}
use Rattle.header.specs.Keys.{faulty_key}
use Rattle.schedule.specs.Keys.{tray_key}
use Rattle.schedule.specs.Sends.{Send, rank_of}
use Rattle.header.specs.declared.Header.{Header}
use Rattle.schedule.proofs.Fits.{fitting_told}
use Rattle.contents.specs.Contents.{entries_of_tray, faulty_of, header_of, is_faulty, items_in, sends_of}
use Rattle.contents.proofs.Bytes.{sends_bytes}
use Rattle.contents.proofs.Faults.{bit_correct, bit_faulty, count_listed, faulty_is}
use Rattle.contents.proofs.Lines.{header_is}
use Rattle.contents.proofs.Told.{Held, held}

held_in : (e : ℕ) (xs : List ℕ) → holds e xs ≡ true → In e xs
held_in e [] h = absurd (clash h refl)
held_in e (x ∷ xs) h = go (eqb x e) refl (λ q. held_in e xs q)
  where
    go : (t : Bool) → eqb x e ≡ t → (holds e xs ≡ true → In e xs) → (e ≡ x) ⊎ In e xs
    go true q rest = inl (sym (eqb-true x e q))
    go false q rest = inr (rest (other (eqb x e) (holds e xs) h q))

-- a send of a schedule for n nodes of which f may be faulty
pub record Fair (s : List ℕ) (n f : ℕ) (x : Send) : Type 0 where
  pub round_least : 1 ≤ x.round
  pub round_most : x.round ≤ f + 1
  pub from_faulty : is_faulty s x.from ≡ true
  pub from_node : x.from < n
  pub to_node : x.to < n
  pub to_correct : is_faulty s x.to ≡ false
  pub size_least : 1 ≤ length x.message
  pub size_most : length x.message ≤ message_most
  pub bytes : AreBytes x.message

module _ (s : List ℕ) (h : Header) (good : form_of s ≡ Ok h) where
  is : Held s h
  is = held s h good

  -- the header that is read is the one that the form hands on
  pub good_header : header_of s ≡ h
  good_header = header_is s h is.read

  -- 1 to 16 nodes, and 2f < n
  pub good_sizes : (sized h.n ≡ true) × (2 * h.f < h.n)
  good_sizes = (is.whole.nodes, is.whole.half)

  -- at most f faulty nodes
  pub faulty_few : length (faulty_of s) ≤ h.f
  faulty_few = omega (arith, ap length (faulty_is s h is.read is.whole), is.whole.few)

  -- strictly ascending
  pub faulty_ascends : ascends (faulty_of s) ≡ true
  unfolding is_batch
  faulty_ascends =
      let b = line_batch faulty_key (Below h.n) (get_or (drop 1 (drop 1 (lines_of s))) 0 []) is.whole.faulty is.whole.listed in
      ap ascends (faulty_is s h is.read is.whole)
      ∙ (both (leb (length is.whole.faulty) batch_most) (ascends is.whole.faulty) b).1

  -- a faulty node is one of the n
  pub faulty_node : (j : ℕ) → is_faulty s j ≡ true → j < h.n
  faulty_node j q =
      let i : In j is.whole.faulty = subst (In j) (faulty_is s h is.read is.whole) (held_in j (faulty_of s) q) in
      let r = line_read faulty_key (Below h.n) (get_or (drop 1 (drop 1 (lines_of s))) 0 []) is.whole.faulty is.whole.listed j i in
      omega (arith, below_small h.n r.0 j r.1)

  -- counted among the n
  pub faulty_count : count (is_faulty s) h.n ≤ h.f
  faulty_count = omega (arith, count_listed (faulty_of s) h.n, faulty_few)

  -- sends ascend strictly by round, from, to
  pub sends_ascend : ascends (map rank_of (sends_of s)) ≡ true
  sends_ascend = rest_ascends 0 (map rank_of (sends_of s)) is.sends.order

  -- what is asked of a send
  pub good_send : (x : Send) → In x (sends_of s) → Fair s h.n h.f x
  good_send x i =
      let t = fitting_told h x.round x.from x.to (length x.message) (is.sends.fit x i) in
      let from = bit_faulty s h is.read x.from t.from in
      let most = sized_most h.n is.whole.nodes in
      let to : x.to < h.n = t.node in
      record {
        round_least = t.early;
        round_most = t.late;
        from_faulty = from.1;
        from_node = faulty_node x.from from.1;
        to_node = to;
        to_correct = bit_correct s h is.read x.to (omega arith) t.to;
        size_least = t.least;
        size_most = t.most;
        bytes = sends_bytes s x i;
      }

-- ---- trays, of any text

tray_told : (s : List ℕ) (i : ℕ) (o : Option (List ℕ)) → list_line tray_key Entry (get_or (lines_of s) (header_size + i) []) ≡ o
    → (is_batch (items_in o) ≡ true) × AreEntries (items_in o)
unfolding items_in is_batch
tray_told s i None e = (refl, λ k. omega arith)
tray_told s i (Some xs) e = (line_batch tray_key Entry (get_or (lines_of s) (header_size + i) []) xs e, small)
  where
    small : (k : ℕ) → get_or xs k 0 < 2 ^ 64
    small k = ⊎_elim inside outside (lt_or_ge k (length xs))
      where
        inside : k < length xs → get_or xs k 0 < 2 ^ 64
        inside l =
            let r = line_read tray_key Entry (get_or (lines_of s) (header_size + i) []) xs e (get_or xs k 0) (at_in xs k 0 l) in
            entry_item r.0 (get_or xs k 0) r.1

        outside : length xs ≤ k → get_or xs k 0 < 2 ^ 64
        outside l = omega (arith, get_or-eq_default xs 0 l)

-- every tray's entries are a batch, and entries
pub tray_batch : (s : List ℕ) (i : ℕ) → is_batch (entries_of_tray s i) ≡ true
tray_batch s i = (tray_told s i (list_line tray_key Entry (get_or (lines_of s) (header_size + i) [])) refl).0

pub tray_entries : (s : List ℕ) (i : ℕ) → AreEntries (entries_of_tray s i)
tray_entries s i = (tray_told s i (list_line tray_key Entry (get_or (lines_of s) (header_size + i) [])) refl).1
