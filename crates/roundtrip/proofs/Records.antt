-- Records: the head's four bytes tell the vote's numbers, a mask of at most 16 nodes comes back from its two bytes and the entries from theirs.
use Prim.Native.Nat.{ℕ, zero, suc, ◌+◌, ◌*◌, ◌/◌, ◌%◌, ◌^◌, ◌≤◌, ◌<◌}
use mathlib.Core.Path.{◌≡◌, sym, ap, ◌∙◌}
use mathlib.Core.Bool.{true, false}
use mathlib.Core.List.{List, [], ◌∷◌, ◌++◌}
use native.Mathlib.Omega.{arith}
use borrow.Author.Tests.{lt-leb}
use lib.Dec.{leb}
use lib.ListN.{length, take, drop, length-append}
use lib.Pow.{pow_mono}
use lib.Seq.{take-add}
use Rattle.laws.specs.Order.{ascends}
use Rattle.laws.proofs.Pairs.{pair_back, low_again, high_again}
use Rattle.rules.specs.Sizes.{nodes_most}
use Rattle.rules.specs.Vote.{Vote}
use Rattle.entries.specs.Bytes.{entry_size, entries_of, entries_bytes, AreBytes}
use Rattle.entries.proofs.Reading.{entries_count}
use Rattle.wire.specs.Sizes.{head_size, record_most}
use Rattle.wire.specs.Record.{count_of, size_of, vote_of, unreadable, record_bytes}
use Rattle.wire.specs.Writer.{sayable}
use Rattle.wire.proofs.Readings.{readable_whole, whole_readable}
use Rattle.wire.proofs.Writings.{record_length, can_say, said}
use Rattle.roundtrip.specs.Records.{Sayable, ReadBack}
use Rattle.roundtrip.proofs.Entries.{entries_back, entries_bytes_lem, entries_again, entries_fit, drop_bytes}

-- ---- written and read

mask_fits : (n m : ℕ) → n ≤ nodes_most → m < 2 ^ n → m < 2 ^ 16
mask_fits n m h l = let b : 2 ^ n ≤ 2 ^ 16 = pow_mono h in omega arith

module _ (n : ℕ) (nodes : n ≤ nodes_most) (v : Vote) (say : Sayable n v) where
  pub reads_back : (rest : List ℕ) → ReadBack n v rest
  unfolding record_bytes
  reads_back rest =
      let w = said n v say.test in
      let m = pair_back v.mask (mask_fits n v.mask nodes w.mask) in
      let es = entries_back v.batch rest say.entries in
      let l = record_length v in
      record {
        reads = whole_readable n (record_bytes v ++ rest)
            (record {
              head = omega arith;
              all = omega (arith, length-append (entries_bytes v.batch) rest);
              primary = w.primary;
              few = w.few;
              witnesses = ap (leb (2 ^ n)) m ∙ lt-leb _ _ w.mask;
              order = ap ascends es ∙ w.order;
            });
        vote = λ i. record { primary = v.primary; mask = m i; batch = es i };
        size = sym l;
      }

-- what can be said is written in bytes, at most 132
module _ (n : ℕ) (nodes : n ≤ nodes_most) (v : Vote) (h : sayable n v ≡ true) where
  pub record_bytes_lem : AreBytes (record_bytes v)
  unfolding record_bytes
  record_bytes_lem zero = omega (arith, (said n v h).primary)
  record_bytes_lem (suc zero) = omega (arith, (said n v h).few)
  record_bytes_lem (suc (suc zero)) = omega arith
  record_bytes_lem (suc (suc (suc zero))) = omega arith
  record_bytes_lem (suc (suc (suc (suc i)))) = entries_bytes_lem v.batch i

  pub record_most_lem : length (record_bytes v) ≤ record_most
  record_most_lem = omega (arith, (said n v h).few, record_length v)

-- ---- read and written

-- four bytes, and the entries' bytes after them
head_again : (a b c d : ℕ) (r : List ℕ) → c < 256 → d < 256 → AreBytes r → entry_size * b ≤ length r
    → record_bytes (record { primary = a; mask = c + 256 * d; batch = entries_of b r }) ≡ a ∷ b ∷ c ∷ d ∷ take (entry_size * b) r
unfolding record_bytes
head_again a b c d r hc hd t l =
    let ec : (c + 256 * d) % 256 ≡ c = low_again c d hc in
    let ed : (c + 256 * d) / 256 % 256 ≡ d = high_again c d hc hd in
    let eb : length (entries_of b r) ≡ b = entries_count b r in
    let er : entries_bytes (entries_of b r) ≡ take (entry_size * b) r = entries_again b r t l in
    λ i. a ∷ eb i ∷ ec i ∷ ed i ∷ er i

again : (s : List ℕ) → AreBytes s → head_size ≤ length s → size_of s ≤ length s → record_bytes (vote_of s) ≡ take (size_of s) s
again (a ∷ b ∷ c ∷ d ∷ r) t l k =
    head_again a b c d r (t 2) (t 3) (λ i. t (suc (suc (suc (suc i))))) (omega arith) ∙ sym (take-add head_size (entry_size * b) (a ∷ b ∷ c ∷ d ∷ r))
again [] t l k = absurd (omega arith)
again (a ∷ []) t l k = absurd (omega arith)
again (a ∷ b ∷ []) t l k = absurd (omega arith)
again (a ∷ b ∷ c ∷ []) t l k = absurd (omega arith)

module _ (n : ℕ) (s : List ℕ) (t : AreBytes s) (r : unreadable n s ≡ false) where
  pub record_again : record_bytes (vote_of s) ≡ take (size_of s) s
  record_again = let w = readable_whole n s r in again s t w.head w.all

  pub vote_sayable : Sayable n (vote_of s)
  vote_sayable =
      let w = readable_whole n s r in
      record {
        test = can_say n (vote_of s) w.primary w.witnesses (omega (arith, w.few, entries_count (count_of s) (drop head_size s))) w.order;
        entries = entries_fit (count_of s) (drop head_size s) (drop_bytes s head_size t);
      }
