-- Messages: the votes of a message are the vote of its first record and those of the rest, so what holds of records holds of lists of them.
use Prim.Native.Nat.{ℕ, zero, suc, ◌≤◌, ◌<◌}
use mathlib.Core.Path.{◌≡◌, refl, sym, ap, ap₂, subst, ◌∙◌}
use mathlib.Core.Logic.{◌⊎◌, inl, inr, ⊎_elim, ◌↔◌}
use mathlib.Core.Bool.{Bool, true, false}
use mathlib.Core.List.{List, [], ◌∷◌, ◌++◌, append_assoc, append-nil}
use mathlib.Core.Option.{Option, none, some, none-ne-some}
use native.Mathlib.Omega.{arith}
use borrow.Author.Tests.{leb-true, leb-false}
use lib.Dec.{leb, lit<}
use lib.ListN.{length, drop, length-drop, take-append-drop}
use lib.Seq.{drop-append_seam}
use Rattle.laws.specs.Members.{In}
use Rattle.laws.proofs.Tests.{clash}
use Rattle.rules.specs.Sizes.{nodes_most}
use Rattle.rules.specs.Vote.{Vote}
use Rattle.entries.specs.Bytes.{AreBytes}
use Rattle.wire.specs.Sizes.{message_most}
use Rattle.wire.specs.Record.{size_of, vote_of, unreadable, record_bytes}
use Rattle.wire.specs.Message.{before, votes_after, votes_of, silent, message_bytes}
use Rattle.wire.specs.Writer.{sayable}
use Rattle.wire.proofs.Messages.{one_more, stuck, none_left, short_enough, too_long}
use Rattle.roundtrip.specs.Records.{Sayable}
use Rattle.roundtrip.specs.Messages.{AllSayable, BytesOf, OneUnreadable, Messages}
use Rattle.roundtrip.proofs.Entries.{append_bytes, drop_bytes}
use Rattle.roundtrip.proofs.Records.{reads_back, record_bytes_lem, record_again, vote_sayable}

-- ---- written and read

-- votes before others
joined : List Vote → Option (List Vote) → Option (List Vote)
joined [] o = o
joined (v ∷ vs) o = before v (joined vs o)

all_joined : (vs : List Vote) → joined vs (some []) ≡ some vs
unfolding joined
all_joined [] = refl
all_joined (v ∷ vs) = ap (before v) (all_joined vs)

none_joined : (vs : List Vote) → joined vs none ≡ none
unfolding joined
none_joined [] = refl
none_joined (v ∷ vs) = ap (before v) (none_joined vs)

all_said : (n : ℕ) (vs : List Vote) → joined vs (votes_after n 0 []) ≡ some vs
all_said n vs = ap (joined vs) (none_left n [] refl) ∙ all_joined vs

-- what can be said is written in bytes
pub votes_bytes : (n : ℕ) → n ≤ nodes_most → (vs : List Vote) → ((v : Vote) → In v vs → sayable n v ≡ true) → AreBytes (message_bytes vs)
unfolding message_bytes
votes_bytes n nodes [] h = λ i. lit< tt
votes_bytes n nodes (v ∷ vs) h =
    append_bytes (record_bytes v) (message_bytes vs) (record_bytes_lem n nodes v (h v (inl refl))) (votes_bytes n nodes vs (λ w i. h w (inr i)))

module _ (n : ℕ) (nodes : n ≤ nodes_most) where
  votes_first : (vs : List Vote) (rest : List ℕ) → AllSayable n vs → votes_after n 0 (message_bytes vs ++ rest) ≡ joined vs (votes_after n 0 rest)
  unfolding message_bytes joined
  votes_first [] rest h = refl
  votes_first (v ∷ vs) rest h =
      let s : List ℕ = message_bytes vs ++ rest in
      let b = reads_back n nodes v (h v (inl refl)) s in
      let next : drop (size_of (record_bytes v ++ s)) (record_bytes v ++ s) ≡ s =
      ap (λ (j : ℕ). drop j (record_bytes v ++ s)) b.size ∙ drop-append_seam (record_bytes v) s in
      ap (votes_after n 0) (append_assoc (record_bytes v) (message_bytes vs) rest)
      ∙ one_more n (record_bytes v ++ s) b.reads
      ∙ ap₂ before b.vote (ap (votes_after n 0) next ∙ votes_first vs rest (λ w i. h w (inr i)))

  reads_as : (vs : List Vote) → AllSayable n vs → length (message_bytes vs) ≤ message_most → votes_of n (message_bytes vs) ≡ some vs
  reads_as vs h l =
      short_enough n (message_bytes vs) l
      ∙ ap (votes_after n 0) (sym (append-nil (message_bytes vs)))
      ∙ votes_first vs [] h
      ∙ all_said n vs

-- ---- read and written

-- nothing is left, or an unreadable record
abbrev Ends : ℕ → List ℕ → Type 0
Ends n rest = (rest ≡ []) ⊎ ((0 < length rest) × (unreadable n rest ≡ true))

-- the votes of the first records, and what is left
record Cut (n : ℕ) (s : List ℕ) : Type 0 where
  votes : List Vote
  rest : List ℕ
  bytes : message_bytes votes ++ rest ≡ s
  sayable : AllSayable n votes
  ends : Ends n rest

no_votes : (n : ℕ) (s : List ℕ) → Ends n s → Cut n s
unfolding message_bytes
no_votes n s h = record { votes = []; rest = s; bytes = refl; sayable = λ v i. absurd i; ends = h }

first_vote : (n : ℕ) (s : List ℕ) → AreBytes s → unreadable n s ≡ false → Cut n (drop (size_of s) s) → Cut n s
unfolding message_bytes
first_vote n s t r c =
    let say = vote_sayable n s t r in
    record {
      votes = vote_of s ∷ c.votes;
      rest = c.rest;
      bytes = append_assoc (record_bytes (vote_of s)) (message_bytes c.votes) c.rest
          ∙ ap₂ (λ (a b : List ℕ). a ++ b) (record_again n s t r) c.bytes
          ∙ take-append-drop (size_of s) s;
      sayable = λ v i. ⊎_elim (λ e. subst (λ (u : Vote). Sayable n u) (sym e) say) (λ k. c.sayable v k) i;
      ends = c.ends;
    }

by_first : (n : ℕ) (s : List ℕ) (b : Bool) → AreBytes s → 0 < length s → unreadable n s ≡ b → Cut n (drop (size_of s) s) → Cut n s
by_first n s true t h r rest = no_votes n s (inr (h, r))
by_first n s false t h r rest = first_vote n s t r rest

-- of at most f bytes
cut : (f n : ℕ) (s : List ℕ) → length s ≤ f → AreBytes s → Cut n s
cut zero n [] l t = no_votes n [] (inl refl)
cut zero n (b ∷ s) l t = absurd (omega arith)
cut (suc f) n [] l t = no_votes n [] (inl refl)
cut (suc f) n (b ∷ s) l t =
    let a : List ℕ = b ∷ s in
    by_first n a (unreadable n a) t (omega arith) refl
    (cut f n (drop (size_of a) a) (omega (arith, length-drop (size_of a) a)) (drop_bytes a (size_of a) t))

module _ (n : ℕ) (nodes : n ≤ nodes_most) (s : List ℕ) where
  module _ (c : Cut n s) where
    votes_are : votes_after n 0 s ≡ joined c.votes (votes_after n 0 c.rest)
    votes_are = ap (votes_after n 0) (sym c.bytes) ∙ votes_first n nodes c.votes c.rest c.sayable

    -- nothing is left
    all_read : c.rest ≡ [] → votes_after n 0 s ≡ some c.votes
    all_read e = votes_are ∙ ap (λ (u : List ℕ). joined c.votes (votes_after n 0 u)) e ∙ all_said n c.votes

    all_bytes : c.rest ≡ [] → message_bytes c.votes ≡ s
    all_bytes e = sym (append-nil (message_bytes c.votes)) ∙ ap (λ (u : List ℕ). message_bytes c.votes ++ u) (sym e) ∙ c.bytes

    -- an unreadable record is left
    none_read : 0 < length c.rest → unreadable n c.rest ≡ true → votes_after n 0 s ≡ none
    none_read l u = votes_are ∙ ap (joined c.votes) (stuck n c.rest l u) ∙ none_joined c.votes

    again_by : (vs : List Vote) → length s ≤ message_most → votes_after n 0 s ≡ some vs → Ends n c.rest → BytesOf n s vs
    again_by vs l e (inl q) =
        let g : c.votes ≡ vs = let f = sym (all_read q) ∙ e in cc in
        subst (λ (us : List Vote). BytesOf n s us) g (record { bytes = all_bytes q; sayable = c.sayable; short = l })
    again_by vs l e (inr q) = absurd (none-ne-some _ (sym (none_read q.0 q.1) ∙ e))

    stuck_by : votes_after n 0 s ≡ none → Ends n c.rest → OneUnreadable n s
    stuck_by e (inl q) = absurd (none-ne-some _ (sym e ∙ all_read q))
    stuck_by e (inr q) =
        record { votes = c.votes; rest = c.rest; bytes = c.bytes; sayable = c.sayable; left = q.0; not_read = q.1 }

  -- within the limit or not
  abbrev Limit : Type 0
  Limit = ((length s ≤ message_most) × (votes_of n s ≡ votes_after n 0 s)) ⊎ ((message_most < length s) × (votes_of n s ≡ none))

  by_length : (b : Bool) → leb (length s) message_most ≡ b → Limit
  by_length true e = let l = leb-true _ _ e in inl (l, short_enough n s l)
  by_length false e = let l = leb-false _ _ e in inr (l, too_long n s l)

  limit : Limit
  limit = by_length (leb (length s) message_most) refl

  -- ---- exactly

  reads_bytes : (vs : List Vote) → BytesOf n s vs → votes_of n s ≡ some vs
  reads_bytes vs w =
      ap (votes_of n) (sym w.bytes) ∙ reads_as n nodes vs w.sayable (subst (λ (u : List ℕ). length u ≤ message_most) (sym w.bytes) w.short)

  no_other : (vs ws : List Vote) → BytesOf n s vs → BytesOf n s ws → vs ≡ ws
  no_other vs ws v w = let e = sym (reads_bytes vs v) ∙ reads_bytes ws w in cc

  not_read : OneUnreadable n s → votes_of n s ≡ none
  not_read w =
      let c : Cut n s = record { votes = w.votes; rest = w.rest; bytes = w.bytes; sayable = w.sayable; ends = inr (w.left, w.not_read) } in
      ⊎_elim (λ l. l.1 ∙ none_read c w.left w.not_read) (λ l. l.1) limit

  module _ (t : AreBytes s) where
    whole_cut : Cut n s
    whole_cut = cut (length s) n s (omega arith) t

    written_again : (vs : List Vote) → votes_of n s ≡ some vs → BytesOf n s vs
    written_again vs e = ⊎_elim (λ l. again_by whole_cut vs l.0 (sym l.1 ∙ e) whole_cut.ends) (λ l. absurd (none-ne-some _ (sym l.1 ∙ e))) limit

    heard : (o : Option (List Vote)) → votes_of n s ≡ o → silent o ≡ false → (vs : List Vote) × BytesOf n s vs
    heard none e h = absurd (clash refl h)
    heard (some vs) e h = (vs, written_again vs e)

    readable : (silent (votes_of n s) ≡ false) ↔ ((vs : List Vote) × BytesOf n s vs)
    readable = (heard (votes_of n s) refl, λ w. ap silent (reads_bytes w.0 w.1))

    found : votes_of n s ≡ none → (message_most < length s) ⊎ OneUnreadable n s
    found e = ⊎_elim (λ l. inr (stuck_by whole_cut (sym l.1 ∙ e) whole_cut.ends)) (λ l. inl l.0) limit

    is_unreadable : (votes_of n s ≡ none) ↔ ((message_most < length s) ⊎ OneUnreadable n s)
    is_unreadable = (found, λ h. ⊎_elim (too_long n s) not_read h)

pub messages : (n : ℕ) → n ≤ nodes_most → Messages n
messages n nodes = record {
  read_back = reads_as n nodes;
  written_again = λ s vs t e. written_again n nodes s t vs e;
  readable = readable n nodes;
  no_other = no_other n nodes;
  is_unreadable = is_unreadable n nodes;
}
