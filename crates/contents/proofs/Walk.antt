-- The sends of some lines: how an answer about all of them follows from the list that is walked over.
use Rattle.std.proofs.Common.{◌≡◌, ◌<◌, ◌∙◌, Bool, Bor, List, MatchOption, [], ◌∷◌, Option, Some, None, ap, cond, drop, false, find, get_or, length, arith, refl, slice_get, suc, sym, true, zero, ℕ}
use Rattle.std.proofs.lemmas.Iterator.{YieldsList}
use Rattle.std.proofs.lemmas.Iterator.Consumers.{YieldsList-from_shown}
use Rattle.laws.proofs.Tests.{zero_one}
use Rattle.text.specs.Hex.{hex_of, is_hex, pairs_of}
use Rattle.text.specs.Numbers.{digits_below}
use Rattle.text.specs.Lines.{keyed, lines_of, value_of}
use Rattle.text.proofs.Cuts.{Turn, lines_none, turn}
use Rattle.schedule.specs.Sends.{Send, message_text, send_of, sending_as}
use Rattle.schedule.specs.Keys.{send_key}
use Rattle.schedule.proofs.Fits.{sent_told}
use Rattle.schedule.specs.declared.Send.{Send as Numbered}
use Rattle.contents.specs.Contents.{message_in, numbered, send_then, sending_at, sends_in, sent}
use Rattle.contents.specs.declared.sends.Sends.{Sends}

pub sends_some : (l : List ℕ) (ls : List (List ℕ)) (x : Send) → send_of l ≡ Some x → sends_in (l ∷ ls) ≡ x ∷ sends_in ls
unfolding sends_in send_then
sends_some l ls x e = simp e

pub sends_none : (l : List ℕ) (ls : List (List ℕ)) → send_of l ≡ None → sends_in (l ∷ ls) ≡ []
unfolding sends_in send_then
sends_none l ls e = simp e

-- ---- one step: the first line of what is left is a send, or the sends are over

over_case : (ls : List (List ℕ)) (l : List ℕ) → l ≡ get_or ls 0 [] → send_of l ≡ None → sends_in ls ≡ []
unfolding sends_in
over_case [] l e q = refl
over_case (m ∷ ls) l e q = sends_none m ls (ap send_of (sym e) ∙ q)

pub sends_over : (s line : List ℕ) → line ≡ get_or (lines_of s) 0 [] → send_of line ≡ None → sends_in (lines_of s) ≡ []
sends_over s line e q = over_case (lines_of s) line e q

no_line : (x : Send) → send_of [] ≡ Some x → ⊥
unfolding send_of keyed
no_line x e = zero_one cc

-- a text of no bytes has no send
pub line_there : (s line : List ℕ) (x : Send) → line ≡ get_or (lines_of s) 0 [] → send_of line ≡ Some x → Turn s line
line_there s line x e q = turn s line (go (length s) refl) e
  where
    go : (n : ℕ) → length s ≡ n → 0 < length s
    go zero z = absurd (no_line x (ap send_of (sym (e ∙ ap (λ (ls : List (List ℕ)). get_or ls 0 []) (lines_none s z))) ∙ q))
    go (suc n) z = omega (arith, z)

pub sends_further : (s line : List ℕ) (x : Send) → line ≡ get_or (lines_of s) 0 [] → send_of line ≡ Some x
    → sends_in (lines_of s) ≡ x ∷ sends_in (lines_of (drop (length line) s))
sends_further s line x e q =
    let t = line_there s line x e q in
    ap sends_in t.next ∙ sends_some line (lines_of (drop (length line) s)) x q

-- the send of a line, by its numbers and the text of its message
pub sent_line : (line text : List ℕ) (x : Numbered) → Some x ≡ sending_as (send_of line) → text ≡ message_text (value_of send_key line)
    → send_of line ≡ Some (sent x text)
sent_line line text x e m = (sent_told line x e).is ∙ ap (λ (t : List ℕ). Some (sent x t)) (sym m)

-- ---- the whole walk

-- what is left to walk over, step by step
pub walks : (it : Sends) → YieldsList
    (λ (left : Sends) (item : Option (Numbered × Bor (List ℕ))) (after : Sends). MatchOption item (sends_in (lines_of left.rest.now) ≡ [])
    (λ x. sends_in (lines_of left.rest.now) ≡ sent x.0 x.1.now ∷ sends_in (lines_of after.rest.now)))
    (λ x. sent x.0 x.1.now) it (sends_in (lines_of it.rest.now))
walks = YieldsList-from_shown _ _ (λ (left : Sends). sends_in (lines_of left.rest.now)) (λ s t e. ap length e) (λ s x t e. e)

-- the k-th
pub sending_is : (xs : List Send) (k : ℕ) → sending_at xs k ≡ sending_as (slice_get xs k)
unfolding sending_at
sending_is [] zero = refl
sending_is [] (suc k) = refl
sending_is (x ∷ xs) zero = refl
sending_is (x ∷ xs) (suc k) = sending_is xs k

-- the message of the one with these numbers
unfoldable pub text_in : Option Send → List ℕ
text_in None = []
text_in (Some x) = x.message

pub message_is : (r from to : ℕ) (xs : List Send) → message_in r from to xs ≡ text_in (find (λ (x : Send). numbered r from to x.round x.from x.to) xs)
unfolding message_in text_in
message_is r from to [] = refl
message_is r from to (x ∷ xs) = go (numbered r from to x.round x.from x.to) (message_is r from to xs)
  where
    go : (t : Bool) → message_in r from to xs ≡ text_in (find (λ (y : Send). numbered r from to y.round y.from y.to) xs)
        → cond t x.message (message_in r from to xs) ≡ text_in (cond t (Some x) (find (λ (y : Send). numbered r from to y.round y.from y.to) xs))
    go true e = refl
    go false e = e

pub hex_empty : hex_of [] ≡ []
unfolding hex_of is_hex pairs_of digits_below
hex_empty = refl
