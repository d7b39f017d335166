-- The messages of sends are bytes, whatever the text.
use Prim.Native.Nat.{◌+◌, ◌<◌, ◌^◌, ℕ}
use mathlib.Core.Bool.{Bool, cond, false, true}
use mathlib.Core.List.{List, [], ◌∷◌}
use mathlib.Core.Logic.{◌⊎◌, inl, inr}
use Rattle.std.specs.Prelude.{Option, Some, None}
use mathlib.Core.Path.{◌∙◌, ◌≡◌, ap, refl, subst, sym}
use lib.ListN.{drop, get_or}
use Rattle.laws.specs.Members.{In}
use Rattle.laws.proofs.Tests.{zero_one}
use Rattle.entries.specs.Bytes.{AreBytes}
use Rattle.text.specs.Lines.{keyed, lines_of, value_of}
use Rattle.text.specs.Numbers.{field_of, word_most}
use Rattle.text.specs.Places.{comma, past}
use Rattle.text.proofs.Pairs.{hex_bytes}
use Rattle.header.specs.Header.{header_size}
use Rattle.schedule.specs.Keys.{send_key}
use Rattle.schedule.specs.Sends.{Send, message_text, send_as, send_in, send_of}
use Rattle.contents.specs.Contents.{header_of, send_then, sends_in, sends_of}

some_is : {x y : Send} → Some x ≡ Some y → x ≡ y
some_is e = cc

none_some : {x : Send} → None ≡ Some x → ⊥
none_some e = zero_one cc

as_bytes : (a b c : Option ℕ) (m : List ℕ) (x : Send) → send_as a b c m ≡ Some x → AreBytes x.message
unfolding send_as
as_bytes (Some r) (Some i) (Some j) m x e = λ k. subst (λ (y : Send). get_or y.message k 0 < 2 ^ 8) (some_is e) (hex_bytes m k)
as_bytes (Some r) (Some i) None m x e = absurd (none_some e)
as_bytes (Some r) None c m x e = absurd (none_some e)
as_bytes None b c m x e = absurd (none_some e)

line_bytes : (l : List ℕ) (x : Send) → send_of l ≡ Some x → AreBytes x.message
unfolding send_of send_in
line_bytes l x e = go (keyed send_key l) e
  where
    go : (t : Bool) → cond t (send_in (value_of send_key l)) None ≡ Some x → AreBytes x.message
    go true q =
        as_bytes (field_of comma word_most (value_of send_key l)) (field_of comma word_most (past comma (value_of send_key l)))
        (field_of comma word_most (past comma (past comma (value_of send_key l)))) (message_text (value_of send_key l)) x q
    go false q = absurd (none_some q)

lines_bytes : (ls : List (List ℕ)) (x : Send) → In x (sends_in ls) → AreBytes x.message
unfolding sends_in send_then
lines_bytes [] x i = absurd i
lines_bytes (l ∷ ls) x i = go (send_of l) refl i (λ j. lines_bytes ls x j)
  where
    either : (y : Send) → send_of l ≡ Some y → (x ≡ y) ⊎ In x (sends_in ls) → (In x (sends_in ls) → AreBytes x.message) → AreBytes x.message
    either y e (inl q) rest = line_bytes l x (e ∙ ap Some (sym q))
    either y e (inr j) rest = rest j

    go : (o : Option Send) → send_of l ≡ o → In x (send_then o (sends_in ls)) → (In x (sends_in ls) → AreBytes x.message) → AreBytes x.message
    go None e j rest = absurd j
    go (Some y) e j rest = either y e j rest

pub sends_bytes : (s : List ℕ) (x : Send) → In x (sends_of s) → AreBytes x.message
unfolding sends_of
sends_bytes s x i = lines_bytes (drop (header_size + (header_of s).n) (lines_of s)) x i
