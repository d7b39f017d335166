-- "An inbox is exactly n messages, senders 0 to n − 1, each after its length in two bytes, low byte first. Length 0 is silence. Too short or
-- too long is an ill-cut inbox; a stated length above 3,960 that fits is only an unreadable message. [..] Each message is read from its own
-- place in the inbox."
use Rattle.std.specs.Prelude.{ℕ, zero, suc, ◌+◌, ◌*◌, ◌/◌, ◌%◌, Bool, not, ◌&&◌, List, [], ◌∷◌, ◌++◌, eqb, ltb, leb, length, get_or, take, drop, Result}
use Rattle.laws.specs.Masks.{mask_of}
use Rattle.rules.specs.Sizes.{sized}
use Rattle.rules.specs.Refusals.{refuse◌unless◌then◌, done}
use Rattle.rules.specs.Answers.{Answers}
use Rattle.rules.specs.declared.refusal.Refusal.{Refusal}
use Rattle.wire.specs.Sizes.{length_size}
use Rattle.wire.specs.Message.{votes_of, silent}
use Rattle.wire.specs.declared.Span.{Span}

-- the length that stands at a place
abbrev pub length_at : List ℕ → ℕ → ℕ
length_at s at = get_or s at 0 + 256 * get_or s (at + 1) 0

-- the place after the message whose length stands at a place
abbrev pub end_at : List ℕ → ℕ → ℕ
end_at s at = at + length_size + length_at s at

-- where the length of sender j's message stands
unfoldable pub place_of : List ℕ → ℕ → ℕ
place_of s zero = 0
place_of s (suc j) = end_at s (place_of s j)

-- sender j's message
unfoldable pub message_of : List ℕ → ℕ → List ℕ
message_of s j = take (length_at s (place_of s j)) (drop (place_of s j + length_size) s)

-- exactly n messages: the inbox ends where the last of them does
unfoldable pub well_cut : ℕ → List ℕ → Bool
well_cut n s = eqb (place_of s n) (length s)

-- the inbox of some messages
unfoldable pub inbox_bytes : List (List ℕ) → List ℕ
inbox_bytes [] = []
inbox_bytes (m ∷ ms) = length m % 256 ∷ length m / 256 % 256 ∷ (m ++ inbox_bytes ms)

-- ---- what `message_at` promises: 4 where bytes are missing

abbrev pub place_number : List ℕ → ℕ → ℕ
place_number s at = refuse 4 unless leb (end_at s at) (length s) then done

-- from where to where
abbrev pub span_at : List ℕ → ℕ → Span
span_at s at = record { start = at + length_size; end = end_at s at }

abbrev pub MessageAt : (inbox : List ℕ) (at : ℕ) → Result Span Refusal → Type 0
MessageAt inbox at = Answers (place_number inbox at) (span_at inbox at)

-- ---- what `read_inbox` promises: the mask of the senders, the own left out, whose message is unreadable

-- the message of sender j is unreadable, and j is not the node itself
abbrev pub is_unreadable : ℕ → ℕ → ℕ → List ℕ → Bool
is_unreadable n me j message = not (eqb j me) && silent (votes_of n message)

unfoldable pub unreadable_senders : ℕ → ℕ → List ℕ → ℕ
unreadable_senders n me inbox = mask_of (λ j. is_unreadable n me j (message_of inbox j)) n

unfoldable pub inbox_number : ℕ → ℕ → List ℕ → ℕ
inbox_number n me inbox = refuse 1 unless sized n && ltb me n then refuse 4 unless well_cut n inbox then done

abbrev pub ReadInbox : (n me : ℕ) (inbox : List ℕ) → Result ℕ Refusal → Type 0
ReadInbox n me inbox = Answers (inbox_number n me inbox) (unreadable_senders n me inbox)
