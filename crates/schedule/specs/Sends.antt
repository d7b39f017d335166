-- "lines `send` (round, from, to, message in lower-case hex)"; "sends ascend strictly by round, from, to; from is faulty, to is correct, round is 1 to
-- f + 1, message 1 to 3,960 bytes".
use Rattle.std.specs.Prelude.{ℕ, ◌+◌, ◌*◌, Bool, ◌&&◌, not, cond, List, ltb, leb, length, Option, Some, None}
use Rattle.rules.specs.Sizes.{nodes_most}
use Rattle.wire.specs.Sizes.{message_most}
use Rattle.text.specs.Places.{comma, past}
use Rattle.text.specs.Numbers.{word_most, field_of}
use Rattle.text.specs.Lines.{keyed, value_of}
use Rattle.text.specs.Hex.{hex_of}
use Rattle.schedule.specs.Keys.{send_key}
use Rattle.header.specs.Header.{faulty_bit}
use Rattle.header.specs.declared.Header.{Header}
use Rattle.schedule.specs.declared.Send.{Send as Numbered}

-- a send, its message in bytes
pub record Send : Type 0 where
  pub round : ℕ
  pub from : ℕ
  pub to : ℕ
  pub message : List ℕ

-- what follows round, from and to
abbrev pub message_text : List ℕ → List ℕ
message_text v = past comma (past comma (past comma v))

-- three numbers and the text of a message; none where a number is bad
unfoldable pub send_as : Option ℕ → Option ℕ → Option ℕ → List ℕ → Option Send
send_as (Some r) (Some i) (Some j) m = Some (record { round = r; from = i; to = j; message = hex_of m })
send_as (Some r) (Some i) None m = None
send_as (Some r) None j m = None
send_as None i j m = None

-- round,from,to,message; a message that is no hex is read as empty
unfoldable pub send_in : List ℕ → Option Send
send_in v =
    send_as (field_of comma word_most v) (field_of comma word_most (past comma v)) (field_of comma word_most (past comma (past comma v))) (message_text v)

-- the send in a line, or none
unfoldable pub send_of : List ℕ → Option Send
send_of l = cond (keyed send_key l) (send_in (value_of send_key l)) None

-- as it is handed on, without its message
unfoldable pub sending_as : Option Send → Option Numbered
sending_as (Some x) = Some (record { round = x.round; from = x.from; to = x.to })
sending_as None = None

-- round 1 to f + 1, from faulty, to correct, message of 1 to 3,960 bytes
unfoldable pub fitting : Header → (round from to size : ℕ) → Bool
fitting h round from to size =
    leb 1 round && (leb round (h.f + 1) && (faulty_bit h from && (ltb to h.n && (not (faulty_bit h to) && (leb 1 size && leb size message_most)))))

-- a send that may stand in a schedule with this header
abbrev pub fits : Header → Send → Bool
fits h x = fitting h x.round x.from x.to (length x.message)

-- the order of sends, by round, from, to
abbrev pub rank_of : Send → ℕ
rank_of x = (x.round * nodes_most + x.from) * nodes_most + x.to

-- the rank of a send that fits, and 0, which is below every such rank, for anything else
unfoldable pub rank_in : Header → Option Send → ℕ
rank_in h None = 0
rank_in h (Some x) = cond (fits h x) (rank_of x) 0
