-- What a schedule holds: "`faulty` (ascending node numbers by commas, or empty), n lines `tray` (node 0 first ..), lines `send`".
use Rattle.std.specs.Prelude.{ℕ, zero, suc, ◌+◌, Bool, true, false, ◌&&◌, cond, List, [], ◌∷◌, eqb, get_or, drop, Option, Some, None, Result, Ok, Err}
use Rattle.laws.specs.Members.{holds}
use Rattle.text.specs.Lines.{lines_of, list_line}
use Rattle.text.specs.declared.Kind.TheVariants.{Below, Entry}
use Rattle.text.specs.Hex.{hex_of}
use Rattle.header.specs.Keys.{faulty_key}
use Rattle.header.specs.declared.Key.{Key}
use Rattle.header.specs.declared.Key.TheVariants.{Nodes, Faults, Faulty}
use Rattle.schedule.specs.Keys.{tray_key}
use Rattle.header.specs.Header.{header_keys, header_size, headed_of, no_header}
use Rattle.schedule.specs.Sends.{Send, send_of, sending_as}
use Rattle.header.specs.declared.Header.{Header}
use Rattle.header.specs.declared.BadLine.{BadLine}
use Rattle.schedule.specs.declared.Send.{Send as Numbered}

-- the header that was read; one of zeros where a header line is bad
unfoldable pub header_as : Result Header BadLine → Header
header_as (Ok h) = h
header_as (Err line) = no_header

-- that of a schedule
abbrev pub header_of : List ℕ → Header
header_of s = header_as (headed_of (lines_of s))

-- the items of a list that was read; none where it could not be
unfoldable pub items_in : Option (List ℕ) → List ℕ
items_in None = []
items_in (Some xs) = xs

-- the key is `faulty`
unfoldable pub is_faulty_key : Key → Bool
is_faulty_key Faulty = true
is_faulty_key Nodes = false
is_faulty_key Faults = false

-- the line with the key `faulty`, among the lines with these keys
unfoldable pub faulty_line : List Key → List (List ℕ) → List ℕ
faulty_line [] ls = []
faulty_line (key ∷ keys) ls = cond (is_faulty_key key) (get_or ls 0 []) (faulty_line keys (drop 1 ls))

-- the nodes in that line; nobody where a header line is bad
unfoldable pub faulty_in : Result Header BadLine → List (List ℕ) → List ℕ
faulty_in (Err line) ls = []
faulty_in (Ok h) ls = items_in (list_line faulty_key (Below h.n) (faulty_line header_keys ls))

-- the faulty nodes of a schedule
abbrev pub faulty_of : List ℕ → List ℕ
faulty_of s = faulty_in (headed_of (lines_of s)) (lines_of s)

-- node j is one of them
abbrev pub is_faulty : List ℕ → ℕ → Bool
is_faulty s j = holds j (faulty_of s)

-- the entries of tray line i, counted from 0
abbrev pub entries_of_tray : List ℕ → ℕ → List ℕ
entries_of_tray s i = items_in (list_line tray_key Entry (get_or (lines_of s) (header_size + i) []))

-- a send before the sends of the lines that follow
unfoldable pub send_then : Option Send → List Send → List Send
send_then (Some x) xs = x ∷ xs
send_then None xs = []

-- a send that was read, with the text of its message
abbrev pub sent : Numbered → List ℕ → Send
sent x text = record { round = x.round; from = x.from; to = x.to; message = hex_of text }

-- the sends of some lines, up to the first line that is none
unfoldable pub sends_in : List (List ℕ) → List Send
sends_in [] = []
sends_in (l ∷ ls) = send_then (send_of l) (sends_in ls)

-- the sends, in file order: they follow the header and the tray lines
unfoldable pub sends_of : List ℕ → List Send
sends_of s = sends_in (drop (header_size + (header_of s).n) (lines_of s))

-- the line number of the k-th send, counted from 0
abbrev pub send_line : List ℕ → ℕ → ℕ
send_line s k = header_size + 1 + (header_of s).n + k

-- the k-th send as it is handed on, without its message
unfoldable pub sending_at : List Send → ℕ → Option Numbered
sending_at [] k = sending_as None
sending_at (x ∷ xs) zero = sending_as (Some x)
sending_at (x ∷ xs) (suc k) = sending_at xs k

-- a send's numbers are these
unfoldable pub numbered : (r from to r' from' to' : ℕ) → Bool
numbered r from to r' from' to' = eqb r' r && (eqb from' from && eqb to' to)

-- the message of the send with these numbers; empty where there is none
unfoldable pub message_in : (r from to : ℕ) → List Send → List ℕ
message_in r from to [] = []
message_in r from to (x ∷ xs) = cond (numbered r from to x.round x.from x.to) x.message (message_in r from to xs)

-- in a schedule: of round r, from one node to another
abbrev pub message_for : List ℕ → (r from to : ℕ) → List ℕ
message_for s r from to = message_in r from to (sends_of s)
