-- "Form is checked first for the whole file [..]; the first bad line gives the single output line `bad=` with its number ([..] file too long: `bad=0`)."
-- "A missing line is bad at the number it would have; a line without its LF is bad; anything after `end=` is bad."
use Rattle.std.specs.Prelude.{ℕ, zero, suc, ◌+◌, Bool, true, false, ◌&&◌, cond, List, [], ◌∷◌, ltb, leb, eqb, length, get_or, drop, Option, Some, None, Result, Ok, Err}
use Rattle.text.specs.Lines.{lines_of, keyed, list_line}
use Rattle.text.specs.declared.Kind.TheVariants.{Entry}
use Rattle.schedule.specs.Keys.{tray_key, end_key}
use Rattle.header.specs.Header.{bad, header_size, headed_of}
use Rattle.schedule.specs.Sends.{send_of, rank_in}
use Rattle.header.specs.declared.Header.{Header}
use Rattle.header.specs.declared.BadLine.{BadLine}

-- the bytes of a schedule, at most
abbrev pub schedule_most : ℕ
schedule_most = 65536

-- `end=` empty
unfoldable pub is_end : List ℕ → Bool
is_end l = keyed end_key l && eqb (length l) (length end_key + 1)

-- a list could be read
unfoldable pub found : Option (List ℕ) → Bool
found None = false
found (Some xs) = true

-- a line `tray` with its entries
unfoldable pub is_tray : List ℕ → Bool
is_tray l = found (list_line tray_key Entry l)

-- Line k and those after it: sends in ascending order, then the end, then nothing. `last` is the rank of the send before, 0 before the first.
unfoldable pub form_sends : Header → ℕ → ℕ → List (List ℕ) → Result Header BadLine
form_sends h k last [] = bad k
form_sends h k last (l ∷ ls) =
    cond (is_end l)
    (cond (eqb (length ls) 0) (Ok h) (bad (k + 1)))
    (cond (ltb last (rank_in h (send_of l))) (form_sends h (k + 1) (rank_in h (send_of l)) ls) (bad k))

-- Line k and those after it: so many tray lines, then sends. A missing line is empty, and so bad.
unfoldable pub form_trays : Header → ℕ → ℕ → List (List ℕ) → Result Header BadLine
form_trays h k zero ls = form_sends h k 0 ls
form_trays h k (suc left) ls = cond (is_tray (get_or ls 0 [])) (form_trays h (k + 1) left (drop 1 ls)) (bad k)

-- what follows the header
unfoldable pub form_after : Result Header BadLine → List (List ℕ) → Result Header BadLine
form_after (Err line) ls = Err line
form_after (Ok h) ls = form_trays h (header_size + 1) h.n ls

-- the first bad line, 0 for a file too long; or the header
unfoldable pub form_of : List ℕ → Result Header BadLine
form_of s = cond (leb (length s) schedule_most) (form_after (headed_of (lines_of s)) (drop header_size (lines_of s))) (bad 0)
