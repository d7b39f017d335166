-- "Output, whole: n, f, then for each correct node, ascending, its number, log and signers; an empty log is `log=`": lines of key=value, numbers in
-- decimal, entries as meter.interval.watthours, lists by commas.
use Rattle.std.specs.Prelude.{ℕ, zero, suc, ◌+◌, ◌/◌, ◌%◌, cond, List, [], ◌∷◌, ◌++◌, ltb}
use Rattle.entries.specs.Fields.{meter_of, interval_of, watt_hours_of}
use Rattle.text.specs.Places.{lf, comma, dot}
use Rattle.print.specs.declared.Items.{Items}
use Rattle.print.specs.declared.Items.TheVariants.{Nodes, Entries}

-- the decimal digits of v, if they are no more than so many
unfoldable pub digits_in : ℕ → ℕ → List ℕ
digits_in zero v = []
digits_in (suc d) v = cond (ltb v 10) ((48 + v) ∷ []) (digits_in d (v / 10) ++ ((48 + v % 10) ∷ []))

-- v in decimal, without leading zeros: it has no more than v + 1 digits
unfoldable pub decimal_of : ℕ → List ℕ
decimal_of v = digits_in (suc v) v

-- interval.watthours
abbrev pub low_text : ℕ → List ℕ
low_text x = (decimal_of (interval_of x) ++ (dot ∷ [])) ++ decimal_of (watt_hours_of x)

-- meter.interval.watthours
abbrev pub entry_text : ℕ → List ℕ
entry_text x = (decimal_of (meter_of x) ++ (dot ∷ [])) ++ low_text x

-- an item of a list: a node's number, or an entry
unfoldable pub item_text : Items → ℕ → List ℕ
item_text Nodes x = decimal_of x
item_text Entries x = entry_text x

-- items, each with a comma before it
unfoldable pub more_text : Items → List ℕ → List ℕ
more_text kind [] = []
more_text kind (x ∷ xs) = (comma ∷ item_text kind x) ++ more_text kind xs

-- items by commas
unfoldable pub list_text : Items → List ℕ → List ℕ
list_text kind [] = []
list_text kind (x ∷ xs) = item_text kind x ++ more_text kind xs

-- key=value and LF; the key has its `=`
abbrev pub line_text : (key value : List ℕ) → List ℕ
line_text key value = key ++ (value ++ (lf ∷ []))
