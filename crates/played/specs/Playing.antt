-- "Form is checked first for the whole file, then this rule in file order; the first bad line [..]": the first send that breaks the rule on shown votes, and
-- where none does the nodes after round f + 1.
use Rattle.std.specs.Prelude.{ℕ, zero, suc, ◌+◌, cond, List, [], ◌∷◌, Result, Ok, Err}
use Rattle.node.specs.declared.Node.{Node}
use Rattle.agreement.specs.Hall.{Hall}
use Rattle.agreement.specs.Rule.{breaks_rule}
use Rattle.schedule.specs.Sends.{Send}
use Rattle.schedule.specs.Forms.{form_of}
use Rattle.contents.specs.Contents.{sends_of, send_line}
use Rattle.standing.specs.Standing.{standing}
use Rattle.standing.specs.Run.{hall_of}
use Rattle.header.specs.declared.BadLine.{BadLine}
use Rattle.header.specs.declared.Header.{Header}

-- the line of the first of these sends that breaks the rule, where they begin at line k; 0 where none does
unfoldable pub breach_from : Hall → ℕ → List Send → ℕ
breach_from hall k [] = 0
breach_from hall k (x ∷ xs) = cond (breaks_rule hall x.round x.message) k (breach_from hall (k + 1) xs)

-- of the schedule's sends
abbrev pub breach : (s : List ℕ) (n f : ℕ) → ℕ
breach s n f = breach_from (hall_of s n f) (send_line s 0) (sends_of s)

-- the nodes after round f + 1, which is before round f + 2; none where a line is bad
unfoldable pub played_to : (hall : Hall) (bad : ℕ) → Result (List Node) BadLine
played_to hall zero = Ok (standing hall (suc (suc hall.f))).nodes
played_to hall (suc k) = Err (record { 0 = suc k })

-- where the form is good; where it is not, its bad line is the first
unfoldable pub played_as : List ℕ → Result Header BadLine → Result (List Node) BadLine
played_as s (Ok h) = played_to (hall_of s h.n h.f) (breach s h.n h.f)
played_as s (Err line) = Err line

-- what playing a schedule gives
abbrev pub played_of : List ℕ → Result (List Node) BadLine
played_of s = played_as s (form_of s)
