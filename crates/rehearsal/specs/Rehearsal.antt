-- "Form is checked first for the whole file, then this rule in file order; the first bad line gives the single output line `bad=` with its number". "Output,
-- whole: n, f, then for each correct node, ascending, its number, log and signers".
use Rattle.std.specs.Prelude.{ℕ, zero, suc, ◌+◌, ◌≡◌, List, [], ◌∷◌, leb, length, Result, Ok, Err}
use Rattle.laws.specs.Parts.{onto}
use Rattle.rules.specs.Refusals.{refuse◌unless◌then◌, done, if_done}
use Rattle.rules.specs.declared.refusal.Refusal.{Refusal}
use Rattle.rules.specs.Answers.{Answers}
use Rattle.agreement.specs.Hall.{node_after}
use Rattle.print.specs.Texts.{decimal_of, line_text}
use Rattle.schedule.specs.Forms.{form_of}
use Rattle.header.specs.declared.Header.{Header}
use Rattle.header.specs.declared.BadLine.{BadLine}
use Rattle.contents.specs.Contents.{is_faulty}
use Rattle.standing.specs.Run.{hall_of}
use Rattle.played.specs.Playing.{breach}
use Rattle.report.specs.Report.{report_of}

-- bad=
abbrev pub bad_key : List ℕ
bad_key = 98 ∷ 97 ∷ 100 ∷ 61 ∷ []

abbrev pub bad_text : ℕ → List ℕ
bad_text line = line_text bad_key (decimal_of line)

-- a schedule of good form: the line of the first send that breaks the rule on shown votes, or what its run comes to
unfoldable pub played_text : (s : List ℕ) (n f breach : ℕ) → List ℕ
played_text s n f zero = report_of n f (is_faulty s) (λ (i : ℕ). node_after (hall_of s n f) i (f + 1))
played_text s n f (suc line) = bad_text (suc line)

unfoldable pub form_text : (s : List ℕ) → Result Header BadLine → List ℕ
form_text s (Err line) = bad_text line.0
form_text s (Ok h) = played_text s h.n h.f (breach s h.n h.f)

-- the whole output
abbrev pub rehearsal_of : List ℕ → List ℕ
rehearsal_of s = form_text s (form_of s)

-- ---- what `rehearsal` promises

abbrev pub rehearsal_number : (s : List ℕ) (room : ℕ) → ℕ
rehearsal_number s room = refuse 9 unless leb (length (rehearsal_of s)) room then done

pub record Rehearse (s output : List ℕ) (answer : Result ℕ Refusal) (after : List ℕ) : Type 0 where
  pub answers : Answers (rehearsal_number s (length output)) (length (rehearsal_of s)) answer
  pub output_is : after ≡ if_done (rehearsal_number s (length output)) (onto (rehearsal_of s) output) output
