-- Each answer of a bar, by the row that gives it.
use Rattle.std.proofs.Common.{ℕ, ◌≡◌, ◌≤◌, ◌<◌, true, false, List, Ok, Err, arith}
use borrow.Author.Tests.{le-leb, lt-leb}
use Rattle.rules.specs.Sizes.{is_log}
use Rattle.rules.specs.declared.refusal.Refusal.TheVariants.{NoLog, FirstAfterLast}
use Rattle.rules.proofs.Answers.{refuses, answers}
use Rattle.rules.proofs.Sizes.{log_most_lem}
use Rattle.reading_log.specs.Bar.{bar_of, bar_number, BarIs}
use Rattle.reading_log.proofs.Bars.{bar_most_lem}

module _ (log : List ℕ) (meter first last : ℕ) where
  pub no_log : is_log log ≡ false → BarIs log meter first last (Err NoLog)
  unfolding bar_number
  no_log g = record { answers = refuses (simp g); most = tt }

  module _ (g : is_log log ≡ true) where
    pub upside_down : last < first → BarIs log meter first last (Err FirstAfterLast)
    unfolding bar_number
    upside_down h = record { answers = refuses (simp (g, lt-leb _ _ h)); most = tt }

    pub summed : first ≤ last → (sum : ℕ) → sum ≡ bar_of meter first last log → BarIs log meter first last (Ok sum)
    unfolding bar_number
    summed h sum q = record { answers = answers (simp (g, le-leb _ _ h)) q; most = omega (arith, bar_most_lem meter first last log, log_most_lem log g) }
