-- What the code knows while it prints: the entries of the logs are 64-bit numbers.
use Rattle.std.specs.Prelude.{ℕ, ◌<◌, ◌≡◌, Bool, false, List}
use Rattle.entries.specs.Bytes.{AreEntries}

-- for each correct node of n the entries of its log are 64-bit numbers
abbrev pub AllEntries : (faulty : ℕ → Bool) (log : ℕ → List ℕ) (n : ℕ) → Type 0
AllEntries faulty log n = (j : ℕ) → j < n → faulty j ≡ false → AreEntries (log j)
