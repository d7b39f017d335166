-- Each answer of a close, by the row that gives it.
use Rattle.std.proofs.Common.{ℕ, ◌+◌, ◌≤◌, ◌<◌, ◌≡◌, true, false, List, length, Ok, Err, refl}
use borrow.Author.Tests.{le-leb, lt-leb}
use Rattle.laws.specs.Parts.{onto}
use Rattle.rules.specs.Sizes.{log_most, fits, is_log}
use Rattle.rules.specs.Refusals.{done}
use Rattle.rules.specs.declared.refusal.Refusal.TheVariants.{Unsound, Phase, NoLog, LogFull, Short}
use Rattle.rules.proofs.Answers.{refuses, answers}
use Rattle.node.specs.State.{sound_node}
use Rattle.node.specs.declared.Node.{Node}
use Rattle.closing.specs.Close.{new_log_of, close_number, Close}

module _ (s : Node) (old output : List ℕ) where
  pub unsound_state : sound_node s ≡ false → Close s old output (Err Unsound) output
  unfolding close_number
  unsound_state h =
      let e : close_number s old (length output) ≡ 2 = simp h in
      record { answers = refuses e; output_is = simp e }

  module _ (sound : sound_node s ≡ true) where
    pub too_soon : s.phase < s.f + 2 → Close s old output (Err Phase) output
    unfolding close_number
    too_soon h =
        let e : close_number s old (length output) ≡ 3 = simp (sound, lt-leb _ _ h) in
        record { answers = refuses e; output_is = simp e }

    module _ (over : s.f + 2 ≤ s.phase) where
      pub no_log : is_log old ≡ false → Close s old output (Err NoLog) output
      unfolding close_number
      no_log h =
          let e : close_number s old (length output) ≡ 7 = simp (sound, le-leb _ _ over, h) in
          record { answers = refuses e; output_is = simp e }

      module _ (log : is_log old ≡ true) where
        pub exceeds : log_most < length (new_log_of s old) → Close s old output (Err LogFull) output
        unfolding close_number fits
        exceeds m =
            let e : close_number s old (length output) ≡ 8 = simp (sound, le-leb _ _ over, log, lt-leb _ _ m) in
            record { answers = refuses e; output_is = simp e }

        module _ (most : length (new_log_of s old) ≤ log_most) where
          pub too_short : length output < length (new_log_of s old) → Close s old output (Err Short) output
          unfolding close_number fits
          too_short m =
              let e : close_number s old (length output) ≡ 9 = simp (sound, le-leb _ _ over, log, le-leb _ _ most, lt-leb _ _ m) in
              record { answers = refuses e; output_is = simp e }

          pub closes : length (new_log_of s old) ≤ length output → Close s old output (Ok (length (new_log_of s old))) (onto (new_log_of s old) output)
          unfolding close_number fits
          closes room =
              let e : close_number s old (length output) ≡ done = simp (sound, le-leb _ _ over, log, le-leb _ _ most, le-leb _ _ room) in
              record { answers = answers e refl; output_is = simp e }
