-- What a call answers: a value, or the row of the table that refuses it. "A refusal returns the number and nothing else of use."
use Rattle.std.specs.Prelude.{ℕ, ◌≡◌, Option, Some, None, Result, Ok, Err}
use Rattle.rules.specs.declared.refusal.Refusal.{Refusal}
use Rattle.rules.specs.declared.refusal.Refusal.TheVariants.{Sizes, Unsound, Phase, IllCut, Held, Full, NoLog, LogFull, Short, FewSigners, FirstAfterLast}
use Rattle.rules.specs.Refusals.{done, if_done}

-- a row's number in document 01's table
abbrev pub number_of : Refusal → ℕ
number_of Sizes = 1
number_of Unsound = 2
number_of Phase = 3
number_of IllCut = 4
number_of Held = 5
number_of Full = 6
number_of NoLog = 7
number_of LogFull = 8
number_of Short = 9
number_of FewSigners = 10
number_of FirstAfterLast = 11

-- the number that an answer gives, and the value that it has
abbrev pub number_in : {A : Type 0} → Result A Refusal → ℕ
number_in (Ok value) = done
number_in (Err refusal) = number_of refusal

abbrev pub value_in : {A : Type 0} → Result A Refusal → Option A
value_in (Ok value) = Some value
value_in (Err refusal) = None

-- an answer is this value where the number of the first row that refuses is 0, and else that number
pub record Answers {A : Type 0} (number : ℕ) (value : A) (answer : Result A Refusal) : Type 0 where
  pub number_is : number_in answer ≡ number
  pub value_is : value_in answer ≡ if_done number (Some value) None
