-- "The examples marked P are proved of the definitions in a single list under one claim."
use Rattle.worked.specs.Test.{AllHold}
use Rattle.worked.specs.Tests.{tests}

abbrev pub WorkedExamples : Type 0
WorkedExamples = AllHold tests
