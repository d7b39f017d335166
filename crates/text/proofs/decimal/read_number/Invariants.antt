use Rattle.std.proofs.Common.{◌≡◌, ◌≤◌, drop}
use Rattle.text.specs.Numbers.{number_in}
use Rattle.text.proofs.Digits.{number_from}
use Rattle.text.proofs.decimal.read_number.Given as goal

abbrev pub invariant-loop-b : goal.invariant-loop-b
invariant-loop-b l = record { few : l.v ≤ l.most; left : number_in l.most l.s ≡ number_from l.most l.v (drop l.b-index l.s) }
