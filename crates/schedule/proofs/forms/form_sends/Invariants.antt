use Rattle.std.proofs.Common.{◌≡◌, ◌+◌, ◌≤◌, length}
use Rattle.text.specs.Lines.{lines_of}
use Rattle.header.specs.Header.{header_size}
use Rattle.schedule.specs.Forms.{form_sends}
use Rattle.schedule.proofs.forms.form_sends.Given as goal

abbrev pub invariant-loop-rest : goal.invariant-loop-rest
invariant-loop-rest l = record {
  few : l.k + length l.rest ≤ 20 + length l.s;
  left : form_sends l.h (header_size + 1 + l.h.n) 0 (lines_of l.s) ≡ form_sends l.h l.k l.last (lines_of l.rest);
}

abbrev pub decreases-loop-rest : goal.decreases-loop-rest
decreases-loop-rest l = length l.rest
