use Rattle.std.proofs.Common.{◌≡◌, ◌+◌, ◌-◌}
use Rattle.text.specs.Lines.{lines_of}
use Rattle.header.specs.Header.{header_size}
use Rattle.schedule.specs.Forms.{form_trays}
use Rattle.schedule.proofs.forms.form_trays.Given as goal

abbrev pub invariant-loop-i : goal.invariant-loop-i
invariant-loop-i l =
    form_trays l.h (header_size + 1) l.h.n (lines_of l.s) ≡ form_trays l.h (header_size + 1 + l.i) (l.h.n - l.i) (lines_of l.rest)
