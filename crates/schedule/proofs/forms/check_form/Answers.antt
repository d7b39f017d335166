-- Too long, a bad header line, or what the lines after the header say.
use Rattle.std.proofs.Common.{◌+◌, ◌∙◌, ap, sym, Err}
use Rattle.std.proofs.lemmas.Result.{err_from_is_err_and}
use Rattle.rules.proofs.Sizes.{sized_most}
use Rattle.text.specs.Lines.{lines_of}
use Rattle.header.specs.Header.{header_size}
use Rattle.header.proofs.Heads.{header_told}
use Rattle.schedule.specs.Forms.{form_trays}
use Rattle.schedule.proofs.Turns.{form_bad, form_good, form_long}
use Rattle.schedule.proofs.forms.check_form.Goals as goal

pub returns-then-s-gt-SCHEDULE_MOST : goal.returns-then-s-gt-SCHEDULE_MOST
returns-then-s-gt-SCHEDULE_MOST c = sym (form_long c.args.s.now c.if-s-gt-SCHEDULE_MOST.true)

pub returns-in_err-read_header : goal.returns-in_err-read_header
returns-in_err-read_header c =
    let p = err_from_is_err_and c.from_residual.result c.from_residual.ensures.1 in
    p.1 ∙ ap Err p.2 ∙ sym (form_bad c.args.s.now c.if-s-gt-SCHEDULE_MOST.false _ (sym c.in_err-read_header.ensures))

pub form_trays-requires : goal.form_trays-requires
form_trays-requires c = sized_most _ (header_told (lines_of c.args.s.now) _ (sym c.in_ok-read_header.ensures)).nodes

pub returns : goal.returns
returns c =
    c.form_trays.ensures ∙ ap (form_trays _ (header_size + 1) _) c.past_lines.ensures
    ∙ sym (form_good c.args.s.now c.if-s-gt-SCHEDULE_MOST.false _ (sym c.in_ok-read_header.ensures))
