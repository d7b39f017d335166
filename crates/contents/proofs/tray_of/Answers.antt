-- The line after the header and i tray lines, read as a list.
use Rattle.std.proofs.Common.{◌∙◌, List, ap, ℕ, unwrap_or}
use mathlib.Core.Path.{ap₂}
use Rattle.tray.specs.Trays.{tray_of}
use Rattle.text.specs.Lines.{list_line}
use Rattle.text.specs.declared.Kind.TheVariants.{Entry}
use Rattle.schedule.specs.Keys.{tray_key}
use Rattle.contents.specs.Contents.{items_in}
use Rattle.contents.proofs.Lines.{tray_is, tray_line}
use Rattle.contents.proofs.tray_of.Goals as goal

pub returns : goal.returns
returns c =
    let line = tray_line c.args.s.now _ _ _ c.args.i c.past_lines.ensures c.past_lines-2.ensures c.first_line-line.ensures in
    tray_is _ _ (c.unwrap_or-list.ensures ∙ ap₂ (λ o p. unwrap_or o p) c.line_list.ensures c.none.ensures)
    ∙ ap (λ (l : List ℕ). tray_of (items_in (list_line tray_key Entry l))) line
