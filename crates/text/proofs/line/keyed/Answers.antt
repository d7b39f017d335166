-- Too short, another key, or the last byte decides.
use Rattle.std.proofs.Common.{sym, ◌∙◌}
use borrow.Author.Tests.{le-ltb}
use Rattle.laws.proofs.Tests.{clash}
use Rattle.text.proofs.Keys.{key_end, key_other, key_short, starts_same}
use Rattle.text.proofs.line.keyed.Goals.{then-key-line, else-key-line}
use Rattle.text.proofs.line.keyed.Goals as goal

pub returns-then-starts_with : goal.returns-then-starts_with
returns-then-starts_with c =
    let a = c.args in elim c.if-key-line.branch [
      | then-key-line w ↦ sym (key_end a.key.now a.line.now w.if-key-line.true
          (sym (w.starts_with.ensures.value ∙ starts_same a.key.now a.line.now) ∙ sym w.value-is ∙ c.if-starts_with.true))
      | else-key-line w ↦ absurd (clash c.if-starts_with.true (w.value-is ∙ le-ltb _ _ w.if-key-line.false))
    ]

pub returns-else-starts_with : goal.returns-else-starts_with
returns-else-starts_with c =
    let a = c.args in c.if-starts_with.false ∙ sym (elim c.if-key-line.branch [
      | then-key-line w ↦ key_other a.key.now a.line.now
          (sym (w.starts_with.ensures.value ∙ starts_same a.key.now a.line.now) ∙ sym w.value-is ∙ c.if-starts_with.false)
      | else-key-line w ↦ key_short a.key.now a.line.now w.if-key-line.false
    ])
