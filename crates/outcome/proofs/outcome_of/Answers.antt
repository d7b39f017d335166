-- Each node's log is held; the marks go by the logs held, and the signers by the marks.
use Rattle.node.specs.State.{node_at}
use Rattle.outcome.specs.Logs.{made_log}
use Rattle.outcome.specs.Signing.{has_bit}
use Rattle.outcome.proofs.Coming.{its_signers}
use Rattle.outcome.proofs.outcome_of.Goals as goal

pub returns : goal.returns
returns c =
    let a = c.args in
    let held = c.close_all-logs in
    let x = c.number_all-numbers in
    record {
      made = held.ensures;
      signed = λ l.
          its_signers a.header.n a.header.f (has_bit a.header.faulty) (λ j. made_log (node_at a.nodes j)) held.result held.ensures l x.result x.ensures
          c.count_all-signers.result c.count_all-signers.ensures;
    }
