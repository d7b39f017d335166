-- "Old logs are empty." "Close (phase f + 2): the new log is the old log joined with all n decisions".
use Rattle.std.specs.Prelude.{ℕ, List, []}
use Rattle.rules.specs.Refusals.{if_done}
use Rattle.node.specs.declared.Node.{Node}
use Rattle.closing.specs.Close.{new_log_of, close_number}
use Rattle.closing.specs.Gather.{decided_most}

-- the log that a node makes by its close, on an empty old log and with room for all decisions; empty where the close is refused
unfoldable pub made_log : Node → List ℕ
made_log s = if_done (close_number s [] decided_most) (new_log_of s []) []
