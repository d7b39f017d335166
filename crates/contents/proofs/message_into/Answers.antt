-- What the text of the message says in hex is the message.
use Rattle.text.proofs.Written.{put_equal}
use Rattle.contents.proofs.message_into.Goals as goal

pub returns : goal.returns
returns c = put_equal _ _ _ _ _ c.message_text.ensures c.hex_into.ensures
