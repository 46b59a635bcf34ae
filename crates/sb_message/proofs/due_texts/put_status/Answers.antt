use Rattle.sb_message.specs.DueTexts.{status_text}
use Rattle.sb_message.proofs.due_texts.put_status.Goals as goal

pub returns : goal.returns
unfolding status_text
returns g = g.put_number_and_bits.ensures
