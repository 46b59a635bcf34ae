use Rattle.std.proofs.Common.{codes, map, ◌∷◌, []}
use Rattle.sb_call.specs.CallWords.{call_word}
use Rattle.sb_transcript.specs.Fields.{argument_field, counted}
use Rattle.sb_transcript.specs.Printed.{args_seen}
use Rattle.sb_transcript.proofs.Putting.{in_three}
use Rattle.sb_transcript.proofs.writing.put_performed.Goals as goal

pub returns : goal.returns
returns c =
    in_three _ _ _ _ (codes "performed" ∷ call_word c.args.tag ∷ []) (map argument_field (args_seen c.args.args)) (counted c.args.word.now c.args.line)
    c.in_ok-put_call.ensures c.in_ok-put_args.ensures c.in_ok-put_counted.ensures
