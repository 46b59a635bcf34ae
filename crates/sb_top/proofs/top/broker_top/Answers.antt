use Rattle.std.specs.Prelude.{Ok}
use Rattle.sb_commands.specs.Commands.{command_of}
use Rattle.sb_commands.specs.Usage.{texts}
use Rattle.sb_plain.specs.Effects.{IsOrderly, effect}
use Rattle.sb_top.specs.Top.{EndsAsMeant, files_for}
use Rattle.sb_top.proofs.Finishing.{after_first}
use Rattle.sb_top.proofs.top.broker_top.Goals as goal

pub returns-in-Err-clause-ends : goal.returns-in-Err-clause-ends
returns-in-Err-clause-ends g c =
    let files = c.threads_top.new.files in
    let out = c.threads_top.new.out in
    after_first (λ w f o. EndsAsMeant w (effect g.F.Files.held g.F.Files.faults g.K.Sink.written g.K.Sink.pending g.K.Sink.faults f files o out) c.threads_top.result)
    (command_of (texts c.args.words.now)) (Ok c.in-Err.command) c.args.files.now c.plain_top.new.files c.args.out.now c.plain_top.new.out
    c.in-Err.ensures.handed c.in-Err.ensures.unread c.in-Err.ensures.unwritten c.threads_top.ensures.ends

pub returns-in-Err-clause-orderly : goal.returns-in-Err-clause-orderly
returns-in-Err-clause-orderly g c =
    let files = c.threads_top.new.files in
    let out = c.threads_top.new.out in
    after_first (λ w f o. IsOrderly (files_for w) (effect g.F.Files.held g.F.Files.faults g.K.Sink.written g.K.Sink.pending g.K.Sink.faults f files o out) c.threads_top.result)
    (command_of (texts c.args.words.now)) (Ok c.in-Err.command) c.args.files.now c.plain_top.new.files c.args.out.now c.plain_top.new.out
    c.in-Err.ensures.handed c.in-Err.ensures.unread c.in-Err.ensures.unwritten c.threads_top.ensures.orderly
