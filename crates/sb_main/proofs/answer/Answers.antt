use Rattle.std.proofs.Common.{◌≡◌, ◌∙◌, rules, sym, None}
use Rattle.std.specs.Prelude.{Ok}
use Rattle.sb_commands.specs.Commands.{command_of}
use Rattle.sb_commands.specs.Inquiries.{answer_text, asked, asked_of}
use Rattle.sb_commands.specs.Usage.{texts}
use Rattle.sb_outside.specs.Outside.{Rose}
use Rattle.sb_plain.specs.Effects.{effect}
use Rattle.sb_top.specs.Laws.{StatusesAreOfCommands}
use Rattle.sb_top.specs.Top.{EndsAsMeant}
use Rattle.sb_main.specs.Answers.{IsAnswer}
use Rattle.sb_main.proofs.Faulty.{after_first, never_usage}
use Rattle.sb_main.proofs.answer.Goals as goal

pub returns-in-Some-clause-usage : goal.returns-in-Some-clause-usage
returns-in-Some-clause-usage g c = λ fault is.
    absurd (never_usage (answer_text (asked c.in-Some.inquiry)) (g.K.Sink.written c.args.out.now) (g.K.Sink.pending c.args.out.now)
    (g.K.Sink.written c.tell.new.sink) (g.K.Sink.pending c.tell.new.sink) (Rose (g.K.Sink.faults c.args.out.now) (g.K.Sink.faults c.tell.new.sink)) c.tell.result
    fault c.tell.ensures (sym c.bare.ensures.status ∙ is))

pub returns-in-Ok-clause-usage : goal.returns-in-Ok-clause-usage
unfolding StatusesAreOfCommands
returns-in-Ok-clause-usage g c = λ fault is.
    let none : asked_of (texts c.args.words.now) ≡ None = search rules in (
      none,
      (c.statuses_are_of_commands.ensures (command_of (texts c.args.words.now))
          (effect g.F.Files.held g.F.Files.faults g.K.Sink.written g.K.Sink.pending g.K.Sink.faults c.args.files.now c.plain_top.new.files c.args.out.now c.plain_top.new.out)
          c.in-Ok.outcome c.in-Ok.ensures.ends).0 fault is,
    )

pub returns-in-Ok-clause-command : goal.returns-in-Ok-clause-command
returns-in-Ok-clause-command g c = λ none. record { orderly = c.in-Ok.ensures.orderly; ends = c.in-Ok.ensures.ends }

pub returns-in-Err-clause-command : goal.returns-in-Err-clause-command
returns-in-Err-clause-command g c = λ none.
    let files = c.threads_top.new.files in
    let out = c.threads_top.new.out in
    after_first (λ w f o. IsAnswer w (effect g.F.Files.held g.F.Files.faults g.K.Sink.written g.K.Sink.pending g.K.Sink.faults f files o out) c.threads_top.result)
    (command_of (texts c.args.words.now)) (Ok c.in-Err.command) c.args.files.now c.plain_top.new.files c.args.out.now c.plain_top.new.out
    c.in-Err.ensures.handed c.in-Err.ensures.unread c.in-Err.ensures.unwritten
    (record { orderly = c.threads_top.ensures.orderly; ends = c.threads_top.ensures.ends })

pub returns-in-Err-clause-usage : goal.returns-in-Err-clause-usage
unfolding StatusesAreOfCommands
returns-in-Err-clause-usage g c = λ fault is.
    let files = c.threads_top.new.files in
    let out = c.threads_top.new.out in
    let none : asked_of (texts c.args.words.now) ≡ None = search rules in
    let ends = after_first (λ w f o. EndsAsMeant w (effect g.F.Files.held g.F.Files.faults g.K.Sink.written g.K.Sink.pending g.K.Sink.faults f files o out) c.threads_top.result)
    (command_of (texts c.args.words.now)) (Ok c.in-Err.command) c.args.files.now c.plain_top.new.files c.args.out.now c.plain_top.new.out
    c.in-Err.ensures.handed c.in-Err.ensures.unread c.in-Err.ensures.unwritten c.threads_top.ensures.ends in (
      none,
      (c.statuses_are_of_commands.ensures (command_of (texts c.args.words.now))
          (effect g.F.Files.held g.F.Files.faults g.K.Sink.written g.K.Sink.pending g.K.Sink.faults c.args.files.now files c.args.out.now out)
          c.threads_top.result ends).0 fault is,
    )
