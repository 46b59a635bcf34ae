use Rattle.std.proofs.Common.{◌≡◌, ap, subst, ℕ, List, length}
use Rattle.std.specs.Prelude.{Ok, Err}
use Rattle.sb_base.specs.Refusals.{Gives, GivesAs}
use Rattle.sb_scripttext.specs.ScheduleTexts.{reading}
use Rattle.sb_message.specs.declared.text_faults.TextFault.TheVariants as fault
use Rattle.sb_plain.specs.Contents.{read_as}
use Rattle.sb_plain.proofs.Readings.{gives_refused, refused_as}
use Rattle.sb_statements.specs.declared.schedules.Schedule.{Schedule}
use Rattle.sb_plain.proofs.reading.schedule_of.Goals as goal

pub returns-in-Ok-clause-given : goal.returns-in-Ok-clause-given
returns-in-Ok-clause-given c =
    ap (read_as fault.Schedule c.args.text) (subst (λ (bytes : List ℕ). Gives (reading c.args.script.now.targets bytes) (Ok c.in-Ok.schedule)) c.bytes.ensures.bytes c.in-Ok.ensures.exactly)

pub returns-in-Err-clause-given : goal.returns-in-Err-clause-given
returns-in-Err-clause-given c =
    gives_refused (λ (s : Schedule). s) fault.Schedule c.args.text (reading c.args.script.now.targets c.args.text.bytes) c.in-Err.refused c.refused.result
    (refused_as (reading c.args.script.now.targets c.args.text.bytes) c.in-Err.refused (subst (λ (bytes : List ℕ). Gives (reading c.args.script.now.targets bytes) (Err c.in-Err.refused)) c.bytes.ensures.bytes c.in-Err.ensures.exactly)) c.refused.ensures.refusal
