use Rattle.std.proofs.Common.{ap, sym}
use Rattle.sb_commands.specs.Forms.{form_with}
use Rattle.sb_commands.specs.declared.works.PlainWork.{PlainWork}
use Rattle.sb_commands.specs.declared.works.Work.TheVariants.{Plain}
use Rattle.sb_commands.proofs.forms.plain_form.Goals as goal

pub returns-in-Check : goal.returns-in-Check
returns-in-Check c = ap (λ (work : PlainWork). form_with (Plain work)) (sym c.in-Check.is)

pub returns-in-Replay : goal.returns-in-Replay
returns-in-Replay c = ap (λ (work : PlainWork). form_with (Plain work)) (sym c.in-Replay.is)

pub returns-in-Dup : goal.returns-in-Dup
returns-in-Dup c = ap (λ (work : PlainWork). form_with (Plain work)) (sym c.in-Dup.is)

pub returns-in-Local : goal.returns-in-Local
returns-in-Local c = ap (λ (work : PlainWork). form_with (Plain work)) (sym c.in-Local.is)

pub returns-in-Audit : goal.returns-in-Audit
returns-in-Audit c = ap (λ (work : PlainWork). form_with (Plain work)) (sym c.in-Audit.is)
