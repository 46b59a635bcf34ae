use Rattle.std.proofs.Common.{◌≡◌, ap, subst, ℕ, List, length}
use Rattle.std.specs.Prelude.{Ok, Err}
use Rattle.sb_base.specs.Refusals.{Gives, GivesAs}
use Rattle.sb_scripttext.specs.ScriptTexts.{reading}
use Rattle.sb_message.specs.declared.text_faults.TextFault.TheVariants as fault
use Rattle.sb_plain.specs.Contents.{read_as}
use Rattle.sb_plain.proofs.Readings.{gives_refused}
use Rattle.sb_book.specs.ReadyScripts.{Ready}
use Rattle.sb_plain.proofs.reading.script_of.Goals as goal

pub returns-in-Ok-clause-script : goal.returns-in-Ok-clause-script
returns-in-Ok-clause-script c =
    ap (read_as fault.Script c.args.text) (subst (λ (bytes : List ℕ). GivesAs (λ (s : Ready). s.script) (reading c.args.policies.list bytes) (Ok c.in-Ok.opened)) c.bytes.ensures.bytes c.in-Ok.ensures.exactly)

pub returns-in-Err-clause-script : goal.returns-in-Err-clause-script
returns-in-Err-clause-script c =
    gives_refused (λ (s : Ready). s.script) fault.Script c.args.text (reading c.args.policies.list c.args.text.bytes) c.in-Err.refused c.refused.result
    (subst (λ (bytes : List ℕ). GivesAs (λ (s : Ready). s.script) (reading c.args.policies.list bytes) (Err c.in-Err.refused)) c.bytes.ensures.bytes c.in-Err.ensures.exactly) c.refused.ensures.refusal
