use Rattle.std.proofs.Common.{◌≡◌, ap, subst, ℕ, List, length}
use Rattle.std.specs.Prelude.{Ok, Err}
use Rattle.sb_base.specs.Refusals.{Gives, GivesAs}
use Rattle.sb_ruletext.specs.PolicyTexts.{reading}
use Rattle.sb_message.specs.declared.text_faults.TextFault.TheVariants as fault
use Rattle.sb_plain.specs.Contents.{read_as}
use Rattle.sb_plain.proofs.Readings.{gives_refused}
use Rattle.sb_rule.specs.declared.policies.Policies.{Policies}
use Rattle.sb_plain.proofs.reading.policies_of.Goals as goal

pub returns-in-Ok-clause-given : goal.returns-in-Ok-clause-given
returns-in-Ok-clause-given c =
    ap (read_as fault.Policy c.args.text) (subst (λ (bytes : List ℕ). GivesAs (λ (p : Policies). p.list) (reading bytes) (Ok c.in-Ok.policies)) c.bytes.ensures.bytes c.in-Ok.ensures)

pub returns-in-Err-clause-given : goal.returns-in-Err-clause-given
returns-in-Err-clause-given c =
    gives_refused (λ (p : Policies). p.list) fault.Policy c.args.text (reading c.args.text.bytes) c.in-Err.refused c.refused.result
    (subst (λ (bytes : List ℕ). GivesAs (λ (p : Policies). p.list) (reading bytes) (Err c.in-Err.refused)) c.bytes.ensures.bytes c.in-Err.ensures) c.refused.ensures.refusal
