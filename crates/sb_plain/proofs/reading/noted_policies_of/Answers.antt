use Rattle.std.proofs.Common.{◌≡◌, Global, List, Vec, ap, subst, ℕ}
use Rattle.std.specs.Prelude.{Ok, Err}
use Rattle.sb_base.specs.Refusals.{Gives, GivesAs}
use Rattle.sb_ruletext.specs.PolicyTexts.{reading}
use Rattle.sb_message.specs.declared.text_faults.TextFault.TheVariants as fault
use Rattle.sb_plain.specs.Contents.{read_as}
use Rattle.sb_plain.proofs.Readings.{gives_refused}
use Rattle.sb_rule.specs.declared.policies.Policies.{Policies}
use Rattle.sb_ruletext.specs.declared.notes.Note.{Note}
use Rattle.sb_plain.proofs.reading.noted_policies_of.Goals as goal

pub returns-in-Ok-clause-policies : goal.returns-in-Ok-clause-policies
returns-in-Ok-clause-policies c =
    ap (read_as fault.Policy c.args.text) (subst (λ (bytes : List ℕ). GivesAs (λ (r : Policies × Vec Note Global). r.0.list) (reading bytes) (Ok (c.in-Ok.policies, c.in-Ok.notes))) c.bytes.ensures.bytes c.in-Ok.ensures.policies)

pub returns-in-Err-clause-policies : goal.returns-in-Err-clause-policies
returns-in-Err-clause-policies c =
    gives_refused (λ (r : Policies × Vec Note Global). r.0.list) fault.Policy c.args.text (reading c.args.text.bytes) c.in-Err.refused c.refused.result
    (subst (λ (bytes : List ℕ). GivesAs (λ (r : Policies × Vec Note Global). r.0.list) (reading bytes) (Err c.in-Err.refused)) c.bytes.ensures.bytes c.in-Err.ensures.policies) c.refused.ensures.refusal
