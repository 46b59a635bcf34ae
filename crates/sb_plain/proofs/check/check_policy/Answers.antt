use Rattle.std.proofs.Common.{◌≡◌, refl, inr, sym, subst, rules}
use Rattle.std.specs.Prelude.{IfErr, Result, Err}
use Rattle.sb_message.specs.declared.statuses.Refusal.TheVariants.{NoMemory}
use Rattle.sb_plain.specs.Check.{check_text, printed_end}
use Rattle.sb_plain.specs.Contents.{ShownRefusal, refused}
use Rattle.sb_plain.specs.Readings.{GivesEnd, IsOfText, ReportedEnd, reported}
use Rattle.sb_plain.proofs.Checking.{text_printed, text_refused}
use Rattle.sb_plain.proofs.KeptFiles.{handed_on}
use Rattle.sb_plain.proofs.check.check_policy.Goals as goal

pub returns-in_err-text-clause-given : goal.returns-in_err-text-clause-given
returns-in_err-text-clause-given c =
    handed_on (GivesEnd (check_text c.args.text)) c.from_residual.result c.in_err-text.field-0.0 c.from_residual.ensures.1
    (text_refused c.args.text c.in_err-text.field-0.0 c.in_err-text.ensures.policies)

pub returns-in_err-text-clause-refused : goal.returns-in_err-text-clause-refused
returns-in_err-text-clause-refused c =
    handed_on (λ (r : Result ReportedEnd ShownRefusal). IfErr r (λ refusal. IsOfText refusal.why)) c.from_residual.result c.in_err-text.field-0.0 c.from_residual.ensures.1
    c.in_err-text.ensures.refused

pub returns-clause-given : goal.returns-clause-given
returns-clause-given c = text_printed c.args.text c.in_ok-text.policies.list _ c.in_ok-text.ensures.policies (search rules)
