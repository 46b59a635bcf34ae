use Rattle.std.proofs.Common.{◌≡◌, ap, subst, ℕ, List, length}
use Rattle.std.specs.Prelude.{Ok, Err}
use Rattle.sb_base.specs.Refusals.{Gives, GivesAs}
use Rattle.sb_link.specs.LinkTexts.{reading}
use Rattle.sb_message.specs.declared.text_faults.TextFault.TheVariants as fault
use Rattle.sb_plain.specs.Contents.{read_as}
use Rattle.sb_plain.proofs.Readings.{gives_refused, refused_as}
use Rattle.sb_link.specs.declared.links.Link.{Link}
use Rattle.sb_plain.proofs.linked.links_of.Goals as goal

pub returns-in-Ok-clause-given : goal.returns-in-Ok-clause-given
returns-in-Ok-clause-given c =
    ap (read_as fault.Links c.args.text) (subst (λ (bytes : List ℕ). Gives (reading bytes) (Ok c.in-Ok.links)) c.bytes.ensures.bytes c.in-Ok.ensures.exactly)

pub returns-in-Err-clause-given : goal.returns-in-Err-clause-given
returns-in-Err-clause-given c =
    gives_refused (λ (l : List Link). l) fault.Links c.args.text (reading c.args.text.bytes) c.in-Err.refused c.refused.result
    (refused_as (reading c.args.text.bytes) c.in-Err.refused (subst (λ (bytes : List ℕ). Gives (reading bytes) (Err c.in-Err.refused)) c.bytes.ensures.bytes c.in-Err.ensures.exactly)) c.refused.ensures.refusal
