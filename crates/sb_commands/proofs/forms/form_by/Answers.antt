use Rattle.std.proofs.Common.{◌∙◌, List, ap, map}
use Rattle.sb_commands.specs.Forms.{form_in, form_with}
use Rattle.sb_commands.specs.declared.works.Work.{Work}
use Rattle.sb_commands.proofs.forms.form_by.Goals as goal

pub returns : goal.returns
returns c = c.form_among.ensures ∙ ap (λ (works : List Work). form_in (map form_with works) c.args.name.now) c.all_works.ensures
