use Rattle.std.proofs.Common.{◌≡◌, drop, map}
use Rattle.sb_commands.specs.Forms.{form_in, form_with}
use Rattle.sb_commands.proofs.forms.form_among.Given as goal

abbrev pub invariant-loop-work : goal.invariant-loop-work
invariant-loop-work l = form_in (map form_with (drop l.work-index l.works)) l.name ≡ form_in (map form_with l.works) l.name
