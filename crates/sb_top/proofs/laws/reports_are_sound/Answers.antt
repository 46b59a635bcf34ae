use Rattle.sb_top.proofs.AllCommands.{reports_are_sound}
use Rattle.sb_top.proofs.laws.reports_are_sound.Goals as goal

pub returns : goal.returns
returns c =
    reports_are_sound c.runs_are_sound.ensures c.read_policies_are_well_made.ensures c.read_scripts_are_ready.ensures
    c.read_schedules_are_bounded.ensures.there c.thinned_scripts_are_sound.ensures.ready c.thinned_scripts_are_sound.ensures.actors
