use Rattle.std.proofs.Common.{rules, ◌≡◌, ◌≤◌, true}
use Rattle.std.specs.List.{list_all}
use Rattle.sb_scripttext.proofs.ScheduleBounds.{holds_if_read}
use Rattle.sb_statements.specs.Actors.{is_step_there}
use Rattle.sb_scripttext.specs.ScheduleLimits.{most_rounds}
use Rattle.sb_scripttext.specs.ScheduleTexts.{reading}
use Rattle.sb_base.specs.Refusals.{Gives}
use Rattle.sb_scripttext.proofs.schedule_texts.read_schedule.Goals as goal

pub returns-clause-there : goal.returns-clause-there
returns-clause-there c =
    let targets = c.args.script.now.targets in
    let exactly : Gives (reading targets c.args.text.now) c.finished.result = search rules in
    holds_if_read (λ s. list_all (is_step_there targets) s.steps ≡ true) (reading targets c.args.text.now) c.finished.result
    (c.read_schedules_are_bounded.ensures.there targets c.args.text.now) exactly

pub returns-clause-rounds : goal.returns-clause-rounds
returns-clause-rounds c =
    let targets = c.args.script.now.targets in
    let exactly : Gives (reading targets c.args.text.now) c.finished.result = search rules in
    holds_if_read (λ s. s.rounds ≤ most_rounds) (reading targets c.args.text.now) c.finished.result
    (c.read_schedules_are_bounded.ensures.rounds targets c.args.text.now) exactly
