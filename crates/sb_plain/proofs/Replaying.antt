-- The statuses and the runs of `replay`.
use Rattle.std.proofs.Common.{◌≡◌, subst, ℕ, ◌≤◌, List, Option}
use Rattle.std.specs.Prelude.{IfSome}
use Rattle.sb_ruletext.specs.Laws.{ReadPoliciesAreWellMade}
use Rattle.sb_scripttext.specs.ScheduleLaws.{ActorsAreThere}
use Rattle.sb_scripttext.specs.Readiness.{ReadScriptsAreReady}
use Rattle.sb_plain.specs.Contents.{most_bytes, schedule_if}
use Rattle.sb_plain.specs.Ends.{End, Plain}
use Rattle.sb_plain.specs.Replay.{replay_end, run_end}
use Rattle.sb_plain.specs.ScriptEnds.{ends}
use Rattle.sb_plain.specs.Sound.{AreEndsSound, IsSound, RunsAreSound}
use Rattle.sb_plain.proofs.Readings.{can_run, same_end, steps_there}
use Rattle.sb_plain.proofs.ScriptEnds.{each_end}
use Rattle.sb_plain.proofs.Suiting.{IsSuited, of_schedule, script_suited}

-- of two files and of three
pub replay_suited : (files : ℕ) → 2 ≤ files → IsSuited files replay_end
replay_suited files least =
    script_suited files most_bytes schedule_if (ends run_end) least (λ script text third. of_schedule files script text third)
    (λ policies script text schedule third e. tt)

pub replay_sound : RunsAreSound → ReadPoliciesAreWellMade → ReadScriptsAreReady → ActorsAreThere → AreEndsSound (Plain replay_end)
replay_sound law made ready there =
    each_end most_bytes schedule_if (ends run_end) (λ (x : End). IfSome x.run IsSound)
    (λ first second files r reached parts e.
    subst (λ (x : End). IfSome x.run IsSound) (same_end (run_end r.0.policies r.0.script r.1) reached e)
    (law r.0.policies r.0.script r.1
    (can_run made ready first second r.0.policies r.0.script r.1 parts.policies parts.script (steps_there there r.0.script parts.text r.1 parts.value))))
