-- What `dup` comes to.
use Rattle.std.proofs.Common.{◌≡◌, ◌∙◌, refl, sym, ap, subst, ℕ, true, List, length, Option, None, Some, lit≤}
use Rattle.std.specs.Prelude.{IfOk, IfSome, Result, Ok, Err}
use Rattle.std.specs.List.{list_all}
use Rattle.std.proofs.lemmas.List.{length-map}
use Rattle.sb_book.specs.Histories.{setting_of}
use Rattle.sb_book.specs.ReadyScripts.{Ready}
use Rattle.sb_compile.specs.Compiling.{policies_of_targets}
use Rattle.sb_core.specs.declared.runs.Ran.{Ran}
use Rattle.sb_dup.specs.Lines.{is_between}
use Rattle.sb_dup.specs.MoveTexts.{reading}
use Rattle.sb_dup.specs.declared.moves.Move.{Move}
use Rattle.sb_message.specs.declared.text_faults.TextFault.TheVariants.{Moves}
use Rattle.sb_rule.specs.Verdicts.{policy_at}
use Rattle.sb_rule.specs.declared.policies.Policy.{Policy}
use Rattle.sb_ruletext.specs.Laws.{ReadPoliciesAreWellMade}
use Rattle.sb_scripttext.specs.Readiness.{ReadScriptsAreReady}
use Rattle.sb_statements.specs.declared.scripts.Script.{Script}
use Rattle.sb_plain.specs.Contents.{FileContent, most_bytes, no_schedule}
use Rattle.sb_plain.specs.Dup.{dup_end, moves_end, moves_of, reported_moves}
use Rattle.sb_plain.specs.Ends.{End, Plain}
use Rattle.sb_plain.specs.Readings.{ReportedEnd, reported}
use Rattle.sb_plain.specs.Replay.{whole_run}
use Rattle.sb_plain.specs.ScriptEnds.{ends, needed}
use Rattle.sb_plain.specs.Sound.{AreEndsSound, IsSound, RunsAreSound}
use Rattle.sb_plain.proofs.Readings.{can_run, same_end}
use Rattle.sb_plain.proofs.ScriptEnds.{each_end}
use Rattle.sb_plain.proofs.Suiting.{IsSuited, RefusesFor, of_needed, script_suited, third_text}

-- ---- the run and its end

-- there is a policy for each target, so that moves are between targets that are judged
pub each_judged : (policies targets : List Policy) (script read : Script) (moves : List Move) → targets ≡ policies_of_targets policies script.targets → script ≡ read
    → list_all (is_between (length read.targets)) moves ≡ true → list_all (is_between (length targets)) moves ≡ true
each_judged policies targets script read moves e same h =
    let count : length targets ≡ length read.targets = ap (λ (ps : List Policy). length ps) e ∙ (length-map script.targets (λ target. policy_at policies target.policy)
    ∙ ap (λ (s : Script). length s.targets) same) in
    subst (λ n. list_all (is_between n) moves ≡ true) (sym count) h

-- the end of the run of a script that was read is that of the command
pub moves_ended : {E : Type 0} (opened : Ready) (targets : List Policy) (script : Script) (moves : List Move) (r : Ran) (made : Result ReportedEnd E)
    → targets ≡ (setting_of opened.policies opened.script).policies → script ≡ opened.script → r ≡ whole_run opened.policies opened.script no_schedule
    → IfOk made (λ end. end ≡ reported_moves targets script moves r) → IfOk made (λ end. end ≡ reported (moves_end opened.policies opened.script moves))
moves_ended opened targets script moves r (Ok end) judged same whole e =
    let by = (setting_of opened.policies opened.script).policies in
    e ∙ (ap (λ (ts : List Policy). reported_moves ts script moves r) judged
    ∙ (ap (λ (s : Script). reported_moves by s moves r) same
    ∙ ap (λ (x : Ran). reported_moves by opened.script moves x) whole))
moves_ended opened targets script moves r (Err fault) judged same whole e = tt

-- ---- its statuses, and its runs

moves_refuse : (script : Script) (text : FileContent) → text.which ≡ 3 → RefusesFor 3 (moves_of script text)
moves_refuse script text n = third_text Moves 3 text (reading (length script.targets) text.bytes) n (lit≤ tt)

pub dup_suited : IsSuited 3 dup_end
dup_suited =
    script_suited 3 most_bytes (λ script. needed (moves_of script)) (ends moves_end) (lit≤ tt)
    (λ script text third. of_needed (moves_of script) (moves_refuse script) text third) (λ policies script text moves third e. tt)

pub dup_sound : RunsAreSound → ReadPoliciesAreWellMade → ReadScriptsAreReady → AreEndsSound (Plain dup_end)
dup_sound law made ready =
    each_end most_bytes (λ script. needed (moves_of script)) (ends moves_end) (λ (x : End). IfSome x.run IsSound)
    (λ first second files r reached parts e.
    subst (λ (x : End). IfSome x.run IsSound) (same_end (moves_end r.0.policies r.0.script r.1) reached e)
    (law r.0.policies r.0.script no_schedule (can_run made ready first second r.0.policies r.0.script no_schedule parts.policies parts.script refl)))
