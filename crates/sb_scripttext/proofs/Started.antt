-- What one more opening line makes of what is so far there.
use Rattle.std.proofs.Common.{◌≡◌, ◌∙◌, sym, ap, arith, ◌<◌, nat_lt, Bool, true, false, cond, List, [], ◌∷◌, ◌++◌, length, Result, Ok, Err}
use Rattle.std.proofs.lemmas.Bool.Decides.{nat_tests}
use Rattle.std.specs.Bool.{⊤}
use Rattle.sb_statements.specs.declared.scripts.StartLine.{StartLine}
use Rattle.sb_scripttext.specs.Openings.{can_place, with_line}
use Rattle.sb_scripttext.specs.Drafts.{with_start}
use Rattle.sb_scripttext.specs.declared.drafts.Draft.{Draft}
use Rattle.sb_scripttext.specs.StartFaults.{start_fault}
use Rattle.sb_scripttext.specs.declared.faults.ScriptKind.{ScriptKind}
use Rattle.sb_scripttext.specs.declared.faults.ScriptKind.TheVariants.{TooMany, BadStart}
use Rattle.sb_base.specs.Refusals.{Gives}
use Rattle.sb_text.specs.Steps.{Becomes}
use Rattle.sb_base.specs.declared.refusals.Refused.{Refused}
use Rattle.sb_base.specs.declared.refusals.Refused.TheVariants as refused
use Rattle.sb_scripttext.specs.declared.faults.ScriptLimit.TheVariants.{Openings}

same_lines : (a b : List StartLine) → ◌≡◌ {A = Result (List StartLine) ScriptKind} (Ok a) (Ok b) → a ≡ b
same_lines a b e = cc

same_kind : (a b : ScriptKind) → ◌≡◌ {A = Result (List StartLine) ScriptKind} (Err a) (Err b) → a ≡ b
same_kind a b e = cc

abbrev with_lines : Draft → List StartLine → Result Draft ScriptKind
with_lines sofar lines = Ok (record sofar { start = lines })

-- what is so far there with a line that was placed after the others
pub start_more : (sofar : Draft) (line : StartLine) (before lines : List StartLine) → before ≡ sofar.start → with_line before line ≡ Ok lines
    → length sofar.start < 4096 → with_start sofar line ≡ Ok (record sofar { start = lines })
start_more sofar line before lines s e l =
    by (can_place sofar.start line) (sofar.start ++ line ∷ []) (nat_lt (length sofar.start) 4096) (ap (λ lines. with_line lines line) (sym s) ∙ e)
    (grind (arith, nat_tests, l))
  where
    bad : ScriptKind
    bad = BadStart (start_fault sofar.start line)

    by : (b : Bool) (more : List StartLine) (few : Bool) → ◌≡◌ {A = Result (List StartLine) ScriptKind} (cond b (Ok more) (Err bad)) (Ok lines) → few ≡ true
        → ◌≡◌ {A = Result Draft ScriptKind} (cond b (cond few (with_lines sofar more) (Err (TooMany Openings))) (Err bad)) (with_lines sofar lines)
    by true more true e l = ap (with_lines sofar) (same_lines more lines e)
    by true more false e l = absurd cc
    by false more few e l = absurd cc

-- why a line was not placed after the others is why there is nothing with it
pub start_refused : (sofar new : Draft) (line : StartLine) (before : List StartLine) (why : Refused ScriptKind) → before ≡ sofar.start
    → Gives {A = List StartLine} (with_line before line) (Err why) → Becomes {A = ⊤} (with_start sofar line) (Err why) new
start_refused sofar new line before (refused.Fault kind) s h =
    by (can_place sofar.start line) (sofar.start ++ line ∷ [])
    (cond (nat_lt (length sofar.start) 4096) (with_lines sofar (sofar.start ++ line ∷ [])) (Err (TooMany Openings))) (ap (λ lines. with_line lines line) (sym s) ∙ h)
  where
    bad : ScriptKind
    bad = BadStart (start_fault sofar.start line)

    by : (b : Bool) (more : List StartLine) (next : Result Draft ScriptKind) → ◌≡◌ {A = Result (List StartLine) ScriptKind} (cond b (Ok more) (Err bad)) (Err kind)
        → ◌≡◌ {A = Result Draft ScriptKind} (cond b next (Err bad)) (Err kind)
    by true more next h = absurd cc
    by false more next h = ap Err (same_kind bad kind h)
start_refused sofar new line before refused.NoMemory s h = tt
