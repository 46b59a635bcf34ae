-- Texts that begin with the same lines, and lines that are put in.
use Rattle.std.proofs.Common.{◌≡◌, refl, sym, ap, ◌∙◌, ℕ, List, ◌++◌, true, false, length, Option, None, Some, Result, Ok, Err}
use Rattle.std.proofs.lemmas.Bool.{false≢true}
use Rattle.sb_scripttext.specs.ScheduleDrafts.{Drafted, finished}
use Rattle.sb_scripttext.specs.ScheduleLaws.{is_known_last, FirstFaultsStay, SkippedLinesCountAlone}
use Rattle.sb_scripttext.specs.ScheduleLines.{line_of}
use Rattle.sb_scripttext.specs.ScheduleTexts.{ScheduleFault, grammar}
use Rattle.sb_scripttext.specs.declared.schedule_faults.ScheduleKind.{ScheduleKind}
use Rattle.sb_scripttext.specs.declared.schedule_faults.ScheduleKind.TheVariants.{NoRounds}
use Rattle.sb_statements.specs.declared.schedules.Actor.{Actor}
use Rattle.sb_statements.specs.declared.schedules.Schedule.{Schedule}
use Rattle.sb_text.specs.LineLaws.{ended}
use Rattle.sb_text.specs.Lines.{raw_lines, lines_of}
use Rattle.sb_text.specs.ReadingLaws as laws
use Rattle.sb_text.specs.Readings.{read_by, renumbered, behind}
use Rattle.sb_text.specs.Steps.{◌>>=◌, on_value}
use Rattle.sb_text.specs.Tokens.{words_of}

-- a schedule that is not finished lacks its rounds
finished_last : (lines : ℕ) (steps : List (Actor × ℕ)) (rounds : Option ℕ) (fault : ScheduleFault)
    → finished lines (record { steps = steps; rounds = rounds }) ≡ Err fault → is_known_last fault.kind ≡ true
finished_last lines steps None fault h = ap (λ (r : Result Schedule ScheduleFault). elim r [ Ok s ↦ true | Err f ↦ is_known_last f.kind ]) (sym h)
finished_last lines steps (Some n) fault h = absurd cc

err_same : (a b : ScheduleFault) → ◌≡◌ {A = Result Schedule ScheduleFault} (Err a) (Err b) → a ≡ b
err_same a b h = cc

-- another fault is one of the lines
of_lines : (lines : ℕ) (read : Result Drafted ScheduleFault) (fault : ScheduleFault) → is_known_last fault.kind ≡ false
    → (read >>= λ draft. finished lines draft) ≡ Err fault → read ≡ Err fault
of_lines lines (Ok draft) fault k e = absurd (false≢true (sym k ∙ finished_last lines draft.steps draft.rounds fault e))
of_lines lines (Err other) fault k e = ap Err (err_same other fault e)

pub first_schedule_faults_stay : laws.FirstFaultsStay Drafted ScheduleKind → FirstFaultsStay
first_schedule_faults_stay law targets front rest other fault s l k e =
    ap (λ (read : Result Drafted ScheduleFault). read >>= λ draft. finished (length (raw_lines (ended front ++ other))) draft)
    (law (grammar targets) front rest other fault s l
    (of_lines (length (raw_lines (ended front ++ rest))) (read_by (grammar targets) (lines_of (ended front ++ rest))) fault k e))

as_it_is : {A E : Type 0} (r : Result A E) → on_value (λ x. x) r ≡ r
as_it_is (Ok x) = refl
as_it_is (Err e) = refl

read_moves : (f : ℕ → ℕ) (m n : ℕ) (read : Result Drafted ScheduleFault)
    → ((fault : ScheduleFault) → (read >>= λ draft. finished n draft) ≡ Err fault → is_known_last fault.kind ≡ false)
    → (renumbered f (λ draft. draft) read >>= λ draft. finished m draft) ≡ renumbered f (λ schedule. schedule) (read >>= λ draft. finished n draft)
read_moves f m n (Ok draft) told = by_rounds draft.steps draft.rounds told
  where
    by_rounds : (steps : List (Actor × ℕ)) (rounds : Option ℕ)
        → ((fault : ScheduleFault) → finished n (record { steps = steps; rounds = rounds }) ≡ Err fault → is_known_last fault.kind ≡ false)
        → finished m (record { steps = steps; rounds = rounds }) ≡ renumbered f (λ schedule. schedule) (finished n (record { steps = steps; rounds = rounds }))
    by_rounds steps None told = absurd (false≢true (sym (told (record { line = n; column = 0; kind = NoRounds }) refl)))
    by_rounds steps (Some rounds) told = refl
read_moves f m n (Err fault) told = refl

pub skipped_schedule_lines_count_alone : laws.SkippedLinesCountAlone Drafted ScheduleKind → SkippedLinesCountAlone
skipped_schedule_lines_count_alone law targets front line rest i k s told =
    let f = behind (length (raw_lines (ended front))) in
    let m = length (raw_lines (ended front ++ (ended line ++ rest))) in
    let n = length (raw_lines (ended front ++ rest)) in
    ap (λ (read : Result Drafted ScheduleFault). read >>= λ draft. finished m draft)
    (law (grammar targets) (λ draft. draft) front line rest (refl, λ version draft line. as_it_is (line_of targets draft (words_of line.text))) i k s)
    ∙ read_moves f m n (read_by (grammar targets) (lines_of (ended front ++ rest))) told
