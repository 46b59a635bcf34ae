-- The lines of a schedule text below its first, as words.
use Rattle.std.specs.Prelude.{ℕ, ◌&&◌, nat_le, List, None, Some, Result, Ok, Err, if◌then◌else◌, codes}
use Rattle.sb_call.specs.CallWords.{is_word}
use Rattle.sb_scripttext.specs.Actors.{actor_of}
use Rattle.sb_scripttext.specs.ScheduleDrafts.{Drafted, has_rounds, with_step, with_rounds}
use Rattle.sb_scripttext.specs.ScheduleLimits.{most_steps, most_rounds}
use Rattle.sb_scripttext.specs.declared.schedule_faults.ScheduleKind.{ScheduleKind}
use Rattle.sb_scripttext.specs.declared.schedule_faults.ScheduleKind.TheVariants.{UnknownWord, UnknownActor, BadNumber, OutOfRange}
use Rattle.sb_statements.specs.declared.schedules.Actor.{Actor}
use Rattle.sb_statements.specs.declared.scripts.TargetScript.{TargetScript}
use Rattle.sb_text.specs.Columns.{fails}
use Rattle.sb_text.specs.Numbers.{number_of}
use Rattle.sb_text.specs.Steps.{◌>>=◌, Read, at_token, end_at, is_end, later, or_fails, word_at}
use Rattle.sb_text.specs.Tokens.{Lexemes}
use Rattle.sb_text.specs.declared.refusals.TokenFault.{TokenFault}
use Rattle.sb_text.specs.declared.refusals.WordFault.TheVariants.{Unknown, Missing, Extra, Broken, Quoted, Misplaced}

-- a word
abbrev pub any_word_at : Lexemes → Read (List ℕ) ScheduleKind
any_word_at words = word_at (UnknownWord Quoted) (UnknownWord Broken) (UnknownWord Missing) words

-- N from lo to hi
abbrev pub within : ℕ → ℕ → List ℕ → Result ℕ ScheduleKind
within lo hi word = elim (number_of word) [ None ↦ Err BadNumber | Some n ↦ if nat_le lo n && nat_le n hi then Ok n else Err (OutOfRange lo hi) ]

-- N from lo to hi, the last word of its line
abbrev pub last_number : ℕ → ℕ → Lexemes → Result ℕ (TokenFault ScheduleKind)
last_number lo hi words = do
  (word, rest) ← any_word_at words
  n ← at_token words (within lo hi word)
  end ← end_at (UnknownWord Extra) (UnknownWord Broken) rest
  Ok n

-- how many steps, after the actor: one if the line does not say
abbrev pub count_at : Lexemes → Result ℕ (TokenFault ScheduleKind)
count_at words = if is_end words then Ok 1 else last_number 1 most_steps words

-- `step ACTOR` or `step ACTOR N`, after its first word
abbrev pub step : List TargetScript → Lexemes → Result (Actor × ℕ) (TokenFault ScheduleKind)
step targets words = do
  (word, rest) ← any_word_at words
  actor ← or_fails words UnknownActor (actor_of targets word)
  n ← count_at rest
  Ok (actor, n)

-- the last word of such a line, N or the actor
abbrev pub last_word : Lexemes → Lexemes
last_word words = if is_end (later words) then words else later words

-- the draft with such steps; that they are too many is told at the last word of the line
abbrev pub add_steps : List TargetScript → Drafted → Lexemes → Result Drafted (TokenFault ScheduleKind)
add_steps targets draft words = step targets words >>= λ s. at_token (last_word words) (with_step draft s)

-- what a line that begins with this word adds
unfoldable pub line_by : List TargetScript → Drafted → List ℕ → Lexemes → Lexemes → Result Drafted (TokenFault ScheduleKind)
line_by targets draft first line words =
    if is_word (codes "step") first then add_steps targets draft words
    else (if is_word (codes "rounds") first then (last_number 0 most_rounds words >>= λ n. Ok (with_rounds draft n))
    else fails line (UnknownWord Unknown))

-- what a line adds to what was read so far; nothing follows `rounds`
unfoldable pub line_of : List TargetScript → Drafted → Lexemes → Result Drafted (TokenFault ScheduleKind)
line_of targets draft line =
    if has_rounds draft then fails line (UnknownWord Misplaced)
    else (any_word_at line >>= λ (first, words). line_by targets draft first line words)
