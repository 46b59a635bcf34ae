-- A schedule of the actors of a script is one of those of what its targets send.
use Rattle.std.proofs.Common.{◌≡◌, ◌∙◌, refl, ap, ℕ, List, length, Option, None, Some, Bool, cond}
use Rattle.std.specs.Prelude.{Result, Ok, Err, codes, if◌then◌else◌}
use Rattle.sb_call.specs.CallWords.{is_word}
use Rattle.sb_scripttext.specs.Actors.{actor_named, actor_of, where_there}
use Rattle.sb_scripttext.specs.ScheduleDrafts.{Drafted, finished, has_rounds, nothing, with_rounds, with_step}
use Rattle.sb_scripttext.specs.ScheduleLimits.{most_rounds}
use Rattle.sb_scripttext.specs.ScheduleLines.{any_word_at, count_at, last_number, last_word, line_by, line_of}
use Rattle.sb_scripttext.specs.ScheduleTexts.{ScheduleFault, reading, schedule_version}
use Rattle.sb_scripttext.specs.declared.schedule_faults.ScheduleKind.{ScheduleKind}
use Rattle.sb_scripttext.specs.declared.schedule_faults.ScheduleKind.TheVariants.{UnknownActor, UnknownWord}
use Rattle.sb_message.specs.declared.text_faults.TextFault.TheVariants as fault
use Rattle.sb_statements.specs.Actors.{is_there}
use Rattle.sb_statements.specs.declared.schedules.Actor.{Actor}
use Rattle.sb_statements.specs.declared.schedules.Schedule.{Schedule}
use Rattle.sb_statements.specs.declared.scripts.Script.{Script}
use Rattle.sb_statements.specs.declared.scripts.TargetScript.{TargetScript}
use Rattle.sb_text.specs.Columns.{fails}
use Rattle.sb_text.specs.Lines.{NumberedLine, lines_of, raw_lines}
use Rattle.sb_text.specs.Readings.{Grammar, read_by}
use Rattle.sb_text.specs.Steps.{◌>>=◌, at_token, or_fails}
use Rattle.sb_text.specs.Tokens.{Lexemes, by_words, words_of}
use Rattle.sb_text.specs.declared.refusals.TokenFault.{TokenFault}
use Rattle.sb_text.specs.declared.refusals.WordFault.TheVariants.{Misplaced, NoVersion, Unknown}
use Rattle.sb_plain.specs.Contents.{FileContent, ShownRefusal, read_as, schedule_if}

-- what a schedule text means, by the actors that words name
abbrev Named : Type 0
Named = List ℕ → Option Actor

abbrev step_of : Named → Lexemes → Result (Actor × ℕ) (TokenFault ScheduleKind)
step_of named words = do
  (word, rest) ← any_word_at words
  actor ← or_fails words UnknownActor (named word)
  n ← count_at rest
  Ok (actor, n)

abbrev steps_of : Named → Drafted → Lexemes → Result Drafted (TokenFault ScheduleKind)
steps_of named draft words = step_of named words >>= λ s. at_token (last_word words) (with_step draft s)

abbrev by_of : Named → Drafted → List ℕ → Lexemes → Lexemes → Result Drafted (TokenFault ScheduleKind)
by_of named draft first line words =
    if is_word (codes "step") first then steps_of named draft words
    else (if is_word (codes "rounds") first then (last_number 0 most_rounds words >>= λ n. Ok (with_rounds draft n))
    else fails line (UnknownWord Unknown))

abbrev line_so : Named → Drafted → Lexemes → Result Drafted (TokenFault ScheduleKind)
line_so named draft line =
    if has_rounds draft then fails line (UnknownWord Misplaced)
    else (any_word_at line >>= λ (first, words). by_of named draft first line words)

abbrev grammar_of : Named → Grammar Drafted ScheduleKind
grammar_of named = record {
  layout = by_words;
  version = schedule_version;
  no_version = UnknownWord NoVersion;
  start = nothing;
  add = λ version draft (line : NumberedLine). line_so named draft (words_of line.text);
}

abbrev reading_of : Named → List ℕ → Result Schedule ScheduleFault
reading_of named text = read_by (grammar_of named) (lines_of text) >>= λ draft. finished (length (raw_lines text)) draft

-- targets with the same actors read a text alike
module _ (a b : List TargetScript) (same : (actor : Actor) → is_there a actor ≡ is_there b actor) where
  same_actor : (word : List ℕ) → actor_of a word ≡ actor_of b word
  same_actor word = by (actor_named word)
    where
      by : (actor : Option Actor) → where_there a actor ≡ where_there b actor
      by None = refl
      by (Some actor) = ap (λ (test : Bool). if test then Some actor else None) (same actor)

  same_reading : (text : List ℕ) → reading a text ≡ reading b text
  unfolding line_of line_by
  same_reading text = λ i. reading_of (λ word. same_actor word i) text

pub same_schedule : (a b : Script) → ((actor : Actor) → is_there a.targets actor ≡ is_there b.targets actor) → (text : Option FileContent) → schedule_if a text ≡ schedule_if b text
same_schedule a b same None = refl
same_schedule a b same (Some text) = ap (read_as fault.Schedule text) (same_reading a.targets b.targets same text.bytes)
