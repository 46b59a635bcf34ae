-- What a schedule text means: a schedule, or the first fault. A text is taken as bytes, each of which is a character.
use Rattle.std.specs.Prelude.{ℕ, List, length, Result, codes}
use Rattle.sb_scripttext.specs.ScheduleDrafts.{Drafted, nothing, finished}
use Rattle.sb_scripttext.specs.ScheduleLines.{line_of}
use Rattle.sb_scripttext.specs.declared.schedule_faults.ScheduleKind.{ScheduleKind}
use Rattle.sb_scripttext.specs.declared.schedule_faults.ScheduleKind.TheVariants.{UnknownWord}
use Rattle.sb_statements.specs.declared.schedules.Schedule.{Schedule}
use Rattle.sb_statements.specs.declared.scripts.TargetScript.{TargetScript}
use Rattle.sb_text.specs.Lines.{NumberedLine, raw_lines, lines_of}
use Rattle.sb_text.specs.Readings.{Grammar, read_by}
use Rattle.sb_text.specs.Steps.{◌>>=◌, version_at}
use Rattle.sb_text.specs.Tokens.{by_words, words_of}
use Rattle.sb_text.specs.declared.refusals.LineFault.{LineFault}
use Rattle.sb_text.specs.declared.refusals.TokenFault.{TokenFault}
use Rattle.sb_text.specs.declared.refusals.WordFault.TheVariants.{NoVersion}

-- the first fault of a schedule text
abbrev pub ScheduleFault : Type 0
ScheduleFault = LineFault ScheduleKind

-- the version line is `sandbox-schedule 1`
abbrev pub schedule_version : List ℕ → Result ℕ (TokenFault ScheduleKind)
schedule_version line = version_at (UnknownWord NoVersion) (codes "sandbox-schedule") 1 (words_of line)

-- what was read so far, and what a line adds to it
abbrev pub add_line : List TargetScript → Drafted → NumberedLine → Result Drafted (TokenFault ScheduleKind)
add_line targets draft line = line_of targets draft (words_of line.text)

-- schedule texts, for the actors of these targets
abbrev pub grammar : List TargetScript → Grammar Drafted ScheduleKind
grammar targets =
    record { layout = by_words; version = schedule_version; no_version = UnknownWord NoVersion; start = nothing; add = λ version. add_line targets }

-- what a text means: the schedule of its lines, in which the rounds are told
abbrev pub reading : List TargetScript → List ℕ → Result Schedule ScheduleFault
reading targets text = read_by (grammar targets) (lines_of text) >>= λ draft. finished (length (raw_lines text)) draft
