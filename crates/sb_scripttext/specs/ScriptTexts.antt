-- What a script text means: a script, or the first fault.
use Rattle.std.specs.Prelude.{ℕ, ◌-◌, nat_lt, List, [], ◌∷◌, length, drop, slice_get, unwrap_or, Option, None, Some, Result, Ok, Err, if◌then◌else◌, codes}
use Rattle.sb_statements.specs.Soundness.{channels_of}
use Rattle.sb_statements.specs.declared.scripts.Script.{Script}
use Rattle.sb_statements.specs.declared.scripts.TargetScript.{TargetScript}
use Rattle.sb_rule.specs.declared.policies.Policy.{Policy}
use Rattle.sb_scripttext.specs.Drafts.{nothing}
use Rattle.sb_scripttext.specs.declared.drafts.Draft.{Draft}
use Rattle.sb_scripttext.specs.Lines.{line_of}
use Rattle.sb_text.specs.Steps.{◌>>=◌, version_at}
use Rattle.sb_scripttext.specs.declared.drafts.Named.{Named}
use Rattle.sb_scripttext.specs.declared.faults.ScriptKind.{ScriptKind}
use Rattle.sb_scripttext.specs.declared.faults.ScriptKind.TheVariants.{NotUtf8, UnknownWord, NoSuchTarget, NoSuchChannel}
use Rattle.sb_text.specs.Lines.{NumberedLine}
use Rattle.sb_text.specs.MissingTexts.{line_or_empty}
use Rattle.sb_text.specs.Numbers.{number_of}
use Rattle.sb_text.specs.Readings.{Grammar, fault_on, read_text}
use Rattle.sb_text.specs.Tokens.{Lexemes, Next, End, Word, Quoted, Bad, by_tokens, tokens_of, words_of}
use Rattle.sb_text.specs.declared.refusals.LineFault.{LineFault}
use Rattle.sb_text.specs.declared.refusals.TokenFault.{TokenFault}
use Rattle.sb_text.specs.declared.refusals.WordFault.TheVariants.{NoVersion}

-- the first fault of a script text
abbrev pub ScriptFault : Type 0
ScriptFault = LineFault ScriptKind

-- the patience of a script that tells none
abbrev pub usual_patience : ℕ
usual_patience = 10000

-- the version line: `sandbox-script 1`
abbrev pub script_version : List ℕ → Result ℕ (TokenFault ScriptKind)
script_version line = version_at (UnknownWord NoVersion) (codes "sandbox-script") 1 (tokens_of line)

-- what was read so far, and what a line adds to it
abbrev pub add_line : List Policy → Draft → NumberedLine → Result Draft (TokenFault ScriptKind)
add_line policies sofar line = line_of policies sofar line.number (tokens_of line.text)

-- script texts, for targets of these policies
abbrev pub grammar : List Policy → Grammar Draft ScriptKind
grammar policies = record { layout = by_tokens; version = script_version; no_version = UnknownWord NoVersion; start = nothing; add = λ version. add_line policies }

-- there is no such target among this many
abbrev pub no_target : Named → ℕ → TokenFault ScriptKind
no_target named targets = record { place = named.at.target; kind = NoSuchTarget named.target targets }

-- the target has this many channels, and no such one
abbrev pub no_channel : Named → ℕ → TokenFault ScriptKind
no_channel named channels = record { place = named.at.channel; kind = NoSuchChannel named.channel named.target channels }

-- the target that a statement names is not there, or it is and its channel is not: told at T, or at C
abbrev pub absence : List TargetScript → Named → Option (TokenFault ScriptKind)
absence targets named =
    if nat_lt named.target (length targets)
    then (if nat_lt named.channel (channels_of (slice_get targets named.target)) then None else Some (no_channel named (channels_of (slice_get targets named.target))))
    else Some (no_target named (length targets))

-- what is not there, on the line of this number
abbrev pub Absence : Type 0
Absence = ℕ × TokenFault ScriptKind

-- what is on a line from a place on
abbrev pub from_place : List ℕ → ℕ → List ℕ
from_place line place = drop (length line - place) line

-- the number that the first of these words is, or this one if it is none
abbrev pub first_number : Lexemes → ℕ → ℕ
first_number (Next place (Word word) words) other = unwrap_or (number_of word) other
first_number (Next place (Quoted quoted) words) other = other
first_number (Next place Bad words) other = other
first_number (End place) other = other

-- the kind of a fault with the number that these words begin with, in place of one cut to 32 bits
abbrev pub with_number : Lexemes → ScriptKind → ScriptKind
with_number words (NoSuchTarget target targets) = NoSuchTarget (first_number words target) targets
with_number words (NoSuchChannel channel target channels) = NoSuchChannel (first_number words channel) target channels
with_number words kind = kind

-- a fault with the number at its place
abbrev pub numbered_fault : List ℕ → TokenFault ScriptKind → TokenFault ScriptKind
numbered_fault line fault = record fault { kind = with_number (words_of (from_place line fault.place)) fault.kind }

-- what is not there, as a fault on the line of this number and text
abbrev pub absence_on : ℕ → TokenFault ScriptKind → List ℕ → ScriptFault
absence_on number fault line = fault_on by_tokens number line (numbered_fault line fault)

-- the same as a fault of this text
abbrev pub absence_fault : List ℕ → Absence → ScriptFault
absence_fault text absence = absence_on absence.0 absence.1 (line_or_empty absence.0 text)

-- the first of these that names what is not there
abbrev pub first_absence : List TargetScript → List Named → Option Absence
first_absence targets [] = None
first_absence targets (named ∷ more) =
    elim (absence targets named) [ None ↦ first_absence targets more | Some fault ↦ Some (named.at.line, fault) ]

-- the patience that was read, or the usual one
abbrev pub patience_of : Option ℕ → ℕ
patience_of (Some n) = n
patience_of None = usual_patience

-- the script that was read
abbrev pub script_of : Draft → Script
script_of sofar = record { patience = patience_of sofar.patience; start = sofar.start; targets = sofar.targets }

-- the script that was read of a text, if all is there that its statements name
abbrev pub finished : List ℕ → Draft → Result Script ScriptFault
finished text sofar =
    elim (first_absence sofar.targets sofar.named) [ None ↦ Ok (script_of sofar) | Some absence ↦ Err (absence_fault text absence) ]

-- the script of a text for targets of these policies, or its first fault
abbrev pub reading : List Policy → List ℕ → Result Script ScriptFault
reading policies text = read_text NotUtf8 (grammar policies) text >>= λ sofar. finished text sofar
