-- Opening lines: what is there at the start.
use Rattle.std.specs.Prelude.{Bool, List, [], ◌∷◌, ◌++◌, Result, Ok, Err, is_some, if◌then◌else◌}
use Rattle.sb_kernel.specs.Openings.{placed, opening}
use Rattle.sb_scripttext.specs.StartFaults.{start_fault}
use Rattle.sb_statements.specs.declared.scripts.StartLine.{StartLine}
use Rattle.sb_statements.specs.declared.scripts.StartLine.TheVariants.{Dir, File, Key, Event}
use Rattle.sb_scripttext.specs.Arguments.{most_32}
use Rattle.sb_scripttext.specs.Steps.{number_within, name_at}
use Rattle.sb_text.specs.Steps.{◌>>=◌, end_at}
use Rattle.sb_scripttext.specs.declared.faults.ScriptKind.{ScriptKind}
use Rattle.sb_scripttext.specs.declared.faults.ScriptKind.TheVariants.{UnknownWord, BadNumber, BadStart}
use Rattle.sb_text.specs.Tokens.{Lexemes}
use Rattle.sb_text.specs.declared.refusals.TokenFault.{TokenFault}
use Rattle.sb_text.specs.declared.refusals.WordFault.TheVariants.{Missing, Extra, Broken, Unquoted}

-- `dir "NAME"`, after its first word
unfoldable pub dir : Lexemes → Result StartLine (TokenFault ScriptKind)
dir tokens = do
  name ← name_at (UnknownWord Unquoted) (UnknownWord Missing) tokens
  end ← end_at (UnknownWord Extra) (UnknownWord Broken) name.1
  Ok (Dir name.0)

-- `file "NAME" ATTR`, after its first word
unfoldable pub file : Lexemes → Result StartLine (TokenFault ScriptKind)
file tokens = do
  name ← name_at (UnknownWord Unquoted) (UnknownWord Missing) tokens
  attributes ← number_within 0 most_32 BadNumber (UnknownWord Missing) name.1
  end ← end_at (UnknownWord Extra) (UnknownWord Broken) attributes.1
  Ok (File name.0 attributes.0)

-- `key "NAME"`, after its first word
unfoldable pub key : Lexemes → Result StartLine (TokenFault ScriptKind)
key tokens = do
  name ← name_at (UnknownWord Unquoted) (UnknownWord Missing) tokens
  end ← end_at (UnknownWord Extra) (UnknownWord Broken) name.1
  Ok (Key name.0)

-- `event "NAME" KIND INITIAL`, after its first word
unfoldable pub event : Lexemes → Result StartLine (TokenFault ScriptKind)
event tokens = do
  name ← name_at (UnknownWord Unquoted) (UnknownWord Missing) tokens
  kind ← number_within 0 1 BadNumber (UnknownWord Missing) name.1
  initial ← number_within 0 1 BadNumber (UnknownWord Missing) kind.1
  end ← end_at (UnknownWord Extra) (UnknownWord Broken) initial.1
  Ok (Event name.0 kind.0 initial.0)

-- after these lines one more can be placed: in the namespace that they lead to
abbrev pub can_place : List StartLine → StartLine → Bool
can_place lines line = is_some (placed (opening lines) line)

-- these lines with one more, which can be placed after them
abbrev pub with_line : List StartLine → StartLine → Result (List StartLine) ScriptKind
with_line lines line = if can_place lines line then Ok (lines ++ line ∷ []) else Err (BadStart (start_fault lines line))
