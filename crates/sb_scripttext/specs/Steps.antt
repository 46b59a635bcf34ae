-- Reading a line from left to right: numbers, strings and names.
use Rattle.std.specs.Prelude.{ℕ, ◌&&◌, nat_le, List, Result, Ok, Err, if◌then◌else◌}
use Rattle.sb_scripttext.specs.declared.faults.ScriptKind.{ScriptKind}
use Rattle.sb_scripttext.specs.declared.faults.ScriptKind.TheVariants.{UnknownWord, BadNumber, OutOfRange, BadName}
use Rattle.sb_text.specs.Numbers.{number_of}
use Rattle.sb_text.specs.Steps.{◌>>=◌, at_token, end_at, or_fails, Read, word_at, quoted_at}
use Rattle.sb_text.specs.Tokens.{Lexemes, string_of}
use Rattle.sb_text.specs.declared.refusals.TokenFault.{TokenFault}
use Rattle.sb_text.specs.declared.refusals.WordFault.TheVariants.{Broken}
use Rattle.sb_base.specs.Names.{is_name_of}

-- N: a number. The fault of a quoted token in its place, and that of none
unfoldable pub number_at : ScriptKind → ScriptKind → Lexemes → Read ℕ ScriptKind
number_at quoted missing tokens = do
  word ← word_at quoted (UnknownWord Broken) missing tokens
  n ← or_fails tokens BadNumber (number_of word.0)
  Ok (n, word.1)

-- a number from lo to hi
abbrev pub within : ℕ → ℕ → ℕ → Result ℕ ScriptKind
within lo hi n = if nat_le lo n && nat_le n hi then Ok n else Err (OutOfRange lo hi)

-- N: a number from lo to hi
unfoldable pub number_within : ℕ → ℕ → ScriptKind → ScriptKind → Lexemes → Read ℕ ScriptKind
number_within lo hi quoted missing tokens = do
  n ← number_at quoted missing tokens
  number ← at_token tokens (within lo hi n.0)
  Ok (number, n.1)

-- "S": a string. The fault of a word in its place, and that of none
unfoldable pub string_at : ScriptKind → ScriptKind → Lexemes → Read (List ℕ) ScriptKind
string_at unquoted missing tokens = do
  quoted ← quoted_at unquoted (UnknownWord Broken) missing tokens
  Ok (string_of quoted.0, quoted.1)

-- a string that is a name
abbrev pub name : List ℕ → Result (List ℕ) ScriptKind
name units = if is_name_of units then Ok units else Err BadName

-- "NAME": a name
unfoldable pub name_at : ScriptKind → ScriptKind → Lexemes → Read (List ℕ) ScriptKind
name_at unquoted missing tokens = do
  units ← string_at unquoted missing tokens
  named ← at_token tokens (name units.0)
  Ok (named, units.1)

-- a value, if the line ends here. The fault of an extra token
abbrev pub at_line_end : {A : Type 0} → ScriptKind → A → Lexemes → Result A (TokenFault ScriptKind)
at_line_end extra value tokens = end_at extra (UnknownWord Broken) tokens >>= λ end. Ok value
