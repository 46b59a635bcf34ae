-- `call CALL ARG ..`: a call with its arguments.
use Rattle.std.specs.Prelude.{ℕ, ◌^◌, ◌-◌, List, [], ◌∷◌, Result, Ok, Err, if◌then◌else◌}
use Rattle.sb_block.specs.Blocks.{encodes}
use Rattle.sb_call.specs.CallWords.{tag_of_word}
use Rattle.sb_call.specs.Tags.{shape_of}
use Rattle.sb_call.specs.declared.arguments.Arg.{Arg}
use Rattle.sb_call.specs.declared.arguments.Arg.TheVariants as arg
use Rattle.sb_statements.specs.declared.statements.Statement.{Statement}
use Rattle.sb_statements.specs.declared.statements.Statement.TheVariants.{Call}
use Rattle.sb_call.specs.declared.tags.CallTag.{CallTag}
use Rattle.sb_call.specs.declared.tags.ParamKind.{ParamKind}
use Rattle.sb_call.specs.declared.tags.ParamKind.TheVariants.{Text, Name, Num, Handle}
use Rattle.sb_scripttext.specs.Steps.{number_at, number_within, string_at, name_at}
use Rattle.sb_text.specs.Steps.{◌>>=◌, at_token, or_fails, Read, word_at, end_at}
use Rattle.sb_scripttext.specs.declared.faults.ScriptKind.{ScriptKind}
use Rattle.sb_scripttext.specs.declared.faults.ScriptKind.TheVariants.{UnknownWord, UnknownCall, WrongArgs, TooBig}
use Rattle.sb_text.specs.Tokens.{Lexemes}
use Rattle.sb_text.specs.declared.refusals.TokenFault.{TokenFault}
use Rattle.sb_text.specs.declared.refusals.WordFault.TheVariants.{Missing, Extra, Broken, Quoted, Unquoted}

-- the greatest number of 32 bits
abbrev pub most_32 : ℕ
most_32 = 2 ^ 32 - 1

-- CALL: the word of a call
unfoldable pub tag_at : Lexemes → Read CallTag ScriptKind
tag_at tokens = do
  word ← word_at UnknownCall (UnknownWord Broken) (UnknownWord Missing) tokens
  tag ← or_fails tokens UnknownCall (tag_of_word word.0)
  Ok (tag, word.1)

-- ARG: a string between quotes, if a name is due one that is a name, or a number without quotes, which has 32 bits except for a handle
unfoldable pub arg_at : ParamKind → Lexemes → Read Arg ScriptKind
arg_at Text tokens = string_at (WrongArgs Unquoted) (WrongArgs Missing) tokens >>= λ text. Ok (arg.Str text.0, text.1)
arg_at Name tokens = name_at (WrongArgs Unquoted) (WrongArgs Missing) tokens >>= λ name. Ok (arg.Str name.0, name.1)
arg_at Num tokens = number_within 0 most_32 (WrongArgs Quoted) (WrongArgs Missing) tokens >>= λ number. Ok (arg.Num number.0, number.1)
arg_at Handle tokens = number_at (WrongArgs Quoted) (WrongArgs Missing) tokens >>= λ handle. Ok (arg.Num handle.0, handle.1)

-- an argument of each of these kinds
unfoldable pub args_at : List ParamKind → Lexemes → Read (List Arg) ScriptKind
args_at [] tokens = Ok ([], tokens)
args_at (kind ∷ kinds) tokens = do
  first ← arg_at kind tokens
  others ← args_at kinds first.1
  Ok (first.0 ∷ others.0, others.1)

-- the statement of a call that encodes. Arguments that were read fit their call, so that only the size of its block can refuse it
abbrev pub fitting : CallTag → List Arg → Result Statement ScriptKind
fitting tag args = if encodes tag args then Ok (Call tag args) else Err TooBig

-- `call CALL ARG ..`, after its first word; that it is too big is told at the first word
unfoldable pub call : Lexemes → Lexemes → Result Statement (TokenFault ScriptKind)
call line tokens = do
  tag ← tag_at tokens
  args ← args_at (shape_of tag.0) tag.1
  end ← end_at (WrongArgs Extra) (UnknownWord Broken) args.1
  at_token line (fitting tag.0 args.0)
