-- `store`, `exchange`, `load` and `wait`: words of channels that are stored and loaded directly.
use Rattle.std.specs.Prelude.{ℕ, ◌+◌, nat_le, List, Result, Ok, Err, if◌then◌else◌, codes}
use Rattle.sb_call.specs.CallWords.{is_word}
use Rattle.sb_statements.specs.declared.statements.Statement.{Statement}
use Rattle.sb_statements.specs.declared.statements.Statement.TheVariants.{Store, Exchange, Load, Wait}
use Rattle.sb_statements.specs.declared.statements.Word as words
use Rattle.sb_statements.specs.Limits.{most_patience}
use Rattle.sb_scripttext.specs.Arguments.{most_32}
use Rattle.sb_scripttext.specs.Steps.{number_at, within}
use Rattle.sb_text.specs.Steps.{◌>>=◌, at_token, or_fault, Read, word_at, end_at}
use Rattle.sb_scripttext.specs.declared.faults.ScriptKind.{ScriptKind}
use Rattle.sb_scripttext.specs.declared.faults.ScriptKind.TheVariants.{UnknownWord, WrongArgs, BadNumber, NoSuchWord}
use Rattle.sb_text.specs.Numbers.{number_of}
use Rattle.sb_text.specs.Tokens.{Lexemes}
use Rattle.sb_text.specs.declared.refusals.TokenFault.{TokenFault}
use Rattle.sb_text.specs.declared.refusals.WordFault.TheVariants.{Missing, Extra, Broken}

-- the last block word
abbrev pub last_block_word : ℕ
last_block_word = 63

-- the number of a target or a channel. No script has one that 32 bits do not hold, and the greatest that they hold represents all those
abbrev pub short : ℕ → ℕ
short n = if nat_le n most_32 then n else most_32

-- V: a value
abbrev pub value_at : Lexemes → Read ℕ ScriptKind
value_at tokens = number_at BadNumber (WrongArgs Missing) tokens

-- T or C: a target or a channel
unfoldable pub short_at : Lexemes → Read ℕ ScriptKind
short_at tokens = value_at tokens >>= λ n. Ok (short n.0, n.1)

-- the place of block word i in its channel
abbrev pub block_place : ℕ → Result ℕ ScriptKind
block_place i = if nat_le i last_block_word then Ok (1 + i) else Err NoSuchWord

-- W as a word: `state` is at place 0
abbrev pub place_of : List ℕ → Result ℕ ScriptKind
place_of w = if is_word (codes "state") w then Ok 0 else (or_fault BadNumber (number_of w) >>= λ i. block_place i)

-- W: the place of a word in its channel
unfoldable pub place_at : Lexemes → Read ℕ ScriptKind
place_at tokens = do
  word ← word_at BadNumber (UnknownWord Broken) (WrongArgs Missing) tokens
  place ← at_token tokens (place_of word.0)
  Ok (place, word.1)

-- T C W: a target, and a word of one of its channels
unfoldable pub target_word_at : Lexemes → Read (ℕ × words.Word) ScriptKind
target_word_at tokens = do
  target ← short_at tokens
  channel ← short_at target.1
  place ← place_at channel.1
  Ok ((target.0, record { channel = channel.0; at = place.0 }), place.1)

-- `store T C W V`, after its first word
unfoldable pub store : Lexemes → Result Statement (TokenFault ScriptKind)
store tokens = do
  word ← target_word_at tokens
  value ← value_at word.1
  end ← end_at (WrongArgs Extra) (UnknownWord Broken) value.1
  Ok (Store word.0.0 word.0.1 value.0)

-- `exchange T C W FROM TO`, after its first word
unfoldable pub exchange : Lexemes → Result Statement (TokenFault ScriptKind)
exchange tokens = do
  word ← target_word_at tokens
  from ← value_at word.1
  to ← value_at from.1
  end ← end_at (WrongArgs Extra) (UnknownWord Broken) to.1
  Ok (Exchange word.0.0 word.0.1 from.0 to.0)

-- `load T C W`, after its first word
unfoldable pub load : Lexemes → Result Statement (TokenFault ScriptKind)
load tokens = do
  word ← target_word_at tokens
  end ← end_at (WrongArgs Extra) (UnknownWord Broken) word.1
  Ok (Load word.0.0 word.0.1)

-- `wait T C W V N`, after its first word; whether N is too small or too large is looked at last
unfoldable pub wait : Lexemes → Result Statement (TokenFault ScriptKind)
wait tokens = do
  word ← target_word_at tokens
  value ← value_at word.1
  loads ← value_at value.1
  end ← end_at (WrongArgs Extra) (UnknownWord Broken) loads.1
  most ← at_token value.1 (within 1 most_patience loads.0)
  Ok (Wait word.0.0 word.0.1 value.0 most)
