-- The lines of a file of moves below its first, as words.
use Rattle.std.specs.Prelude.{⊤, ℕ, ◌^◌, Bool, not, ◌&&◌, ◌==◌, nat_lt, List, [], ◌∷◌, ◌++◌, length, Option, None, Some, Result, Ok, if◌then◌else◌, codes}
use Rattle.std.specs.List.{list_any}
use Rattle.std.specs.Str.{is_utf8}
use Rattle.sb_call.specs.CallWords.{is_word}
use Rattle.sb_dup.specs.declared.faults.MoveKind.{MoveKind}
use Rattle.sb_dup.specs.declared.faults.MoveKind.TheVariants.{UnknownWord, NoSuchTarget, BadNumber, WideAccess, TooMany}
use Rattle.sb_dup.specs.declared.moves.Move.{Move}
use Rattle.sb_text.specs.Columns.{fails_at}
use Rattle.sb_text.specs.Numbers.{number_of}
use Rattle.sb_text.specs.Steps.{◌>>=◌, Read, end_at, unless_fails, word_at}
use Rattle.sb_text.specs.Tokens.{Lexemes, place_due}
use Rattle.sb_text.specs.declared.refusals.TokenFault.{TokenFault}
use Rattle.sb_text.specs.declared.refusals.WordFault.TheVariants.{Unknown, Missing, Extra, Broken, Quoted}

-- ---- the words of a line, from the left

-- the word has a `"`
abbrev pub has_quote : List ℕ → Bool
has_quote word = list_any (λ b. b == 34) word

-- a word
abbrev pub any_word_at : Lexemes → Read (List ℕ) MoveKind
any_word_at words = word_at (UnknownWord Quoted) (UnknownWord Broken) (UnknownWord Missing) words

-- a word, and where it begins
pub record WordAt : Type 0 where
  pub place : ℕ
  pub bytes : List ℕ

-- a word without `"` that is UTF-8
abbrev pub operand_at : Lexemes → Read WordAt MoveKind
operand_at words = do
  (word, rest) ← any_word_at words
  unquoted ← unless_fails words (UnknownWord Quoted) (not (has_quote word))
  text ← unless_fails words (UnknownWord Broken) (is_utf8 word)
  Ok (record { place = place_due words; bytes = word }, rest)

-- the line begins with `move`
abbrev pub first_word : Lexemes → Result Lexemes (TokenFault MoveKind)
first_word line = do
  (word, rest) ← any_word_at line
  known ← unless_fails line (UnknownWord Unknown) (is_word (codes "move") word)
  Ok rest

-- the four words after `move`
pub record MoveWords : Type 0 where
  pub from : WordAt
  pub handle : WordAt
  pub to : WordAt
  pub access : WordAt

-- `move FROM HANDLE TO ACCESS`: the leftmost fault of its words
abbrev pub operands : Lexemes → Result MoveWords (TokenFault MoveKind)
operands line = do
  first ← first_word line
  (from, after_from) ← operand_at first
  (handle, after_handle) ← operand_at after_from
  (to, after_to) ← operand_at after_handle
  (access, after_access) ← operand_at after_to
  end ← end_at (UnknownWord Extra) (UnknownWord Broken) after_access
  Ok (record { from = from; handle = handle; to = to; access = access })

-- ---- their values

-- if the word at this place is a number, there is such a target
abbrev pub is_there : ℕ → ℕ → Option ℕ → Result ⊤ (TokenFault MoveKind)
is_there targets place None = Ok tt
is_there targets place (Some target) = if nat_lt target targets then Ok tt else fails_at place (NoSuchTarget target targets)

-- a number
abbrev pub number_at : ℕ → Option ℕ → Result ℕ (TokenFault MoveKind)
number_at place None = fails_at place BadNumber
number_at place (Some n) = Ok n

-- an access: a number below 2^32
abbrev pub access_at : ℕ → Option ℕ → Result ℕ (TokenFault MoveKind)
access_at place None = fails_at place BadNumber
access_at place (Some n) = if nat_lt n (2 ^ 32) then Ok n else fails_at place WideAccess

-- the leftmost word that is no number, or their values
abbrev pub values : MoveWords → Result Move (TokenFault MoveKind)
values words = do
  from ← number_at words.from.place (number_of words.from.bytes)
  handle ← number_at words.handle.place (number_of words.handle.bytes)
  to ← number_at words.to.place (number_of words.to.bytes)
  access ← access_at words.access.place (number_of words.access.bytes)
  Ok (record { from = from; handle = handle; to = to; access = access })

-- the move of these words: first the leftmost target that is not there, then the leftmost word that is no number
abbrev pub move_by : ℕ → MoveWords → Result Move (TokenFault MoveKind)
move_by targets words = do
  giver ← is_there targets words.from.place (number_of words.from.bytes)
  taker ← is_there targets words.to.place (number_of words.to.bytes)
  values words

-- both targets of a move are there
abbrev pub is_between : ℕ → Move → Bool
is_between targets m = nat_lt m.from targets && nat_lt m.to targets

-- ---- the line

abbrev pub most_moves : ℕ
most_moves = 4096

-- with a move more, if there are not too many; that they are is told at the first word of the line
abbrev pub with_move : Lexemes → List Move → Move → Result (List Move) (TokenFault MoveKind)
with_move line moves m = if nat_lt (length moves) most_moves then Ok (moves ++ m ∷ []) else fails_at (place_due line) TooMany

-- what a line adds to the moves so far
unfoldable pub line_of : ℕ → List Move → Lexemes → Result (List Move) (TokenFault MoveKind)
line_of targets moves line = operands line >>= λ found. move_by targets found >>= λ m. with_move line moves m
