-- The lines of a script text below its first.
use Rattle.std.specs.Prelude.{◌||◌, ℕ, Bool, nat_eq, nat_le, List, [], ◌∷◌, length, None, Some, Result, Ok, Err, if◌then◌else◌, codes}
use Rattle.std.specs.Cmp.Lexicographic.{pointwise}
use Rattle.std.specs.List.{list_any, position}
use Rattle.sb_call.specs.CallWords.{is_word}
use Rattle.sb_call.specs.ShortNames.{is_short_name}
use Rattle.sb_statements.specs.declared.scripts.StartLine.{StartLine}
use Rattle.sb_statements.specs.declared.scripts.TargetScript.{TargetScript}
use Rattle.sb_statements.specs.declared.statements.Statement.{Statement}
use Rattle.sb_rule.specs.WellMade.{is_named}
use Rattle.sb_rule.specs.declared.policies.Policy.{Policy}
use Rattle.sb_statements.specs.Limits.{most_patience, most_channels}
use Rattle.sb_scripttext.specs.Arguments.{most_32, call}
use Rattle.sb_scripttext.specs.Drafts.{statement_at, is_opening, is_in_thread, with_patience, with_start, with_target, with_thread, with_statement}
use Rattle.sb_scripttext.specs.declared.drafts.Draft.{Draft}
use Rattle.sb_scripttext.specs.Openings.{dir, file, key, event}
use Rattle.sb_scripttext.specs.Statements.{store, exchange, load, wait}
use Rattle.sb_scripttext.specs.Steps.{number_within}
use Rattle.sb_text.specs.Steps.{◌>>=◌, at_token, or_fails, Read, word_at, end_at}
use Rattle.sb_base.specs.declared.refusals.Refused.{Refused}
use Rattle.sb_base.specs.declared.refusals.Refused.TheVariants.{Fault, NoMemory}
use Rattle.sb_scripttext.specs.declared.faults.ScriptKind.{ScriptKind}
use Rattle.sb_scripttext.specs.declared.faults.ScriptKind.TheVariants.{UnknownWord, BadNumber, NoSuchPolicy, SameName, BadStart}
use Rattle.sb_text.specs.Columns.{fails}
use Rattle.sb_text.specs.Tokens.{Lexemes, place_due}
use Rattle.sb_text.specs.declared.refusals.TokenFault.{TokenFault}
use Rattle.sb_text.specs.declared.refusals.WordFault.TheVariants.{Unknown, Missing, Extra, Broken, Quoted, Misplaced, Repeated}

-- `patience N`, after its first word
unfoldable pub patience : Lexemes → Result ℕ (TokenFault ScriptKind)
patience tokens = do
  number ← number_within 1 most_patience BadNumber (UnknownWord Missing) tokens
  end ← end_at (UnknownWord Extra) (UnknownWord Broken) number.1
  Ok number.0

-- a target has this name
abbrev pub is_target_named : List ℕ → TargetScript → Bool
is_target_named name target = pointwise nat_eq target.name name

-- NAME as a word: a short name that no target so far has
abbrev pub new_name : List TargetScript → List ℕ → Result (List ℕ) ScriptKind
new_name targets name =
    if is_short_name name
    then (if list_any (is_target_named name) targets then Err SameName else Ok name)
    else Err (UnknownWord Unknown)

-- NAME: the name of a target
unfoldable pub new_name_at : List TargetScript → Lexemes → Read (List ℕ) ScriptKind
new_name_at targets tokens = do
  word ← word_at (UnknownWord Quoted) (UnknownWord Broken) (UnknownWord Missing) tokens
  name ← at_token tokens (new_name targets word.0)
  Ok (name, word.1)

-- the number of a policy, which has 32 bits: of this many policies a script can name no others
abbrev pub policy_number : ℕ → Result ℕ ScriptKind
policy_number place = if nat_le place most_32 then Ok place else Err NoSuchPolicy

-- POLICY: the number of the first policy of this name, from 0
unfoldable pub policy_at : List Policy → Lexemes → Read ℕ ScriptKind
policy_at policies tokens = do
  word ← word_at NoSuchPolicy (UnknownWord Broken) (UnknownWord Missing) tokens
  place ← or_fails tokens NoSuchPolicy (position (is_named word.0) policies)
  policy ← at_token tokens (policy_number place)
  Ok (policy, word.1)

-- `target NAME POLICY CHANNELS`, after its first word: a target that has no thread so far
unfoldable pub heading : List Policy → List TargetScript → Lexemes → Result TargetScript (TokenFault ScriptKind)
heading policies targets tokens = do
  name ← new_name_at targets tokens
  policy ← policy_at policies name.1
  channels ← number_within 1 most_channels BadNumber (UnknownWord Missing) policy.1
  end ← end_at (UnknownWord Extra) (UnknownWord Broken) channels.1
  Ok (record { name = name.0; policy = policy.0; channels = channels.0; threads = [] })

-- a line that is out of place
abbrev pub misplaced : {A : Type 0} → Lexemes → Result A (TokenFault ScriptKind)
misplaced line = fails line (UnknownWord Misplaced)

-- the word begins an opening line
abbrev pub is_opening_word : List ℕ → Bool
is_opening_word w = list_any (λ name. is_word name w) (codes "dir" ∷ codes "file" ∷ codes "key" ∷ codes "event" ∷ [])

-- the word begins a statement
abbrev pub is_statement_word : List ℕ → Bool
is_statement_word w = list_any (λ name. is_word name w) (codes "call" ∷ codes "store" ∷ codes "exchange" ∷ codes "load" ∷ codes "wait" ∷ [])

-- the word begins a line that is allowed elsewhere in a script
abbrev pub is_line_word : List ℕ → Bool
is_line_word w = is_opening_word w || is_statement_word w

-- why a line that begins with this word is out of place
abbrev pub first_word_fault : List ℕ → ScriptKind
first_word_fault w = if is_line_word w then UnknownWord Misplaced else UnknownWord Unknown

abbrev pub not_here : {A : Type 0} → List ℕ → Lexemes → Result A (TokenFault ScriptKind)
not_here w line = fails line (first_word_fault w)

-- the token at which it is told that an opening line is refused, the first of these: for a bad start the name, and for all else the first word
abbrev pub refusing : Lexemes → Lexemes → ScriptKind → Lexemes
refusing line tokens (BadStart why) = tokens
refusing line tokens other = line

-- a refusal there
abbrev pub refused_start : Lexemes → Lexemes → Refused ScriptKind → Refused (TokenFault ScriptKind)
refused_start line tokens (Fault kind) = Fault (record { place = place_due (refusing line tokens kind); kind = kind })
refused_start line tokens NoMemory = NoMemory

-- what an opening line makes, or its fault there
abbrev pub at_start : {A : Type 0} → Lexemes → Lexemes → Result A ScriptKind → Result A (TokenFault ScriptKind)
at_start line tokens (Ok x) = Ok x
at_start line tokens (Err kind) = fails (refusing line tokens kind) kind

-- a `patience` line, before the first target and once
unfoldable pub set_patience : Draft → Lexemes → Lexemes → Result Draft (TokenFault ScriptKind)
set_patience sofar line tokens =
    elim sofar.patience [
      | None ↦ if is_opening sofar then (patience tokens >>= λ n. Ok (with_patience sofar n)) else misplaced line
      | Some n ↦ fails line (UnknownWord Repeated)
    ]

-- a `target` line
unfoldable pub add_target : List Policy → Draft → Lexemes → Lexemes → Result Draft (TokenFault ScriptKind)
add_target policies sofar line tokens = heading policies sofar.targets tokens >>= λ target. at_token line (with_target sofar target)

-- a `thread` line, after a target
unfoldable pub add_thread : Draft → Lexemes → Lexemes → Result Draft (TokenFault ScriptKind)
add_thread sofar line tokens =
    if is_opening sofar then misplaced line
    else (end_at (UnknownWord Extra) (UnknownWord Broken) tokens >>= λ end. at_token line (with_thread sofar))

-- the object of an opening line that begins with this word
unfoldable pub start_line : List ℕ → Lexemes → Lexemes → Result StartLine (TokenFault ScriptKind)
start_line w line tokens =
    if is_word (codes "dir") w then dir tokens
    else (if is_word (codes "file") w then file tokens
    else (if is_word (codes "key") w then key tokens
    else (if is_word (codes "event") w then event tokens
    else not_here w line)))

-- the statement of a line that begins with this word
unfoldable pub statement_line : List ℕ → Lexemes → Lexemes → Result Statement (TokenFault ScriptKind)
statement_line w line tokens =
    if is_word (codes "call") w then call line tokens
    else (if is_word (codes "store") w then store tokens
    else (if is_word (codes "exchange") w then exchange tokens
    else (if is_word (codes "load") w then load tokens
    else (if is_word (codes "wait") w then wait tokens
    else not_here w line))))

-- in a thread a statement, before the first target an opening line, and elsewhere neither
unfoldable pub plain_line : List ℕ → Draft → ℕ → Lexemes → Lexemes → Result Draft (TokenFault ScriptKind)
plain_line w sofar number line tokens =
    if is_in_thread sofar
    then (statement_line w line tokens >>= λ statement. at_token line (with_statement sofar (statement_at number tokens) statement))
    else (if is_opening sofar then (start_line w line tokens >>= λ start. at_start line tokens (with_start sofar start))
    else not_here w line)

-- with what a line says: a patience, a target, a thread, an opening line or a statement
unfoldable pub line_of : List Policy → Draft → ℕ → Lexemes → Result Draft (TokenFault ScriptKind)
line_of policies sofar number line = do
  word ← word_at (UnknownWord Quoted) (UnknownWord Broken) (UnknownWord Missing) line
  if is_word (codes "patience") word.0 then set_patience sofar line word.1
      else (if is_word (codes "target") word.0 then add_target policies sofar line word.1
      else (if is_word (codes "thread") word.0 then add_thread sofar line word.1
      else plain_line word.0 sofar number line word.1))
