-- How scripts are written as a text.
use Rattle.std.specs.Prelude.{ℕ, zero, suc, List, [], ◌∷◌, ◌++◌, map, codes, slice_index_or}
use Rattle.std.specs.Fmt.{decimal}
use Rattle.std.specs.List.{flat_map}
use Rattle.sb_call.specs.CallWords.{call_word}
use Rattle.sb_call.specs.declared.arguments.Arg.{Arg}
use Rattle.sb_call.specs.declared.arguments.Arg.TheVariants.{Num, Str}
use Rattle.sb_rule.specs.declared.policies.Policy.{Policy}
use Rattle.sb_statements.specs.declared.scripts.Script.{Script}
use Rattle.sb_statements.specs.declared.scripts.StartLine.{StartLine}
use Rattle.sb_statements.specs.declared.scripts.StartLine.TheVariants.{Dir, File, Key, Event}
use Rattle.sb_statements.specs.declared.scripts.TargetScript.{TargetScript}
use Rattle.sb_statements.specs.declared.statements.Statement.{Statement}
use Rattle.sb_statements.specs.declared.statements.Statement.TheVariants.{Call, Store, Exchange, Load, Wait}
use Rattle.sb_text.specs.PlainLines.{line_text}
use Rattle.sb_text.specs.Strings.{string_token}
use Rattle.sb_text.specs.Tokens.{Lexeme, Word}

-- a number, in decimal digits
abbrev pub number_token : ℕ → Lexeme
number_token n = Word (decimal n)

-- the place of a word in its channel: `state`, or the number of a block word
abbrev pub place_word : ℕ → List ℕ
place_word zero = codes "state"
place_word (suc i) = decimal i

-- an opening line: `dir "NAME"`, `file "NAME" ATTR`, `key "NAME"` or `event "NAME" KIND INITIAL`
abbrev pub start_tokens : StartLine → List Lexeme
start_tokens (Dir name) = Word (codes "dir") ∷ string_token name ∷ []
start_tokens (File name attributes) = Word (codes "file") ∷ string_token name ∷ number_token attributes ∷ []
start_tokens (Key name) = Word (codes "key") ∷ string_token name ∷ []
start_tokens (Event name kind initial) = Word (codes "event") ∷ string_token name ∷ number_token kind ∷ number_token initial ∷ []

-- an argument: a string or a number
abbrev pub arg_token : Arg → Lexeme
arg_token (Str text) = string_token text
arg_token (Num number) = number_token number

-- a target, and a word of one of its channels: `T C W`, before extra tokens
abbrev pub word_tokens : ℕ → ℕ → ℕ → List Lexeme → List Lexeme
word_tokens target channel at tokens = number_token target ∷ number_token channel ∷ Word (place_word at) ∷ tokens

-- a statement: `call CALL ARG ..`, `store T C W V`, `exchange T C W FROM TO`, `load T C W` or `wait T C W V N`
abbrev pub statement_tokens : Statement → List Lexeme
statement_tokens (Call tag args) = Word (codes "call") ∷ Word (call_word tag) ∷ map arg_token args
statement_tokens (Store target word value) = Word (codes "store") ∷ word_tokens target word.channel word.at (number_token value ∷ [])
statement_tokens (Exchange target word from to) = Word (codes "exchange") ∷ word_tokens target word.channel word.at (number_token from ∷ number_token to ∷ [])
statement_tokens (Load target word) = Word (codes "load") ∷ word_tokens target word.channel word.at []
statement_tokens (Wait target word value most) = Word (codes "wait") ∷ word_tokens target word.channel word.at (number_token value ∷ number_token most ∷ [])

-- the lines of a thread: `thread`, and one for each statement
abbrev pub thread_lines : List Statement → List (List Lexeme)
thread_lines statements = (Word (codes "thread") ∷ []) ∷ map statement_tokens statements

-- the name of a policy by its number; of one that is not there, the empty one
abbrev pub policy_name : List Policy → ℕ → List ℕ
policy_name policies number = slice_index_or (map (λ policy. policy.name) policies) number []

-- the heading of a target: `target NAME POLICY CHANNELS`
abbrev pub heading_tokens : List Policy → TargetScript → List Lexeme
heading_tokens policies target = Word (codes "target") ∷ Word target.name ∷ Word (policy_name policies target.policy) ∷ number_token target.channels ∷ []

-- the lines of a target: its heading, and those of each thread
abbrev pub target_lines : List Policy → TargetScript → List (List Lexeme)
target_lines policies target = heading_tokens policies target ∷ flat_map thread_lines target.threads

-- the first line: `sandbox-script 1`
abbrev pub version_tokens : List Lexeme
version_tokens = Word (codes "sandbox-script") ∷ Word (codes "1") ∷ []

-- the patience: `patience N`
abbrev pub patience_tokens : ℕ → List Lexeme
patience_tokens n = Word (codes "patience") ∷ number_token n ∷ []

-- the lines of a script: the version, the patience, what is there at the start, and then each target's
abbrev pub script_lines : List Policy → Script → List (List Lexeme)
script_lines policies script =
    version_tokens ∷ patience_tokens script.patience ∷ (map start_tokens script.start ++ flat_map (target_lines policies) script.targets)

-- the text of a script for targets of these policies
abbrev pub written : List Policy → Script → List ℕ
written policies script = flat_map line_text (script_lines policies script)
