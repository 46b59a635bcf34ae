-- When a script is sound.
use Rattle.std.specs.Prelude.{◌≡◌, ℕ, Bool, true, ◌^◌, ◌&&◌, not, nat_eq, nat_lt, nat_le, List, [], ◌∷◌, Option, None, Some, length, slice_get}
use Rattle.std.specs.List.{list_all, list_any}
use Rattle.std.specs.Cmp.Lexicographic.{pointwise}
use Rattle.sb_base.specs.Names.{is_name_of}
use Rattle.sb_statements.specs.declared.scripts.Script.{Script}
use Rattle.sb_statements.specs.declared.scripts.StartLine.{StartLine}
use Rattle.sb_statements.specs.declared.scripts.StartLine.TheVariants.{Dir, File, Key, Event}
use Rattle.sb_statements.specs.declared.scripts.TargetScript.{TargetScript}
use Rattle.sb_statements.specs.declared.statements.Statement.{Statement}
use Rattle.sb_statements.specs.declared.statements.Statement.TheVariants.{Call, Store, Exchange, Load, Wait}
use Rattle.sb_statements.specs.declared.statements.Word.{Word}
use Rattle.sb_block.specs.Blocks.{encodes}
use Rattle.sb_statements.specs.Limits.{most_start_lines, most_targets, most_channels, most_threads, most_statements, most_patience, last_place}

-- a count of loads or rounds is from 1 to a million
abbrev pub is_patience : ℕ → Bool
is_patience n = nat_le 1 n && nat_le n most_patience

-- what is there at the start has a name, attributes of 32 bits, and a kind and an initial state of 0 or 1
abbrev pub is_start : StartLine → Bool
is_start (Dir name) = is_name_of name
is_start (File name attributes) = is_name_of name && nat_lt attributes (2 ^ 32)
is_start (Key name) = is_name_of name
is_start (Event name kind initial) = is_name_of name && nat_le kind 1 && nat_le initial 1

-- how many channels a target has; one that is not there has none
abbrev pub channels_of : Option TargetScript → ℕ
channels_of None = 0
channels_of (Some target) = target.channels

-- the target has the channel, and the place is the state or one of 64 block words
abbrev pub has_word : List TargetScript → ℕ → Word → Bool
has_word targets target word = nat_lt word.channel (channels_of (slice_get targets target)) && nat_le word.at last_place

-- a call encodes, another statement names a word that is there, and a wait has a count of loads
abbrev pub is_statement : List TargetScript → Statement → Bool
is_statement targets (Call tag args) = encodes tag args
is_statement targets (Store target word value) = has_word targets target word
is_statement targets (Exchange target word from to) = has_word targets target word
is_statement targets (Load target word) = has_word targets target word
is_statement targets (Wait target word value most) = has_word targets target word && is_patience most

-- a thread has at most 4,096 statements, all of them sound
abbrev pub is_thread : List TargetScript → List Statement → Bool
is_thread targets statements = nat_le (length statements) most_statements && list_all (is_statement targets) statements

-- a target has 1 to 8 channels and at most 4 threads, all of them sound
abbrev pub is_target : List TargetScript → TargetScript → Bool
is_target targets target =
    nat_le 1 target.channels && nat_le target.channels most_channels && nat_le (length target.threads) most_threads
    && list_all (is_thread targets) target.threads

-- no two targets have one name
abbrev pub names_differ : List TargetScript → Bool
names_differ [] = true
names_differ (target ∷ others) = not (list_any (λ other. pointwise nat_eq other.name target.name) others) && names_differ others

-- the targets are at most 8, their names differ, and each is sound
abbrev pub are_targets : List TargetScript → Bool
are_targets targets = nat_le (length targets) most_targets && names_differ targets && list_all (is_target targets) targets

-- a script has a patience, at most 4,096 objects at the start and sound targets
abbrev pub is_sound : Script → Bool
is_sound script =
    is_patience script.patience && nat_le (length script.start) most_start_lines && list_all is_start script.start && are_targets script.targets

-- each target of a sound script is sound
abbrev pub SoundTargets : Type 0
SoundTargets = (script : Script) (t : ℕ) (target : TargetScript) → is_sound script ≡ true
    → slice_get script.targets t ≡ Some target → is_target script.targets target ≡ true

-- and so is each of its threads' statements
abbrev pub SoundStatements : Type 0
SoundStatements = (script : Script) (t k i : ℕ) (target : TargetScript) (statements : List Statement) (statement : Statement)
    → is_sound script ≡ true → slice_get script.targets t ≡ Some target → slice_get target.threads k ≡ Some statements
    → slice_get statements i ≡ Some statement → is_statement script.targets statement ≡ true
