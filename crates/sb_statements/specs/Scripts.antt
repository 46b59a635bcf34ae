-- What a script says of its targets and their channels.
use Rattle.std.specs.Prelude.{ℕ, Bool, false, not, ◌&&◌, ◌==◌, List, [], Option, None, Some, slice_get}
use Rattle.std.specs.List.{list_any}
use Rattle.sb_statements.specs.declared.scripts.Script.{Script}
use Rattle.sb_statements.specs.declared.scripts.TargetScript.{TargetScript}
use Rattle.sb_statements.specs.declared.statements.Statement.{Statement}
use Rattle.sb_statements.specs.declared.statements.Statement.TheVariants.{Store, Exchange}

-- the name of a target; one that is not there has none
abbrev pub name_by : Option TargetScript → List ℕ
name_by None = []
name_by (Some target) = target.name

abbrev pub target_name : Script → ℕ → List ℕ
target_name script target = name_by (slice_get script.targets target)

-- a store or an exchange that names a word of this channel
abbrev pub writes_channel : ℕ → ℕ → Statement → Bool
writes_channel target channel (Store t word v) = t == target && word.channel == channel
writes_channel target channel (Exchange t word from to) = t == target && word.channel == channel
writes_channel target channel _ = false

-- some thread has such a statement
abbrev pub threads_write : ℕ → ℕ → List (List Statement) → Bool
threads_write target channel threads = list_any (λ statements. list_any (writes_channel target channel) statements) threads

-- no thread of any target has such a statement
abbrev pub is_clean : Script → ℕ → ℕ → Bool
is_clean script target channel = not (list_any (λ t. threads_write target channel t.threads) script.targets)
