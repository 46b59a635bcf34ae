-- The statements of a thread, and where a thread begins with each.
use Rattle.std.specs.Prelude.{ℕ, zero, suc, ◌+◌, Bool, true, false, nat_le, List, [], ◌∷◌, ◌++◌, length, slice_get, Option, None, Some}
use Rattle.sb_block.specs.Blocks.{block}
use Rattle.sb_statements.specs.Scripts.{is_clean}
use Rattle.sb_statements.specs.Soundness.{channels_of}
use Rattle.sb_statements.specs.declared.scripts.Script.{Script}
use Rattle.sb_statements.specs.declared.scripts.TargetScript.{TargetScript}
use Rattle.sb_statements.specs.declared.statements.Statement.{Statement}
use Rattle.sb_statements.specs.declared.statements.Statement.TheVariants.{Call, Store, Exchange, Load, Wait}
pub use Rattle.sb_actor.specs.Marks.{mark_at}
use Rattle.sb_actor.specs.ThreadStages.{ThreadStage, Try, Stray, Over, ThreadAt}
use Rattle.sb_actor.specs.ThreadStages as stage

-- the threads of a target; one that is not there has none
abbrev pub threads_of : Option TargetScript → List (List Statement)
threads_of None = []
threads_of (Some target) = target.threads

-- the statements of a thread; one that is not there has none
abbrev pub or_none : Option (List Statement) → List Statement
or_none None = []
or_none (Some statements) = statements

abbrev pub statements_of : Script → ℕ → ℕ → List Statement
statements_of script target thread = or_none (slice_get (threads_of (slice_get script.targets target)) thread)

-- the statement at a place
abbrev pub statement_at : Script → ℕ → ℕ → ℕ → Option Statement
statement_at script target thread place = slice_get (statements_of script target thread) place

-- the block of a call with this mark; other statements have none
abbrev pub block_of : ℕ → Option Statement → List ℕ
block_of mark (Some (Call tag args)) = block tag args mark
block_of mark _ = []

-- the stage of a thread at the beginning of a statement
abbrev pub first_stage : Option Statement → ThreadStage
first_stage (Some (Call tag args)) = Try 0 0 true
first_stage (Some (Wait target word value most)) = Stray 0 most
first_stage None = Over
first_stage _ = Stray 0 1

-- the thread at the beginning of the statement at a place
abbrev pub begins : Script → ThreadAt → ℕ → ThreadAt
begins script x place = record x {
  place = place;
  block = block_of (mark_at x.thread place) (statement_at script x.target x.thread place);
  stage = first_stage (statement_at script x.target x.thread place);
}

-- for each of the first channels of a target whether it is clean
abbrev pub clean_upto : Script → ℕ → ℕ → List Bool
clean_upto script target zero = []
clean_upto script target (suc n) = clean_upto script target n ++ is_clean script target n ∷ []

-- for each channel of a target whether it is clean
abbrev pub clean_channels : Script → ℕ → List Bool
clean_channels script target = clean_upto script target (channels_of (slice_get script.targets target))

-- the thread before its first step
abbrev pub thread_start : Script → ℕ → ℕ → ThreadAt
thread_start script target thread = begins script (record {
  target = target;
  thread = thread;
  patience = script.patience;
  clean = clean_channels script target;
  place = 0;
  block = [];
  stage = Over;
}) 0

-- each statement has ended
abbrev pub is_finished : Script → ThreadAt → Bool
is_finished script x = nat_le (length (statements_of script x.target x.thread)) x.place

-- the same by the stage
abbrev pub is_over : ThreadStage → Bool
is_over stage.Over = true
is_over _ = false

-- the statement is a call
abbrev pub is_call : Option Statement → Bool
is_call (Some (Call tag args)) = true
is_call _ = false

-- the statement that a thread makes by a step on a word that the statement names; in a call, and after the last statement, none
abbrev pub direct_of : ThreadStage → Option Statement → Option Statement
direct_of (stage.Stray loads most) statement = statement
direct_of _ statement = None

abbrev pub direct_at : Script → ThreadAt → Option Statement
direct_at script x = direct_of x.stage (statement_at script x.target x.thread x.place)
