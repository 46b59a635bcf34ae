-- What the broker decides of the calls that `local` leaves out, in a run of the script as it was written.
use Rattle.std.specs.Prelude.{◌≡◌, ℕ, true, List, None, Some, slice_get}
use Rattle.sb_actor.specs.Moves.{is_clean}
use Rattle.sb_actor.specs.Places.{clean_channels, mark_at, statement_at}
use Rattle.sb_block.specs.Blocks.{block}
use Rattle.sb_block.specs.Copies.{whole}
use Rattle.sb_book.specs.Histories.{setting_of}
use Rattle.sb_book.specs.declared.decisions.Decision.TheVariants.{Denied}
use Rattle.sb_book.specs.declared.entries.Entry.{Entry}
use Rattle.sb_call.specs.declared.arguments.Arg.{Arg}
use Rattle.sb_call.specs.declared.replies.Reply.{Reply}
use Rattle.sb_core.specs.Results.{result_at}
use Rattle.sb_core.specs.Runs.{CanRun, ran}
use Rattle.sb_rule.specs.declared.policies.Policy.{Policy}
use Rattle.sb_statements.specs.declared.results.CallResult.TheVariants as call
use Rattle.sb_statements.specs.declared.results.StmtResult.TheVariants as result
use Rattle.sb_statements.specs.declared.schedules.Schedule.{Schedule}
use Rattle.sb_statements.specs.declared.scripts.Script.{Script}
use Rattle.sb_statements.specs.declared.statements.Statement.TheVariants.{Call}
use Rattle.sb_local.specs.Thinning.{thin}
use Rattle.sb_local.specs.declared.denials.LocalDenial.{LocalDenial}

-- the call is one of those that the targets of a script deny themselves, each by the policy that it names
abbrev pub IsLeftOut : List Policy → Script → LocalDenial → Type 0
IsLeftOut policies script d = (n : ℕ) × (slice_get (thin (setting_of policies script).policies script).denied n ≡ Some d)

-- the entry is of the whole block of this call, and is Denied with the verdict of the local denial
pub record IsDeniedAsWritten (script : Script) (d : LocalDenial) (mark : ℕ) (e : Entry) : Type 0 where
  pub args : List Arg
  pub call : statement_at script d.target d.thread d.place ≡ Some (Call d.tag args)
  pub copy : e.taken ≡ whole (block d.tag args mark)
  pub decision : e.decision ≡ Denied d.tag d.verdict

-- in every run of the script as it was written, a call that is left out, if its block is copied whole as it was written, is Denied with the same verdict
abbrev pub WholeBlocksAreDenied : Type 0
WholeBlocksAreDenied = (policies : List Policy) (script : Script) (schedule : Schedule) (d : LocalDenial) (args : List Arg) (mark n : ℕ) (e : Entry)
    → CanRun policies script schedule → IsLeftOut policies script d
    → statement_at script d.target d.thread d.place ≡ Some (Call d.tag args)
    → slice_get (ran policies script schedule).report.entries n ≡ Some e → e.target ≡ d.target → e.taken ≡ whole (block d.tag args mark)
    → e.decision ≡ Denied d.tag d.verdict

-- on a clean channel it always is copied so: a reply there to a call that is left out is that of an entry of its whole block, which is Denied
abbrev pub CleanCallsAreDenied : Type 0
CleanCallsAreDenied = (policies : List Policy) (script : Script) (schedule : Schedule) (d : LocalDenial) (channel : ℕ) (reply : Reply)
    → CanRun policies script schedule → (ran policies script schedule).unfinished ≡ None → IsLeftOut policies script d
    → is_clean (clean_channels script d.target) channel ≡ true
    → result_at (ran policies script schedule).report.results d.target d.thread d.place ≡ Some (result.Call (call.Reply channel reply))
    → (n : ℕ) × (e : Entry) × (slice_get (ran policies script schedule).report.entries n ≡ Some e)
    × (e.target ≡ d.target) × (e.channel ≡ channel) × (e.reply ≡ reply) × IsDeniedAsWritten script d (mark_at d.thread d.place) e
