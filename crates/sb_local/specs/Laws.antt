-- What holds of a thinned script.
use Rattle.std.specs.Prelude.{◌≡◌, ◌⊎◌, ℕ, false, List, [], Option, None, Some, slice_get, slice_index_or}
use Rattle.sb_actor.specs.Places.{statement_at}
use Rattle.sb_block.specs.Blocks.{block}
use Rattle.sb_block.specs.Copies.{whole}
use Rattle.sb_book.specs.Decisions.{decision_of}
use Rattle.sb_book.specs.Histories.{setting_of}
use Rattle.sb_book.specs.Readiness.{IsReady}
use Rattle.sb_book.specs.declared.decisions.Decision.TheVariants.{Denied}
use Rattle.sb_call.specs.declared.arguments.Arg.{Arg}
use Rattle.sb_call.specs.declared.tags.CallTag.{CallTag}
use Rattle.sb_core.specs.Runs.{CanRun, ran}
use Rattle.sb_rule.specs.Verdicts.{policy_at, verdict_of}
use Rattle.sb_rule.specs.declared.policies.Policy.{Policy}
use Rattle.sb_statements.specs.Actors.{is_there}
use Rattle.sb_statements.specs.Scripts.{is_clean}
use Rattle.sb_statements.specs.SoundScripts.{IsSoundScript}
use Rattle.sb_statements.specs.declared.schedules.Actor.{Actor}
use Rattle.sb_statements.specs.declared.schedules.Schedule.{Schedule}
use Rattle.sb_statements.specs.declared.scripts.Script.{Script}
use Rattle.sb_statements.specs.declared.statements.Statement.{Statement}
use Rattle.sb_statements.specs.declared.statements.Statement.TheVariants.{Call}
use Rattle.sb_local.specs.Denials.{is_local_denial}
use Rattle.sb_local.specs.Serial.{HasOneThread, serial}
use Rattle.sb_local.specs.Thinning.{Thinned, thin}
use Rattle.sb_local.specs.declared.denials.LocalDenial.{LocalDenial}

-- each local denial is of the call at its place, and is what the policy of its target decides on the whole block of the call, with any mark
abbrev pub DenialsAreDecisions : Type 0
DenialsAreDecisions = (policies : List Policy) (script : Script) (n : ℕ) (d : LocalDenial) → IsSoundScript script
    → slice_get (thin policies script).denied n ≡ Some d
    → (args : List Arg) × (statement_at script d.target d.thread d.place ≡ Some (Call d.tag args))
    × ((mark : ℕ) → decision_of (policy_at policies d.target) (whole (block d.tag args mark)) ≡ Denied d.tag d.verdict)

-- the place that the statement at a place of the thinned script had before
abbrev pub old_place : List (List (List ℕ)) → ℕ → ℕ → ℕ → Option ℕ
old_place kept t k j = slice_get (slice_index_or (slice_index_or kept t []) k []) j

-- each statement of a thinned script is the one that was at its old place
abbrev pub StatementsHadTheirPlaces : Type 0
StatementsHadTheirPlaces = (policies : List Policy) (script : Script) (t k j : ℕ) (s : Statement)
    → statement_at (thin policies script).script t k j ≡ Some s
    → (i : ℕ) × (old_place (thin policies script).kept t k j ≡ Some i) × (statement_at script t k i ≡ Some s)

-- no statement is lost: each is sent, or is a call that is denied
abbrev pub IsSentFrom : Thinned → ℕ → ℕ → ℕ → Statement → Type 0
IsSentFrom thinned t k i s = (j : ℕ) × (old_place thinned.kept t k j ≡ Some i) × (statement_at thinned.script t k j ≡ Some s)

abbrev pub IsDeniedAt : Thinned → ℕ → ℕ → ℕ → Type 0
IsDeniedAt thinned t k i = (n : ℕ) × (d : LocalDenial) × (slice_get thinned.denied n ≡ Some d) × (d.target ≡ t) × (d.thread ≡ k) × (d.place ≡ i)

abbrev pub EachIsSentOrDenied : Type 0
EachIsSentOrDenied = (policies : List Policy) (script : Script) (t k i : ℕ) (s : Statement) → statement_at script t k i ≡ Some s
    → IsSentFrom (thin policies script) t k i s ⊎ IsDeniedAt (thin policies script) t k i

-- and no call that is sent is one that its target may deny itself: it is granted, faked, or denied by an alarm
abbrev pub SentCallsAreForTheBroker : Type 0
SentCallsAreForTheBroker = (policies : List Policy) (script : Script) (t k j : ℕ) (tag : CallTag) (args : List Arg)
    → statement_at (thin policies script).script t k j ≡ Some (Call tag args)
    → is_local_denial (verdict_of (policy_at policies t) tag args) ≡ false

-- a thinned script is sound
abbrev pub ThinnedScriptsAreSound : Type 0
ThinnedScriptsAreSound = (policies : List Policy) (script : Script) → IsSoundScript script → IsSoundScript (thin policies script).script

-- and it is ready for the policies that the script is ready for, whatever it was thinned by
abbrev pub ThinnedScriptsAreReady : Type 0
ThinnedScriptsAreReady = (judged policies : List Policy) (script : Script) → IsReady policies script → IsReady policies (thin judged script).script

-- its targets have their policies and channels, and it opens as before
abbrev pub SettingsStay : Type 0
SettingsStay = (judged policies : List Policy) (script : Script) → setting_of policies (thin judged script).script ≡ setting_of policies script

-- it has the same actors
abbrev pub ActorsStay : Type 0
ActorsStay = (policies : List Policy) (script : Script) (actor : Actor)
    → is_there (thin policies script).script.targets actor ≡ is_there script.targets actor

-- the same channels are clean
abbrev pub CleanChannelsStay : Type 0
CleanChannelsStay = (policies : List Policy) (script : Script) (target channel : ℕ)
    → is_clean (thin policies script).script target channel ≡ is_clean script target channel

-- thinning a thinned script leaves out nothing
abbrev pub ThinningAgainChangesNothing : Type 0
ThinningAgainChangesNothing = (policies : List Policy) (script : Script)
    → ((thin policies (thin policies script).script).script ≡ (thin policies script).script)
    × ((thin policies (thin policies script).script).denied ≡ [])

-- the calls that are left out change nothing: performed one after another, those that stay lead to the same namespace
abbrev pub DeniedCallsChangeNothing : Type 0
DeniedCallsChangeNothing = (policies : List Policy) (script : Script) → IsSoundScript script
    → serial policies (thin policies script).script ≡ serial policies script

-- a run of a script with one thread, which has only calls, performs them in order
abbrev pub RunsOfOneThreadAreSerial : Type 0
RunsOfOneThreadAreSerial = (policies : List Policy) (script : Script) (schedule : Schedule) (t : ℕ) (statements : List Statement)
    → HasOneThread script t statements → CanRun policies script schedule → (ran policies script schedule).unfinished ≡ None
    → (ran policies script schedule).report.kernel ≡ serial (setting_of policies script).policies script

-- so a run of it thinned leads to the namespace of the script as it was written, performed in order
abbrev pub ThinnedRunsAreSerial : Type 0
ThinnedRunsAreSerial = (policies : List Policy) (script : Script) (schedule : Schedule) (t : ℕ) (statements : List Statement)
    → IsReady policies script → HasOneThread script t statements
    → CanRun policies (thin (setting_of policies script).policies script).script schedule
    → (ran policies (thin (setting_of policies script).policies script).script schedule).unfinished ≡ None
    → (ran policies (thin (setting_of policies script).policies script).script schedule).report.kernel
    ≡ serial (setting_of policies script).policies script
