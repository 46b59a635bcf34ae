-- What is decided of a copy, as C sees it.
use Rattle.std.specs.Prelude.{◌≡◌, ◌<◌, ℕ, true, false, is_some, min, List, [], length, slice_get, slice_index, take, Option, None, Some}
use Rattle.sb_block.specs.declared.calls.Call.{Call}
use Rattle.sb_call.specs.Tags.{number_of}
use Rattle.sb_call.specs.declared.arguments.Arg.{Arg}
use Rattle.sb_call.specs.declared.arguments.Arg.TheVariants.{Num, Str}
use Rattle.sb_rule.specs.Verdicts.{policy_at}
use Rattle.sb_rule.specs.declared.policies.Policy.{Policy}
use Rattle.sb_rule.specs.declared.verdicts.Verdict.TheVariants as verdict
use Rattle.sb_rule.specs.declared.actions.Action.TheVariants as action
use Rattle.sb_book.specs.Replies.{denied_outcome, faked_outcome, fault_words, performed_outcome, refused_outcome}
use Rattle.sb_book.specs.Rulings.{args_of, ruling_of}
use Rattle.sb_book.specs.declared.decisions.Decision.{Decision}
use Rattle.sb_book.specs.declared.rulings.Ruling.{Ruling}
use Rattle.sb_book.specs.declared.rulings.Ruling.TheVariants as ruling
use Rattle.sb_host.specs.HostWorkers.{HostAt, after_decision, asked, can_decide, granted_args}
use Rattle.sb_c.specs.Verdicts.{verdict_shown}
use Rattle.sb_c.specs.declared.shapes.Argument.{Argument}
use Rattle.sb_c.specs.declared.shapes.CallVerdict.{CallVerdict}
use Rattle.sb_c.specs.declared.shapes.CopyDecision.{CopyDecision}
use Rattle.sb_c.specs.declared.statuses.Status.{Status}
use Rattle.sb_c.specs.declared.statuses.Status.TheVariants as status

-- an outcome with the number of its call, the verdict on it, the number of a fault, and how many arguments are granted
abbrev pub decision_shown : ℕ → ℕ → CallVerdict → ℕ → ℕ → CopyDecision
decision_shown outcome call said fault arguments = record {
  outcome = outcome;
  call = call;
  has_rule = said.has_rule;
  line = said.line;
  action = said.action;
  fault = fault;
  arguments = arguments;
}

-- what is decided, and how many arguments are granted; a copy with a fault has no call, and only such a copy has the number of a fault
abbrev pub ruling_shown : ℕ → Ruling → CopyDecision
ruling_shown arguments (ruling.Refused fault) = decision_shown refused_outcome 0 (verdict_shown verdict.NoRule) (slice_index (fault_words fault) 0) arguments
ruling_shown arguments (ruling.Denied tag said) = decision_shown denied_outcome (number_of tag) (verdict_shown said) 0 arguments
ruling_shown arguments (ruling.Faked tag line) = decision_shown faked_outcome (number_of tag) (verdict_shown (verdict.Rule line action.Fake)) 0 arguments
ruling_shown arguments (ruling.Performed tag line act) = decision_shown performed_outcome (number_of tag) (verdict_shown (verdict.Rule line act)) 0 arguments

-- what is decided is shown
abbrev pub IsShown : Option Decision → CopyDecision → Type 0
IsShown None shown = ⊥
IsShown (Some d) shown = shown ≡ ruling_shown (length (args_of d)) (ruling_of d)

-- why nothing was decided
abbrev pub IsUndecided : HostAt → List Policy → ℕ → Status → Type 0
IsUndecided h policies number status.BadCall = can_decide h (length policies) number ≡ false
IsUndecided h policies number status.NoMemory = (can_decide h (length policies) number ≡ true) × (is_some (asked h) ≡ true)
IsUndecided h policies number _ = ⊥

-- the status of a decision by the policy of this number: it is shown, or there is no worker with a copy to answer of which nothing is decided, or no such
-- policy, or there was no memory for the strings of the call that the copy asks for
abbrev pub IsDecided : Option HostAt → List Policy → ℕ → CopyDecision → Option Status → Type 0
IsDecided (Some h) policies number shown (Some status.Ok) =
    (can_decide h (length policies) number ≡ true) × IsShown ((after_decision h (policy_at policies number)).decision) shown
IsDecided (Some h) policies number shown (Some s) = IsUndecided h policies number s
IsDecided None policies number shown (Some status.BadCall) = Unit {0}
IsDecided h policies number shown _ = ⊥

-- the arguments that a worker grants
abbrev pub granted_in : Option HostAt → List Arg
granted_in None = []
granted_in (Some h) = granted_args h.decision

-- the status of an argument: a number is shown, a string is at the front of the units and has this many, it has more than the room or 32 bits hold, or
-- there is no such argument
abbrev pub IsArgument : Option Arg → ℕ → Argument → List ℕ → Option Status → Type 0
IsArgument (Some (Num n)) room shown units (Some status.Ok) = shown ≡ record { is_text = 0; start = 0; length = 0; room = 0; number = n }
IsArgument (Some (Str us)) room shown units (Some status.Ok) =
    (shown ≡ record { is_text = 1; start = 0; length = length us; room = 0; number = 0 }) × (take (length us) units ≡ us)
IsArgument (Some (Str us)) room shown units (Some status.NoRoom) = min room 4294967295 < length us
IsArgument None room shown units (Some status.BadCall) = Unit {0}
IsArgument given room shown units _ = ⊥

-- the call that the copy of a worker asks for, whatever is decided of it
abbrev pub asked_by : Option HostAt → Option Call
asked_by None = None
asked_by (Some h) = asked h

abbrev pub asked_args : Option Call → List Arg
asked_args None = []
asked_args (Some call) = call.args

-- the status of an argument that is asked for: that of an argument which is granted, or there was no memory for the call
abbrev pub IsAsked : Option Call → ℕ → ℕ → Argument → List ℕ → Option Status → Type 0
IsAsked call number room shown units (Some status.NoMemory) = is_some call ≡ true
IsAsked call number room shown units s = IsArgument (slice_get (asked_args call) number) room shown units s
