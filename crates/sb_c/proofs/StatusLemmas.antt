-- A status by its number.
use Rattle.std.proofs.Common.{ℕ, List, None, Some}
use Rattle.std.specs.Prelude.{Option, slice_get}
use Rattle.sb_c.specs.Statuses.{status_number, status_of}
use Rattle.sb_rule.specs.declared.policies.Policy.{Policy}
use Rattle.sb_host.specs.HostWorkers.{HostAt}
use Rattle.sb_c.specs.Blocks.{CallOfC, IsLaid, IsNoBlock}
use Rattle.sb_block.specs.declared.calls.Call.{Call}
use Rattle.sb_c.specs.Decisions.{IsArgument, IsAsked, IsDecided, IsUndecided, asked_args}
use Rattle.sb_c.specs.Policies.{IsNameShown}
use Rattle.sb_c.specs.declared.shapes.Argument.{Argument}
use Rattle.sb_c.specs.declared.shapes.CopyDecision.{CopyDecision}
use Rattle.sb_call.specs.declared.arguments.Arg.{Arg}
use Rattle.sb_call.specs.declared.arguments.Arg.TheVariants.{Num, Str}
use Rattle.sb_c.specs.Verdicts.{IsJudged, IsNoVerdict}
use Rattle.sb_c.specs.Workers.{AreValues}
use Rattle.sb_c.specs.declared.shapes.CallVerdict.{CallVerdict}
use Rattle.sb_c.specs.declared.statuses.Status.{Status}
use Rattle.sb_c.specs.declared.statuses.Status.TheVariants.{Ok, BadCall, NoMemory, Fault, NoRoom, NoLiteral, TooBig}

-- why there is no block is the status of its layout
pub refused_as : (c : CallOfC) (mark room count : ℕ) (front : List ℕ) (s : Status) → IsNoBlock c s → IsLaid c mark room count front (status_of (status_number s))
refused_as c mark room count front Ok h = absurd h
refused_as c mark room count front BadCall h = h
refused_as c mark room count front NoMemory h = h
refused_as c mark room count front Fault h = absurd h
refused_as c mark room count front NoRoom h = absurd h
refused_as c mark room count front NoLiteral h = absurd h
refused_as c mark room count front TooBig h = h

-- why there is no verdict is the status of a verdict
pub no_verdict_as : (policies : List Policy) (number : ℕ) (c : CallOfC) (shown : CallVerdict) (s : Status) → IsNoVerdict policies number c s
    → IsJudged policies number c shown (status_of (status_number s))
no_verdict_as policies number c shown Ok h = absurd h
no_verdict_as policies number c shown BadCall h = h
no_verdict_as policies number c shown NoMemory h = h
no_verdict_as policies number c shown Fault h = absurd h
no_verdict_as policies number c shown NoRoom h = absurd h
no_verdict_as policies number c shown NoLiteral h = absurd h
no_verdict_as policies number c shown TooBig h = absurd h

-- a status is that of its number
pub name_shown_as : (policies : List Policy) (number room count : ℕ) (front : List ℕ) (s : Status) → IsNameShown policies number room count front (Some s)
    → IsNameShown policies number room count front (status_of (status_number s))
name_shown_as policies number room count front Ok h = h
name_shown_as policies number room count front BadCall h = h
name_shown_as policies number room count front NoMemory h = absurd h
name_shown_as policies number room count front Fault h = absurd h
name_shown_as policies number room count front NoRoom h = h
name_shown_as policies number room count front NoLiteral h = absurd h
name_shown_as policies number room count front TooBig h = absurd h

pub values_as : (h : Option HostAt) (room count : ℕ) (front : List ℕ) (s : Status) → AreValues h room count front (Some s)
    → AreValues h room count front (status_of (status_number s))
values_as (Some h) room count front Ok x = x
values_as (Some h) room count front BadCall x = absurd x
values_as (Some h) room count front NoMemory x = absurd x
values_as (Some h) room count front Fault x = absurd x
values_as (Some h) room count front NoRoom x = x
values_as (Some h) room count front NoLiteral x = absurd x
values_as (Some h) room count front TooBig x = absurd x
values_as None room count front Ok x = absurd x
values_as None room count front BadCall x = x
values_as None room count front NoMemory x = absurd x
values_as None room count front Fault x = absurd x
values_as None room count front NoRoom x = absurd x
values_as None room count front NoLiteral x = absurd x
values_as None room count front TooBig x = absurd x

pub undecided_as : (h : HostAt) (policies : List Policy) (number : ℕ) (shown : CopyDecision) (s : Status) → IsUndecided h policies number s
    → IsDecided (Some h) policies number shown (status_of (status_number s))
undecided_as h policies number shown Ok x = absurd x
undecided_as h policies number shown BadCall x = x
undecided_as h policies number shown NoMemory x = x
undecided_as h policies number shown Fault x = absurd x
undecided_as h policies number shown NoRoom x = absurd x
undecided_as h policies number shown NoLiteral x = absurd x
undecided_as h policies number shown TooBig x = absurd x

pub argument_as : (given : Option Arg) (room : ℕ) (shown : Argument) (units : List ℕ) (s : Status) → IsArgument given room shown units (Some s)
    → IsArgument given room shown units (status_of (status_number s))
argument_as (Some (Num n)) room shown units Ok x = x
argument_as (Some (Num n)) room shown units BadCall x = absurd x
argument_as (Some (Num n)) room shown units NoMemory x = absurd x
argument_as (Some (Num n)) room shown units Fault x = absurd x
argument_as (Some (Num n)) room shown units NoRoom x = absurd x
argument_as (Some (Num n)) room shown units NoLiteral x = absurd x
argument_as (Some (Num n)) room shown units TooBig x = absurd x
argument_as (Some (Str us)) room shown units Ok x = x
argument_as (Some (Str us)) room shown units BadCall x = absurd x
argument_as (Some (Str us)) room shown units NoMemory x = absurd x
argument_as (Some (Str us)) room shown units Fault x = absurd x
argument_as (Some (Str us)) room shown units NoRoom x = x
argument_as (Some (Str us)) room shown units NoLiteral x = absurd x
argument_as (Some (Str us)) room shown units TooBig x = absurd x
argument_as None room shown units Ok x = absurd x
argument_as None room shown units BadCall x = x
argument_as None room shown units NoMemory x = absurd x
argument_as None room shown units Fault x = absurd x
argument_as None room shown units NoRoom x = absurd x
argument_as None room shown units NoLiteral x = absurd x
argument_as None room shown units TooBig x = absurd x

-- no memory is no status of an argument that is there
never_memory : (given : Option Arg) (room : ℕ) (shown : Argument) (units : List ℕ) → IsArgument given room shown units (Some NoMemory) → ⊥
never_memory (Some (Num n)) room shown units x = x
never_memory (Some (Str us)) room shown units x = x
never_memory None room shown units x = x

-- an argument of a call that is asked for is shown as one that is granted
pub asked_argument : (call : Option Call) (number room : ℕ) (shown : Argument) (units : List ℕ) (s : Status)
    → IsArgument (slice_get (asked_args call) number) room shown units (Some s) → IsAsked call number room shown units (Some s)
asked_argument call number room shown units Ok x = x
asked_argument call number room shown units BadCall x = x
asked_argument call number room shown units NoMemory x = absurd (never_memory (slice_get (asked_args call) number) room shown units x)
asked_argument call number room shown units Fault x = x
asked_argument call number room shown units NoRoom x = x
asked_argument call number room shown units NoLiteral x = x
asked_argument call number room shown units TooBig x = x

pub asked_as : (call : Option Call) (number room : ℕ) (shown : Argument) (units : List ℕ) (s : Status) → IsAsked call number room shown units (Some s)
    → IsAsked call number room shown units (status_of (status_number s))
asked_as call number room shown units Ok x = x
asked_as call number room shown units BadCall x = x
asked_as call number room shown units NoMemory x = x
asked_as call number room shown units Fault x = x
asked_as call number room shown units NoRoom x = x
asked_as call number room shown units NoLiteral x = x
asked_as call number room shown units TooBig x = x
