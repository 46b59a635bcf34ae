-- The call that is in a copy.
use Rattle.std.specs.Prelude.{◌≡◌, ℕ, ◌%◌, ◌^◌, ◌==◌, List, map, Option, None, Some, Result, Ok, Err, if◌then◌else◌}
use Rattle.sb_call.specs.declared.tags.CallTag.{CallTag}
use Rattle.sb_call.specs.declared.arguments.Arg.{Arg}
use Rattle.sb_call.specs.declared.arguments.Arg.TheVariants.{Num, Str}
use Rattle.sb_block.specs.Layout.{mark_in, descriptors}
use Rattle.sb_block.specs.Copies.{Copied}
use Rattle.sb_block.specs.Faults.{fault, tag_in}
use Rattle.sb_block.specs.Packing.{type_of, string_in, number_in}
use Rattle.sb_block.specs.declared.faults.BlockFault.{BlockFault}
use Rattle.sb_base.specs.declared.refusals.Refused.{Refused}
use Rattle.sb_base.specs.declared.refusals.Refused.TheVariants.{Fault, NoMemory}
use Rattle.sb_block.specs.declared.calls.Call.{Call}

-- the argument of a descriptor: a string, the low half of a word, or a whole word
abbrev pub argument_in : List ℕ → ℕ → Arg
argument_in words word =
    if type_of word == 1 then Str (string_in word words)
    else (if type_of word == 2 then Num (number_in word words % 2 ^ 32)
    else Num (number_in word words))

-- the arguments of descriptors
abbrev pub arguments_in : List ℕ → List ℕ → List Arg
arguments_in infos words = map (argument_in words) infos

-- a call is a tag, a mark and arguments
abbrev pub called : CallTag → ℕ → List Arg → Call
called tag mark args = record { tag = tag; mark = mark; args = args }

-- the call of words: nothing else is read
abbrev pub call_in : List ℕ → Call
call_in words = called (tag_in words) (mark_in words) (arguments_in (descriptors words) words)

-- the call of a copy without a fault is that of its words
abbrev pub call_of : Copied → Call
call_of c = call_in c.words

abbrev pub call_unless : Option BlockFault → Call → Result Call BlockFault
call_unless None call = Ok call
call_unless (Some fault) call = Err fault

-- each copy has its first fault, or else its call
abbrev pub decoded : Copied → Result Call BlockFault
decoded c = call_unless (fault c) (call_of c)

-- a refusal is out of memory, or the fault
abbrev pub IsRefusal : Result Call BlockFault → Refused BlockFault → Type 0
IsRefusal wanted (Fault fault) = wanted ≡ Err fault
IsRefusal wanted NoMemory = Unit {0}
