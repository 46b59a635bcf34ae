-- Worked cases: which command arguments are, and the fault of others.
use Rattle.std.proofs.Common.{◌≡◌, refl, ℕ, List, Option, codes, [], ◌∷◌, ◌++◌, Some, None}
use Rattle.std.specs.Prelude.{Ok, Err}
use Rattle.sb_commands.specs.Commands.{command_of}
use Rattle.sb_commands.specs.Forms.{Bounded, form_by, form_with}
use Rattle.sb_commands.specs.Inquiries.{HelpOf, asked_of}
use Rattle.sb_commands.specs.Usage.{Values, NotUtf8, NoCommand, UnknownCommand, UnknownOption, OptionTwice, OptionBetween, NoOptionNumber, BadOptionNumber, NoFileName, BadNumber, ExtraWord, Missing}
use Rattle.sb_commands.specs.declared.works.PlainWork.TheVariants.{Audit, Check, Dup, Linked, Local, Replay}
use Rattle.sb_commands.specs.declared.works.ThreadedWork.TheVariants.{Run}
use Rattle.sb_commands.specs.declared.works.Work.TheVariants.{Plain, Threaded}
use Rattle.sb_commands.specs.UsageMessages.{advice, argument_text, fault_text, usage_line, usage_message}

abbrev count : Bounded
count = record { name = codes "N"; low = 1; high = 8 }

abbrev values : List ℕ → List ℕ → List ℕ → Option (List ℕ) → Option ℕ → Values
values first second third last option = record { first = first; second = second; third = third; last = last; first_option = option; second_option = None }

check_is_read : command_of (codes "check" ∷ codes "p" ∷ []) ≡ Ok (record { work = Plain Check; values = values (codes "p") [] [] None None })
check_is_read = refl

schedule_is_read : command_of (codes "replay" ∷ codes "p" ∷ codes "s" ∷ codes "c" ∷ []) ≡ Ok (record { work = Plain Replay; values = values (codes "p") (codes "s") [] (Some (codes "c")) None })
schedule_is_read = refl

links_are_read : command_of (codes "linked" ∷ codes "p" ∷ codes "s" ∷ codes "l" ∷ []) ≡ Ok (record { work = Plain Linked; values = values (codes "p") (codes "s") (codes "l") None None })
links_are_read = refl

moves_are_read : command_of (codes "dup" ∷ codes "p" ∷ codes "s" ∷ codes "m" ∷ []) ≡ Ok (record { work = Plain Dup; values = values (codes "p") (codes "s") (codes "m") None None })
moves_are_read = refl

local_is_read : command_of (codes "local" ∷ codes "p" ∷ codes "s" ∷ []) ≡ Ok (record { work = Plain Local; values = values (codes "p") (codes "s") [] None None })
local_is_read = refl

transcript_is_read : command_of (codes "audit" ∷ codes "p" ∷ codes "s" ∷ codes "t" ∷ []) ≡ Ok (record { work = Plain Audit; values = values (codes "p") (codes "s") (codes "t") None None })
transcript_is_read = refl

links_missing : command_of (codes "linked" ∷ codes "p" ∷ codes "s" ∷ []) ≡ Err (Missing (codes "LINKS"))
links_missing = refl

two_workers : command_of (codes "run" ∷ codes "p" ∷ codes "s" ∷ []) ≡ Ok (record { work = Threaded Run; values = values (codes "p") (codes "s") [] None (Some 2) })
two_workers = refl

option_first : command_of (codes "run" ∷ codes "--workers" ∷ codes "3" ∷ codes "p" ∷ codes "s" ∷ []) ≡ Ok (record { work = Threaded Run; values = values (codes "p") (codes "s") [] None (Some 3) })
option_first = refl

option_last : command_of (codes "run" ∷ codes "p" ∷ codes "s" ∷ codes "--workers=08" ∷ []) ≡ Ok (record { work = Threaded Run; values = values (codes "p") (codes "s") [] None (Some 8) })
option_last = refl

nothing : command_of [] ≡ Err NoCommand
nothing = refl

unknown : command_of (codes "chek" ∷ codes "p" ∷ []) ≡ Err UnknownCommand
unknown = refl

missing : command_of (codes "replay" ∷ codes "p" ∷ []) ≡ Err (Missing (codes "SCRIPT"))
missing = refl

extra : command_of (codes "check" ∷ codes "p" ∷ codes "q" ∷ []) ≡ Err (ExtraWord 2)
extra = refl

given_twice : command_of (codes "run" ∷ codes "--workers" ∷ codes "1" ∷ codes "p" ∷ codes "s" ∷ codes "--workers=2" ∷ []) ≡ Err (OptionTwice 5 (codes "workers"))
given_twice = refl

between : command_of (codes "run" ∷ codes "p" ∷ codes "--workers" ∷ codes "2" ∷ codes "s" ∷ []) ≡ Err (OptionBetween 2 (codes "workers"))
between = refl

no_number : command_of (codes "run" ∷ codes "p" ∷ codes "s" ∷ codes "--workers" ∷ []) ≡ Err (NoOptionNumber (codes "workers") count)
no_number = refl

bad_number : command_of (codes "run" ∷ codes "p" ∷ codes "s" ∷ codes "--workers=9" ∷ []) ≡ Err (BadOptionNumber 3 10 (codes "workers") count)
bad_number = refl

option : command_of (codes "replay" ∷ codes "-x" ∷ []) ≡ Err (UnknownOption 1)
option = refl

empty_name : command_of (codes "check" ∷ [] ∷ codes "-x" ∷ []) ≡ Err (NoFileName 1 (codes "POLICY"))
empty_name = refl

too_many_targets : command_of (codes "make" ∷ codes "1" ∷ codes "9" ∷ codes "x" ∷ [])
    ≡ Err (BadNumber 2 (record { name = codes "TARGETS"; low = 1; high = 8 }))
too_many_targets = refl

-- ---- texts

number_missing : fault_text (NoOptionNumber (codes "workers") count) [] ≡ codes "--workers: N is missing"
number_missing = refl

not_utf8 : usage_message NotUtf8 [] ≡ codes "sandbox: an argument is not UTF-8\n  sandbox help\n" ++ usage_line
not_utf8 = refl

form_is_told : advice (form_by (codes "replay")) ≡ codes "  sandbox replay POLICY SCRIPT [SCHEDULE]\n  sandbox help replay\n"
form_is_told = refl

no_topic : fault_text UnknownCommand (codes "help" ∷ codes "foo" ∷ []) ≡ argument_text (codes "help" ∷ codes "foo" ∷ []) (codes "unknown command ") 1
no_topic = refl

topic_twice : fault_text UnknownCommand (codes "help" ∷ codes "run" ∷ codes "x" ∷ []) ≡ argument_text (codes "help" ∷ codes "run" ∷ codes "x" ∷ []) (codes "extra argument ") 2
topic_twice = refl

flag_not_alone : fault_text UnknownCommand (codes "--version" ∷ codes "x" ∷ []) ≡ argument_text (codes "--version" ∷ codes "x" ∷ []) (codes "extra argument ") 1
flag_not_alone = refl

-- ---- inquiries

help_of_check : asked_of (codes "help" ∷ codes "check" ∷ []) ≡ Some (HelpOf (form_with (Plain Check)))
help_of_check = refl

flag_behind_files : asked_of (codes "check" ∷ codes "p" ∷ codes "--help" ∷ codes "q" ∷ []) ≡ Some (HelpOf (form_with (Plain Check)))
flag_behind_files = refl

flag_behind_nothing : asked_of (codes "chek" ∷ codes "-h" ∷ []) ≡ None
flag_behind_nothing = refl
