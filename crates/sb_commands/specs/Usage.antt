-- How the arguments after a command's name are read by its form: the values, or the first fault from left to right.
use Rattle.std.specs.Prelude.{◌≡◌, ℕ, zero, suc, ◌-◌, Bool, true, false, ◌==◌, nat_eq, List, [], ◌∷◌, length, take, drop, map, Option, None, Some, is_some, Result, Ok, Err, ⊤, if◌then◌else◌, codes, String, slice_get, string_bytes}
use Rattle.std.specs.Borrow.{Bor}
use Rattle.std.specs.Cmp.Lexicographic.{pointwise}
use Rattle.std.specs.declared.alloc.Global.{Global}
use Rattle.sb_commands.specs.Forms.{Bounded, Choice, Form, Kind, Place, File, Number, Switch, Takes, Word, bounded_of}
use Rattle.sb_commands.specs.NumberWords.{is_number, number_of}
use Rattle.sb_text.specs.Steps.{◌>>=◌}
use Rattle.sb_commands.specs.declared.usage.GivenOptions.{GivenOptions}
use Rattle.sb_commands.specs.declared.usage.OptionWord.{OptionWord}
use Rattle.sb_commands.specs.declared.usage.OptionWord.TheVariants as word
use Rattle.sb_commands.specs.declared.usage_faults.UsageFault.TheVariants as fault
use Rattle.sb_commands.specs.declared.usage_faults.UsageFault.{UsageFault}

-- what is wrong, with the index of the argument, from 0, and what the message names. `NotUtf8` is found where arguments are gathered, and
-- by no test of arguments
pub data Fault : Type 0 where
  NotUtf8 : Fault
  NoCommand : Fault
  UnknownCommand : Fault
  UnknownOption : ℕ → Fault
  OptionTwice : ℕ → List ℕ → Fault
  OptionBetween : ℕ → List ℕ → Fault
  NoOptionNumber : List ℕ → Bounded → Fault
  BadOptionNumber : ℕ → ℕ → List ℕ → Bounded → Fault
  NoFileName : ℕ → List ℕ → Fault
  BadNumber : ℕ → Bounded → Fault
  ExtraWord : ℕ → Fault
  Missing : List ℕ → Fault

-- the values of arguments: what is at the places, nothing if there is no such place, the file that may be left out, and the numbers of the options: that which was
-- given, or else the default. A switch that was given has 0
pub record Values : Type 0 where
  pub first : List ℕ
  pub second : List ℕ
  pub third : List ℕ
  pub last : Option (List ℕ)
  pub first_option : Option ℕ
  pub second_option : Option ℕ

-- an argument that begins with `-` is an option
abbrev pub is_dash : List ℕ → Bool
is_dash [] = false
is_dash (b ∷ bs) = b == 45

-- an argument as an option of this name: `--FLAG`, which has its number in the next argument, `--FLAG=N`, or neither
pub data FlagWord : Type 0 where
  Apart : FlagWord
  Joined : List ℕ → FlagWord
  Other : FlagWord

abbrev pub after_flag : List ℕ → FlagWord
after_flag [] = Apart
after_flag (b ∷ bs) = if b == 61 then Joined bs else Other

abbrev pub after_dashes : List ℕ → List ℕ → FlagWord
after_dashes flag bs = if pointwise nat_eq (take (length flag) bs) flag then after_flag (drop (length flag) bs) else Other

abbrev pub flag_word : List ℕ → List ℕ → FlagWord
flag_word flag word = if pointwise nat_eq (take 2 word) (codes "--") then after_dashes flag (drop 2 word) else Other

-- an argument as an option of this form; a switch has no number
abbrev pub without_number : FlagWord → FlagWord
without_number (Joined value) = Other
without_number found = found

abbrev pub word_by : Kind → FlagWord → FlagWord
word_by Switch found = without_number found
word_by (Takes number) found = found

abbrev pub word_as : Choice → List ℕ → FlagWord
word_as choice word = word_by choice.kind (flag_word choice.flag word)

-- ---- the options

-- the arguments of the options that were given, by their numbers; of a switch nothing
pub record Given : Type 0 where
  pub first : Option (List ℕ)
  pub second : Option (List ℕ)

abbrev pub none_given : Given
none_given = record { first = None; second = None }

abbrev pub given_at : ℕ → Given → Option (List ℕ)
given_at zero given = given.first
given_at (suc n) given = given.second

abbrev pub give : ℕ → List ℕ → Given → Given
give zero word given = record given { first = Some word }
give (suc n) word given = record given { second = Some word }

-- which options were given
abbrev pub flags_of : Given → GivenOptions
flags_of given = record { first = is_some given.first; second = is_some given.second }

abbrev pub is_given : ℕ → GivenOptions → Bool
is_given zero given = given.first
is_given (suc n) given = given.second

-- the first option that an argument is, with its number from 0
abbrev pub unless_other : FlagWord → ℕ → Choice → Option (ℕ × Choice) → Option (ℕ × Choice)
unless_other Other n choice rest = rest
unless_other found n choice rest = Some (n, choice)

abbrev pub option_from : ℕ → List Choice → List ℕ → Option (ℕ × Choice)
option_from n [] word = None
option_from n (choice ∷ choices) word = unless_other (word_as choice word) n choice (option_from (suc n) choices word)

abbrev pub option_of : List Choice → List ℕ → Option (ℕ × Choice)
option_of choices word = option_from 0 choices word

-- the argument of an option, and the arguments left
abbrev pub Value : Type 0
Value = Result (List ℕ × List (List ℕ)) Fault

-- the next argument as the option's number; the place of an argument follows from how many there are and how many are left from it on
abbrev pub cut_apart : List ℕ → Bounded → ℕ → List (List ℕ) → Value
cut_apart flag number total [] = Err (NoOptionNumber flag number)
cut_apart flag number total (word ∷ words) =
    if is_number number.low number.high word then Ok (word, words)
    else Err (BadOptionNumber (total - length (word ∷ words)) 0 flag number)

abbrev pub cut_joined : List ℕ → Bounded → ℕ → List ℕ → List (List ℕ) → List ℕ → Value
cut_joined flag number total word words value =
    if is_number number.low number.high value then Ok (value, words)
    else Err (BadOptionNumber (total - length (word ∷ words)) (length word - length value) flag number)

-- the argument of an option that this argument is
abbrev pub value_by : List ℕ → Kind → ℕ → List ℕ → List (List ℕ) → FlagWord → Value
value_by flag (Takes number) total word words Apart = cut_apart flag number total words
value_by flag (Takes number) total word words (Joined value) = cut_joined flag number total word words value
value_by flag kind total word words found = Ok ([], words)

abbrev pub cut_value : Choice → ℕ → List ℕ → List (List ℕ) → Value
cut_value choice total word words = value_by choice.flag choice.kind total word words (flag_word choice.flag word)

-- the options that were given, and the arguments left
abbrev pub Cut : Type 0
Cut = Result (Given × List (List ℕ)) Fault

-- the next argument, if it is an option that was not given before
abbrev pub cut_new : Given → ℕ → List (List ℕ) → ℕ → Choice → List ℕ → List (List ℕ) → Option (List ℕ) → Cut
cut_new given total words n choice word later (Some before) = Ok (given, words)
cut_new given total words n choice word later None = cut_value choice total word later >>= λ value. Ok (give n value.0 given, value.1)

abbrev pub cut_found : Given → ℕ → List ℕ → List (List ℕ) → Option (ℕ × Choice) → Cut
cut_found given total word later None = Ok (given, word ∷ later)
cut_found given total word later (Some found) = cut_new given total (word ∷ later) found.0 found.1 word later (given_at found.0 given)

abbrev pub cut_option : List Choice → Given → ℕ → List (List ℕ) → Cut
cut_option choices given total [] = Ok (given, [])
cut_option choices given total (word ∷ later) = cut_found given total word later (option_of choices word)

-- options as long as the next argument is one that was not given before: of one option or two, each at most once
abbrev pub cut_all : List Choice → Given → ℕ → List (List ℕ) → Cut
cut_all [] given total words = Ok (given, words)
cut_all (choice ∷ []) given total words = cut_option (choice ∷ []) given total words
cut_all choices given total words = cut_option choices given total words >>= λ cut. cut_option choices cut.0 total cut.1

-- ---- the places

-- an argument that begins with `-` where no option is allowed
abbrev pub dash_by : GivenOptions → ℕ → Option (ℕ × Choice) → Fault
dash_by given at None = UnknownOption at
dash_by given at (Some found) = if is_given found.0 given then OptionTwice at found.1.flag else OptionBetween at found.1.flag

abbrev pub dash_fault : List Choice → GivenOptions → ℕ → List ℕ → Fault
dash_fault choices given at word = dash_by given at (option_of choices word)

-- the name of a file is not empty, and a number is within its bounds
abbrev pub file_fault : List ℕ → ℕ → List ℕ → Option Fault
file_fault name at [] = Some (NoFileName at name)
file_fault name at (b ∷ bs) = None

abbrev pub kind_fault : Place → ℕ → List ℕ → Option Fault
kind_fault (File name) at word = file_fault name at word
kind_fault (Word name) at word = None
kind_fault (Number number) at word = if is_number number.low number.high word then None else Some (BadNumber at number)

abbrev pub place_fault : List Choice → GivenOptions → ℕ → Place → List ℕ → Option Fault
place_fault choices given at place word = if is_dash word then Some (dash_fault choices given at word) else kind_fault place at word

abbrev pub place_name : Place → List ℕ
place_name (File name) = name
place_name (Number number) = number.name
place_name (Word name) = name

-- the arguments after those at the places
abbrev pub unless_fault : Option Fault → Result (List (List ℕ)) Fault → Result (List (List ℕ)) Fault
unless_fault None result = result
unless_fault (Some fault) result = Err fault

abbrev pub cut_places : List Choice → GivenOptions → ℕ → List Place → List (List ℕ) → Result (List (List ℕ)) Fault
cut_places choices given total [] words = Ok words
cut_places choices given total (place ∷ places) [] = Err (Missing (place_name place))
cut_places choices given total (place ∷ places) (word ∷ words) =
    unless_fault (place_fault choices given (total - length (word ∷ words)) place word) (cut_places choices given total places words)

-- ---- what may be left out, and the end

-- the file that may be left out, and the arguments after it
abbrev pub Last : Type 0
Last = Result (Option (List ℕ) × List (List ℕ)) Fault

abbrev pub last_by : List ℕ → ℕ → List ℕ → List (List ℕ) → Last
last_by name at [] words = Err (NoFileName at name)
last_by name at (b ∷ bs) words = if b == 45 then Ok (None, (b ∷ bs) ∷ words) else Ok (Some (b ∷ bs), words)

abbrev pub cut_last : Option (List ℕ) → ℕ → List (List ℕ) → Last
cut_last None total words = Ok (None, words)
cut_last (Some name) total [] = Ok (None, [])
cut_last (Some name) total (word ∷ words) = last_by name (total - length (word ∷ words)) word words

-- an argument after all others
abbrev pub extra_word : List Choice → GivenOptions → ℕ → List ℕ → Fault
extra_word choices given at word = if is_dash word then dash_fault choices given at word else ExtraWord at

abbrev pub extra_fault : List Choice → GivenOptions → ℕ → List (List ℕ) → Option Fault
extra_fault choices given total [] = None
extra_fault choices given total (word ∷ words) = Some (extra_word choices given (total - length (word ∷ words)) word)

-- ---- all arguments of a command

-- the number of an option by its argument, if it was given, or else its default
abbrev pub number_by : Kind → List ℕ → ℕ
number_by Switch word = 0
number_by (Takes number) word = number_of word

abbrev pub choice_number : Choice → Option (List ℕ) → Option ℕ
choice_number choice None = choice.default
choice_number choice (Some word) = Some (number_by choice.kind word)

abbrev pub option_number : Option Choice → Option (List ℕ) → Option ℕ
option_number None word = None
option_number (Some choice) word = choice_number choice word

-- the argument at a place
abbrev pub at_place : ℕ → List Place → List (List ℕ) → List ℕ
at_place n [] words = []
at_place n (place ∷ places) [] = []
at_place zero (place ∷ places) (word ∷ words) = word
at_place (suc n) (place ∷ places) (word ∷ words) = at_place n places words

-- the values of arguments of which these parts were cut
abbrev pub values_by : Form → List (List ℕ) → Option (List ℕ) → Given → Values
values_by form placed last given = record {
  first = at_place 0 form.places placed;
  second = at_place 1 form.places placed;
  third = at_place 2 form.places placed;
  last = last;
  first_option = option_number (slice_get form.options 0) given.first;
  second_option = option_number (slice_get form.options 1) given.second;
}

abbrev pub values_unless : Option Fault → Values → Result Values Fault
values_unless None values = Ok values
values_unless (Some fault) values = Err fault

-- the values of the arguments after a command's name, of which there are `total` with the name: options, what is at the places, the file that may be left out, and
-- again options
abbrev pub read_after : Form → ℕ → List (List ℕ) → Result Values Fault
read_after form total words =
    cut_all form.options none_given total words >>= λ before.
    cut_places form.options (flags_of before.0) total form.places before.1 >>= λ later.
    cut_last form.last total later >>= λ last.
    cut_all form.options before.0 total last.1 >>= λ after.
    values_unless (extra_fault form.options (flags_of after.0) total after.1) (values_by form before.1 last.0 after.0)

-- the values of the arguments after a command's name, or the first fault from left to right
abbrev pub read_by : Form → List (List ℕ) → Result Values Fault
read_by form words = read_after form (suc (length words)) words

-- ---- what the program has of these

-- the arguments as lists of bytes
abbrev pub texts : List (String Global) → List (List ℕ)
texts words = map string_bytes words

abbrev pub fault_of : UsageFault → Fault
fault_of fault.NotUtf8 = NotUtf8
fault_of fault.NoCommand = NoCommand
fault_of fault.UnknownCommand = UnknownCommand
fault_of (fault.UnknownOption at) = UnknownOption at
fault_of (fault.OptionTwice at flag) = OptionTwice at flag.now
fault_of (fault.OptionBetween at flag) = OptionBetween at flag.now
fault_of (fault.NoOptionNumber flag number) = NoOptionNumber flag.now (bounded_of number)
fault_of (fault.BadOptionNumber at skipped flag number) = BadOptionNumber at skipped flag.now (bounded_of number)
fault_of (fault.NoFileName at name) = NoFileName at name.now
fault_of (fault.BadNumber at number) = BadNumber at (bounded_of number)
fault_of (fault.ExtraWord at) = ExtraWord at
fault_of (fault.Missing name) = Missing name.now

abbrev pub flag_of : OptionWord → FlagWord
flag_of word.Apart = Apart
flag_of (word.Joined value) = Joined value.now
flag_of word.Other = Other

-- the same with one more
abbrev pub with_given : ℕ → GivenOptions → GivenOptions
with_given zero given = record given { first = true }
with_given (suc n) given = record given { second = true }

-- options were cut, or one of them has this fault
abbrev pub IsCut : Cut → Result (GivenOptions × Bor (List (String Global))) UsageFault → Type 0
IsCut (Ok (given, words)) (Ok (flags, left)) = (flags_of given ≡ flags) × (words ≡ texts left.now)
IsCut (Err fault) (Err found) = fault ≡ fault_of found
IsCut _ _ = ⊥

-- what is left after a part was cut
abbrev pub left_of : {A : Type 0} → Result (A × List (List ℕ)) Fault → Result (List (List ℕ)) Fault
left_of (Ok cut) = Ok cut.1
left_of (Err fault) = Err fault

abbrev pub IsLeft : Result (List (List ℕ)) Fault → Result (Bor (List (String Global))) UsageFault → Type 0
IsLeft wanted (Ok left) = wanted ≡ Ok (texts left.now)
IsLeft wanted (Err found) = wanted ≡ Err (fault_of found)

-- the arguments have values, or this fault
abbrev pub IsTested : Result Values Fault → Result ⊤ UsageFault → Type 0
IsTested (Ok values) (Ok tested) = ⊤
IsTested (Err fault) (Err found) = fault ≡ fault_of found
IsTested _ _ = ⊥
