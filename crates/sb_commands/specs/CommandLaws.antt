-- How a command is written, that exactly what can be written is read, and that the numbers of `make` are read as these numbers.
use Rattle.std.specs.Prelude.{◌≡◌, ◌<◌, ◌≤◌, ◌^◌, ℕ, ◌==◌, ◌&&◌, not, Bool, true, false, List, [], ◌∷◌, ◌++◌, Option, None, Some, option_to_list, codes, Ok, IsOkAnd, slice_get}
use Rattle.std.specs.Fmt.{decimal}
use Rattle.std.specs.List.{list_all}
use Rattle.sb_commands.specs.Commands.{Command, command_of, placed}
use Rattle.sb_commands.specs.Forms.{Choice, File, Form, Kind, Number, Place, Switch, Takes, Word, form_with}
use Rattle.sb_commands.specs.NumberWords.{is_number, is_within, number_of}
use Rattle.sb_commands.specs.Usage.{Values, is_dash}
use Rattle.sb_commands.specs.declared.works.ThreadedWork.TheVariants.{Make}
use Rattle.sb_commands.specs.declared.works.Work.TheVariants.{Threaded}

-- the name of a file on the command line: it is not empty, and does not begin with `-`
abbrev pub is_file_name : List ℕ → Bool
is_file_name [] = false
is_file_name (b ∷ bs) = not (b == 45)

-- an argument is what its place asks for
abbrev pub suits_place : Place → List ℕ → Bool
suits_place (File name) word = is_file_name word
suits_place (Number number) word = is_number number.low number.high word
suits_place (Word name) word = not (is_dash word)

abbrev pub is_empty : List ℕ → Bool
is_empty [] = true
is_empty (b ∷ bs) = false

-- so are arguments, and nothing is where there is no place
abbrev pub suit_places : List Place → List (List ℕ) → Bool
suit_places [] words = list_all is_empty words
suit_places (place ∷ places) [] = false
suit_places (place ∷ places) (word ∷ words) = suits_place place word && suit_places places words

-- the file that may be left out
abbrev pub suits_last : Option (List ℕ) → Option (List ℕ) → Bool
suits_last name None = true
suits_last None (Some word) = false
suits_last (Some name) (Some word) = is_file_name word

-- the number of an option: a switch that is given has 0; without a default it may be left out
abbrev pub suits_kind : Kind → Option ℕ → Option ℕ → Bool
suits_kind kind None None = true
suits_kind kind (Some default) None = false
suits_kind Switch default (Some number) = number == 0
suits_kind (Takes bounds) default (Some number) = is_within bounds.low bounds.high (Some number)

abbrev pub suits_option : Option Choice → Option ℕ → Bool
suits_option None None = true
suits_option None (Some number) = false
suits_option (Some choice) number = suits_kind choice.kind choice.default number

-- values that can be written in a form
abbrev pub suits : Form → Values → Bool
suits form values = suit_places form.places (placed values) && (suits_last form.last values.last
    && (suits_option (slice_get form.options 0) values.first_option && suits_option (slice_get form.options 1) values.second_option))

-- a command that can be written: its files have names of files, and its numbers are within their bounds
abbrev pub IsWritable : Command → Type 0
IsWritable command = suits (form_with command.work) command.values ≡ true

-- the arguments at places
abbrev pub written_places : List Place → List (List ℕ) → List (List ℕ)
written_places [] words = []
written_places (place ∷ places) [] = []
written_places (place ∷ places) (word ∷ words) = word ∷ written_places places words

-- an option with its number, if it has one
abbrev pub written_kind : Kind → ℕ → List (List ℕ)
written_kind Switch number = []
written_kind (Takes bounds) number = decimal number ∷ []

abbrev pub written_option : Option Choice → Option ℕ → List (List ℕ)
written_option None number = []
written_option (Some choice) None = []
written_option (Some choice) (Some number) = (codes "--" ++ choice.flag) ∷ written_kind choice.kind number

-- the arguments of a form with these values
abbrev pub written_values : Form → Values → List (List ℕ)
written_values form values =
    written_places form.places (placed values) ++ (option_to_list values.last
    ++ (written_option (slice_get form.options 0) values.first_option ++ written_option (slice_get form.options 1) values.second_option))

-- the arguments of a command
abbrev pub written : Command → List (List ℕ)
written command = (form_with command.work).name ∷ written_values (form_with command.work) command.values

-- what is written of a command is read as this command
abbrev pub WrittenCommandsAreRead : Type 0
WrittenCommandsAreRead = (command : Command) → IsWritable command → command_of (written command) ≡ Ok command

-- and every command that is read can be written
abbrev pub ReadCommandsAreWritable : Type 0
ReadCommandsAreWritable = (words : List (List ℕ)) (command : Command) → command_of words ≡ Ok command → IsWritable command

-- ---- the numbers of `make`

-- the command `make` with these numbers
pub record IsMake (seed targets calls : ℕ) (command : Command) : Type 0 where
  pub work : command.work ≡ Threaded Make
  pub first : number_of command.values.first ≡ seed
  pub second : number_of command.values.second ≡ targets
  pub third : number_of command.values.third ≡ calls

-- the arguments of `make` with the decimal digits of three numbers
abbrev pub make_words : ℕ → ℕ → ℕ → List (List ℕ)
make_words seed targets calls = codes "make" ∷ decimal seed ∷ decimal targets ∷ decimal calls ∷ []

-- three numbers in their ranges, written in decimal, are read as the command with these numbers
abbrev pub WrittenNumbersAreRead : Type 0
WrittenNumbersAreRead =
    (seed targets calls : ℕ) → seed < 2 ^ 64 → (1 ≤ targets) × (targets ≤ 8) → (1 ≤ calls) × (calls ≤ 4096)
    → IsOkAnd (command_of (make_words seed targets calls)) (IsMake seed targets calls)
