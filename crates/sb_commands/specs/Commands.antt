-- Which command the arguments are.
use Rattle.std.specs.Prelude.{ℕ, ◌-◌, ◌==◌, ◌≡◌, ◌≤◌, ⊤, Bool, true, false, List, [], ◌∷◌, ◌++◌, Option, None, Some, if◌then◌else◌, option_map, option_to_list, Result, Ok, Err, IsOk, slice_get}
use Rattle.std.specs.Borrow.{Bor}
use Rattle.sb_commands.specs.Forms.{Choice, File, Form, Kind, Number, Place, Switch, Takes, Word, form_by, form_with}
use Rattle.sb_commands.specs.NumberWords.{number_of}
use Rattle.sb_commands.specs.Usage.{Fault, NoCommand, UnknownCommand, Values, read_by}
use Rattle.sb_commands.specs.declared.works.PlainWork.{PlainWork}
use Rattle.sb_commands.specs.declared.works.ThreadedWork.{ThreadedWork}
use Rattle.sb_commands.specs.declared.works.Work.{Work}
use Rattle.sb_commands.specs.declared.works.Work.TheVariants.{Plain, Threaded}

-- a command: what it does, and the values of its arguments
pub record Command : Type 0 where
  pub work : Work
  pub values : Values

-- with the arguments after its name
abbrev pub with_values : Work → Result Values Fault → Result Command Fault
with_values work (Ok values) = Ok (record { work = work; values = values })
with_values work (Err fault) = Err fault

-- with its form, if it has one
abbrev pub with_form : List (List ℕ) → Option Form → Result Command Fault
with_form words None = Err UnknownCommand
with_form words (Some form) = with_values form.work (read_by form words)

-- the command that the arguments are, or the first fault: that of the command's name, then that of the arguments after it from left to right
abbrev pub command_of : List (List ℕ) → Result Command Fault
command_of [] = Err NoCommand
command_of (name ∷ words) = with_form words (form_by name)

-- whether there is a command, and it runs on threads
abbrev pub is_threaded : Work → Bool
is_threaded (Threaded work) = true
is_threaded _ = false

abbrev pub needs_threads : Result Command Fault → Bool
needs_threads (Ok command) = is_threaded command.work
needs_threads (Err fault) = false

-- ---- the files

-- what is at the three places
abbrev pub placed : Values → List (List ℕ)
placed values = values.first ∷ values.second ∷ values.third ∷ []

-- files, and what is at a place after them, if that is a file
abbrev pub with_file : Place → List ℕ → List (List ℕ) → List (List ℕ)
with_file (File name) word files = files ++ word ∷ []
with_file place word files = files

-- the same of a place that there may be
abbrev pub with_place : Option Place → List ℕ → List (List ℕ) → List (List ℕ)
with_place None word files = files
with_place (Some place) word files = with_file place word files

-- the names of the files at places
abbrev pub files_at : List Place → List (List ℕ) → List (List ℕ)
files_at [] words = []
files_at (place ∷ places) [] = []
files_at (File name ∷ places) (word ∷ words) = word ∷ files_at places words
files_at (Number number ∷ places) (word ∷ words) = files_at places words
files_at (Word name ∷ places) (word ∷ words) = files_at places words

-- the file that may be left out, in a form that has one
abbrev pub last_file : Option (List ℕ) → Option (List ℕ) → List (List ℕ)
last_file None value = []
last_file (Some name) value = option_to_list value

-- files, and after them that one
abbrev pub with_last_file : Option (List ℕ) → Option (List ℕ) → List (List ℕ) → List (List ℕ)
with_last_file None value files = files
with_last_file (Some name) None files = files
with_last_file (Some name) (Some value) files = files ++ value ∷ []

-- the names of the files of a command, in their order in the command
abbrev pub files_by : Form → Values → List (List ℕ)
files_by form values = files_at form.places (placed values) ++ last_file form.last values.last

abbrev pub files_of : Command → List (List ℕ)
files_of command = files_by (form_with command.work) command.values

-- a command that runs without threads, and one that runs on threads, by its values
abbrev pub plain : PlainWork → Values → Command
plain work values = record { work = Plain work; values = values }

abbrev pub plain_files : PlainWork → Values → List (List ℕ)
plain_files work values = files_of (plain work values)

abbrev pub threaded : ThreadedWork → Values → Command
threaded work values = record { work = Threaded work; values = values }

abbrev pub threaded_files : ThreadedWork → Values → List (List ℕ)
threaded_files work values = files_of (threaded work values)

-- the name of a file that the program has, if one is given
abbrev pub named : Option (Bor (List ℕ)) → Option (List ℕ)
named file = option_map (λ name. name.now) file

-- the name of file n, from 1; nothing, if there is no such file
abbrev pub name_at : ℕ → List (List ℕ) → List ℕ
name_at n [] = []
name_at n (name ∷ names) = if n == 1 then name else name_at (n - 1) names

-- ---- the numbers

-- a number is not below the lowest and not above the highest of its place
abbrev pub IsWithin : Place → List ℕ → Type 0
IsWithin (File name) word = ⊤
IsWithin (Word name) word = ⊤
IsWithin (Number number) word = (number.low ≤ number_of word) × (number_of word ≤ number.high)

abbrev pub AreWithin : List Place → List (List ℕ) → Type 0
AreWithin [] words = ⊤
AreWithin (place ∷ places) [] = ⊤
AreWithin (place ∷ places) (word ∷ words) = IsWithin place word × AreWithin places words

-- and so is the number of an option that takes one, which it has if there is a default
abbrev pub IsKindWithin : Kind → Option ℕ → Option ℕ → Type 0
IsKindWithin Switch default value = ⊤
IsKindWithin (Takes number) None None = ⊤
IsKindWithin (Takes number) (Some default) None = ⊥
IsKindWithin (Takes number) default (Some value) = (number.low ≤ value) × (value ≤ number.high)

abbrev pub IsOptionWithin : Option Choice → Option ℕ → Type 0
IsOptionWithin None value = value ≡ None
IsOptionWithin (Some choice) value = IsKindWithin choice.kind choice.default value

-- the numbers of a command are within the bounds of its form
pub record HasNumbers (command : Command) : Type 0 where
  pub places : AreWithin (form_with command.work).places (placed command.values)
  pub first : IsOptionWithin (slice_get (form_with command.work).options 0) command.values.first_option
  pub second : IsOptionWithin (slice_get (form_with command.work).options 1) command.values.second_option

-- ---- arguments that are a command

-- the first argument is the name of a form, and those after it have values by it
abbrev pub IsCommandOf : Form → List (List ℕ) → Type 0
IsCommandOf form [] = ⊥
IsCommandOf form (name ∷ words) = (form_by name ≡ Some form) × IsOk (read_by form words)

-- they have these values
abbrev pub HasValues : Form → List (List ℕ) → Values → Type 0
HasValues form [] values = ⊥
HasValues form (name ∷ words) values = read_by form words ≡ Ok values

-- their values
abbrev pub no_values : Values
no_values = record { first = []; second = []; third = []; last = None; first_option = None; second_option = None }

abbrev pub values_or_none : Result Values Fault → Values
values_or_none (Ok values) = values
values_or_none (Err fault) = no_values

abbrev pub values_in : Form → List (List ℕ) → Values
values_in form [] = no_values
values_in form (name ∷ words) = values_or_none (read_by form words)

-- the command that they are
abbrev pub command_in : Form → List (List ℕ) → Command
command_in form words = record { work = form.work; values = values_in form words }
