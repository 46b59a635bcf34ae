-- The message of arguments that are no command.
use Rattle.std.specs.Prelude.{ℕ, List, [], ◌∷◌, ◌++◌, ◌||◌, Bool, drop, slice_get, Option, None, Some, codes, nat_eq, if◌then◌else◌}
use Rattle.std.specs.Fmt.{decimal}
use Rattle.std.specs.Cmp.Lexicographic.{pointwise}
use Rattle.std.specs.List.{flat_map}
use Rattle.sb_glyphs.specs.Glyphs.{shown_bytes}
use Rattle.sb_glyphs.specs.Tokens.{quoted_bytes}
use Rattle.sb_text.specs.MissingTexts.{or_empty}
use Rattle.sb_commands.specs.Forms.{Bounded, Choice, Form, Kind, Place, Switch, Takes, form_by, forms}
use Rattle.sb_commands.specs.Usage.{Fault, NotUtf8, NoCommand, UnknownCommand, UnknownOption, OptionTwice, OptionBetween, NoOptionNumber, BadOptionNumber, NoFileName, BadNumber, ExtraWord, Missing, place_name}

-- ---- the usage line

-- ` NAME`
abbrev pub place_text : Place → List ℕ
place_text place = 32 ∷ place_name place

-- ` [NAME]`
abbrev pub last_text : Option (List ℕ) → List ℕ
last_text None = []
last_text (Some name) = codes " [" ++ name ++ codes "]"

-- ` [--FLAG N]`, or ` [--FLAG]` of a switch
abbrev pub kind_text : Kind → List ℕ
kind_text Switch = []
kind_text (Takes number) = 32 ∷ number.name

abbrev pub choice_text : Choice → List ℕ
choice_text choice = codes " [--" ++ choice.flag ++ kind_text choice.kind ++ codes "]"

-- `replay POLICY SCRIPT [SCHEDULE]`
abbrev pub form_text : Form → List ℕ
form_text form = form.name ++ flat_map place_text form.places ++ last_text form.last ++ flat_map choice_text form.options

-- one form after another
abbrev pub next_form_text : Form → List ℕ
next_form_text form = codes ", " ++ form_text form

abbrev pub forms_text : List Form → List ℕ
forms_text [] = []
forms_text (form ∷ rest) = form_text form ++ flat_map next_form_text rest

abbrev pub usage_line : List ℕ
usage_line = codes "sandbox: usage: " ++ forms_text forms ++ codes "\n"

-- ---- what was wrong

-- the argument at a place, as it is shown
abbrev pub word_at : ℕ → List (List ℕ) → List ℕ
word_at n words = or_empty (slice_get words n)

abbrev pub quoted_word : ℕ → List (List ℕ) → List ℕ
quoted_word n words = quoted_bytes (word_at n words)

-- `COMMAND: `
abbrev pub command_text : List (List ℕ) → List ℕ
command_text words = shown_bytes (word_at 0 words) ++ codes ": "

-- ` is not a number from LOW to HIGH`
abbrev pub bounds_text : Bounded → List ℕ
bounds_text number = codes " is not a number from " ++ decimal number.low ++ codes " to " ++ decimal number.high

-- words and an argument
abbrev pub unknown_text : List ℕ → ℕ → List (List ℕ) → List ℕ
unknown_text before at words = before ++ quoted_word at words

-- the command, words, and an argument
abbrev pub argument_text : List (List ℕ) → List ℕ → ℕ → List ℕ
argument_text words before at = command_text words ++ before ++ quoted_word at words

-- `--help`, `-h` or `--version`
abbrev pub is_flag : List ℕ → Bool
is_flag word = pointwise nat_eq word (codes "--help") || pointwise nat_eq word (codes "-h") || pointwise nat_eq word (codes "--version")

-- of two arguments and more, of which the first is no command: after `help` comes the name of one, alone; after a flag that is asked alone comes nothing
abbrev pub topic_text : Option Form → List (List ℕ) → List ℕ
topic_text None words = argument_text words (codes "unknown command ") 1
topic_text (Some form) words = argument_text words (codes "extra argument ") 2

abbrev pub first_text : List ℕ → List ℕ → List (List ℕ) → List ℕ
first_text first second words =
    if pointwise nat_eq first (codes "help") then topic_text (form_by second) words
    else (if is_flag first then argument_text words (codes "extra argument ") 1 else unknown_text (codes "unknown command ") 0 words)

-- of arguments of which the first is no command, with the second, if there is one
abbrev pub second_text : Option (List ℕ) → List (List ℕ) → List ℕ
second_text None words = unknown_text (codes "unknown command ") 0 words
second_text (Some second) words = first_text (word_at 0 words) second words

abbrev pub no_command_text : List (List ℕ) → List ℕ
no_command_text words = second_text (slice_get words 1) words

-- the command, and a name between words
abbrev pub name_text : List (List ℕ) → List ℕ → List ℕ → List ℕ → List ℕ
name_text words before name after = command_text words ++ before ++ name ++ after

-- the command, a name, the argument that is not what the name means, and why
abbrev pub wrong_text : List (List ℕ) → List ℕ → ℕ → List ℕ → List ℕ
wrong_text words name at why = name_text words [] name (codes ": ") ++ quoted_word at words ++ why

-- `--FLAG: `
abbrev pub flag_text : List ℕ → List ℕ
flag_text flag = codes "--" ++ flag ++ codes ": "

-- the number of an option, and what is wrong with it
abbrev pub number_text : List ℕ → Bounded → List ℕ → List ℕ
number_text flag number why = flag_text flag ++ number.name ++ why

abbrev pub fault_text : Fault → List (List ℕ) → List ℕ
fault_text NotUtf8 words = codes "an argument is not UTF-8"
fault_text NoCommand words = codes "a command is missing"
fault_text UnknownCommand words = no_command_text words
fault_text (UnknownOption at) words = argument_text words (codes "unknown option ") at
fault_text (OptionTwice at flag) words = name_text words (codes "--") flag (codes " is given twice")
fault_text (OptionBetween at flag) words = name_text words (codes "--") flag (codes " is not allowed between the files")
fault_text (NoOptionNumber flag number) words = number_text flag number (codes " is missing")
fault_text (BadOptionNumber at skipped flag number) words = flag_text flag ++ quoted_bytes (drop skipped (word_at at words)) ++ bounds_text number
fault_text (NoFileName at name) words = wrong_text words name at (codes " is not a file name")
fault_text (BadNumber at number) words = wrong_text words number.name at (bounds_text number)
fault_text (ExtraWord at) words = argument_text words (codes "extra argument ") at
fault_text (Missing name) words = name_text words [] name (codes " is missing")

-- ---- what to write

-- the form of the command that is named and how to ask for its help, or how to ask for all
abbrev pub advice : Option Form → List ℕ
advice None = codes "  sandbox help\n"
advice (Some form) = codes "  sandbox " ++ form_text form ++ codes "\n  sandbox help " ++ form.name ++ codes "\n"

-- what was wrong, what to write, and last the usage line
abbrev pub usage_message : Fault → List (List ℕ) → List ℕ
usage_message fault words = codes "sandbox: " ++ fault_text fault words ++ codes "\n" ++ advice (form_by (word_at 0 words)) ++ usage_line
