-- The command line of a form as the library sees it, and the values that it finds.
use Rattle.std.specs.Prelude.{ℕ, true, false, nat_eq, List, [], ◌∷◌, Option, Some, None, codes, if◌then◌else◌, slice_get}
use Rattle.std.specs.Cmp.Lexicographic.{pointwise}
use Rattle.clap.specs.Words.{App, Rule, Text, new_app, new_rule, with_rule}
use Rattle.clap.specs.declared.builder.ArgAction.{ArgAction}
use Rattle.clap.specs.declared.builder.ArgAction.TheVariants.{Set, SetTrue}
use Rattle.sb_text.specs.MissingTexts.{or_empty}
use Rattle.sb_commands.specs.Forms.{Choice, Form, Kind, Place, Switch, Takes}
use Rattle.sb_commands.specs.Usage.{Values, choice_number}

-- an argument that has to be there, or that may be left out, under the library's name for it
abbrev pub required_argument : Text → Rule
required_argument name = record (new_rule name) { required = true; action = Some Set }

abbrev pub optional_argument : Text → Rule
optional_argument name = record (new_rule name) { required = false; action = Some Set }

-- an option, under the library's name for it
abbrev pub action_of : Kind → ArgAction
action_of Switch = SetTrue
action_of (Takes number) = Set

abbrev pub option_argument : Text → Choice → Rule
option_argument name choice = record (new_rule name) { long = Some choice.flag; action = Some (action_of choice.kind) }

-- the names of the arguments at places
abbrev pub names_of : List Place → List Text
names_of [] = []
names_of (first ∷ []) = codes "first" ∷ []
names_of (first ∷ second ∷ []) = codes "first" ∷ codes "second" ∷ []
names_of (first ∷ second ∷ rest) = codes "first" ∷ codes "second" ∷ codes "third" ∷ []

-- a command line with arguments of these names that have to be there
abbrev pub with_required : List Text → App → App
with_required [] app = app
with_required (name ∷ names) app = with_required names (with_rule app (required_argument name))

-- with the file that may be left out
abbrev pub with_last : Option Text → App → App
with_last None app = app
with_last (Some name) app = with_rule app (optional_argument (codes "last"))

-- with the options
abbrev pub with_options : List Choice → App → App
with_options [] app = app
with_options (first ∷ []) app = with_rule app (option_argument (codes "first-option") first)
with_options (first ∷ second ∷ rest) app =
    with_rule (with_rule app (option_argument (codes "first-option") first)) (option_argument (codes "second-option") second)

-- the command line of a form
abbrev pub line_of : Form → App
line_of form = with_options form.options (with_last form.last (with_required (names_of form.places) (new_app (codes "sandbox"))))

-- the argument of an option: of a switch nothing, if it is set
abbrev pub set_word : Option Text → Option Text
set_word None = None
set_word (Some word) = if pointwise nat_eq word (codes "true") then Some [] else None

abbrev pub given_by : Kind → Option Text → Option Text
given_by Switch found = set_word found
given_by (Takes number) found = found

abbrev pub option_by : Option Choice → Option Text → Option ℕ
option_by None found = None
option_by (Some choice) found = choice_number choice (given_by choice.kind found)

-- the values by what is found under each name
abbrev pub found_values : Form → (Text → Option Text) → Values
found_values form found = record {
  first = or_empty (found (codes "first"));
  second = or_empty (found (codes "second"));
  third = or_empty (found (codes "third"));
  last = found (codes "last");
  first_option = option_by (slice_get form.options 0) (found (codes "first-option"));
  second_option = option_by (slice_get form.options 1) (found (codes "second-option"));
}
