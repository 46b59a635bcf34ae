-- The arguments that ask the program about itself.
use Rattle.std.specs.Prelude.{ℕ, Bool, ◌||◌, List, [], ◌∷◌, ◌++◌, Option, None, Some, if◌then◌else◌, nat_eq, codes, option_map}
use Rattle.std.specs.Cmp.Lexicographic.{pointwise}
use Rattle.std.specs.List.{flat_map, list_any}
use Rattle.sb_commands.specs.Forms.{Form, Place, form_by, form_of, forms}
use Rattle.sb_commands.specs.Usage.{place_name}
use Rattle.sb_commands.specs.UsageMessages.{form_text}
use Rattle.sb_commands.specs.declared.help_texts.TheConstants as texts
use Rattle.sb_commands.specs.declared.inquiries.Inquiry.{Inquiry}
use Rattle.sb_commands.specs.declared.inquiries.Inquiry.TheVariants as inquiry

-- what is asked: how the program is used, how one command is, or the version
pub data Asked : Type 0 where
  Help : Asked
  HelpOf : Form → Asked
  Version : Asked

-- `--help` and `-h`
abbrev pub is_help_flag : List ℕ → Bool
is_help_flag word = pointwise nat_eq word (codes "--help") || pointwise nat_eq word (codes "-h")

-- `help`, `--help`, `-h` or `--version`
abbrev pub inquiry_alone : List ℕ → Option Asked
inquiry_alone word =
    if pointwise nat_eq word (codes "help") || is_help_flag word then Some Help
    else (if pointwise nat_eq word (codes "--version") then Some Version else None)

-- the name of a command after `help`
abbrev pub named_help : List (List ℕ) → Option Asked
named_help (name ∷ []) = option_map HelpOf (form_by name)
named_help _ = None

-- `help COMMAND`, or `--help` or `-h` anywhere after the name of a command
abbrev pub inquiry_by : List ℕ → List (List ℕ) → Option Asked
inquiry_by first later =
    if pointwise nat_eq first (codes "help") then named_help later
    else (if list_any is_help_flag later then option_map HelpOf (form_by first) else None)

-- exactly these
abbrev pub asked_of : List (List ℕ) → Option Asked
asked_of [] = None
asked_of (word ∷ []) = inquiry_alone word
asked_of (first ∷ second ∷ more) = inquiry_by first (second ∷ more)

-- the program's own
abbrev pub asked : Inquiry → Asked
asked inquiry.Help = Help
asked (inquiry.HelpOf form) = HelpOf (form_of form)
asked inquiry.Version = Version

-- ---- the texts

-- a form and what the command does, in two lines
abbrev pub entry_text : Form → List ℕ
entry_text form = codes "  sandbox " ++ form_text form ++ codes "\n      " ++ form.does ++ codes "\n"

-- all commands, between two texts
abbrev pub commands_text : List ℕ → List ℕ → List ℕ
commands_text before after = before ++ flat_map entry_text forms ++ after

-- the help of the program: all commands, between what it is and what they have in common
abbrev pub help_text : List ℕ
help_text = commands_text texts.BEFORE.now texts.AFTER.now

-- a part of the help of a command, after an empty line
abbrev pub part_text : List ℕ → List ℕ
part_text part = codes "\n" ++ part

-- the faults of a file by its name in the forms, if it can have any
abbrev pub faults_of : List ℕ → List ℕ
faults_of name =
    if pointwise nat_eq name (codes "POLICY") then part_text texts.POLICY_FAULTS.now
    else (if pointwise nat_eq name (codes "SCRIPT") then part_text texts.SCRIPT_FAULTS.now
    else (if pointwise nat_eq name (codes "SCHEDULE") then part_text texts.SCHEDULE_FAULTS.now
    else (if pointwise nat_eq name (codes "LINKS") then part_text texts.LINKS_FAULTS.now
    else (if pointwise nat_eq name (codes "MOVES") then part_text texts.MOVES_FAULTS.now else []))))

abbrev pub place_faults : Place → List ℕ
place_faults place = faults_of (place_name place)

abbrev pub last_faults : Option (List ℕ) → List ℕ
last_faults None = []
last_faults (Some name) = faults_of name

-- the help of a command: its form, what it does, what there is to know, the faults of each of its files, and its last parts
abbrev pub command_help : Form → List ℕ
command_help form =
    codes "usage:\n" ++ entry_text form ++ part_text form.help.about ++ flat_map place_faults form.places ++ last_faults form.last
    ++ flat_map part_text form.help.after

-- what is answered
abbrev pub answer_text : Asked → List ℕ
answer_text Help = help_text
answer_text (HelpOf form) = command_help form
answer_text Version = texts.VERSION.now
