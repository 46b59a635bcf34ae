-- The message of arguments that are no command is clean.
use Rattle.std.proofs.Common.{◌≡◌, ℕ, suc, ◌-◌, ◌==◌, Bool, true, false, cond, ◌&&◌, List, [], ◌∷◌, ◌++◌, length, drop, Option, None, Some, codes, nat_eq, refl, subst, sym, inl, inr}
use Rattle.std.specs.Prelude.{⊤, zero, slice_get, Result, Ok, Err}
use Rattle.std.specs.List.{list_all}
use Rattle.std.specs.Cmp.Lexicographic.{pointwise}
use Rattle.std.specs.Fmt.{decimal}
use Rattle.sb_glyphs.proofs.CleanLaws.{Spelled, is_plain, clean_of, both, three, four, five, nothing, plain, decimal_clean, bytes_clean, quoted_bytes_clean, feed}
use Rattle.sb_commands.proofs.Listed.{form_is, is_plain_choice, is_plain_form, is_plain_kind, is_plain_name, is_plain_place, plain_form}
use Rattle.sb_commands.proofs.ReadSteps.{both as and_both, gave, with_end, with_last, with_options, with_places}
use Rattle.sb_commands.specs.declared.works.PlainWork.TheVariants.{Check}
use Rattle.sb_commands.specs.declared.works.ThreadedWork.TheVariants.{Run}
use Rattle.sb_commands.specs.declared.works.Work.{Work}
use Rattle.sb_commands.specs.declared.works.Work.TheVariants.{Plain, Threaded}
use Rattle.sb_glyphs.specs.CleanTexts.{IsClean}
use Rattle.sb_glyphs.specs.Tokens.{quoted_bytes}
use Rattle.sb_commands.specs.Commands.{Command, with_values, with_form, command_of}
use Rattle.sb_commands.specs.Forms.{Bounded, Choice, Form, Kind, Place, File, Number, Switch, Takes, Word, form_by, form_with}
use Rattle.sb_commands.specs.NumberWords.{is_number}
use Rattle.sb_text.specs.Steps.{◌>>=◌}
use Rattle.sb_commands.specs.Usage.{Fault, NotUtf8, NoCommand, UnknownCommand, UnknownOption, OptionTwice, OptionBetween, NoOptionNumber, BadOptionNumber, NoFileName, BadNumber, ExtraWord, Missing, Given, Value, Values, FlagWord, Apart, Joined, Last, Other, flag_word, Cut, cut_all, cut_apart, cut_found, cut_new, cut_option, cut_value, dash_by, dash_fault, extra_fault, flags_of, give, given_at, is_dash, is_given, kind_fault, none_given, option_from, option_of, place_fault, place_name, unless_fault, unless_other, cut_places, last_by, cut_last, value_by, values_by, values_unless, word_as, read_by}
use Rattle.sb_commands.specs.declared.usage.GivenOptions.{GivenOptions}
use Rattle.sb_commands.specs.UsageLaws.{UsageMessagesAreClean}
use Rattle.sb_commands.specs.UsageMessages.{word_at, quoted_word, command_text, bounds_text, name_text, wrong_text, flag_text, number_text, fault_text, form_text, unknown_text, argument_text, is_flag, topic_text, first_text, second_text, no_command_text, advice, usage_line, usage_message}

-- ---- what is spelled by clean characters in a fault

abbrev HasCleanNumber : Bounded → Type 0
HasCleanNumber number = Spelled number.name

abbrev HasCleanKind : Kind → Type 0
HasCleanKind Switch = ⊤
HasCleanKind (Takes number) = HasCleanNumber number

abbrev HasCleanChoice : Choice → Type 0
HasCleanChoice choice = Spelled choice.flag × HasCleanKind choice.kind

abbrev HasCleanNames : Fault → Type 0
HasCleanNames NotUtf8 = ⊤
HasCleanNames NoCommand = ⊤
HasCleanNames UnknownCommand = ⊤
HasCleanNames (UnknownOption at) = ⊤
HasCleanNames (OptionTwice at flag) = Spelled flag
HasCleanNames (OptionBetween at flag) = Spelled flag
HasCleanNames (NoOptionNumber flag number) = Spelled flag × HasCleanNumber number
HasCleanNames (BadOptionNumber at skipped flag number) = Spelled flag
HasCleanNames (NoFileName at name) = Spelled name
HasCleanNames (BadNumber at number) = HasCleanNumber number
HasCleanNames (ExtraWord at) = ⊤
HasCleanNames (Missing name) = Spelled name

-- ---- the text of a fault

command_clean : (words : List (List ℕ)) → Spelled (command_text words)
command_clean words = both _ (codes ": ") (bytes_clean (word_at 0 words)) (plain (codes ": ") refl)

bounds_clean : (number : Bounded) → Spelled (bounds_text number)
bounds_clean number =
    four (codes " is not a number from ") (decimal number.low) (codes " to ") (decimal number.high) (plain (codes " is not a number from ") refl)
    (decimal_clean number.low) (plain (codes " to ") refl) (decimal_clean number.high)

flag_clean : (flag : List ℕ) → Spelled flag → Spelled (flag_text flag)
flag_clean flag h = three (codes "--") flag (codes ": ") (plain (codes "--") refl) h (plain (codes ": ") refl)

name_clean : (words : List (List ℕ)) (before name after : List ℕ) → Spelled before → Spelled name → Spelled after
    → Spelled (command_text words ++ before ++ name ++ after)
name_clean words before name after hb hn ha = four (command_text words) before name after (command_clean words) hb hn ha

wrong_clean : (words : List (List ℕ)) (name : List ℕ) (at : ℕ) (why : List ℕ) → Spelled name → Spelled why → Spelled (wrong_text words name at why)
wrong_clean words name at why hn hw =
    three (name_text words [] name (codes ": ")) (quoted_word at words) why
    (name_clean words [] name (codes ": ") nothing hn (plain (codes ": ") refl)) (quoted_bytes_clean (word_at at words)) hw

number_clean : (flag : List ℕ) (number : Bounded) (why : List ℕ) → Spelled flag → HasCleanNumber number → Spelled why → Spelled (number_text flag number why)
number_clean flag number why h hn hw = three (flag_text flag) number.name why (flag_clean flag h) hn hw

argument_clean : (words : List (List ℕ)) (before : List ℕ) (at : ℕ) → Spelled before → Spelled (argument_text words before at)
argument_clean words before at h = three (command_text words) before (quoted_word at words) (command_clean words) h (quoted_bytes_clean (word_at at words))

unknown_clean : (words : List (List ℕ)) → Spelled (unknown_text (codes "unknown command ") 0 words)
unknown_clean words = both (codes "unknown command ") (quoted_word 0 words) (plain (codes "unknown command ") refl) (quoted_bytes_clean (word_at 0 words))

topic_clean : (form : Option Form) (words : List (List ℕ)) → Spelled (topic_text form words)
topic_clean None words = argument_clean words (codes "unknown command ") 1 (plain (codes "unknown command ") refl)
topic_clean (Some form) words = argument_clean words (codes "extra argument ") 2 (plain (codes "extra argument ") refl)

one_of : (b : Bool) (x y : List ℕ) → Spelled x → Spelled y → Spelled (cond b x y)
one_of true x y hx hy = hx
one_of false x y hx hy = hy

first_clean : (first second : List ℕ) (words : List (List ℕ)) → Spelled (first_text first second words)
first_clean first second words =
    one_of (pointwise nat_eq first (codes "help")) _ _ (topic_clean (form_by second) words)
    (one_of (is_flag first) _ _ (argument_clean words (codes "extra argument ") 1 (plain (codes "extra argument ") refl)) (unknown_clean words))

second_clean : (second : Option (List ℕ)) (words : List (List ℕ)) → Spelled (second_text second words)
second_clean None words = unknown_clean words
second_clean (Some second) words = first_clean (word_at 0 words) second words

no_command_clean : (words : List (List ℕ)) → Spelled (no_command_text words)
no_command_clean words = second_clean (slice_get words 1) words

text_clean : (fault : Fault) (words : List (List ℕ)) → HasCleanNames fault → Spelled (fault_text fault words)
text_clean NotUtf8 words h = plain (codes "an argument is not UTF-8") refl
text_clean NoCommand words h = plain (codes "a command is missing") refl
text_clean UnknownCommand words h = no_command_clean words
text_clean (UnknownOption at) words h = argument_clean words (codes "unknown option ") at (plain (codes "unknown option ") refl)
text_clean (OptionTwice at flag) words h =
    name_clean words (codes "--") flag (codes " is given twice") (plain (codes "--") refl) h (plain (codes " is given twice") refl)
text_clean (OptionBetween at flag) words h =
    name_clean words (codes "--") flag (codes " is not allowed between the files") (plain (codes "--") refl) h
    (plain (codes " is not allowed between the files") refl)
text_clean (NoOptionNumber flag number) words h = number_clean flag number (codes " is missing") h.0 h.1 (plain (codes " is missing") refl)
text_clean (BadOptionNumber at skipped flag number) words h =
    three (flag_text flag) (quoted_bytes (drop skipped (word_at at words))) (bounds_text number) (flag_clean flag h)
    (quoted_bytes_clean (drop skipped (word_at at words))) (bounds_clean number)
text_clean (NoFileName at name) words h = wrong_clean words name at (codes " is not a file name") h (plain (codes " is not a file name") refl)
text_clean (BadNumber at number) words h = wrong_clean words number.name at (bounds_text number) h (bounds_clean number)
text_clean (ExtraWord at) words h = argument_clean words (codes "extra argument ") at (plain (codes "extra argument ") refl)
text_clean (Missing name) words h = name_clean words [] name (codes " is missing") nothing h (plain (codes " is missing") refl)

line_clean : Spelled usage_line
line_clean = plain usage_line refl

-- ---- what to write

-- the text of each form of the table is plain
form_text_plain : (work : Work) → list_all is_plain (form_text (form_with work)) ≡ true
form_text_plain (Plain Check) = refl
form_text_plain (Threaded Run) = refl
form_text_plain work = refl

name_plain : (work : Work) → list_all is_plain (form_with work).name ≡ true
name_plain (Plain Check) = refl
name_plain (Threaded Run) = refl
name_plain work = refl

advice_clean : (name : List ℕ) → Spelled (advice (form_by name))
advice_clean name = by (form_by name) refl
  where
    by : (form : Option Form) → form_by name ≡ form → Spelled (advice form)
    by None e = both (codes "  sandbox help") (codes "\n") (plain (codes "  sandbox help") refl) feed
    by (Some form) e =
        let is = form_is name form e in
        five (codes "  sandbox ") (form_text form) (codes "\n  sandbox help ") form.name (codes "\n") (plain (codes "  sandbox ") refl)
        (plain (form_text form) (subst (λ f. list_all is_plain (form_text f) ≡ true) is (form_text_plain form.work)))
        (both (codes "\n") (codes "  sandbox help ") feed (plain (codes "  sandbox help ") refl))
        (plain form.name (subst (λ f. list_all is_plain f.name ≡ true) is (name_plain form.work))) feed

message_clean : (fault : Fault) (words : List (List ℕ)) → HasCleanNames fault → IsClean (usage_message fault words)
message_clean fault words h =
    clean_of (usage_message fault words)
    (five (codes "sandbox: ") (fault_text fault words) (codes "\n") (advice (form_by (word_at 0 words))) usage_line (plain (codes "sandbox: ") refl)
    (text_clean fault words h) feed (advice_clean (word_at 0 words)) line_clean)

-- ---- the faults of a form

-- a form with clean names
abbrev HasCleanOptions : List Choice → Type 0
HasCleanOptions [] = ⊤
HasCleanOptions (choice ∷ choices) = HasCleanChoice choice × HasCleanOptions choices

abbrev HasCleanLast : Option (List ℕ) → Type 0
HasCleanLast None = ⊤
HasCleanLast (Some name) = Spelled name

abbrev HasCleanPlaces : List Place → Type 0
HasCleanPlaces [] = ⊤
HasCleanPlaces (place ∷ places) = Spelled (place_name place) × HasCleanPlaces places

record IsCleanForm (form : Form) : Type 0 where
  places : HasCleanPlaces form.places
  last : HasCleanLast form.last
  options : HasCleanOptions form.options

-- a result whose fault, if it is one, has clean names
abbrev Fine : {A : Type 0} → Result A Fault → Type 0
Fine (Ok x) = ⊤
Fine (Err fault) = HasCleanNames fault

abbrev FineFault : Option Fault → Type 0
FineFault None = ⊤
FineFault (Some fault) = HasCleanNames fault

tested : {A : Type 0} (b : Bool) (x y : Result A Fault) → Fine x → Fine y → Fine (cond b x y)
tested true x y hx hy = hx
tested false x y hx hy = hy

fault_tested : (b : Bool) (x y : Option Fault) → FineFault x → FineFault y → FineFault (cond b x y)
fault_tested true x y hx hy = hx
fault_tested false x y hx hy = hy

-- an option that is found has clean names
abbrev FineFound : Option (ℕ × Choice) → Type 0
FineFound None = ⊤
FineFound (Some found) = HasCleanChoice found.1

unless_other_fine : (found : FlagWord) (n : ℕ) (choice : Choice) (rest : Option (ℕ × Choice)) → HasCleanChoice choice → FineFound rest
    → FineFound (unless_other found n choice rest)
unless_other_fine Apart n choice rest h k = h
unless_other_fine (Joined value) n choice rest h k = h
unless_other_fine Other n choice rest h k = k

found_clean : (n : ℕ) (choices : List Choice) (word : List ℕ) → HasCleanOptions choices → FineFound (option_from n choices word)
found_clean n [] word h = tt
found_clean n (choice ∷ choices) word h =
    unless_other_fine (word_as choice word) n choice (option_from (suc n) choices word) h.0 (found_clean (suc n) choices word h.1)

apart_fine : (flag : List ℕ) (number : Bounded) (total : ℕ) (words : List (List ℕ)) → Spelled flag → HasCleanNumber number → Fine (cut_apart flag number total words)
apart_fine flag number total [] h hn = (h, hn)
apart_fine flag number total (word ∷ words) h hn = tested (is_number number.low number.high word) _ _ tt h

value_fine : (flag : List ℕ) (kind : Kind) (total : ℕ) (word : List ℕ) (words : List (List ℕ)) (found : FlagWord) → Spelled flag → HasCleanKind kind
    → Fine (value_by flag kind total word words found)
value_fine flag (Takes number) total word words Apart h hk = apart_fine flag number total words h hk
value_fine flag (Takes number) total word words (Joined value) h hk = tested (is_number number.low number.high value) _ _ tt h
value_fine flag (Takes number) total word words Other h hk = tt
value_fine flag Switch total word words Apart h hk = tt
value_fine flag Switch total word words (Joined value) h hk = tt
value_fine flag Switch total word words Other h hk = tt

gave_fine : (given : Given) (n : ℕ) (value : Value) → Fine value → Fine (gave given n value)
gave_fine given n (Ok cut) h = tt
gave_fine given n (Err fault) h = h

new_fine : (given : Given) (total : ℕ) (words : List (List ℕ)) (n : ℕ) (choice : Choice) (word : List ℕ) (later : List (List ℕ)) (before : Option (List ℕ))
    → HasCleanChoice choice → Fine (cut_new given total words n choice word later before)
new_fine given total words n choice word later (Some before) h = tt
new_fine given total words n choice word later None h =
    gave_fine given n (cut_value choice total word later) (value_fine choice.flag choice.kind total word later (flag_word choice.flag word) h.0 h.1)

found_fine : (given : Given) (total : ℕ) (word : List ℕ) (later : List (List ℕ)) (found : Option (ℕ × Choice)) → FineFound found
    → Fine (cut_found given total word later found)
found_fine given total word later None h = tt
found_fine given total word later (Some found) h = new_fine given total (word ∷ later) found.0 found.1 word later (given_at found.0 given) h

option_fine : (choices : List Choice) (given : Given) (total : ℕ) (words : List (List ℕ)) → HasCleanOptions choices → Fine (cut_option choices given total words)
option_fine choices given total [] h = tt
option_fine choices given total (word ∷ words) h = found_fine given total word words (option_of choices word) (found_clean 0 choices word h)

all_fine : (choices : List Choice) (given : Given) (total : ℕ) (words : List (List ℕ)) → HasCleanOptions choices → Fine (cut_all choices given total words)
all_fine [] given total words h = tt
all_fine (choice ∷ []) given total words h = option_fine (choice ∷ []) given total words h
all_fine (choice ∷ other ∷ choices) given total words h =
    by (cut_option (choice ∷ other ∷ choices) given total words) (option_fine (choice ∷ other ∷ choices) given total words h)
  where
    by : (cut : Cut) → Fine cut → Fine (cut >>= λ c. cut_option (choice ∷ other ∷ choices) c.0 total c.1)
    by (Ok cut) k = option_fine (choice ∷ other ∷ choices) cut.0 total cut.1 h
    by (Err fault) k = k

either : (b : Bool) (x y : Fault) → HasCleanNames x → HasCleanNames y → HasCleanNames (cond b x y)
either true x y hx hy = hx
either false x y hx hy = hy

dash_by_fine : (given : GivenOptions) (at : ℕ) (found : Option (ℕ × Choice)) → FineFound found → HasCleanNames (dash_by given at found)
dash_by_fine given at None h = tt
dash_by_fine given at (Some found) h = either (is_given found.0 given) (OptionTwice at found.1.flag) (OptionBetween at found.1.flag) h.0 h.0

dash_fine : (choices : List Choice) (given : GivenOptions) (at : ℕ) (word : List ℕ) → HasCleanOptions choices → HasCleanNames (dash_fault choices given at word)
dash_fine choices given at word h = dash_by_fine given at (option_of choices word) (found_clean 0 choices word h)

kind_fine : (place : Place) (at : ℕ) (word : List ℕ) → Spelled (place_name place) → FineFault (kind_fault place at word)
kind_fine (File name) at [] h = h
kind_fine (File name) at (b ∷ bs) h = tt
kind_fine (Word name) at word h = tt
kind_fine (Number number) at word h = fault_tested (is_number number.low number.high word) None (Some (BadNumber at number)) tt h

place_fine : (choices : List Choice) (given : GivenOptions) (at : ℕ) (place : Place) (word : List ℕ) → HasCleanOptions choices → Spelled (place_name place)
    → FineFault (place_fault choices given at place word)
place_fine choices given at place word ho hp =
    fault_tested (is_dash word) (Some (dash_fault choices given at word)) (kind_fault place at word) (dash_fine choices given at word ho) (kind_fine place at word hp)

unless_fine : (fault : Option Fault) (result : Result (List (List ℕ)) Fault) → FineFault fault → Fine result → Fine (unless_fault fault result)
unless_fine None result hf hr = hr
unless_fine (Some fault) result hf hr = hf

places_fine : (choices : List Choice) (given : GivenOptions) (total : ℕ) (places : List Place) (words : List (List ℕ)) → HasCleanOptions choices → HasCleanPlaces places
    → Fine (cut_places choices given total places words)
places_fine choices given total [] words ho hp = tt
places_fine choices given total (place ∷ places) [] ho hp = hp.0
places_fine choices given total (place ∷ places) (word ∷ words) ho hp =
    unless_fine (place_fault choices given (total - length (word ∷ words)) place word) (cut_places choices given total places words)
    (place_fine choices given (total - length (word ∷ words)) place word ho hp.0) (places_fine choices given total places words ho hp.1)

last_by_fine : (name : List ℕ) (at : ℕ) (word : List ℕ) (words : List (List ℕ)) → Spelled name → Fine (last_by name at word words)
last_by_fine name at [] words h = h
last_by_fine name at (b ∷ bs) words h = tested (b == 45) _ _ tt tt

last_fine : (last : Option (List ℕ)) (total : ℕ) (words : List (List ℕ)) → HasCleanLast last → Fine (cut_last last total words)
last_fine None total words h = tt
last_fine (Some name) total [] h = tt
last_fine (Some name) total (word ∷ words) h = last_by_fine name (total - length (word ∷ words)) word words h

extra_fine : (choices : List Choice) (given : GivenOptions) (total : ℕ) (words : List (List ℕ)) → HasCleanOptions choices
    → FineFault (extra_fault choices given total words)
extra_fine choices given total [] h = tt
extra_fine choices given total (word ∷ words) h =
    let at = total - length (word ∷ words) in
    either (is_dash word) (dash_fault choices given at word) (ExtraWord at) (dash_fine choices given at word h) tt

values_fine : (fault : Option Fault) (values : Values) → FineFault fault → Fine (values_unless fault values)
values_fine None values h = tt
values_fine (Some fault) values h = h

with_end_fine : (form : Form) (total : ℕ) (placed : List (List ℕ)) (last : Option (List ℕ)) (cut : Cut) → IsCleanForm form → Fine cut
    → Fine (with_end form total placed last cut)
with_end_fine form total placed last (Err fault) f h = h
with_end_fine form total placed last (Ok cut) f h =
    values_fine (extra_fault form.options (flags_of cut.0) total cut.1) (values_by form placed last cut.0)
    (extra_fine form.options (flags_of cut.0) total cut.1 f.options)

with_last_fine : (form : Form) (total : ℕ) (before : Given) (placed : List (List ℕ)) (cut : Last) → IsCleanForm form → Fine cut
    → Fine (with_last form total before placed cut)
with_last_fine form total before placed (Err fault) f h = h
with_last_fine form total before placed (Ok cut) f h =
    with_end_fine form total placed cut.0 (cut_all form.options before total cut.1) f (all_fine form.options before total cut.1 f.options)

with_places_fine : (form : Form) (total : ℕ) (before : Given) (placed : List (List ℕ)) (cut : Result (List (List ℕ)) Fault) → IsCleanForm form → Fine cut
    → Fine (with_places form total before placed cut)
with_places_fine form total before placed (Err fault) f h = h
with_places_fine form total before placed (Ok words) f h = with_last_fine form total before placed (cut_last form.last total words) f (last_fine form.last total words f.last)

with_options_fine : (form : Form) (total : ℕ) (cut : Cut) → IsCleanForm form → Fine cut → Fine (with_options form total cut)
with_options_fine form total (Err fault) f h = h
with_options_fine form total (Ok cut) f h =
    with_places_fine form total cut.0 cut.1 (cut_places form.options (flags_of cut.0) total form.places cut.1) f
    (places_fine form.options (flags_of cut.0) total form.places cut.1 f.options f.places)

read_fine : (form : Form) (words : List (List ℕ)) → IsCleanForm form → Fine (read_by form words)
read_fine form words f =
    with_options_fine form (suc (length words)) (cut_all form.options none_given (suc (length words)) words) f
    (all_fine form.options none_given (suc (length words)) words f.options)

-- ---- the forms

places_clean : (places : List Place) → list_all is_plain_place places ≡ true → HasCleanPlaces places
places_clean [] h = tt
places_clean (place ∷ places) h =
    let parts = and_both (is_plain_place place) (list_all is_plain_place places) h in (plain (place_name place) parts.0, places_clean places parts.1)

last_clean : (last : Option (List ℕ)) → is_plain_name last ≡ true → HasCleanLast last
last_clean None h = tt
last_clean (Some name) h = plain name h

kind_clean : (kind : Kind) → is_plain_kind kind ≡ true → HasCleanKind kind
kind_clean Switch h = tt
kind_clean (Takes number) h = plain number.name h

options_clean : (options : List Choice) → list_all is_plain_choice options ≡ true → HasCleanOptions options
options_clean [] h = tt
options_clean (choice ∷ options) h =
    let parts = and_both (is_plain_choice choice) (list_all is_plain_choice options) h in
    let names = and_both (list_all is_plain choice.flag) (is_plain_kind choice.kind) parts.0 in
    ((plain choice.flag names.0, kind_clean choice.kind names.1), options_clean options parts.1)

form_clean : (form : Form) → is_plain_form form ≡ true → IsCleanForm form
form_clean form h =
    let parts = and_both (list_all is_plain_place form.places) (is_plain_name form.last && list_all is_plain_choice form.options) h in
    let others = and_both (is_plain_name form.last) (list_all is_plain_choice form.options) parts.1 in
    record { places = places_clean form.places parts.0; last = last_clean form.last others.0; options = options_clean form.options others.1 }

abbrev FineForm : Option Form → Type 0
FineForm None = ⊤
FineForm (Some form) = IsCleanForm form

forms_clean : (name : List ℕ) → FineForm (form_by name)
forms_clean name = by (form_by name) refl
  where
    by : (form : Option Form) → form_by name ≡ form → FineForm form
    by None e = tt
    by (Some form) e = form_clean form (subst (λ f. is_plain_form f ≡ true) (form_is name form e) (plain_form form.work))

-- ---- the arguments

named_fine : (work : Work) (values : Result Values Fault) → Fine values → Fine (with_values work values)
named_fine work (Ok values) h = tt
named_fine work (Err fault) h = h

form_fine : (words : List (List ℕ)) (form : Option Form) → FineForm form → Fine (with_form words form)
form_fine words None h = tt
form_fine words (Some form) h = named_fine form.work (read_by form words) (read_fine form words h)

command_fine : (words : List (List ℕ)) → Fine (command_of words)
command_fine [] = tt
command_fine (name ∷ words) = form_fine words (form_by name) (forms_clean name)

pub usage_messages_clean : UsageMessagesAreClean
usage_messages_clean words fault (inl is) = message_clean fault words (subst HasCleanNames (sym is) tt)
usage_messages_clean words fault (inr is) = message_clean fault words (subst (Fine {A = Command}) is (command_fine words))
