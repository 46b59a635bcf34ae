-- What is written of a command is read back, and what is read can be written.
use Rattle.std.proofs.Common.{◌≡◌, ◌∙◌, refl, sym, ap, subst, codes, true, false, ℕ, ◌≤◌, ◌<◌, ◌^◌, ◌-◌, Bool, List, [], ◌∷◌, ◌++◌, Option, Some, None, nat_eq, take, drop, if◌then◌else◌, ◌&&◌, not, ◌==◌, true≢false, arith}
use Rattle.std.specs.Prelude.{⊤, Result, Ok, Err, nat_le, nat_lt, suc, length, option_to_list, slice_get, IsOkAnd}
use Rattle.std.specs.Fmt.{decimal}
use Rattle.std.specs.List.{list_all}
use Rattle.std.specs.Cmp.Lexicographic.{pointwise, bytes_decides}
use Rattle.std.proofs.lemmas.Bool.Decides.{nat_tests}
use Rattle.std.proofs.lemmas.List.{drop_all, take_all}
use Rattle.clap.specs.Words.{Text}
use Rattle.sb_text.specs.NumberLaws.{DecimalsAreRead}
use Rattle.sb_text.specs.Numbers.{decimal_of}
use Rattle.sb_commands.specs.CommandLaws.{IsMake, IsWritable, ReadCommandsAreWritable, WrittenCommandsAreRead, WrittenNumbersAreRead, is_empty, is_file_name, suit_places, suits, suits_kind, suits_last, suits_option, suits_place, written_option, written_places, written_values}
use Rattle.sb_commands.specs.Commands.{Command, command_of, placed, threaded, with_form, with_values}
use Rattle.sb_commands.specs.Forms.{Bounded, Choice, File, Form, Kind, Number, Place, Switch, Takes, Word, form_by, form_with}
use Rattle.sb_commands.specs.NumberWords.{is_number, is_within, number_of, number_or_zero}
use Rattle.sb_text.specs.Steps.{◌>>=◌}
use Rattle.sb_commands.specs.Usage.{Apart, BadNumber, BadOptionNumber, Cut, Fault, FlagWord, Given, Other, Value, Values, after_dashes, after_flag, at_place, cut_all, cut_found, cut_last, cut_places, dash_fault, flag_word, flags_of, give, is_dash, kind_fault, none_given, option_number, place_fault, read_after, read_by, unless_fault, unless_other, value_by, word_by}
use Rattle.sb_commands.specs.declared.usage.GivenOptions.{GivenOptions}
use Rattle.sb_commands.specs.declared.works.ThreadedWork.TheVariants.{Make}
use Rattle.sb_commands.proofs.Listed.{fits_kind, fits_options, form_is, is_regular, is_short, listed, regular, work_of}
use Rattle.sb_commands.proofs.NumberLaws.{joined, values_suit}
use Rattle.sb_commands.proofs.ReadSteps.{gave, IsPlainWord, both, number_is_plain, with_end, with_last, with_options, with_places}

-- ---- arguments that suit their places

name_is_plain : (word : Text) → is_file_name word ≡ true → IsPlainWord word
name_is_plain [] h = absurd (true≢false (sym h))
name_is_plain (b ∷ bs) h = record { b = b; bs = bs; word_is = refl; plain = by (b == 45) h }
  where
    by : (test : Bool) → not test ≡ true → test ≡ false
    by true h = absurd (true≢false (sym h))
    by false h = refl

no_dash : (word : Text) → IsPlainWord word → is_dash word ≡ false
no_dash word p = ap is_dash p.word_is ∙ p.plain

suited_no_dash : (place : Place) (word : Text) → suits_place place word ≡ true → is_dash word ≡ false
suited_no_dash (File name) word h = no_dash word (name_is_plain word h)
suited_no_dash (Number number) word h = no_dash word (number_is_plain number.low number.high word h)
suited_no_dash (Word name) word h = by (is_dash word) h
  where
    by : (test : Bool) → not test ≡ true → test ≡ false
    by true k = absurd (true≢false (sym k))
    by false k = refl

no_kind_fault : (place : Place) (at : ℕ) (word : Text) → suits_place place word ≡ true → kind_fault place at word ≡ None
no_kind_fault (File name) at [] h = absurd (true≢false (sym h))
no_kind_fault (File name) at (b ∷ bs) h = refl
no_kind_fault (Word name) at word h = refl
no_kind_fault (Number number) at word h = ap (λ (test : Bool). if test then None else Some (BadNumber at number)) h

no_place_fault : (options : List Choice) (given : GivenOptions) (at : ℕ) (place : Place) (word : Text) → suits_place place word ≡ true
    → place_fault options given at place word ≡ None
no_place_fault options given at place word h =
    ap (λ (test : Bool). if test then Some (dash_fault options given at word) else kind_fault place at word) (suited_no_dash place word h)
    ∙ no_kind_fault place at word h

-- ---- places

-- the arguments at places are taken
places_back : (options : List Choice) (given : GivenOptions) (total : ℕ) (places : List Place) (words rest : List Text) → suit_places places words ≡ true
    → cut_places options given total places (written_places places words ++ rest) ≡ Ok rest
places_back options given total [] words rest h = refl
places_back options given total (place ∷ places) [] rest h = absurd (true≢false (sym h))
places_back options given total (place ∷ places) (word ∷ words) rest h =
    let parts = both (suits_place place word) (suit_places places words) h in
    let left = written_places places words ++ rest in
    ap (λ (fault : Option Fault). unless_fault fault (cut_places options given total places left))
    (no_place_fault options given (total - length (word ∷ left)) place word parts.0)
    ∙ places_back options given total places words rest parts.1

nothing : (word : Text) → is_empty word ≡ true → [] ≡ word
nothing [] h = refl
nothing (b ∷ bs) h = absurd (true≢false (sym h))

-- and are found there
first_back : (places : List Place) (a b c : Text) (rest : List Text) → suit_places places (a ∷ b ∷ c ∷ []) ≡ true
    → at_place 0 places (written_places places (a ∷ b ∷ c ∷ []) ++ rest) ≡ a
first_back [] a b c rest h = nothing a (both (is_empty a) (list_all is_empty (b ∷ c ∷ [])) h).0
first_back (p ∷ places) a b c rest h = refl

second_back : (places : List Place) (a b c : Text) (rest : List Text) → suit_places places (a ∷ b ∷ c ∷ []) ≡ true
    → at_place 1 places (written_places places (a ∷ b ∷ c ∷ []) ++ rest) ≡ b
second_back [] a b c rest h = nothing b (both (is_empty b) (list_all is_empty (c ∷ [])) (both (is_empty a) (list_all is_empty (b ∷ c ∷ [])) h).1).0
second_back (p ∷ []) a b c rest h =
    nothing b (both (is_empty b) (list_all is_empty (c ∷ [])) (both (suits_place p a) (list_all is_empty (b ∷ c ∷ [])) h).1).0
second_back (p ∷ s ∷ places) a b c rest h = refl

third_back : (places : List Place) (a b c : Text) (rest : List Text) → suit_places places (a ∷ b ∷ c ∷ []) ≡ true
    → at_place 2 places (written_places places (a ∷ b ∷ c ∷ []) ++ rest) ≡ c
third_back [] a b c rest h =
    nothing c (both (is_empty c) true (both (is_empty b) (list_all is_empty (c ∷ [])) (both (is_empty a) (list_all is_empty (b ∷ c ∷ [])) h).1).1).0
third_back (p ∷ []) a b c rest h =
    nothing c (both (is_empty c) true (both (is_empty b) (list_all is_empty (c ∷ [])) (both (suits_place p a) (list_all is_empty (b ∷ c ∷ [])) h).1).1).0
third_back (p ∷ s ∷ []) a b c rest h =
    nothing c (both (is_empty c) true (both (suits_place s b) (list_all is_empty (c ∷ [])) (both (suits_place p a) (suits_place s b && list_all is_empty (c ∷ [])) h).1).1).0
third_back (p ∷ s ∷ t ∷ places) a b c rest h = refl

-- ---- the option

-- an argument that does not begin with `-` is no option
no_dashes : (word : Text) → is_dash word ≡ false → pointwise nat_eq (take 2 word) (codes "--") ≡ false
no_dashes [] h = refl
no_dashes (b ∷ []) h = ap (λ (test : Bool). test && false) h
no_dashes (b ∷ c ∷ bs) h = ap (λ (test : Bool). test && ((c == 45) && true)) h

no_flag : (flag word : Text) → is_dash word ≡ false → flag_word flag word ≡ Other
no_flag flag word h = ap (λ (test : Bool). if test then after_dashes flag (drop 2 word) else Other) (no_dashes word h)

other_stays : (kind : Kind) → word_by kind Other ≡ Other
other_stays Switch = refl
other_stays (Takes number) = refl

-- no option is before the first argument
none_before : (options : List Choice) (total : ℕ) (places : List Place) (words rest : List Text) → fits_options options places ≡ true → suit_places places words ≡ true
    → cut_all options none_given total (written_places places words ++ rest) ≡ Ok (none_given, written_places places words ++ rest)
none_before [] total places words rest f h = refl
none_before (choice ∷ []) total [] words rest f h = absurd (true≢false (sym f))
none_before (choice ∷ []) total (place ∷ places) [] rest f h = absurd (true≢false (sym h))
none_before (choice ∷ []) total (place ∷ places) (word ∷ words) rest f h =
    let first = (both (suits_place place word) (suit_places places words) h).0 in
    let left = written_places places words ++ rest in
    ap (λ (found : FlagWord). cut_found none_given total word left (unless_other found 0 choice None))
    (ap (word_by choice.kind) (no_flag choice.flag word (suited_no_dash place word first)) ∙ other_stays choice.kind)
none_before (choice ∷ other ∷ options) total places words rest f h = absurd (true≢false (sym f))

-- a text begins with itself
same_text : (flag : Text) → pointwise nat_eq (take (length flag) flag) flag ≡ true
same_text flag = (bytes_decides (take (length flag) flag) flag).1 (take_all (length flag) flag (omega arith))

none_left : (flag : Text) → drop (length flag) flag ≡ []
none_left flag = drop_all (length flag) flag (omega arith)

flag_back : (flag : Text) → flag_word flag (codes "--" ++ flag) ≡ Apart
flag_back flag =
    ap (λ (test : Bool). if test then after_flag (drop (length flag) flag) else Other) (same_text flag) ∙ ap after_flag (none_left flag)

-- the options after all others, with their numbers
abbrev option_words : List Choice → Option ℕ → Option ℕ → List Text
option_words options first second = written_option (slice_get options 0) first ++ written_option (slice_get options 1) second

abbrev OptionsBack : List Choice → Option ℕ → Option ℕ → Cut → Type 0
OptionsBack options first second cut =
    (given : Given) × (cut ≡ Ok (given, [])) × (option_number (slice_get options 0) given.first ≡ first) × (option_number (slice_get options 1) given.second ≡ second)

module _ (decimals : DecimalsAreRead) (flag : Text) (number : Bounded) (default : ℕ) (total n : ℕ) where
  abbrev taking : Choice
  taking = record { flag = flag; kind = Takes number; default = Some default }

  abbrev flagged : Text
  flagged = codes "--" ++ flag

  abbrev tested : Bool → Value
  tested test = if test then Ok (decimal n, []) else Err (BadOptionNumber (total - length (decimal n ∷ [])) 0 flag number)

  taking_back : fits_kind (Takes number) (Some default) ≡ true → suits_kind (Takes number) (Some default) (Some n) ≡ true
      → OptionsBack (taking ∷ []) (Some n) None (cut_all (taking ∷ []) none_given total (flagged ∷ decimal n ∷ []))
  taking_back f h =
      let below : nat_lt number.high (2 ^ 64) ≡ true = (both (is_within number.low number.high (Some default)) (nat_lt number.high (2 ^ 64)) f).1 in
      let within : nat_le n number.high ≡ true = (both (nat_le number.low n) (nat_le n number.high) h).1 in
      let small : n < 2 ^ 64 = grind (arith, nat_tests, below, within) in
      let read : decimal_of (decimal n) ≡ Some n = (decimals n small).0 in
      let taken : is_number number.low number.high (decimal n) ≡ true = ap (is_within number.low number.high) read ∙ h in (
        record { first = Some (decimal n); second = None },
        ap (λ (found : FlagWord). cut_found none_given total flagged (decimal n ∷ []) (unless_other found 0 taking None)) (flag_back flag)
            ∙ ap (λ (found : FlagWord). gave none_given 0 (value_by flag (Takes number) total flagged (decimal n ∷ []) found)) (flag_back flag)
            ∙ ap (λ (test : Bool). gave none_given 0 (tested test)) taken,
        ap (λ m. Some (number_or_zero m)) read,
        refl,
      )

kind_back : DecimalsAreRead → (flag : Text) (kind : Kind) (default : Option ℕ) (total : ℕ) (value : Option ℕ) → fits_kind kind default ≡ true
    → suits_kind kind default value ≡ true
    → OptionsBack (record { flag = flag; kind = kind; default = default } ∷ []) value None
    (cut_all (record { flag = flag; kind = kind; default = default } ∷ []) none_given total
    (option_words (record { flag = flag; kind = kind; default = default } ∷ []) value None))
kind_back decimals flag (Takes number) (Some default) total (Some n) f h = taking_back decimals flag number default total n f h
kind_back decimals flag (Takes number) (Some default) total None f h = absurd (true≢false (sym h))
kind_back decimals flag (Takes number) None total value f h = absurd (true≢false (sym f))
kind_back decimals flag Switch default total value f h = absurd (true≢false (sym f))

options_back : DecimalsAreRead → (options : List Choice) (total : ℕ) (places : List Place) (first second : Option ℕ) → fits_options options places ≡ true
    → suits_option (slice_get options 0) first ≡ true → suits_option (slice_get options 1) second ≡ true
    → OptionsBack options first second (cut_all options none_given total (option_words options first second))
options_back decimals [] total places None None f h k = (none_given, refl, refl, refl)
options_back decimals [] total places (Some n) second f h k = absurd (true≢false (sym h))
options_back decimals [] total places None (Some n) f h k = absurd (true≢false (sym k))
options_back decimals (choice ∷ []) total [] first second f h k = absurd (true≢false (sym f))
options_back decimals (choice ∷ []) total (place ∷ places) first (Some n) f h k = absurd (true≢false (sym k))
options_back decimals (choice ∷ []) total (place ∷ places) first None f h k = kind_back decimals choice.flag choice.kind choice.default total first f h
options_back decimals (choice ∷ other ∷ options) total places first second f h k = absurd (true≢false (sym f))

-- each begins with `-`
abbrev begins_with_dash : List Text → Bool
begins_with_dash [] = true
begins_with_dash (word ∷ words) = is_dash word

options_dashed : (options : List Choice) (places : List Place) (first second : Option ℕ) → fits_options options places ≡ true
    → begins_with_dash (option_words options first second) ≡ true
options_dashed [] places first second f = refl
options_dashed (choice ∷ []) places None second f = refl
options_dashed (choice ∷ []) places (Some n) second f = refl
options_dashed (choice ∷ other ∷ options) places first second f = absurd (true≢false (sym f))

-- ---- the file that may be left out

none_last : (name : Text) (total : ℕ) (words : List Text) → begins_with_dash words ≡ true → cut_last (Some name) total words ≡ Ok (None, words)
none_last name total [] d = refl
none_last name total ([] ∷ words) d = absurd (true≢false (sym d))
none_last name total ((b ∷ bs) ∷ words) d = ap (λ (test : Bool). if test then Ok (None, (b ∷ bs) ∷ words) else Ok (Some (b ∷ bs), words)) d

last_back : (name : Option Text) (total : ℕ) (value : Option Text) (words : List Text) → begins_with_dash words ≡ true → suits_last name value ≡ true
    → cut_last name total (option_to_list value ++ words) ≡ Ok (value, words)
last_back None total None words d h = refl
last_back None total (Some word) words d h = absurd (true≢false (sym h))
last_back (Some name) total None words d h = none_last name total words d
last_back (Some name) total (Some []) words d h = absurd (true≢false (sym h))
last_back (Some name) total (Some (b ∷ bs)) words d h =
    let p = name_is_plain (b ∷ bs) h in
    ap (λ (test : Bool). if test then Ok (None, (b ∷ bs) ∷ words) else Ok (Some (b ∷ bs), words)) (no_dash (b ∷ bs) p)

-- ---- any form

module _ (decimals : DecimalsAreRead) (form : Form) (total : ℕ) (values : Values) (good : is_regular form ≡ true) (all : suits form values ≡ true) where
  fits : fits_options form.options form.places ≡ true
  fits = (both (is_short form.places) (fits_options form.options form.places) good).1

  abbrev first_suits : Bool
  first_suits = suits_option (slice_get form.options 0) values.first_option

  abbrev second_suits : Bool
  second_suits = suits_option (slice_get form.options 1) values.second_option

  placed_suit : suit_places form.places (placed values) ≡ true
  placed_suit = (both (suit_places form.places (placed values)) (suits_last form.last values.last && (first_suits && second_suits)) all).0

  others : (suits_last form.last values.last ≡ true) × ((first_suits && second_suits) ≡ true)
  others =
      both (suits_last form.last values.last) (first_suits && second_suits)
      (both (suit_places form.places (placed values)) (suits_last form.last values.last && (first_suits && second_suits)) all).1

  options : (first_suits ≡ true) × (second_suits ≡ true)
  options = both first_suits second_suits others.1

  abbrev choices : List Text
  choices = option_words form.options values.first_option values.second_option

  abbrev rest : List Text
  rest = option_to_list values.last ++ choices

  abbrev words : List Text
  words = written_places form.places (placed values) ++ rest

  last_step : (cut : Cut) → OptionsBack form.options values.first_option values.second_option cut → with_end form total words values.last cut ≡ Ok values
  last_step cut (given, is, first, second) =
      ap (with_end form total words values.last) is
      ∙ (λ i. Ok (record {
        first = first_back form.places values.first values.second values.third rest placed_suit i;
        second = second_back form.places values.first values.second values.third rest placed_suit i;
        third = third_back form.places values.first values.second values.third rest placed_suit i;
        last = values.last;
        first_option = first i;
        second_option = second i;
      }))

  values_back : read_after form total words ≡ Ok values
  values_back =
      ap (with_options form total) (none_before form.options total form.places (placed values) rest fits placed_suit)
      ∙ ap (with_places form total none_given words) (places_back form.options (flags_of none_given) total form.places (placed values) rest placed_suit)
      ∙ ap (with_last form total none_given words)
      (last_back form.last total values.last choices (options_dashed form.options form.places values.first_option values.second_option fits) others.0)
      ∙ last_step (cut_all form.options none_given total choices)
      (options_back decimals form.options total form.places values.first_option values.second_option fits options.0 options.1)

-- ---- any command

pub written_are_read : DecimalsAreRead → WrittenCommandsAreRead
written_are_read decimals command h =
    let form = form_with command.work in
    let words = written_values form command.values in
    ap (with_form words) (listed command.work)
    ∙ (ap (with_values form.work) (values_back decimals form (suc (length words)) command.values (regular command.work) h)
    ∙ ap (λ w. Ok (record { work = w; values = command.values })) (work_of command.work))

abbrev OnCommand : Result Command Fault → Type 0
OnCommand (Ok command) = IsWritable command
OnCommand (Err fault) = ⊤

writable : (name : Text) (words : List Text) → OnCommand (command_of (name ∷ words))
writable name words = by (form_by name) refl
  where
    found : (form : Form) → form_by name ≡ Some form → (result : Result Values Fault) → read_by form words ≡ result → OnCommand (with_values form.work result)
    found form e (Ok values) h = subst (λ f. suits f values ≡ true) (sym (form_is name form e)) (values_suit name form words values e h)
    found form e (Err fault) h = tt

    by : (form : Option Form) → form_by name ≡ form → OnCommand (with_form words form)
    by None e = tt
    by (Some form) e = found form e (read_by form words) refl

pub read_are_writable : ReadCommandsAreWritable
read_are_writable [] command h = subst OnCommand h tt
read_are_writable (name ∷ words) command h = subst OnCommand h (writable name words)

-- ---- the numbers of `make`

number_fits : DecimalsAreRead → (low high n : ℕ) → low ≤ n → n ≤ high → n < 2 ^ 64 → is_number low high (decimal n) ≡ true
number_fits decimals low high n l h b =
    ap (is_within low high) (decimals n b).0 ∙ joined (nat_le low n) (nat_le n high) (grind (arith, nat_tests, l)) (grind (arith, nat_tests, h))

number_back : DecimalsAreRead → (n : ℕ) → n < 2 ^ 64 → number_of (decimal n) ≡ n
number_back decimals n b = ap number_or_zero (decimals n b).0

abbrev make_of : ℕ → ℕ → ℕ → Command
make_of seed targets calls =
    threaded Make (record { first = decimal seed; second = decimal targets; third = decimal calls; last = None; first_option = None; second_option = None })

pub numbers_are_read : DecimalsAreRead → WrittenNumbersAreRead
numbers_are_read decimals seed targets calls s (t1, t8) (c1, c4096) =
    let first : is_number 0 0xffffffffffffffff (decimal seed) ≡ true = number_fits decimals 0 0xffffffffffffffff seed (omega arith) (omega (arith, s)) s in
    let second : is_number 1 8 (decimal targets) ≡ true = number_fits decimals 1 8 targets t1 t8 (omega (arith, t8)) in
    let third : is_number 1 4096 (decimal calls) ≡ true = number_fits decimals 1 4096 calls c1 c4096 (omega (arith, c4096)) in
    let places = joined (is_number 0 0xffffffffffffffff (decimal seed)) (is_number 1 8 (decimal targets) && (is_number 1 4096 (decimal calls) && true)) first
    (joined (is_number 1 8 (decimal targets)) (is_number 1 4096 (decimal calls) && true) second (joined (is_number 1 4096 (decimal calls)) true third refl)) in
    let fits : suits (form_with (make_of seed targets calls).work) (make_of seed targets calls).values ≡ true =
    joined (suit_places (form_with (make_of seed targets calls).work).places (placed (make_of seed targets calls).values)) true places refl in
    subst (λ (r : Result Command Fault). IsOkAnd r (IsMake seed targets calls)) (sym (written_are_read decimals (make_of seed targets calls) fits)) (record {
      work = refl;
      first = number_back decimals seed s;
      second = number_back decimals targets (omega (arith, t8));
      third = number_back decimals calls (omega (arith, c4096));
    })
