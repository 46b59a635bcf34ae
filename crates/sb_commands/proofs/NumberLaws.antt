-- What is read suits its form: names of files, and numbers within their bounds.
use Rattle.std.proofs.Common.{◌≡◌, ◌∙◌, refl, sym, ap, subst, true, false, ℕ, ◌≤◌, Bool, List, [], ◌∷◌, Option, Some, None, if◌then◌else◌, ◌&&◌, not, true≢false, arith, ◌-◌}
use Rattle.std.specs.Prelude.{⊤, Result, Ok, Err, nat_le, nat_lt, suc, length, slice_get, ◌^◌}
use Rattle.std.proofs.lemmas.Bool.Decides.{nat_tests}
use Rattle.clap.specs.Words.{Text}
use Rattle.sb_text.specs.Numbers.{decimal_of}
use Rattle.sb_commands.specs.CommandLaws.{is_file_name, suit_places, suits, suits_kind, suits_last, suits_option, suits_place}
use Rattle.sb_commands.specs.Commands.{AreWithin, Command, HasNumbers, IsKindWithin, IsOptionWithin, IsWithin, placed}
use Rattle.sb_commands.specs.Forms.{Bounded, Choice, File, Form, Kind, Number, Place, Switch, Takes, Word, form_by, form_with}
use Rattle.sb_commands.specs.NumberWords.{is_number, is_within, number_or_zero}
use Rattle.sb_text.specs.Steps.{◌>>=◌}
use Rattle.sb_commands.specs.Usage.{Apart, BadOptionNumber, Cut, Fault, FlagWord, Given, Joined, Last, Other, Value, Values, at_place, choice_number, cut_all, cut_found, cut_last, cut_new, cut_places, extra_fault, flag_word, flags_of, give, none_given, option_number, read_after, read_by, unless_other, value_by, values_by, values_unless}
use Rattle.sb_commands.proofs.Listed.{fits_kind, fits_options, form_is, is_regular, is_short, regular}
use Rattle.sb_commands.proofs.ReadSteps.{gave, IsKind, IsPlaced, IsPlainWord, IsWord, OnLast, OnLeft, both, last_left, places_left, with_end, with_last, with_options, with_places}

pub joined : (a b : Bool) → a ≡ true → b ≡ true → (a && b) ≡ true
joined true b e f = f
joined false b e f = absurd (true≢false (sym e))

pub file_name : (word : Text) → IsPlainWord word → is_file_name word ≡ true
file_name word p = subst (λ w. is_file_name w ≡ true) (sym p.word_is) (ap not p.plain)

-- ---- places

word_suits : (place : Place) (word : Text) → IsWord place word → IsKind place word → suits_place place word ≡ true
word_suits (File name) word p k = file_name word p
word_suits (Word name) word p k = ap not p
word_suits (Number number) word p k = k

abbrev three_at : List Place → List Text → List Text
three_at places words = at_place 0 places words ∷ at_place 1 places words ∷ at_place 2 places words ∷ []

places_suit : (places : List Place) (words left : List Text) → is_short places ≡ true → IsPlaced places words left → suit_places places (three_at places words) ≡ true
places_suit [] words left h placed = refl
places_suit (p ∷ []) words left h (a, after, e, (f, k), r) =
    subst (λ (ws : List Text). suit_places (p ∷ []) (three_at (p ∷ []) ws) ≡ true) (sym e)
    (joined (suits_place p a) true (word_suits p a f k) refl)
places_suit (p ∷ s ∷ []) words left h (a, after, e, (f, k), (b, after2, e2, (f2, k2), r)) =
    subst (λ (ws : List Text). suit_places (p ∷ s ∷ []) (three_at (p ∷ s ∷ []) ws) ≡ true) (sym (e ∙ ap (λ ws. a ∷ ws) e2))
    (joined (suits_place p a) (suits_place s b && true) (word_suits p a f k) (joined (suits_place s b) true (word_suits s b f2 k2) refl))
places_suit (p ∷ s ∷ t ∷ []) words left h (a, after, e, (f, k), (b, after2, e2, (f2, k2), (c, after3, e3, (f3, k3), r))) =
    subst (λ (ws : List Text). suit_places (p ∷ s ∷ t ∷ []) (three_at (p ∷ s ∷ t ∷ []) ws) ≡ true) (sym (e ∙ ap (λ ws. a ∷ ws) (e2 ∙ ap (λ ws. b ∷ ws) e3)))
    (joined (suits_place p a) (suits_place s b && (suits_place t c && true)) (word_suits p a f k)
    (joined (suits_place s b) (suits_place t c && true) (word_suits s b f2 k2) (joined (suits_place t c) true (word_suits t c f3 k3) refl)))
places_suit (p ∷ s ∷ t ∷ u ∷ places) words left h placed = absurd (true≢false (sym h))

-- ---- the file that may be left out

abbrev LastSuits : Option Text → Last → Type 0
LastSuits name (Ok (value, left)) = suits_last name value ≡ true
LastSuits name (Err fault) = ⊤

last_suits : (name : Option Text) (total : ℕ) (words : List Text) → LastSuits name (cut_last name total words)
last_suits None total words = refl
last_suits (Some name) total words = by (cut_last (Some name) total words) (last_left name total words)
  where
    by : (cut : Last) → OnLast words cut → LastSuits (Some name) cut
    by (Err fault) h = tt
    by (Ok (None, left)) h = refl
    by (Ok (Some value, left)) h = file_name value h.0

-- ---- the option

-- an option that is given has a number within its bounds
abbrev OnWord : Kind → Option Text → Type 0
OnWord kind None = ⊤
OnWord Switch (Some word) = ⊤
OnWord (Takes number) (Some word) = is_number number.low number.high word ≡ true

abbrev OnOptions : List Choice → Given → Type 0
OnOptions [] given = ⊤
OnOptions (choice ∷ options) given = OnWord choice.kind given.first

abbrev OnGiven : List Choice → Cut → Type 0
OnGiven options (Ok cut) = OnOptions options cut.0
OnGiven options (Err fault) = ⊤

abbrev is_other : FlagWord → Bool
is_other Apart = false
is_other (Joined value) = false
is_other Other = true

module _ (flag : Text) (number : Bounded) (default : ℕ) where
  abbrev taking : Choice
  taking = record { flag = flag; kind = Takes number; default = Some default }

  abbrev OnValue : Value → Type 0
  OnValue (Ok cut) = is_number number.low number.high cut.0 ≡ true
  OnValue (Err fault) = ⊤

  value_given : (total : ℕ) (word : Text) (words : List Text) (found : FlagWord) → is_other found ≡ false → OnValue (value_by flag (Takes number) total word words found)
  value_given total word [] Apart o = tt
  value_given total word (value ∷ left) Apart o = numbered (is_number number.low number.high value) refl
    where
      numbered : (test : Bool) → is_number number.low number.high value ≡ test
          → OnValue (if test then Ok (value, left) else Err (BadOptionNumber (total - length (value ∷ left)) 0 flag number))
      numbered true h = h
      numbered false h = tt
  value_given total word words (Joined value) o = numbered (is_number number.low number.high value) refl
    where
      numbered : (test : Bool) → is_number number.low number.high value ≡ test
          → OnValue (if test then Ok (value, words) else Err (BadOptionNumber (total - length (word ∷ words)) (length word - length value) flag number))
      numbered true h = h
      numbered false h = tt
  value_given total word words Other o = absurd (true≢false o)

  module _ (given : Given) (known : OnOptions (taking ∷ []) given) where
    gave_given : (value : Value) → OnValue value → OnGiven (taking ∷ []) (gave given 0 value)
    gave_given (Ok cut) h = h
    gave_given (Err fault) h = tt

    new : (total : ℕ) (word : Text) (words : List Text) (found : FlagWord) → flag_word flag word ≡ found → is_other found ≡ false → (first : Option Text)
        → OnGiven (taking ∷ []) (cut_new given total (word ∷ words) 0 taking word words first)
    new total word words found e o (Some before) = known
    new total word words found e o None =
        subst (λ f. OnGiven (taking ∷ []) (gave given 0 (value_by flag (Takes number) total word words f))) (sym e)
        (gave_given (value_by flag (Takes number) total word words found) (value_given total word words found o))

    taking_given : (total : ℕ) (words : List Text) → OnGiven (taking ∷ []) (cut_all (taking ∷ []) given total words)
    taking_given total [] = known
    taking_given total (word ∷ words) = by (flag_word flag word) refl
      where
        by : (found : FlagWord) → flag_word flag word ≡ found
            → OnGiven (taking ∷ []) (cut_found given total word words (unless_other found 0 taking None))
        by Apart e = new total word words Apart e refl given.first
        by (Joined value) e = new total word words (Joined value) e refl given.first
        by Other e = known

kind_given : (flag : Text) (kind : Kind) (default : Option ℕ) → fits_kind kind default ≡ true
    → (given : Given) → OnWord kind given.first → (total : ℕ) (words : List Text)
    → OnGiven (record { flag = flag; kind = kind; default = default } ∷ []) (cut_all (record { flag = flag; kind = kind; default = default } ∷ []) given total words)
kind_given flag (Takes number) (Some default) f given known total words = taking_given flag number default given known total words
kind_given flag (Takes number) None f given known total words = absurd (true≢false (sym f))
kind_given flag Switch default f given known total words = absurd (true≢false (sym f))

options_given : (options : List Choice) (places : List Place) → fits_options options places ≡ true → (given : Given) → OnOptions options given
    → (total : ℕ) (words : List Text) → OnGiven options (cut_all options given total words)
options_given [] places f given known total words = tt
options_given (choice ∷ []) [] f given known total words = absurd (true≢false (sym f))
options_given (choice ∷ []) (place ∷ places) f given known total words = kind_given choice.flag choice.kind choice.default f given known total words
options_given (choice ∷ other ∷ options) places f given known total words = absurd (true≢false (sym f))

read_within : (low high : ℕ) (n : Option ℕ) → is_within low high n ≡ true → is_within low high (Some (number_or_zero n)) ≡ true
read_within low high None h = absurd (true≢false (sym h))
read_within low high (Some n) h = h

kind_suits : (flag : Text) (kind : Kind) (default : Option ℕ) (first : Option Text) → fits_kind kind default ≡ true → OnWord kind first
    → suits_kind kind default (choice_number (record { flag = flag; kind = kind; default = default }) first) ≡ true
kind_suits flag (Takes number) (Some default) None f g = (both (is_within number.low number.high (Some default)) (nat_lt number.high (2 ^ 64)) f).0
kind_suits flag (Takes number) (Some default) (Some word) f g = read_within number.low number.high (decimal_of word) g
kind_suits flag (Takes number) None first f g = absurd (true≢false (sym f))
kind_suits flag Switch default first f g = absurd (true≢false (sym f))

-- both options have numbers that suit
abbrev suit_options : List Choice → Given → Bool
suit_options options given =
    suits_option (slice_get options 0) (option_number (slice_get options 0) given.first)
    && suits_option (slice_get options 1) (option_number (slice_get options 1) given.second)

options_suit : (options : List Choice) (places : List Place) (given : Given) → fits_options options places ≡ true → OnOptions options given
    → suit_options options given ≡ true
options_suit [] places given f g = refl
options_suit (choice ∷ []) [] given f g = absurd (true≢false (sym f))
options_suit (choice ∷ []) (place ∷ places) given f g =
    joined (suits_kind choice.kind choice.default (choice_number choice given.first)) true
    (kind_suits choice.flag choice.kind choice.default given.first f g) refl
options_suit (choice ∷ other ∷ options) places given f g = absurd (true≢false (sym f))

-- ---- any form

-- what holds of values that are read
abbrev pub OnValues : (Values → Type 0) → Result Values Fault → Type 0
OnValues P (Ok values) = P values
OnValues P (Err fault) = ⊤

abbrev pub Suits : Form → Values → Type 0
Suits form values = suits form values ≡ true

nothing_given : (options : List Choice) → OnOptions options none_given
nothing_given [] = tt
nothing_given (choice ∷ options) = tt

module _ (form : Form) (total : ℕ) (good : is_regular form ≡ true) where
  short : is_short form.places ≡ true
  short = (both (is_short form.places) (fits_options form.options form.places) good).0

  fits : fits_options form.options form.places ≡ true
  fits = (both (is_short form.places) (fits_options form.options form.places) good).1

  ended : (words left : List Text) (last : Option Text) (cut : Cut) → IsPlaced form.places words left → suits_last form.last last ≡ true
      → OnGiven form.options cut → OnValues (Suits form) (with_end form total words last cut)
  ended words left last (Err fault) p l c = tt
  ended words left last (Ok cut) p l c = by (extra_fault form.options (flags_of cut.0) total cut.1)
    where
      all : Suits form (values_by form words last cut.0)
      all =
          joined (suit_places form.places (three_at form.places words)) (suits_last form.last last && suit_options form.options cut.0)
          (places_suit form.places words left short p)
          (joined (suits_last form.last last) (suit_options form.options cut.0) l (options_suit form.options form.places cut.0 fits c))

      by : (fault : Option Fault) → OnValues (Suits form) (values_unless fault (values_by form words last cut.0))
      by None = all
      by (Some fault) = tt

  lasted : (before : Given) (words left : List Text) (cut : Last) → OnOptions form.options before → IsPlaced form.places words left → LastSuits form.last cut
      → OnValues (Suits form) (with_last form total before words cut)
  lasted before words left (Err fault) b p l = tt
  lasted before words left (Ok (last, rest)) b p l =
      ended words left last (cut_all form.options before total rest) p l (options_given form.options form.places fits before b total rest)

  placed_so : (before : Given) (words : List Text) (result : Result (List Text) Fault) → OnOptions form.options before → OnLeft form.places words result
      → OnValues (Suits form) (with_places form total before words result)
  placed_so before words (Err fault) b p = tt
  placed_so before words (Ok left) b p = lasted before words left (cut_last form.last total left) b p (last_suits form.last total left)

  given_so : (cut : Cut) → OnGiven form.options cut → OnValues (Suits form) (with_options form total cut)
  given_so (Err fault) b = tt
  given_so (Ok cut) b =
      placed_so cut.0 cut.1 (cut_places form.options (flags_of cut.0) total form.places cut.1) b (places_left form.options (flags_of cut.0) total form.places cut.1)

  read_suits : (words : List Text) → OnValues (Suits form) (read_after form total words)
  read_suits words =
      given_so (cut_all form.options none_given total words)
      (options_given form.options form.places fits none_given (nothing_given form.options) total words)

-- values that are read by a form of the table suit it
pub values_suit : (name : Text) (form : Form) (words : List Text) (values : Values) → form_by name ≡ Some form → read_by form words ≡ Ok values → suits form values ≡ true
values_suit name form words values e h =
    let good : is_regular form ≡ true = subst (λ f. is_regular f ≡ true) (form_is name form e) (regular form.work) in
    subst (OnValues (Suits form)) h (read_suits form (suc (length words)) good words)

-- ---- the numbers of values that suit

within_bounds : (low high : ℕ) (n : Option ℕ) → is_within low high n ≡ true → (low ≤ number_or_zero n) × (number_or_zero n ≤ high)
within_bounds low high None h = absurd (true≢false (sym h))
within_bounds low high (Some n) h = by (nat_le low n) refl (nat_le n high) refl h
  where
    by : (a : Bool) → nat_le low n ≡ a → (b : Bool) → nat_le n high ≡ b → (a && b) ≡ true → (low ≤ n) × (n ≤ high)
    by true e true f h = (grind (arith, nat_tests, e), grind (arith, nat_tests, f))
    by true e false f h = absurd (true≢false (sym h))
    by false e b f h = absurd (true≢false (sym h))

place_within : (place : Place) (word : Text) → suits_place place word ≡ true → IsWithin place word
place_within (File name) word h = tt
place_within (Word name) word h = tt
place_within (Number number) word h = within_bounds number.low number.high (decimal_of word) h

places_within : (places : List Place) (words : List Text) → suit_places places words ≡ true → AreWithin places words
places_within [] words h = tt
places_within (place ∷ places) [] h = tt
places_within (place ∷ places) (word ∷ words) h =
    let parts = both (suits_place place word) (suit_places places words) h in (place_within place word parts.0, places_within places words parts.1)

kind_within : (kind : Kind) (default value : Option ℕ) → suits_kind kind default value ≡ true → IsKindWithin kind default value
kind_within Switch default value h = tt
kind_within (Takes number) None None h = tt
kind_within (Takes number) (Some default) None h = true≢false (sym h)
kind_within (Takes number) None (Some value) h = within_bounds number.low number.high (Some value) h
kind_within (Takes number) (Some default) (Some value) h = within_bounds number.low number.high (Some value) h

option_within : (option : Option Choice) (value : Option ℕ) → suits_option option value ≡ true → IsOptionWithin option value
option_within None None h = refl
option_within None (Some value) h = absurd (true≢false (sym h))
option_within (Some choice) value h = kind_within choice.kind choice.default value h

pub has_numbers : (command : Command) → suits (form_with command.work) command.values ≡ true → HasNumbers command
has_numbers command h =
    let form = form_with command.work in
    let values = command.values in
    let first = suits_option (slice_get form.options 0) values.first_option in
    let second = suits_option (slice_get form.options 1) values.second_option in
    let parts = both (suit_places form.places (placed values)) (suits_last form.last values.last && (first && second)) h in
    let others = both (suits_last form.last values.last) (first && second) parts.1 in
    let options = both first second others.1 in
    record {
      places = places_within form.places (placed values) parts.0;
      first = option_within (slice_get form.options 0) values.first_option options.0;
      second = option_within (slice_get form.options 1) values.second_option options.1;
    }
