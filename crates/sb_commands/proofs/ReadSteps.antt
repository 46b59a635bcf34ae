-- What the steps of a reading say of the arguments that they take.
use Rattle.std.proofs.Common.{◌≡◌, ◌⊎◌, inl, inr, ◌∙◌, refl, sym, ap, codes, true, false, ℕ, Bool, List, [], ◌∷◌, ◌++◌, Option, Some, None, IsSome, ◌&&◌, true≢false, nat_eq, drop, take, if◌then◌else◌, arith, ◌==◌, subst}
use Rattle.std.specs.Prelude.{⊤, nat_le, length, Result, Ok, Err, ◌-◌}
use Rattle.std.specs.List.{list_all}
use Rattle.std.specs.Cmp.Lexicographic.{pointwise, bytes_decides}
use Rattle.std.proofs.lemmas.Bool.Decides.{nat_tests}
use Rattle.std.proofs.lemmas.List.{take-append-drop}
use Rattle.clap.specs.Words.{Text}
use Rattle.sb_text.specs.Numbers.{are_digits, below_2_64, decimal_of, is_decimal_digit, value_from}
use Rattle.sb_commands.specs.Forms.{Bounded, Choice, Form, Place, File, Number, Takes, Word}
use Rattle.sb_commands.specs.NumberWords.{is_number, is_within}
use Rattle.sb_text.specs.Steps.{◌>>=◌}
use Rattle.sb_commands.specs.Usage.{Cut, Fault, BadNumber, BadOptionNumber, FlagWord, Apart, Given, Joined, Last, Other, Value, Values, after_dashes, after_flag, cut_all, cut_apart, cut_found, cut_joined, cut_last, cut_new, cut_option, cut_places, dash_fault, extra_fault, file_fault, flag_word, flags_of, give, given_at, is_dash, kind_fault, place_fault, unless_fault, unless_other, value_by, values_by, values_unless}
use Rattle.sb_commands.specs.declared.usage.GivenOptions.{GivenOptions}

-- an argument that is not empty and does not begin with `-`
pub record IsPlainWord (word : Text) : Type 0 where
  pub b : ℕ
  pub bs : List ℕ
  pub word_is : word ≡ b ∷ bs
  pub plain : (b == 45) ≡ false

-- ---- digits

pub both : (a b : Bool) → (a && b) ≡ true → (a ≡ true) × (b ≡ true)
both true b h = (refl, h)
both false b h = absurd (true≢false (sym h))

-- a number does not begin with `-`
digit_first : (b : ℕ) (bs : List ℕ) → IsSome (decimal_of (b ∷ bs)) → (b == 45) ≡ false
digit_first b bs some = by (are_digits is_decimal_digit 20 (b ∷ bs)) refl some
  where
    by : (test : Bool) → are_digits is_decimal_digit 20 (b ∷ bs) ≡ test → IsSome (if test then below_2_64 (value_from 10 0 (b ∷ bs)) else None) → (b == 45) ≡ false
    by true e h =
        let digits = (both (nat_le 1 (length (b ∷ bs)) && nat_le (length (b ∷ bs)) 20) (list_all is_decimal_digit (b ∷ bs)) e).1 in
        let first = (both (is_decimal_digit b) (list_all is_decimal_digit bs) digits).0 in
        let low : nat_le 48 b ≡ true = (both (nat_le 48 b) (nat_le b 57) first).0 in
        grind (arith, nat_tests, low)
    by false e h = absurd (true≢false (sym h))

within_some : (low high : ℕ) (n : Option ℕ) → is_within low high n ≡ true → IsSome n
within_some low high None h = absurd (true≢false (sym h))
within_some low high (Some n) h = refl

pub number_is_plain : (low high : ℕ) (word : Text) → is_number low high word ≡ true → IsPlainWord word
number_is_plain low high [] h = absurd (true≢false (sym h))
number_is_plain low high (b ∷ bs) h = record { b = b; bs = bs; word_is = refl; plain = digit_first b bs (within_some low high (decimal_of (b ∷ bs)) h) }

-- ---- places

file_is_plain : (name : Text) (at : ℕ) (word : Text) → file_fault name at word ≡ None → is_dash word ≡ false → IsPlainWord word
file_is_plain name at [] h plain = absurd cc
file_is_plain name at (b ∷ bs) h plain = record { b = b; bs = bs; word_is = refl; plain = plain }

number_place : (number : Bounded) (at : ℕ) (word : Text) → kind_fault (Number number) at word ≡ None → is_number number.low number.high word ≡ true
number_place number at word h = by (is_number number.low number.high word) h
  where
    by : (test : Bool) → (if test then None else Some (BadNumber at number)) ≡ None → test ≡ true
    by true h = refl
    by false h = absurd cc

-- an argument of a place's kind
abbrev pub IsKind : Place → Text → Type 0
IsKind (File name) word = ⊤
IsKind (Word name) word = ⊤
IsKind (Number number) word = is_number number.low number.high word ≡ true

-- an argument at a place: only at one for any word may it be empty
abbrev pub IsWord : Place → Text → Type 0
IsWord (Word name) word = is_dash word ≡ false
IsWord place word = IsPlainWord word

kind_is_plain : (place : Place) (at : ℕ) (word : Text) → kind_fault place at word ≡ None → is_dash word ≡ false → IsWord place word × IsKind place word
kind_is_plain (File name) at word h plain = (file_is_plain name at word h plain, tt)
kind_is_plain (Word name) at word h plain = (plain, tt)
kind_is_plain (Number number) at word h plain =
    let within = number_place number at word h in
    (number_is_plain number.low number.high word within, within)

place_is_plain : (options : List Choice) (given : GivenOptions) (at : ℕ) (place : Place) (word : Text) → place_fault options given at place word ≡ None
    → IsWord place word × IsKind place word
place_is_plain options given at place word h = by (is_dash word) refl h
  where
    by : (test : Bool) → is_dash word ≡ test → (if test then Some (dash_fault options given at word) else kind_fault place at word) ≡ None
        → IsWord place word × IsKind place word
    by true e h = absurd cc
    by false e h = kind_is_plain place at word h e

-- arguments with these places at their front, and others after them
abbrev pub IsPlaced : List Place → List Text → List Text → Type 0
IsPlaced [] words left = words ≡ left
IsPlaced (place ∷ places) words left =
    (word : Text) × (after : List Text) × (words ≡ word ∷ after) × (IsWord place word × IsKind place word) × IsPlaced places after left

abbrev pub OnLeft : List Place → List Text → Result (List Text) Fault → Type 0
OnLeft places words (Ok left) = IsPlaced places words left
OnLeft places words (Err fault) = ⊤

pub places_left : (options : List Choice) (given : GivenOptions) (total : ℕ) (places : List Place) (words : List Text)
    → OnLeft places words (cut_places options given total places words)
places_left options given total [] words = refl
places_left options given total (place ∷ places) [] = tt
places_left options given total (place ∷ places) (word ∷ words) =
    by (place_fault options given (total - length (word ∷ words)) place word) refl (cut_places options given total places words)
    (places_left options given total places words)
  where
    by : (fault : Option Fault) → place_fault options given (total - length (word ∷ words)) place word ≡ fault → (result : Result (List Text) Fault)
        → OnLeft places words result → OnLeft (place ∷ places) (word ∷ words) (unless_fault fault result)
    by None e (Ok left) placed = (word, words, refl, place_is_plain options given (total - length (word ∷ words)) place word e, placed)
    by None e (Err fault) placed = tt
    by (Some fault) e result placed = tt

-- ---- the file that may be left out

abbrev pub OnLast : List Text → Last → Type 0
OnLast words (Ok (None, left)) = words ≡ left
OnLast words (Ok (Some value, left)) = IsPlainWord value × (words ≡ value ∷ left)
OnLast words (Err fault) = ⊤

pub last_left : (name : Text) (total : ℕ) (words : List Text) → OnLast words (cut_last (Some name) total words)
last_left name total [] = refl
last_left name total ([] ∷ words) = tt
last_left name total ((b ∷ bs) ∷ words) = by (b == 45) refl
  where
    by : (test : Bool) → (b == 45) ≡ test → OnLast ((b ∷ bs) ∷ words) (if test then Ok (None, (b ∷ bs) ∷ words) else Ok (Some (b ∷ bs), words))
    by true e = refl
    by false e = (record { b = b; bs = bs; word_is = refl; plain = e }, refl)

-- ---- the option

abbrev IsAfter : Text → FlagWord → Type 0
IsAfter rest Apart = rest ≡ []
IsAfter rest (Joined value) = rest ≡ 61 ∷ value
IsAfter rest Other = ⊤

after : (rest : Text) → IsAfter rest (after_flag rest)
after [] = refl
after (b ∷ bs) = by (b == 61) refl
  where
    by : (test : Bool) → (b == 61) ≡ test → IsAfter (b ∷ bs) (if test then Joined bs else Other)
    by true e =
        let equal : b ≡ 61 = grind (arith, nat_tests, e) in
        ap (λ c. c ∷ bs) equal
    by false e = tt

-- an argument as `--workers`
abbrev IsFlagged : Text → FlagWord → Type 0
IsFlagged word Apart = word ≡ codes "--workers"
IsFlagged word (Joined value) = word ≡ codes "--workers=" ++ value
IsFlagged word Other = ⊤

front : (n : ℕ) (prefix word rest : Text) → pointwise nat_eq (take n word) prefix ≡ true → drop n word ≡ rest → word ≡ prefix ++ rest
front n prefix word rest e left =
    sym (take-append-drop n word) ∙ ap (λ w. w ++ drop n word) ((bytes_decides (take n word) prefix).0 e) ∙ ap (λ w. prefix ++ w) left

flagged : (word : Text) → IsFlagged word (flag_word (codes "workers") word)
flagged word = by (pointwise nat_eq (take 2 word) (codes "--")) refl
  where
    last : pointwise nat_eq (take 2 word) (codes "--") ≡ true → pointwise nat_eq (take 7 (drop 2 word)) (codes "workers") ≡ true
        → (flag : FlagWord) → IsAfter (drop 7 (drop 2 word)) flag → IsFlagged word flag
    last e h Apart rest = front 2 (codes "--") word (codes "workers") e (front 7 (codes "workers") (drop 2 word) [] h rest)
    last e h (Joined value) rest = front 2 (codes "--") word (codes "workers=" ++ value) e (front 7 (codes "workers") (drop 2 word) (61 ∷ value) h rest)
    last e h Other rest = tt

    further : pointwise nat_eq (take 2 word) (codes "--") ≡ true → (test : Bool) → pointwise nat_eq (take 7 (drop 2 word)) (codes "workers") ≡ test
        → IsFlagged word (if test then after_flag (drop 7 (drop 2 word)) else Other)
    further e true h = last e h (after_flag (drop 7 (drop 2 word))) (after (drop 7 (drop 2 word)))
    further e false h = tt

    by : (test : Bool) → pointwise nat_eq (take 2 word) (codes "--") ≡ test → IsFlagged word (if test then after_dashes (codes "workers") (drop 2 word) else Other)
    by true e = further e (pointwise nat_eq (take 7 (drop 2 word)) (codes "workers")) refl
    by false e = tt

abbrev pub workers : Choice
workers = record { flag = codes "workers"; kind = Takes (record { name = codes "N"; low = 1; high = 8 }); default = Some 2 }

-- arguments with the option at their front, apart or joined, and others after it
abbrev pub IsOptionAt : List Text → Text → List Text → Type 0
IsOptionAt words value left = (words ≡ codes "--workers" ∷ value ∷ left) ⊎ (words ≡ (codes "--workers=" ++ value) ∷ left)

-- the argument of the option alone
abbrev pub given_as : Option Text → Given
given_as first = record { first = first; second = None }

-- the option was not given before: it is given now, or not
abbrev pub OnGiven : Option Text → Option Text → List Text → List Text → Type 0
OnGiven None None words left = words ≡ left
OnGiven (Some value) None words left = (is_number 1 8 value ≡ true) × IsOptionAt words value left
OnGiven first (Some value) words left = ⊥

abbrev pub OnCut : List Text → Cut → Type 0
OnCut words (Ok cut) = OnGiven cut.0.first cut.0.second words cut.1
OnCut words (Err fault) = ⊤

-- the number of the option is cut
abbrev pub OnValue : List Text → Value → Type 0
OnValue words (Ok cut) = (is_number 1 8 cut.0 ≡ true) × IsOptionAt words cut.0 cut.1
OnValue words (Err fault) = ⊤

abbrev bounds : Bounded
bounds = record { name = codes "N"; low = 1; high = 8 }

value_left : (total : ℕ) (word : Text) (words : List Text) (flag : FlagWord) → IsFlagged word flag → unless_other flag 0 workers None ≡ Some (0, workers)
    → OnValue (word ∷ words) (value_by (codes "workers") (Takes bounds) total word words flag)
value_left total word [] Apart e h = tt
value_left total word (value ∷ left) Apart e h = numbered (is_number 1 8 value) refl
  where
    numbered : (test : Bool) → is_number 1 8 value ≡ test
        → OnValue (word ∷ value ∷ left) (if test then Ok (value, left) else Err (BadOptionNumber (total - length (value ∷ left)) 0 (codes "workers") bounds))
    numbered true h = (h, inl (ap (λ (w : Text). w ∷ value ∷ left) e))
    numbered false h = tt
value_left total word words (Joined value) e h = numbered (is_number 1 8 value) refl
  where
    numbered : (test : Bool) → is_number 1 8 value ≡ test
        → OnValue (word ∷ words) (if test then Ok (value, words) else Err (BadOptionNumber (total - length (word ∷ words)) (length word - length value) (codes "workers") bounds))
    numbered true h = (h, inr (ap (λ (w : Text). w ∷ words) e))
    numbered false h = tt
value_left total word words Other e h = absurd cc

-- the argument of an option was cut
abbrev pub gave : Given → ℕ → Value → Cut
gave given n value = value >>= λ v. Ok (give n v.0 given, v.1)

given_left : (words : List Text) (value : Value) → OnValue words value → OnCut words (gave (given_as None) 0 value)
given_left words (Ok cut) h = h
given_left words (Err fault) h = tt

pub option_left : (total : ℕ) (words : List Text) → OnCut words (cut_all (workers ∷ []) (given_as None) total words)
option_left total [] = refl
option_left total (word ∷ words) = by (flag_word (codes "workers") word) refl (flagged word)
  where
    by : (flag : FlagWord) → flag_word (codes "workers") word ≡ flag → IsFlagged word flag
        → OnCut (word ∷ words) (cut_found (given_as None) total word words (unless_other flag 0 workers None))
    by Apart e h =
        subst (λ flag. OnCut (word ∷ words) (gave (given_as None) 0 (value_by (codes "workers") (Takes bounds) total word words flag))) (sym e)
        (given_left (word ∷ words) (value_by (codes "workers") (Takes bounds) total word words Apart) (value_left total word words Apart h refl))
    by (Joined value) e h =
        subst (λ flag. OnCut (word ∷ words) (gave (given_as None) 0 (value_by (codes "workers") (Takes bounds) total word words flag))) (sym e)
        (given_left (word ∷ words) (value_by (codes "workers") (Takes bounds) total word words (Joined value)) (value_left total word words (Joined value) h refl))
    by Other e h = refl

-- if the option was given before nothing is cut
pub given_stays : (total : ℕ) (value : Text) (words : List Text)
    → cut_all (workers ∷ []) (given_as (Some value)) total words ≡ Ok (given_as (Some value), words)
given_stays total value [] = refl
given_stays total value (word ∷ words) = by (flag_word (codes "workers") word)
  where
    by : (flag : FlagWord)
        → ◌≡◌ {A = Cut} (cut_found (given_as (Some value)) total word words (unless_other flag 0 workers None)) (Ok (given_as (Some value), word ∷ words))
    by Apart = refl
    by (Joined number) = refl
    by Other = refl

-- ---- the stages of a reading

abbrev pub with_end : Form → ℕ → List Text → Option Text → Cut → Result Values Fault
with_end form total placed last cut = cut >>= λ after. values_unless (extra_fault form.options (flags_of after.0) total after.1) (values_by form placed last after.0)

abbrev pub with_last : Form → ℕ → Given → List Text → Last → Result Values Fault
with_last form total before placed cut = cut >>= λ last. with_end form total placed last.0 (cut_all form.options before total last.1)

abbrev pub with_places : Form → ℕ → Given → List Text → Result (List Text) Fault → Result Values Fault
with_places form total before placed cut = cut >>= λ later. with_last form total before placed (cut_last form.last total later)

abbrev pub with_options : Form → ℕ → Cut → Result Values Fault
with_options form total cut =
    cut >>= λ before. with_places form total before.0 before.1 (cut_places form.options (flags_of before.0) total form.places before.1)
