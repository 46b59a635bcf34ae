-- The fault that reading reports is the leftmost.
use Rattle.std.specs.Prelude.{Option, None, Some, Result, Ok, Err}
use Rattle.std.proofs.Common.{◌≡◌, ◌∙◌, ◌≤◌, ◌<◌, ℕ, zero, suc, ◌+◌, Bool, true, false, cond, List, [], ◌∷◌, ◌&&◌, ◌||◌, eqb, ltb, length, refl, ap, sym, subst, arith}
use Rattle.std.proofs.lemmas.Bool.{and_parts, eqb-true, false≢true, or_parts}
use Rattle.std.proofs.lemmas.Bool.Decides.{nat_tests}
use Rattle.sb_rule.specs.PatternLimits.{most_units}
use Rattle.sb_rule.specs.PatternReading.{begins, star_fault, cells_of, unless, reading, is_star_before, is_bad_star, HasNoneBefore, IsFaultOf, FaultsAreLeftmost, FaultlessTextsAreRead}
use Rattle.sb_rule.specs.declared.cells.Cell.{Cell}
use Rattle.sb_rule.specs.declared.pattern_faults.PatternFault.{PatternFault}
use Rattle.sb_rule.specs.declared.pattern_faults.PatternFault.TheVariants.{DoubleStar, StarQuestion, TooLong}

-- a unit that begins a text begins it alone
begins_once : (us : List ℕ) → begins 63 us ≡ true → begins 42 us ≡ false
begins_once [] h = refl
begins_once (u ∷ us) h = let e = eqb-true u 63 h in ap (λ v. eqb v 42) e

-- what is at the place is the fault, if this is the first place
star_here : (n : ℕ) (u : ℕ) (us : List ℕ) → (eqb u 42 && begins 42 us) ≡ true → star_fault n (u ∷ us) ≡ Some (DoubleStar n)
star_here n u us h = ap (λ b. cond b (Some (DoubleStar n)) (cond (eqb u 42 && begins 63 us) (Some (StarQuestion n)) (star_fault (n + 1) us))) h

question_here : (n : ℕ) (u : ℕ) (us : List ℕ) → (eqb u 42 && begins 63 us) ≡ true → star_fault n (u ∷ us) ≡ Some (StarQuestion n)
question_here n u us h =
    let p = and_parts (eqb u 42) (begins 63 us) h in
    (λ i. cond (p.0 i && begins_once us p.1 i) (Some (DoubleStar n)) (cond (eqb u 42 && begins 63 us) (Some (StarQuestion n)) (star_fault (n + 1) us)))
    ∙ ap (λ b. cond b (Some (StarQuestion n)) (star_fault (n + 1) us)) h

none_here : (n : ℕ) (u : ℕ) (us : List ℕ) → is_bad_star (u ∷ us) 0 ≡ false → star_fault n (u ∷ us) ≡ star_fault (n + 1) us
none_here n u us h =
    let p = or_parts (eqb u 42 && begins 42 us) (eqb u 42 && begins 63 us) h in
    λ i. cond (p.0 i) (Some (DoubleStar n)) (cond (p.1 i) (Some (StarQuestion n)) (star_fault (n + 1) us))

none_left : (unit place : ℕ) → is_star_before unit [] place ≡ false
none_left unit zero = refl
none_left unit (suc place) = refl

-- no bad star of the later units
none_later : (u : ℕ) (us : List ℕ) (place : ℕ) → HasNoneBefore (u ∷ us) (suc place) → HasNoneBefore us place
none_later u us place none before h = none (suc before) (omega (arith, h))

leftmost_star : (text : List ℕ) (n place : ℕ) → is_star_before 42 text place ≡ true → HasNoneBefore text place
    → star_fault n text ≡ Some (DoubleStar (n + place))
leftmost_star [] n place h none = absurd (false≢true (sym (none_left 42 place) ∙ h))
leftmost_star (u ∷ us) n zero h none = let e : n ≡ n + 0 = omega arith in star_here n u us h ∙ ap (λ m. Some (DoubleStar m)) e
leftmost_star (u ∷ us) n (suc place) h none =
    let e : n + 1 + place ≡ n + suc place = omega arith in
    none_here n u us (none 0 (omega arith)) ∙ leftmost_star us (n + 1) place h (none_later u us place none) ∙ ap (λ m. Some (DoubleStar m)) e

leftmost_question : (text : List ℕ) (n place : ℕ) → is_star_before 63 text place ≡ true → HasNoneBefore text place
    → star_fault n text ≡ Some (StarQuestion (n + place))
leftmost_question [] n place h none = absurd (false≢true (sym (none_left 63 place) ∙ h))
leftmost_question (u ∷ us) n zero h none = let e : n ≡ n + 0 = omega arith in question_here n u us h ∙ ap (λ m. Some (StarQuestion m)) e
leftmost_question (u ∷ us) n (suc place) h none =
    let e : n + 1 + place ≡ n + suc place = omega arith in
    none_here n u us (none 0 (omega arith)) ∙ leftmost_question us (n + 1) place h (none_later u us place none) ∙ ap (λ m. Some (StarQuestion m)) e

-- either the leftmost bad star, or none
data Search (text : List ℕ) : Type 0 where
  star : (place : ℕ) → is_star_before 42 text place ≡ true → HasNoneBefore text place → Search text
  question : (place : ℕ) → is_star_before 63 text place ≡ true → HasNoneBefore text place → Search text
  nothing : ((place : ℕ) → is_bad_star text place ≡ false) → Search text

none_at_first : (text : List ℕ) → HasNoneBefore text 0
none_at_first text before h = absurd (omega (arith, h))

none_longer : (u : ℕ) (us : List ℕ) (place : ℕ) → is_bad_star (u ∷ us) 0 ≡ false → HasNoneBefore us place → HasNoneBefore (u ∷ us) (suc place)
none_longer u us place here none zero h = here
none_longer u us place here none (suc before) h = none before (omega (arith, h))

search_longer : (u : ℕ) (us : List ℕ) → is_bad_star (u ∷ us) 0 ≡ false → Search us → Search (u ∷ us)
search_longer u us here (star place h none) = star (suc place) h (none_longer u us place here none)
search_longer u us here (question place h none) = question (suc place) h (none_longer u us place here none)
search_longer u us here (nothing none) = nothing all
  where
    all : (place : ℕ) → is_bad_star (u ∷ us) place ≡ false
    all zero = here
    all (suc place) = none place

searched : (text : List ℕ) → Search text
searched [] = nothing (λ place. λ i. none_left 42 place i || none_left 63 place i)
searched (u ∷ us) = by (eqb u 42 && begins 42 us) (eqb u 42 && begins 63 us) refl refl (searched us)
  where
    by : (d q : Bool) → (eqb u 42 && begins 42 us) ≡ d → (eqb u 42 && begins 63 us) ≡ q → Search us → Search (u ∷ us)
    by true q e f later = star 0 e (none_at_first (u ∷ us))
    by false true e f later = question 0 f (none_at_first (u ∷ us))
    by false false e f later = search_longer u us (λ i. e i || f i) later

none_found : (text : List ℕ) (n : ℕ) → ((place : ℕ) → is_bad_star text place ≡ false) → star_fault n text ≡ None
none_found [] n none = refl
none_found (u ∷ us) n none = none_here n u us (none 0) ∙ none_found us (n + 1) (λ place. none (suc place))

-- whether a reading is a pattern, and its fault
abbrev is_read : Result (List Cell) PatternFault → Bool
is_read (Ok cells) = true
is_read (Err fault) = false

abbrev fault_in : PatternFault → Result (List Cell) PatternFault → PatternFault
fault_in other (Ok cells) = other
fault_in other (Err fault) = fault

long_read : (text : List ℕ) → most_units < length text → reading text ≡ Err TooLong
long_read text h =
    let long : ltb 256 (length text) ≡ true = grind (arith, nat_tests) in
    ap (λ b. unless (cond b (Some TooLong) (star_fault 0 text)) (cells_of text)) long

short_read : (text : List ℕ) (fault : Option PatternFault) → length text ≤ most_units → star_fault 0 text ≡ fault
    → reading text ≡ unless fault (cells_of text)
short_read text fault h e =
    let short : ltb 256 (length text) ≡ false = grind (arith, nat_tests) in
    λ i. unless (cond (short i) (Some TooLong) (e i)) (cells_of text)

from_first : (place : ℕ) → 0 + place ≡ place
from_first place = omega arith

-- the fault that a text has is the one that is reported
reported : (text : List ℕ) (fault : PatternFault) → IsFaultOf text fault → reading text ≡ Err fault
reported text TooLong h = long_read text h
reported text (DoubleStar place) h = short_read text (Some (DoubleStar place)) h.0 (leftmost_star text 0 place h.1 h.2 ∙ ap (λ m. Some (DoubleStar m)) (from_first place))
reported text (StarQuestion place) h = short_read text (Some (StarQuestion place)) h.0 (leftmost_question text 0 place h.1 h.2 ∙ ap (λ m. Some (StarQuestion m)) (from_first place))

-- a text is too long, has a leftmost bad star, or is read
data Outcome (text : List ℕ) : Type 0 where
  faulty : (fault : PatternFault) → IsFaultOf text fault → Outcome text
  faultless : length text ≤ most_units → ((place : ℕ) → is_bad_star text place ≡ false) → Outcome text

outcome_of_short : (text : List ℕ) → length text ≤ most_units → Search text → Outcome text
outcome_of_short text h (star place s none) = faulty (DoubleStar place) (h, s, none)
outcome_of_short text h (question place s none) = faulty (StarQuestion place) (h, s, none)
outcome_of_short text h (nothing none) = faultless h none

outcome : (text : List ℕ) → Outcome text
outcome text = by (ltb 256 (length text)) refl
  where
    by : (b : Bool) → ltb 256 (length text) ≡ b → Outcome text
    by true e = faulty TooLong (grind (arith, nat_tests))
    by false e = outcome_of_short text (grind (arith, nat_tests)) (searched text)

read_faultless : (text : List ℕ) → length text ≤ most_units → ((place : ℕ) → is_bad_star text place ≡ false) → reading text ≡ Ok (cells_of text)
read_faultless text h none = short_read text None h (none_found text 0 none)

-- the fault that is reported is one that the text has
had : (text : List ℕ) (fault : PatternFault) → Outcome text → reading text ≡ Err fault → IsFaultOf text fault
had text fault (faulty other h) e = subst (IsFaultOf text) (ap (fault_in TooLong) (sym (reported text other h) ∙ e)) h
had text fault (faultless h none) e = absurd (false≢true (ap is_read (sym e ∙ read_faultless text h none)))

pub faults_are_leftmost : FaultsAreLeftmost
faults_are_leftmost text fault = (had text fault (outcome text), reported text fault)

faultless_read : (text : List ℕ) → Outcome text → reading text ≡ Ok (cells_of text)
    → (length text ≤ most_units) × ((place : ℕ) → is_bad_star text place ≡ false)
faultless_read text (faulty fault h) e = absurd (false≢true (ap is_read (sym (reported text fault h) ∙ e)))
faultless_read text (faultless h none) e = (h, none)

pub faultless_texts_are_read : FaultlessTextsAreRead
faultless_texts_are_read text = (faultless_read text (outcome text), λ p. read_faultless text p.0 p.1)
