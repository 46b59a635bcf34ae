-- The first place where a fragment occurs can be taken without loss if a `*` follows it.
use Rattle.std.proofs.Math.Bool.{or-false, and-false}
use Rattle.std.specs.Prelude.{Option, None, Some, option_and_then, is_some}
use Rattle.std.specs.List.{list_all, prefix_len}
use Rattle.std.specs.Option.{option_or}
use Rattle.std.proofs.Common.{◌≡◌, ◌∙◌, ℕ, ◌-◌, zero, suc, Bool, true, false, not, cond, List, [], ◌∷◌, ◌++◌, ◌&&◌, ◌||◌, eqb, leb, length, drop, map, refl, ap, sym, arith}
use Rattle.std.proofs.Math.Seq.{drop-nil}
use Rattle.std.proofs.lemmas.Bool.{false≢true, eq-eqb, eqb-true, le-leb, leb-false, leb-true, lt-leb, ne_eqb}
use Rattle.std.proofs.lemmas.Bool.Decides.{nat_tests}
use Rattle.sb_base.specs.Wide.{folded, is_same}
use Rattle.sb_rule.specs.Chunks.{is_any}
use Rattle.sb_rule.specs.Matching.{matches, matches_some_rest}
use Rattle.sb_rule.specs.declared.cells.Cell.{Cell}
use Rattle.sb_rule.specs.declared.cells.Cell.TheVariants.{Lit, One, Any}
use Rattle.sb_opcode.specs.declared.opcodes.Seek.TheVariants.{Skip}
use Rattle.sb_opcode.specs.Fragments.{unit_fits, after_fragment, after_units, after_first, after_end, after_seek, at_end}
use Rattle.sb_compile.specs.Compiling.{is_one}

-- cells without `*`
abbrev pub is_free : List Cell → Bool
is_free run = list_all (λ c. not (is_any c)) run

-- something is left, and the test holds of it
abbrev pub holds_of : (List ℕ → Bool) → Option (List ℕ) → Bool
holds_of test None = false
holds_of test (Some us) = test us

if_fits : (b : Bool) {m : Bool} (test : List ℕ → Bool) (left : Option (List ℕ)) → m ≡ holds_of test left → (b && m) ≡ holds_of test (cond b left None)
if_fits true test left e = e
if_fits false test left e = refl

-- cells without `*` match if they occur as a fragment, and the cells after them match what is left
pub free_first : (run later : List Cell) (us : List ℕ) → is_free run ≡ true
    → matches (run ++ later) us ≡ holds_of (matches later) (after_fragment true run us)
free_first [] later us free = refl
free_first (Any ∷ run) later us free = absurd (false≢true free)
free_first (Lit w ∷ run) later [] free = refl
free_first (One ∷ run) later [] free = refl
free_first (One ∷ run) later (u ∷ us) free = free_first run later us free
free_first (Lit w ∷ run) later (u ∷ us) free = if_fits (eqb (folded u) (folded w)) (matches later) (after_fragment true run us) (free_first run later us free)

-- a test that holds of a longer string if it holds of its rest
abbrev Grows : (List ℕ → Bool) → Type 0
Grows test = (u : ℕ) (us : List ℕ) → test us ≡ true → test (u ∷ us) ≡ true

some_rest_grows : (test : List ℕ → Bool) → Grows (matches_some_rest test)
some_rest_grows test u us h = by (test (u ∷ us))
  where
    by : (b : Bool) → (b || matches_some_rest test us) ≡ true
    by true = refl
    by false = h

abbrev some_left : Option (List ℕ) → Bool
some_left None = false
some_left (Some us) = true

abbrev left_of : Option (List ℕ) → List ℕ
left_of None = []
left_of (Some us) = us

rest_if : (b : Bool) {dropped rest : List ℕ} (left : Option (List ℕ)) → (left ≡ Some rest → dropped ≡ rest) → cond b left None ≡ Some rest → dropped ≡ rest
rest_if true left h e = h e
rest_if false left h e = absurd (false≢true (ap some_left e))

-- what is left after a fragment
pub fragment_rest : (run : List Cell) (us rest : List ℕ) → after_fragment true run us ≡ Some rest → drop (length run) us ≡ rest
fragment_rest [] us rest e = ap left_of e
fragment_rest (c ∷ run) [] rest e = absurd (false≢true (ap some_left e))
fragment_rest (c ∷ run) (u ∷ us) rest e = rest_if (unit_fits true c u) (after_fragment true run us) (fragment_rest run us rest) e

grows_by : (test : List ℕ → Bool) → Grows test → (n u : ℕ) (us : List ℕ) → test (drop n us) ≡ true → test (drop n (u ∷ us)) ≡ true
grows_by test more zero u us h = more u us h
grows_by test more (suc n) u [] h = ap test (drop-nil n) ∙ h
grows_by test more (suc n) u (v ∷ us) h = grows_by test more n v us h

-- if the rest after the first place of a fragment passes, what follows this many units passes
first_passes : (test : List ℕ → Bool) → Grows test → (run : List Cell) (us : List ℕ)
    → holds_of test (after_first true run us) ≡ true → test (drop (length run) us) ≡ true
first_passes test more run [] h = one_passes (after_fragment true run []) (fragment_rest run []) h
  where
    one_passes : (left : Option (List ℕ)) → ((rest : List ℕ) → left ≡ Some rest → drop (length run) [] ≡ rest) → holds_of test left ≡ true → test (drop (length run) []) ≡ true
    one_passes None is h = absurd (false≢true h)
    one_passes (Some rest) is h = ap test (is rest refl) ∙ h
first_passes test more run (u ∷ us) h =
    one_or (after_fragment true run (u ∷ us)) (fragment_rest run (u ∷ us)) (first_passes test more run us) h
  where
    one_or : (left : Option (List ℕ)) → ((rest : List ℕ) → left ≡ Some rest → drop (length run) (u ∷ us) ≡ rest)
        → (holds_of test (after_first true run us) ≡ true → test (drop (length run) us) ≡ true)
        → holds_of test (option_or left (after_first true run us)) ≡ true → test (drop (length run) (u ∷ us)) ≡ true
    one_or None is later h = grows_by test more (length run) u us (later h)
    one_or (Some rest) is later h = ap test (is rest refl) ∙ h

-- after the first place nothing is gained by a later one
first_enough : (test : List ℕ → Bool) (left later : Option (List ℕ)) → ((rest : List ℕ) → left ≡ Some rest → holds_of test later ≡ true → test rest ≡ true)
    → (holds_of test left || holds_of test later) ≡ holds_of test (option_or left later)
first_enough test None later h = refl
first_enough test (Some rest) later h = by (test rest) (holds_of test later) (h rest refl)
  where
    by : (a b : Bool) → (b ≡ true → a ≡ true) → (a || b) ≡ a
    by true b h = refl
    by false true h = sym (h refl)
    by false false h = refl

-- a fragment between two `*` can be taken at its first place
pub first_place : (run later : List Cell) (us : List ℕ) → is_free run ≡ true
    → matches (Any ∷ run ++ Any ∷ later) us ≡ holds_of (matches (Any ∷ later)) (after_first true run us)
first_place run later [] free = free_first run (Any ∷ later) [] free
first_place run later (u ∷ us) free =
    let test = matches (Any ∷ later) in
    let more = some_rest_grows (matches later) in
    (λ i. free_first run (Any ∷ later) (u ∷ us) free i || first_place run later us free i)
    ∙ first_enough test (after_fragment true run (u ∷ us)) (after_first true run us)
    (λ rest e h. ap test (sym (fragment_rest run (u ∷ us) rest e)) ∙ grows_by test more (length run) u us (first_passes test more run us h))

-- this many units
pub units_none : (us : List ℕ) → after_units 0 us ≡ Some us
units_none us = let e : leb 0 (length us) ≡ true = le-leb 0 (length us) (omega arith) in ap (λ b. cond b (Some us) None) e

units_short : (n : ℕ) → after_units (suc n) [] ≡ None
units_short n = let e : leb (suc n) 0 ≡ false = lt-leb (suc n) 0 (omega arith) in ap (λ b. cond b (Some []) None) e

units_step : (n u : ℕ) (us : List ℕ) → after_units (suc n) (u ∷ us) ≡ after_units n us
units_step n u us = let e : leb (suc n) (suc (length us)) ≡ leb n (length us) = grind (arith, nat_tests) in ap (λ b. cond b (Some (drop n us)) None) e

one_more : (run : List Cell) → prefix_len is_one (One ∷ run) ≡ suc (prefix_len is_one run)
one_more run = omega arith

-- the `?` at the front are skipped
pub skip_free : (run : List Cell) (us : List ℕ) → after_seek (Skip (prefix_len is_one run)) true (drop (prefix_len is_one run) run) us ≡ after_fragment true run us
skip_free [] us = ap (option_and_then (after_fragment true [])) (units_none us)
skip_free (Any ∷ run) us = ap (option_and_then (after_fragment true (Any ∷ run))) (units_none us)
skip_free (Lit w ∷ run) us = ap (option_and_then (after_fragment true (Lit w ∷ run))) (units_none us)
skip_free (One ∷ run) [] =
    ap (λ n. after_seek (Skip n) true (drop n (One ∷ run)) []) (one_more run)
    ∙ ap (option_and_then (after_fragment true (drop (prefix_len is_one run) run))) (units_short (prefix_len is_one run))
skip_free (One ∷ run) (u ∷ us) =
    ap (λ n. after_seek (Skip n) true (drop n (One ∷ run)) (u ∷ us)) (one_more run)
    ∙ ap (option_and_then (after_fragment true (drop (prefix_len is_one run) run))) (units_step (prefix_len is_one run) u us) ∙ skip_free run us

-- cells without `*` alone match if the string ends with them
pub free_alone : (run : List Cell) (us : List ℕ) → is_free run ≡ true → matches run us ≡ is_some (at_end (after_fragment true run us))
free_alone [] [] free = refl
free_alone [] (u ∷ us) free = refl
free_alone (Any ∷ run) us free = absurd (false≢true free)
free_alone (Lit w ∷ run) [] free = refl
free_alone (One ∷ run) [] free = refl
free_alone (One ∷ run) (u ∷ us) free = free_alone run us free
free_alone (Lit w ∷ run) (u ∷ us) free = by (eqb (folded u) (folded w)) (free_alone run us free)
  where
    by : (b : Bool) → matches run us ≡ is_some (at_end (after_fragment true run us)) → (b && matches run us) ≡ is_some (at_end (cond b (after_fragment true run us) None))
    by true e = e
    by false e = refl

uneven : (n : ℕ) → eqb 0 (suc n) ≡ false
uneven n = ne_eqb 0 (suc n) (λ e. absurd (omega (arith, e)))

uneven_too : (n : ℕ) → eqb (suc n) 0 ≡ false
uneven_too n = ne_eqb (suc n) 0 (λ e. absurd (omega (arith, e)))

even : (n m : ℕ) → eqb (suc n) (suc m) ≡ eqb n m
even n m = grind (arith, nat_tests)

-- and if they are as many as the units and are at the front
pub free_whole : (run : List Cell) (us : List ℕ) → is_free run ≡ true → matches run us ≡ (eqb (length run) (length us) && is_some (after_fragment true run us))
free_whole [] [] free = refl
free_whole [] (u ∷ us) free = ap (λ b. b && true) (sym (uneven (length us)))
free_whole (Any ∷ run) us free = absurd (false≢true free)
free_whole (Lit w ∷ run) [] free = ap (λ b. b && false) (sym (uneven_too (length run)))
free_whole (One ∷ run) [] free = ap (λ b. b && false) (sym (uneven_too (length run)))
free_whole (One ∷ run) (u ∷ us) free =
    free_whole run us free ∙ ap (λ b. b && is_some (after_fragment true run us)) (sym (even (length run) (length us)))
free_whole (Lit w ∷ run) (u ∷ us) free =
    by (eqb (folded u) (folded w)) (free_whole run us free)
    ∙ ap (λ b. b && is_some (cond (eqb (folded u) (folded w)) (after_fragment true run us) None)) (sym (even (length run) (length us)))
  where
    by : (b : Bool) → matches run us ≡ (eqb (length run) (length us) && is_some (after_fragment true run us))
        → (b && matches run us) ≡ (eqb (length run) (length us) && is_some (cond b (after_fragment true run us) None))
    by true e = e
    by false e = sym (and-false (eqb (length run) (length us)))

-- the last place before which this many units are left
end_step : (run : List Cell) (u : ℕ) (us : List ℕ) (low same high : Bool)
    → leb (length run) (length us) ≡ low → eqb (length run) (suc (length us)) ≡ same → leb (length run) (suc (length us)) ≡ high
    → ((same && is_some (after_fragment true run (u ∷ us))) || is_some (cond low (after_fragment true run (drop (length us - length run) us)) None))
    ≡ is_some (cond high (after_fragment true run (drop (suc (length us) - length run) (u ∷ us))) None)
end_step run u us true true high l s h = absurd (omega (arith, leb-true (length run) (length us) l, eqb-true (length run) (suc (length us)) s))
end_step run u us true false false l s h = absurd (omega (arith, leb-true (length run) (length us) l, leb-false (length run) (suc (length us)) h))
end_step run u us true false true l s h =
    let e : suc (length us) - length run ≡ suc (length us - length run) = omega (arith, leb-true (length run) (length us) l) in
    ap (λ n. is_some (after_fragment true run (drop n (u ∷ us)))) (sym e)
end_step run u us false true false l s h = absurd (omega (arith, eqb-true (length run) (suc (length us)) s, leb-false (length run) (suc (length us)) h))
end_step run u us false true true l s h =
    let e : suc (length us) - length run ≡ 0 = omega (arith, eqb-true (length run) (suc (length us)) s) in
    or-false (is_some (after_fragment true run (u ∷ us))) ∙ ap (λ n. is_some (after_fragment true run (drop n (u ∷ us)))) (sym e)
end_step run u us false false true l s h = absurd (grind (arith, nat_tests))
end_step run u us false false false l s h = refl

-- a fragment after a `*`, with nothing after it, is at the end
pub at_the_end : (run : List Cell) (us : List ℕ) → is_free run ≡ true → matches (Any ∷ run) us ≡ is_some (after_end true run us)
at_the_end run [] free =
    free_whole run [] free ∙ none_step (eqb (length run) 0) (leb (length run) 0) refl refl
  where
    none_step : (same low : Bool) → eqb (length run) 0 ≡ same → leb (length run) 0 ≡ low
        → (same && is_some (after_fragment true run [])) ≡ is_some (cond low (after_fragment true run (drop (0 - length run) [])) None)
    none_step true true s l = ap (λ us. is_some (after_fragment true run us)) (sym (drop-nil (0 - length run)))
    none_step true false s l = absurd (omega (arith, eqb-true (length run) 0 s, leb-false (length run) 0 l))
    none_step false true s l = absurd (false≢true (sym s ∙ eq-eqb (length run) 0 (omega (arith, leb-true (length run) 0 l))))
    none_step false false s l = refl
at_the_end run (u ∷ us) free =
    (λ i. free_whole run (u ∷ us) free i || at_the_end run us free i)
    ∙ end_step run u us (leb (length run) (length us)) (eqb (length run) (suc (length us))) (leb (length run) (suc (length us))) refl refl refl

-- `*` alone
pub star_matches_all : (us : List ℕ) → matches (Any ∷ []) us ≡ true
star_matches_all [] = refl
star_matches_all (u ∷ us) = star_matches_all us

-- a string is the same as another if it ends with the other's units
pub same_alone : (text us : List ℕ) → is_same us text ≡ is_some (at_end (after_fragment true (map Lit text) us))
same_alone [] [] = refl
same_alone [] (u ∷ us) = refl
same_alone (w ∷ text) [] = refl
same_alone (w ∷ text) (u ∷ us) = by (eqb (folded u) (folded w)) (same_alone text us)
  where
    by : (b : Bool) → is_same us text ≡ is_some (at_end (after_fragment true (map Lit text) us))
        → (b && is_same us text) ≡ is_some (at_end (cond b (after_fragment true (map Lit text) us) None))
    by true e = e
    by false e = refl
