-- What the states of the machine of strings tell.
use Rattle.std.specs.List.{list_all, list_any}
use Rattle.std.proofs.Common.{◌≡◌, ◌⊎◌, inl, inr, ◌∙◌, ◌≤◌, ◌<◌, ◌+◌, ◌*◌, ◌/◌, ◌%◌, ℕ, Bool, true, false, cond, not, List, [], ◌∷◌, ◌++◌, ◌&&◌, ◌||◌, eqb, ltb, leb, length, map, take, drop, get_or, refl, ap, sym, subst, arith, append_assoc, append-nil}
use Rattle.std.proofs.lemmas.Bool.{eqb-true, false≢true}
use Rattle.std.proofs.lemmas.Bool.Decides.{nat_tests}
use Rattle.std.proofs.Math.ListN.{get_or-map}
use Rattle.std.proofs.lemmas.List.{get_or_past, take_all}
use Rattle.std.proofs.lemmas.List.Folds.{list_any-append, list_any_more}
use Rattle.sb_call.specs.declared.arguments.Arg.TheVariants as arg
use Rattle.sb_explore.specs.Exploring.{is_letter}
use Rattle.sb_rule.specs.Matching.{matches, LiteralsMatchTheSame}
use Rattle.sb_rule.specs.Verdicts.{test_holds}
use Rattle.sb_rule.specs.declared.cells.Cell.{Cell}
use Rattle.sb_rule.specs.declared.cells.Cell.TheVariants.{Lit}
use Rattle.sb_rule.specs.declared.conditions.Test.{Test}
use Rattle.sb_rule.specs.declared.conditions.Test.TheVariants.{OneOf, Range, Mask, Equal, Like}
use Rattle.sb_cover.specs.AskedConds.{by_negation, cond_at, cells_of_cond, cells_of_test, is_met, is_text, met, no_cond, TextsAreMatched}
use Rattle.sb_cover.specs.Letters.{has_letter, is_noted, AreKept, IsStandIn}
use Rattle.sb_cover.specs.Modes.{mode_after, mode_of_word, accepts, is_accepting}
use Rattle.sb_cover.specs.Positions.{cells_at, cells_from, is_position_of, tells}
use Rattle.sb_cover.specs.Pruning.{is_needed, AgreeWhereNeeded, AllDecideAlike, AreSure}
use Rattle.sb_cover.specs.TextMachines.{mode_in, positions_in, told, Tells, LeadsTo, StandsFor, IsLike}
use Rattle.sb_cover.specs.declared.asked_conds.AskedCond.{AskedCond}
use Rattle.sb_cover.specs.declared.open_rules.OpenQuestion.{OpenQuestion}
use Rattle.sb_cover.proofs.LabelLemmas.{alike_alike, same_alike}
use Rattle.sb_cover.proofs.LetterLemmas.{like_same, like_through, letter_in, like_other}
use Rattle.sb_cover.proofs.ModeLemmas.{mode_of_longer, never_accepts, stays}
use Rattle.sb_cover.proofs.SignLemmas.{other_position}

pub texts_are_matched : LiteralsMatchTheSame → TextsAreMatched
texts_are_matched law (OneOf numbers) units = refl
texts_are_matched law (Range lo hi) units = refl
texts_are_matched law (Mask mask) units = refl
texts_are_matched law (Equal text) units = sym (law text units)
texts_are_matched law (Like pattern) units = refl

-- the positions of needed conditions tell of these as all positions do
pub kept_alike : (conds : List AskedCond) (patterns : List (List Cell)) (questions : List OpenQuestion) (positions kept : List ℕ) (needed fails holds : List Bool)
    → ((later : List ℕ) → AreSure fails holds (told conds patterns positions later))
    → ((f g : ℕ → Bool) → AreSure fails holds f → AgreeWhereNeeded needed f g → AllDecideAlike f g questions)
    → ((patterns : List (List Cell)) (n : ℕ) (later : List ℕ) → is_needed needed n ≡ true → tells patterns kept n later ≡ tells patterns positions n later)
    → (later : List ℕ) → AllDecideAlike (told conds patterns positions later) (told conds patterns kept later) questions
kept_alike conds patterns questions positions kept needed fails holds sure alike keep later =
    alike (told conds patterns positions later) (told conds patterns kept later) (sure later)
    (λ n need. ap (λ b. by_negation (cond_at conds n).cond.negated (ltb n (length conds) && b)) (sym (keep patterns n later need)))

-- one position more, which is kept or not
pub kept_one : (patterns : List (List Cell)) (positions kept new : List ℕ) (i n : ℕ) (later : List ℕ) → i < length positions → new ≡ kept ++ get_or positions i 0 ∷ []
    → tells patterns kept n later ≡ tells patterns (take i positions) n later → tells patterns new n later ≡ tells patterns (take (i + 1) positions) n later
kept_one patterns positions kept new i n later low e before =
    ap (λ l. tells patterns l n later) e ∙ list_any-append (is_position_of patterns n later) kept (get_or positions i 0 ∷ [])
    ∙ (λ j. before j || or_false (is_position_of patterns n later (get_or positions i 0)) j)
    ∙ sym (list_any_more (is_position_of patterns n later) positions i 0 low)
  where
    or_false : (b : Bool) → (b || false) ≡ b
    or_false true = refl
    or_false false = refl

pub left_one : (patterns : List (List Cell)) (needed : List Bool) (positions kept : List ℕ) (i n : ℕ) (later : List ℕ) → i < length positions
    → is_needed needed (get_or positions i 0 / 512) ≡ false → is_needed needed n ≡ true
    → tells patterns kept n later ≡ tells patterns (take i positions) n later → tells patterns kept n later ≡ tells patterns (take (i + 1) positions) n later
left_one patterns needed positions kept i n later low out need before =
    before ∙ or_none (tells patterns (take i positions) n later)
    ∙ ap (λ b. tells patterns (take i positions) n later || b) (sym (other_position patterns n (get_or positions i 0) later (apart (eqb (get_or positions i 0 / 512) n) refl)))
    ∙ sym (list_any_more (is_position_of patterns n later) positions i 0 low)
  where
    or_none : (b : Bool) → b ≡ (b || false)
    or_none true = refl
    or_none false = refl

    apart : (b : Bool) → eqb (get_or positions i 0 / 512) n ≡ b → eqb (get_or positions i 0 / 512) n ≡ false
    apart true e = absurd (false≢true (sym out ∙ ap (is_needed needed) (eqb-true (get_or positions i 0 / 512) n e) ∙ need))
    apart false e = e

-- the cells of a condition
pub cells_are : (conds : List AskedCond) (patterns : List (List Cell)) (n : ℕ) → patterns ≡ map cells_of_cond conds → cells_at patterns n ≡ cells_of_cond (cond_at conds n)
cells_are conds patterns n e = ap (λ l. get_or l n []) e ∙ get_or-map cells_of_cond conds n no_cond

-- before the first unit
start_same : TextsAreMatched → (conds : List AskedCond) (patterns : List (List Cell)) (positions units : List ℕ) → patterns ≡ map cells_of_cond conds
    → ((patterns : List (List Cell)) (n : ℕ) (units : List ℕ) → tells patterns positions n units ≡ (is_text (cond_at conds n).cond.test && matches (cells_at patterns n) units))
    → (n : ℕ) → met conds (arg.Str units) n ≡ told conds patterns positions units n
start_same law conds patterns positions units e tell n = ap (by_negation (cond_at conds n).cond.negated) (by (ltb n (length conds)) refl)
  where
    tested : test_holds (cond_at conds n).cond.test (arg.Str units) ≡ tells patterns positions n units
    tested = law (cond_at conds n).cond.test units ∙ ap (λ c. is_text (cond_at conds n).cond.test && matches c units) (sym (cells_are conds patterns n e)) ∙ sym (tell patterns n units)

    by : (b : Bool) → ltb n (length conds) ≡ b → test_holds (cond_at conds n).cond.test (arg.Str units) ≡ (ltb n (length conds) && tells patterns positions n units)
    by true low = tested ∙ sym (ap (λ b. b && tells patterns positions n units) low)
    by false out =
        let past : length conds ≤ n = grind (arith, nat_tests) in
        ap (λ c. test_holds c.cond.test (arg.Str units)) (get_or_past conds n no_cond past) ∙ sym (ap (λ b. b && tells patterns positions n units) out)

start_tells : TextsAreMatched → (conds : List AskedCond) (patterns : List (List Cell)) (questions : List OpenQuestion) (positions kept : List ℕ) → patterns ≡ map cells_of_cond conds
    → ((patterns : List (List Cell)) (n : ℕ) (units : List ℕ) → tells patterns positions n units ≡ (is_text (cond_at conds n).cond.test && matches (cells_at patterns n) units))
    → ((later : List ℕ) → AllDecideAlike (told conds patterns positions later) (told conds patterns kept later) questions)
    → (later : List ℕ) → Tells conds patterns questions later kept later
start_tells law conds patterns questions positions kept e tell prune later =
    alike_alike (met conds (arg.Str later)) (told conds patterns positions later) (told conds patterns kept later) questions
    (same_alike (met conds (arg.Str later)) (told conds patterns positions later) questions (start_same law conds patterns positions later e tell)) (prune later)

pub start_leads : TextsAreMatched → (conds : List AskedCond) (patterns : List (List Cell)) (questions : List OpenQuestion) (first : ℕ) (positions kept : List ℕ) → patterns ≡ map cells_of_cond conds
    → ((patterns : List (List Cell)) (n : ℕ) (units : List ℕ) → tells patterns positions n units ≡ (is_text (cond_at conds n).cond.test && matches (cells_at patterns n) units))
    → ((later : List ℕ) → AllDecideAlike (told conds patterns positions later) (told conds patterns kept later) questions)
    → LeadsTo conds patterns questions first [] (first ∷ kept)
start_leads law conds patterns questions first positions kept e tell prune = record {
  mode = refl;
  tells = λ later h. start_tells law conds patterns questions positions kept e tell prune later;
}

pub start_stands : TextsAreMatched → (conds : List AskedCond) (patterns : List (List Cell)) (questions : List OpenQuestion) (first : ℕ) (positions kept : List ℕ) → patterns ≡ map cells_of_cond conds
    → ((patterns : List (List Cell)) (n : ℕ) (units : List ℕ) → tells patterns positions n units ≡ (is_text (cond_at conds n).cond.test && matches (cells_at patterns n) units))
    → ((later : List ℕ) → AllDecideAlike (told conds patterns positions later) (told conds patterns kept later) questions)
    → StandsFor conds patterns questions first [] (first ∷ kept)
start_stands law conds patterns questions first positions kept e tell prune later h = (h, start_tells law conds patterns questions positions kept e tell prune later)

-- what the positions tell one unit later
step_tells : (conds : List AskedCond) (patterns : List (List Cell)) (questions : List OpenQuestion) (word positions next kept : List ℕ) (unit letter : ℕ) (later : List ℕ)
    → ((k : ℕ) → tells patterns positions k (unit ∷ later) ≡ tells patterns positions k (letter ∷ later))
    → ((k : ℕ) (later : List ℕ) → tells patterns next k later ≡ tells patterns positions k (letter ∷ later))
    → ((later : List ℕ) → AllDecideAlike (told conds patterns next later) (told conds patterns kept later) questions)
    → Tells conds patterns questions (word ++ unit ∷ later) positions (unit ∷ later) → Tells conds patterns questions ((word ++ unit ∷ []) ++ later) kept later
step_tells conds patterns questions word positions next kept unit letter later same step prune before =
    subst (λ l. Tells conds patterns questions l kept later) (sym (append_assoc word (unit ∷ []) later))
    (alike_alike (met conds (arg.Str (word ++ unit ∷ later))) (told conds patterns positions (unit ∷ later)) (told conds patterns kept later) questions before
    (alike_alike (told conds patterns positions (unit ∷ later)) (told conds patterns next later) (told conds patterns kept later) questions
    (same_alike (told conds patterns positions (unit ∷ later)) (told conds patterns next later) questions
    (λ n. ap (λ b. by_negation (cond_at conds n).cond.negated (ltb n (length conds) && b)) (same n ∙ sym (step n later)))) (prune later)))

-- after one unit more
pub leads_more : (conds : List AskedCond) (patterns : List (List Cell)) (questions : List OpenQuestion) (first mode : ℕ) (word positions next kept : List ℕ) (letter : ℕ)
    → ((k : ℕ) (later : List ℕ) → tells patterns next k later ≡ tells patterns positions k (letter ∷ later))
    → ((later : List ℕ) → AllDecideAlike (told conds patterns next later) (told conds patterns kept later) questions)
    → LeadsTo conds patterns questions first word (mode ∷ positions) → LeadsTo conds patterns questions first (word ++ letter ∷ []) (mode_after mode letter ∷ kept)
leads_more conds patterns questions first mode word positions next kept letter step prune before = record {
  mode = ap (λ m. mode_after m letter) before.mode ∙ sym (mode_of_longer first word letter);
  tells = λ later h. step_tells conds patterns questions word positions next kept letter letter later (λ k. refl) step prune (before.tells (letter ∷ later) h);
}

pub stands_more : (conds : List AskedCond) (patterns : List (List Cell)) (questions : List OpenQuestion) (first mode : ℕ) (word positions next kept : List ℕ) (unit letter : ℕ)
    → ((k : ℕ) (later : List ℕ) → tells patterns next k later ≡ tells patterns positions k (letter ∷ later))
    → ((later : List ℕ) → AllDecideAlike (told conds patterns next later) (told conds patterns kept later) questions)
    → IsLike patterns (mode ∷ positions) unit letter
    → StandsFor conds patterns questions first word (mode ∷ positions) → StandsFor conds patterns questions first (word ++ unit ∷ []) (mode_after mode letter ∷ kept)
stands_more conds patterns questions first mode word positions next kept unit letter step prune like before later h =
    let b = before (unit ∷ later) (ap (accepts first) (sym (append_assoc word (unit ∷ []) later)) ∙ h) in
    (like.mode later b.0, step_tells conds patterns questions word positions next kept unit letter later (λ k. like.tells k later) step prune b.1)

-- after a unit with which no name begins
pub leads_dead : (conds : List AskedCond) (patterns : List (List Cell)) (questions : List OpenQuestion) (first mode : ℕ) (word positions : List ℕ) (letter : ℕ)
    → mode_after mode letter ≡ 0 → LeadsTo conds patterns questions first word (mode ∷ positions) → LeadsTo conds patterns questions first (word ++ letter ∷ []) (0 ∷ [])
leads_dead conds patterns questions first mode word positions letter never before = record {
  mode = sym never ∙ ap (λ m. mode_after m letter) before.mode ∙ sym (mode_of_longer first word letter);
  tells = λ later h. absurd (false≢true (sym (never_accepts later) ∙ h));
}

pub stands_dead : (conds : List AskedCond) (patterns : List (List Cell)) (questions : List OpenQuestion) (first mode : ℕ) (word positions : List ℕ) (unit letter : ℕ)
    → mode_after mode letter ≡ 0 → IsLike patterns (mode ∷ positions) unit letter
    → StandsFor conds patterns questions first word (mode ∷ positions) → StandsFor conds patterns questions first (word ++ unit ∷ []) (0 ∷ [])
stands_dead conds patterns questions first mode word positions unit letter never like before later h =
    let b = before (unit ∷ later) (ap (accepts first) (sym (append_assoc word (unit ∷ []) later)) ∙ h) in
    absurd (false≢true (sym (never_accepts later) ∙ ap (λ m. accepts m later) (sym never) ∙ like.mode later b.0))

-- the state without numbers
pub leads_empty : (conds : List AskedCond) (patterns : List (List Cell)) (questions : List OpenQuestion) (first : ℕ) (word : List ℕ) (letter : ℕ)
    → LeadsTo conds patterns questions first word [] → LeadsTo conds patterns questions first (word ++ letter ∷ []) (0 ∷ [])
leads_empty conds patterns questions first word letter before = record {
  mode = sym (stays letter) ∙ ap (λ m. mode_after m letter) before.mode ∙ sym (mode_of_longer first word letter);
  tells = λ later h. absurd (false≢true (sym (never_accepts later) ∙ h));
}

pub stands_empty : (conds : List AskedCond) (patterns : List (List Cell)) (questions : List OpenQuestion) (first : ℕ) (word : List ℕ) (unit : ℕ)
    → StandsFor conds patterns questions first word [] → StandsFor conds patterns questions first (word ++ unit ∷ []) (0 ∷ [])
stands_empty conds patterns questions first word unit before later h =
    let b = before (unit ∷ later) (ap (accepts first) (sym (append_assoc word (unit ∷ []) later)) ∙ h) in
    absurd (false≢true (sym (never_accepts (unit ∷ later)) ∙ b.0))

nothing : (xs : List ℕ) → length xs ≡ 0 → xs ≡ []
nothing [] h = refl
nothing (x ∷ xs) h = absurd (omega (arith, h))

pub leads_none : (conds : List AskedCond) (patterns : List (List Cell)) (questions : List OpenQuestion) (first : ℕ) (word numbers state next : List ℕ) (letter : ℕ) → length numbers ≡ 0
    → numbers ≡ state → next ≡ 0 ∷ [] → LeadsTo conds patterns questions first word state → LeadsTo conds patterns questions first (word ++ letter ∷ []) next
leads_none conds patterns questions first word numbers state next letter none same e before =
    subst (LeadsTo conds patterns questions first (word ++ letter ∷ [])) (sym e)
    (leads_empty conds patterns questions first word letter (subst (LeadsTo conds patterns questions first word) (sym same ∙ nothing numbers none) before))

pub stands_none : (conds : List AskedCond) (patterns : List (List Cell)) (questions : List OpenQuestion) (first : ℕ) (word numbers state next : List ℕ) (unit : ℕ) → length numbers ≡ 0
    → numbers ≡ state → next ≡ 0 ∷ [] → StandsFor conds patterns questions first word state → StandsFor conds patterns questions first (word ++ unit ∷ []) next
stands_none conds patterns questions first word numbers state next unit none same e before =
    subst (StandsFor conds patterns questions first (word ++ unit ∷ [])) (sym e)
    (stands_empty conds patterns questions first word unit (subst (StandsFor conds patterns questions first word) (sym same ∙ nothing numbers none) before))

-- one letter for each unit
pub letter_for : (patterns : List (List Cell)) (letters state : List ℕ) (other : ℕ) → IsStandIn patterns other → has_letter letters other ≡ true
    → list_all (is_noted patterns letters) (positions_in state) ≡ true → (has_letter letters 92 ≡ true) ⊎ (eqb (mode_in state) 5 ≡ true)
    → (unit : ℕ) → (letter : ℕ) × (is_letter letters letter ≡ true) × IsLike patterns state unit letter
letter_for patterns letters state other is here noted slash unit = by (has_letter letters unit) refl
  where
    no_slash : has_letter letters unit ≡ false → (eqb unit 92 ≡ false) ⊎ (eqb (mode_in state) 5 ≡ true)
    no_slash none = either slash
      where
        differ : has_letter letters 92 ≡ true → (b : Bool) → eqb unit 92 ≡ b → eqb unit 92 ≡ false
        differ is true e = absurd (false≢true (sym none ∙ ap (has_letter letters) (eqb-true unit 92 e) ∙ is))
        differ is false e = e

        either : (has_letter letters 92 ≡ true) ⊎ (eqb (mode_in state) 5 ≡ true) → (eqb unit 92 ≡ false) ⊎ (eqb (mode_in state) 5 ≡ true)
        either (inl is) = inl (differ is (eqb unit 92) refl)
        either (inr m) = inr m

    by : (b : Bool) → has_letter letters unit ≡ b → (letter : ℕ) × (is_letter letters letter ≡ true) × IsLike patterns state unit letter
    by true e = let l = letter_in letters unit e in (l.0, l.1, like_same patterns state unit l.0 l.2)
    by false e =
        let l = letter_in letters other here in
        (l.0, l.1, like_through patterns state unit other l.0 (like_other patterns letters state unit other e is noted (no_slash e)) (like_same patterns state other l.0 l.2))

-- the state without numbers has the letters of the mode 0
pub like_empty : (patterns : List (List Cell)) (unit letter : ℕ) → IsLike patterns (0 ∷ []) unit letter → IsLike patterns [] unit letter
like_empty patterns unit letter like = record { mode = like.mode; tells = like.tells }

pub letter_none : (patterns : List (List Cell)) (letters numbers state : List ℕ) → length numbers ≡ 0 → numbers ≡ state
    → ((unit : ℕ) → (letter : ℕ) × (is_letter letters letter ≡ true) × IsLike patterns (0 ∷ []) unit letter)
    → (unit : ℕ) → (letter : ℕ) × (is_letter letters letter ≡ true) × IsLike patterns state unit letter
letter_none patterns letters numbers state none same each unit =
    let l = each unit in
    (l.0, l.1, subst (λ s. IsLike patterns s unit l.0) (sym (nothing numbers none) ∙ same) (like_empty patterns unit l.0 l.2))
