-- What positions tell for sure.
use Rattle.std.specs.List.{list_any}
use Rattle.std.proofs.Common.{◌≡◌, ◌⊎◌, inl, inr, ◌∙◌, ◌<◌, ◌≤◌, ◌+◌, ◌/◌, ◌%◌, ℕ, Bool, true, false, cond, not, List, [], ◌∷◌, ◌++◌, ◌&&◌, ◌||◌, eqb, ltb, length, take, drop, get_or, refl, ap, sym, subst, arith, length-append}
use Rattle.std.proofs.lemmas.Bool.{eqb-true, false≢true}
use Rattle.std.proofs.lemmas.Bool.Decides.{nat_tests, Decides-eqb}
use Rattle.std.proofs.lemmas.List.{get_or_append_left, get_or_past, get_or_push, get_or_read}
use Rattle.std.proofs.lemmas.List.Folds.{list_any-append, list_any_more}
use Rattle.sb_rule.specs.Matching.{matches, StarMatchesAll}
use Rattle.sb_rule.specs.declared.cells.Cell.{Cell}
use Rattle.sb_rule.specs.declared.cells.Cell.TheVariants.{Any}
use Rattle.sb_cover.specs.AskedConds.{by_negation, cond_at, no_cond}
use Rattle.sb_cover.specs.Positions.{cells_at, cells_from, is_position_of, tells}
use Rattle.sb_cover.specs.Pruning.{is_needed, is_true, AreSure, StayNeeded}
use Rattle.sb_cover.specs.TextMachines.{told}
use Rattle.sb_cover.specs.declared.asked_conds.AskedCond.{AskedCond}

-- what is not needed after a change was not before it
pub not_needed_before : (old new : List Bool) (n : ℕ) → StayNeeded old new → is_needed new n ≡ false → is_needed old n ≡ false
not_needed_before old new n stay fails = by (is_needed old n) refl
  where
    by : (b : Bool) → is_needed old n ≡ b → is_needed old n ≡ false
    by true e = absurd (false≢true (sym fails ∙ stay n e))
    by false e = e

-- a position of another pattern tells nothing
pub other_position : (patterns : List (List Cell)) (n position : ℕ) (later : List ℕ) → eqb (position / 512) n ≡ false → is_position_of patterns n later position ≡ false
other_position patterns n position later e = ap (λ b. b && matches (cells_from patterns position) later) e

-- one position more of the patterns that have one
pub live_one : (patterns : List (List Cell)) (positions : List ℕ) (i : ℕ) (old new : List Bool) (n : ℕ) (later : List ℕ) → i < length positions → StayNeeded old new
    → is_needed new (get_or positions i 0 / 512) ≡ true → (is_needed old n ≡ false → tells patterns (take i positions) n later ≡ false)
    → is_needed new n ≡ false → tells patterns (take (i + 1) positions) n later ≡ false
live_one patterns positions i old new n later low stay here before fails =
    list_any_more (is_position_of patterns n later) positions i 0 low
    ∙ (λ j. before (not_needed_before old new n stay fails) j || other_position patterns n (get_or positions i 0) later (apart (eqb (get_or positions i 0 / 512) n) refl) j)
  where
    apart : (b : Bool) → eqb (get_or positions i 0 / 512) n ≡ b → eqb (get_or positions i 0 / 512) n ≡ false
    apart true e = absurd (false≢true (sym fails ∙ ap (is_needed new) (sym (eqb-true (get_or positions i 0 / 512) n e)) ∙ here))
    apart false e = e

or_true : (b : Bool) → (b || true) ≡ true
or_true true = refl
or_true false = refl

-- one position more, at which nothing but a star is left, or another
pub sure_one : (patterns : List (List Cell)) (positions : List ℕ) (i : ℕ) (old new : List Bool) (n : ℕ) (later : List ℕ) → i < length positions
    → (is_true new n ≡ true → (is_true old n ≡ true) ⊎ (get_or positions i 0 / 512 ≡ n))
    → ((later : List ℕ) → is_position_of patterns (get_or positions i 0 / 512) later (get_or positions i 0) ≡ true)
    → (is_true old n ≡ true → tells patterns (take i positions) n later ≡ true)
    → is_true new n ≡ true → tells patterns (take (i + 1) positions) n later ≡ true
sure_one patterns positions i old new n later low set star before is = list_any_more (is_position_of patterns n later) positions i 0 low ∙ by (set is)
  where
    by : (is_true old n ≡ true) ⊎ (get_or positions i 0 / 512 ≡ n) → (tells patterns (take i positions) n later || is_position_of patterns n later (get_or positions i 0)) ≡ true
    by (inl e) = ap (λ b. b || is_position_of patterns n later (get_or positions i 0)) (before e)
    by (inr e) =
        ap (λ b. tells patterns (take i positions) n later || b) (subst (λ m. is_position_of patterns m later (get_or positions i 0) ≡ true) e (star later))
        ∙ or_true (tells patterns (take i positions) n later)

pub sure_same : (patterns : List (List Cell)) (positions : List ℕ) (i : ℕ) (sure : List Bool) (n : ℕ) (later : List ℕ) → i < length positions
    → (is_true sure n ≡ true → tells patterns (take i positions) n later ≡ true) → is_true sure n ≡ true → tells patterns (take (i + 1) positions) n later ≡ true
sure_same patterns positions i sure n later low before is =
    list_any_more (is_position_of patterns n later) positions i 0 low ∙ ap (λ b. b || is_position_of patterns n later (get_or positions i 0)) (before is)

-- a star is left, and nothing after it
pub last_star : StarMatchesAll → (patterns : List (List Cell)) (cells rest more : List Cell) (cell : Cell) (position : ℕ) → position / 512 < length patterns
    → cells ≡ get_or patterns (position / 512) cells → drop (position % 512) cells ≡ rest → rest ≡ cell ∷ more → cell ≡ Any → length more ≡ 0
    → (later : List ℕ) → is_position_of patterns (position / 512) later position ≡ true
last_star law patterns cells rest more cell position low is cut whole star none later =
    let at_place : cells_at patterns (position / 512) ≡ cells = same_read low is in
    let from : cells_from patterns position ≡ Any ∷ [] =
    ap (drop (position % 512)) at_place ∙ cut ∙ whole ∙ (λ j. star j ∷ empty more none j) in
    (λ j. (Decides-eqb (position / 512) (position / 512)).1 refl j && matches (from j) later) ∙ law later
  where
    empty : (xs : List Cell) → length xs ≡ 0 → xs ≡ []
    empty [] h = refl
    empty (x ∷ xs) h = absurd (omega (arith, h))

    same_read : position / 512 < length patterns → cells ≡ get_or patterns (position / 512) cells → cells_at patterns (position / 512) ≡ cells
    same_read low is = sym (get_or_read patterns (position / 512) cells low is [])

-- whether a condition fails or holds for sure
pub fails_by : (negated live sure tell : Bool) → (live ≡ false → tell ≡ false) → (sure ≡ true → tell ≡ true) → cond negated sure (not live) ≡ true → by_negation negated tell ≡ false
fails_by true live sure tell none all e = ap not (all e)
fails_by false true sure tell none all e = absurd (false≢true e)
fails_by false false sure tell none all e = none refl

pub holds_by : (negated live sure tell : Bool) → (live ≡ false → tell ≡ false) → (sure ≡ true → tell ≡ true) → cond negated (not live) sure ≡ true → by_negation negated tell ≡ true
holds_by true true sure tell none all e = absurd (false≢true e)
holds_by true false sure tell none all e = ap not (none refl)
holds_by false live sure tell none all e = all e

-- one condition more
pub sure_more : (fails holds : List Bool) (f : ℕ → Bool) (i : ℕ) (x y : Bool) → length fails ≡ i → length holds ≡ i → (x ≡ true → f i ≡ false) → (y ≡ true → f i ≡ true)
    → AreSure fails holds f → AreSure (fails ++ x ∷ []) (holds ++ y ∷ []) f
sure_more fails holds f i x y many_fails many_holds fail hold sure = record {
  failing = λ n is. pushed fails x i many_fails (λ m. f m ≡ false) sure.failing fail n is;
  holding = λ n is. pushed holds y i many_holds (λ m. f m ≡ true) sure.holding hold n is;
}
  where
    pushed : (flags : List Bool) (flag : Bool) (i : ℕ) → length flags ≡ i → (P : ℕ → Type 0) → ((n : ℕ) → get_or flags n false ≡ true → P n) → (flag ≡ true → P i)
        → (n : ℕ) → get_or (flags ++ flag ∷ []) n false ≡ true → P n
    pushed flags flag i many P before here n is = by (ltb n i) refl (eqb n i) refl
      where
        by : (b : Bool) → ltb n i ≡ b → (c : Bool) → eqb n i ≡ c → P n
        by true e c k =
            let low : n < length flags = grind (arith, nat_tests, many) in
            before n (sym (get_or_append_left flags (flag ∷ []) false n low) ∙ is)
        by false e true k =
            let same : i ≡ n = sym (eqb-true n i k) in
            subst P same (here (sym (get_or_push flags flag false n (many ∙ same)) ∙ is))
        by false e false k =
            let past : length (flags ++ flag ∷ []) ≤ n = grind (arith, nat_tests, many, length-append flags (flag ∷ [])) in
            absurd (false≢true (sym (get_or_past (flags ++ flag ∷ []) n false past) ∙ is))

-- what positions tell of one condition more
pub sure_cond : (conds : List AskedCond) (patterns : List (List Cell)) (positions later : List ℕ) (fails holds live sure : List Bool) (i : ℕ) (asked : AskedCond) (is_live is_sure x y : Bool)
    → i < length conds → asked ≡ get_or conds i asked → length fails ≡ i → length holds ≡ i
    → is_live ≡ is_needed live i → is_sure ≡ is_true sure i
    → ((patterns : List (List Cell)) (n : ℕ) (later : List ℕ) → is_needed live n ≡ false → tells patterns positions n later ≡ false)
    → ((n : ℕ) (later : List ℕ) → is_true sure n ≡ true → tells patterns positions n later ≡ true)
    → x ≡ cond asked.cond.negated is_sure (not is_live) → y ≡ cond asked.cond.negated (not is_live) is_sure
    → AreSure fails holds (told conds patterns positions later) → AreSure (fails ++ x ∷ []) (holds ++ y ∷ []) (told conds patterns positions later)
sure_cond conds patterns positions later fails holds live sure i asked is_live is_sure x y low is many_fails many_holds l s none all xe ye before =
    let read : asked ≡ cond_at conds i = get_or_read conds i asked low is no_cond in
    let known : ltb i (length conds) ≡ true = grind (arith, nat_tests) in
    let tell = tells patterns positions i later in
    let none_told : is_live ≡ false → (ltb i (length conds) && tell) ≡ false = λ h. (λ j. known j && none patterns i later (sym l ∙ h) j) in
    let all_told : is_sure ≡ true → (ltb i (length conds) && tell) ≡ true = λ h. (λ j. known j && all i later (sym s ∙ h) j) in
    let fail : x ≡ true → told conds patterns positions later i ≡ false =
    λ h. ap (λ a. by_negation a.cond.negated (ltb i (length conds) && tell)) (sym read) ∙ fails_by asked.cond.negated is_live is_sure (ltb i (length conds) && tell) none_told all_told (sym xe ∙ h) in
    let hold : y ≡ true → told conds patterns positions later i ≡ true =
    λ h. ap (λ a. by_negation a.cond.negated (ltb i (length conds) && tell)) (sym read) ∙ holds_by asked.cond.negated is_live is_sure (ltb i (length conds) && tell) none_told all_told (sym ye ∙ h) in
    sure_more fails holds (told conds patterns positions later) i x y many_fails many_holds fail hold before
