-- What a unit does to a position.
use Rattle.std.specs.Prelude.{nat_lt}
use Rattle.std.specs.List.{list_any}
use Rattle.std.proofs.Common.{◌≡◌, ◌∙◌, ◌≤◌, ◌<◌, ◌+◌, ◌*◌, ◌/◌, ◌%◌, ◌^◌, ℕ, Bool, true, false, List, [], ◌∷◌, ◌++◌, ◌&&◌, ◌||◌, eqb, ltb, length, drop, get_or, refl, ap, sym, subst, arith}
use Rattle.std.proofs.lemmas.Bool.{eqb-true}
use Rattle.std.proofs.lemmas.Bool.Decides.{nat_tests}
use Rattle.std.proofs.lemmas.List.{drop-drop, drop_all, get_or_past}
use Rattle.std.proofs.lemmas.List.Folds.{list_any-append}
use Rattle.sb_base.specs.Wide.{folded}
use Rattle.sb_rule.specs.Matching.{matches, matches_some_rest}
use Rattle.sb_rule.specs.declared.cells.Cell.{Cell}
use Rattle.sb_rule.specs.declared.cells.Cell.TheVariants.{Lit, One, Any}
use Rattle.sb_cover.specs.Positions.{cells_at, cells_from, is_of, is_position_of, tells, IsFrom}

-- the next position is of the same pattern
same_pattern : (position : ℕ) → position % 512 + 1 < 512 → (position + 1) / 512 ≡ position / 512
same_pattern position h = omega arith

next_place : (position : ℕ) → position % 512 + 1 < 512 → (position + 1) % 512 ≡ position % 512 + 1
next_place position h = omega arith

drop_one : (cell : Cell) (rest cells : List Cell) (n : ℕ) → drop n cells ≡ cell ∷ rest → drop (n + 1) cells ≡ rest
drop_one cell rest cells n e = sym (drop-drop 1 n cells) ∙ ap (drop 1) e

-- the cells after the first of them are those from the next position on
pub from_next : (patterns : List (List Cell)) (position : ℕ) (cell : Cell) (rest : List Cell) → IsFrom patterns position (cell ∷ rest) → IsFrom patterns (position + 1) rest
from_next patterns position cell rest from =
    let inside : position % 512 + 1 < 512 = omega (arith, from.within) in
    let place = next_place position inside in
    record {
      are = (λ i. drop (place i) (cells_at patterns (same_pattern position inside i))) ∙ drop_one cell rest (cells_at patterns (position / 512)) (position % 512) from.are;
      within = omega (arith, from.within, place);
    }

-- what is told of the next position
told_next : (patterns : List (List Cell)) (position k : ℕ) (units : List ℕ) (cell : Cell) (rest : List Cell) → IsFrom patterns position (cell ∷ rest)
    → is_position_of patterns k units (position + 1) ≡ is_of k rest units position
told_next patterns position k units cell rest from =
    let inside : position % 512 + 1 < 512 = omega (arith, from.within) in
    let next = from_next patterns position cell rest from in
    λ i. eqb (same_pattern position inside i) k && matches (next.are i) units

or_nothing : (t e : Bool) → t ≡ (t || (e && false))
or_nothing true e = refl
or_nothing false true = refl
or_nothing false false = refl

any_step : (t e a b : Bool) → ((t || (e && b)) || (e && a)) ≡ (t || (e && (a || b)))
any_step true e a b = refl
any_step false false a b = refl
any_step false true true true = refl
any_step false true true false = refl
any_step false true false true = refl
any_step false true false false = refl

-- a `*`
pub told_any : (patterns : List (List Cell)) (position k : ℕ) (later : List ℕ) (unit : ℕ) (rest : List Cell) (old put new : Bool) → IsFrom patterns position (Any ∷ rest)
    → put ≡ (old || is_position_of patterns k later position) → new ≡ (put || is_of k rest (unit ∷ later) (position + 1))
    → new ≡ (old || is_of k (Any ∷ rest) (unit ∷ later) position)
told_any patterns position k later unit rest old put new from p n =
    let inside : position % 512 + 1 < 512 = omega (arith, from.within) in
    n ∙ (λ i. p i || (eqb (same_pattern position inside i) k && matches rest (unit ∷ later)))
    ∙ (λ i. (old || (eqb (position / 512) k && matches (from.are i) later)) || (eqb (position / 512) k && matches rest (unit ∷ later)))
    ∙ any_step old (eqb (position / 512) k) (matches rest (unit ∷ later)) (matches_some_rest (matches rest) later)

-- a `?`
pub told_one : (patterns : List (List Cell)) (position k : ℕ) (later : List ℕ) (unit : ℕ) (rest : List Cell) (old new : Bool) → IsFrom patterns position (One ∷ rest)
    → new ≡ (old || is_position_of patterns k later (position + 1)) → new ≡ (old || is_of k (One ∷ rest) (unit ∷ later) position)
told_one patterns position k later unit rest old new from n = n ∙ ap (λ b. old || b) (told_next patterns position k later One rest from)

-- a literal that matches
pub told_alike : (patterns : List (List Cell)) (position k : ℕ) (later : List ℕ) (unit wanted : ℕ) (rest : List Cell) (old new : Bool) → IsFrom patterns position (Lit wanted ∷ rest)
    → eqb (folded unit) (folded wanted) ≡ true
    → new ≡ (old || is_position_of patterns k later (position + 1)) → new ≡ (old || is_of k (Lit wanted ∷ rest) (unit ∷ later) position)
told_alike patterns position k later unit wanted rest old new from alike n =
    n ∙ ap (λ b. old || b) (told_next patterns position k later (Lit wanted) rest from) ∙ ap (λ b. old || (eqb (position / 512) k && (b && matches rest later))) (sym alike)

-- a literal that does not match
pub told_unlike : (position k : ℕ) (later : List ℕ) (unit wanted : ℕ) (rest : List Cell) (old : Bool)
    → eqb (folded unit) (folded wanted) ≡ false → old ≡ (old || is_of k (Lit wanted ∷ rest) (unit ∷ later) position)
told_unlike position k later unit wanted rest old unlike =
    or_nothing old (eqb (position / 512) k) ∙ ap (λ b. old || (eqb (position / 512) k && (b && matches rest later))) (sym unlike)

-- no cell
pub told_none : (position k : ℕ) (later : List ℕ) (unit : ℕ) (old : Bool) → old ≡ (old || is_of k [] (unit ∷ later) position)
told_none position k later unit old = or_nothing old (eqb (position / 512) k)

-- a position that is past the cells of its pattern
pub left_past : (patterns : List (List Cell)) (position k : ℕ) (later : List ℕ) (unit : ℕ) (old : Bool) → length (cells_at patterns (position / 512)) ≤ position % 512
    → old ≡ (old || is_position_of patterns k (unit ∷ later) position)
left_past patterns position k later unit old past =
    told_none position k later unit old ∙ ap (λ cells. old || is_of k cells (unit ∷ later) position) (sym (drop_all (position % 512) (cells_at patterns (position / 512)) past))

spot_of : (i : ℕ) → (i * 512) / 512 ≡ i
spot_of i = omega arith

place_of : (i : ℕ) → (i * 512) % 512 ≡ 0
place_of i = omega arith

or_false : (b : Bool) → (b || false) ≡ b
or_false true = refl
or_false false = refl

first_here : (k i : ℕ) (b c : Bool) → (i ≡ k → c ≡ b) → ((ltb k i && b) || ((eqb i k && c) || false)) ≡ (ltb k (i + 1) && b)
first_here k i b c same = by (eqb i k) refl
  where
    by : (t : Bool) → eqb i k ≡ t → ((ltb k i && b) || ((eqb i k && c) || false)) ≡ (ltb k (i + 1) && b)
    by true e =
        let is : i ≡ k = eqb-true i k e in
        let alike : c ≡ b = same is in
        let low : ltb k i ≡ false = grind (arith, nat_tests) in
        let high : ltb k (i + 1) ≡ true = grind (arith, nat_tests) in
        (λ j. (low j && b) || ((e j && alike j) || false)) ∙ or_false b ∙ ap (λ t. t && b) (sym high)
    by false e =
        let below : ltb k (i + 1) ≡ ltb k i = grind (arith, nat_tests) in
        (λ j. (ltb k i && b) || ((e j && c) || false)) ∙ or_false (ltb k i && b) ∙ ap (λ t. t && b) (sym below)

-- the first position of one pattern more
pub told_first : (patterns : List (List Cell)) (positions : List ℕ) (i k : ℕ) (units : List ℕ) → tells patterns positions k units ≡ (ltb k i && matches (cells_at patterns k) units)
    → tells patterns (positions ++ i * 512 ∷ []) k units ≡ (ltb k (i + 1) && matches (cells_at patterns k) units)
told_first patterns positions i k units h =
    list_any-append (is_position_of patterns k units) positions (i * 512 ∷ [])
    ∙ (λ j. h j || ((eqb (spot_of i j) k && matches (drop (place_of i j) (cells_at patterns (spot_of i j))) units) || false))
    ∙ first_here k i (matches (cells_at patterns k) units) (matches (cells_at patterns i) units) (λ e. ap (λ n. matches (cells_at patterns n) units) e)

-- the same, of cells whose first is known
pub first_any : (patterns : List (List Cell)) (position k : ℕ) (later : List ℕ) (unit : ℕ) (cells rest : List Cell) (cell : Cell) (old put new : List ℕ)
    → cells ≡ cell ∷ rest → cell ≡ Any → IsFrom patterns position cells
    → ((test : ℕ → Bool) → list_any test put ≡ (list_any test old || test position))
    → (IsFrom patterns (position + 1) rest → tells patterns new k later ≡ (tells patterns put k later || is_of k rest (unit ∷ later) (position + 1)))
    → tells patterns new k later ≡ (tells patterns old k later || is_of k cells (unit ∷ later) position)
first_any patterns position k later unit cells rest cell old put new e c from p n =
    let whole : cells ≡ Any ∷ rest = e ∙ ap (λ x. x ∷ rest) c in
    let from_any : IsFrom patterns position (Any ∷ rest) = subst (IsFrom patterns position) whole from in
    told_any patterns position k later unit rest (tells patterns old k later) (tells patterns put k later) (tells patterns new k later) from_any
    (p (is_position_of patterns k later)) (n (from_next patterns position Any rest from_any))
    ∙ ap (λ l. tells patterns old k later || is_of k l (unit ∷ later) position) (sym whole)

pub first_one : (patterns : List (List Cell)) (position k : ℕ) (later : List ℕ) (unit : ℕ) (cells rest : List Cell) (cell : Cell) (old new : List ℕ)
    → cells ≡ cell ∷ rest → cell ≡ One → IsFrom patterns position cells
    → ((test : ℕ → Bool) → list_any test new ≡ (list_any test old || test (position + 1)))
    → tells patterns new k later ≡ (tells patterns old k later || is_of k cells (unit ∷ later) position)
first_one patterns position k later unit cells rest cell old new e c from p =
    let whole : cells ≡ One ∷ rest = e ∙ ap (λ x. x ∷ rest) c in
    told_one patterns position k later unit rest (tells patterns old k later) (tells patterns new k later) (subst (IsFrom patterns position) whole from) (p (is_position_of patterns k later))
    ∙ ap (λ l. tells patterns old k later || is_of k l (unit ∷ later) position) (sym whole)

pub first_alike : (patterns : List (List Cell)) (position k : ℕ) (later : List ℕ) (unit wanted : ℕ) (cells rest : List Cell) (cell : Cell) (old new : List ℕ)
    → cells ≡ cell ∷ rest → cell ≡ Lit wanted → IsFrom patterns position cells → eqb (folded unit) (folded wanted) ≡ true
    → ((test : ℕ → Bool) → list_any test new ≡ (list_any test old || test (position + 1)))
    → tells patterns new k later ≡ (tells patterns old k later || is_of k cells (unit ∷ later) position)
first_alike patterns position k later unit wanted cells rest cell old new e c from alike p =
    let whole : cells ≡ Lit wanted ∷ rest = e ∙ ap (λ x. x ∷ rest) c in
    told_alike patterns position k later unit wanted rest (tells patterns old k later) (tells patterns new k later) (subst (IsFrom patterns position) whole from) alike
    (p (is_position_of patterns k later))
    ∙ ap (λ l. tells patterns old k later || is_of k l (unit ∷ later) position) (sym whole)

-- a position of a pattern that is not there
pub left_none : (patterns : List (List Cell)) (position k : ℕ) (later : List ℕ) (unit : ℕ) (old : Bool) → length patterns ≤ position / 512
    → old ≡ (old || is_position_of patterns k (unit ∷ later) position)
left_none patterns position k later unit old past =
    let none : cells_at patterns (position / 512) ≡ [] = get_or_past patterns (position / 512) [] past in
    let short : length (cells_at patterns (position / 512)) ≤ position % 512 = omega (arith, ap length none) in
    left_past patterns position k later unit old short
