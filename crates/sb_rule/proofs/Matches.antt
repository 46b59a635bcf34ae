-- What patterns match.
use Rattle.std.proofs.Common.{◌≡◌, ℕ, Bool, List, [], ◌∷◌, ◌&&◌, ◌||◌, eqb, map, refl, ap, arith}
use Rattle.std.proofs.lemmas.Bool.Decides.{nat_tests}
use Rattle.sb_base.specs.Wide.{folded}
use Rattle.sb_rule.specs.Matching.{matches, matches_some_rest, fold_cell, LiteralsMatchTheSame, StarMatchesAll, MatchingFoldsTheString, MatchingFoldsTheLiterals}
use Rattle.sb_rule.specs.declared.cells.Cell.TheVariants.{Lit, One, Any}

pub literals_match_the_same : LiteralsMatchTheSame
literals_match_the_same [] [] = refl
literals_match_the_same [] (u ∷ us) = refl
literals_match_the_same (w ∷ ws) [] = refl
literals_match_the_same (w ∷ ws) (u ∷ us) = ap (λ b. eqb (folded u) (folded w) && b) (literals_match_the_same ws us)

pub star_matches_all : StarMatchesAll
star_matches_all [] = refl
star_matches_all (u ∷ us) = star_matches_all us

fold_once : (u : ℕ) → folded (folded u) ≡ folded u
fold_once u = grind (arith, nat_tests)

folded_rest : (f : List ℕ → Bool) → ((us : List ℕ) → f (map folded us) ≡ f us) → (us : List ℕ) → matches_some_rest f (map folded us) ≡ matches_some_rest f us
folded_rest f h [] = h []
folded_rest f h (u ∷ us) = λ i. h (u ∷ us) i || folded_rest f h us i

pub matching_folds_the_string : MatchingFoldsTheString
matching_folds_the_string [] [] = refl
matching_folds_the_string [] (u ∷ us) = refl
matching_folds_the_string (Any ∷ later) us = folded_rest (matches later) (matching_folds_the_string later) us
matching_folds_the_string (Lit w ∷ later) [] = refl
matching_folds_the_string (Lit w ∷ later) (u ∷ us) = λ i. eqb (fold_once u i) (folded w) && matching_folds_the_string later us i
matching_folds_the_string (One ∷ later) [] = refl
matching_folds_the_string (One ∷ later) (u ∷ us) = matching_folds_the_string later us

other_rest : (f g : List ℕ → Bool) → ((us : List ℕ) → f us ≡ g us) → (us : List ℕ) → matches_some_rest f us ≡ matches_some_rest g us
other_rest f g h [] = h []
other_rest f g h (u ∷ us) = λ i. h (u ∷ us) i || other_rest f g h us i

pub matching_folds_the_literals : MatchingFoldsTheLiterals
matching_folds_the_literals [] us = refl
matching_folds_the_literals (Any ∷ later) us = other_rest (matches (map fold_cell later)) (matches later) (matching_folds_the_literals later) us
matching_folds_the_literals (Lit w ∷ later) [] = refl
matching_folds_the_literals (Lit w ∷ later) (u ∷ us) = λ i. eqb (folded u) (fold_once w i) && matching_folds_the_literals later us i
matching_folds_the_literals (One ∷ later) [] = refl
matching_folds_the_literals (One ∷ later) (u ∷ us) = matching_folds_the_literals later us
