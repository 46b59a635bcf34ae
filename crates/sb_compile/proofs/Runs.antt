-- The opcodes of a pattern hold if the pattern matches.
use Rattle.std.specs.Prelude.{Option, None, Some, option_map, option_and_then, is_some}
use Rattle.std.specs.List.{slice_split, onto_first, list_all}
use Rattle.std.proofs.Common.{◌≡◌, ◌∙◌, ℕ, Bool, true, false, not, List, [], ◌∷◌, ◌++◌, ◌&&◌, refl, ap, sym}
use Rattle.std.proofs.lemmas.Bool.{and_parts}
use Rattle.sb_call.specs.declared.arguments.Arg.{Arg}
use Rattle.sb_call.specs.declared.arguments.Arg.TheVariants as arg
use Rattle.sb_rule.specs.Chunks.{is_any}
use Rattle.sb_rule.specs.Matching.{matches}
use Rattle.sb_rule.specs.declared.cells.Cell.{Cell}
use Rattle.sb_rule.specs.declared.cells.Cell.TheVariants.{Lit, One, Any}
use Rattle.sb_opcode.specs.Opcodes.{Opcode}
use Rattle.sb_opcode.specs.Fragments.{after_fragment, after_first, after_end, at_end}
use Rattle.sb_opcode.specs.Meaning.{after_all}
use Rattle.sb_compile.specs.Compiling.{first_code, later_code, or_true, runs_code}
use Rattle.sb_compile.specs.Laws.{PatternOpcodesHoldWhereItMatches}
use Rattle.sb_compile.proofs.Seeking.{is_free, holds_of, free_first, first_place, skip_free, free_alone, at_the_end, star_matches_all}

-- runs with a `*` between each two
abbrev pub joined : List Cell → List (List Cell) → List Cell
joined run [] = run
joined run (next ∷ runs) = run ++ Any ∷ joined next runs

abbrev pub are_free : List (List Cell) → Bool
are_free runs = list_all is_free runs

-- the runs of cells
pub record Runs (cells : List Cell) : Type 0 where
  pub first : List Cell
  pub others : List (List Cell)
  pub are : slice_split is_any cells ≡ first ∷ others
  pub join : joined first others ≡ cells
  pub first_free : is_free first ≡ true
  pub others_free : are_free others ≡ true

joined_onto : (c : Cell) (run : List Cell) (runs : List (List Cell)) → joined (c ∷ run) runs ≡ c ∷ joined run runs
joined_onto c run [] = refl
joined_onto c run (next ∷ runs) = refl

onto : (c : Cell) (cells : List Cell) → is_any c ≡ false → slice_split is_any (c ∷ cells) ≡ onto_first c (slice_split is_any cells) → Runs cells → Runs (c ∷ cells)
onto c cells free split r = record {
  first = c ∷ r.first;
  others = r.others;
  are = split ∙ ap (onto_first c) r.are;
  join = joined_onto c r.first r.others ∙ ap (λ l. c ∷ l) r.join;
  first_free = (λ i. not (free i) && r.first_free i);
  others_free = r.others_free;
}

pub runs_of : (cells : List Cell) → Runs cells
runs_of [] = record { first = []; others = []; are = refl; join = refl; first_free = refl; others_free = refl }
runs_of (Any ∷ cells) =
    let r = runs_of cells in
    record { first = []; others = r.first ∷ r.others; are = ap (λ l. [] ∷ l) r.are; join = ap (λ l. Any ∷ l) r.join; first_free = refl; others_free = (λ i. r.first_free i && r.others_free i) }
runs_of (One ∷ cells) = onto One cells refl refl (runs_of cells)
runs_of (Lit u ∷ cells) = onto (Lit u) cells refl refl (runs_of cells)

pub last_alone : (left : Option (List ℕ)) → is_some (option_and_then (after_all []) (option_map arg.Str left)) ≡ is_some left
last_alone None = refl
last_alone (Some us) = refl

then_same : (f : Arg → Option Arg) (test : List ℕ → Bool) → ((us : List ℕ) → is_some (f (arg.Str us)) ≡ test us) → (left : Option (List ℕ))
    → is_some (option_and_then f (option_map arg.Str left)) ≡ holds_of test left
then_same f test h None = refl
then_same f test h (Some us) = h us

-- what follows a `*`
later_holds : (param : ℕ) (next : List Cell) (runs : List (List Cell)) (us : List ℕ) → are_free (next ∷ runs) ≡ true
    → is_some (after_all (later_code param (next ∷ runs)) (arg.Str us)) ≡ matches (Any ∷ joined next runs) us
later_holds param [] [] us free = sym (star_matches_all us)
later_holds param (c ∷ cells) [] us free =
    let p = and_parts (is_free (c ∷ cells)) true free in
    last_alone (after_end true (c ∷ cells) us) ∙ sym (at_the_end (c ∷ cells) us p.0)
later_holds param run (next ∷ runs) us free =
    let p = and_parts (is_free run) (are_free (next ∷ runs)) free in
    then_same (after_all (later_code param (next ∷ runs))) (matches (Any ∷ joined next runs)) (λ rest. later_holds param next runs rest p.1) (after_first true run us)
    ∙ sym (first_place run (joined next runs) us p.0)

true_alone : (ops : List Opcode) (us : List ℕ) → is_some (after_all (or_true ops) (arg.Str us)) ≡ is_some (after_all ops (arg.Str us))
true_alone [] us = refl
true_alone (op ∷ ops) us = refl

first_holds : (param : ℕ) (run next : List Cell) (runs : List (List Cell)) (us : List ℕ) → is_free run ≡ true → are_free (next ∷ runs) ≡ true
    → is_some (after_all (first_code param run ++ later_code param (next ∷ runs)) (arg.Str us)) ≡ matches (run ++ Any ∷ joined next runs) us
first_holds param [] next runs us free others = later_holds param next runs us others
first_holds param (c ∷ cells) next runs us free others =
    ap (λ left. is_some (option_and_then (after_all (later_code param (next ∷ runs))) (option_map arg.Str left))) (skip_free (c ∷ cells) us)
    ∙ then_same (after_all (later_code param (next ∷ runs))) (matches (Any ∷ joined next runs)) (λ rest. later_holds param next runs rest others)
    (after_fragment true (c ∷ cells) us)
    ∙ sym (free_first (c ∷ cells) (Any ∷ joined next runs) us free)

runs_hold : (param : ℕ) (run : List Cell) (runs : List (List Cell)) (us : List ℕ) → is_free run ≡ true → are_free runs ≡ true
    → is_some (after_all (runs_code param (run ∷ runs)) (arg.Str us)) ≡ matches (joined run runs) us
runs_hold param run [] us free others =
    ap (λ left. is_some (option_and_then (after_all []) (option_map arg.Str (at_end left)))) (skip_free run us)
    ∙ last_alone (at_end (after_fragment true run us)) ∙ sym (free_alone run us free)
runs_hold param run (next ∷ runs) us free others =
    true_alone (first_code param run ++ later_code param (next ∷ runs)) us ∙ first_holds param run next runs us free others

-- the opcodes of a pattern hold, one after the other, if it matches
pub pattern_holds : PatternOpcodesHoldWhereItMatches
pattern_holds param cells us =
    let r = runs_of cells in
    ap (λ runs. is_some (after_all (runs_code param runs) (arg.Str us))) r.are
    ∙ runs_hold param r.first r.others us r.first_free r.others_free
    ∙ ap (λ l. matches l us) r.join
