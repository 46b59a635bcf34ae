-- The texts of literals.
use Rattle.std.specs.Prelude.{nat_le, not}
use Rattle.std.specs.List.{list_all, list_any}
use Rattle.std.proofs.Common.{◌≡◌, ◌∙◌, ℕ, Bool, true, false, ◌&&◌, ◌||◌, ◌==◌, List, [], ◌∷◌, ◌++◌, length, map, refl, sym, ap, subst}
use Rattle.std.proofs.lemmas.Bool.{and_parts}
use Rattle.sb_base.specs.Surrogates.{is_paired}
use Rattle.sb_base.specs.Wide.{is_text_unit}
use Rattle.sb_text.specs.Strings.{StringsComeBack}
use Rattle.sb_text.specs.Tokens.{utf8_of}
use Rattle.sb_rule.specs.Matching.{LiteralsMatchTheSame}
use Rattle.sb_rule.specs.PatternLimits.{most_units}
use Rattle.sb_rule.specs.PatternReading.{PatternsAreRead, begins_with_one, cell_text, is_pattern, is_spellable, reading, text_of}
use Rattle.sb_rule.specs.WellMade.{is_policy_text}
use Rattle.sb_rule.specs.declared.cells.Cell.TheVariants.{Lit}
use Rattle.sb_host.specs.Literals.{IsPatternLiteral, IsStringLiteral, has_pattern_literal, literal_cells, literal_text}

-- what is written of a string of a policy can be between quotes, and means that string
written_means : StringsComeBack → (us : List ℕ) → is_policy_text us ≡ true → IsStringLiteral us (utf8_of us)
written_means law us h =
    let outer = and_parts (nat_le (length us) most_units && list_all is_text_unit us) (is_paired us) h in
    let inner = and_parts (nat_le (length us) most_units) (list_all is_text_unit us) outer.0 in
    let back = law us inner.1 outer.1 in
    record { can_be_quoted = record { utf8 = back.utf8; quoted = back.quoted }; means = back.string }

pub string_written : StringsComeBack → (us text : List ℕ) → is_policy_text us ≡ true → text ≡ utf8_of us → IsStringLiteral us text
string_written law us text h e = subst (λ t. IsStringLiteral us t) (sym e) (written_means law us h)

no_one : (us : List ℕ) → begins_with_one (map Lit us) ≡ false
no_one [] = refl
no_one (u ∷ us) = refl

spells : (star slash one later rest : Bool) → one ≡ false → later ≡ not rest → (not star && not (slash && one) && later) ≡ not (star || rest)
spells true slash one later rest h e = refl
spells false false one later rest h e = e
spells false true one later rest h e = rw (h) e

-- literals are spellable exactly if none is a star
pub literals_spell : (us : List ℕ) → is_spellable (literal_cells us) ≡ not (list_any (λ u. u == 42) us)
literals_spell [] = refl
literals_spell (u ∷ us) =
    spells (u == 42) (u == 47) (begins_with_one (map Lit us)) (is_spellable (map Lit us)) (list_any (λ u. u == 42) us) (no_one us) (literals_spell us)

-- what is written of literals is the text of their cells
text_of_literals : (us : List ℕ) → literal_text us ≡ text_of (literal_cells us)
text_of_literals [] = refl
text_of_literals (u ∷ us) = ap (λ text. cell_text (Lit u) ++ text) (text_of_literals us)

once : (small spelled units paired : Bool) → ((small && spelled) && ((small && units) && paired)) ≡ (spelled && ((small && units) && paired))
once true spelled units paired = refl
once false true units paired = refl
once false false units paired = refl

-- a string has a literal as a pattern exactly if it has no star and its text can be between quotes
pub literal_exactly : (us : List ℕ) → has_pattern_literal us ≡ (not (list_any (λ u. u == 42) us) && is_policy_text (literal_text us))
literal_exactly us =
    let text = text_of (literal_cells us) in
    once (nat_le (length text) most_units) (is_spellable (literal_cells us)) (list_all is_text_unit text) (is_paired text)
    ∙ ap (λ b. b && is_policy_text text) (literals_spell us)
    ∙ ap (λ t. not (list_any (λ u. u == 42) us) && is_policy_text t) (sym (text_of_literals us))

pub pattern_written : StringsComeBack → LiteralsMatchTheSame → PatternsAreRead → (us units text : List ℕ) → has_pattern_literal us ≡ true
    → units ≡ literal_text us → text ≡ utf8_of units → IsPatternLiteral us text
pattern_written strings same patterns us units text h made e =
    let parts = and_parts (is_pattern (literal_cells us)) (is_policy_text (text_of (literal_cells us))) h in
    let means = written_means strings (text_of (literal_cells us)) parts.1 in
    let whole : IsPatternLiteral us (utf8_of (text_of (literal_cells us))) = record {
      can_be_quoted = means.can_be_quoted;
      read = ap reading means.means ∙ (patterns (literal_cells us)).0 parts.0;
      matches_the_same = λ other. same us other;
    } in
    subst (λ t. IsPatternLiteral us t) (sym (e ∙ ap utf8_of (made ∙ text_of_literals us))) whole
