-- What is noted of patterns is true.
use Rattle.std.specs.Prelude.{Option, None, Some}
use Rattle.std.proofs.Common.{◌≡◌, ◌∙◌, ℕ, Bool, true, false, cond, List, [], ◌∷◌, ◌&&◌, ◌||◌, eqb, refl, ap, sym, subst, arith}
use Rattle.std.proofs.lemmas.Bool.{and_parts, eqb-true, false≢true}
use Rattle.std.proofs.lemmas.Bool.Decides.{nat_tests}
use Rattle.std.specs.List.{list_all}
use Rattle.sb_ruletext.specs.NoteKinds.{begins_with_prefix, may_begin_name, kind_of}
use Rattle.sb_message.specs.NoteLaws.{NotesAreTrue}
use Rattle.sb_ruletext.specs.declared.note_kinds.NoteKind.{NoteKind}
use Rattle.sb_ruletext.specs.declared.note_kinds.NoteKind.TheVariants.{UnescapedPrefix, MatchesNoName}
use Rattle.sb_rule.specs.Matching.{matches}
use Rattle.sb_rule.specs.PatternReading.{cell_of, cells_of}
use Rattle.sb_rule.specs.declared.cells.Cell.{Cell}
use Rattle.sb_rule.specs.declared.cells.Cell.TheVariants.{Lit, One, Any}
use Rattle.sb_base.specs.Names.{is_component, is_name_of, parts_of}
use Rattle.sb_base.specs.Wide.{folded}

neither : (a b : Bool) → (a || b) ≡ false → (a ≡ false) × (b ≡ false)
neither true b h = absurd (false≢true (sym h))
neither false b h = (refl, h)

-- which note it is
abbrev is_no_name : Option NoteKind → Bool
is_no_name None = false
is_no_name (Some UnescapedPrefix) = false
is_no_name (Some MatchesNoName) = true

abbrev is_prefix : Option NoteKind → Bool
is_prefix None = false
is_prefix (Some UnescapedPrefix) = true
is_prefix (Some MatchesNoName) = false

abbrev kind_by : Bool → Bool → Option NoteKind
kind_by prefix may = cond prefix (Some UnescapedPrefix) (cond may None (Some MatchesNoName))

no_name_by : (prefix may : Bool) → kind_by prefix may ≡ Some MatchesNoName → may ≡ false
no_name_by true may h = absurd (false≢true (ap is_no_name h))
no_name_by false true h = absurd (false≢true (ap is_no_name h))
no_name_by false false h = refl

prefix_by : (prefix may : Bool) → kind_by prefix may ≡ Some UnescapedPrefix → prefix ≡ true
prefix_by true may h = refl
prefix_by false true h = absurd (false≢true (ap is_prefix h))
prefix_by false false h = absurd (false≢true (ap is_prefix h))

-- ---- a pattern that matches no name

fold_other : (w : ℕ) → eqb w 92 ≡ false → eqb 92 (folded w) ≡ false
fold_other w h = grind (arith, nat_tests, h)

literal_missed : (w u : ℕ) (later : List Cell) (us : List ℕ) → eqb w 92 ≡ false → eqb u 92 ≡ true → matches (Lit w ∷ later) (u ∷ us) ≡ false
literal_missed w u later us n e =
    ap (λ v. eqb (folded v) (folded w) && matches later us) (eqb-true u 92 e) ∙ ap (λ b. b && matches later us) (fold_other w n)

cell_missed : (w u : ℕ) (later : List Cell) (us : List ℕ) → (eqb w 92 || (eqb w 42 || eqb w 63)) ≡ false → eqb u 92 ≡ true
    → matches (cell_of w ∷ later) (u ∷ us) ≡ false
cell_missed w u later us m e =
    let a = neither (eqb w 92) (eqb w 42 || eqb w 63) m in
    let b = neither (eqb w 42) (eqb w 63) a.1 in
    ap (λ t. matches (cond t Any (cond (eqb w 63) One (Lit w)) ∷ later) (u ∷ us)) b.0
    ∙ (ap (λ t. matches (cond t One (Lit w) ∷ later) (u ∷ us)) b.1 ∙ literal_missed w u later us a.0 e)

cells_missed : (b : Bool) (w v u : ℕ) (ws us : List ℕ) → (eqb w 92 || (eqb w 42 || eqb w 63)) ≡ false → eqb u 92 ≡ true
    → matches (cond b (Lit 63 ∷ cells_of ws) (cell_of w ∷ cells_of (v ∷ ws))) (u ∷ us) ≡ false
cells_missed true w v u ws us m e = literal_missed 63 u (cells_of ws) us refl e
cells_missed false w v u ws us m e = cell_missed w u (cells_of (v ∷ ws)) us m e

missed : (units us : List ℕ) (u : ℕ) → may_begin_name units ≡ false → eqb u 92 ≡ true → matches (cells_of units) (u ∷ us) ≡ false
missed [] us u m e = refl
missed (w ∷ []) us u m e = cell_missed w u [] us m e
missed (w ∷ v ∷ ws) us u m e = cells_missed (eqb w 47 && eqb v 63) w v u ws us m e

no_name : (units us : List ℕ) → may_begin_name units ≡ false → is_name_of us ≡ true → matches (cells_of units) us ≡ false
no_name units [] m n = absurd (false≢true n)
no_name units (u ∷ us) m n = missed units us u m (and_parts (eqb u 92) (list_all is_component (parts_of us)) n).0

-- ---- a prefix without escapes

any_units : (rest us : List ℕ) (u v : ℕ)
    → matches (cells_of (92 ∷ 63 ∷ 63 ∷ 92 ∷ rest)) (92 ∷ u ∷ v ∷ us) ≡ matches (cells_of (92 ∷ 63 ∷ 63 ∷ 92 ∷ rest)) (92 ∷ 63 ∷ 63 ∷ us)
any_units rest us u v = refl

prefixed : (units us : List ℕ) (u v : ℕ) → begins_with_prefix units ≡ true
    → matches (cells_of units) (92 ∷ u ∷ v ∷ us) ≡ matches (cells_of units) (92 ∷ 63 ∷ 63 ∷ us)
prefixed [] us u v h = absurd (false≢true h)
prefixed (a ∷ []) us u v h = absurd (false≢true h)
prefixed (a ∷ b ∷ []) us u v h = absurd (false≢true h)
prefixed (a ∷ b ∷ c ∷ []) us u v h = absurd (false≢true h)
prefixed (a ∷ b ∷ c ∷ d ∷ rest) us u v h =
    let p = and_parts (eqb a 92) (eqb b 63 && (eqb c 63 && eqb d 92)) h in
    let q = and_parts (eqb b 63) (eqb c 63 && eqb d 92) p.1 in
    let s = and_parts (eqb c 63) (eqb d 92) q.1 in
    let same : 92 ∷ 63 ∷ 63 ∷ 92 ∷ rest ≡ a ∷ b ∷ c ∷ d ∷ rest =
    λ i. sym (eqb-true a 92 p.0) i ∷ sym (eqb-true b 63 q.0) i ∷ sym (eqb-true c 63 s.0) i ∷ sym (eqb-true d 92 s.1) i ∷ rest in
    subst (λ (l : List ℕ). matches (cells_of l) (92 ∷ u ∷ v ∷ us) ≡ matches (cells_of l) (92 ∷ 63 ∷ 63 ∷ us)) same (any_units rest us u v)

pub notes_are_true : NotesAreTrue
notes_are_true = (
  λ units us k n. no_name units us (no_name_by (begins_with_prefix units) (may_begin_name units) k) n,
  λ units us u v k. prefixed units us u v (prefix_by (begins_with_prefix units) (may_begin_name units) k),
)
