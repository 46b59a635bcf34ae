-- The sizes of indexes.
use Rattle.std.proofs.Common.{◌≡◌, ◌∙◌, ◌≤◌, ◌+◌, ◌*◌, ℕ, suc, cond, List, [], ◌∷◌, eqb, length, refl, ap, arith}
use Rattle.std.specs.Prelude.{None, Option, Some}
use Rattle.sb_call.specs.Tags.{every_tag, number_of}
use Rattle.sb_call.specs.declared.tags.CallTag.{CallTag}
use Rattle.sb_call.specs.declared.tags.CallTag.TheVariants.{Ping, FileCreate, FileOpen, FileQuery, FileRename, PipeCreate, KeyCreate, KeyOpen, EventCreate, EventOpen, HandleClose}
use Rattle.sb_rule.specs.declared.policies.Rule.{Rule}
use Rattle.sb_index.specs.Sizes.{IndexesAreSmall, buckets_bytes, index_bytes, tables_bytes, total}
use Rattle.sb_index.specs.Tables.{AreTables, Indexed, IsBuckets, IsIndex, rules_for}
use Rattle.sb_index.specs.declared.buckets.Buckets.{Buckets}
use Rattle.sb_index.specs.declared.tables.Table.{Table}

-- one table, and two of them
one_small : (sets bounds n : ℕ) → sets ≡ bounds + 1 → bounds ≤ 2 * n → 32 * sets + 8 * bounds ≤ 80 * n + 32
one_small sets bounds n e h = omega (arith, e, h)

tables_small : (rules : List Rule) (tag : CallTag) (tables : List Table) → length tables ≤ 2 → AreTables rules tag tables
    → tables_bytes tables ≤ 160 * length (rules_for tag rules) + 64
tables_small rules tag [] h are = omega arith
tables_small rules tag (t ∷ []) h are =
    let one = are 0 t (omega arith) in
    omega (arith, one_small (length t.sets.items) (length t.bounds) (length (rules_for tag rules)) one.0 one.1)
tables_small rules tag (t ∷ u ∷ []) h are =
    let one = are 0 t (omega arith) in
    let two = are 1 u (omega arith) in
    omega (
      arith,
      one_small (length t.sets.items) (length t.bounds) (length (rules_for tag rules)) one.0 one.1,
      one_small (length u.sets.items) (length u.bounds) (length (rules_for tag rules)) two.0 two.1,
    )
tables_small rules tag (t ∷ u ∷ v ∷ tables) h are = absurd (omega (arith, h))

buckets_small : (rules : List Rule) (tag : CallTag) (buckets : Option Buckets) → IsBuckets rules tag buckets → buckets_bytes buckets ≤ 2056
buckets_small rules tag None are = omega arith
buckets_small rules tag (Some buckets) are = omega (arith, are.0)

index_small : (rules : List Rule) (tag : CallTag) (index : Indexed) → IsIndex index → index.rules ≡ rules → index.tag ≡ tag
    → index_bytes index ≤ 160 * length (rules_for tag rules) + 2120
index_small rules tag index is same mine =
    let tables = tables_small index.rules index.tag index.tables is.1 is.2 in
    let buckets = buckets_small index.rules index.tag index.buckets is.3 in
    let many : length (rules_for index.tag index.rules) ≡ length (rules_for tag rules) =
    ap (λ r. length (rules_for index.tag r)) same ∙ ap (λ t. length (rules_for t rules)) mine
    in
    omega (arith, tables, buckets, many)

-- a rule is for one call
one_call : (t : CallTag) (r : Rule) (xs : CallTag → List Rule)
    → total (λ tag. length (cond (eqb (number_of t) (number_of tag)) (r ∷ xs tag) (xs tag))) every_tag ≡ suc (total (λ tag. length (xs tag)) every_tag)
one_call Ping r xs = omega arith
one_call FileCreate r xs = omega arith
one_call FileOpen r xs = omega arith
one_call FileQuery r xs = omega arith
one_call FileRename r xs = omega arith
one_call PipeCreate r xs = omega arith
one_call KeyCreate r xs = omega arith
one_call KeyOpen r xs = omega arith
one_call EventCreate r xs = omega arith
one_call EventOpen r xs = omega arith
one_call HandleClose r xs = omega arith

-- each rule is for one call
each_once : (rules : List Rule) → total (λ tag. length (rules_for tag rules)) every_tag ≡ length rules
each_once [] = refl
each_once (r ∷ rules) = one_call r.tag r (λ tag. rules_for tag rules) ∙ ap suc (each_once rules)

sums : (f g : CallTag → ℕ) → ((tag : CallTag) → f tag ≤ 160 * g tag + 2120) → (tags : List CallTag) → total f tags ≤ 160 * total g tags + 2120 * length tags
sums f g h [] = omega arith
sums f g h (tag ∷ tags) = step (f tag) (g tag) (total f tags) (total g tags) (length tags) (h tag) (sums f g h tags)
  where
    step : (x y s t n : ℕ) → x ≤ 160 * y + 2120 → s ≤ 160 * t + 2120 * n → x + s ≤ 160 * (y + t) + 2120 * suc n
    step x y s t n h g = omega (arith, h, g)

pub indexes_are_small : IndexesAreSmall
indexes_are_small rules index are =
    let all = sums (λ tag. index_bytes (index tag)) (λ tag. length (rules_for tag rules))
    (λ tag. index_small rules tag (index tag) (are.indexes tag) (are.rules_are tag) (are.tag_is tag)) every_tag
    in
    let once = each_once rules in
    let calls : length every_tag ≡ 11 = refl in
    omega (arith, all, once, calls, are.few)
