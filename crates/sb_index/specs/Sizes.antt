-- How large indexes are.
use Rattle.std.specs.Prelude.{◌≡◌, ◌≤◌, ℕ, ◌+◌, ◌*◌, List, [], ◌∷◌, length, Option, None, Some}
use Rattle.sb_call.specs.Tags.{every_tag}
use Rattle.sb_call.specs.declared.tags.CallTag.{CallTag}
use Rattle.sb_rule.specs.Limits.{most_rules}
use Rattle.sb_rule.specs.declared.policies.Rule.{Rule}
use Rattle.sb_index.specs.Tables.{Indexed, IsIndex}
use Rattle.sb_index.specs.declared.buckets.Buckets.{Buckets}
use Rattle.sb_index.specs.declared.tables.Table.{Table}

-- the bytes of the sets and the bounds of tables: a set has 32, and a bound 8
abbrev pub table_bytes : Table → ℕ
table_bytes table = 32 * length table.sets.items + 8 * length table.bounds

abbrev pub tables_bytes : List Table → ℕ
tables_bytes [] = 0
tables_bytes (table ∷ tables) = table_bytes table + tables_bytes tables

-- the bytes of the sets of buckets, and of the word beside them
abbrev pub buckets_bytes : Option Buckets → ℕ
buckets_bytes None = 0
buckets_bytes (Some buckets) = 32 * length buckets.sets.items + 8

abbrev pub index_bytes : Indexed → ℕ
index_bytes index = tables_bytes index.tables + buckets_bytes index.buckets

-- the sum of what each of some calls has
abbrev pub total : (CallTag → ℕ) → List CallTag → ℕ
total f [] = 0
total f (tag ∷ tags) = f tag + total f tags

-- an index of the rules for each call
pub record AreIndexes (rules : List Rule) (index : CallTag → Indexed) : Type 0 where
  pub few : length rules ≤ most_rules
  pub indexes : (tag : CallTag) → IsIndex (index tag)
  pub rules_are : (tag : CallTag) → (index tag).rules ≡ rules
  pub tag_is : (tag : CallTag) → (index tag).tag ≡ tag

-- the indexes of a policy, one for each call, take at most 64 KiB together
abbrev pub IndexesAreSmall : Type 0
IndexesAreSmall = (rules : List Rule) (index : CallTag → Indexed) → AreIndexes rules index → total (λ tag. index_bytes (index tag)) every_tag ≤ 65536
