-- Indexes of the rules for one call.
use Rattle.std.specs.Prelude.{◌≡◌, ◌<◌, ◌≤◌, ℕ, ◌+◌, ◌*◌, true, List, length, filter, slice_index_or, Option, None, Some, ⊤, ◌⊎◌}
use Rattle.std.specs.Int.{bit_at}
use Rattle.sb_call.specs.declared.arguments.Arg.{Arg}
use Rattle.sb_call.specs.declared.tags.CallTag.{CallTag}
use Rattle.sb_rule.specs.Limits.{most_rules}
use Rattle.sb_rule.specs.Verdicts.{is_for, rule_holds}
use Rattle.sb_rule.specs.declared.policies.Rule.{Rule}
use Rattle.sb_index.specs.Bounds.{first_of, last_of}
use Rattle.sb_index.specs.Questions.{may_pass, meets}
use Rattle.sb_index.specs.Sets.{has, Has, HasAtMostOne}
use Rattle.sb_index.specs.declared.questions.Feature.{Feature}
use Rattle.sb_index.specs.declared.questions.Question.{Question}
use Rattle.sb_index.specs.declared.questions.Question.TheVariants.{Within, Without}
use Rattle.sb_index.specs.declared.tables.Table.{Table}
use Rattle.sb_index.specs.declared.buckets.Buckets.{Buckets}

-- the rules for the calls of a tag
abbrev pub rules_for : CallTag → List Rule → List Rule
rules_for tag rules = filter (is_for tag) rules

-- of the rules for a tag the set has exactly those that pass the question
abbrev pub Selects : List Rule → CallTag → Question → List ℕ → Type 0
Selects rules tag question set = (j : ℕ) (d : Rule) → j < length (rules_for tag rules)
    → has set j ≡ may_pass question (slice_index_or (rules_for tag rules) j d)

-- a set for each slot, which has the rules that pass the question for the numbers of the slot
abbrev pub AreSlots : List Rule → CallTag → Feature → List ℕ → List (List ℕ) → Type 0
AreSlots rules tag feature bounds sets = (slot : ℕ) (e : List ℕ) → slot < length sets
    → Selects rules tag (Within feature (first_of bounds slot) (last_of bounds slot)) (slice_index_or sets slot e)

-- at most two bounds for each rule, and a set for each slot
abbrev pub IsTable : List Rule → CallTag → Table → Type 0
IsTable rules tag table =
    (length table.sets.items ≡ length table.bounds + 1) × (length table.bounds ≤ 2 * length (rules_for tag rules))
    × AreSlots rules tag table.feature table.bounds table.sets.items

-- a set for each bucket, which has the rules that pass the question for strings without a unit in the bucket
abbrev pub AreBuckets : List Rule → CallTag → ℕ → List (List ℕ) → Type 0
AreBuckets rules tag param sets = (bucket : ℕ) (e : List ℕ) → bucket < length sets → Selects rules tag (Without param bucket) (slice_index_or sets bucket e)

-- each rule for the tag passes the questions of the buckets whose bits are 0
abbrev pub AreNeeded : List Rule → CallTag → ℕ → ℕ → Type 0
AreNeeded rules tag param bits = (bucket : ℕ) → bucket < 64 → bit_at bits bucket ≡ 0
    → (j : ℕ) (d : Rule) → j < length (rules_for tag rules) → may_pass (Without param bucket) (slice_index_or (rules_for tag rules) j d) ≡ true

abbrev pub IsBuckets : List Rule → CallTag → Option Buckets → Type 0
IsBuckets rules tag None = ⊤
IsBuckets rules tag (Some buckets) =
    (length buckets.sets.items ≡ 64) × AreBuckets rules tag buckets.param buckets.sets.items × AreNeeded rules tag buckets.param buckets.needed

-- each is a table of the rules for a tag
abbrev pub AreTables : List Rule → CallTag → List Table → Type 0
AreTables rules tag tables = (i : ℕ) (d : Table) → i < length tables → IsTable rules tag (slice_index_or tables i d)

-- what an index is of, and what it asks: tables of ranges of values, and the units that a string must have
pub record Indexed : Type 0 where
  pub rules : List Rule
  pub tag : CallTag
  pub tables : List Table
  pub buckets : Option Buckets

-- an index of at most 256 rules, of at most two tables
abbrev pub IsIndex : Indexed → Type 0
IsIndex index =
    (length index.rules ≤ most_rules) × (length index.tables ≤ 2) × AreTables index.rules index.tag index.tables
    × IsBuckets index.rules index.tag index.buckets

-- each of the rules for the tag that holds is in the set
abbrev pub HasAllThatHold : List Rule → CallTag → List Arg → List ℕ → Type 0
HasAllThatHold rules tag args set = (j : ℕ) (d : Rule) → j < length (rules_for tag rules)
    → rule_holds (slice_index_or (rules_for tag rules) j d) tag args ≡ true → Has set j

-- a rule passes the question of a table for the slot of the arguments
abbrev pub PassesTable : Table → List Arg → Rule → Type 0
PassesTable table args rule = (slot : ℕ) × (slot ≤ length table.bounds)
    × (meets (Within table.feature (first_of table.bounds slot) (last_of table.bounds slot)) args ≡ true)
    × (may_pass (Within table.feature (first_of table.bounds slot) (last_of table.bounds slot)) rule ≡ true)

-- each of the rules for the tag in the set passes each of the tables
abbrev pub PassTables : List Rule → CallTag → List Table → List Arg → List ℕ → Type 0
PassTables rules tag tables args set = (j : ℕ) (d : Rule) → j < length (rules_for tag rules) → Has set j
    → (i : ℕ) (t : Table) → i < length tables → PassesTable (slice_index_or tables i t) args (slice_index_or (rules_for tag rules) j d)

-- each of the rules for the tag in the set passes the questions of the buckets of which the string has no unit
abbrev pub PassBuckets : List Rule → CallTag → Option Buckets → List Arg → List ℕ → Type 0
PassBuckets rules tag None args set = ⊤
PassBuckets rules tag (Some buckets) args set = (j : ℕ) (d : Rule) → j < length (rules_for tag rules) → Has set j
    → (bucket : ℕ) → bucket < 64 → meets (Without buckets.param bucket) args ≡ true
    → may_pass (Without buckets.param bucket) (slice_index_or (rules_for tag rules) j d) ≡ true

-- the candidates: all rules that hold, and of the others only such as pass all tables and, if there are several, the buckets
pub record AreCandidates (index : Indexed) (args : List Arg) (set : List ℕ) : Type 0 where
  pub complete : HasAllThatHold index.rules index.tag args set
  pub by_tables : PassTables index.rules index.tag index.tables args set
  pub by_buckets : HasAtMostOne set ⊎ PassBuckets index.rules index.tag index.buckets args set
