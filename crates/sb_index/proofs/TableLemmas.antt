-- Tables and buckets keep the rules that hold.
use Rattle.std.proofs.Math.Bool.{or-false}
use Rattle.std.proofs.Common.{◌≡◌, ◌∙◌, ◌≤◌, ◌<◌, ◌+◌, ℕ, zero, suc, Bool, true, false, cond, List, [], ◌∷◌, ◌++◌, ◌&&◌, ◌||◌, eqb, ltb, length, take, refl, ap, sym, subst, arith}
use Rattle.std.proofs.lemmas.List.{get_or_append_left, get_or_default, get_or_push, length-append, take_more}
use Rattle.std.specs.Prelude.{nat_le, slice_index_or}
use Rattle.sb_call.specs.declared.arguments.Arg.{Arg}
use Rattle.sb_call.specs.declared.tags.CallTag.{CallTag}
use Rattle.sb_rule.specs.declared.policies.Rule.{Rule}
use Rattle.std.proofs.lemmas.Bool.{and_from, and_parts, eq-eqb, le-leb, lt-ltb, ltb-true, ne_eqb, ltb-false, not-true, not_from_false}
use Rattle.sb_index.specs.Bounds.{first_of, last_of}
use Rattle.sb_index.specs.Laws.{RulesThatHoldPass}
use Rattle.sb_index.specs.Questions.{is_in_bucket, lies, value_of, may_pass, meets, units_in}
use Rattle.sb_index.specs.Marks.{AreMarked, is_marked}
use Rattle.sb_index.specs.Sets.{has, Has}
use Rattle.sb_index.specs.declared.marks.Marks.{Marks}
use Rattle.sb_index.specs.Tables.{AreBuckets, AreNeeded, AreSlots, AreTables, HasAllThatHold, IsTable, PassesTable, Selects, rules_for}
use Rattle.sb_index.specs.declared.tables.Table.{Table}
use Rattle.sb_call.specs.Arguments.{arg_at}
use Rattle.std.specs.Int.{bit_at}
use Rattle.std.specs.List.{list_any}
use Rattle.std.proofs.lemmas.Nat.Bits.{bit_at-lt}
use Rattle.sb_rule.specs.Verdicts.{is_for, rule_holds}
use Rattle.sb_index.specs.declared.questions.Feature.{Feature}
use Rattle.sb_index.specs.declared.questions.Question.{Question}
use Rattle.sb_index.specs.declared.questions.Question.TheVariants.{Within, Without}

-- a set that selects a question that the arguments meet has the rules that hold
pub selected : RulesThatHoldPass → (rules : List Rule) (tag : CallTag) (args : List Arg) (question : Question) (set : List ℕ) → Selects rules tag question set
    → meets question args ≡ true → HasAllThatHold rules tag args set
selected pass rules tag args question set selects m j d h holds =
    selects j d h ∙ pass question (slice_index_or (rules_for tag rules) j d) tag args holds m

lies_within : (first last value : ℕ) → first ≤ value → value ≤ last → lies first last value ≡ true
lies_within first last value h k = and_from (nat_le first value) (nat_le value last) (le-leb first value h) (le-leb value last k)

pub slot_found : (feature : Feature) (args : List Arg) (bounds : List ℕ) (slot value : ℕ) → value ≡ value_of feature args
    → first_of bounds slot ≤ value → value ≤ last_of bounds slot → meets (Within feature (first_of bounds slot) (last_of bounds slot)) args ≡ true
slot_found feature args bounds slot value is first last =
    ap (lies (first_of bounds slot) (last_of bounds slot)) (sym is) ∙ lies_within (first_of bounds slot) (last_of bounds slot) value first last

-- a number is in what two sets have in common exactly if both have it
pub common : (set old other : Bool) → set ≡ (old && other) → set ≡ true → (old ≡ true) × (other ≡ true)
common set old other is h = and_parts old other (sym is ∙ h)

pub in_both : (set old other : Bool) → set ≡ (old && other) → old ≡ true → other ≡ true → set ≡ true
in_both set old other is h g = is ∙ (λ i. h i && g i)

-- one rule more
for_more : (tag : CallTag) (xs : List Rule) (r : Rule) → rules_for tag (xs ++ r ∷ []) ≡ cond (is_for tag r) (rules_for tag xs ++ r ∷ []) (rules_for tag xs)
for_more tag [] r = refl
for_more tag (x ∷ xs) r = by (is_for tag x) (for_more tag xs r)
  where
    first : (b : Bool) → x ∷ cond b (rules_for tag xs ++ r ∷ []) (rules_for tag xs) ≡ cond b ((x ∷ rules_for tag xs) ++ r ∷ []) (x ∷ rules_for tag xs)
    first true = refl
    first false = refl

    by : (b : Bool) → rules_for tag (xs ++ r ∷ []) ≡ cond (is_for tag r) (rules_for tag xs ++ r ∷ []) (rules_for tag xs)
        → cond b (x ∷ rules_for tag (xs ++ r ∷ [])) (rules_for tag (xs ++ r ∷ []))
        ≡ cond (is_for tag r) (cond b (x ∷ rules_for tag xs) (rules_for tag xs) ++ r ∷ []) (cond b (x ∷ rules_for tag xs) (rules_for tag xs))
    by true e = ap (λ l. x ∷ l) e ∙ first (is_for tag r)
    by false e = e

-- the set has exactly those of these rules that pass
abbrev Has_passing : Question → List Rule → (ℕ → Bool) → Type 0
Has_passing question mine P = (j : ℕ) (d : Rule) → j < length mine → P j ≡ may_pass question (slice_index_or mine j d)

not_last : (j at : ℕ) → j < at → eqb j at ≡ false
not_last j at h = ne_eqb j at (λ e. absurd (omega (arith, h, e)))

self_equal : (j : ℕ) → eqb j j ≡ true
self_equal j = eq-eqb j j refl

put_more : (question : Question) (mine : List Rule) (r : Rule) (b : Bool) (at : ℕ) (P Q : ℕ → Bool) → at ≡ length mine → Has_passing question mine P
    → P at ≡ false → ((k : ℕ) → Q k ≡ (P k || (b && (eqb k at && may_pass question r)))) → Has_passing question (cond b (mine ++ r ∷ []) mine) Q
put_more question mine r false at P Q e old none put j d h = put j ∙ or-false (P j) ∙ old j d h
put_more question mine r true at P Q e old none put j d h = by (ltb j (length mine)) refl
  where
    by : (b : Bool) → ltb j (length mine) ≡ b → Q j ≡ may_pass question (slice_index_or (mine ++ r ∷ []) j d)
    by true t =
        let inside = ltb-true j (length mine) t in
        put j ∙ ap (λ b. P j || (true && (b && may_pass question r))) (not_last j at (omega (arith, inside, e))) ∙ or-false (P j)
        ∙ old j d inside ∙ ap (may_pass question) (sym (get_or_append_left mine (r ∷ []) d j inside))
    by false t =
        let last : j ≡ at = omega (arith, e, h, length-append mine (r ∷ []), ltb-false j (length mine) t) in
        let is : slice_index_or (mine ++ r ∷ []) j d ≡ r = get_or_push mine r d j (sym (last ∙ e)) in
        put j ∙ ap (λ b. P j || (true && (b && may_pass question r))) (ap (λ n. eqb n at) last ∙ self_equal at)
        ∙ ap (λ b. b || (true && (true && may_pass question r))) (ap P last ∙ none) ∙ ap (may_pass question) (sym is)

counted : (b : Bool) (at : ℕ) (mine : List Rule) (r : Rule) → at ≡ length mine → cond b (at + 1) at ≡ length (cond b (mine ++ r ∷ []) mine)
counted true at mine r e = omega (arith, e, length-append mine (r ∷ []))
counted false at mine r e = e

at_most : (b : Bool) (at i : ℕ) → at ≤ i → cond b (at + 1) at ≤ i + 1
at_most true at i h = omega (arith, h)
at_most false at i h = omega (arith, h)

-- the rules for a tag among one rule more
mine_more : (rules : List Rule) (tag : CallTag) (i : ℕ) (r : Rule) → i < length rules → r ≡ slice_index_or rules i r
    → rules_for tag (take (i + 1) rules) ≡ cond (is_for tag r) (rules_for tag (take i rules) ++ r ∷ []) (rules_for tag (take i rules))
mine_more rules tag i r h is =
    ap (rules_for tag) (take_more rules i r h ∙ ap (λ x. take i rules ++ x ∷ []) (sym is)) ∙ for_more tag (take i rules) r

-- the number of the next one
pub next_put : (rules : List Rule) (tag : CallTag) (i : ℕ) (r : Rule) (at next : ℕ) → i < length rules → r ≡ slice_index_or rules i r
    → at ≡ length (rules_for tag (take i rules)) → at ≤ i → next ≡ cond (is_for tag r) (at + 1) at
    → (next ≡ length (rules_for tag (take (i + 1) rules))) × (next ≤ i + 1)
next_put rules tag i r at next h is e most n = (
  n ∙ counted (is_for tag r) at (rules_for tag (take i rules)) r e ∙ ap length (sym (mine_more rules tag i r h is)),
  subst (λ m. m ≤ i + 1) (sym n) (at_most (is_for tag r) at i most),
)

-- the set after one rule more
pub rule_put : (rules : List Rule) (tag : CallTag) (question : Question) (i : ℕ) (r : Rule) (at : ℕ) (P Q : ℕ → Bool) → i < length rules
    → r ≡ slice_index_or rules i r → at ≡ length (rules_for tag (take i rules)) → Has_passing question (rules_for tag (take i rules)) P
    → P at ≡ false → ((k : ℕ) → Q k ≡ (P k || (is_for tag r && (eqb k at && may_pass question r))))
    → Has_passing question (rules_for tag (take (i + 1) rules)) Q
rule_put rules tag question i r at P Q h is e old none put =
    subst (λ l. Has_passing question l Q) (sym (mine_more rules tag i r h is)) (put_more question (rules_for tag (take i rules)) r (is_for tag r) at P Q e old none put)

-- the numbers of the rules to come are in no set
pub none_put : (tag : CallTag) (r : Rule) (at next k : ℕ) (question : Question) (P Q : ℕ → Bool) → next ≡ cond (is_for tag r) (at + 1) at → next ≤ k
    → (at ≤ k → P k ≡ false) → Q k ≡ (P k || (is_for tag r && (eqb k at && may_pass question r))) → Q k ≡ false
none_put tag r at next k question P Q is le none put = by (is_for tag r) is put
  where
    by : (b : Bool) → next ≡ cond b (at + 1) at → Q k ≡ (P k || (b && (eqb k at && may_pass question r))) → Q k ≡ false
    by true is put =
        let more : at < k = omega (arith, is, le) in
        put ∙ ap (λ b. P k || (true && (b && may_pass question r))) (after at k more) ∙ or-false (P k) ∙ none (omega (arith, more))
      where
        after : (at k : ℕ) → at < k → eqb k at ≡ false
        after at k h = ne_eqb k at (λ e. absurd (omega (arith, h, e)))
    by false is put = put ∙ or-false (P k) ∙ none (omega (arith, is, le))

-- what each of the rules for a tag passes, after one rule more
abbrev All_pass : Question → List Rule → Type 0
All_pass question mine = (j : ℕ) (d : Rule) → j < length mine → may_pass question (slice_index_or mine j d) ≡ true

one_passes : (question : Question) (mine : List Rule) (r : Rule) (b : Bool) → All_pass question mine → (b ≡ true → may_pass question r ≡ true)
    → All_pass question (cond b (mine ++ r ∷ []) mine)
one_passes question mine r false old new j d h = old j d h
one_passes question mine r true old new j d h = by (ltb j (length mine)) refl
  where
    by : (b : Bool) → ltb j (length mine) ≡ b → may_pass question (slice_index_or (mine ++ r ∷ []) j d) ≡ true
    by true t =
        let inside = ltb-true j (length mine) t in
        ap (may_pass question) (get_or_append_left mine (r ∷ []) d j inside) ∙ old j d inside
    by false t =
        let last : j ≡ length mine = omega (arith, h, length-append mine (r ∷ []), ltb-false j (length mine) t) in
        ap (may_pass question) (get_or_push mine r d j (sym last)) ∙ new refl

pub rule_passes : (rules : List Rule) (tag : CallTag) (question : Question) (i : ℕ) (r : Rule) → i < length rules → r ≡ slice_index_or rules i r
    → All_pass question (rules_for tag (take i rules)) → (is_for tag r ≡ true → may_pass question r ≡ true)
    → All_pass question (rules_for tag (take (i + 1) rules))
rule_passes rules tag question i r h is old new =
    subst (All_pass question) (sym (mine_more rules tag i r h is)) (one_passes question (rules_for tag (take i rules)) r (is_for tag r) old new)

-- there are no more rules for a tag than rules
pub fewer : (tag : CallTag) (rules : List Rule) → length (rules_for tag rules) ≤ length rules
fewer tag [] = omega arith
fewer tag (r ∷ rules) = by (is_for tag r) (fewer tag rules)
  where
    by : (b : Bool) → length (rules_for tag rules) ≤ length rules → length (cond b (r ∷ rules_for tag rules) (rules_for tag rules)) ≤ length (r ∷ rules)
    by true e = omega (arith, e)
    by false e = omega (arith, e)

-- the sets of the slots
pub slots_selected : (rules : List Rule) (tag : CallTag) (feature : Feature) (bounds : List ℕ) (marks : Marks) (sets : List (List ℕ)) (slots : ℕ)
    → AreMarked rules tag feature bounds marks → slots ≡ length bounds + 1 → length sets ≡ slots
    → ((slot : ℕ) (k : ℕ) → slot < slots → has (slice_index_or sets slot []) k ≡ is_marked marks slot k) → AreSlots rules tag feature bounds sets
slots_selected rules tag feature bounds marks sets slots marked n many is slot e within j d h =
    ap (λ s. has s j) (sym (get_or_default sets slot [] e within)) ∙ is slot j (omega (arith, within, many))
    ∙ marked slot (omega (arith, within, many, n)) j d h

-- the set of all rules
pub all_at_first : (rules : List Rule) (tag : CallTag) (args : List Arg) (set : List ℕ) → length rules ≤ 256 → ((k : ℕ) → has set k ≡ ltb k 256)
    → HasAllThatHold rules tag args set
all_at_first rules tag args set few all j d h holds = all j ∙ below j (omega (arith, h, few, fewer tag rules))
  where
    below : (j : ℕ) → j < 256 → ltb j 256 ≡ true
    below j h = lt-ltb j 256 h

-- each of the rules for the tag in the set passes each of the first tables
abbrev pub PassUpTo : List Rule → CallTag → List Table → ℕ → List Arg → List ℕ → Type 0
PassUpTo rules tag tables n args set = (j : ℕ) (d : Rule) → j < length (rules_for tag rules) → Has set j
    → (i : ℕ) (t : Table) → i < length tables → i < n → PassesTable (slice_index_or tables i t) args (slice_index_or (rules_for tag rules) j d)

pub none_up_to : (rules : List Rule) (tag : CallTag) (tables : List Table) (args : List Arg) (set : List ℕ) → PassUpTo rules tag tables 0 args set
none_up_to rules tag tables args set j d h has i t within none = absurd (omega (arith, none))

-- the question of a slot of a table
abbrev Asked : Table → ℕ → Question
Asked table slot = Within table.feature (first_of table.bounds slot) (last_of table.bounds slot)

table_is : (rules : List Rule) (tag : CallTag) (tables : List Table) (i : ℕ) (table : Table) → i < length tables → table ≡ slice_index_or tables i table
    → AreTables rules tag tables → IsTable rules tag table
table_is rules tag tables i table h is are = subst (IsTable rules tag) (sym is) (are i table h)

-- one table more
pub table_pushed : (rules : List Rule) (tag : CallTag) (tables : List Table) (table : Table) → AreTables rules tag tables → IsTable rules tag table
    → AreTables rules tag (tables ++ table ∷ [])
table_pushed rules tag tables table old new i d h = by (ltb i (length tables)) refl
  where
    by : (b : Bool) → ltb i (length tables) ≡ b → IsTable rules tag (slice_index_or (tables ++ table ∷ []) i d)
    by true t =
        let inside = ltb-true i (length tables) t in
        subst (IsTable rules tag) (sym (get_or_append_left tables (table ∷ []) d i inside)) (old i d inside)
    by false t =
        let last : i ≡ length tables = omega (arith, h, length-append tables (table ∷ []), ltb-false i (length tables) t) in
        subst (IsTable rules tag) (sym (get_or_push tables table d i (sym last))) new

pub table_complete : RulesThatHoldPass → (rules : List Rule) (tag : CallTag) (args : List Arg) (tables : List Table) (i : ℕ) (table : Table) (old new : List ℕ) (slot : ℕ)
    → i < length tables → table ≡ slice_index_or tables i table → AreTables rules tag tables → slot ≤ length table.bounds
    → meets (Asked table slot) args ≡ true → ((k : ℕ) → has new k ≡ (has old k && has (slice_index_or table.sets.items slot []) k))
    → HasAllThatHold rules tag args old → HasAllThatHold rules tag args new
table_complete pass rules tag args tables i table old new slot within is are inside m put all j d h holds =
    let this = table_is rules tag tables i table within is are in
    let there : slot < length table.sets.items = omega (arith, inside, this.0) in
    in_both (has new j) (has old j) (has (slice_index_or table.sets.items slot []) j) (put j) (all j d h holds)
    (selected pass rules tag args (Asked table slot) (slice_index_or table.sets.items slot []) (this.2 slot [] there) m j d h holds)

pub table_alone : (rules : List Rule) (tag : CallTag) (args : List Arg) (tables : List Table) (i : ℕ) (table : Table) (old new : List ℕ) (slot : ℕ)
    → i < length tables → table ≡ slice_index_or tables i table → AreTables rules tag tables → slot ≤ length table.bounds
    → meets (Asked table slot) args ≡ true → ((k : ℕ) → has new k ≡ (has old k && has (slice_index_or table.sets.items slot []) k))
    → PassUpTo rules tag tables i args old → PassUpTo rules tag tables (i + 1) args new
table_alone rules tag args tables i table old new slot within is are inside m put up j d h has_new n t here before =
    by (ltb n i) refl
  where
    both : (has old j ≡ true) × (has (slice_index_or table.sets.items slot []) j ≡ true)
    both = common (has new j) (has old j) (has (slice_index_or table.sets.items slot []) j) (put j) has_new

    this : IsTable rules tag table
    this = table_is rules tag tables i table within is are

    passes : PassesTable table args (slice_index_or (rules_for tag rules) j d)
    passes = (slot, inside, m, sym (this.2 slot [] (omega (arith, inside, this.0)) j d h) ∙ both.1)

    by : (b : Bool) → ltb n i ≡ b → PassesTable (slice_index_or tables n t) args (slice_index_or (rules_for tag rules) j d)
    by true e = up j d h both.0 n t here (ltb-true n i e)
    by false e =
        let last : n ≡ i = omega (arith, before, ltb-false n i e) in
        let same : slice_index_or tables n t ≡ table =
        ap (λ m. slice_index_or tables m t) last ∙ get_or_default tables i t table within ∙ sym is
        in
        subst (λ u. PassesTable u args (slice_index_or (rules_for tag rules) j d)) (sym same) passes

pub bucket_complete : RulesThatHoldPass → (rules : List Rule) (tag : CallTag) (args : List Arg) (param bucket : ℕ) (sets : List (List ℕ))
    → AreBuckets rules tag param sets → bucket < length sets → list_any (is_in_bucket bucket) (units_in (arg_at args param)) ≡ false
    → (j : ℕ) (d : Rule) → j < length (rules_for tag rules) → rule_holds (slice_index_or (rules_for tag rules) j d) tag args ≡ true
    → Has (slice_index_or sets bucket []) j
bucket_complete pass rules tag args param bucket sets are within none j d h holds =
    selected pass rules tag args (Without param bucket) (slice_index_or sets bucket []) (are bucket [] within)
    (not_from_false (list_any (is_in_bucket bucket) (units_in (arg_at args param))) none) j d h holds

pub bucket_alone : (rules : List Rule) (tag : CallTag) (args : List Arg) (param bits : ℕ) (sets : List (List ℕ)) → length sets ≡ 64
    → AreBuckets rules tag param sets → AreNeeded rules tag param bits → (j : ℕ) (d : Rule) → j < length (rules_for tag rules)
    → (bucket : ℕ) → bucket < 64 → meets (Without param bucket) args ≡ true
    → (bit_at bits bucket ≡ 1 → list_any (is_in_bucket bucket) (units_in (arg_at args param)) ≡ false → Has (slice_index_or sets bucket []) j)
    → may_pass (Without param bucket) (slice_index_or (rules_for tag rules) j d) ≡ true
bucket_alone rules tag args param bits sets many are needed j d h bucket within m has_it = by (bit_at bits bucket) refl (bit_at-lt bits bucket)
  where
    by : (bit : ℕ) → bit_at bits bucket ≡ bit → bit < 2 → may_pass (Without param bucket) (slice_index_or (rules_for tag rules) j d) ≡ true
    by zero e g = needed bucket within e j d h
    by (suc zero) e g =
        sym (are bucket [] (omega (arith, within, many)) j d h)
        ∙ has_it e (not-true (list_any (is_in_bucket bucket) (units_in (arg_at args param))) m)
    by (suc (suc bit)) e g = absurd (omega (arith, g))
