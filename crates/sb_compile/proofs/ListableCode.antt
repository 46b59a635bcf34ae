-- Rules whose values have their sizes are compiled to opcodes that the listing tells.
use Rattle.std.specs.Prelude.{nat_le, nat_lt, bit_or}
use Rattle.std.specs.List.{flat_map, list_all, prefix_len}
use Rattle.std.proofs.Common.{◌≡◌, ◌∙◌, ◌≤◌, ◌<◌, ◌^◌, ℕ, Bool, true, false, not, cond, eqb, ltb, ◌&&◌, ◌||◌, zero, suc, List, [], ◌∷◌, ◌++◌, drop, filter, length, map, refl, ap, sym, subst, arith}
use Rattle.std.proofs.lemmas.Bool.{and_parts, false≢true, leb-true, lt-ltb, ltb-true}
use Rattle.std.proofs.lemmas.List.Folds.{list_all-append}
use Rattle.std.proofs.lemmas.List.Sums.{prefix_len-le-length}
use Rattle.sb_base.specs.Wide.{is_unit}
use Rattle.sb_base.specs.Quoting.{QuotesDiffer}
use Rattle.sb_call.specs.Tags.{shape_of}
use Rattle.sb_call.specs.declared.tags.CallTag.{CallTag}
use Rattle.sb_call.specs.declared.tags.CallTag.TheVariants.{Ping, FileCreate, FileOpen, FileQuery, FileRename, PipeCreate, KeyCreate, KeyOpen, EventCreate, EventOpen, HandleClose}
use Rattle.sb_rule.specs.PatternReading.{text_of, may_precede, is_spellable}
use Rattle.sb_rule.specs.declared.cells.Cell.{Cell}
use Rattle.sb_rule.specs.declared.cells.Cell.TheVariants.{Lit, One, Any}
use Rattle.sb_rule.specs.WellMade.{is_sensible, is_policy_text, is_well_formed, is_well_made, is_well_made_rule}
use Rattle.sb_rule.specs.declared.conditions.Cond.{Cond}
use Rattle.sb_rule.specs.declared.conditions.Test.{Test}
use Rattle.sb_rule.specs.declared.conditions.Test.TheVariants as test
use Rattle.sb_rule.specs.declared.policies.Policy.{Policy}
use Rattle.sb_rule.specs.declared.policies.Rule.{Rule}
use Rattle.sb_opcode.specs.Options.{OR, FOLD, EXACT}
use Rattle.sb_opcode.specs.Packing.{is_sized_cell}
use Rattle.sb_opcode.specs.Opcodes.{Opcode}
use Rattle.sb_opcode.specs.Opcodes.{OpKind}
use Rattle.sb_opcode.specs.Opcodes as op
use Rattle.sb_opcode.specs.declared.opcodes.Seek.TheVariants.{Skip, Forward, ToEnd}
use Rattle.sb_compile.specs.Compiling.{opcode, is_one, here, first_code, later_code, or_true, runs_code, test_code, with_options, end_bits, closed, cond_code, rule_code, code_of, code_in, program_of}
use Rattle.sb_rule.specs.Verdicts.{is_for}
use Rattle.sb_compile.specs.ListingLaws.{is_told_before, is_fragment, is_listable_kind, has_param, is_listable, AreListable, is_sized_test, is_sized_rule, DifferentCodeIsListedDifferently}
use Rattle.sb_base.specs.Numbers.{is_word64}
use Rattle.sb_base.specs.OneLine.{is_no_lf}
use Rattle.sb_compile.proofs.Cuts.{act_of, is_formed}
use Rattle.sb_compile.proofs.Members.{both, is_placed_well}
use Rattle.sb_compile.proofs.Runs.{joined, are_free, runs_of}
use Rattle.sb_compile.proofs.Seeking.{is_free}
use Rattle.sb_compile.proofs.ToldCodes.{same_listings}
use Rattle.sb_compile.proofs.ToldOptions.{below_all}
use Rattle.sb_compile.proofs.Verdicts.{rules_formed}

-- opcodes that the listing tells
abbrev are_listable : List Opcode → Bool
are_listable ops = list_all is_listable ops

listable : (param bits : ℕ) (kind : OpKind) → is_listable_kind kind ≡ true → has_param kind ≡ true → is_word64 param ≡ true → ltb bits 32 ≡ true
    → is_listable (opcode param bits kind) ≡ true
listable param bits kind k h s b = λ i. ((k i && (h i || eqb param 0)) && s i) && b i

never : (b : Bool) → not (b && false) ≡ true
never true = refl
never false = refl

-- what may come before cells may come before the first of them
before_fewer : (u : ℕ) (run later : List Cell) → is_unit u ≡ true → may_precede (Lit u) (run ++ later) ≡ true → is_told_before u run ≡ true
before_fewer u [] later unit h = both unit (never (eqb u 47))
before_fewer u (One ∷ run) later unit h = both unit (and_parts (not (eqb u 42)) (not (eqb u 47 && true)) h).1
before_fewer u (Any ∷ run) later unit h = both unit (never (eqb u 47))
before_fewer u (Lit v ∷ run) later unit h = both unit (never (eqb u 47))

-- cells without `*` that are a part of a pattern are a fragment
fragment_of : (run later : List Cell) → is_free run ≡ true → is_spellable (run ++ later) ≡ true → list_all is_sized_cell run ≡ true → is_fragment run ≡ true
fragment_of [] later free spelled sized = refl
fragment_of (One ∷ run) later free spelled sized = fragment_of run later free spelled sized
fragment_of (Any ∷ run) later free spelled sized = absurd (false≢true free)
fragment_of (Lit u ∷ run) later free spelled sized =
    let p = and_parts (may_precede (Lit u) (run ++ later)) (is_spellable (run ++ later)) spelled in
    let q = and_parts (is_sized_cell (Lit u)) (list_all is_sized_cell run) sized in
    both (before_fewer u run later q.0 p.0) (fragment_of run later free p.1 q.1)

spelled_later : (run later : List Cell) → is_spellable (run ++ later) ≡ true → is_spellable later ≡ true
spelled_later [] later h = h
spelled_later (c ∷ run) later h = spelled_later run later (and_parts (may_precede c (run ++ later)) (is_spellable (run ++ later)) h).1

with_nothing : (run : List Cell) → run ++ [] ≡ run
with_nothing [] = refl
with_nothing (c ∷ run) = ap (λ l. c ∷ l) (with_nothing run)

-- the runs of a pattern are fragments
runs_told : (run : List Cell) (runs : List (List Cell)) → is_free run ≡ true → are_free runs ≡ true → is_spellable (joined run runs) ≡ true
    → list_all is_sized_cell (joined run runs) ≡ true → list_all is_fragment (run ∷ runs) ≡ true
runs_told run [] free others spelled sized =
    both (fragment_of run [] free (ap is_spellable (with_nothing run) ∙ spelled) sized) refl
runs_told run (next ∷ runs) free others spelled sized =
    let later = Any ∷ joined next runs in
    let p = and_parts (list_all is_sized_cell run) (list_all is_sized_cell later) (sym (list_all-append is_sized_cell run later) ∙ sized) in
    let q = and_parts (is_free next) (are_free runs) others in
    let after = and_parts (may_precede Any (joined next runs)) (is_spellable (joined next runs)) (spelled_later run later spelled) in
    both (fragment_of run later free spelled p.0) (runs_told next runs q.0 q.1 after.1 p.1)

-- a text has a unit at least for each cell
texts_long : (cells : List Cell) → length cells ≤ length (text_of cells)
texts_long [] = omega arith
texts_long (One ∷ cells) = let later = texts_long cells in omega (arith, later)
texts_long (Any ∷ cells) = let later = texts_long cells in omega (arith, later)
texts_long (Lit u ∷ cells) = by (eqb u 63) (texts_long cells)
  where
    by : (b : Bool) → length cells ≤ length (text_of cells) → suc (length cells) ≤ length (cond b (47 ∷ 63 ∷ []) (u ∷ []) ++ text_of cells)
    by true later = omega (arith, later)
    by false later = omega (arith, later)

part_short : (run later : List Cell) → length run ≤ length (run ++ later)
part_short [] later = omega arith
part_short (c ∷ run) later = let rest = part_short run later in omega (arith, rest)

run_short : (run : List Cell) (runs : List (List Cell)) → length run ≤ length (joined run runs)
run_short run [] = omega arith
run_short run (next ∷ runs) = part_short run (Any ∷ joined next runs)

small_skip : (run : List Cell) → length run ≤ 256 → is_word64 (prefix_len is_one run) ≡ true
small_skip run h = let less = prefix_len-le-length is_one run in lt-ltb (prefix_len is_one run) (2 ^ 64) (omega (arith, less, h))

fragment_rest : (n : ℕ) (cells : List Cell) → is_fragment cells ≡ true → is_fragment (drop n cells) ≡ true
fragment_rest zero cells h = h
fragment_rest (suc n) [] h = refl
fragment_rest (suc n) (One ∷ cells) h = fragment_rest n cells h
fragment_rest (suc n) (Any ∷ cells) h = absurd (false≢true h)
fragment_rest (suc n) (Lit u ∷ cells) h = fragment_rest n cells (and_parts (is_told_before u cells) (is_fragment cells) h).1

here_listable : (param bits : ℕ) (run : List Cell) → is_word64 param ≡ true → ltb bits 32 ≡ true → is_fragment run ≡ true → length run ≤ 256
    → is_listable (here param bits run) ≡ true
here_listable param bits run s b h short =
    let n = prefix_len is_one run in
    listable param bits (op.Text (drop n run) (Skip n)) (both (fragment_rest n run h) (small_skip run short)) refl s b

first_listable : (param : ℕ) (run : List Cell) → is_word64 param ≡ true → is_fragment run ≡ true → length run ≤ 256 → are_listable (first_code param run) ≡ true
first_listable param [] s h short = refl
first_listable param (c ∷ run) s h short = both (here_listable param FOLD (c ∷ run) s refl h short) refl

later_listable : (param : ℕ) (runs : List (List Cell)) → is_word64 param ≡ true → list_all is_fragment runs ≡ true → are_listable (later_code param runs) ≡ true
later_listable param [] s h = refl
later_listable param ([] ∷ []) s h = refl
later_listable param ((c ∷ run) ∷ []) s h = both (listable param FOLD (op.Text (c ∷ run) ToEnd) (both (and_parts (is_fragment (c ∷ run)) true h).0 refl) refl s refl) refl
later_listable param (run ∷ next ∷ runs) s h =
    let p = and_parts (is_fragment run) (list_all is_fragment (next ∷ runs)) h in
    both (listable param FOLD (op.Text run Forward) (both p.0 refl) refl s refl) (later_listable param (next ∷ runs) s p.1)

true_listable : (ops : List Opcode) → are_listable ops ≡ true → are_listable (or_true ops) ≡ true
true_listable [] h = refl
true_listable (op ∷ ops) h = h

runs_listable : (param : ℕ) (run : List Cell) (runs : List (List Cell)) → is_word64 param ≡ true → list_all is_fragment (run ∷ runs) ≡ true → length run ≤ 256
    → are_listable (runs_code param (run ∷ runs)) ≡ true
runs_listable param run [] s h short = both (here_listable param (bit_or FOLD EXACT) run s refl (and_parts (is_fragment run) true h).0 short) refl
runs_listable param run (next ∷ runs) s h short =
    let p = and_parts (is_fragment run) (list_all is_fragment (next ∷ runs)) h in
    true_listable (first_code param run ++ later_code param (next ∷ runs))
    (list_all-append is_listable (first_code param run) (later_code param (next ∷ runs)) ∙ both (first_listable param run s p.0 short) (later_listable param (next ∷ runs) s p.1))

literals_told : (text : List ℕ) → list_all is_unit text ≡ true → is_fragment (map Lit text) ≡ true
literals_told [] h = refl
literals_told (u ∷ []) h = both (both (and_parts (is_unit u) true h).0 (never (eqb u 47))) refl
literals_told (u ∷ v ∷ text) h =
    let p = and_parts (is_unit u) (list_all is_unit (v ∷ text)) h in
    both (both p.0 (never (eqb u 47))) (literals_told (v ∷ text) p.1)

numbers_listable : (param : ℕ) (ns : List ℕ) → is_word64 param ≡ true → list_all is_word64 ns ≡ true → are_listable (map (λ k. opcode param OR (op.Num k)) ns) ≡ true
numbers_listable param [] s h = refl
numbers_listable param (n ∷ ns) s h =
    let p = and_parts (is_word64 n) (list_all is_word64 ns) h in
    both (listable param OR (op.Num n) p.0 refl s refl) (numbers_listable param ns s p.1)

pattern_listable : (param : ℕ) (cells : List Cell) → is_word64 param ≡ true → is_sensible (test.Like cells) ≡ true → list_all is_sized_cell cells ≡ true
    → are_listable (test_code param (test.Like cells)) ≡ true
pattern_listable param cells s sensible sized =
    let p = and_parts (nat_le (length (text_of cells)) 256 && is_spellable cells) (is_policy_text (text_of cells)) sensible in
    let q = and_parts (nat_le (length (text_of cells)) 256) (is_spellable cells) p.0 in
    let r = runs_of cells in
    let told = runs_told r.first r.others r.first_free r.others_free (ap is_spellable r.join ∙ q.1) (ap (list_all is_sized_cell) r.join ∙ sized) in
    let whole : length r.first ≤ length cells = subst (λ l. length r.first ≤ length l) r.join (run_short r.first r.others) in
    ap (λ runs. are_listable (runs_code param runs)) r.are
    ∙ runs_listable param r.first r.others s told (short (length r.first) (length cells) (length (text_of cells)) whole (texts_long cells) q.0)
  where
    short : (a b c : ℕ) → a ≤ b → b ≤ c → nat_le c 256 ≡ true → a ≤ 256
    short a b c h k l = omega (arith, h, k, leb-true c 256 l)

test_listable : (param : ℕ) (test : Test) → is_word64 param ≡ true → is_sensible test ≡ true → is_sized_test test ≡ true → are_listable (test_code param test) ≡ true
test_listable param (test.OneOf []) s sensible sized = refl
test_listable param (test.OneOf (n ∷ [])) s sensible sized = both (listable param 0 (op.Num n) (and_parts (is_word64 n) true sized).0 refl s refl) refl
test_listable param (test.OneOf (n ∷ m ∷ ns)) s sensible sized = numbers_listable param (n ∷ m ∷ ns) s sized
test_listable param (test.Range lo hi) s sensible sized = both (listable param 0 (op.Range lo hi) sized refl s refl) refl
test_listable param (test.Mask mask) s sensible sized = both (listable param 0 (op.Mask mask) sized refl s refl) refl
test_listable param (test.Equal text) s sensible sized =
    both (listable param (bit_or FOLD EXACT) (op.Text (map Lit text) (Skip 0)) (both (literals_told text sized) refl) refl s refl) refl
test_listable param (test.Like cells) s sensible sized = pattern_listable param cells s sensible sized

few_params : (tag : CallTag) → nat_le (length (shape_of tag)) 9 ≡ true
few_params Ping = refl
few_params _ = refl

small_param : (param count : ℕ) → nat_lt param count ≡ true → nat_le count 9 ≡ true → is_word64 param ≡ true
small_param param count h few = lt-ltb param (2 ^ 64) (omega (arith, ltb-true param count h, leb-true count 9 few))

-- what the last opcode of a group gains is one of the five options
ends_small : (negated : Bool) (n : ℕ) → n < 32 → ltb (bit_or n (end_bits negated)) 32 ≡ true
ends_small true n h = below_all (λ k. ltb (bit_or k (end_bits true)) 32) 32 n refl h
ends_small false n h = below_all (λ k. ltb (bit_or k (end_bits false)) 32) 32 n refl h

end_listable : (negated : Bool) (op : Opcode) → is_listable op ≡ true → is_listable (with_options (end_bits negated) op) ≡ true
end_listable negated op h =
    let p = and_parts (is_listable_kind op.kind && (has_param op.kind || eqb op.param 0) && is_word64 op.param) (ltb op.options.0 32) h in
    both p.0 (ends_small negated op.options.0 (ltb-true op.options.0 32 p.1))

closed_listable : (negated : Bool) (ops : List Opcode) → are_listable ops ≡ true → are_listable (closed negated ops) ≡ true
closed_listable negated [] h = refl
closed_listable negated (op ∷ []) h = both (end_listable negated op (and_parts (is_listable op) true h).0) refl
closed_listable negated (op ∷ next ∷ ops) h =
    let p = and_parts (is_listable op) (are_listable (next ∷ ops)) h in
    both p.0 (closed_listable negated (next ∷ ops) p.1)

conds_listable : (tag : CallTag) (cs : List Cond) → list_all (is_well_formed tag) cs ≡ true → list_all (λ cond. is_sized_test cond.test) cs ≡ true
    → are_listable (flat_map cond_code cs) ≡ true
conds_listable tag [] h sized = refl
conds_listable tag (c ∷ cs) h sized =
    let p = and_parts (is_well_formed tag c) (list_all (is_well_formed tag) cs) h in
    let q = and_parts (is_sized_test c.test) (list_all (λ cond. is_sized_test cond.test) cs) sized in
    let s = small_param c.param (length (shape_of tag)) (and_parts (nat_lt c.param (length (shape_of tag))) _ p.0).0 (few_params tag) in
    list_all-append is_listable (cond_code c) (flat_map cond_code cs)
    ∙ both (closed_listable c.negated (test_code c.param c.test) (test_listable c.param c.test s (is_placed_well tag c p.0).1 q.0)) (conds_listable tag cs p.1 q.1)

rule_listable : (rule : Rule) → is_formed rule ≡ true → is_sized_rule rule ≡ true → are_listable (rule_code rule) ≡ true
rule_listable rule h sized =
    let q = and_parts (list_all (λ cond. is_sized_test cond.test) rule.conds) (is_word64 rule.line) sized in
    let act : is_listable (act_of rule) ≡ true = (λ i. ((q.1 i && true) && true) && true) in
    list_all-append is_listable (flat_map cond_code rule.conds) (act_of rule ∷ []) ∙ both (conds_listable rule.tag rule.conds h q.0) (both act refl)

rules_listable : (tag : CallTag) (rules : List Rule) → list_all is_formed rules ≡ true → list_all is_sized_rule rules ≡ true → are_listable (code_of rules tag) ≡ true
rules_listable tag [] h sized = refl
rules_listable tag (rule ∷ rules) h sized =
    let p = and_parts (is_formed rule) (list_all is_formed rules) h in
    let q = and_parts (is_sized_rule rule) (list_all is_sized_rule rules) sized in
    by (is_for tag rule) (rule_listable rule p.0 q.0) (rules_listable tag rules p.1 q.1)
  where
    by : (mine : Bool) → are_listable (rule_code rule) ≡ true → are_listable (code_of rules tag) ≡ true
        → are_listable (flat_map rule_code (cond mine (rule ∷ filter (is_for tag) rules) (filter (is_for tag) rules))) ≡ true
    by true one later = list_all-append is_listable (rule_code rule) (code_of rules tag) ∙ both one later
    by false one later = later

program_listable : (policy : Policy) → is_well_made policy ≡ true → list_all is_sized_rule policy.rules ≡ true → AreListable (program_of policy)
program_listable policy w sized tag = by tag
  where
    each : (tag : CallTag) → are_listable (code_of policy.rules tag) ≡ true
    each tag = rules_listable tag policy.rules (rules_formed policy.rules (and_parts (nat_le (length policy.rules) 256) (list_all is_well_made_rule policy.rules) w).1) sized

    by : (tag : CallTag) → are_listable (code_in (program_of policy) tag) ≡ true
    by Ping = each Ping
    by FileCreate = each FileCreate
    by FileOpen = each FileOpen
    by FileQuery = each FileQuery
    by FileRename = each FileRename
    by PipeCreate = each PipeCreate
    by KeyCreate = each KeyCreate
    by KeyOpen = each KeyOpen
    by EventCreate = each EventCreate
    by EventOpen = each EventOpen
    by HandleClose = each HandleClose

pub different_code_is_listed_differently : QuotesDiffer → DifferentCodeIsListedDifferently
different_code_is_listed_differently quotes a b wa wb sa sb names e =
    let p = and_parts (list_all is_no_lf a.name) (list_all is_sized_rule a.rules) sa in
    let q = and_parts (list_all is_no_lf b.name) (list_all is_sized_rule b.rules) sb in
    let codes = same_listings quotes (program_of a) (program_of b) names p.0 (program_listable a wa p.1) (program_listable b wb q.1) e in
    λ i. record { name = names i; codes = codes i }
