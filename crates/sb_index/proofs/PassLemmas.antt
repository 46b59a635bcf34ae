-- A rule that holds passes each question that the arguments meet.
use Rattle.std.proofs.Common.{◌≡◌, ◌∙◌, ◌≤◌, ◌%◌, ℕ, Bool, true, false, not, cond, List, [], ◌∷◌, ◌&&◌, ◌||◌, drop, eqb, refl, ap, sym, arith}
use Rattle.std.specs.Prelude.{nat_eq, nat_le}
use Rattle.std.specs.List.{list_all, list_any}
use Rattle.std.proofs.lemmas.Bool.{and_parts, and_from, eqb-true, false≢true, le-leb, leb-true, or_right, or_from, not-true}
use Rattle.sb_base.specs.Wide.{folded, is_same}
use Rattle.sb_call.specs.Arguments.{arg_at}
use Rattle.sb_call.specs.Tags.{number_of}
use Rattle.sb_call.specs.declared.arguments.Arg.{Arg}
use Rattle.sb_call.specs.declared.arguments.Arg.TheVariants as arg
use Rattle.sb_rule.specs.Matching.{matches, matches_some_rest}
use Rattle.sb_rule.specs.declared.cells.Cell.{Cell}
use Rattle.sb_rule.specs.declared.cells.Cell.TheVariants.{Lit, One, Any}
use Rattle.sb_rule.specs.Verdicts.{test_holds, cond_holds}
use Rattle.sb_rule.specs.declared.conditions.Cond.{Cond}
use Rattle.sb_rule.specs.declared.conditions.Test.{Test}
use Rattle.sb_rule.specs.declared.conditions.Test.TheVariants.{OneOf, Range, Mask, Equal, Like}
use Rattle.sb_index.specs.Fronts.{key, edge, past}
use Rattle.sb_index.specs.Laws.{RulesThatHoldPass}
use Rattle.sb_index.specs.Questions.{number_in, units_in, lies, number_may_lie, front_may_lie, is_in_bucket, is_cell_in_bucket, needs_bucket, test_may_pass, cond_may_pass, meets}
use Rattle.sb_index.specs.declared.questions.Feature.TheVariants.{Number, Front}
use Rattle.sb_index.specs.declared.questions.Question.{Question}
use Rattle.sb_index.specs.declared.questions.Question.TheVariants.{Within, Without}
use Rattle.sb_index.proofs.FrontLemmas.{past_lies, same_front}

-- numbers that lie between two others and between two more
overlap : (low high first last k : ℕ) → low ≤ k → k ≤ high → nat_le first k ≡ true → nat_le k last ≡ true → (nat_le low last && nat_le first high) ≡ true
overlap low high first last k l h f g =
    and_from (nat_le low last) (nat_le first high)
    (le-leb low last (omega (arith, l, leb-true k last g))) (le-leb first high (omega (arith, h, leb-true first k f)))

-- numbers
one_lies : (numbers : List ℕ) (value first last : ℕ) → list_any (λ n. nat_eq n value) numbers ≡ true → lies first last value ≡ true → list_any (lies first last) numbers ≡ true
one_lies [] value first last h m = h
one_lies (n ∷ numbers) value first last h m = by (nat_eq n value) refl h (λ h. one_lies numbers value first last h m)
  where
    by : (b : Bool) → nat_eq n value ≡ b → (b || list_any (λ n. nat_eq n value) numbers) ≡ true
        → (list_any (λ n. nat_eq n value) numbers ≡ true → list_any (lies first last) numbers ≡ true) → (lies first last n || list_any (lies first last) numbers) ≡ true
    by true e h later = ap (λ b. b || list_any (lies first last) numbers) (ap (lies first last) (eqb-true n value e) ∙ m)
    by false e h later = or_right (lies first last n) (list_any (lies first last) numbers) (later h)

number_lies : (test : Test) (value first last : ℕ) → test_holds test (arg.Num value) ≡ true → lies first last value ≡ true → number_may_lie test first last ≡ true
number_lies (OneOf numbers) value first last h m = one_lies numbers value first last h m
number_lies (Range lo hi) value first last h m =
    let p = and_parts (nat_le lo value) (nat_le value hi) h in
    let q = and_parts (nat_le first value) (nat_le value last) m in
    overlap lo hi first last value (leb-true lo value p.0) (leb-true value hi p.1) q.0 q.1
number_lies (Mask mask) value first last h m = refl
number_lies (Equal text) value first last h m = refl
number_lies (Like cells) value first last h m = refl

string_lies : (test : Test) (units : List ℕ) (first last : ℕ) → test_holds test (arg.Str units) ≡ true → number_may_lie test first last ≡ true
string_lies (OneOf numbers) units first last h = absurd (false≢true h)
string_lies (Range lo hi) units first last h = absurd (false≢true h)
string_lies (Mask mask) units first last h = refl
string_lies (Equal text) units first last h = refl
string_lies (Like cells) units first last h = refl

number_passes : (test : Test) (a : Arg) (first last : ℕ) → test_holds test a ≡ true → lies first last (number_in a) ≡ true → number_may_lie test first last ≡ true
number_passes test (arg.Num value) first last h m = number_lies test value first last h m
number_passes test (arg.Str units) first last h m = string_lies test units first last h

-- fronts
front_passes : (test : Test) (a : Arg) (skip first last : ℕ) → test_holds test a ≡ true → lies first last (key 4 (drop skip (units_in a))) ≡ true
    → front_may_lie test skip first last ≡ true
front_passes (OneOf numbers) a skip first last h m = refl
front_passes (Range lo hi) a skip first last h m = refl
front_passes (Mask mask) a skip first last h m = refl
front_passes (Equal text) (arg.Num value) skip first last h m = absurd (false≢true h)
front_passes (Equal text) (arg.Str units) skip first last h m = ap (lies first last) (sym (same_front 4 skip units text h)) ∙ m
front_passes (Like cells) (arg.Num value) skip first last h m = absurd (false≢true h)
front_passes (Like cells) (arg.Str units) skip first last h m =
    let between = past_lies 4 skip cells units h in
    by (edge 0 4 (past skip cells)) (edge 65535 4 (past skip cells)) (key 4 (drop skip units)) between.0 between.1 m
  where
    by : (low high k : ℕ) → low ≤ k → k ≤ high → lies first last k ≡ true → (nat_le low last && nat_le first high) ≡ true
    by low high k l h m =
        let p = and_parts (nat_le first k) (nat_le k last) m in
        overlap low high first last k l h p.0 p.1

-- buckets
abbrev Lacks : ℕ → List ℕ → Type 0
Lacks bucket units = list_any (is_in_bucket bucket) units ≡ false

or_left : (a b : Bool) → (a || b) ≡ false → a ≡ false
or_left false b h = refl
or_left true b h = absurd (false≢true (sym h))

or_later : (a b : Bool) → (a || b) ≡ false → b ≡ false
or_later false b h = h
or_later true b h = absurd (false≢true (sym h))

equal_lacks : (bucket : ℕ) (units text : List ℕ) → is_same units text ≡ true → Lacks bucket units → Lacks bucket text
equal_lacks bucket [] [] h l = refl
equal_lacks bucket [] (t ∷ text) h l = absurd (false≢true h)
equal_lacks bucket (u ∷ units) [] h l = absurd (false≢true h)
equal_lacks bucket (u ∷ units) (t ∷ text) h l =
    let p = and_parts (nat_eq (folded u) (folded t)) (is_same units text) h in
    let same : folded u ≡ folded t = eqb-true (folded u) (folded t) p.0 in
    or_from (is_in_bucket bucket t) (list_any (is_in_bucket bucket) text)
    (ap (λ f. eqb (f % 64) bucket) (sym same) ∙ or_left (is_in_bucket bucket u) (list_any (is_in_bucket bucket) units) l)
    (equal_lacks bucket units text p.1 (or_later (is_in_bucket bucket u) (list_any (is_in_bucket bucket) units) l))

abbrev CellsLack : ℕ → List Cell → Type 0
CellsLack bucket cells = list_any (is_cell_in_bucket bucket) cells ≡ false

some_rest_lacks : (bucket : ℕ) (test : List ℕ → Bool) (P : Type 0) → ((units : List ℕ) → test units ≡ true → Lacks bucket units → P)
    → (units : List ℕ) → matches_some_rest test units ≡ true → Lacks bucket units → P
some_rest_lacks bucket test P f [] h l = f [] h l
some_rest_lacks bucket test P f (u ∷ units) h l =
    by (test (u ∷ units)) refl h
    (λ h. some_rest_lacks bucket test P f units h (or_later (is_in_bucket bucket u) (list_any (is_in_bucket bucket) units) l))
  where
    by : (b : Bool) → test (u ∷ units) ≡ b → (b || matches_some_rest test units) ≡ true → (matches_some_rest test units ≡ true → P) → P
    by true e h later = f (u ∷ units) e l
    by false e h later = later h

like_lacks : (bucket : ℕ) (cells : List Cell) (units : List ℕ) → matches cells units ≡ true → Lacks bucket units → CellsLack bucket cells
like_lacks bucket [] units h l = refl
like_lacks bucket (Any ∷ cells) units h l = some_rest_lacks bucket (matches cells) (CellsLack bucket cells) (like_lacks bucket cells) units h l
like_lacks bucket (One ∷ cells) [] h l = absurd (false≢true h)
like_lacks bucket (One ∷ cells) (u ∷ units) h l = like_lacks bucket cells units h (or_later (is_in_bucket bucket u) (list_any (is_in_bucket bucket) units) l)
like_lacks bucket (Lit w ∷ cells) [] h l = absurd (false≢true h)
like_lacks bucket (Lit w ∷ cells) (u ∷ units) h l =
    let p = and_parts (eqb (folded u) (folded w)) (matches cells units) h in
    let same : folded u ≡ folded w = eqb-true (folded u) (folded w) p.0 in
    or_from (is_in_bucket bucket w) (list_any (is_cell_in_bucket bucket) cells)
    (ap (λ f. eqb (f % 64) bucket) (sym same) ∙ or_left (is_in_bucket bucket u) (list_any (is_in_bucket bucket) units) l)
    (like_lacks bucket cells units p.1 (or_later (is_in_bucket bucket u) (list_any (is_in_bucket bucket) units) l))

bucket_lacks : (test : Test) (a : Arg) (bucket : ℕ) → test_holds test a ≡ true → Lacks bucket (units_in a) → needs_bucket test bucket ≡ false
bucket_lacks (OneOf numbers) a bucket h l = refl
bucket_lacks (Range lo hi) a bucket h l = refl
bucket_lacks (Mask mask) a bucket h l = refl
bucket_lacks (Equal text) (arg.Num value) bucket h l = absurd (false≢true h)
bucket_lacks (Equal text) (arg.Str units) bucket h l = equal_lacks bucket units text h l
bucket_lacks (Like cells) (arg.Num value) bucket h l = absurd (false≢true h)
bucket_lacks (Like cells) (arg.Str units) bucket h l = like_lacks bucket cells units h l

-- a test that holds passes, if it is of the parameter that is asked about
if_same : (a b : ℕ) (x : Bool) → (a ≡ b → x ≡ true) → cond (eqb a b) x true ≡ true
if_same a b x f = by (eqb a b) refl
  where
    by : (t : Bool) → eqb a b ≡ t → cond t x true ≡ true
    by true e = f (eqb-true a b e)
    by false e = refl

test_passes : (question : Question) (param : ℕ) (test : Test) (args : List Arg) → test_holds test (arg_at args param) ≡ true → meets question args ≡ true
    → test_may_pass question param test ≡ true
test_passes (Within (Number wanted) first last) param test args h m =
    if_same param wanted (number_may_lie test first last)
    (λ e. number_passes test (arg_at args param) first last h (ap (λ p. lies first last (number_in (arg_at args p))) e ∙ m))
test_passes (Within (Front wanted skip) first last) param test args h m =
    if_same param wanted (front_may_lie test skip first last)
    (λ e. front_passes test (arg_at args param) skip first last h (ap (λ p. lies first last (key 4 (drop skip (units_in (arg_at args p))))) e ∙ m))
test_passes (Without wanted bucket) param test args h m =
    if_same param wanted (not (needs_bucket test bucket))
    (λ e. ap not (bucket_lacks test (arg_at args param) bucket h
    (ap (λ p. list_any (is_in_bucket bucket) (units_in (arg_at args p))) e ∙ not-true (list_any (is_in_bucket bucket) (units_in (arg_at args wanted))) m)))

cond_passes : (question : Question) (c : Cond) (args : List Arg) → cond_holds c args ≡ true → meets question args ≡ true → cond_may_pass question c ≡ true
cond_passes question c args h m = by c.negated h
  where
    by : (b : Bool) → cond b (not (test_holds c.test (arg_at args c.param))) (test_holds c.test (arg_at args c.param)) ≡ true
        → cond b true (test_may_pass question c.param c.test) ≡ true
    by true h = refl
    by false h = test_passes question c.param c.test args h m

conds_pass : (question : Question) (cs : List Cond) (args : List Arg) → list_all (λ c. cond_holds c args) cs ≡ true → meets question args ≡ true
    → list_all (cond_may_pass question) cs ≡ true
conds_pass question [] args h m = refl
conds_pass question (c ∷ cs) args h m =
    let p = and_parts (cond_holds c args) (list_all (λ c. cond_holds c args) cs) h in
    and_from (cond_may_pass question c) (list_all (cond_may_pass question) cs) (cond_passes question c args p.0 m) (conds_pass question cs args p.1 m)

pub rules_that_hold_pass : RulesThatHoldPass
rules_that_hold_pass question rule tag args h m =
    let p = and_parts (eqb (number_of rule.tag) (number_of tag)) (list_all (λ c. cond_holds c args) rule.conds) h in
    conds_pass question rule.conds args p.1 m
