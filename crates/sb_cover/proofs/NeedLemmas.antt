-- Which conditions are needed, and what is known for sure.
use Rattle.std.specs.List.{list_all, list_any}
use Rattle.std.proofs.Common.{◌≡◌, ◌⊎◌, inl, inr, ◌∙◌, ◌≤◌, ◌<◌, ◌+◌, ◌-◌, ℕ, zero, suc, Bool, true, false, cond, List, [], ◌∷◌, ◌++◌, ◌&&◌, ◌||◌, eqb, length, take, drop, get_or, map, refl, ap, sym, subst, arith}
use Rattle.std.proofs.lemmas.Bool.{and_parts, eqb-true, false≢true}
use Rattle.std.proofs.lemmas.Bool.Decides.{nat_tests, Decides-eqb}
use Rattle.std.proofs.lemmas.List.{drop_more}
use Rattle.std.proofs.lemmas.List.Folds.{list_all_more}
use Rattle.sb_cover.specs.Pruning.{is_needed, marks_by, AgreeWhereNeeded, AllDecideAlike, ArePruned, AreSure, DecideAlike, IsCovered, IsImplied, StayNeeded}
use Rattle.sb_cover.specs.declared.open_rules.OpenRule.{OpenRule}
use Rattle.sb_cover.specs.declared.open_rules.OpenQuestion.{OpenQuestion}

-- what holds of all holds of each
pub holds_of_one : (test : ℕ → Bool) (numbers : List ℕ) (n : ℕ) → list_any (λ k. eqb k n) numbers ≡ true → list_all test numbers ≡ true → test n ≡ true
holds_of_one test [] n is all = absurd (false≢true is)
holds_of_one test (k ∷ numbers) n is all =
    by (eqb k n) refl (λ e. holds_of_one test numbers n (ap (λ b. b || list_any (λ k. eqb k n) numbers) (sym e) ∙ is) (and_parts (test k) (list_all test numbers) all).1)
  where
    by : (b : Bool) → eqb k n ≡ b → (eqb k n ≡ false → test n ≡ true) → test n ≡ true
    by true e rest = ap test (sym (eqb-true k n e)) ∙ (and_parts (test k) (list_all test numbers) all).0
    by false e rest = rest e

-- what fails of one fails of all
pub fails_of_one : (test : ℕ → Bool) (numbers : List ℕ) (n : ℕ) → list_any (λ k. eqb k n) numbers ≡ true → test n ≡ false → list_all test numbers ≡ false
fails_of_one test numbers n is fails = by (list_all test numbers) refl
  where
    by : (b : Bool) → list_all test numbers ≡ b → list_all test numbers ≡ false
    by true e = absurd (false≢true (sym fails ∙ holds_of_one test numbers n is e))
    by false e = e

-- one condition more of those that are implied
pub implied_one : (few many : List ℕ) (i : ℕ) → i < length few → ((other : ℕ → Bool) → list_all other many ≡ true → list_all other (take i few) ≡ true)
    → list_any (λ n. eqb n (get_or few i 0)) many ≡ true → (other : ℕ → Bool) → list_all other many ≡ true → list_all other (take (i + 1) few) ≡ true
implied_one few many i low before is other all =
    list_all_more other few i 0 low ∙ (λ j. before other all j && holds_of_one other many (get_or few i 0) is all j)

-- a test holds of all where it holds for sure
pub sure_all : (fails holds : List Bool) (f : ℕ → Bool) → AreSure fails holds f → (numbers : List ℕ) → list_all (λ n. get_or holds n false) numbers ≡ true → list_all f numbers ≡ true
sure_all fails holds f sure [] all = refl
sure_all fails holds f sure (n ∷ numbers) all =
    let p = and_parts (get_or holds n false) (list_all (λ n. get_or holds n false) numbers) all in
    λ i. sure.holding n p.0 i && sure_all fails holds f sure numbers p.1 i

-- tests agree on all where all are needed
pub agree_all : (needed : List Bool) (f g : ℕ → Bool) → AgreeWhereNeeded needed f g → (numbers : List ℕ) → list_all (is_needed needed) numbers ≡ true → list_all f numbers ≡ list_all g numbers
agree_all needed f g agree [] all = refl
agree_all needed f g agree (n ∷ numbers) all =
    let p = and_parts (is_needed needed n) (list_all (is_needed needed) numbers) all in
    λ i. agree n p.0 i && agree_all needed f g agree numbers p.1 i

pub stay_all : (old new : List Bool) → StayNeeded old new → (numbers : List ℕ) → list_all (is_needed old) numbers ≡ true → list_all (is_needed new) numbers ≡ true
stay_all old new stay [] all = refl
stay_all old new stay (n ∷ numbers) all =
    let p = and_parts (is_needed old n) (list_all (is_needed old) numbers) all in
    λ i. stay n p.0 i && stay_all old new stay numbers p.1 i

pub agree_before : (old new : List Bool) (f g : ℕ → Bool) → StayNeeded old new → AgreeWhereNeeded new f g → AgreeWhereNeeded old f g
agree_before old new f g stay agree n needed = agree n (stay n needed)

-- one condition more that is needed
pub needed_one : (old new : List Bool) (numbers : List ℕ) (i : ℕ) → i < length numbers → StayNeeded old new → list_all (is_needed old) (take i numbers) ≡ true
    → is_needed new (get_or numbers i 0) ≡ true → list_all (is_needed new) (take (i + 1) numbers) ≡ true
needed_one old new numbers i low stay before here =
    list_all_more (is_needed new) numbers i 0 low ∙ (λ j. stay_all old new stay (take i numbers) before j && here j)

-- a rule with a condition that fails for sure
pub failing_rule : (depth : ℕ) (decided : List (List ℕ)) (fails holds needed : List Bool) (f g : ℕ → Bool) (a b : List Bool) (rule : OpenRule) (rules : List OpenRule) (n : ℕ)
    → list_any (λ k. eqb k n) rule.here ≡ true → get_or fails n false ≡ true → is_needed needed n ≡ true → AreSure fails holds f → AgreeWhereNeeded needed f g
    → ArePruned depth decided a b rules → ArePruned depth decided (list_all f rule.here ∷ a) (list_all g rule.here ∷ b) (rule ∷ rules)
failing_rule depth decided fails holds needed f g a b rule rules n is fail need sure agree rest =
    let one = fails_of_one f rule.here n is (sure.failing n fail) in
    let two = fails_of_one g rule.here n is (sym (agree n need) ∙ sure.failing n fail) in
    inr (inl (one ∙ sym two, rest))

-- a rule of which all conditions are needed
pub needed_rule : (depth : ℕ) (decided : List (List ℕ)) (needed : List Bool) (f g : ℕ → Bool) (a b : List Bool) (rule : OpenRule) (rules : List OpenRule)
    → list_all (is_needed needed) rule.here ≡ true → AgreeWhereNeeded needed f g
    → ArePruned depth decided a b rules → ArePruned depth decided (list_all f rule.here ∷ a) (list_all g rule.here ∷ b) (rule ∷ rules)
needed_rule depth decided needed f g a b rule rules all agree rest = inr (inl (agree_all needed f g agree rule.here all, rest))

-- a rule that holds for sure
pub sure_rule : (depth : ℕ) (decided new : List (List ℕ)) (later : List ℕ) (fails holds needed : List Bool) (f g : ℕ → Bool) (a b : List Bool) (rule : OpenRule) (rules : List OpenRule)
    → list_all (is_needed needed) rule.here ≡ true → list_all (λ n. get_or holds n false) rule.here ≡ true → new ≡ decided ++ later ∷ [] → later ≡ rule.later
    → AreSure fails holds f → AgreeWhereNeeded needed f g
    → ArePruned depth new a b rules → ArePruned depth decided (list_all f rule.here ∷ a) (list_all g rule.here ∷ b) (rule ∷ rules)
sure_rule depth decided new later fails holds needed f g a b rule rules all hold is same sure agree rest =
    let one = sure_all fails holds f sure rule.here hold in
    let two = sym (agree_all needed f g agree rule.here all) ∙ one in
    let put = subst (λ d. ArePruned depth d a b rules) (is ∙ ap (λ l. decided ++ l ∷ []) same) rest in
    inr (inr (one, two, put))

-- one list more is implied, or not
pub covered_implied : (left : ℕ) (d : List ℕ) (decided : List (List ℕ)) (later : List ℕ) → 0 < left → IsImplied d later → IsCovered (left - 1) decided later
    → IsCovered left (d ∷ decided) later
covered_implied zero d decided later some implied rest = tt
covered_implied (suc n) d decided later some implied rest =
    let e : suc n - 1 ≡ n = omega arith in inl (implied, subst (λ m. IsCovered m decided later) e rest)

pub covered_other : (left : ℕ) (d : List ℕ) (decided : List (List ℕ)) (later : List ℕ) → IsCovered left decided later → IsCovered left (d ∷ decided) later
covered_other zero d decided later rest = tt
covered_other (suc n) d decided later rest = inr rest

-- what is left of a list
pub left_from : {X : Type 0} → (xs : List X) (i : ℕ) (x : X) → i < length xs → x ≡ get_or xs i x → drop i xs ≡ x ∷ drop (i + 1) xs
left_from xs i x low is = drop_more xs i x low ∙ ap (λ y. y ∷ drop (i + 1) xs) (sym is)

pub pruned_one : (depth : ℕ) (old new : List (List ℕ)) (f g : ℕ → Bool) (rules : List OpenRule) (i : ℕ) (rule : OpenRule) → i < length rules → rule ≡ get_or rules i rule
    → ((a b : List Bool) (more : List OpenRule) → ArePruned depth new a b more → ArePruned depth old (list_all f rule.here ∷ a) (list_all g rule.here ∷ b) (rule ∷ more))
    → ArePruned depth new (marks_by f (drop (i + 1) rules)) (marks_by g (drop (i + 1) rules)) (drop (i + 1) rules)
    → ArePruned depth old (marks_by f (drop i rules)) (marks_by g (drop i rules)) (drop i rules)
pruned_one depth old new f g rules i rule low is step rest =
    subst (λ l. ArePruned depth old (marks_by f l) (marks_by g l) l) (sym (left_from rules i rule low is))
    (step (marks_by f (drop (i + 1) rules)) (marks_by g (drop (i + 1) rules)) (drop (i + 1) rules) rest)

-- one question more
pub alike_one : (f g : ℕ → Bool) (questions : List OpenQuestion) (i : ℕ) (question : OpenQuestion) → i < length questions → question ≡ get_or questions i question
    → DecideAlike question.depth question.rules (marks_by f question.rules) (marks_by g question.rules)
    → AllDecideAlike f g (drop (i + 1) questions) → AllDecideAlike f g (drop i questions)
alike_one f g questions i question low is here rest =
    subst (AllDecideAlike f g) (sym (left_from questions i question low is)) (here, rest)
