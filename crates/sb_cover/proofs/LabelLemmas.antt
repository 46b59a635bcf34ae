-- Labels decide as what is known does.
use Rattle.std.specs.List.{list_all}
use Rattle.std.proofs.Common.{◌≡◌, ◌∙◌, inl, inr, ◌<◌, ◌+◌, ℕ, Bool, true, false, List, [], ◌∷◌, ◌++◌, eqb, length, drop, get_or, refl, ap, sym, subst, append_assoc, ◌&&◌, take}
use Rattle.std.proofs.Math.Seq.{drop-append_seam}
use Rattle.sb_cover.specs.Pruning.{is_true, places, marks_by, marks_in, AllDecideAlike, ArePruned, DecideAlike, IsCovered, IsLabel}
use Rattle.sb_cover.specs.declared.open_rules.OpenRule.{OpenRule}
use Rattle.sb_cover.specs.declared.open_rules.OpenQuestion.{OpenQuestion}
use Rattle.sb_cover.proofs.NeedLemmas.{left_from}

-- a rule that is covered, one that does not hold, and one that does
pub covered_mark : (depth : ℕ) (decided : List (List ℕ)) (x y : Bool) (a b : List Bool) (rule : OpenRule) (rules : List OpenRule) → IsCovered depth decided rule.later
    → ArePruned depth decided a b rules → ArePruned depth decided (x ∷ a) (y ∷ b) (rule ∷ rules)
covered_mark depth decided x y a b rule rules covered rest = inl (covered, rest)

pub no_mark : (depth : ℕ) (decided : List (List ℕ)) (x y : Bool) (a b : List Bool) (rule : OpenRule) (rules : List OpenRule) → x ≡ y
    → ArePruned depth decided a b rules → ArePruned depth decided (x ∷ a) (y ∷ b) (rule ∷ rules)
no_mark depth decided x y a b rule rules same rest = inr (inl (same, rest))

pub true_mark : (depth : ℕ) (decided new : List (List ℕ)) (later : List ℕ) (x : Bool) (a b : List Bool) (rule : OpenRule) (rules : List OpenRule) → x ≡ true
    → new ≡ decided ++ later ∷ [] → later ≡ rule.later → ArePruned depth new a b rules → ArePruned depth decided (x ∷ a) (true ∷ b) (rule ∷ rules)
true_mark depth decided new later x a b rule rules holds is same rest =
    let put = subst (λ d. ArePruned depth d a b rules) (is ∙ ap (λ l. decided ++ l ∷ []) same) rest in
    inr (inr (holds, refl, put))

-- one mark more
pub marks_one : (depth : ℕ) (old new : List (List ℕ)) (f : ℕ → Bool) (rules : List OpenRule) (i : ℕ) (rule : OpenRule) (marks : List ℕ) (n : ℕ) (mark : Bool) (more : List ℕ)
    → i < length rules → rule ≡ get_or rules i rule → eqb n 1 ≡ mark
    → ((a b : List Bool) (rest : List OpenRule) → ArePruned depth new a b rest → ArePruned depth old (list_all f rule.here ∷ a) (mark ∷ b) (rule ∷ rest))
    → ((more : List ℕ) → ArePruned depth old (marks_by f (drop i rules)) (marks_in more) (drop i rules) → ArePruned depth [] (marks_by f rules) (marks_in (marks ++ more)) rules)
    → ArePruned depth new (marks_by f (drop (i + 1) rules)) (marks_in more) (drop (i + 1) rules)
    → ArePruned depth [] (marks_by f rules) (marks_in ((marks ++ n ∷ []) ++ more)) rules
marks_one depth old new f rules i rule marks n mark more low is number step before rest =
    let here = step (marks_by f (drop (i + 1) rules)) (marks_in more) (drop (i + 1) rules) rest in
    let there = subst (λ m. ArePruned depth old (list_all f rule.here ∷ marks_by f (drop (i + 1) rules)) (m ∷ marks_in more) (rule ∷ drop (i + 1) rules)) (sym number) here in
    subst (λ l. ArePruned depth [] (marks_by f rules) (marks_in l) rules) (sym (append_assoc marks (n ∷ []) more))
    (before (n ∷ more) (subst (λ l. ArePruned depth old (marks_by f l) (marks_in (n ∷ more)) l) (sym (left_from rules i rule low is)) there))

-- the marks of one question more
pub label_one : (f : ℕ → Bool) (questions : List OpenQuestion) (i : ℕ) (question : OpenQuestion) (numbers marks more : List ℕ) → i < length questions
    → question ≡ get_or questions i question → length marks ≡ length question.rules
    → DecideAlike question.depth question.rules (marks_by f question.rules) (marks_in (marks ++ more))
    → ((more : List ℕ) → IsLabel f (drop i questions) more → IsLabel f questions (numbers ++ more))
    → IsLabel f (drop (i + 1) questions) more → IsLabel f questions ((numbers ++ marks) ++ more)
label_one f questions i question numbers marks more low is count here before rest =
    let same : drop (length question.rules) (marks ++ more) ≡ more = ap (λ n. drop n (marks ++ more)) (sym count) ∙ drop-append_seam marks more in
    subst (IsLabel f questions) (sym (append_assoc numbers marks more))
    (before (marks ++ more) (subst (λ l. IsLabel f l (marks ++ more)) (sym (left_from questions i question low is))
    (here, subst (IsLabel f (drop (i + 1) questions)) (sym same) rest)))

-- tests that decide alike have the same labels
pub alike_label : (f g : ℕ → Bool) (questions : List OpenQuestion) (label : List ℕ) → AllDecideAlike f g questions → IsLabel g questions label → IsLabel f questions label
alike_label f g [] label alike is = tt
alike_label f g (question ∷ questions) label alike is =
    (λ other. alike.0 other ∙ is.0 other, alike_label f g questions (drop (length question.rules) label) alike.1 is.1)

pub alike_alike : (f g h : ℕ → Bool) (questions : List OpenQuestion) → AllDecideAlike f g questions → AllDecideAlike g h questions → AllDecideAlike f h questions
alike_alike f g h [] one two = tt
alike_alike f g h (question ∷ questions) one two = (λ other. one.0 other ∙ two.0 other, alike_alike f g h questions one.1 two.1)

all_same : (f g : ℕ → Bool) → ((n : ℕ) → f n ≡ g n) → (numbers : List ℕ) → list_all f numbers ≡ list_all g numbers
all_same f g same [] = refl
all_same f g same (n ∷ numbers) = λ i. same n i && all_same f g same numbers i

pub marks_same : (f g : ℕ → Bool) → ((n : ℕ) → f n ≡ g n) → (rules : List OpenRule) → marks_by f rules ≡ marks_by g rules
marks_same f g same [] = refl
marks_same f g same (rule ∷ rules) = λ i. all_same f g same rule.here i ∷ marks_same f g same rules i

-- tests that are the same of each condition
pub same_alike : (f g : ℕ → Bool) (questions : List OpenQuestion) → ((n : ℕ) → f n ≡ g n) → AllDecideAlike f g questions
same_alike f g [] same = tt
same_alike f g (question ∷ questions) same =
    (λ other. ap (λ m. take question.depth (places m other question.rules)) (marks_same f g same question.rules), same_alike f g questions same)
