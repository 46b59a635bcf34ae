-- The rules that are left.
use Rattle.std.specs.List.{list_all}
use Rattle.std.proofs.Common.{◌≡◌, ◌⊎◌, inl, inr, ◌∙◌, ◌≤◌, ◌<◌, ◌+◌, ◌-◌, ℕ, Bool, true, false, cond, List, [], ◌∷◌, ◌++◌, ◌&&◌, eqb, leb, ltb, length, take, drop, get_or, map, refl, ap, sym, subst, arith, append_assoc, append-nil, length-append}
use Rattle.std.proofs.lemmas.Bool.{and_parts}
use Rattle.std.proofs.lemmas.Bool.Decides.{nat_tests}
use Rattle.std.proofs.lemmas.List.{get_or_append_left, get_or_push, map-append}
use Rattle.std.proofs.lemmas.List.Folds.{list_all-append, list_all_more}
use Rattle.sb_cover.specs.AskedConds.{cond_at}
use Rattle.sb_cover.specs.Calls.{IsSplit, AreSplit, AllSplit, AreLeft, AreMarkedRules, AreMarkedSoFar, IsMarkedPut}
use Rattle.sb_cover.specs.Pruning.{places, marks_by, marks_in}
use Rattle.sb_cover.specs.declared.asked_conds.AskedCond.{AskedCond}
use Rattle.sb_cover.specs.declared.open_rules.OpenRule.{OpenRule}
use Rattle.sb_cover.specs.declared.open_rules.OpenQuestion.{OpenQuestion}
use Rattle.sb_cover.proofs.NeedLemmas.{left_from}

-- one condition more, put into one of two lists
by_here : (h l t n : Bool) → (h && l) ≡ t → ((h && (n && true)) && l) ≡ (t && n)
by_here true true t true e = ap (λ b. b && true) e
by_here true true t false e = ap (λ b. b && false) e
by_here true false t true e = ap (λ b. b && true) e
by_here true false t false e = ap (λ b. b && false) e
by_here false l t true e = ap (λ b. b && true) e
by_here false l t false e = ap (λ b. b && false) e

by_later : (h l t n : Bool) → (h && l) ≡ t → (h && (l && (n && true))) ≡ (t && n)
by_later true true t true e = ap (λ b. b && true) e
by_later true true t false e = ap (λ b. b && false) e
by_later true false t true e = ap (λ b. b && true) e
by_later true false t false e = ap (λ b. b && false) e
by_later false l t true e = ap (λ b. b && true) e
by_later false l t false e = ap (λ b. b && false) e

-- the numbers are in two lists, by their parameters
pub record IsParted (conds : List AskedCond) (param : ℕ) (numbers low high : List ℕ) : Type 0 where
  pub all : (f : ℕ → Bool) → (list_all f low && list_all f high) ≡ list_all f numbers
  pub here : list_all (λ n. leb (cond_at conds n).cond.param param) low ≡ true
  pub later : list_all (λ n. ltb param (cond_at conds n).cond.param) high ≡ true

one_all : (f : ℕ → Bool) (list : List ℕ) (n : ℕ) → list_all f list ≡ true → f n ≡ true → list_all f (list ++ n ∷ []) ≡ true
one_all f list n all one = list_all-append f list (n ∷ []) ∙ (λ i. all i && (one i && true))

pub parted_one : (conds : List AskedCond) (param : ℕ) (numbers here later new_here new_later : List ℕ) (i : ℕ) (is_here : Bool) → i < length numbers
    → is_here ≡ leb (cond_at conds (get_or numbers i 0)).cond.param param
    → (is_here ≡ true → (new_here ≡ here ++ get_or numbers i 0 ∷ []) × (new_later ≡ later)) → (is_here ≡ false → (new_later ≡ later ++ get_or numbers i 0 ∷ []) × (new_here ≡ here))
    → IsParted conds param (take i numbers) here later → IsParted conds param (take (i + 1) numbers) new_here new_later
parted_one conds param numbers here later new_here new_later i is_here low is put_here put_later before = by is_here refl
  where
    by : (b : Bool) → is_here ≡ b → IsParted conds param (take (i + 1) numbers) new_here new_later
    by true e =
        let p = put_here e in
        subst (λ l. IsParted conds param (take (i + 1) numbers) l new_later) (sym p.0) (subst (IsParted conds param (take (i + 1) numbers) (here ++ get_or numbers i 0 ∷ [])) (sym p.1) (record {
          all = λ f. ap (λ b. b && list_all f later) (list_all-append f here (get_or numbers i 0 ∷ [])) ∙ by_here (list_all f here) (list_all f later) (list_all f (take i numbers)) (f (get_or numbers i 0)) (before.all f)
              ∙ sym (list_all_more f numbers i 0 low);
          here = one_all (λ n. leb (cond_at conds n).cond.param param) here (get_or numbers i 0) before.here (sym is ∙ e);
          later = before.later;
        }))
    by false e =
        let p = put_later e in
        let above : ltb param (cond_at conds (get_or numbers i 0)).cond.param ≡ true = not_low (cond_at conds (get_or numbers i 0)).cond.param param (sym is ∙ e) in
        subst (λ l. IsParted conds param (take (i + 1) numbers) l new_later) (sym p.1) (subst (IsParted conds param (take (i + 1) numbers) here) (sym p.0) (record {
          all = λ f. ap (λ b. list_all f here && b) (list_all-append f later (get_or numbers i 0 ∷ [])) ∙ by_later (list_all f here) (list_all f later) (list_all f (take i numbers)) (f (get_or numbers i 0)) (before.all f)
              ∙ sym (list_all_more f numbers i 0 low);
          here = before.here;
          later = one_all (λ n. ltb param (cond_at conds n).cond.param) later (get_or numbers i 0) before.later above;
        }))
      where
        not_low : (a b : ℕ) → leb a b ≡ false → ltb b a ≡ true
        not_low a b h = grind (arith, nat_tests)

-- the places of rules of two lists
pub places_append : (f : ℕ → Bool) (a b : List OpenRule) → places (marks_by f (a ++ b)) f (a ++ b) ≡ places (marks_by f a) f a ++ places (marks_by f b) f b
places_append f [] b = refl
places_append f (rule ∷ a) b = by (list_all f rule.here && list_all f rule.later) (places_append f a b)
  where
    by : (t : Bool) → places (marks_by f (a ++ b)) f (a ++ b) ≡ places (marks_by f a) f a ++ places (marks_by f b) f b
        → cond t (rule.place ∷ places (marks_by f (a ++ b)) f (a ++ b)) (places (marks_by f (a ++ b)) f (a ++ b))
        ≡ cond t (rule.place ∷ places (marks_by f a) f a) (places (marks_by f a) f a) ++ places (marks_by f b) f b
    by true e = ap (λ l. rule.place ∷ l) e
    by false e = e

pub split_push : (conds : List AskedCond) (param : ℕ) (rules : List OpenRule) (rule : OpenRule) → AreSplit conds param rules → IsSplit conds param rule → AreSplit conds param (rules ++ rule ∷ [])
split_push conds param [] rule are is = (is, tt)
split_push conds param (r ∷ rules) rule are is = (are.0, split_push conds param rules rule are.1 is)

pub all_split_push : (conds : List AskedCond) (param : ℕ) (questions : List OpenQuestion) (question : OpenQuestion) → AllSplit conds param questions → AreSplit conds param question.rules
    → AllSplit conds param (questions ++ question ∷ [])
all_split_push conds param [] question are is = (is, tt)
all_split_push conds param (q ∷ questions) question are is = (are.0, all_split_push conds param questions question are.1 is)

-- numbers below a limit
below_up : (k : ℕ) (xs : List ℕ) → list_all (λ n. ltb n k) xs ≡ true → list_all (λ n. ltb n (k + 1)) xs ≡ true
below_up k [] all = refl
below_up k (x ∷ xs) all =
    let p = and_parts (ltb x k) (list_all (λ n. ltb n k) xs) all in
    λ i. up x p.0 i && below_up k xs p.1 i
  where
    up : (x : ℕ) → ltb x k ≡ true → ltb x (k + 1) ≡ true
    up x h = grind (arith, nat_tests)

-- old places, by one more
olds_more : (olds : List ℕ) (p : ℕ) (xs : List ℕ) → list_all (λ n. ltb n (length olds)) xs ≡ true → map (λ n. get_or (olds ++ p ∷ []) n 0) xs ≡ map (λ n. get_or olds n 0) xs
olds_more olds p [] all = refl
olds_more olds p (x ∷ xs) all =
    let parts = and_parts (ltb x (length olds)) (list_all (λ n. ltb n (length olds)) xs) all in
    λ i. get_or_append_left olds (p ∷ []) 0 x (low x parts.0) i ∷ olds_more olds p xs parts.1 i
  where
    low : (x : ℕ) → ltb x (length olds) ≡ true → x < length olds
    low x h = grind (arith, nat_tests)

-- a rule that is not marked, and one that is
pub unmarked_so_far : (left : List OpenRule) (rule : OpenRule) (rules whole : List OpenRule) (marks whole_label : List ℕ) (mark : ℕ) → eqb mark 1 ≡ false
    → AreMarkedSoFar left (rule ∷ rules) (mark ∷ marks) whole_label whole → AreMarkedSoFar left rules marks whole_label whole
unmarked_so_far left rule rules whole marks whole_label mark is before = record {
  olds = before.olds;
  as_many = before.as_many;
  below = before.below;
  same = λ f.
      sym (ap (λ b. map (λ n. get_or before.olds n 0) (places (marks_by f left) f left)
      ++ cond (b && list_all f rule.later) (rule.place ∷ places (marks_in marks) f rules) (places (marks_in marks) f rules)) is) ∙ before.same f;
}

pub marked_so_far : (left : List OpenRule) (rule rest : OpenRule) (rules whole : List OpenRule) (marks whole_label : List ℕ) (mark : ℕ) → eqb mark 1 ≡ true → rest.place ≡ length left
    → ((f : ℕ → Bool) → (list_all f rest.here && list_all f rest.later) ≡ list_all f rule.later)
    → AreMarkedSoFar left (rule ∷ rules) (mark ∷ marks) whole_label whole → AreMarkedSoFar (left ++ rest ∷ []) rules marks whole_label whole
marked_so_far left rule rest rules whole marks whole_label mark is place all before = record {
  olds = before.olds ++ rule.place ∷ [];
  as_many = length-append before.olds (rule.place ∷ []) ∙ ap (λ n. n + 1) before.as_many ∙ sym (length-append left (rest ∷ []));
  below = λ f. ap (list_all (λ n. ltb n (length (left ++ rest ∷ [])))) (places_append f left (rest ∷ []))
      ∙ list_all-append (λ n. ltb n (length (left ++ rest ∷ []))) (places (marks_by f left) f left) (places (marks_by f (rest ∷ [])) f (rest ∷ []))
      ∙ (λ i. first f i && last f (list_all f rest.here && list_all f rest.later) i);
  same = λ f. whole_same f;
}
  where
    long : length (left ++ rest ∷ []) ≡ length left + 1
    long = length-append left (rest ∷ [])

    first : (f : ℕ → Bool) → list_all (λ n. ltb n (length (left ++ rest ∷ []))) (places (marks_by f left) f left) ≡ true
    first f = ap (λ k. list_all (λ n. ltb n k) (places (marks_by f left) f left)) long ∙ below_up (length left) (places (marks_by f left) f left) (before.below f)

    last : (f : ℕ → Bool) (b : Bool) → list_all (λ n. ltb n (length (left ++ rest ∷ []))) (cond b (rest.place ∷ []) []) ≡ true
    last f true = let low : ltb rest.place (length (left ++ rest ∷ [])) ≡ true = grind (arith, nat_tests, place, long) in ap (λ b. b && true) low
    last f false = refl

    old_same : (f : ℕ → Bool) → map (λ n. get_or (before.olds ++ rule.place ∷ []) n 0) (places (marks_by f left) f left) ≡ map (λ n. get_or before.olds n 0) (places (marks_by f left) f left)
    old_same f = olds_more before.olds rule.place (places (marks_by f left) f left) (ap (λ k. list_all (λ n. ltb n k) (places (marks_by f left) f left)) before.as_many ∙ before.below f)

    here : get_or (before.olds ++ rule.place ∷ []) rest.place 0 ≡ rule.place
    here = get_or_push before.olds rule.place 0 rest.place (before.as_many ∙ sym place)

    one : (f : ℕ → Bool) (b : Bool) (tail : List ℕ) → map (λ n. get_or (before.olds ++ rule.place ∷ []) n 0) (cond b (rest.place ∷ []) []) ++ tail ≡ cond b (rule.place ∷ tail) tail
    one f true tail = ap (λ p. p ∷ tail) here
    one f false tail = refl

    whole_same : (f : ℕ → Bool) → map (λ n. get_or (before.olds ++ rule.place ∷ []) n 0) (places (marks_by f (left ++ rest ∷ [])) f (left ++ rest ∷ [])) ++ places (marks_in marks) f rules ≡ places (marks_in whole_label) f whole
    whole_same f =
        ap (λ l. map (λ n. get_or (before.olds ++ rule.place ∷ []) n 0) l ++ places (marks_in marks) f rules) (places_append f left (rest ∷ []))
        ∙ ap (λ l. l ++ places (marks_in marks) f rules) (map-append (λ n. get_or (before.olds ++ rule.place ∷ []) n 0) (places (marks_by f left) f left) (places (marks_by f (rest ∷ [])) f (rest ∷ [])))
        ∙ append_assoc (map (λ n. get_or (before.olds ++ rule.place ∷ []) n 0) (places (marks_by f left) f left)) (map (λ n. get_or (before.olds ++ rule.place ∷ []) n 0) (places (marks_by f (rest ∷ [])) f (rest ∷ []))) (places (marks_in marks) f rules)
        ∙ (λ i. old_same f i ++ one f (list_all f rest.here && list_all f rest.later) (places (marks_in marks) f rules) i)
        ∙ ap (λ b. map (λ n. get_or before.olds n 0) (places (marks_by f left) f left) ++ cond b (rule.place ∷ places (marks_in marks) f rules) (places (marks_in marks) f rules)) (all f)
        ∙ sym (ap (λ b. map (λ n. get_or before.olds n 0) (places (marks_by f left) f left) ++ cond (b && list_all f rule.later) (rule.place ∷ places (marks_in marks) f rules) (places (marks_in marks) f rules)) is)
        ∙ before.same f

-- the rules of one question more
pub left_one : (questions : List OpenQuestion) (i : ℕ) (question rest : OpenQuestion) (left more : List OpenQuestion) (label marks whole_label : List ℕ) → i < length questions
    → question ≡ get_or questions i question → rest.depth ≡ question.depth
    → AreMarkedRules question.rules label rest.rules → marks ≡ drop (length question.rules) label
    → ((more : List OpenQuestion) → AreLeft (drop i questions) label more → AreLeft questions whole_label (left ++ more))
    → AreLeft (drop (i + 1) questions) marks more → AreLeft questions whole_label ((left ++ rest ∷ []) ++ more)
left_one questions i question rest left more label marks whole_label low is depth same cut before after =
    subst (AreLeft questions whole_label) (sym (append_assoc left (rest ∷ []) more))
    (before (rest ∷ more) (subst (λ l. AreLeft l label (rest ∷ more)) (sym (left_from questions i question low is))
    (depth, same, subst (λ l. AreLeft (drop (i + 1) questions) l more) cut after)))

-- one rule more was looked at
pub rule_left : (left new : List OpenRule) (rule : OpenRule) (rules whole first : List OpenRule) (label marks whole_label : List ℕ) (mark : ℕ) → IsMarkedPut mark rule left new
    → whole ≡ rule ∷ rules → label ≡ mark ∷ marks → AreMarkedSoFar left whole label whole_label first → AreMarkedSoFar new rules marks whole_label first
rule_left left new rule rules whole first label marks whole_label mark put w l before =
    by put (subst (λ x. AreMarkedSoFar left (rule ∷ rules) x whole_label first) l (subst (λ x. AreMarkedSoFar left x label whole_label first) w before))
  where
    by : IsMarkedPut mark rule left new → AreMarkedSoFar left (rule ∷ rules) (mark ∷ marks) whole_label first → AreMarkedSoFar new rules marks whole_label first
    by (inl p) so_far = subst (λ x. AreMarkedSoFar x rules marks whole_label first) (sym p.1) (unmarked_so_far left rule rules first marks whole_label mark p.0 so_far)
    by (inr p) so_far = subst (λ x. AreMarkedSoFar x rules marks whole_label first) (sym p.2) (marked_so_far left rule p.1 rules first marks whole_label mark p.0 p.3 p.4 so_far)

-- nothing is left of the rules, or of the label
so_far_done : (left rules whole : List OpenRule) (label whole_label : List ℕ) → ((f : ℕ → Bool) → places (marks_in label) f rules ≡ [])
    → AreMarkedSoFar left rules label whole_label whole → AreMarkedRules whole whole_label left
so_far_done left rules whole label whole_label none before = (
  λ n. get_or before.olds n 0,
  λ f. sym (append-nil (map (λ n. get_or before.olds n 0) (places (marks_by f left) f left)))
      ∙ sym (ap (λ l. map (λ n. get_or before.olds n 0) (places (marks_by f left) f left) ++ l) (none f)) ∙ before.same f,
)

pub left_done : (left rules whole : List OpenRule) (label whole_label : List ℕ) → length rules ≡ 0 → AreMarkedSoFar left rules label whole_label whole → AreMarkedRules whole whole_label left
left_done left [] whole label whole_label none before = so_far_done left [] whole label whole_label (λ f. refl) before
left_done left (r ∷ rules) whole label whole_label none before = absurd (omega (arith, none))

pub left_unmarked : (left rules whole : List OpenRule) (label whole_label : List ℕ) → length label ≡ 0 → AreMarkedSoFar left rules label whole_label whole → AreMarkedRules whole whole_label left
left_unmarked left [] whole [] whole_label none before = so_far_done left [] whole [] whole_label (λ f. refl) before
left_unmarked left (r ∷ rules) whole [] whole_label none before = so_far_done left (r ∷ rules) whole [] whole_label (λ f. refl) before
left_unmarked left rules whole (m ∷ label) whole_label none before = absurd (omega (arith, none))

-- before a rule was looked at
pub none_so_far : (rules : List OpenRule) (label : List ℕ) → AreMarkedSoFar [] rules label label rules
none_so_far rules label = record { olds = []; as_many = refl; below = λ f. refl; same = λ f. refl }
