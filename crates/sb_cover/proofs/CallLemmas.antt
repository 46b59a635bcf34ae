-- Calls stand for all calls.
use Rattle.std.specs.List.{Contains, list_all}
use Rattle.std.proofs.Common.{◌≡◌, ◌∙◌, ◌≤◌, ◌<◌, ◌+◌, ◌-◌, ℕ, zero, suc, Bool, true, false, cond, List, [], ◌∷◌, ◌++◌, ◌&&◌, eqb, leb, ltb, length, map, take, drop, get_or, refl, ap, sym, subst, arith}
use Rattle.std.proofs.lemmas.Bool.{and_parts, eqb-true, false≢true}
use Rattle.std.proofs.lemmas.Bool.Decides.{nat_tests}
use Rattle.std.proofs.lemmas.List.{get_or_append_left, get_or_default, get_or_push, take-map}
use Rattle.std.proofs.lemmas.List.Folds.{list_all-append}
use Rattle.std.proofs.lemmas.List.Elements.{Contains-append_left, Contains-push}
use Rattle.sb_call.specs.Arguments.{arg_at, fit, fits_kind}
use Rattle.sb_call.specs.declared.arguments.Arg.{Arg}
use Rattle.sb_call.specs.declared.arguments.Arg.TheVariants as arg
use Rattle.sb_call.specs.declared.tags.ParamKind.{ParamKind}
use Rattle.sb_explore.specs.Exploring.{list_at}
use Rattle.sb_cover.specs.AskedConds.{cond_at, is_met, met}
use Rattle.sb_cover.specs.Calls.{later_at, met_from, IsSplit, AreSplit, AllSplit, AnswerAlike, AnswerAlikeIn, AreLeft, IsNotLonger, HasCall, AreCalls, HasLater, AreLater, JoinTo}
use Rattle.sb_cover.specs.Choices.{is_passable, is_shown_arg, units_in, Decides, AreChoices}
use Rattle.sb_cover.specs.Lefts.{left_at, AreLefts}
use Rattle.sb_cover.specs.Pruning.{places, marks_by, marks_in, IsLabel}
use Rattle.sb_cover.specs.declared.asked_conds.AskedCond.{AskedCond}
use Rattle.sb_cover.specs.declared.open_rules.OpenRule.{OpenRule}
use Rattle.sb_cover.specs.declared.open_rules.OpenQuestion.{OpenQuestion}

-- conditions on the first parameter, and on those after it
here_place : (p param : ℕ) → leb p param ≡ true → p - param ≡ 0
here_place p param h = grind (arith, nat_tests)

later_place : (p param : ℕ) → ltb param p ≡ true → p - param ≡ suc (p - (param + 1))
later_place p param h = grind (arith, nat_tests)

met_here : (conds : List AskedCond) (param : ℕ) (v : Arg) (c : List Arg) (numbers : List ℕ) → list_all (λ n. leb (cond_at conds n).cond.param param) numbers ≡ true
    → list_all (met_from conds param (v ∷ c)) numbers ≡ list_all (met conds v) numbers
met_here conds param v c [] all = refl
met_here conds param v c (n ∷ numbers) all =
    let p = and_parts (leb (cond_at conds n).cond.param param) (list_all (λ n. leb (cond_at conds n).cond.param param) numbers) all in
    λ i. is_met (cond_at conds n) (arg_at (v ∷ c) (here_place (cond_at conds n).cond.param param p.0 i)) && met_here conds param v c numbers p.1 i

met_later : (conds : List AskedCond) (param : ℕ) (v : Arg) (c : List Arg) (numbers : List ℕ) → list_all (λ n. ltb param (cond_at conds n).cond.param) numbers ≡ true
    → list_all (met_from conds param (v ∷ c)) numbers ≡ list_all (met_from conds (param + 1) c) numbers
met_later conds param v c [] all = refl
met_later conds param v c (n ∷ numbers) all =
    let p = and_parts (ltb param (cond_at conds n).cond.param) (list_all (λ n. ltb param (cond_at conds n).cond.param) numbers) all in
    λ i. is_met (cond_at conds n) (arg_at (v ∷ c) (later_place (cond_at conds n).cond.param param p.0 i)) && met_later conds param v c numbers p.1 i

places_here : (conds : List AskedCond) (param : ℕ) (v : Arg) (c : List Arg) (rules : List OpenRule) → AreSplit conds param rules
    → places (marks_by (met_from conds param (v ∷ c)) rules) (met_from conds param (v ∷ c)) rules ≡ places (marks_by (met conds v) rules) (met_from conds (param + 1) c) rules
places_here conds param v c [] are = refl
places_here conds param v c (rule ∷ rules) are =
    λ i. cond (met_here conds param v c rule.here are.0.here i && met_later conds param v c rule.later are.0.later i)
    (rule.place ∷ places_here conds param v c rules are.1 i) (places_here conds param v c rules are.1 i)

-- values with one label, and later arguments that are answered alike
answer_by_label : (conds : List AskedCond) (param : ℕ) (v b : Arg) (c bs : List Arg) (questions : List OpenQuestion) (label : List ℕ) → AllSplit conds param questions
    → Decides conds questions v label → Decides conds questions b label → AnswerAlikeIn label (met_from conds (param + 1) c) (met_from conds (param + 1) bs) questions
    → AnswerAlike (met_from conds param (v ∷ c)) (met_from conds param (b ∷ bs)) questions
answer_by_label conds param v b c bs [] label are one two alike = tt
answer_by_label conds param v b c bs (q ∷ questions) label are one two alike = (
  ap (take q.depth) (places_here conds param v c q.rules are.0) ∙ one.0 (met_from conds (param + 1) c) ∙ alike.0 ∙ sym (two.0 (met_from conds (param + 1) bs))
      ∙ sym (ap (take q.depth) (places_here conds param b bs q.rules are.0)),
  answer_by_label conds param v b c bs questions (drop (length q.rules) label) are.1 one.1 two.1 alike.1,
)

pub answer_left : (f g : ℕ → Bool) (questions : List OpenQuestion) (label : List ℕ) (left : List OpenQuestion) → AreLeft questions label left → AnswerAlike f g left
    → AnswerAlikeIn label f g questions
answer_left f g [] label [] are alike = tt
answer_left f g [] label (r ∷ left) are alike = absurd are
answer_left f g (q ∷ questions) label [] are alike = absurd are
answer_left f g (q ∷ questions) label (r ∷ left) are alike = (
  one f ∙ ap (map are.1.0) alike.0 ∙ sym (one g),
  answer_left f g questions (drop (length q.rules) label) left are.2 alike.1,
)
  where
    one : (f : ℕ → Bool) → take q.depth (places (marks_in label) f q.rules) ≡ map are.1.0 (take r.depth (places (marks_by f r.rules) f r.rules))
    one f = (λ i. take (sym are.0 i) (sym (are.1.1 f) i)) ∙ take-map are.1.0 r.depth (places (marks_by f r.rules) f r.rules)

-- the call without arguments
pub no_args : (conds : List AskedCond) (param : ℕ) (questions : List OpenQuestion) (calls : List (List Arg)) → Contains calls [] → AreCalls conds param [] questions calls
no_args conds param questions calls is [] small fits = record { call = []; is = is; fits = refl; alike = alike_itself (met_from conds param []) questions; short = tt }
  where
    alike_itself : (f : ℕ → Bool) (questions : List OpenQuestion) → AnswerAlike f f questions
    alike_itself f [] = tt
    alike_itself f (q ∷ questions) = (refl, alike_itself f questions)
no_args conds param questions calls is (a ∷ more) small fits = absurd (false≢true fits)

-- the later arguments after one value
pub later_kept : (conds : List AskedCond) (param : ℕ) (kinds : List ParamKind) (questions : List OpenQuestion) (old new : List (List Arg)) (value : Arg) (label : List ℕ)
    → ((x : List Arg) → Contains old x → Contains new x) → AreLater conds param kinds questions old value label → AreLater conds param kinds questions new value label
later_kept conds param kinds questions old new value label kept are other small fits =
    let h = are other small fits in
    record { later = h.later; is = kept (value ∷ h.later) h.is; fits = h.fits; alike = h.alike; short = h.short }

pub later_put : (conds : List AskedCond) (param : ℕ) (kinds : List ParamKind) (questions left : List OpenQuestion) (calls later : List (List Arg)) (value : Arg) (label : List ℕ)
    → AreLeft questions label left → AreCalls conds param kinds left later → ((x : List Arg) → Contains later x → Contains calls (value ∷ x))
    → AreLater conds param kinds questions calls value label
later_put conds param kinds questions left calls later value label is_left are put other small fits =
    let h = are other small fits in
    record {
      later = h.call;
      is = put h.call h.is;
      fits = h.fits;
      alike = answer_left (met_from conds param h.call) (met_from conds param other) questions label left is_left h.alike;
      short = h.short;
    }

-- one value more
pub later_more : (P : Arg → List ℕ → Type 0) (Q : Arg → List ℕ → Type 0) (values : List Arg) (labels : List (List ℕ)) (place : ℕ)
    → ((v : Arg) (l : List ℕ) → P v l → Q v l) → ((k : ℕ) → k < place → P (arg_at values k) (list_at labels k)) → Q (arg_at values place) (list_at labels place)
    → (k : ℕ) → k < place + 1 → Q (arg_at values k) (list_at labels k)
later_more P Q values labels place keep before here k h = by (eqb k place) refl
  where
    by : (b : Bool) → eqb k place ≡ b → Q (arg_at values k) (list_at labels k)
    by true e = let same : place ≡ k = sym (eqb-true k place e) in subst (λ n. Q (arg_at values n) (list_at labels n)) same here
    by false e = let low : k < place = grind (arith, nat_tests) in keep (arg_at values k) (list_at labels k) (before k low)

-- the calls of all values
pub calls_are : (conds : List AskedCond) (param : ℕ) (kind : ParamKind) (rest : List ParamKind) (questions : List OpenQuestion) (values : List Arg) (labels : List (List ℕ)) (calls : List (List Arg)) (place : ℕ)
    → length labels ≤ place → AllSplit conds param questions → AreChoices conds kind questions values labels
    → ((k : ℕ) → k < place → AreLater conds (param + 1) rest questions calls (arg_at values k) (list_at labels k))
    → AreCalls conds param (kind ∷ rest) questions calls
calls_are conds param kind rest questions values labels calls place past split choices later [] small fits = absurd (false≢true fits)
calls_are conds param kind rest questions values labels calls place past split choices later (b ∷ bs) small fits =
    let s = and_parts (is_passable b) (list_all is_passable bs) small in
    let f = and_parts (fits_kind kind b) (fit rest bs) fits in
    let k = choices.all b s.0 f.0 in
    let inside : k.0 < place = omega (arith, past, k.1) in
    let h = later k.0 inside bs s.1 f.1 in
    record {
      call = arg_at values k.0 ∷ h.later;
      is = h.is;
      fits = λ i. choices.fit k.0 k.1 i && h.fits i;
      alike = answer_by_label conds param (arg_at values k.0) b h.later bs questions (list_at labels k.0) split (choices.each k.0 k.1) k.2 h.alike;
      short = (k.3, h.short);
    }

-- a list that has an element more
pub has_still : {X : Type 0} → (xs new : List X) (x y : X) → new ≡ xs ++ y ∷ [] → Contains xs x → Contains new x
has_still xs new x y e h = subst (λ l. Contains l x) (sym e) (Contains-append_left xs (y ∷ []) x h)

pub has_last : {X : Type 0} → (xs new : List X) (x y : X) → new ≡ xs ++ y ∷ [] → y ≡ x → Contains new x
has_last xs new x y e s = subst (λ l. Contains l x) (sym e) (subst (Contains (xs ++ y ∷ [])) s (Contains-push xs y))

-- each element is at a place
pub has_each : {X : Type 0} → (P : X → Type 0) (xs : List X) (d x : X) (i : ℕ) → length xs ≤ i → ((k : ℕ) → k < i → P (get_or xs k d)) → Contains xs x → P x
has_each P xs d x i past each h =
    let low : h.0 < i = let inside = h.1 in omega (arith, inside) in
    subst P (get_or_default xs h.0 d x h.1 ∙ h.2) (each h.0 low)

-- what holds of all holds of the one at a place
all_at : (test : List Arg → Bool) (lists : List (List Arg)) (i : ℕ) → i < length lists → list_all test lists ≡ true → test (get_or lists i []) ≡ true
all_at test [] i low all = absurd (omega (arith, low))
all_at test (l ∷ lists) zero low all = (and_parts (test l) (list_all test lists) all).0
all_at test (l ∷ lists) (suc i) low all = all_at test lists i (omega (arith, low)) (and_parts (test l) (list_all test lists) all).1

-- an argument before a list
pub all_put : (one : Arg → Bool) (more every : List Arg → Bool) (old new later : List (List Arg)) (value : Arg) (i : ℕ) (call : List Arg) → JoinTo one more every → i < length later
    → new ≡ old ++ call ∷ [] → call ≡ value ∷ get_or later i [] → one value ≡ true → list_all more later ≡ true → list_all every old ≡ true → list_all every new ≡ true
all_put one more every old new later value i call join low put is first all before =
    ap (list_all every) put ∙ list_all-append every old (call ∷ [])
    ∙ (λ j. before j && ((ap every is ∙ join value (get_or later i []) first (all_at more later i low all)) j && true))

pub arg_passes : (one : Arg → Bool) (values : List Arg) (i : ℕ) → i < length values → list_all one values ≡ true → one (get_or values i (arg.Num 0)) ≡ true
arg_passes one [] i low all = absurd (omega (arith, low))
arg_passes one (v ∷ values) zero low all = (and_parts (one v) (list_all one values) all).0
arg_passes one (v ∷ values) (suc i) low all = arg_passes one values i (omega (arith, low)) (and_parts (one v) (list_all one values) all).1

-- a test that each value passes, place by place
pub args_pass : (one : Arg → Bool) (values : List Arg) (n : ℕ) → length values ≡ n → ((k : ℕ) → k < n → one (arg_at values k) ≡ true) → list_all one values ≡ true
args_pass one [] n many each = refl
args_pass one (v ∷ values) n many each =
    λ i. each 0 (omega (arith, many)) i && args_pass one values (length values) refl (λ k h. each (suc k) (omega (arith, many, h))) i

pub fits_join : (kind : ParamKind) (kinds : List ParamKind) → JoinTo (fits_kind kind) (fit kinds) (fit (kind ∷ kinds))
fits_join kind kinds x xs one more = λ i. one i && more i

pub shown_join : JoinTo is_shown_arg (list_all is_shown_arg) (list_all is_shown_arg)
shown_join x xs one more = λ i. one i && more i

-- the lists of arguments after each of the values
pub laters_are : (conds : List AskedCond) (param : ℕ) (rest : List ParamKind) (questions : List OpenQuestion) (values : List Arg) (labels : List (List ℕ)) (lists : List (List OpenQuestion))
    (places : List ℕ) (laters : List (List (List Arg))) (calls : List (List Arg)) → length values ≡ length labels → AreLefts conds (param + 1) questions labels (length labels) lists places
    → ((j : ℕ) → j < length lists → AreCalls conds (param + 1) rest (left_at lists j) (later_at laters j))
    → ((k : ℕ) (x : List Arg) → k < length values → Contains (later_at laters (get_or places k 0)) x → Contains calls (arg_at values k ∷ x))
    → (k : ℕ) → k < length labels → AreLater conds (param + 1) rest questions calls (arg_at values k) (list_at labels k)
laters_are conds param rest questions values labels lists places laters calls many lefts all joined k low =
    let inside : k < length values = omega (arith, low, many) in
    let place = get_or places k 0 in
    later_put conds (param + 1) rest questions (left_at lists place) calls (later_at laters place) (arg_at values k) (list_at labels k) (lefts.left k low)
    (all place (lefts.within k low)) (λ x h. joined k x inside h)

-- one list of later arguments more
pub laters_one : (P : ℕ → List (List Arg) → Type 0) (laters new : List (List (List Arg))) (later : List (List Arg)) (i : ℕ) → length laters ≡ i → new ≡ laters ++ later ∷ []
    → ((j : ℕ) → j < i → P j (later_at laters j)) → P i later → (j : ℕ) → j < i + 1 → P j (later_at new j)
laters_one P laters new later i many put before here j h = subst (λ l. P j (later_at l j)) (sym put) (by (eqb j i) refl)
  where
    by : (b : Bool) → eqb j i ≡ b → P j (later_at (laters ++ later ∷ []) j)
    by true e =
        let same : i ≡ j = sym (eqb-true j i e) in
        subst (λ n. P n (later_at (laters ++ later ∷ []) n)) same (subst (P i) (sym (get_or_push laters later [] i many)) here)
    by false e =
        let low : j < i = grind (arith, nat_tests) in
        let inside : j < length laters = omega (arith, low, many) in
        subst (P j) (sym (get_or_append_left laters (later ∷ []) [] j inside)) (before j low)

-- the calls of one value more
pub joined_more : (laters : List (List (List Arg))) (places : List ℕ) (values : List Arg) (old new : List (List Arg)) (i : ℕ) (value : Arg) (later : List (List Arg))
    → ((x : List Arg) → Contains old x → Contains new x) → ((x : List Arg) → Contains later x → Contains new (value ∷ x)) → value ≡ arg_at values i → later ≡ later_at laters (get_or places i 0)
    → ((k : ℕ) (x : List Arg) → k < i → Contains (later_at laters (get_or places k 0)) x → Contains old (arg_at values k ∷ x))
    → (k : ℕ) (x : List Arg) → k < i + 1 → Contains (later_at laters (get_or places k 0)) x → Contains new (arg_at values k ∷ x)
joined_more laters places values old new i value later kept put is_value is_later before k x h inside = by (eqb k i) refl
  where
    by : (b : Bool) → eqb k i ≡ b → Contains new (arg_at values k ∷ x)
    by true e =
        let same : k ≡ i = eqb-true k i e in
        let here : Contains later x = subst (λ l. Contains l x) (sym is_later) (subst (λ n. Contains (later_at laters (get_or places n 0)) x) same inside) in
        subst (λ n. Contains new (arg_at values n ∷ x)) (sym same) (subst (λ v. Contains new (v ∷ x)) is_value (put x here))
    by false e = let low : k < i = grind (arith, nat_tests) in kept (arg_at values k ∷ x) (before k x low inside)

-- the calls without arguments
pub no_kinds : (conds : List AskedCond) (param : ℕ) (kinds : List ParamKind) (questions : List OpenQuestion) (old calls : List (List Arg)) (call : List Arg) → length kinds ≡ 0
    → calls ≡ old ++ call ∷ [] → call ≡ [] → AreCalls conds param kinds questions calls
no_kinds conds param [] questions old calls call none put empty = no_args conds param questions calls (has_last old calls [] call put empty)
no_kinds conds param (k ∷ kinds) questions old calls call none put empty = absurd (omega (arith, none))

-- the calls of all values, as the code has them
pub all_calls : (conds : List AskedCond) (param : ℕ) (kind : ParamKind) (rest kinds : List ParamKind) (questions : List OpenQuestion) (read_values values : List Arg) (labels : List (List ℕ))
    (items lists : List (List OpenQuestion)) (read_places places : List ℕ) (read_laters laters : List (List (List Arg))) (n : ℕ) (calls : List (List Arg)) → kinds ≡ kind ∷ rest
    → AllSplit conds param questions → AreChoices conds kind questions values labels → AreLefts conds (param + 1) questions labels (length labels) lists places
    → read_values ≡ values → read_places ≡ places → read_laters ≡ laters → items ≡ lists → length items ≤ n
    → ((j : ℕ) → j < n → AreCalls conds (param + 1) rest (left_at items j) (later_at laters j))
    → ((k : ℕ) (x : List Arg) → k < length read_values → Contains (later_at read_laters (get_or read_places k 0)) x → Contains calls (arg_at read_values k ∷ x))
    → AreCalls conds param kinds questions calls
all_calls conds param kind rest kinds questions read_values values labels items lists read_places places read_laters laters n calls whole split choices lefts same_values same_places same_laters
    same_items past all joined =
    subst (λ ks. AreCalls conds param ks questions calls) (sym whole)
    (calls_are conds param kind rest questions values labels calls (length labels) (omega arith) split choices
    (laters_are conds param rest questions values labels lists places laters calls choices.as_many lefts each joins))
  where
    each : (j : ℕ) → j < length lists → AreCalls conds (param + 1) rest (left_at lists j) (later_at laters j)
    each j h = subst (λ l. AreCalls conds (param + 1) rest (left_at l j) (later_at laters j)) same_items (all j (omega (arith, ap length same_items, past, h)))

    joins : (k : ℕ) (x : List Arg) → k < length values → Contains (later_at laters (get_or places k 0)) x → Contains calls (arg_at values k ∷ x)
    joins =
        subst (λ v. (k : ℕ) (x : List Arg) → k < length v → Contains (later_at laters (get_or places k 0)) x → Contains calls (arg_at v k ∷ x)) same_values
        (subst (λ p. (k : ℕ) (x : List Arg) → k < length read_values → Contains (later_at laters (get_or p k 0)) x → Contains calls (arg_at read_values k ∷ x)) same_places
        (subst (λ l. (k : ℕ) (x : List Arg) → k < length read_values → Contains (later_at l (get_or read_places k 0)) x → Contains calls (arg_at read_values k ∷ x)) same_laters joined))

-- all calls fit
pub all_fit : (kind : ParamKind) (rest kinds : List ParamKind) (read_values values : List Arg) (read_laters laters : List (List (List Arg))) (m n : ℕ) (calls : List (List Arg)) → kinds ≡ kind ∷ rest
    → read_values ≡ values → read_laters ≡ laters → length values ≡ m → length laters ≡ n → ((k : ℕ) → k < m → fits_kind kind (arg_at values k) ≡ true)
    → ((j : ℕ) → j < n → list_all (fit rest) (later_at laters j) ≡ true)
    → ((one : Arg → Bool) (more every : List Arg → Bool) → JoinTo one more every → list_all one read_values ≡ true
    → ((j : ℕ) → j < length read_laters → list_all more (later_at read_laters j) ≡ true) → list_all every calls ≡ true)
    → list_all (fit kinds) calls ≡ true
all_fit kind rest kinds read_values values read_laters laters m n calls whole same_values same_laters many_values many_laters values_fit laters_fit joined =
    ap (λ ks. list_all (fit ks) calls) whole
    ∙ joined (fits_kind kind) (fit rest) (fit (kind ∷ rest)) (fits_join kind rest) (ap (list_all (fits_kind kind)) same_values ∙ args_pass (fits_kind kind) values m many_values values_fit)
    (λ j h. ap (λ l. list_all (fit rest) (later_at l j)) same_laters ∙ laters_fit j (omega (arith, h, ap length same_laters, many_laters)))

-- a script can have all calls
pub all_shown : (read_values values : List Arg) (read_laters laters : List (List (List Arg))) (n : ℕ) (calls : List (List Arg)) → read_values ≡ values → read_laters ≡ laters → length laters ≡ n
    → list_all is_shown_arg values ≡ true → ((j : ℕ) → j < n → list_all (list_all is_shown_arg) (later_at laters j) ≡ true)
    → ((one : Arg → Bool) (more every : List Arg → Bool) → JoinTo one more every → list_all one read_values ≡ true
    → ((j : ℕ) → j < length read_laters → list_all more (later_at read_laters j) ≡ true) → list_all every calls ≡ true)
    → list_all (list_all is_shown_arg) calls ≡ true
all_shown read_values values read_laters laters n calls same_values same_laters many_laters values_shown laters_shown joined =
    joined is_shown_arg (list_all is_shown_arg) (list_all is_shown_arg) shown_join (ap (list_all is_shown_arg) same_values ∙ values_shown)
    (λ j h. ap (λ l. list_all (list_all is_shown_arg) (later_at l j)) same_laters ∙ laters_shown j (omega (arith, h, ap length same_laters, many_laters)))
