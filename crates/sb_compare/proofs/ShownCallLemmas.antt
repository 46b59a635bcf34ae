-- The shortest call of each class.
use Rattle.std.specs.List.{flat_map, list_all, list_any, position}
use Rattle.std.specs.Cmp.Lexicographic.{pointwise, bytes_decides}
use Rattle.std.specs.Option.{is_some}
use Rattle.std.specs.Prelude.{IfSome, IfNone}
use Rattle.std.proofs.Common.{◌≡◌, inl, inr, ◌∙◌, ◌<◌, ◌≤◌, ◌+◌, ℕ, zero, suc, Bool, true, false, cond, Option, None, Some, List, [], ◌∷◌, ◌++◌, ◌&&◌, ◌||◌, eqb, ltb, length, get_or, set, nat_eq, refl, ap, sym, subst, arith, length-append}
use Rattle.std.proofs.lemmas.Bool.{and_parts, eqb-true, false≢true}
use Rattle.std.proofs.lemmas.Bool.Decides.{nat_tests}
use Rattle.std.proofs.lemmas.List.Quantifiers.{position-Some}
use Rattle.std.proofs.lemmas.List.{get_or_append_left, get_or_default, get_or_push, get_or_read, get_or-set_same, get_or-set_other, length-set}
use Rattle.sb_call.specs.Arguments.{fits}
use Rattle.sb_call.specs.declared.arguments.Arg.{Arg}
use Rattle.sb_call.specs.declared.tags.CallTag.{CallTag}
use Rattle.sb_cover.specs.Lengths.{is_shorter, units_of, words_of}
use Rattle.sb_cover.specs.CallAccesses.{writes}
use Rattle.sb_cover.specs.PolicyCovers.{is_call, verdicts_of, IsCoverUnder}
use Rattle.sb_explore.specs.Exploring.{list_at}
use Rattle.sb_rule.specs.Verdicts.{verdict_of}
use Rattle.sb_rule.specs.declared.policies.Policy.{Policy}
use Rattle.sb_rule.specs.declared.verdicts.Verdict.{Verdict}
use Rattle.sb_compare.specs.Classes.{bit_of, class_of, verdict_numbers}
use Rattle.sb_compare.specs.ShownCalls.{call_at, AreShortest, AreShortestSoFar, IsCallNoted, IsFoundIn}

-- a call is not shorter than itself
shorter_itself : (a : List Arg) → is_shorter a a ≡ false
shorter_itself a = by (words_of a) (units_of a)
  where
    by : (m x : ℕ) → (ltb m m || (eqb m m && ltb x x)) ≡ false
    by m x = grind (arith, nat_tests)

-- what is not shorter than a call is not shorter than one that is shorter still
pub not_shorter : (a b c : List Arg) → is_shorter a b ≡ false → is_shorter c b ≡ true → is_shorter a c ≡ false
not_shorter a b c h k = by (words_of a) (words_of b) (words_of c) (units_of a) (units_of b) (units_of c) h k
  where
    by : (l m n x y z : ℕ) → (ltb l m || (eqb l m && ltb x y)) ≡ false → (ltb n m || (eqb n m && ltb z y)) ≡ true → (ltb l n || (eqb l n && ltb x z)) ≡ false
    by l m n x y z h k = grind (arith, nat_tests)

-- if no call is shorter than another and that is not shorter than a third, it is not
pub not_shorter_either : (a b c : List Arg) → is_shorter a b ≡ false → is_shorter b c ≡ false → is_shorter a c ≡ false
not_shorter_either a b c h k = by (words_of a) (words_of b) (words_of c) (units_of a) (units_of b) (units_of c) h k
  where
    by : (l m n x y z : ℕ) → (ltb l m || (eqb l m && ltb x y)) ≡ false → (ltb m n || (eqb m n && ltb y z)) ≡ false → (ltb l n || (eqb l n && ltb x z)) ≡ false
    by l m n x y z h k = grind (arith, nat_tests)

-- a list is itself, number by number
same_numbers : (ns : List ℕ) → pointwise nat_eq ns ns ≡ true
same_numbers [] = refl
same_numbers (n ∷ ns) = (λ i. same n i && same_numbers ns i)
  where
    same : (n : ℕ) → eqb n n ≡ true
    same n = grind (arith, nat_tests)

-- a class that is at a place is among them
pub is_there : (class : List ℕ) (classes : List (List ℕ)) (k : ℕ) → k < length classes → list_at classes k ≡ class → list_any (pointwise nat_eq class) classes ≡ true
is_there class [] k low e = absurd (omega (arith, low))
is_there class (c ∷ classes) k low e = by (is_there class classes) k low e
  where
    or_true : (b : Bool) → (b || true) ≡ true
    or_true true = refl
    or_true false = refl

    by : ((k : ℕ) → k < length classes → list_at classes k ≡ class → list_any (pointwise nat_eq class) classes ≡ true)
        → (k : ℕ) → k < length (c ∷ classes) → list_at (c ∷ classes) k ≡ class → list_any (pointwise nat_eq class) (c ∷ classes) ≡ true
    by later zero low e = ap (λ x. pointwise nat_eq class x || list_any (pointwise nat_eq class) classes) e ∙ ap (λ b. b || list_any (pointwise nat_eq class) classes) (same_numbers class)
    by later (suc k) low e = ap (λ b. pointwise nat_eq class c || b) (later k (omega (arith, low)) e) ∙ or_true (pointwise nat_eq class c)

pub none_yet : (f : List Arg → List ℕ) (seen : List (List Arg)) (classes : List (List ℕ)) (calls : List (List Arg)) → classes ≡ [] → calls ≡ [] → AreShortestSoFar f seen 0 classes calls
none_yet f seen classes calls e k = subst (λ c. AreShortestSoFar f seen 0 c calls) (sym e) (subst (AreShortestSoFar f seen 0 []) (sym k) (record {
  as_many = refl;
  once = λ i j h. absurd (omega (arith, h));
  among = λ k h. absurd (omega (arith, h));
  each = λ k h. absurd (omega (arith, h));
  shortest = λ k j h. absurd (omega (arith, h));
  all = λ j h. absurd (omega (arith, h));
}))

-- a fact of each number below a limit that is one more
one_more : (P : ℕ → Type 0) (i : ℕ) → ((j : ℕ) → j < i → P j) → P i → (j : ℕ) → j < i + 1 → P j
one_more P i old last j h = by (eqb j i) refl
  where
    by : (b : Bool) → eqb j i ≡ b → P j
    by true e = subst P (sym (eqb-true j i e)) last
    by false e = let low : j < i = grind (arith, nat_tests) in old j low

-- a fact of each class with its call, and of one more
two_more : (P : List ℕ → List Arg → Type 0) (classes : List (List ℕ)) (calls : List (List Arg)) (class : List ℕ) (call : List Arg) → length calls ≡ length classes
    → ((k : ℕ) → k < length classes → P (list_at classes k) (call_at calls k)) → P class call
    → (k : ℕ) → k < length classes + 1 → P (list_at (classes ++ class ∷ []) k) (call_at (calls ++ call ∷ []) k)
two_more P classes calls class call many old last = one_more (λ k. P (list_at (classes ++ class ∷ []) k) (call_at (calls ++ call ∷ []) k)) (length classes) before here
  where
    before : (k : ℕ) → k < length classes → P (list_at (classes ++ class ∷ []) k) (call_at (calls ++ call ∷ []) k)
    before k low =
        let inside : k < length calls = omega (arith, many, low) in
        subst (λ x. P x (call_at (calls ++ call ∷ []) k)) (sym (get_or_append_left classes (class ∷ []) [] k low))
        (subst (P (list_at classes k)) (sym (get_or_append_left calls (call ∷ []) [] k inside)) (old k low))

    here : P (list_at (classes ++ class ∷ []) (length classes)) (call_at (calls ++ call ∷ []) (length classes))
    here =
        subst (λ x. P x (call_at (calls ++ call ∷ []) (length classes))) (sym (get_or_push classes class [] (length classes) refl))
        (subst (P class) (sym (get_or_push calls call [] (length classes) many)) last)

-- a call of a class that was not there
new_noted : (f : List Arg → List ℕ) (seen : List (List Arg)) (i : ℕ) (classes : List (List ℕ)) (calls : List (List Arg)) → i < length seen
    → list_any (pointwise nat_eq (f (call_at seen i))) classes ≡ false → AreShortestSoFar f seen i classes calls
    → AreShortestSoFar f seen (i + 1) (classes ++ f (call_at seen i) ∷ []) (calls ++ call_at seen i ∷ [])
new_noted f seen i classes calls low none so = record {
  as_many = length-append calls (call_at seen i ∷ []) ∙ ap (λ n. n + 1) so.as_many ∙ sym (length-append classes (f (call_at seen i) ∷ []));
  once = λ j k hj hk e. once j k (shorten j hj) (shorten k hk) e;
  among = λ k h. two_more (λ class call. (j : ℕ) × (j < length seen) × (call ≡ call_at seen j)) classes calls (f c) c so.as_many so.among (i, low, refl) k (shorten k h);
  each = λ k h. two_more (λ class call. f call ≡ class) classes calls (f c) c so.as_many so.each refl k (shorten k h);
  shortest = λ k j h below.
      two_more (λ class call. (j : ℕ) → j < i + 1 → f (call_at seen j) ≡ class → is_shorter (call_at seen j) call ≡ false) classes calls (f c) c so.as_many old_shortest new_shortest k (shorten k h) j below;
  all = one_more (λ j. (k : ℕ) × (k < length (classes ++ f c ∷ [])) × (f (call_at seen j) ≡ list_at (classes ++ f c ∷ []) k)) i old_all
      (length classes, omega (arith, longer), sym (get_or_push classes (f c) [] (length classes) refl));
}
  where
    c : List Arg
    c = call_at seen i

    longer : length (classes ++ f (call_at seen i) ∷ []) ≡ length classes + 1
    longer = length-append classes (f (call_at seen i) ∷ [])

    shorten : (k : ℕ) → k < length (classes ++ f (call_at seen i) ∷ []) → k < length classes + 1
    shorten k h = omega (arith, h, longer)

    absent : (k : ℕ) → k < length classes → list_at classes k ≡ f (call_at seen i) → ⊥
    absent k h e = false≢true (sym none ∙ is_there (f (call_at seen i)) classes k h e)

    old_at : (k : ℕ) → k < length classes → list_at (classes ++ f (call_at seen i) ∷ []) k ≡ list_at classes k
    old_at k h = get_or_append_left classes (f (call_at seen i) ∷ []) [] k h

    last_at : list_at (classes ++ f (call_at seen i) ∷ []) (length classes) ≡ f (call_at seen i)
    last_at = get_or_push classes (f (call_at seen i)) [] (length classes) refl

    old_shortest : (k : ℕ) → k < length classes → (j : ℕ) → j < i + 1 → f (call_at seen j) ≡ list_at classes k → is_shorter (call_at seen j) (call_at calls k) ≡ false
    old_shortest k h = one_more (λ j. f (call_at seen j) ≡ list_at classes k → is_shorter (call_at seen j) (call_at calls k) ≡ false) i (λ j b. so.shortest k j h b) (λ e. absurd (absent k h (sym e)))

    new_shortest : (j : ℕ) → j < i + 1 → f (call_at seen j) ≡ f (call_at seen i) → is_shorter (call_at seen j) (call_at seen i) ≡ false
    new_shortest = one_more (λ j. f (call_at seen j) ≡ f (call_at seen i) → is_shorter (call_at seen j) (call_at seen i) ≡ false) i
        (λ j b e. let k = so.all j b in absurd (absent k.0 k.1 (sym k.2 ∙ e))) (λ e. shorter_itself (call_at seen i))

    old_all : (j : ℕ) → j < i → (k : ℕ) × (k < length (classes ++ f (call_at seen i) ∷ [])) × (f (call_at seen j) ≡ list_at (classes ++ f (call_at seen i) ∷ []) k)
    old_all j b =
        let k = so.all j b in
        let inside : k.0 < length (classes ++ f (call_at seen i) ∷ []) = let h = k.1 in omega (arith, h, longer) in
        (k.0, inside, k.2 ∙ sym (old_at k.0 k.1))

    once : (j k : ℕ) → j < length classes + 1 → k < length classes + 1 → list_at (classes ++ f (call_at seen i) ∷ []) j ≡ list_at (classes ++ f (call_at seen i) ∷ []) k → j ≡ k
    once j k hj hk =
        one_more (λ j. list_at (classes ++ f (call_at seen i) ∷ []) j ≡ list_at (classes ++ f (call_at seen i) ∷ []) k → j ≡ k) (length classes)
        (λ j bj. one_more (λ k. list_at (classes ++ f (call_at seen i) ∷ []) j ≡ list_at (classes ++ f (call_at seen i) ∷ []) k → j ≡ k) (length classes)
        (λ k bk e. so.once j k bj bk (sym (old_at j bj) ∙ e ∙ old_at k bk))
        (λ e. absurd (absent j bj (sym (old_at j bj) ∙ e ∙ last_at))) k hk)
        (one_more (λ k. list_at (classes ++ f (call_at seen i) ∷ []) (length classes) ≡ list_at (classes ++ f (call_at seen i) ∷ []) k → length classes ≡ k) (length classes)
        (λ k bk e. absurd (absent k bk (sym (old_at k bk) ∙ sym e ∙ last_at)))
        (λ e. refl) k hk) j hj

-- the call at one place is replaced
replaced : (P : ℕ → List Arg → Type 0) (n : ℕ) (calls : List (List Arg)) (p : ℕ) (call : List Arg) → p < length calls
    → ((k : ℕ) → k < n → (k ≡ p → ⊥) → P k (call_at calls k)) → P p call → (k : ℕ) → k < n → P k (call_at (set calls p call) k)
replaced P n calls p call inside old here k h = by (eqb k p) refl
  where
    by : (b : Bool) → eqb k p ≡ b → P k (call_at (set calls p call) k)
    by true e =
        let same : p ≡ k = sym (eqb-true k p e) in
        subst (λ n. P n (call_at (set calls p call) n)) same (subst (P p) (sym (get_or-set_same calls p call [] inside)) here)
    by false e =
        let other : k ≡ p → ⊥ = λ s. differs k p e s in
        subst (P k) (sym (get_or-set_other calls p k call [] other)) (old k h other)
      where
        differs : (k p : ℕ) → eqb k p ≡ false → k ≡ p → ⊥
        differs k p e s = grind (arith, nat_tests)

-- a call of a class that was there, and which is shorter than the one that was kept
shorter_noted : (f : List Arg → List ℕ) (seen : List (List Arg)) (i : ℕ) (classes : List (List ℕ)) (calls : List (List Arg)) (p : ℕ) → i < length seen
    → p < length classes → list_at classes p ≡ f (call_at seen i) → is_shorter (call_at seen i) (call_at calls p) ≡ true → AreShortestSoFar f seen i classes calls
    → AreShortestSoFar f seen (i + 1) classes (set calls p (call_at seen i))
shorter_noted f seen i classes calls p low within there shorter so = record {
  as_many = length-set calls p (call_at seen i) ∙ so.as_many;
  once = so.once;
  among = replaced (λ k call. (j : ℕ) × (j < length seen) × (call ≡ call_at seen j)) (length classes) calls p (call_at seen i) inside (λ k h other. so.among k h) (i, low, refl);
  each = replaced (λ k call. f call ≡ list_at classes k) (length classes) calls p (call_at seen i) inside (λ k h other. so.each k h) (sym there);
  shortest = λ k j h b. replaced (λ k call. (j : ℕ) → j < i + 1 → f (call_at seen j) ≡ list_at classes k → is_shorter (call_at seen j) call ≡ false) (length classes) calls p (call_at seen i)
      inside others here k h j b;
  all = one_more (λ j. (k : ℕ) × (k < length classes) × (f (call_at seen j) ≡ list_at classes k)) i so.all (p, within, sym there);
}
  where
    inside : p < length calls
    inside = omega (arith, within, so.as_many)

    others : (k : ℕ) → k < length classes → (k ≡ p → ⊥) → (j : ℕ) → j < i + 1 → f (call_at seen j) ≡ list_at classes k → is_shorter (call_at seen j) (call_at calls k) ≡ false
    others k h other = one_more (λ j. f (call_at seen j) ≡ list_at classes k → is_shorter (call_at seen j) (call_at calls k) ≡ false) i (λ j b. so.shortest k j h b)
        (λ e. absurd (other (so.once k p h within (sym e ∙ sym there))))

    here : (j : ℕ) → j < i + 1 → f (call_at seen j) ≡ list_at classes p → is_shorter (call_at seen j) (call_at seen i) ≡ false
    here = one_more (λ j. f (call_at seen j) ≡ list_at classes p → is_shorter (call_at seen j) (call_at seen i) ≡ false) i
        (λ j b e. not_shorter (call_at seen j) (call_at calls p) (call_at seen i) (so.shortest p j within b e) shorter) (λ e. shorter_itself (call_at seen i))

-- a call of a class that was there, and which is not shorter
longer_noted : (f : List Arg → List ℕ) (seen : List (List Arg)) (i : ℕ) (classes : List (List ℕ)) (calls : List (List Arg)) (p : ℕ)
    → p < length classes → list_at classes p ≡ f (call_at seen i) → is_shorter (call_at seen i) (call_at calls p) ≡ false → AreShortestSoFar f seen i classes calls
    → AreShortestSoFar f seen (i + 1) classes calls
longer_noted f seen i classes calls p within there longer so = record {
  as_many = so.as_many;
  once = so.once;
  among = so.among;
  each = so.each;
  shortest = λ k j h b. one_more (λ j. f (call_at seen j) ≡ list_at classes k → is_shorter (call_at seen j) (call_at calls k) ≡ false) i (λ j b. so.shortest k j h b)
      (λ e. subst (λ n. is_shorter (call_at seen i) (call_at calls n) ≡ false) (so.once p k within h (there ∙ e)) longer) j b;
  all = one_more (λ j. (k : ℕ) × (k < length classes) × (f (call_at seen j) ≡ list_at classes k)) i so.all (p, within, sym there);
}

-- one call more
pub shortest_more : (f : List Arg → List ℕ) (seen : List (List Arg)) (i : ℕ) (class : List ℕ) (call : List Arg) (classes : List (List ℕ)) (calls : List (List Arg)) (new_classes : List (List ℕ)) (new_calls : List (List Arg))
    → i < length seen → call ≡ call_at seen i → class ≡ f call → IsCallNoted class call classes calls new_classes new_calls → AreShortestSoFar f seen i classes calls
    → AreShortestSoFar f seen (i + 1) new_classes new_calls
shortest_more f seen i class call classes calls new_classes new_calls low is_call is_class noted so =
    by (subst (λ x. IsCallNoted (f x) x classes calls new_classes new_calls) is_call (subst (λ x. IsCallNoted x call classes calls new_classes new_calls) is_class noted))
  where
    by : IsCallNoted (f (call_at seen i)) (call_at seen i) classes calls new_classes new_calls → AreShortestSoFar f seen (i + 1) new_classes new_calls
    by (inl h) =
        subst (λ c. AreShortestSoFar f seen (i + 1) c new_calls) (sym h.1) (subst (AreShortestSoFar f seen (i + 1) (classes ++ f (call_at seen i) ∷ [])) (sym h.2)
        (new_noted f seen i classes calls low h.0 so))
    by (inr h) =
        subst (λ c. AreShortestSoFar f seen (i + 1) c new_calls) (sym h.0) (subst (AreShortestSoFar f seen (i + 1) classes) (sym h.4)
        (which (is_shorter (call_at seen i) (call_at calls h.1)) refl))
      where
        which : (b : Bool) → is_shorter (call_at seen i) (call_at calls h.1) ≡ b → AreShortestSoFar f seen (i + 1) classes (cond b (set calls h.1 (call_at seen i)) calls)
        which true e = shorter_noted f seen i classes calls h.1 low h.2 h.3 e so
        which false e = longer_noted f seen i classes calls h.1 h.2 h.3 e so

-- the calls of a cover have the shortest ones of all calls
class_same : (tag : CallTag) (policies : List Policy) (a b : List Arg) → verdicts_of tag policies a ≡ verdicts_of tag policies b → writes tag a ≡ writes tag b → class_of tag policies a ≡ class_of tag policies b
class_same tag policies a b verdicts access = λ i. bit_of (access i) ∷ all policies verdicts i
  where
    numbers : List Verdict → List ℕ
    numbers vs = flat_map verdict_numbers vs

    is_numbers : (policies : List Policy) (args : List Arg) → flat_map (λ policy. verdict_numbers (verdict_of policy tag args)) policies ≡ numbers (verdicts_of tag policies args)
    is_numbers [] args = refl
    is_numbers (policy ∷ policies) args = ap (λ rest. verdict_numbers (verdict_of policy tag args) ++ rest) (is_numbers policies args)

    all : (policies : List Policy) → verdicts_of tag policies a ≡ verdicts_of tag policies b
        → flat_map (λ policy. verdict_numbers (verdict_of policy tag a)) policies ≡ flat_map (λ policy. verdict_numbers (verdict_of policy tag b)) policies
    all policies e = is_numbers policies a ∙ ap numbers e ∙ sym (is_numbers policies b)

-- what all calls pass, the one at each place passes
pub test_at : (test : List Arg → Bool) (seen : List (List Arg)) (j : ℕ) → j < length seen → list_all test seen ≡ true → test (call_at seen j) ≡ true
test_at test [] j low all = absurd (omega (arith, low))
test_at test (c ∷ seen) zero low all = (and_parts (test c) (list_all test seen) all).0
test_at test (c ∷ seen) (suc j) low all = test_at test seen j (omega (arith, low)) (and_parts (test c) (list_all test seen) all).1

pub shortest_all : (tag : CallTag) (policies : List Policy) (seen : List (List Arg)) (count : ℕ) (classes : List (List ℕ)) (calls : List (List Arg)) → length seen ≤ count
    → list_all (fits tag) seen ≡ true → IsCoverUnder tag policies seen → AreShortestSoFar (class_of tag policies) seen count classes calls → AreShortest tag policies classes calls
shortest_all tag policies seen count classes calls past fit cover so = record {
  as_many = so.as_many;
  fit = λ k h. let j = so.among k h in ap (fits tag) j.2 ∙ test_at (fits tag) seen j.0 j.1 fit;
  each = so.each;
  shortest = λ k h other is e.
      let twin = cover other is in
      let j = twin.is in
      let there : call_at seen j.0 ≡ twin.call = get_or_default seen j.0 [] twin.call j.1 ∙ j.2 in
      let low : j.0 < count = let inside = j.1 in omega (arith, inside, past) in
      let class : class_of tag policies (call_at seen j.0) ≡ list_at classes k =
      ap (class_of tag policies) there ∙ class_same tag policies twin.call other twin.verdicts twin.access ∙ e in
      not_shorter_either other twin.call (call_at calls k) twin.short (ap (λ c. is_shorter c (call_at calls k)) (sym there) ∙ so.shortest k j.0 h low class);
  all = λ other is.
      let twin = cover other is in
      let j = twin.is in
      let there : call_at seen j.0 ≡ twin.call = get_or_default seen j.0 [] twin.call j.1 ∙ j.2 in
      let low : j.0 < count = let inside = j.1 in omega (arith, inside, past) in
      let k = so.all j.0 low in
      (k.0, k.1, sym (ap (class_of tag policies) there ∙ class_same tag policies twin.call other twin.verdicts twin.access) ∙ k.2);
}

-- the place of a class
pub place_found : (class : List ℕ) (classes : List (List ℕ)) (o : Option ℕ) → o ≡ position (pointwise nat_eq class) classes
    → IfSome o (λ k. (k < length classes) × (list_at classes k ≡ class))
place_found class classes None e = tt
place_found class classes (Some k) e =
    let p = position-Some (pointwise nat_eq class) classes k [] (sym e) in
    (p.0, sym ((bytes_decides class (list_at classes k)).0 p.1))

pub place_missing : (class : List ℕ) (classes : List (List ℕ)) (o : Option ℕ) → is_some o ≡ list_any (pointwise nat_eq class) classes
    → IfNone o ((k : ℕ) → k < length classes → list_at classes k ≡ class → ⊥)
place_missing class classes (Some k) e = tt
place_missing class classes None e = λ k low s. false≢true (e ∙ is_there class classes k low s)

-- the call at it
pub call_found : (classes : List (List ℕ)) (calls : List (List Arg)) (class : List ℕ) (k : ℕ) (call : List Arg) → k < length classes → list_at classes k ≡ class → length calls ≡ length classes
    → call ≡ get_or calls k call → IsFoundIn classes calls class (Some call)
call_found classes calls class k call low there many is =
    let inside : k < length calls = omega (arith, many, low) in
    (k, low, there, get_or_read calls k call inside is [])

-- what all calls of the first list pass, those that were kept pass
pub kept_pass : (test : List Arg → Bool) (f : List Arg → List ℕ) (seen : List (List Arg)) (count : ℕ) (classes : List (List ℕ)) (calls : List (List Arg)) → AreShortestSoFar f seen count classes calls
    → list_all test seen ≡ true → list_all test calls ≡ true
kept_pass test f seen count classes calls so all = each calls (length calls) refl (λ k h. passes k (so.among k (omega (arith, h, so.as_many))))
  where
    passes : (k : ℕ) → (j : ℕ) × (j < length seen) × (call_at calls k ≡ call_at seen j) → test (call_at calls k) ≡ true
    passes k j = ap test j.2 ∙ test_at test seen j.0 j.1 all

    each : (calls : List (List Arg)) (n : ℕ) → length calls ≡ n → ((k : ℕ) → k < n → test (call_at calls k) ≡ true) → list_all test calls ≡ true
    each [] n many h = refl
    each (c ∷ calls) n many h = λ i. h 0 (omega (arith, many)) i && each calls (length calls) refl (λ k low. h (suc k) (omega (arith, many, low))) i
