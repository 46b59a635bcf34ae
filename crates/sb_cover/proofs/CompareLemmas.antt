-- What comparisons tell of the conditions from which they were collected.
use Rattle.std.specs.Prelude.{bit_and}
use Rattle.std.specs.List.{list_any}
use Rattle.std.proofs.Common.{◌≡◌, ◌∙◌, ◌≤◌, ◌<◌, ◌+◌, ◌/◌, ◌%◌, ◌^◌, ℕ, Bool, true, false, cond, not, List, [], ◌∷◌, ◌++◌, ◌&&◌, ◌||◌, eqb, ltb, leb, length, take, get_or, map, refl, ap, sym, subst, arith, append_assoc, append-nil}
use Rattle.std.proofs.Math.Nat.{mod-eq_of_lt}
use Rattle.std.proofs.lemmas.Bool.{eqb-true}
use Rattle.std.proofs.lemmas.Bool.Decides.{nat_tests}
use Rattle.std.proofs.lemmas.List.{get_or_past, get_or_read}
use Rattle.std.proofs.lemmas.List.Folds.{list_any_more}
use Rattle.std.proofs.lemmas.Nat.{and_assoc, and_mask}
use Rattle.sb_call.specs.declared.arguments.Arg.TheVariants as arg
use Rattle.sb_rule.specs.Verdicts.{test_holds}
use Rattle.sb_rule.specs.declared.conditions.Test.{Test}
use Rattle.sb_cover.specs.AskedConds.{by_negation, cond_at, is_met, met, no_cond, seen_number}
use Rattle.sb_cover.specs.Bits.{bound_code, code_of, codes_of, CompareAlike}
use Rattle.sb_cover.specs.Comparing.{HasMore}
use Rattle.sb_cover.specs.Pruning.{is_needed, AgreeWhereNeeded}
use Rattle.sb_cover.specs.declared.asked_conds.AskedCond.{AskedCond}
use Rattle.sb_cover.specs.declared.bits.Comparison.{Comparison}

abbrev against : ℕ → ℕ → Comparison
against mask bound = record { mask = mask; bound = bound }

pub no_more : (list : List Comparison) → HasMore list list
no_more list = ([], sym (append-nil list))

pub one_more : (list new : List Comparison) (c : Comparison) → new ≡ list ++ c ∷ [] → HasMore list new
one_more list new c e = (c ∷ [], e)

pub more_more : (a b c : List Comparison) → HasMore a b → HasMore b c → HasMore a c
more_more a b c h k = (h.0 ++ k.0, k.1 ∙ ap (λ l. l ++ k.0) h.1 ∙ append_assoc a h.0 k.0)

pub two_more : (list one two : List Comparison) (x y : Comparison) → one ≡ list ++ x ∷ [] → two ≡ one ++ y ∷ [] → HasMore list two
two_more list one two x y e f = more_more list one two (one_more list one x e) (one_more one two y f)

first_same : (x y : ℕ) (xs ys : List ℕ) → x ∷ xs ≡ y ∷ ys → x ≡ y
first_same x y xs ys e = cc

rest_same : (x y : ℕ) (xs ys : List ℕ) → x ∷ xs ≡ y ∷ ys → xs ≡ ys
rest_same x y xs ys e = cc

fewer : (list more : List Comparison) (a b : ℕ) → CompareAlike (list ++ more) a b → CompareAlike list a b
fewer [] more a b alike = refl
fewer (c ∷ list) more a b alike =
    let here = first_same (code_of 0 a c) (code_of 0 b c) (codes_of (list ++ more) 0 a) (codes_of (list ++ more) 0 b) alike in
    let rest = rest_same (code_of 0 a c) (code_of 0 b c) (codes_of (list ++ more) 0 a) (codes_of (list ++ more) 0 b) alike in
    λ i. here i ∷ fewer list more a b rest i

pub fewer_alike : (old new : List Comparison) (a b : ℕ) → HasMore old new → CompareAlike new a b → CompareAlike old a b
fewer_alike old new a b more alike = fewer old more.0 a b (subst (λ l. CompareAlike l a b) more.1 alike)

last_of : (list : List Comparison) (c : Comparison) (a b : ℕ) → CompareAlike (list ++ c ∷ []) a b → code_of 0 a c ≡ code_of 0 b c
last_of [] c a b alike = first_same (code_of 0 a c) (code_of 0 b c) [] [] alike
last_of (x ∷ list) c a b alike = last_of list c a b (rest_same (code_of 0 a x) (code_of 0 b x) (codes_of (list ++ c ∷ []) 0 a) (codes_of (list ++ c ∷ []) 0 b) alike)

whole : (n : ℕ) → n / 2 ^ 0 ≡ n
whole n = omega arith

-- how two numbers compare with the last bound
last_alike : (list new : List Comparison) (mask bound a b : ℕ) → new ≡ list ++ against mask bound ∷ [] → CompareAlike new a b
    → bound_code (bit_and a mask) bound ≡ bound_code (bit_and b mask) bound
last_alike list new mask bound a b e alike =
    (λ i. bound_code (bit_and a (sym (whole mask) i)) (sym (whole bound) i)) ∙ last_of list (against mask bound) a b (subst (λ l. CompareAlike l a b) e alike)
    ∙ (λ i. bound_code (bit_and b (whole mask i)) (whole bound i))

by_equal : (n a b : ℕ) → bound_code a n ≡ bound_code b n → eqb n a ≡ eqb n b
by_equal n a b e = grind (arith, nat_tests)

by_low : (n a b : ℕ) → bound_code a n ≡ bound_code b n → leb n a ≡ leb n b
by_low n a b e = grind (arith, nat_tests)

by_high : (n a b : ℕ) → bound_code a n ≡ bound_code b n → leb a n ≡ leb b n
by_high n a b e = grind (arith, nat_tests)

by_none : (a b : ℕ) → bound_code a 0 ≡ bound_code b 0 → not (eqb a 0) ≡ not (eqb b 0)
by_none a b e = grind (arith, nat_tests)

pub range_told : (list one two : List Comparison) (mask lo hi a b : ℕ) → one ≡ list ++ against mask lo ∷ [] → two ≡ one ++ against mask hi ∷ [] → CompareAlike two a b
    → (leb lo (bit_and a mask) && leb (bit_and a mask) hi) ≡ (leb lo (bit_and b mask) && leb (bit_and b mask) hi)
range_told list one two mask lo hi a b e f alike =
    let high = last_alike one two mask hi a b f alike in
    let low = last_alike list one mask lo a b e (fewer_alike one two a b (one_more one two (against mask hi) f) alike) in
    λ i. by_low lo (bit_and a mask) (bit_and b mask) low i && by_high hi (bit_and a mask) (bit_and b mask) high i

pub mask_told : (list new : List Comparison) (mask bits a b : ℕ) → new ≡ list ++ against (bit_and mask bits) 0 ∷ [] → CompareAlike new a b
    → not (eqb (bit_and (bit_and a mask) bits) 0) ≡ not (eqb (bit_and (bit_and b mask) bits) 0)
mask_told list new mask bits a b e alike =
    ap (λ n. not (eqb n 0)) (and_assoc bits a mask) ∙ by_none (bit_and a (bit_and mask bits)) (bit_and b (bit_and mask bits)) (last_alike list new (bit_and mask bits) 0 a b e alike)
    ∙ ap (λ n. not (eqb n 0)) (sym (and_assoc bits b mask))

-- one number more of a list
pub number_more : (old new : List Comparison) (mask : ℕ) (numbers : List ℕ) (i a b : ℕ) → i < length numbers → new ≡ old ++ against mask (get_or numbers i 0) ∷ []
    → (CompareAlike old a b → list_any (λ n. eqb n (bit_and a mask)) (take i numbers) ≡ list_any (λ n. eqb n (bit_and b mask)) (take i numbers))
    → CompareAlike new a b → list_any (λ n. eqb n (bit_and a mask)) (take (i + 1) numbers) ≡ list_any (λ n. eqb n (bit_and b mask)) (take (i + 1) numbers)
number_more old new mask numbers i a b low e before alike =
    let number = get_or numbers i 0 in
    let here = by_equal number (bit_and a mask) (bit_and b mask) (last_alike old new mask number a b e alike) in
    let earlier = before (fewer_alike old new a b (one_more old new (against mask number) e) alike) in
    list_any_more (λ n. eqb n (bit_and a mask)) numbers i 0 low ∙ (λ j. earlier j || here j) ∙ sym (list_any_more (λ n. eqb n (bit_and b mask)) numbers i 0 low)

-- all bits of a number
pub all_bits : (n : ℕ) → n < 2 ^ 64 → bit_and n 18446744073709551615 ≡ n
all_bits n low = and_mask n 64 ∙ mod-eq_of_lt low

-- what a condition sees of a number
pub met_alike : (asked : AskedCond) (mask a b : ℕ)
    → bit_and a mask ≡ seen_number asked.is_cut asked.cond.param a → bit_and b mask ≡ seen_number asked.is_cut asked.cond.param b
    → test_holds asked.cond.test (arg.Num (bit_and a mask)) ≡ test_holds asked.cond.test (arg.Num (bit_and b mask)) → is_met asked (arg.Num a) ≡ is_met asked (arg.Num b)
met_alike asked mask a b x y same =
    ap (by_negation asked.cond.negated) (ap (λ n. test_holds asked.cond.test (arg.Num n)) (sym x) ∙ same ∙ ap (λ n. test_holds asked.cond.test (arg.Num n)) y)

-- needed conditions among the first ones
pub met_more : (conds : List AskedCond) (needed : List Bool) (i : ℕ) (asked : AskedCond) (a b : ℕ) → i < length conds → asked ≡ get_or conds i asked
    → ((n : ℕ) → n < i → is_needed needed n ≡ true → met conds (arg.Num a) n ≡ met conds (arg.Num b) n)
    → (is_needed needed i ≡ true → is_met asked (arg.Num a) ≡ is_met asked (arg.Num b))
    → (n : ℕ) → n < i + 1 → is_needed needed n ≡ true → met conds (arg.Num a) n ≡ met conds (arg.Num b) n
met_more conds needed i asked a b low is before here n less need = by (eqb n i) refl
  where
    by : (t : Bool) → eqb n i ≡ t → met conds (arg.Num a) n ≡ met conds (arg.Num b) n
    by true e =
        let same : n ≡ i = eqb-true n i e in
        let read : asked ≡ cond_at conds i = get_or_read conds i asked low is no_cond in
        ap (met conds (arg.Num a)) same ∙ ap (λ x. is_met x (arg.Num a)) (sym read) ∙ here (ap (is_needed needed) (sym same) ∙ need) ∙ ap (λ x. is_met x (arg.Num b)) read
        ∙ ap (met conds (arg.Num b)) (sym same)
    by false e = let below : n < i = grind (arith, nat_tests) in before n below need

pub met_all : (conds : List AskedCond) (needed : List Bool) (i a b : ℕ) → length conds ≤ i
    → ((n : ℕ) → n < i → is_needed needed n ≡ true → met conds (arg.Num a) n ≡ met conds (arg.Num b) n)
    → AgreeWhereNeeded needed (met conds (arg.Num a)) (met conds (arg.Num b))
met_all conds needed i a b past before n need = by (ltb n i) refl
  where
    by : (t : Bool) → ltb n i ≡ t → met conds (arg.Num a) n ≡ met conds (arg.Num b) n
    by true e = let low : n < i = grind (arith, nat_tests) in before n low need
    by false e =
        let out : length conds ≤ n = grind (arith, nat_tests) in
        let none : cond_at conds n ≡ no_cond = get_or_past conds n no_cond out in
        ap (λ x. is_met x (arg.Num a)) none ∙ sym (ap (λ x. is_met x (arg.Num b)) none)
