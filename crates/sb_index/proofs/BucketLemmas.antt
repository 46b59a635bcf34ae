-- Bits of the buckets that strings have and rules need.
use Rattle.std.proofs.Math.Bool.{or-false}
use Rattle.std.specs.Int.{bit_at, bit_not, trailing_zeros, w64}
use Rattle.std.specs.Int.RustNames.{bit_and, bit_or}
use Rattle.std.specs.List.{list_all, list_any}
use Rattle.std.specs.Prelude.{slice_index_or}
use Rattle.std.proofs.Common.{◌≡◌, ◌≢◌, ◌∙◌, ◌<◌, ◌+◌, ◌%◌, ℕ, Bool, true, false, cond, List, [], ◌∷◌, ◌++◌, ◌&&◌, ◌||◌, ◌≤◌, ◌*◌, ◌-◌, ◌^◌, eqb, ltb, max, min, not, length, take, refl, ap, sym, arith}
use Rattle.std.proofs.lemmas.Bool.{eqb-true, false≢true, le-ltb, lt-ltb, eq-eqb}
use Rattle.std.proofs.lemmas.List.{take_more}
use Rattle.std.proofs.lemmas.List.Folds.{list_all-append, list_any-append}
use Rattle.std.proofs.lemmas.Bool.Decides.{nat_tests}
use Rattle.std.proofs.lemmas.Nat.Bits.{bit_at-lt, bit_at-trailing_zeros, bit_at_and, bit_at_clear_other, bit_at_clear_same, bit_at_not, bit_at_or, bit_at-zero, bit_at_set_other}
use Rattle.std.proofs.lemmas.Nat.{and_le_l}
use Rattle.sb_rule.specs.declared.cells.Cell.{Cell}
use Rattle.sb_base.specs.Wide.{folded}
use Rattle.sb_rule.specs.declared.conditions.Cond.{Cond}
use Rattle.sb_index.specs.Questions.{cond_may_pass, is_in_bucket, is_cell_in_bucket}
use Rattle.sb_index.specs.declared.questions.Question.TheVariants.{Without}
use Rattle.sb_index.proofs.SetLemmas.{bit_set, differ, with_bit}
use Rattle.sb_index.specs.Sets.{has}

pub unit_put : (bits unit f bucket : ℕ) → f ≡ folded unit → bit_at (with_bit bits (f % 64)) bucket ≡ cond (is_in_bucket bucket unit) 1 (bit_at bits bucket)
unit_put bits unit f bucket e = by (is_in_bucket bucket unit) refl
  where
    small : f % 64 < 64
    small = omega arith

    by : (b : Bool) → is_in_bucket bucket unit ≡ b → bit_at (with_bit bits (f % 64)) bucket ≡ cond b 1 (bit_at bits bucket)
    by true t =
        let same : f % 64 ≡ bucket = ap (λ n. n % 64) e ∙ eqb-true (folded unit % 64) bucket t in
        ap (bit_at (with_bit bits (f % 64))) (sym same) ∙ bit_set bits (f % 64) small
    by false t = bit_at_set_other w64 bits (f % 64) small bucket (λ h. differ (folded unit % 64) bucket t (ap (λ n. n % 64) (sym e) ∙ sym h))

pub no_unit : (bucket : ℕ) → bit_at 0 bucket ≡ 0
no_unit bucket = bit_at-zero bucket

-- one more
any_more : {X : Type 0} (test : X → Bool) (xs : List X) (i : ℕ) (x : X) (old : ℕ) → i < length xs → x ≡ slice_index_or xs i x
    → old ≡ cond (list_any test (take i xs)) 1 0 → cond (test x) 1 old ≡ cond (list_any test (take (i + 1) xs)) 1 0
any_more test xs i x old h is e =
    let more : take (i + 1) xs ≡ take i xs ++ x ∷ [] = take_more xs i x h ∙ ap (λ y. take i xs ++ y ∷ []) (sym is) in
    by (test x) (list_any test (take i xs)) e ∙ ap (λ b. cond b 1 0) (sym (ap (list_any test) more ∙ list_any-append test (take i xs) (x ∷ [])))
  where
    by : (a b : Bool) → old ≡ cond b 1 0 → cond a 1 old ≡ cond (b || (a || false)) 1 0
    by true true e = refl
    by true false e = refl
    by false true e = e
    by false false e = e

pub unit_more : (units : List ℕ) (i u bits new : ℕ) → i < length units → u ≡ slice_index_or units i u
    → ((bucket : ℕ) → bit_at bits bucket ≡ cond (list_any (is_in_bucket bucket) (take i units)) 1 0)
    → ((bucket : ℕ) → bit_at new bucket ≡ cond (is_in_bucket bucket u) 1 (bit_at bits bucket))
    → (bucket : ℕ) → bit_at new bucket ≡ cond (list_any (is_in_bucket bucket) (take (i + 1) units)) 1 0
unit_more units i u bits new h is old e bucket = e bucket ∙ any_more (is_in_bucket bucket) units i u (bit_at bits bucket) h is (old bucket)

pub cell_more : (cells : List Cell) (i : ℕ) (u : Cell) (bits new : ℕ) → i < length cells → u ≡ slice_index_or cells i u
    → ((bucket : ℕ) → bit_at bits bucket ≡ cond (list_any (is_cell_in_bucket bucket) (take i cells)) 1 0)
    → ((bucket : ℕ) → bit_at new bucket ≡ cond (is_cell_in_bucket bucket u) 1 (bit_at bits bucket))
    → (bucket : ℕ) → bit_at new bucket ≡ cond (list_any (is_cell_in_bucket bucket) (take (i + 1) cells)) 1 0
cell_more cells i u bits new h is old e bucket = e bucket ∙ any_more (is_cell_in_bucket bucket) cells i u (bit_at bits bucket) h is (old bucket)

-- a condition passes unless its bit is set
pub not_needed : (param wanted : ℕ) (b : Bool) → eqb param wanted ≡ false → ◌≡◌ {A = ℕ} 0 (cond (cond (eqb param wanted) b true) 0 1)
not_needed param wanted b other = sym (ap bit other)
  where
    bit : Bool → ℕ
    bit t = cond (cond t b true) 0 1

pub needed : (param wanted bit : ℕ) (b : Bool) → param ≡ wanted → bit ≡ cond b 1 0 → bit ≡ cond (cond (eqb param wanted) (not b) true) 0 1
needed param wanted bit b same e = e ∙ by b ∙ sym (ap turned (eq-eqb param wanted same))
  where
    turned : Bool → ℕ
    turned t = cond (cond t (not b) true) 0 1

    by : (b : Bool) → ◌≡◌ {A = ℕ} (cond b 1 0) (cond (not b) 0 1)
    by true = refl
    by false = refl

-- one condition more
pub cond_more : (param i : ℕ) (conds : List Cond) (c : Cond) (bits more bucket : ℕ) → i < length conds → c ≡ slice_index_or conds i c
    → bit_at bits bucket ≡ cond (list_all (cond_may_pass (Without param bucket)) (take i conds)) 0 1
    → bit_at more bucket ≡ cond (cond_may_pass (Without param bucket) c) 0 1
    → bit_at (bit_or bits more) bucket ≡ cond (list_all (cond_may_pass (Without param bucket)) (take (i + 1) conds)) 0 1
cond_more param i conds c bits more bucket h is old new =
    let parts : take (i + 1) conds ≡ take i conds ++ c ∷ [] = take_more conds i c h ∙ ap (λ y. take i conds ++ y ∷ []) (sym is) in
    bit_at_or bits more bucket ∙ ap (λ n. max n (bit_at more bucket)) old
    ∙ ap (max (cond (list_all (cond_may_pass (Without param bucket)) (take i conds)) 0 1)) new
    ∙ by (list_all (cond_may_pass (Without param bucket)) (take i conds)) (cond_may_pass (Without param bucket) c)
    ∙ ap (λ b. cond b 0 1) (sym (ap (list_all (cond_may_pass (Without param bucket))) parts
    ∙ list_all-append (cond_may_pass (Without param bucket)) (take i conds) (c ∷ [])))
  where
    by : (a b : Bool) → ◌≡◌ {A = ℕ} (max (cond a 0 1) (cond b 0 1)) (cond (a && (b && true)) 0 1)
    by true true = refl
    by true false = refl
    by false true = refl
    by false false = refl

-- a bit that is left has a place below 64, and fewer are left without it
pub lowest_place : (n : ℕ) → 0 < n → n < 2 ^ 64 → trailing_zeros w64 n < 64
lowest_place n h k = (bit_at-trailing_zeros w64 n h k).0

pub lowest_bit : (n : ℕ) → 0 < n → n < 2 ^ 64 → bit_at n (trailing_zeros w64 n) ≡ 1
lowest_bit n h k = (bit_at-trailing_zeros w64 n h k).1

pub bit_cleared : (n k : ℕ) → k < 64 → bit_at (bit_and n (bit_not w64 (1 * 2 ^ k % 18446744073709551616))) k ≡ 0
bit_cleared n k h = bit_at_clear_same w64 n k h

pub others_kept : (n k i : ℕ) → k < 64 → i < 64 → i ≢ k → bit_at (bit_and n (bit_not w64 (1 * 2 ^ k % 18446744073709551616))) i ≡ bit_at n i
others_kept n k i h g ne = bit_at_clear_other w64 n k h i g ne

pub fewer_left : (n k : ℕ) → k < 64 → bit_at n k ≡ 1 → bit_and n (bit_not w64 (1 * 2 ^ k % 18446744073709551616)) < n
fewer_left n k h one = by (bit_and n (bit_not w64 (1 * 2 ^ k % 18446744073709551616))) (and_le_l n _) (bit_cleared n k h)
  where
    by : (m : ℕ) → m ≤ n → bit_at m k ≡ 0 → m < n
    by m le zero_at = less m (eqb m n) refl le zero_at
      where
        less : (m : ℕ) (b : Bool) → eqb m n ≡ b → m ≤ n → bit_at m k ≡ 0 → m < n
        less m true t le z = absurd (omega (arith, one, z, ap (λ x. bit_at x k) (eqb-true m n t)))
        less m false t le z = grind (arith, nat_tests, t, le)

pub is_missing : (needed bits i : ℕ) → bits < 2 ^ 64 → i < 64 → bit_at (bit_and needed (bit_not w64 bits)) i ≡ 1 → bit_at bits i ≡ 0
is_missing needed bits i small h one =
    let min_is = bit_at_and needed (bit_not w64 bits) i in
    let turned = bit_at_not w64 bits i small h in
    let le = min_le_r (bit_at needed i) (bit_at (bit_not w64 bits) i) in
    omega (arith, min_is, one, turned, le, bit_at-lt bits i)
  where
    min_le_r : (a b : ℕ) → min a b ≤ b
    min_le_r a b = omega arith

pub is_needed : (needed bits i : ℕ) → bits < 2 ^ 64 → i < 64 → bit_at needed i ≡ 1 → bit_at bits i ≡ 0 → bit_at (bit_and needed (bit_not w64 bits)) i ≡ 1
is_needed needed bits i small h one none =
    bit_at_and needed (bit_not w64 bits) i ∙ ap (λ n. min n (bit_at (bit_not w64 bits) i)) one
    ∙ ap (min 1) (bit_at_not w64 bits i small h ∙ ap (λ n. 1 - n) none)

-- bits of a string's buckets, by its units
pub unit_missing : (bit : ℕ) (b : Bool) → bit ≡ cond b 1 0 → bit ≡ 0 → b ≡ false
unit_missing bit true e none = absurd (omega (arith, e, none))
unit_missing bit false e none = refl

pub missing_unit : (bit : ℕ) (b : Bool) → bit ≡ cond b 1 0 → b ≡ false → bit ≡ 0
missing_unit bit b e none = e ∙ ap (λ t. cond t 1 0) none

-- a rule in the buckets whose bits are 0
pub clear_put : (old new e q : Bool) (bits s bucket : ℕ) → new ≡ (old || (e && eqb s bucket)) → bit_at bits bucket ≡ 0
    → new ≡ (old || ((e && eqb s bucket) && eqb (bit_at bits s) 0))
clear_put old new e q bits s bucket is clear = is ∙ ap (λ b. old || b) (by e (eqb s bucket) refl)
  where
    by : (e b : Bool) → eqb s bucket ≡ b → (e && b) ≡ ((e && b) && eqb (bit_at bits s) 0)
    by true true t = sym (ap (λ x. eqb (bit_at bits x) 0) (eqb-true s bucket t) ∙ ap (λ n. eqb n 0) clear)
    by true false t = refl
    by false b t = refl

pub set_passed : (old e : Bool) (bits s bucket : ℕ) → bit_at bits bucket ≡ 1 → old ≡ (old || ((e && eqb s bucket) && eqb (bit_at bits s) 0))
set_passed old e bits s bucket set = sym (ap (λ b. old || b) (by e (eqb s bucket) refl) ∙ or-false old)
  where
    by : (e b : Bool) → eqb s bucket ≡ b → ((e && b) && eqb (bit_at bits s) 0) ≡ false
    by true true t = ap (λ x. eqb (bit_at bits x) 0) (eqb-true s bucket t) ∙ ap (λ n. eqb n 0) set
    by true false t = refl
    by false b t = refl

pub none_before : (sets : List (List ℕ)) (bits rule s k : ℕ) → has (slice_index_or sets s []) k
    ≡ (has (slice_index_or sets s []) k || ((eqb k rule && ltb s 0) && eqb (bit_at bits s) 0))
none_before sets bits rule s k =
    sym (ap (λ b. has (slice_index_or sets s []) k || ((eqb k rule && b) && eqb (bit_at bits s) 0)) (none s)
    ∙ by (has (slice_index_or sets s []) k) (eqb k rule))
  where
    none : (s : ℕ) → ltb s 0 ≡ false
    none s = le-ltb s 0 (omega arith)

    by : (a e : Bool) → (a || ((e && false) && eqb (bit_at bits s) 0)) ≡ a
    by true e = refl
    by false true = refl
    by false false = refl

pub one_more : (first old new : List (List ℕ)) (bits rule bucket s k : ℕ)
    → has (slice_index_or old s []) k ≡ (has (slice_index_or first s []) k || ((eqb k rule && ltb s bucket) && eqb (bit_at bits s) 0))
    → has (slice_index_or new s []) k ≡ (has (slice_index_or old s []) k || ((eqb k rule && eqb s bucket) && eqb (bit_at bits s) 0))
    → has (slice_index_or new s []) k ≡ (has (slice_index_or first s []) k || ((eqb k rule && ltb s (bucket + 1)) && eqb (bit_at bits s) 0))
one_more first old new bits rule bucket s k before put =
    put ∙ ap (λ b. b || ((eqb k rule && eqb s bucket) && eqb (bit_at bits s) 0)) before
    ∙ parts (has (slice_index_or first s []) k) (eqb k rule) (ltb s bucket) (eqb s bucket) (eqb (bit_at bits s) 0)
    ∙ ap (λ b. has (slice_index_or first s []) k || ((eqb k rule && b) && eqb (bit_at bits s) 0)) (sym (below s bucket))
  where
    below : (s n : ℕ) → ltb s (n + 1) ≡ (ltb s n || eqb s n)
    below s n = grind (arith, nat_tests)

    parts : (a e l q z : Bool) → ((a || ((e && l) && z)) || ((e && q) && z)) ≡ (a || ((e && (l || q)) && z))
    parts true e l q z = refl
    parts false false l q z = refl
    parts false true true q true = refl
    parts false true true true false = refl
    parts false true true false false = refl
    parts false true false q z = refl

-- a rule in the buckets of which it needs no unit
pub rule_bucketed : (old new e passes mine : Bool) (bits s : ℕ) → mine ≡ true → new ≡ (old || ((e && ltb s 64) && eqb (bit_at bits s) 0)) → s < 64
    → bit_at bits s ≡ cond passes 0 1 → new ≡ (old || (mine && (e && passes)))
rule_bucketed old new e passes mine bits s m is h bit =
    is ∙ ap (λ b. old || ((e && b) && eqb (bit_at bits s) 0)) (below s h) ∙ ap (λ n. old || ((e && true) && eqb n 0)) bit ∙ ap (λ b. old || b) (by e passes)
    ∙ ap (λ b. old || (b && (e && passes))) (sym m)
  where
    below : (s : ℕ) → s < 64 → ltb s 64 ≡ true
    below s h = lt-ltb s 64 h

    by : (e p : Bool) → ((e && true) && eqb (cond p 0 1) 0) ≡ (true && (e && p))
    by true true = refl
    by true false = refl
    by false p = refl

pub none_bucketed : (old mine e : Bool) → mine ≡ false → old ≡ (old || (mine && e))
none_bucketed old mine e none = sym (ap (λ b. old || (b && e)) none ∙ or-false old)

-- bits of all rules
pub rule_needed : (bits more bucket : ℕ) (passes : Bool) → bit_at more bucket ≡ cond passes 0 1 → bit_at (bit_or bits more) bucket ≡ 0
    → (bit_at bits bucket ≡ 0) × (passes ≡ true)
rule_needed bits more bucket passes bit none =
    by passes bit (bit_at bits bucket) (bit_at-lt bits bucket) (sym (bit_at_or bits more bucket) ∙ none)
  where
    low : (a b : ℕ) → max a b ≡ 0 → a ≡ 0
    low a b h = omega (arith, h)

    high : (a b : ℕ) → max a b ≡ 0 → b ≡ 0
    high a b h = omega (arith, h)

    by : (p : Bool) → bit_at more bucket ≡ cond p 0 1 → (n : ℕ) → n < 2 → max n (bit_at more bucket) ≡ 0 → (n ≡ 0) × (p ≡ true)
    by true e n h z = (low n (bit_at more bucket) z, refl)
    by false e n h z = absurd (omega (arith, e, high n (bit_at more bucket) z))

pub rule_skipped : {P : Type 0} (mine : Bool) → mine ≡ false → mine ≡ true → P
rule_skipped mine none some = absurd (false≢true (sym none ∙ some))
