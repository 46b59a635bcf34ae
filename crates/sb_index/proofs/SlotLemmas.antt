-- Slots between rising bounds.
use Rattle.std.proofs.Common.{◌≡◌, ◌∙◌, ◌≤◌, ◌<◌, ◌+◌, ◌-◌, ◌^◌, ℕ, zero, suc, Bool, true, false, cond, List, [], ◌∷◌, ◌++◌, ◌&&◌, ◌||◌, eqb, ltb, length, take, refl, ap, sym, arith}
use Rattle.std.specs.Prelude.{nat_le, slice_index_or}
use Rattle.std.specs.List.{list_all, list_any}
use Rattle.sb_rule.specs.declared.conditions.Cond.{Cond}
use Rattle.sb_index.specs.declared.questions.Feature.{Feature}
use Rattle.sb_index.specs.declared.questions.Question.TheVariants.{Within}
use Rattle.std.proofs.lemmas.Bool.{and_from, and_parts, eqb-false, eqb-true, false≢true, le-leb, leb-false, leb-true, lt-leb, lt-ltb, ltb-true, ne_eqb, ltb-false}
use Rattle.std.proofs.lemmas.List.{get_or_append_left, get_or_push, length-append, take_more}
use Rattle.std.proofs.lemmas.List.Folds.{list_any-append}
use Rattle.sb_index.specs.Bounds.{IsRising, first_of, last_of}
use Rattle.sb_index.specs.Questions.{cond_may_pass, lies}
use Rattle.sb_index.proofs.SetLemmas.{differ}

-- the first number of a slot that is not the first
first_after : (bounds : List ℕ) (slot : ℕ) → first_of bounds (suc slot) ≡ slice_index_or bounds slot 0
first_after bounds slot =
    ap (λ b. cond b 0 (slice_index_or bounds (suc slot - 1) 0)) (some slot) ∙ ap (λ n. slice_index_or bounds n 0) (before slot)
  where
    some : (slot : ℕ) → eqb (suc slot) 0 ≡ false
    some slot = ne_eqb (suc slot) 0 (λ e. absurd (omega (arith, e)))

    before : (slot : ℕ) → suc slot - 1 ≡ slot
    before slot = omega arith

first_kept : (bounds : List ℕ) (n slot : ℕ) → slot ≤ length bounds → first_of (bounds ++ n ∷ []) slot ≡ first_of bounds slot
first_kept bounds n zero h = refl
first_kept bounds n (suc slot) h =
    first_after (bounds ++ n ∷ []) slot ∙ get_or_append_left bounds (n ∷ []) 0 slot (omega (arith, h)) ∙ sym (first_after bounds slot)

pub last_pushed : (bounds : List ℕ) (n : ℕ) → n ≡ first_of (bounds ++ n ∷ []) (length bounds + 1)
last_pushed bounds n =
    sym (get_or_push bounds n 0 (length bounds) refl) ∙ sym (first_after (bounds ++ n ∷ []) (length bounds))
    ∙ ap (first_of (bounds ++ n ∷ [])) (more (length bounds))
  where
    more : (m : ℕ) → suc m ≡ m + 1
    more m = omega arith

pub rising_pushed : (bounds : List ℕ) (n : ℕ) → IsRising bounds → first_of bounds (length bounds) < n → IsRising (bounds ++ n ∷ [])
rising_pushed bounds n rising above slot h = by (ltb slot (length bounds)) refl
  where
    by : (b : Bool) → ltb slot (length bounds) ≡ b → first_of (bounds ++ n ∷ []) slot < slice_index_or (bounds ++ n ∷ []) slot 0
    by true t =
        let inside = ltb-true slot (length bounds) t in
        let first = first_kept bounds n slot (omega (arith, inside)) in
        let bound = get_or_append_left bounds (n ∷ []) 0 slot inside in
        omega (arith, first, bound, rising slot inside)
    by false t =
        let last : slot ≡ length bounds = omega (arith, h, length-append bounds (n ∷ []), ltb-false slot (length bounds) t) in
        let first = first_kept bounds n slot (omega (arith, last)) in
        let bound = get_or_push bounds n 0 slot (sym last) in
        omega (arith, first, bound, above, ap (first_of bounds) last)

-- the first numbers of the slots rise
up : (bounds : List ℕ) → IsRising bounds → (slot more : ℕ) → slot + more ≤ length bounds → first_of bounds slot ≤ first_of bounds (slot + more)
up bounds rising slot zero h = let e : slot + 0 ≡ slot = omega arith in omega (arith, ap (first_of bounds) e)
up bounds rising slot (suc more) h =
    let before = up bounds rising slot more (omega (arith, h)) in
    let e : slot + suc more ≡ suc (slot + more) = omega arith in
    omega (arith, before, rising (slot + more) (omega (arith, h)), first_after bounds (slot + more), ap (first_of bounds) e)

-- so do the bounds
pub bounds_rise : (bounds : List ℕ) → IsRising bounds → (i j : ℕ) → i ≤ j → j < length bounds → slice_index_or bounds i 0 ≤ slice_index_or bounds j 0
bounds_rise bounds rising i j le within =
    let at : suc i + (j - i) ≡ suc j = omega (arith, le) in
    let higher = up bounds rising (suc i) (j - i) (omega (arith, at, within)) in
    omega (arith, higher, first_after bounds i, first_after bounds j, ap (first_of bounds) at)

-- a number below the next bound is in the slot before it
pub ends_after : (bounds : List ℕ) (number slot : ℕ) → number < 2 ^ 64 → (slot < length bounds → number < slice_index_or bounds slot 0) → number ≤ last_of bounds slot
ends_after bounds number slot small below = by (ltb slot (length bounds)) refl
  where
    by : (b : Bool) → ltb slot (length bounds) ≡ b → number ≤ cond b (slice_index_or bounds slot 0 - 1) (2 ^ 64 - 1)
    by true t = omega (arith, below (ltb-true slot (length bounds) t))
    by false t = omega (arith, small)

-- a number that is no bound is in the slot after the last bound below it
pub slot_found : (bounds : List ℕ) (number slot : ℕ) → number < 2 ^ 64
    → (slot ≤ length bounds) × ((k : ℕ) → k < slot → slice_index_or bounds k 0 < number) × ((k : ℕ) → slot ≤ k → k < length bounds → number < slice_index_or bounds k 0)
    → (first_of bounds slot ≤ number) × (number ≤ last_of bounds slot)
slot_found bounds number zero small (within, below, above) = (omega arith, ends_after bounds number zero small (above zero (omega arith)))
slot_found bounds number (suc slot) small (within, below, above) = (
  omega (arith, first_after bounds slot, below slot (omega arith)),
  ends_after bounds number (suc slot) small (above (suc slot) (omega arith)),
)

last_inside : (bounds : List ℕ) (slot : ℕ) → slot < length bounds → last_of bounds slot ≡ slice_index_or bounds slot 0 - 1
last_inside bounds slot h = ap (λ b. cond b (slice_index_or bounds slot 0 - 1) (2 ^ 64 - 1)) (lt-ltb slot (length bounds) h)

-- a slot that ends before another begins is not after it
apart : (bounds : List ℕ) → IsRising bounds → (slot other : ℕ) → slot < other → other ≤ length bounds → last_of bounds slot < first_of bounds other
apart bounds rising slot other h within =
    let gap : suc slot + (other - suc slot) ≡ other = omega (arith, h) in
    let later = up bounds rising (suc slot) (other - suc slot) (omega (arith, gap, within)) in
    let inside : slot < length bounds = omega (arith, h, within) in
    omega (arith, rising slot inside, last_inside bounds slot inside, first_after bounds slot, later, ap (first_of bounds) gap)

pub in_order : (bounds : List ℕ) → IsRising bounds → (slot other n : ℕ) → other ≤ length bounds → first_of bounds other ≤ n → n ≤ last_of bounds slot → other ≤ slot
in_order bounds rising slot other n within first last = by (ltb slot other) refl
  where
    by : (b : Bool) → ltb slot other ≡ b → other ≤ slot
    by true t =
        let less = ltb-true slot other t in
        absurd (omega (arith, apart bounds rising slot other less within, first, last))
    by false t = ltb-false slot other t

-- a number lies in its slot alone
pub same_slot : (bounds : List ℕ) → IsRising bounds → (n slot other : ℕ) → other ≤ length bounds → first_of bounds other ≤ n → n ≤ last_of bounds other
    → slot ≤ length bounds → lies (first_of bounds slot) (last_of bounds slot) n ≡ true → other ≡ slot
same_slot bounds rising n slot other within first last inside h =
    let p = and_parts (nat_le (first_of bounds slot) n) (nat_le n (last_of bounds slot)) h in
    omega (arith, in_order bounds rising slot other n within first (leb-true n (last_of bounds slot) p.1), in_order bounds rising other slot n inside (leb-true (first_of bounds slot) n p.0) last)

-- a number that does not lie after a slot does not lie after a later one
not_after : (bounds : List ℕ) → IsRising bounds → (n slot other : ℕ) → n < 2 ^ 64 → slot ≤ other → other ≤ length bounds → n ≤ last_of bounds slot
    → n ≤ last_of bounds other
not_after bounds rising n slot other small h within le = by (eqb slot other) refl (ltb other (length bounds)) refl
  where
    below : (a b : ℕ) → (a ≡ b → ⊥) → a ≤ b → a < b
    below a b apart h = omega (arith, apart, h)

    by : (b : Bool) → eqb slot other ≡ b → (i : Bool) → ltb other (length bounds) ≡ i → n ≤ last_of bounds other
    by true t i f = let same : slot ≡ other = eqb-true slot other t in omega (arith, le, ap (last_of bounds) same)
    by false t true f =
        let less = below slot other (eqb-false slot other t) h in
        let inside = ltb-true other (length bounds) f in
        omega (arith, le, apart bounds rising slot other less within, rising other inside, last_inside bounds other inside)
    by false t false f = omega (arith, small, ap (λ b. cond b (slice_index_or bounds other 0 - 1) (2 ^ 64 - 1)) f)

-- a range is in the slots from that of its first number to that of its last
pub run_is : (bounds : List ℕ) → IsRising bounds → (lo hi first last slot : ℕ) → lo < 2 ^ 64 → first ≤ length bounds → last ≤ length bounds
    → first_of bounds first ≤ lo → lo ≤ last_of bounds first → first_of bounds last ≤ hi → hi ≤ last_of bounds last → slot ≤ length bounds
    → (nat_le first slot && nat_le slot last) ≡ (nat_le lo (last_of bounds slot) && nat_le (first_of bounds slot) hi)
run_is bounds rising lo hi first last slot small within inside low low_end high high_end here =
    ap (λ b. b && nat_le slot last) (left (nat_le first slot) refl)
    ∙ ap (λ b. nat_le lo (last_of bounds slot) && b) (right (nat_le slot last) refl)
  where
    yes : (a b : ℕ) → a ≤ b → true ≡ nat_le a b
    yes a b h = sym (le-leb a b h)

    no : (a b : ℕ) → b < a → false ≡ nat_le a b
    no a b h = sym (lt-leb a b h)

    left : (b : Bool) → nat_le first slot ≡ b → nat_le first slot ≡ nat_le lo (last_of bounds slot)
    left true t = t ∙ yes lo (last_of bounds slot) (not_after bounds rising lo first slot small (leb-true first slot t) here low_end)
    left false t = t ∙ no lo (last_of bounds slot) (omega (arith, low, apart bounds rising slot first (leb-false first slot t) within))

    right : (b : Bool) → nat_le slot last ≡ b → nat_le slot last ≡ nat_le (first_of bounds slot) hi
    right true t =
        let le = leb-true slot last t in
        let gap : slot + (last - slot) ≡ last = omega (arith, le) in
        let rise = up bounds rising slot (last - slot) (omega (arith, gap, inside)) in
        t ∙ yes (first_of bounds slot) hi (omega (arith, rise, ap (first_of bounds) gap, high))
    right false t = t ∙ no (first_of bounds slot) hi (omega (arith, high_end, apart bounds rising last slot (leb-false slot last t) here))

-- a number and a test of slots: both hold in the slot of the number, if the test does there
pub slot_here : (bounds : List ℕ) → IsRising bounds → (n at slot : ℕ) (test : ℕ → Bool) (b : Bool) → at ≤ length bounds → first_of bounds at ≤ n → n ≤ last_of bounds at
    → slot ≤ length bounds → test at ≡ b → (eqb slot at && b) ≡ (lies (first_of bounds slot) (last_of bounds slot) n && test slot)
slot_here bounds rising n at slot test b within first last inside e = by (eqb slot at) refl (lies (first_of bounds slot) (last_of bounds slot) n) refl
  where
    lying : (a n c : ℕ) → a ≤ n → n ≤ c → lies a c n ≡ true
    lying a n c h g = and_from (nat_le a n) (nat_le n c) (le-leb a n h) (le-leb n c g)

    by : (q : Bool) → eqb slot at ≡ q → (l : Bool) → lies (first_of bounds slot) (last_of bounds slot) n ≡ l → (q && b) ≡ (l && test slot)
    by true t true f = sym (ap test (eqb-true slot at t) ∙ e)
    by true t false f =
        let same : slot ≡ at = eqb-true slot at t in
        let yes : lies (first_of bounds slot) (last_of bounds slot) n ≡ true =
        lying (first_of bounds slot) n (last_of bounds slot) (omega (arith, first, ap (first_of bounds) same)) (omega (arith, last, ap (last_of bounds) same)) in
        absurd (false≢true (sym f ∙ yes))
    by false t true f =
        let same = same_slot bounds rising n slot at within first last inside f in
        absurd (differ slot at t (sym same))
    by false t false f = refl

-- a rule in the slot of a number
pub point_marked : (new old e q : Bool) (x y : Bool) → new ≡ (old || (e && q)) → (q && true) ≡ (x && y) → new ≡ (old || (e && (x && y)))
point_marked new old e q x y is same = is ∙ ap (λ b. old || (e && b)) (both q ∙ same)
  where
    both : (q : Bool) → q ≡ (q && true)
    both true = refl
    both false = refl

pub no_point_marked : (old e q : Bool) (x y : Bool) → (q && false) ≡ (x && y) → old ≡ (old || (e && (x && y)))
no_point_marked old e q x y same = sym (ap (λ b. old || (e && b)) (sym same) ∙ by old e q)
  where
    by : (o e q : Bool) → (o || (e && (q && false))) ≡ o
    by true e q = refl
    by false true true = refl
    by false true false = refl
    by false false q = refl

-- one number more
pub number_put : (first last : ℕ) (numbers : List ℕ) (i n : ℕ) (start old new e p : Bool) → i < length numbers → n ≡ slice_index_or numbers i n
    → old ≡ (start || (e && (list_any (lies first last) (take i numbers) && p))) → new ≡ (old || (e && (lies first last n && p)))
    → new ≡ (start || (e && (list_any (lies first last) (take (i + 1) numbers) && p)))
number_put first last numbers i n start old new e p h is before put =
    let more : take (i + 1) numbers ≡ take i numbers ++ n ∷ [] = take_more numbers i n h ∙ ap (λ y. take i numbers ++ y ∷ []) (sym is) in
    put ∙ ap (λ b. b || (e && (lies first last n && p))) before
    ∙ parts start e (list_any (lies first last) (take i numbers)) (lies first last n) p
    ∙ ap (λ b. start || (e && (b && p))) (sym (ap (list_any (lies first last)) more ∙ list_any-append (lies first last) (take i numbers) (n ∷ [])))
  where
    parts : (s e a l p : Bool) → ((s || (e && (a && p))) || (e && (l && p))) ≡ (s || (e && ((a || (l || false)) && p)))
    parts true e a l p = refl
    parts false false a l p = refl
    parts false true true true true = refl
    parts false true true false true = refl
    parts false true true l false = refl_by l
      where
        refl_by : (l : Bool) → (false || (l && false)) ≡ false
        refl_by true = refl
        refl_by false = refl
    parts false true false true p = refl
    parts false true false false p = refl

pub no_number : (start e p : Bool) → start ≡ (start || (e && (false && p)))
no_number true e p = refl
no_number false true p = refl
no_number false false p = refl

-- a rule with a list of numbers passes in no slot without one of them
pub list_marked : (new old e x p : Bool) → new ≡ (old || (e && (x && p))) → (p ≡ true → x ≡ true) → new ≡ (old || (e && p))
list_marked new old e x p is h = is ∙ ap (λ b. old || (e && b)) (by p refl)
  where
    by : (b : Bool) → p ≡ b → (x && p) ≡ p
    by true t = ap (λ y. y && p) (h t)
    by false t = ap (λ y. x && y) t ∙ none x ∙ sym t
      where
        none : (x : Bool) → (x && false) ≡ false
        none true = refl
        none false = refl

-- whether conditions pass the question of a slot
abbrev pub slot_test : Feature → List ℕ → List Cond → ℕ → Bool
slot_test feature bounds conds slot = list_all (cond_may_pass (Within feature (first_of bounds slot) (last_of bounds slot))) conds

-- a rule for the tag
pub mine_marked : (new old mine e : Bool) → mine ≡ true → new ≡ (old || e) → new ≡ (old || (mine && e))
mine_marked new old mine e m is = is ∙ ap (λ b. old || (b && e)) (sym m)

-- a rule that passes everywhere is in all slots
pub everywhere : (slots slot : ℕ) (new old e p : Bool) → slot ≤ slots → new ≡ (old || (e && (nat_le 0 slot && nat_le slot slots))) → p ≡ true → new ≡ (old || (e && p))
everywhere slots slot new old e p h is all = is ∙ ap (λ b. old || (e && b)) (within slot slots h ∙ sym all)
  where
    within : (slot slots : ℕ) → slot ≤ slots → (nat_le 0 slot && nat_le slot slots) ≡ true
    within slot slots h = and_from (nat_le 0 slot) (nat_le slot slots) (le-leb 0 slot (omega arith)) (le-leb slot slots h)
