-- Pruned conditions decide alike.
use Rattle.std.specs.List.{list_all}
use Rattle.std.proofs.Common.{◌≡◌, ◌⊎◌, inl, inr, ◌∙◌, ◌≤◌, ◌+◌, ℕ, zero, suc, Bool, true, false, cond, List, [], ◌∷◌, ◌++◌, ◌&&◌, take, refl, ap, sym, subst, arith}
use Rattle.std.proofs.lemmas.Bool.{false≢true}
use Rattle.sb_cover.specs.Pruning.{places, DecideAlike, IsImplied, IsCovered, ArePruned, PrunedDecideAlike}
use Rattle.sb_cover.specs.declared.open_rules.OpenRule.{OpenRule}

-- how many of the lists hold
abbrev count : (ℕ → Bool) → List (List ℕ) → ℕ
count other [] = 0
count other (d ∷ decided) = cond (list_all other d) (1 + count other decided) (count other decided)

count_of : (other : ℕ → Bool) (d : List ℕ) (decided : List (List ℕ)) (b : Bool) → list_all other d ≡ b → count other (d ∷ decided) ≡ cond b (1 + count other decided) (count other decided)
count_of other d decided b e = ap (λ c. cond c (1 + count other decided) (count other decided)) e

-- if a covered rule holds, those by which it is covered do
covered_many : (other : ℕ → Bool) (n : ℕ) (decided : List (List ℕ)) (later : List ℕ) → list_all other later ≡ true → IsCovered n decided later → n ≤ count other decided
covered_many other zero decided later holds covered = omega arith
covered_many other (suc n) [] later holds covered = absurd covered
covered_many other (suc n) (d ∷ decided) later holds (inl p) =
    let one : count other (d ∷ decided) ≡ 1 + count other decided = count_of other d decided true (p.0 other holds) in
    omega (arith, one, covered_many other n decided later holds p.1)
covered_many other (suc n) (d ∷ decided) later holds (inr p) = by (list_all other d) refl (covered_many other (suc n) decided later holds p)
  where
    by : (b : Bool) → list_all other d ≡ b → suc n ≤ count other decided → suc n ≤ count other (d ∷ decided)
    by true e rest = omega (arith, count_of other d decided true e, rest)
    by false e rest = omega (arith, count_of other d decided false e, rest)

-- one list more at the end
count_more : (other : ℕ → Bool) (decided : List (List ℕ)) (d : List ℕ) (b : Bool) → list_all other d ≡ b
    → count other (decided ++ d ∷ []) ≡ cond b (1 + count other decided) (count other decided)
count_more other [] d b e = count_of other d [] b e
count_more other (x ∷ decided) d b e = by b (list_all other x) refl (count_more other decided d b e)
  where
    by : (b c : Bool) → list_all other x ≡ c → count other (decided ++ d ∷ []) ≡ cond b (1 + count other decided) (count other decided)
        → count other (x ∷ decided ++ d ∷ []) ≡ cond b (1 + count other (x ∷ decided)) (count other (x ∷ decided))
    by true true k rest = omega (arith, count_of other x (decided ++ d ∷ []) true k, count_of other x decided true k, rest)
    by true false k rest = omega (arith, count_of other x (decided ++ d ∷ []) false k, count_of other x decided false k, rest)
    by false true k rest = omega (arith, count_of other x (decided ++ d ∷ []) true k, count_of other x decided true k, rest)
    by false false k rest = omega (arith, count_of other x (decided ++ d ∷ []) false k, count_of other x decided false k, rest)

and_false : (b : Bool) → (b && false) ≡ false
and_false true = refl
and_false false = refl

-- a rule that holds, and one that does not
one_more : (x : Bool) (a : List Bool) (other : ℕ → Bool) (rule : OpenRule) (rules : List OpenRule) (b : Bool) → (x && list_all other rule.later) ≡ b
    → places (x ∷ a) other (rule ∷ rules) ≡ cond b (rule.place ∷ places a other rules) (places a other rules)
one_more x a other rule rules b e = ap (λ c. cond c (rule.place ∷ places a other rules) (places a other rules)) e

take_none : (left : ℕ) (xs ys : List ℕ) → left ≤ 0 → take left xs ≡ take left ys
take_none zero xs ys h = refl
take_none (suc left) xs ys h = absurd (omega (arith, h))

take_one : (left n : ℕ) (xs ys : List ℕ) → ((m : ℕ) → suc m ≡ left → take m xs ≡ take m ys) → take left (n ∷ xs) ≡ take left (n ∷ ys)
take_one zero n xs ys h = refl
take_one (suc left) n xs ys h = ap (λ l. n ∷ l) (h left refl)

pruned : (depth : ℕ) (other : ℕ → Bool) (rules : List OpenRule) (a b : List Bool) (decided : List (List ℕ)) (left : ℕ) → left + count other decided ≤ depth
    → ArePruned depth decided a b rules → take left (places a other rules) ≡ take left (places b other rules)
pruned depth other [] a b decided left few are = refl
pruned depth other (rule ∷ rules) [] b decided left few are = absurd are
pruned depth other (rule ∷ rules) (x ∷ a) [] decided left few are = absurd are
pruned depth other (rule ∷ rules) (x ∷ a) (y ∷ b) decided left few (inl p) = by (list_all other rule.later) refl (pruned depth other rules a b decided left few p.1)
  where
    by : (h : Bool) → list_all other rule.later ≡ h → take left (places a other rules) ≡ take left (places b other rules) → take left (places (x ∷ a) other (rule ∷ rules)) ≡ take left (places (y ∷ b) other (rule ∷ rules))
    by true e rest = take_none left (places (x ∷ a) other (rule ∷ rules)) (places (y ∷ b) other (rule ∷ rules)) (omega (arith, few, covered_many other depth decided rule.later e p.0))
    by false e rest =
        ap (take left) (one_more x a other rule rules false (ap (λ t. x && t) e ∙ and_false x)) ∙ rest
        ∙ sym (ap (take left) (one_more y b other rule rules false (ap (λ t. y && t) e ∙ and_false y)))
pruned depth other (rule ∷ rules) (x ∷ a) (y ∷ b) decided left few (inr (inl p)) =
    by (x && list_all other rule.later) refl (pruned depth other rules a b decided left few p.1) (λ m s. pruned depth other rules a b decided m (omega (arith, s, few)) p.1)
  where
    by : (h : Bool) → (x && list_all other rule.later) ≡ h → take left (places a other rules) ≡ take left (places b other rules)
        → ((m : ℕ) → suc m ≡ left → take m (places a other rules) ≡ take m (places b other rules)) → take left (places (x ∷ a) other (rule ∷ rules)) ≡ take left (places (y ∷ b) other (rule ∷ rules))
    by true e rest less =
        ap (take left) (one_more x a other rule rules true e) ∙ take_one left rule.place (places a other rules) (places b other rules) less
        ∙ sym (ap (take left) (one_more y b other rule rules true (ap (λ t. t && list_all other rule.later) (sym p.0) ∙ e)))
    by false e rest less =
        ap (take left) (one_more x a other rule rules false e) ∙ rest
        ∙ sym (ap (take left) (one_more y b other rule rules false (ap (λ t. t && list_all other rule.later) (sym p.0) ∙ e)))
pruned depth other (rule ∷ rules) (x ∷ a) (y ∷ b) decided left few (inr (inr p)) =
    by (list_all other rule.later) refl
    (λ e. pruned depth other rules a b (decided ++ rule.later ∷ []) left (omega (arith, few, count_more other decided rule.later false e)) p.2)
    (λ e m s. pruned depth other rules a b (decided ++ rule.later ∷ []) m (omega (arith, s, few, count_more other decided rule.later true e)) p.2)
  where
    by : (h : Bool) → list_all other rule.later ≡ h → (list_all other rule.later ≡ false → take left (places a other rules) ≡ take left (places b other rules))
        → (list_all other rule.later ≡ true → (m : ℕ) → suc m ≡ left → take m (places a other rules) ≡ take m (places b other rules)) → take left (places (x ∷ a) other (rule ∷ rules)) ≡ take left (places (y ∷ b) other (rule ∷ rules))
    by true e rest less =
        ap (take left) (one_more x a other rule rules true (λ i. p.0 i && e i)) ∙ take_one left rule.place (places a other rules) (places b other rules) (less e)
        ∙ sym (ap (take left) (one_more y b other rule rules true (λ i. p.1 i && e i)))
    by false e rest less =
        ap (take left) (one_more x a other rule rules false (ap (λ t. x && t) e ∙ and_false x)) ∙ rest e
        ∙ sym (ap (take left) (one_more y b other rule rules false (ap (λ t. y && t) e ∙ and_false y)))

pub pruned_decide_alike : PrunedDecideAlike
pruned_decide_alike depth a b rules are other = pruned depth other rules a b [] depth (omega arith) are
