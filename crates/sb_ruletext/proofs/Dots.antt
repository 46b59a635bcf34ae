-- The two ends of a range.
use Rattle.std.proofs.Common.{◌≡◌, refl, sym, ap, ◌∙◌, ℕ, zero, suc, ◌+◌, ◌<◌, ◌≤◌, List, [], ◌∷◌, ◌++◌, Option, None, Some, option_map, length, take, drop, arith}
use Rattle.std.proofs.lemmas.List.{drop_all}
use Rattle.sb_ruletext.specs.Conditions.{after_dots, around_from, around_dots}

-- the ends of the rest of a word, with what was passed before the first of them
abbrev pub ends_after : List ℕ → Option (List ℕ × List ℕ) → Option (List ℕ × List ℕ)
ends_after passed None = None
ends_after passed (Some ends) = Some (passed ++ ends.0, ends.1)

move : (b : ℕ) (passed : List ℕ) (rest : Option (List ℕ × List ℕ))
    → ends_after (b ∷ passed) rest ≡ option_map (λ ends. (b ∷ ends.0, ends.1)) (ends_after passed rest)
move b passed None = refl
move b passed (Some ends) = refl

-- a `..` that is here
pub found_here : (word : List ℕ) (n : ℕ) (after : List ℕ) → n < length word → after_dots (drop n word) ≡ Some after
    → ends_after (take n word) (around_dots (drop n word)) ≡ Some (take n word, after)
found_here [] n after l h = absurd (omega (arith, l))
found_here (b ∷ bs) zero after l h = ap (λ here. ends_after [] (around_from b here (around_dots bs))) h
found_here (b ∷ bs) (suc n) after l h =
    move b (take n bs) (around_dots (drop n bs)) ∙ ap (option_map (λ ends. (b ∷ ends.0, ends.1))) (found_here bs n after (omega (arith, l)) h)

nothing : (rest : Option (List ℕ × List ℕ)) → ends_after [] rest ≡ rest
nothing None = refl
nothing (Some ends) = refl

one : (b : ℕ) (rest : Option (List ℕ × List ℕ)) → option_map (λ ends. (b ∷ ends.0, ends.1)) rest ≡ ends_after (b ∷ []) rest
one b None = refl
one b (Some ends) = refl

-- one more byte is passed if no `..` is here
pub passed_one : (word : List ℕ) (n : ℕ) → n < length word → after_dots (drop n word) ≡ None
    → ends_after (take n word) (around_dots (drop n word)) ≡ ends_after (take (n + 1) word) (around_dots (drop (n + 1) word))
passed_one [] n l h = absurd (omega (arith, l))
passed_one (b ∷ bs) zero l h =
    ap (λ here. ends_after [] (around_from b here (around_dots bs))) h
    ∙ nothing (option_map (λ ends. (b ∷ ends.0, ends.1)) (around_dots bs)) ∙ one b (around_dots bs)
passed_one (b ∷ bs) (suc n) l h =
    let e : suc n + 1 ≡ suc (n + 1) = omega arith in
    rw (e) (move b (take n bs) (around_dots (drop n bs))
    ∙ ap (option_map (λ ends. (b ∷ ends.0, ends.1))) (passed_one bs n (omega (arith, l)) h)
    ∙ sym (move b (take (n + 1) bs) (around_dots (drop (n + 1) bs))))

-- no byte is left
pub found_nowhere : (word : List ℕ) (n : ℕ) → length word ≤ n → ends_after (take n word) (around_dots (drop n word)) ≡ None
found_nowhere word n l = ap (λ rest. ends_after (take n word) (around_dots rest)) (drop_all n word l)
