-- Numbers that are read one after another.
use Rattle.std.proofs.Common.{◌≡◌, ◌∙◌, ℕ, suc, ◌-◌, ◌≤◌, refl, sym, ap, arith, List, [], ◌∷◌, ◌++◌, length, append_assoc, Option, None, Some}
use Rattle.std.proofs.lemmas.List.{length-append, append-nil}
use Rattle.sb_text.specs.Numbers.{decimal_of}
use Rattle.sb_transcript.specs.Reading.{words_within}
use Rattle.sb_transcript.specs.Steps.{◌>>=◌}

-- words that follow others
abbrev pub with_words : List ℕ → Option (List ℕ) → Option (List ℕ)
with_words before None = None
with_words before (Some words) = Some (before ++ words)

one : (before : List ℕ) (n : ℕ) (o : Option (List ℕ)) → with_words (before ++ n ∷ []) o ≡ with_words before (o >>= λ words. Some (n ∷ words))
one before n None = refl
one before n (Some words) = ap (λ ws. Some ws) (append_assoc before (n ∷ []) words)

at_room : (m : ℕ) (before field : List ℕ) (fields : List (List ℕ)) (n : ℕ) (z : Option (List ℕ)) → decimal_of field ≡ Some n
    → with_words before (words_within (suc m) (field ∷ fields)) ≡ z → with_words (before ++ n ∷ []) (words_within m fields) ≡ z
at_room m before field fields n z d begun =
    one before n (words_within m fields)
    ∙ sym (ap (λ o. with_words before (o >>= λ word. words_within m fields >>= λ words. Some (word ∷ words))) d) ∙ begun

no_room : (m : ℕ) (before field : List ℕ) (fields : List (List ℕ)) (z : Option (List ℕ)) → decimal_of field ≡ None
    → with_words before (words_within (suc m) (field ∷ fields)) ≡ z → z ≡ None
no_room m before field fields z d begun =
    sym begun ∙ ap (λ o. with_words before (o >>= λ word. words_within m fields >>= λ words. Some (word ∷ words))) d

at_fields : (before : List ℕ) (m : ℕ) (l k : List (List ℕ)) (z : Option (List ℕ)) → with_words before (words_within m l) ≡ z → l ≡ k → with_words before (words_within m k) ≡ z
at_fields before m l k z begun e = sym (ap (λ fs. with_words before (words_within m fs)) e) ∙ begun

at_most : (before : List ℕ) (m n : ℕ) (l : List (List ℕ)) (z : Option (List ℕ)) → with_words before (words_within m l) ≡ z → m ≡ n → with_words before (words_within n l) ≡ z
at_most before m n l z begun e = sym (ap (λ k. with_words before (words_within k l)) e) ∙ begun

-- there is no room for one more, it is no number, it is one, or there is none
pub words_full : (before field : List ℕ) (fields l : List (List ℕ)) (z : Option (List ℕ)) → with_words before (words_within (7 - length before) l) ≡ z → l ≡ field ∷ fields
    → length before ≡ 7 → z ≡ None
words_full before field fields l z begun e h =
    sym (at_most before (7 - length before) 0 (field ∷ fields) z (at_fields before (7 - length before) l (field ∷ fields) z begun e) (omega (arith, h)))

pub words_bad : (before field : List ℕ) (fields l : List (List ℕ)) (z : Option (List ℕ)) → with_words before (words_within (7 - length before) l) ≡ z → l ≡ field ∷ fields
    → (length before ≡ 7 → ⊥) → length before ≤ 7 → decimal_of field ≡ None → z ≡ None
words_bad before field fields l z begun e h k d =
    no_room (6 - length before) before field fields z d
    (at_most before (7 - length before) (suc (6 - length before)) (field ∷ fields) z (at_fields before (7 - length before) l (field ∷ fields) z begun e) (omega (arith, h, k)))

pub words_more : (before field : List ℕ) (fields l : List (List ℕ)) (n : ℕ) (z : Option (List ℕ)) → with_words before (words_within (7 - length before) l) ≡ z → l ≡ field ∷ fields
    → (length before ≡ 7 → ⊥) → length before ≤ 7 → decimal_of field ≡ Some n → with_words (before ++ n ∷ []) (words_within (7 - length (before ++ n ∷ [])) fields) ≡ z
words_more before field fields l n z begun e h k d =
    let one_more = length-append before (n ∷ []) in
    at_most (before ++ n ∷ []) (6 - length before) (7 - length (before ++ n ∷ [])) fields z
    (at_room (6 - length before) before field fields n z d
    (at_most before (7 - length before) (suc (6 - length before)) (field ∷ fields) z (at_fields before (7 - length before) l (field ∷ fields) z begun e) (omega (arith, h, k))))
    (omega (arith, one_more))

pub words_end : (before : List ℕ) (m : ℕ) (l : List (List ℕ)) (z : Option (List ℕ)) → with_words before (words_within m l) ≡ z → l ≡ [] → z ≡ Some before
words_end before m l z begun e = sym (at_fields before m l [] z begun e) ∙ ap (λ ws. Some ws) (append-nil before)
