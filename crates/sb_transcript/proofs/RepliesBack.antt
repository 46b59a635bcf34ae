-- Replies are read back.
use Rattle.std.proofs.Common.{◌≡◌, ◌∙◌, ℕ, zero, suc, ◌-◌, ◌^◌, ◌<◌, ◌≤◌, ◌==◌, true, false, cond, ◌&&◌, List, [], ◌∷◌, ◌++◌, length, take, map, Some, refl, ap, arith}
use Rattle.std.specs.Fmt.{decimal}
use Rattle.std.specs.List.{list_all}
use Rattle.std.proofs.lemmas.Bool.{and_parts}
use Rattle.std.proofs.lemmas.Bool.Decides.{nat_tests}
use Rattle.std.proofs.lemmas.List.{length-append}
use Rattle.std.proofs.lemmas.List.Folds.{list_all-append}
use Rattle.sb_base.specs.Numbers.{eight_digits, is_word64}
use Rattle.sb_transcript.specs.Cuts.{cut, fields_after}
use Rattle.sb_transcript.specs.CommaWords.{comma_words, more_words}
use Rattle.sb_transcript.specs.Fields.{all_after, reply_fields}
use Rattle.sb_transcript.specs.Ranges.{ReplyInRange}
use Rattle.sb_transcript.specs.Reading.{words_within, ext_of, ext_at, decimal_at, status_at, reply_at}
use Rattle.sb_transcript.specs.Steps.{◌>>=◌, Read}
use Rattle.sb_transcript.specs.declared.cuts.Place.TheVariants.{Plain}
use Rattle.sb_transcript.specs.declared.read_lines.ShownReply.{ShownReply}
use Rattle.sb_transcript.proofs.NumbersBack.{decimal_back, decimal_plain, decimal_comma, decimal_some, decimal_at_back, status_at_back, status_plain}
use Rattle.sb_transcript.proofs.PassingLines.{is_plain, AllPass, plain_leads, cut_back}

word64 : (n : ℕ) → is_word64 n ≡ true → n < 2 ^ 64
word64 n h = grind (arith, nat_tests)

-- ---- extended words

-- the words after the first are the fields after commas
more_fields : (ws : List ℕ) → more_words ws ≡ all_after 44 (map decimal ws)
more_fields [] = refl
more_fields (w ∷ ws) = ap (λ l. 44 ∷ (decimal w ++ l)) (more_fields ws)

words_back : (most : ℕ) (ws : List ℕ) → length ws ≤ most → list_all is_word64 ws ≡ true → words_within most (map decimal ws) ≡ Some ws
words_back zero [] h k = refl
words_back (suc most) [] h k = refl
words_back zero (w ∷ ws) h k = absurd (omega arith)
words_back (suc most) (w ∷ ws) h k =
    let p = and_parts (is_word64 w) (list_all is_word64 ws) k in
    ap (λ o. o >>= λ word. words_within most (map decimal ws) >>= λ words. Some (word ∷ words)) (decimal_back w (word64 w p.0))
    ∙ ap (λ o. o >>= λ words. Some (w ∷ words)) (words_back most ws (omega arith) p.1)

words_pass : (ws : List ℕ) → list_all is_word64 ws ≡ true → AllPass 44 (map decimal ws)
words_pass [] h = tt
words_pass (w ∷ ws) h =
    let p = and_parts (is_word64 w) (list_all is_word64 ws) h in
    (plain_leads 44 (decimal w) (decimal_comma w (word64 w p.0)), words_pass ws p.1)

words_cut : (w : ℕ) (ws : List ℕ) → is_word64 w ≡ true → list_all is_word64 ws ≡ true → cut 44 Plain [] (decimal w ++ all_after 44 (map decimal ws)) ≡ decimal w ∷ map decimal ws
words_cut w ws h k =
    plain_leads 44 (decimal w) (decimal_comma w (word64 w h)) [] (all_after 44 (map decimal ws)) ∙ cut_back 44 (decimal w) (map decimal ws) refl (words_pass ws k)

take_front : (xs ys : List ℕ) → take (length xs) (xs ++ ys) ≡ xs
take_front [] ys = refl
take_front (x ∷ xs) ys = ap (λ zs. x ∷ zs) (take_front xs ys)

front : (xs : List ℕ) (y : ℕ) → take (length (xs ++ y ∷ []) - 1) (xs ++ y ∷ []) ≡ xs
front xs y =
    let e : length (xs ++ y ∷ []) - 1 ≡ length xs = omega (arith, length-append xs (y ∷ [])) in
    ap (λ n. take n (xs ++ y ∷ [])) e ∙ take_front xs (y ∷ [])

three : (n : ℕ) → 3 ≤ n → (n == 2) ≡ false
three n h = grind (arith, nat_tests)

inside : (xs : List ℕ) → 1 ≤ length xs → ext_of (91 ∷ (xs ++ 93 ∷ [])) ≡ words_within 7 (cut 44 Plain [] xs)
inside xs h =
    let long : 3 ≤ length (91 ∷ (xs ++ 93 ∷ [])) = omega (arith, h, length-append xs (93 ∷ [])) in
    ap (λ t. cond t (Some []) (words_within 7 (fields_after 44 (take (length (91 ∷ (xs ++ 93 ∷ [])) - 1) (91 ∷ (xs ++ 93 ∷ [])))))) (three _ long)
    ∙ ap (λ bs. words_within 7 (fields_after 44 bs)) (front (91 ∷ xs) 93)

some_first : (xs ys : List ℕ) → 1 ≤ length xs → 1 ≤ length (xs ++ ys)
some_first xs ys h = omega (arith, h, length-append xs ys)

pub ext_back : (ext : List ℕ) → length ext ≤ 7 → list_all is_word64 ext ≡ true → ext_of (91 ∷ (comma_words ext ++ 93 ∷ [])) ≡ Some ext
ext_back [] h k = refl
ext_back (w ∷ ws) h k =
    let p = and_parts (is_word64 w) (list_all is_word64 ws) k in
    ap (λ l. ext_of (91 ∷ ((decimal w ++ l) ++ 93 ∷ []))) (more_fields ws)
    ∙ inside (decimal w ++ all_after 44 (map decimal ws)) (some_first (decimal w) (all_after 44 (map decimal ws)) (decimal_some w (word64 w p.0)))
    ∙ ap (words_within 7) (words_cut w ws p.0 p.1) ∙ words_back 7 (w ∷ ws) h k

more_plain : (ws : List ℕ) → list_all is_word64 ws ≡ true → list_all (is_plain 32) (more_words ws) ≡ true
more_plain [] h = refl
more_plain (w ∷ ws) h =
    let p = and_parts (is_word64 w) (list_all is_word64 ws) h in
    list_all-append (is_plain 32) (decimal w) (more_words ws) ∙ (λ i. decimal_plain w (word64 w p.0) i && more_plain ws p.1 i)

words_plain : (ws : List ℕ) → list_all is_word64 ws ≡ true → list_all (is_plain 32) (comma_words ws) ≡ true
words_plain [] h = refl
words_plain (w ∷ ws) h =
    let p = and_parts (is_word64 w) (list_all is_word64 ws) h in
    list_all-append (is_plain 32) (decimal w) (more_words ws) ∙ (λ i. decimal_plain w (word64 w p.0) i && more_plain ws p.1 i)

ext_plain : (ws : List ℕ) → list_all is_word64 ws ≡ true → list_all (is_plain 32) (91 ∷ (comma_words ws ++ 93 ∷ [])) ≡ true
ext_plain ws h = list_all-append (is_plain 32) (comma_words ws) (93 ∷ []) ∙ (λ i. words_plain ws h i && true)

-- ---- replies

abbrev after_ext : ℕ → ℕ → ℕ → List ℕ × List (List ℕ) → Read ShownReply
after_ext outcome status handle read = Some (record { outcome = outcome; status = status; handle = handle; ext = read.0 }, read.1)

abbrev after_handle : ℕ → ℕ → ℕ × List (List ℕ) → Read ShownReply
after_handle outcome status read = ext_at read.1 >>= after_ext outcome status read.0

abbrev after_status : ℕ → ℕ × List (List ℕ) → Read ShownReply
after_status outcome read = decimal_at read.1 >>= after_handle outcome read.0

abbrev after_outcome : ℕ × List (List ℕ) → Read ShownReply
after_outcome read = status_at read.1 >>= after_status read.0

pub reply_back : (r : ShownReply) (rest : List (List ℕ)) → ReplyInRange r → reply_at (reply_fields r ++ rest) ≡ Some (r, rest)
reply_back r rest h =
    let ext_field : List ℕ = 91 ∷ (comma_words r.ext ++ 93 ∷ []) in
    ap (λ o. o >>= after_outcome) (decimal_at_back r.outcome (eight_digits r.status ∷ decimal r.handle ∷ ext_field ∷ rest) h.outcome)
    ∙ ap (λ o. o >>= after_status r.outcome) (status_at_back r.status (decimal r.handle ∷ ext_field ∷ rest) h.status)
    ∙ ap (λ o. o >>= after_handle r.outcome r.status) (decimal_at_back r.handle (ext_field ∷ rest) h.handle)
    ∙ ap (λ o. (o >>= λ ext. Some (ext, rest)) >>= after_ext r.outcome r.status r.handle) (ext_back r.ext h.few h.words)

pub reply_passes : (r : ShownReply) → ReplyInRange r → AllPass 32 (reply_fields r)
reply_passes r h = (plain_leads 32 (decimal r.outcome) (decimal_plain r.outcome h.outcome), (plain_leads 32 (eight_digits r.status) (status_plain r.status h.status), (plain_leads 32 (decimal r.handle) (decimal_plain r.handle h.handle), (plain_leads 32 (91 ∷ (comma_words r.ext ++ 93 ∷ [])) (ext_plain r.ext h.words), tt))))
