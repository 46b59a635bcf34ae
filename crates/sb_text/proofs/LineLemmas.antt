-- The lines of a text, cut at its first LF.
use Rattle.std.proofs.Common.{inl, inr, nat_lt, ◌≡◌, ◌∙◌, ap, refl, sym, subst, suc, not, Bool, true, false, cond, ℕ, ◌+◌, ◌-◌, ◌<◌, ◌≤◌, ◌==◌, List, [], ◌∷◌, Option, None, Some, unwrap_or, length, take, drop, get_or, arith}
use Rattle.std.proofs.Math.ListN.{drop_of_length-le}
use Rattle.std.proofs.Math.Seq.{drop-length}
use Rattle.std.proofs.lemmas.List.{drop-drop, drop-take, length-drop, length-take-le, take-take}
use Rattle.std.proofs.lemmas.List.Sums.{position_or_len_is}
use Rattle.memchr.specs.Find.{IsFirstByte, is_byte}
use Rattle.sb_text.proofs.LineLaws.{lines_some}
use Rattle.std.proofs.lemmas.Grind.{common_steps}
use Rattle.std.proofs.lemmas.Bool.Decides.{leb_tells, nat_tests}
use Rattle.std.specs.List.{position_or_len}
use Rattle.std.specs.Prelude.{slice_range}
use Rattle.sb_text.specs.Lines.{raw_lines, is_ended, numbered_from, raw_lines_from}

pub lines_at_first : (bs : List ℕ) → 0 < length bs → raw_lines bs ≡ take (position_or_len (λ b. b == 10) bs) bs ∷ raw_lines (drop (position_or_len (λ b. b == 10) bs + 1) bs)
lines_at_first [] h = absurd (omega arith)
lines_at_first (b ∷ []) h = grind (arith, nat_tests, common_steps)
lines_at_first (b ∷ c ∷ bs) h = grind (arith, nat_tests, common_steps, lines_at_first (c ∷ bs))

pub lf_at_first : (bs : List ℕ) → position_or_len (λ b. b == 10) bs < length bs → get_or bs (position_or_len (λ b. b == 10) bs) 0 ≡ 10
lf_at_first [] h = absurd (omega arith)
lf_at_first (b ∷ bs) h = grind (arith, nat_tests, common_steps, lf_at_first bs)

untrue : (b : Bool) → ¬ (b ≡ true) → b ≡ false
untrue true h = absurd (h refl)
untrue false h = refl

-- what a search for LF finds, or the end
pub first_lf : (bs : List ℕ) (found : Option ℕ) → IsFirstByte (is_byte 10) bs found → unwrap_or found (length bs) ≡ position_or_len (λ b. b == 10) bs
first_lf bs None h =
    sym (position_or_len_is (λ b. b == 10) bs (length bs) 0 (omega arith) (λ k l. untrue (get_or bs k 0 == 10) (h k (omega arith) l)) (λ l. absurd (omega arith)))
first_lf bs (Some n) h =
    let first = h.0 in
    sym (position_or_len_is (λ b. b == 10) bs n 0 (omega (arith, first.high)) (λ k l. untrue (get_or bs k 0 == 10) (first.before k (omega arith) l)) (λ l. h.1))

abbrev first_end : List ℕ → ℕ
first_end bs = position_or_len (λ b. b == 10) bs

drop_more : (n b : ℕ) (bs : List ℕ) → drop (1 + n + 1) (b ∷ bs) ≡ drop (n + 1) bs
drop_more n b bs = let e : 1 + n + 1 ≡ suc (n + 1) = omega arith in ap (λ n. drop n (b ∷ bs)) e

-- if bytes follow the first LF, the last line ends as theirs does
ends_as : (bs : List ℕ) → 0 < length (drop (first_end bs + 1) bs) → is_ended bs ≡ is_ended (drop (first_end bs + 1) bs)
ends_as [] h = absurd (omega arith)
ends_as (b ∷ []) h = grind (arith, nat_tests, common_steps)
ends_as (b ∷ c ∷ bs) h = by_first (b == 10) h (ends_as (c ∷ bs))
  where
    by_first : (t : Bool) → 0 < length (drop (cond (not t) (1 + first_end (c ∷ bs)) 0 + 1) (b ∷ c ∷ bs))
        → (0 < length (drop (first_end (c ∷ bs) + 1) (c ∷ bs)) → is_ended (c ∷ bs) ≡ is_ended (drop (first_end (c ∷ bs) + 1) (c ∷ bs)))
        → is_ended (c ∷ bs) ≡ is_ended (drop (cond (not t) (1 + first_end (c ∷ bs)) 0 + 1) (b ∷ c ∷ bs))
    by_first true h e = refl
    by_first false h e =
        let d = drop_more (first_end (c ∷ bs)) b (c ∷ bs) in
        e (subst (λ (xs : List ℕ). 0 < length xs) d h) ∙ ap is_ended (sym d)

-- if none follow, the first line is the last
ends_here : (bs : List ℕ) → 0 < length bs → length (drop (first_end bs + 1) bs) ≡ 0 → is_ended bs ≡ nat_lt (length (take (first_end bs) bs)) (length bs)
ends_here [] h k = absurd (omega arith)
ends_here (b ∷ []) h k = grind (arith, nat_tests, common_steps)
ends_here (b ∷ c ∷ bs) h k = grind (arith, nat_tests, common_steps, ends_here (c ∷ bs))

is_shorter : (bs : List ℕ) (n : ℕ) → 0 < length (drop (n + 1) bs) → nat_lt (length (take n bs)) (length bs) ≡ true
is_shorter bs n h =
    let l : n < length bs = omega (arith, h, length-drop (n + 1) bs) in
    ap (λ k. nat_lt k (length bs)) (length-take-le n bs (omega (arith, l))) ∙ grind (arith, nat_tests, l)

one_more : (n : ℕ) (ends : Bool) (line : List ℕ) (lines : List (List ℕ)) → 0 < length lines
    → numbered_from n ends (line ∷ lines) ≡ record { number = n; bytes = line; is_ended = true } ∷ numbered_from (n + 1) ends lines
one_more n ends line [] h = absurd (omega arith)
one_more n ends line (next ∷ lines) h = refl

pub raw_lines_at_first : (bs : List ℕ) (n : ℕ) → 0 < length bs → raw_lines_from n bs
    ≡ record { number = n; bytes = take (position_or_len (λ b. b == 10) bs) bs; is_ended = nat_lt (length (take (position_or_len (λ b. b == 10) bs) bs)) (length bs) } ∷ raw_lines_from (n + 1) (drop (position_or_len (λ b. b == 10) bs + 1) bs)
raw_lines_at_first bs n h =
    ap (numbered_from n (is_ended bs)) (lines_at_first bs h)
    ∙ by_rest (take (first_end bs) bs) (drop (first_end bs + 1) bs) (ends_as bs) (ends_here bs h) (is_shorter bs (first_end bs))
  where
    by_rest : (line rest : List ℕ) → (0 < length rest → is_ended bs ≡ is_ended rest) → (length rest ≡ 0 → is_ended bs ≡ nat_lt (length line) (length bs))
        → (0 < length rest → nat_lt (length line) (length bs) ≡ true)
        → numbered_from n (is_ended bs) (line ∷ raw_lines rest) ≡ record { number = n; bytes = line; is_ended = nat_lt (length line) (length bs) } ∷ raw_lines_from (n + 1) rest
    by_rest line [] later here less = ap (λ ends. record { number = n; bytes = line; is_ended = ends } ∷ []) (here refl)
    by_rest line (c ∷ cs) later here less =
        one_more n (is_ended bs) line (raw_lines (c ∷ cs)) (lines_some c cs)
        ∙ ap (λ ends. record { number = n; bytes = line; is_ended = ends } ∷ numbered_from (n + 1) (is_ended bs) (raw_lines (c ∷ cs))) (sym (less (omega arith)))
        ∙ ap (λ ends. record { number = n; bytes = line; is_ended = nat_lt (length line) (length bs) } ∷ numbered_from (n + 1) ends (raw_lines (c ∷ cs))) (later (omega arith))

dropped : (xs : List ℕ) (n : ℕ) → drop (length xs - length (drop n xs)) xs ≡ drop n xs
dropped xs n = elim (leb_tells n (length xs)) [
  | inl h ↦ let e : length xs - length (drop n xs) ≡ n = omega (arith, length-drop n xs, h.1) in ap (λ k. drop k xs) e
  | inr h ↦ let e : length xs - length (drop n xs) ≡ length xs = omega (arith, length-drop n xs, h.1) in
      ap (λ k. drop k xs) e ∙ drop-length xs ∙ sym (drop_of_length-le xs (omega (arith, h.1)))
]

-- what is left of a text is what follows the bytes before it, also after more of them
pub rest_kept : (text rest : List ℕ) (n : ℕ) → drop (length text - length rest) text ≡ rest → drop (length text - length (drop n rest)) text ≡ drop n rest
rest_kept text rest n e =
    let at : drop n rest ≡ drop (length text - length rest + n) text = ap (drop n) (sym e) ∙ drop-drop n (length text - length rest) text in
    ap (λ xs. drop (length text - length xs) text) at ∙ dropped text (length text - length rest + n) ∙ sym at

-- the first bytes of a line that what is left of a text begins with, as bytes of the text
pub line_in_text : (text rest line : List ℕ) (start n : ℕ) → drop start text ≡ rest → line ≡ take (length line) rest → n ≤ length line
    → take n line ≡ slice_range text start (start + n)
line_in_text text rest line start n e f h =
    let size : start + n - start ≡ n = omega arith in
    ap (take n) f ∙ take-take n (length line) rest h ∙ ap (take n) (sym e) ∙ ap (λ k. take k (drop start text)) (sym size)

-- a text cut off at the end of a part is that part from its start on
pub cut_at_end : (text : List ℕ) (start end : ℕ) → start ≤ end → drop start (take end text) ≡ slice_range text start end
cut_at_end text start end h =
    let e : end ≡ start + (end - start) = omega arith in
    ap (λ n. drop start (take n text)) e ∙ drop-take start (end - start) text
