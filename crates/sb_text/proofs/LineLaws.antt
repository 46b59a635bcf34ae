-- The laws of lines.
use Rattle.std.proofs.Common.{map, ◌≡◌, ◌∙◌, ℕ, suc, ◌+◌, ◌<◌, ◌≤◌, ◌==◌, Bool, true, false, not, cond, ◌&&◌, nat_le, List, [], ◌∷◌, ◌++◌, length, take, slice_index, nat_lt, ◌-◌, ap, refl, arith}
use Rattle.std.proofs.lemmas.Bool.{false≢true}
use Rattle.std.proofs.lemmas.List.{append_assoc, length-append}
use Rattle.std.proofs.Math.Seq.{get_or-append_seam, take-append_seam}
use Rattle.std.proofs.lemmas.List.Sums.{sum_by-cons}
use Rattle.std.proofs.lemmas.Bool.Decides.{nat_tests}
use Rattle.std.specs.Prelude.{count_by}
use Rattle.std.specs.List.{flat_map, list_all, onto_first}
use Rattle.sb_text.specs.Lines.{raw_lines, is_ended, is_skipped, has_cr, without_cr, numbered_from, raw_lines_from, lines_from}
use Rattle.sb_text.proofs.Conjunctions.{both, and_true}
use Rattle.sb_text.specs.LineLaws.{WrittenRawLinesAreRead, RawLinesAreLines, is_line, ended, whole, WrittenLinesAreRead, LinesHoldNoLf, RawLinesJoin, LinesAreCounted, LinesAppend, SayingLinesAppend, NumbersAreWithin, OneCrIsDropped, OtherEndsAreKept}

-- a line and its LF before other bytes
line_first : (line rest : List ℕ) → is_line line ≡ true → raw_lines (line ++ 10 ∷ rest) ≡ line ∷ raw_lines rest
line_first [] rest h = refl
line_first (b ∷ line) rest h = by_first (b == 10) (both _ _ h).0 (line_first line rest (both _ _ h).1)
  where
    by_first : (t : Bool) → not t ≡ true → raw_lines (line ++ 10 ∷ rest) ≡ line ∷ raw_lines rest
        → cond t ([] ∷ raw_lines (line ++ 10 ∷ rest)) (onto_first b (raw_lines (line ++ 10 ∷ rest))) ≡ (b ∷ line) ∷ raw_lines rest
    by_first true k e = absurd (false≢true k)
    by_first false k e = ap (onto_first b) e

pub written_lines : WrittenLinesAreRead
written_lines [] h = refl
written_lines (line ∷ lines) h =
    ap raw_lines (append_assoc line (10 ∷ []) (flat_map ended lines))
    ∙ line_first line (flat_map ended lines) (both _ _ h).0
    ∙ ap (λ ls. line ∷ ls) (written_lines lines (both _ _ h).1)

ended_ends : (front : List ℕ) (rest : List ℕ) → is_ended rest ≡ true → is_ended (front ++ 10 ∷ rest) ≡ true
ended_ends [] [] h = refl
ended_ends [] (c ∷ rest) h = h
ended_ends (b ∷ []) rest h = ended_ends [] rest h
ended_ends (b ∷ c ∷ front) rest h = ended_ends (c ∷ front) rest h

all_ended : (lines : List (List ℕ)) → is_ended (flat_map ended lines) ≡ true
all_ended [] = refl
all_ended (line ∷ lines) =
    ap is_ended (append_assoc line (10 ∷ []) (flat_map ended lines)) ∙ ended_ends line (flat_map ended lines) (all_ended lines)

pub written_raw_lines : WrittenRawLinesAreRead
written_raw_lines lines h =
    ap (λ ends. numbered_from 1 ends (raw_lines (flat_map ended lines))) (all_ended lines) ∙ ap (numbered_from 1 true) (written_lines lines h)

numbered_bytes : (n : ℕ) (ends : Bool) (lines : List (List ℕ)) → map (λ line. line.bytes) (numbered_from n ends lines) ≡ lines
numbered_bytes n ends [] = refl
numbered_bytes n ends (line ∷ []) = refl
numbered_bytes n ends (line ∷ next ∷ lines) = ap (λ ls. line ∷ ls) (numbered_bytes (n + 1) ends (next ∷ lines))

pub raw_bytes : RawLinesAreLines
raw_bytes bs = numbered_bytes 1 (is_ended bs) (raw_lines bs)

onto_holds : (b : ℕ) (lines : List (List ℕ)) → not (b == 10) ≡ true → list_all is_line lines ≡ true → list_all is_line (onto_first b lines) ≡ true
onto_holds b [] k h = rw (k) refl
onto_holds b (line ∷ lines) k h = rw (k) h

pub no_lf : LinesHoldNoLf
no_lf [] = refl
no_lf (b ∷ bs) = by_first (b == 10) refl (no_lf bs)
  where
    by_first : (t : Bool) → (b == 10) ≡ t → list_all is_line (raw_lines bs) ≡ true → list_all is_line (cond t ([] ∷ raw_lines bs) (onto_first b (raw_lines bs))) ≡ true
    by_first true k e = e
    by_first false k e = onto_holds b (raw_lines bs) (ap not k) e

onto_some : (b : ℕ) (xs : List (List ℕ)) → 0 < length (onto_first b xs)
onto_some b [] = omega arith
onto_some b (x ∷ xs) = omega arith

pub lines_some : (b : ℕ) (bs : List ℕ) → 0 < length (raw_lines (b ∷ bs))
lines_some b bs = by_first (b == 10)
  where
    by_first : (t : Bool) → 0 < length (cond t ([] ∷ raw_lines bs) (onto_first b (raw_lines bs)))
    by_first true = omega arith
    by_first false = onto_some b (raw_lines bs)

ten : (b : ℕ) → (b == 10) ≡ true → 10 ≡ b
ten b k = grind (arith, nat_tests)

whole_onto : (n b : ℕ) (ends : Bool) (lines : List (List ℕ)) → 0 < length lines
    → flat_map whole (numbered_from n ends (onto_first b lines)) ≡ b ∷ flat_map whole (numbered_from n ends lines)
whole_onto n b ends [] h = absurd (omega arith)
whole_onto n b true (line ∷ []) h = refl
whole_onto n b false (line ∷ []) h = refl
whole_onto n b ends (line ∷ next ∷ lines) h = refl

whole_behind : (n : ℕ) (ends : Bool) (lines : List (List ℕ)) → 0 < length lines
    → flat_map whole (numbered_from n ends ([] ∷ lines)) ≡ 10 ∷ flat_map whole (numbered_from (n + 1) ends lines)
whole_behind n ends [] h = absurd (omega arith)
whole_behind n ends (line ∷ lines) h = refl

joined_from : (n : ℕ) (bs : List ℕ) → flat_map whole (raw_lines_from n bs) ≡ bs
joined_from n [] = refl
joined_from n (b ∷ []) = by_first (b == 10) refl
  where
    by_first : (t : Bool) → (b == 10) ≡ t → flat_map whole (numbered_from n t (cond t ([] ∷ []) ((b ∷ []) ∷ []))) ≡ b ∷ []
    by_first true k = ap (λ x. x ∷ []) (ten b k)
    by_first false k = refl
joined_from n (b ∷ c ∷ bs) = by_first (b == 10) refl (joined_from (n + 1) (c ∷ bs)) (joined_from n (c ∷ bs))
  where
    by_first : (t : Bool) → (b == 10) ≡ t → flat_map whole (raw_lines_from (n + 1) (c ∷ bs)) ≡ c ∷ bs → flat_map whole (raw_lines_from n (c ∷ bs)) ≡ c ∷ bs
        → flat_map whole (numbered_from n (is_ended (c ∷ bs)) (cond t ([] ∷ raw_lines (c ∷ bs)) (onto_first b (raw_lines (c ∷ bs))))) ≡ b ∷ c ∷ bs
    by_first true k e f = whole_behind n (is_ended (c ∷ bs)) (raw_lines (c ∷ bs)) (lines_some c bs) ∙ ap (λ l. 10 ∷ l) e ∙ ap (λ x. x ∷ c ∷ bs) (ten b k)
    by_first false k e f = whole_onto n b (is_ended (c ∷ bs)) (raw_lines (c ∷ bs)) (lines_some c bs) ∙ ap (λ l. b ∷ l) f

pub joined : RawLinesJoin
joined bs = joined_from 1 bs

plus_zero : (n : ℕ) → n ≡ n + 0
plus_zero n = omega arith

plus_one : (n k : ℕ) → n + 1 + k ≡ n + suc k
plus_one n k = omega arith

between : (low n high : ℕ) → low ≤ n → n ≤ high → (nat_le low n && nat_le n high) ≡ true
between low n high h k = grind (arith, nat_tests)

some_lines : (front : List ℕ) → 0 < length (raw_lines (ended front))
some_lines [] = omega arith
some_lines (b ∷ front) = by_first (b == 10) (some_lines front)
  where
    by_first : (t : Bool) → 0 < length (raw_lines (ended front)) → 0 < length (cond t ([] ∷ raw_lines (ended front)) (onto_first b (raw_lines (ended front))))
    by_first true h = omega arith
    by_first false h = onto_some b (raw_lines (ended front))

onto_append : (b : ℕ) (xs ys : List (List ℕ)) → 0 < length xs → onto_first b (xs ++ ys) ≡ onto_first b xs ++ ys
onto_append b [] ys h = absurd (omega arith)
onto_append b (x ∷ xs) ys h = refl

pub append : LinesAppend
append [] rest = refl
append (b ∷ front) rest = by_first (b == 10) (append front rest)
  where
    by_first : (t : Bool) → raw_lines (ended front ++ rest) ≡ raw_lines (ended front) ++ raw_lines rest
        → cond t ([] ∷ raw_lines (ended front ++ rest)) (onto_first b (raw_lines (ended front ++ rest)))
        ≡ cond t ([] ∷ raw_lines (ended front)) (onto_first b (raw_lines (ended front))) ++ raw_lines rest
    by_first true e = ap (λ ls. [] ∷ ls) e
    by_first false e = ap (onto_first b) e ∙ onto_append b (raw_lines (ended front)) (raw_lines rest) (some_lines front)

from_append : (n : ℕ) (xs ys : List (List ℕ)) → lines_from n (xs ++ ys) ≡ lines_from n xs ++ lines_from (n + length xs) ys
from_append n [] ys = ap (λ k. lines_from k ys) (plus_zero n)
from_append n (x ∷ xs) ys = by_skip (is_skipped (without_cr x)) (from_append (n + 1) xs ys ∙ ap (λ k. lines_from (n + 1) xs ++ lines_from k ys) (plus_one n (length xs)))
  where
    by_skip : (t : Bool) → lines_from (n + 1) (xs ++ ys) ≡ lines_from (n + 1) xs ++ lines_from (n + length (x ∷ xs)) ys
        → cond t (lines_from (n + 1) (xs ++ ys)) (record { number = n; text = without_cr x } ∷ lines_from (n + 1) (xs ++ ys))
        ≡ cond t (lines_from (n + 1) xs) (record { number = n; text = without_cr x } ∷ lines_from (n + 1) xs) ++ lines_from (n + length (x ∷ xs)) ys
    by_skip true e = e
    by_skip false e = ap (λ ls. record { number = n; text = without_cr x } ∷ ls) e

pub saying_append : SayingLinesAppend
saying_append front rest = ap (lines_from 1) (append front rest) ∙ from_append 1 (raw_lines (ended front)) (raw_lines rest)

length_onto : (b : ℕ) (xs : List (List ℕ)) → 0 < length xs → length (onto_first b xs) ≡ length xs
length_onto b [] h = absurd (omega arith)
length_onto b (x ∷ xs) h = refl

pub counted : LinesAreCounted
counted [] = refl
counted (b ∷ []) = by_first (b == 10) refl
  where
    by_first : (t : Bool) → (b == 10) ≡ t → length (cond t ([] ∷ []) ((b ∷ []) ∷ [])) ≡ count_by (λ x. x == 10) (b ∷ []) + cond t 0 1
    by_first true k = omega (arith, sum_by-cons (λ x. cond (x == 10) 1 0) b [], ap {B = ℕ} (λ t. cond t 1 0) k)
    by_first false k = omega (arith, sum_by-cons (λ x. cond (x == 10) 1 0) b [], ap {B = ℕ} (λ t. cond t 1 0) k)
counted (b ∷ c ∷ bs) = by_first (b == 10) refl (counted (c ∷ bs))
  where
    by_first : (t : Bool) → (b == 10) ≡ t → length (raw_lines (c ∷ bs)) ≡ count_by (λ x. x == 10) (c ∷ bs) + cond (is_ended (c ∷ bs)) 0 1
        → length (cond t ([] ∷ raw_lines (c ∷ bs)) (onto_first b (raw_lines (c ∷ bs)))) ≡ count_by (λ x. x == 10) (b ∷ c ∷ bs) + cond (is_ended (c ∷ bs)) 0 1
    by_first true k e = omega (arith, e, sum_by-cons (λ x. cond (x == 10) 1 0) b (c ∷ bs), ap {B = ℕ} (λ t. cond t 1 0) k)
    by_first false k e = omega (arith, e, length_onto b (raw_lines (c ∷ bs)) (lines_some c bs), sum_by-cons (λ x. cond (x == 10) 1 0) b (c ∷ bs), ap {B = ℕ} (λ t. cond t 1 0) k)

pub within_from : (n : ℕ) (lines : List (List ℕ)) (low high : ℕ) → low ≤ n → n + length lines ≤ high + 1 → list_all (λ line. nat_le low line.number && nat_le line.number high) (lines_from n lines) ≡ true
within_from n [] low high h k = refl
within_from n (line ∷ lines) low high h k = by_skip (is_skipped (without_cr line)) (within_from (n + 1) lines low high (omega arith) (omega arith))
  where
    by_skip : (t : Bool) → list_all (λ line. nat_le low line.number && nat_le line.number high) (lines_from (n + 1) lines) ≡ true
        → list_all (λ line. nat_le low line.number && nat_le line.number high) (cond t (lines_from (n + 1) lines) (record { number = n; text = without_cr line } ∷ lines_from (n + 1) lines)) ≡ true
    by_skip true e = e
    by_skip false e = and_true _ _ (between low n high h (omega arith)) e

pub within : NumbersAreWithin
within bs = within_from 1 (raw_lines bs) 1 (length (raw_lines bs)) (omega arith) (omega arith)

length_more : (line : List ℕ) (b : ℕ) → length (line ++ b ∷ []) - 1 ≡ length line
length_more line b = omega (arith, length-append line (b ∷ []))

has_more : (line : List ℕ) (b : ℕ) → has_cr (line ++ b ∷ []) ≡ (b == 13)
has_more line b =
    let last = ap (λ n. slice_index (line ++ b ∷ []) n) (length_more line b) ∙ get_or-append_seam line b [] 0 in
    let some : 0 < length (line ++ b ∷ []) = omega (arith, length-append line (b ∷ [])) in
    let test : nat_lt 0 (length (line ++ b ∷ [])) ≡ true = grind (arith, nat_tests) in
    ap (λ t. t && (slice_index (line ++ b ∷ []) (length (line ++ b ∷ []) - 1) == 13)) test ∙ ap (λ c. c == 13) last

pub one_cr : OneCrIsDropped
one_cr line = let e : has_cr (line ++ 13 ∷ []) ≡ true = has_more line 13 in rw (e) (ap (λ n. take n (line ++ 13 ∷ [])) (length_more line 13) ∙ take-append_seam line (13 ∷ []))

pub other_ends : OtherEndsAreKept
other_ends line b h = let e : has_cr (line ++ b ∷ []) ≡ false = has_more line b ∙ h in rw (e) refl
