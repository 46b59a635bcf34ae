-- The laws of columns.
use Rattle.std.proofs.Common.{◌≡◌, ◌∙◌, sym, ap, ℕ, ◌+◌, ◌-◌, ◌≤◌, Bool, true, false, cond, List, [], ◌∷◌, ◌++◌, length, take, arith}
use Rattle.std.proofs.Math.Seq.{take-append_seam}
use Rattle.std.proofs.lemmas.List.{length-append, length-take}
use Rattle.std.proofs.lemmas.List.Sums.{sum_by-cons}
use Rattle.sb_text.specs.ColumnLaws.{ColumnsAreCounted, ColumnsAreWithin}
use Rattle.sb_text.specs.Columns.{before, characters, is_character}
use Rattle.sb_text.specs.declared.columns.Layout.{Layout}

-- what is before the place between two parts of a line is the first part
before_rest : (front rest : List ℕ) → before (front ++ rest) (length rest) ≡ front
before_rest front rest =
    let whole = length-append front rest in
    let n : length (front ++ rest) - length rest ≡ length front = omega (arith, whole) in
    ap (λ n. take n (front ++ rest)) n ∙ take-append_seam front rest

pub columns_counted : ColumnsAreCounted
columns_counted layout front rest = ap (λ bytes. 1 + characters layout bytes) (before_rest front rest)

count_few : (layout : Layout) (bs : List ℕ) → characters layout bs ≤ length bs
count_few layout [] = omega arith
count_few layout (b ∷ bs) =
    let more = sum_by-cons (λ b. cond (is_character layout b) 1 0) b bs in
    let first = one (is_character layout b) in
    let others = count_few layout bs in
    omega (arith, more, first, others)
  where
    one : (t : Bool) → cond t 1 0 ≤ 1
    one true = omega arith
    one false = omega arith

take_few : (n : ℕ) (bs : List ℕ) → length (take n bs) ≤ length bs
take_few n bs = grind (arith, length-take n bs)

pub columns_within : ColumnsAreWithin
columns_within layout line place =
    let most = count_few layout (before line place) in
    let within = take_few (length line - place) line in
    (omega arith, omega (arith, most, within))
