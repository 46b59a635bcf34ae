-- The laws of the place where bytes stop being UTF-8.
use Rattle.std.proofs.Common.{◌≡◌, ◌∙◌, refl, sym, ℕ, ◌+◌, ◌<◌, ◌==◌, nat_lt, Bool, true, false, not, cond, None, Some, Option, List, [], ◌∷◌, ◌++◌, length, take, ap, arith}
use Rattle.std.specs.Prelude.{count_by}
use Rattle.std.proofs.lemmas.Bool.Decides.{nat_tests}
use Rattle.std.proofs.lemmas.List.Sums.{sum_by-cons}
use Rattle.std.proofs.lemmas.Str.{utf8_valid_len-IsUtf8, utf8_valid_len-IsValidUpTo}
use Rattle.sb_text.proofs.Conjunctions.{both}
use Rattle.sb_text.specs.LineLaws.{is_line}
use Rattle.sb_text.specs.Columns.{characters, is_character}
use Rattle.sb_text.specs.Tokens.{by_tokens}
use Rattle.sb_text.specs.Utf8.{Place, first_place, place_after, place_past}
use Rattle.sb_text.specs.Utf8Laws.{NotUtf8PlaceTells, PlacesAreCounted}

-- the place, if the front that is UTF-8 has n bytes
abbrev place_by : List ℕ → ℕ → Option Place
place_by bs n = cond (nat_lt n (length bs)) (Some (place_after first_place (take n bs))) None

none_by : (bs : List ℕ) → place_by bs (length bs) ≡ None
none_by bs = let e : nat_lt (length bs) (length bs) ≡ false = grind (arith, nat_tests) in rw (e) refl

some_by : (bs : List ℕ) (n : ℕ) → n < length bs → place_by bs n ≡ Some (place_after first_place (take n bs))
some_by bs n h = let e : nat_lt n (length bs) ≡ true = grind (arith, nat_tests) in rw (e) refl

pub tells : NotUtf8PlaceTells
tells = (
  λ bs u. ap (place_by bs) (utf8_valid_len-IsUtf8 bs u) ∙ none_by bs,
  λ bs n v. ap (place_by bs) (utf8_valid_len-IsValidUpTo bs n v) ∙ some_by bs n v.short,
)

-- lines and columns are counted

line_past : (place : Place) (b : ℕ) → (place_past place b).line ≡ place.line + cond (b == 10) 1 0
line_past place b = by_byte (b == 10) (is_character by_tokens b)
  where
    by_byte : (lf begins : Bool)
        → (cond lf (record { line = place.line + 1; column = 1 }) (cond begins (record { line = place.line; column = place.column + 1 }) place)).line ≡ place.line + cond lf 1 0
    by_byte true begins = refl
    by_byte false true = omega arith
    by_byte false false = omega arith

line_after : (place : Place) (bs : List ℕ) → (place_after place bs).line ≡ place.line + count_by (λ b. b == 10) bs
line_after place [] = omega arith
line_after place (b ∷ bs) =
    let one = line_past place b in
    let more = sum_by-cons (λ b. cond (b == 10) 1 0) b bs in
    line_after (place_past place b) bs ∙ omega (arith, one, more)

not_true : (a : Bool) → not a ≡ true → a ≡ false
not_true false h = refl
not_true true h = sym h

column_past : (place : Place) (b : ℕ) → (b == 10) ≡ false → (place_past place b).column ≡ place.column + cond (is_character by_tokens b) 1 0
column_past place b h = rw (h) (by_byte (is_character by_tokens b))
  where
    by_byte : (begins : Bool) → (cond begins (record { line = place.line; column = place.column + 1 }) place).column ≡ place.column + cond begins 1 0
    by_byte true = refl
    by_byte false = omega arith

column_after : (place : Place) (line : List ℕ) → is_line line ≡ true → (place_after place line).column ≡ place.column + characters by_tokens line
column_after place [] h = omega arith
column_after place (b ∷ bs) h =
    let one = column_past place b (not_true (b == 10) (both _ _ h).0) in
    let more = sum_by-cons (λ b. cond (is_character by_tokens b) 1 0) b bs in
    column_after (place_past place b) bs (both _ _ h).1 ∙ omega (arith, one, more)

after_append : (place : Place) (xs ys : List ℕ) → place_after place (xs ++ ys) ≡ place_after (place_after place xs) ys
after_append place [] ys = refl
after_append place (x ∷ xs) ys = after_append (place_past place x) xs ys

pub counted : PlacesAreCounted
counted = (
  λ bs. line_after first_place bs,
  λ line h. column_after first_place line h,
  λ front line h. ap (λ (place : Place). place.column) (after_append first_place front (10 ∷ line)) ∙ column_after (place_past (place_after first_place front) 10) line h,
)
