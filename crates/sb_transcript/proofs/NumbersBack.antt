-- Numbers, names and words of calls are read back, and their fields hold neither blank, comma nor quote.
use Rattle.std.proofs.Common.{◌≡◌, ◌∙◌, ℕ, zero, suc, ◌+◌, ◌*◌, ◌^◌, ◌<◌, ◌≤◌, ◌==◌, nat_lt, nat_le, Bool, true, false, cond, ◌&&◌, List, [], ◌∷◌, ◌++◌, length, drop, Option, None, Some, codes, refl, ap, arith}
use Rattle.std.specs.Cmp.Lexicographic.{bytes_decides}
use Rattle.std.specs.Fmt.{decimal}
use Rattle.std.specs.List.{list_all}
use Rattle.std.proofs.lemmas.Bool.{and_parts}
use Rattle.std.proofs.lemmas.Bool.Decides.{nat_tests}
use Rattle.std.proofs.lemmas.List.Folds.{list_all-append}
use Rattle.sb_base.specs.Numbers.{hexadecimal, eight_digits}
use Rattle.sb_call.specs.CallWords.{is_word, call_word, tag_of_word}
use Rattle.sb_call.specs.ShortNames.{is_name_byte, is_short_name}
use Rattle.sb_call.specs.declared.tags.CallTag.{CallTag}
use Rattle.sb_call.specs.declared.tags.CallTag.TheVariants.{Ping, FileCreate, FileOpen, FileQuery, FileRename, PipeCreate, KeyCreate, KeyOpen, EventCreate, EventOpen, HandleClose}
use Rattle.sb_text.specs.Numbers.{is_decimal_digit, is_hexadecimal_digit, digit_of, value_from, below_2_64, are_digits, decimal_of, hexadecimal_of, number_of}
use Rattle.sb_text.proofs.NumberLaws.{decimals, hexadecimals}
use Rattle.sb_transcript.specs.Reading.{below_2_32, decimal_at, small_at, count_at, status_at, name_at}
use Rattle.sb_transcript.specs.Steps.{◌>>=◌}
use Rattle.sb_transcript.specs.Strings.{hexadecimal_value}
use Rattle.sb_transcript.proofs.PassingLines.{is_plain}

pub is_itself : (word : List ℕ) → is_word word word ≡ true
is_itself word = (bytes_decides word word).1 refl

pub call_back : (tag : CallTag) → tag_of_word (call_word tag) ≡ Some tag
call_back Ping = refl
call_back FileCreate = refl
call_back FileOpen = refl
call_back FileQuery = refl
call_back FileRename = refl
call_back PipeCreate = refl
call_back KeyCreate = refl
call_back KeyOpen = refl
call_back EventCreate = refl
call_back EventOpen = refl
call_back HandleClose = refl

pub call_plain : (tag : CallTag) → list_all (is_plain 32) (call_word tag) ≡ true
call_plain Ping = refl
call_plain FileCreate = refl
call_plain FileOpen = refl
call_plain FileQuery = refl
call_plain FileRename = refl
call_plain PipeCreate = refl
call_plain KeyCreate = refl
call_plain KeyOpen = refl
call_plain EventCreate = refl
call_plain EventOpen = refl
call_plain HandleClose = refl

-- ---- what digits are

record Picked (t : Bool) (o : Option ℕ) (n : ℕ) : Type 0 where
  test : t ≡ true
  value : o ≡ Some n

picked : (t : Bool) (o : Option ℕ) (n : ℕ) → cond t o None ≡ Some n → Picked t o n
picked true o n h = record { test = refl; value = h }
picked false o n h = absurd (cc)

all_digits : (is_digit : ℕ → Bool) (most : ℕ) (ds : List ℕ) → are_digits is_digit most ds ≡ true → list_all is_digit ds ≡ true
all_digits is_digit most ds h =
    (and_parts (nat_le 1 (length ds) && nat_le (length ds) most) (list_all is_digit ds) h).1

all_more : (p q : ℕ → Bool) → ((b : ℕ) → p b ≡ true → q b ≡ true) → (bs : List ℕ) → list_all p bs ≡ true → list_all q bs ≡ true
all_more p q f [] h = refl
all_more p q f (b ∷ bs) h =
    let k = and_parts (p b) (list_all p bs) h in
    (λ i. f b k.0 i && list_all q bs) ∙ all_more p q f bs k.1

decimal_plain_byte : (b : ℕ) → is_decimal_digit b ≡ true → is_plain 32 b ≡ true
decimal_plain_byte b h = grind (arith, nat_tests)

decimal_comma_byte : (b : ℕ) → is_decimal_digit b ≡ true → is_plain 44 b ≡ true
decimal_comma_byte b h = grind (arith, nat_tests)

hexadecimal_plain_byte : (b : ℕ) → is_hexadecimal_digit b ≡ true → is_plain 32 b ≡ true
hexadecimal_plain_byte b h = grind (arith, nat_tests)

name_plain_byte : (b : ℕ) → is_name_byte b ≡ true → is_plain 32 b ≡ true
name_plain_byte b h = grind (arith, nat_tests)

-- ---- decimal

pub decimal_back : (n : ℕ) → n < 2 ^ 64 → decimal_of (decimal n) ≡ Some n
decimal_back n h = (decimals n h).0

decimal_digits : (n : ℕ) → n < 2 ^ 64 → list_all is_decimal_digit (decimal n) ≡ true
decimal_digits n h =
    all_digits is_decimal_digit 20 (decimal n) (picked (are_digits is_decimal_digit 20 (decimal n)) (below_2_64 (value_from 10 0 (decimal n))) n (decimal_back n h)).test

some_digits : (ds : List ℕ) → are_digits is_decimal_digit 20 ds ≡ true → 1 ≤ length ds
some_digits ds h = grind (arith, nat_tests)

pub decimal_some : (n : ℕ) → n < 2 ^ 64 → 1 ≤ length (decimal n)
decimal_some n h =
    some_digits (decimal n) (picked (are_digits is_decimal_digit 20 (decimal n)) (below_2_64 (value_from 10 0 (decimal n))) n (decimal_back n h)).test

few_digits : (is_digit : ℕ → Bool) (most : ℕ) (ds : List ℕ) → are_digits is_digit most ds ≡ true → length ds ≤ most
few_digits is_digit most ds h =
    let low = (and_parts (nat_le 1 (length ds)) (nat_le (length ds) most) (and_parts (nat_le 1 (length ds) && nat_le (length ds) most) (list_all is_digit ds) h).0).1 in
    grind (arith, nat_tests, low)

pub decimal_short : (n : ℕ) → n < 2 ^ 64 → length (decimal n) ≤ 20
decimal_short n h =
    few_digits is_decimal_digit 20 (decimal n) (picked (are_digits is_decimal_digit 20 (decimal n)) (below_2_64 (value_from 10 0 (decimal n))) n (decimal_back n h)).test

pub decimal_plain : (n : ℕ) → n < 2 ^ 64 → list_all (is_plain 32) (decimal n) ≡ true
decimal_plain n h = all_more is_decimal_digit (is_plain 32) decimal_plain_byte (decimal n) (decimal_digits n h)

pub decimal_comma : (n : ℕ) → n < 2 ^ 64 → list_all (is_plain 44) (decimal n) ≡ true
decimal_comma n h = all_more is_decimal_digit (is_plain 44) decimal_comma_byte (decimal n) (decimal_digits n h)

pub below_64 : (n : ℕ) → n < 2 ^ 32 → n < 2 ^ 64
below_64 n h = omega arith

pub small_plain : (n : ℕ) → n < 2 ^ 32 → list_all (is_plain 32) (decimal n) ≡ true
small_plain n h = decimal_plain n (below_64 n h)

pub decimal_at_back : (n : ℕ) (rest : List (List ℕ)) → n < 2 ^ 64 → decimal_at (decimal n ∷ rest) ≡ Some (n, rest)
decimal_at_back n rest h = ap (λ o. o >>= λ n. Some (n, rest)) (decimal_back n h)

pub small_back : (n : ℕ) → n < 2 ^ 32 → below_2_32 n ≡ Some n
small_back n h = grind (arith, nat_tests)

pub small_at_back : (n : ℕ) (rest : List (List ℕ)) → n < 2 ^ 32 → small_at (decimal n ∷ rest) ≡ Some (n, rest)
small_at_back n rest h =
    ap (λ o. o >>= λ read. below_2_32 read.0 >>= λ n. Some (n, read.1)) (decimal_at_back n rest (below_64 n h))
    ∙ ap (λ o. o >>= λ n. Some (n, rest)) (small_back n h)

pub count_at_back : (word : List ℕ) (n : ℕ) (rest : List (List ℕ)) → n < 2 ^ 64 → count_at (word ∷ decimal n ∷ rest) ≡ Some (n, rest)
count_at_back word n rest h = decimal_at_back n rest h

-- ---- hexadecimal

hexadecimal_digits_back : (n : ℕ) → n < 2 ^ 64 → hexadecimal_of (hexadecimal n) ≡ Some n
hexadecimal_digits_back n h = hexadecimals n h

pub number_back : (n : ℕ) → n < 2 ^ 64 → number_of (48 ∷ 120 ∷ hexadecimal n) ≡ Some n
number_back n h = hexadecimals n h

hexadecimal_picked : (n : ℕ) → n < 2 ^ 64 → Picked (are_digits is_hexadecimal_digit 16 (hexadecimal n)) (below_2_64 (value_from 16 0 (hexadecimal n))) n
hexadecimal_picked n h = picked (are_digits is_hexadecimal_digit 16 (hexadecimal n)) (below_2_64 (value_from 16 0 (hexadecimal n))) n (hexadecimal_digits_back n h)

pub hexadecimal_short : (n : ℕ) → n < 2 ^ 64 → length (hexadecimal n) ≤ 16
hexadecimal_short n h = few_digits is_hexadecimal_digit 16 (hexadecimal n) (hexadecimal_picked n h).test

pub hexadecimal_plain : (n : ℕ) → n < 2 ^ 64 → list_all (is_plain 32) (hexadecimal n) ≡ true
hexadecimal_plain n h = all_more is_hexadecimal_digit (is_plain 32) hexadecimal_plain_byte (hexadecimal n) (all_digits is_hexadecimal_digit 16 (hexadecimal n) (hexadecimal_picked n h).test)

-- zeros before digits count nothing
zeros_value : (zs ds : List ℕ) → list_all (λ b. b == 48) zs ≡ true → value_from 16 0 (zs ++ ds) ≡ value_from 16 0 ds
zeros_value [] ds h = refl
zeros_value (z ∷ zs) ds h =
    let k = and_parts (z == 48) (list_all (λ b. b == 48) zs) h in
    let e : digit_of z ≡ 0 = grind (arith, nat_tests) in
    ap (λ d. value_from 16 (0 * 16 + d) (zs ++ ds)) e ∙ zeros_value zs ds k.1

drop_all_same : (p : ℕ → Bool) (n : ℕ) (xs : List ℕ) → list_all p xs ≡ true → list_all p (drop n xs) ≡ true
drop_all_same p zero xs h = h
drop_all_same p (suc n) [] h = refl
drop_all_same p (suc n) (x ∷ xs) h = drop_all_same p n xs (and_parts (p x) (list_all p xs) h).1

pub status_back : (n : ℕ) → n < 2 ^ 64 → hexadecimal_value (eight_digits n) ≡ Some n
status_back n h =
    ap below_2_64 (zeros_value (drop (length (hexadecimal n)) (codes "00000000")) (hexadecimal n) (drop_all_same (λ b. b == 48) (length (hexadecimal n)) (codes "00000000") refl))
    ∙ (hexadecimal_picked n h).value

pub status_plain : (n : ℕ) → n < 2 ^ 64 → list_all (is_plain 32) (eight_digits n) ≡ true
status_plain n h =
    list_all-append (is_plain 32) (drop (length (hexadecimal n)) (codes "00000000")) (hexadecimal n)
    ∙ (λ i. drop_all_same (is_plain 32) (length (hexadecimal n)) (codes "00000000") refl i && hexadecimal_plain n h i)

pub status_at_back : (n : ℕ) (rest : List (List ℕ)) → n < 2 ^ 64 → status_at (eight_digits n ∷ rest) ≡ Some (n, rest)
status_at_back n rest h = ap (λ o. o >>= λ n. Some (n, rest)) (status_back n h)

-- ---- names

pub name_plain : (name : List ℕ) → is_short_name name ≡ true → list_all (is_plain 32) name ≡ true
name_plain name h =
    all_more is_name_byte (is_plain 32) name_plain_byte name (and_parts (nat_lt 0 (length name) && nat_le (length name) 32) (list_all is_name_byte name) h).1

pub name_at_back : (name : List ℕ) (rest : List (List ℕ)) → is_short_name name ≡ true → name_at (name ∷ rest) ≡ Some (name, rest)
name_at_back name rest h = ap (λ t. cond t (Some name) None >>= λ name. Some (name, rest)) h
