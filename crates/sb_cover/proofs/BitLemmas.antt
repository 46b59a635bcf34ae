-- What is known of a number after a bit more.
use Rattle.std.specs.Prelude.{bit_and}
use Rattle.std.proofs.Common.{◌≡◌, ◌∙◌, ◌≢◌, ◌≤◌, ◌<◌, ◌+◌, ◌-◌, ◌*◌, ◌/◌, ◌%◌, ◌^◌, ℕ, zero, suc, Bool, true, false, cond, not, List, [], ◌∷◌, ◌++◌, ◌&&◌, ◌||◌, eqb, ltb, length, take, map, get_or, refl, ap, sym, subst, arith, length-append}
use Rattle.std.proofs.lemmas.Bool.{eqb-true}
use Rattle.std.proofs.lemmas.Bool.Decides.{nat_tests}
use Rattle.std.proofs.lemmas.Nat.{and_le_l, shr-shr, and_block, mod-pow-add, pow-add}
use Rattle.std.proofs.Math.Nat.{div-eq_of_lt}
use Rattle.std.proofs.lemmas.List.{get_or-map, map_more, take-append-le, take_all}
use Rattle.sb_cover.specs.Bits.{bound_code, code_of, codes_of, value_from, value_of, bits_of, IsRead}
use Rattle.sb_cover.specs.declared.bits.Comparison.{Comparison}
use Rattle.std.specs.Int.Bits.{and_zero_l}
use Rattle.sb_explore.specs.Exploring.{is_letter}

abbrev pub no_comparison : Comparison
no_comparison = record { mask = 0; bound = 0 }

-- one place to the right
half : (n left : ℕ) → n / 2 ^ (left + 1) ≡ n / 2 ^ left / 2
half n left = sym (shr-shr n left 1)

by_half : (v q b : ℕ) → b < 2 → bound_code v (q / 2) ≡ 0 → bound_code b (q % 2) ≡ bound_code (v * 2 + b) q
by_half v q b h e = grind (arith, nat_tests)

by_more : (v q b : ℕ) → b < 2 → bound_code v (q / 2) ≢ 0 → bound_code v (q / 2) ≡ bound_code (v * 2 + b) q
by_more v q b h e = grind (arith, nat_tests)

pub bound_equal : (code bound left bit v other result : ℕ) → bit < 2 → code ≡ 0 → code ≡ bound_code v (bound / 2 ^ (left + 1)) → other ≡ bound / 2 ^ left % 2
    → result ≡ bound_code bit other → result ≡ bound_code (v * 2 + bit) (bound / 2 ^ left)
bound_equal code bound left bit v other result low none e o r =
    let equal : bound_code v (bound / 2 ^ left / 2) ≡ 0 = sym (ap (bound_code v) (half bound left)) ∙ sym e ∙ none in
    r ∙ ap (bound_code bit) o ∙ by_half v (bound / 2 ^ left) bit low equal

pub bound_other : (code bound left bit v : ℕ) → bit < 2 → code ≢ 0 → code ≡ bound_code v (bound / 2 ^ (left + 1))
    → code ≡ bound_code (v * 2 + bit) (bound / 2 ^ left)
bound_other code bound left bit v low some e =
    let is : code ≡ bound_code v (bound / 2 ^ left / 2) = e ∙ ap (bound_code v) (half bound left) in
    is ∙ by_more v (bound / 2 ^ left) bit low (λ z. some (is ∙ z))

-- the bits that two numbers have together, by the last bit of each
and_bit : (v q b : ℕ) → b < 2 → bit_and (v * 2 + b) q ≡ bit_and v (q / 2) * 2 + bit_and b (q % 2)
and_bit v q b low =
    let last : q % 2 < 2 = omega arith in
    let whole : q / 2 * 2 + q % 2 ≡ q = omega arith in
    ap (bit_and (v * 2 + b)) (sym whole) ∙ and_block 1 v (q / 2) b (q % 2) low last

-- a comparison that is decided stays, and one that is not is decided by the bits at the place
masked_below : (b q : ℕ) → b < 2 → bit_and b (q % 2) < 2
masked_below b q low = let less = and_below b (q % 2) in omega (arith, less)
  where
    and_below : (x y : ℕ) → bit_and x y ≤ x
    and_below x y = and_le_l x y

by_masked : (v q b : ℕ) → b < 2 → bit_and (v * 2 + b) q ≡ bit_and v (q / 2) * 2 + bit_and b (q % 2)
by_masked v q b low = and_bit v q b low

pub code_kept : (code : ℕ) (c : Comparison) (left bit v : ℕ) → bit < 2 → code ≢ 0 → code ≡ code_of (left + 1) v c → code ≡ code_of left (v * 2 + bit) c
code_kept code c left bit v low some e =
    let q = c.mask / 2 ^ left in
    let is : code ≡ bound_code (bit_and v (q / 2)) (c.bound / 2 ^ (left + 1)) = e ∙ ap (λ m. bound_code (bit_and v m) (c.bound / 2 ^ (left + 1))) (half c.mask left) in
    bound_other code c.bound left (bit_and bit (q % 2)) (bit_and v (q / 2)) (masked_below bit q low) some is
    ∙ ap (λ n. bound_code n (c.bound / 2 ^ left)) (sym (by_masked v q bit low))

pub code_more : (code : ℕ) (c : Comparison) (left bit v masked bound result : ℕ) → bit < 2 → code ≡ 0 → masked ≡ bit_and bit (c.mask / 2 ^ left % 2) → bound ≡ c.bound / 2 ^ left % 2
    → result ≡ bound_code masked bound → code ≡ code_of (left + 1) v c → result ≡ code_of left (v * 2 + bit) c
code_more code c left bit v masked bound result low none m b r e =
    let q = c.mask / 2 ^ left in
    let is : code ≡ bound_code (bit_and v (q / 2)) (c.bound / 2 ^ (left + 1)) = e ∙ ap (λ m. bound_code (bit_and v m) (c.bound / 2 ^ (left + 1))) (half c.mask left) in
    bound_equal code c.bound left (bit_and bit (q % 2)) (bit_and v (q / 2)) bound result (masked_below bit q low) none is b (r ∙ ap (λ n. bound_code n bound) m)
    ∙ ap (λ n. bound_code n (c.bound / 2 ^ left)) (sym (by_masked v q bit low))

pub first_is : (c : Comparison) (width high result : ℕ) → high ≡ c.bound / 2 ^ width → result ≡ bound_code 0 high → result ≡ code_of width 0 c
first_is c width high result h r = r ∙ ap (bound_code 0) h ∙ ap (λ n. bound_code n (c.bound / 2 ^ width)) (sym (and_zero_l (c.mask / 2 ^ width)))

-- what is known by one comparison more
pub codes_more : (comparisons : List Comparison) (codes next : List ℕ) (left bit v place code : ℕ) → place < length comparisons
    → (codes ≡ codes_of comparisons (left + 1) v → next ≡ codes_of (take place comparisons) left (v * 2 + bit))
    → (get_or codes place 0 ≡ code_of (left + 1) v (get_or comparisons place no_comparison) → code ≡ code_of left (v * 2 + bit) (get_or comparisons place no_comparison))
    → codes ≡ codes_of comparisons (left + 1) v → next ++ code ∷ [] ≡ codes_of (take (place + 1) comparisons) left (v * 2 + bit)
codes_more comparisons codes next left bit v place code low before one are =
    let here : get_or codes place 0 ≡ code_of (left + 1) v (get_or comparisons place no_comparison) =
    ap (λ l. get_or l place 0) are ∙ get_or-map (code_of (left + 1) v) comparisons place no_comparison 0 low in
    (λ i. before are i ++ one here i ∷ []) ∙ sym (map_more (code_of left (v * 2 + bit)) comparisons place no_comparison low)

pub none_high : (number place : ℕ) → number < 2 ^ 64 → place ≡ 64 → 0 ≡ number / 2 ^ place
none_high number place low e = sym (ap (λ p. number / 2 ^ p) e ∙ div-eq_of_lt low)

pub value_longer : (word : List ℕ) (v b : ℕ) → value_from v (word ++ b ∷ []) ≡ value_from v word * 2 + b % 2
value_longer [] v b = refl
value_longer (c ∷ word) v b = value_longer word (v * 2 + c % 2) b

take_same : (width : ℕ) (word : List ℕ) (b : ℕ) → width ≤ length word → take width (word ++ b ∷ []) ≡ take width word
take_same width word b low = take-append-le {A = ℕ} width word (b ∷ []) low

pub same_head : (x y : ℕ) (xs ys : List ℕ) → x ∷ xs ≡ y ∷ ys → x ≡ y
same_head x y xs ys e = cc

pub same_tail : (x y : ℕ) (xs ys : List ℕ) → x ∷ xs ≡ y ∷ ys → xs ≡ ys
same_tail x y xs ys e = cc

-- all bits are read
pub read_full : (comparisons : List Comparison) (width : ℕ) (word : List ℕ) (left letter : ℕ) (codes state : List ℕ) → left ≡ 0 → state ≡ left ∷ codes
    → IsRead comparisons width word (left ∷ codes) → IsRead comparisons width (word ++ letter ∷ []) state
read_full comparisons width word left letter codes state none same read =
    let full : width - length word ≡ 0 = sym (same_head left (width - length word) codes (codes_of comparisons (width - length word) (value_of width word)) read) ∙ none in
    let longer : length (word ++ letter ∷ []) ≡ length word + 1 = length-append word (letter ∷ []) in
    let still : width - length (word ++ letter ∷ []) ≡ width - length word = omega (arith, full, longer) in
    let kept = take_same width word letter (omega (arith, full)) in
    same ∙ read ∙ sym (λ i. still i ∷ codes_of comparisons (still i) (value_from 0 (kept i)))

-- no more than 64 bits are left
pub read_wide : (comparisons : List Comparison) (width : ℕ) (word : List ℕ) (left letter : ℕ) (codes state : List ℕ) → 64 < left → width ≤ 64
    → IsRead comparisons width word (left ∷ codes) → IsRead comparisons width (word ++ letter ∷ []) state
read_wide comparisons width word left letter codes state wide narrow read =
    let head : left ≡ width - length word = same_head left (width - length word) codes (codes_of comparisons (width - length word) (value_of width word)) read in
    absurd (omega (arith, head))

-- a bit more is read
pub read_more : (comparisons : List Comparison) (width : ℕ) (word : List ℕ) (left letter : ℕ) (codes next state : List ℕ) → left ≢ 0
    → ((v : ℕ) → codes ≡ codes_of comparisons (left - 1 + 1) v → next ≡ codes_of comparisons (left - 1) (v * 2 + letter % 2))
    → state ≡ (left - 1) ∷ next
    → IsRead comparisons width word (left ∷ codes) → IsRead comparisons width (word ++ letter ∷ []) state
read_more comparisons width word left letter codes next state some step same read =
    let head : left ≡ width - length word = same_head left (width - length word) codes (codes_of comparisons (width - length word) (value_of width word)) read in
    let tail : codes ≡ codes_of comparisons (width - length word) (value_of width word) =
    same_tail left (width - length word) codes (codes_of comparisons (width - length word) (value_of width word)) read in
    let longer : length (word ++ letter ∷ []) ≡ length word + 1 = length-append word (letter ∷ []) in
    let one : left - 1 + 1 ≡ width - length word = omega (arith, head) in
    let fewer : left - 1 ≡ width - length (word ++ letter ∷ []) = omega (arith, head, longer) in
    let inside : length word ≤ width = omega (arith, head) in
    let inside_longer : length (word ++ letter ∷ []) ≤ width = omega (arith, head, longer) in
    let value : value_of width word * 2 + letter % 2 ≡ value_of width (word ++ letter ∷ []) =
    ap (λ l. value_from 0 l * 2 + letter % 2) (take_all width word inside) ∙ sym (value_longer word 0 letter)
    ∙ sym (ap (value_from 0) (take_all width (word ++ letter ∷ []) inside_longer)) in
    same ∙ ap (λ l. (left - 1) ∷ l) (step (value_of width word) (tail ∙ ap (λ n. codes_of comparisons n (value_of width word)) (sym one)))
    ∙ (λ i. fewer i ∷ codes_of comparisons (fewer i) (value i))

-- each state has a number
pub read_nothing : (comparisons : List Comparison) (width : ℕ) (word numbers state next : List ℕ) (letter : ℕ) → length numbers ≡ 0 → numbers ≡ state
    → IsRead comparisons width word state → IsRead comparisons width (word ++ letter ∷ []) next
read_nothing comparisons width word numbers state next letter none same read =
    let long : length numbers ≡ length ((width - length word) ∷ codes_of comparisons (width - length word) (value_of width word)) = ap length (same ∙ read) in
    absurd (omega (arith, long, none))

-- the bits of a number are its own
regroup : (v b p r : ℕ) → (v * 2 + b) * p + r ≡ v * (2 * p) + (b * p + r)
regroup v b p r = omega arith

pub bits_value : (width v n : ℕ) → value_from v (bits_of width n) ≡ v * 2 ^ width + n % 2 ^ width
bits_value zero v n = omega arith
bits_value (suc width) v n =
    let last : n / 2 ^ width % 2 % 2 ≡ n / 2 ^ width % 2 = omega arith in
    let rest : value_from v (bits_of (suc width) n) ≡ (v * 2 + n / 2 ^ width % 2) * 2 ^ width + n % 2 ^ width =
    bits_value width (v * 2 + n / 2 ^ width % 2 % 2) n ∙ ap (λ b. (v * 2 + b) * 2 ^ width + n % 2 ^ width) last in
    let split : n % 2 ^ (1 + width) ≡ n / 2 ^ width % 2 * 2 ^ width + n % 2 ^ width = mod-pow-add n 1 width in
    let power : 2 ^ (1 + width) ≡ 2 * 2 ^ width = pow-add 2 1 width in
    let same : suc width ≡ 1 + width = omega arith in
    rest ∙ regroup v (n / 2 ^ width % 2) (2 ^ width) (n % 2 ^ width) ∙ (λ i. v * (sym power i) + sym split i) ∙ ap (λ w. v * 2 ^ w + n % 2 ^ w) (sym same)

-- a bit for each unit
pub bit_for : (letters : List ℕ) → letters ≡ 0 ∷ 1 ∷ [] → (unit : ℕ) → (letter : ℕ) × (is_letter letters letter ≡ true) × (unit % 2 ≡ letter % 2)
bit_for letters e unit = by (eqb (unit % 2) 0) refl
  where
    by : (b : Bool) → eqb (unit % 2) 0 ≡ b → (letter : ℕ) × (is_letter letters letter ≡ true) × (unit % 2 ≡ letter % 2)
    by true h = (0, ap (λ l. is_letter l 0) e, eqb-true (unit % 2) 0 h)
    by false h = let one : unit % 2 ≡ 1 = grind (arith, nat_tests) in (1, ap (λ l. is_letter l 1) e, one)

-- another unit of the same parity
value_like : (word : List ℕ) (v n unit letter : ℕ) → unit % 2 ≡ letter % 2 → value_from v (take n (word ++ unit ∷ [])) ≡ value_from v (take n (word ++ letter ∷ []))
value_like [] v zero unit letter e = refl
value_like [] v (suc n) unit letter e = one n
  where
    one : (n : ℕ) → value_from v (unit ∷ take n []) ≡ value_from v (letter ∷ take n [])
    one zero = ap (λ b. v * 2 + b) e
    one (suc n) = ap (λ b. v * 2 + b) e
value_like (w ∷ word) v zero unit letter e = refl
value_like (w ∷ word) v (suc n) unit letter e = value_like word (v * 2 + w % 2) n unit letter e

pub read_like : (comparisons : List Comparison) (width unit letter : ℕ) (word next : List ℕ) → unit % 2 ≡ letter % 2 → IsRead comparisons width (word ++ letter ∷ []) next
    → IsRead comparisons width (word ++ unit ∷ []) next
read_like comparisons width unit letter word next e read =
    let long : length (word ++ letter ∷ []) ≡ length (word ++ unit ∷ []) = length-append word (letter ∷ []) ∙ sym (length-append word (unit ∷ [])) in
    read ∙ (λ i. (width - long i) ∷ codes_of comparisons (width - long i) (sym (value_like word 0 width unit letter e) i))
