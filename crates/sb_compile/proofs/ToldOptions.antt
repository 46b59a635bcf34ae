-- The text of options tells them.
use Rattle.std.specs.List.{list_all}
use Rattle.std.specs.Prelude.{codes}
use Rattle.std.proofs.Common.{◌≡◌, ◌∙◌, ℕ, ◌+◌, ◌<◌, Bool, true, false, cond, eqb, ◌&&◌, List, [], ◌∷◌, ◌++◌, get_or, append_assoc, refl, ap, sym, zero, suc, arith}
use Rattle.std.proofs.lemmas.Bool.{and_parts, eqb-true}
use Rattle.std.proofs.lemmas.Bool.Decides.{nat_tests}
use Rattle.std.proofs.lemmas.List.Folds.{list_all-append}
use Rattle.sb_opcode.specs.Options.{options_of, has, NEGATE, CLEAR, OR, FOLD, EXACT}
use Rattle.sb_opcode.specs.declared.options.Options.{Options}
use Rattle.sb_compile.specs.Listing.{word_if, options_text}
use Rattle.sb_compile.proofs.Splits.{apart, cancel, is_ended, is_no_quote}

abbrev second : List ℕ → ℕ
second l = get_or l 1 0

same_word : (letter : ℕ) (letters : List ℕ) (f g : Bool) (r s : List ℕ) → eqb letter letter ≡ true → eqb (second r) letter ≡ false → eqb (second s) letter ≡ false
    → word_if f (32 ∷ letter ∷ letters) ++ r ≡ word_if g (32 ∷ letter ∷ letters) ++ s → (f ≡ g) × (r ≡ s)
same_word letter letters true true r s l hr hs e = (refl, cancel (32 ∷ letter ∷ letters) r s e)
same_word letter letters true false r s l hr hs e = apart (λ t. eqb (second t) letter) ((32 ∷ letter ∷ letters) ++ r) s e l hs
same_word letter letters false true r s l hr hs e = apart (λ t. eqb (second t) letter) ((32 ∷ letter ∷ letters) ++ s) r (sym e) l hr
same_word letter letters false false r s l hr hs e = (refl, e)

-- the words of options, from the last one on, and the LF after them
abbrev from_or : Bool → List ℕ
from_or o = word_if o (codes " or") ++ 10 ∷ []

abbrev from_clear : Bool → Bool → List ℕ
from_clear c o = word_if c (codes " clear") ++ from_or o

abbrev from_negate : Bool → Bool → Bool → List ℕ
from_negate n c o = word_if n (codes " negate") ++ from_clear c o

abbrev from_exact : Bool → Bool → Bool → Bool → List ℕ
from_exact e n c o = word_if e (codes " exact") ++ from_negate n c o

abbrev from_fold : Bool → Bool → Bool → Bool → Bool → List ℕ
from_fold f e n c o = word_if f (codes " fold") ++ from_exact e n c o

no_or : eqb (second (10 ∷ [])) 111 ≡ false
no_or = refl

no_clear : (o : Bool) → eqb (second (from_or o)) 99 ≡ false
no_clear true = refl
no_clear false = refl

no_negate : (c o : Bool) → eqb (second (from_clear c o)) 110 ≡ false
no_negate true o = refl
no_negate false true = refl
no_negate false false = refl

no_exact : (n c o : Bool) → eqb (second (from_negate n c o)) 101 ≡ false
no_exact true c o = refl
no_exact false true o = refl
no_exact false false true = refl
no_exact false false false = refl

no_fold : (e n c o : Bool) → eqb (second (from_exact e n c o)) 102 ≡ false
no_fold true n c o = refl
no_fold false true c o = refl
no_fold false false true o = refl
no_fold false false false true = refl
no_fold false false false false = refl

same_flags : (f e n c o f2 e2 n2 c2 o2 : Bool) → from_fold f e n c o ≡ from_fold f2 e2 n2 c2 o2 → (f ≡ f2) × (e ≡ e2) × (n ≡ n2) × (c ≡ c2) × (o ≡ o2)
same_flags f e n c o f2 e2 n2 c2 o2 h =
    let fold = same_word 102 (codes "old") f f2 (from_exact e n c o) (from_exact e2 n2 c2 o2) refl (no_fold e n c o) (no_fold e2 n2 c2 o2) h in
    let exact = same_word 101 (codes "xact") e e2 (from_negate n c o) (from_negate n2 c2 o2) refl (no_exact n c o) (no_exact n2 c2 o2) fold.1 in
    let negate = same_word 110 (codes "egate") n n2 (from_clear c o) (from_clear c2 o2) refl (no_negate c o) (no_negate c2 o2) exact.1 in
    let clear = same_word 99 (codes "lear") c c2 (from_or o) (from_or o2) refl (no_clear o) (no_clear o2) negate.1 in
    let either = same_word 111 (codes "r") o o2 (10 ∷ []) (10 ∷ []) refl no_or no_or clear.1 in
    (fold.0, exact.0, negate.0, clear.0, either.0)

-- the text of options and the LF after it
abbrev pub options_end : Options → List ℕ
options_end options = from_fold (has options FOLD) (has options EXACT) (has options NEGATE) (has options CLEAR) (has options OR)

joined : (a b c d e z : List ℕ) → (a ++ b ++ c ++ d ++ e) ++ z ≡ a ++ (b ++ (c ++ (d ++ (e ++ z))))
joined a b c d e z =
    append_assoc (a ++ b ++ c ++ d) e z ∙ append_assoc (a ++ b ++ c) d (e ++ z) ∙ append_assoc (a ++ b) c (d ++ (e ++ z)) ∙ append_assoc a b (c ++ (d ++ (e ++ z)))

pub options_end_is : (options : Options) → options_text options ++ 10 ∷ [] ≡ options_end options
options_end_is options =
    joined (word_if (has options FOLD) (codes " fold")) (word_if (has options EXACT) (codes " exact")) (word_if (has options NEGATE) (codes " negate"))
    (word_if (has options CLEAR) (codes " clear")) (word_if (has options OR) (codes " or")) (10 ∷ [])

ended : (f e n c o : Bool) → is_ended (from_fold f e n c o) ≡ true
ended true e n c o = refl
ended false true n c o = refl
ended false false true c o = refl
ended false false false true o = refl
ended false false false false true = refl
ended false false false false false = refl

pub options_ended : (options : Options) → is_ended (options_end options) ≡ true
options_ended options = ended (has options FOLD) (has options EXACT) (has options NEGATE) (has options CLEAR) (has options OR)

no_quotes : (b : Bool) (word rest : List ℕ) → list_all is_no_quote word ≡ true → list_all is_no_quote rest ≡ true → list_all is_no_quote (word_if b word ++ rest) ≡ true
no_quotes true word rest hw hr = list_all-append is_no_quote word rest ∙ (λ i. hw i && hr i)
no_quotes false word rest hw hr = hr

pub options_have_no_quote : (options : Options) → list_all is_no_quote (options_end options) ≡ true
options_have_no_quote options =
    let either = no_quotes (has options OR) (codes " or") (10 ∷ []) refl refl in
    let clear = no_quotes (has options CLEAR) (codes " clear") (from_or (has options OR)) refl either in
    let negate = no_quotes (has options NEGATE) (codes " negate") (from_clear (has options CLEAR) (has options OR)) refl clear in
    let exact = no_quotes (has options EXACT) (codes " exact") (from_negate (has options NEGATE) (has options CLEAR) (has options OR)) refl negate in
    no_quotes (has options FOLD) (codes " fold") (from_exact (has options EXACT) (has options NEGATE) (has options CLEAR) (has options OR)) refl exact

-- a test holds of each number below a bound
abbrev pub all_below : (ℕ → Bool) → ℕ → Bool
all_below test zero = true
all_below test (suc n) = test n && all_below test n

pub below_all : (test : ℕ → Bool) (k n : ℕ) → all_below test k ≡ true → n < k → test n ≡ true
below_all test zero n h l = absurd (omega (arith, l))
below_all test (suc k) n h l =
    let p = and_parts (test k) (all_below test k) h in
    by (eqb n k) refl p.0 (λ less. below_all test k n p.1 less)
  where
    by : (b : Bool) → eqb n k ≡ b → test k ≡ true → (n < k → test n ≡ true) → test n ≡ true
    by true e here later = ap test (eqb-true n k e) ∙ here
    by false e here later = later (grind (arith, nat_tests))

abbrev bit_if : Bool → ℕ → ℕ
bit_if b n = cond b n 0

-- the number whose options are these
abbrev bits : Bool → Bool → Bool → Bool → Bool → ℕ
bits f e n c o = bit_if f 8 + (bit_if e 16 + (bit_if n 1 + (bit_if c 2 + bit_if o 4)))

abbrev bits_in : Options → ℕ
bits_in options = bits (has options FOLD) (has options EXACT) (has options NEGATE) (has options CLEAR) (has options OR)

bits_are : (n : ℕ) → n < 32 → bits_in (options_of n) ≡ n
bits_are n h = eqb-true (bits_in (options_of n)) n (below_all (λ k. eqb (bits_in (options_of k)) k) 32 n refl h)

-- options that are written alike are the same
pub same_options : (a b : Options) → a.0 < 32 → b.0 < 32 → options_end a ≡ options_end b → a ≡ b
same_options a b ha hb e =
    let p = same_flags (has a FOLD) (has a EXACT) (has a NEGATE) (has a CLEAR) (has a OR) (has b FOLD) (has b EXACT) (has b NEGATE) (has b CLEAR) (has b OR) e in
    let same : a.0 ≡ b.0 = sym (bits_are a.0 ha) ∙ (λ i. bits (p.0 i) (p.1 i) (p.2 i) (p.3 i) (p.4 i)) ∙ bits_are b.0 hb in
    ap options_of same
