-- A call is not shorter than one that has no longer string.
use Rattle.std.proofs.Common.{◌≡◌, ◌∙◌, ◌≤◌, ◌<◌, ◌+◌, ◌/◌, ℕ, Bool, true, false, List, [], ◌∷◌, ◌&&◌, ◌||◌, eqb, ltb, length, length-append, refl, ap, sym, arith, suc, leb}
use Rattle.std.proofs.lemmas.Bool.{and_parts, false≢true}
use Rattle.std.proofs.lemmas.Bool.Decides.{nat_tests}
use Rattle.sb_block.proofs.BlockLemmas.{block_len}
use Rattle.sb_block.proofs.PackingLemmas.{packed_len}
use Rattle.sb_block.specs.Blocks.{block, content_of, contents_of}
use Rattle.sb_block.specs.Layout.{first_offset, most_words}
use Rattle.sb_call.specs.Arguments.{fit, fits, fits_kind}
use Rattle.sb_call.specs.Tags.{shape_of}
use Rattle.sb_call.specs.declared.arguments.Arg.{Arg}
use Rattle.sb_call.specs.declared.arguments.Arg.TheVariants as arg
use Rattle.sb_call.specs.declared.tags.ParamKind.{ParamKind}
use Rattle.sb_call.specs.declared.tags.ParamKind.TheVariants.{Text, Name, Num, Handle}
use Rattle.sb_cover.specs.Calls.{IsNotLonger}
use Rattle.sb_cover.specs.Choices.{units_in}
use Rattle.sb_cover.specs.Lengths.{words_in, words_of, units_of, block_words, is_shorter, NotLongerIsAsShort, SendableCallsEncode, ShortestIsSendable}

strings_up : (m n : ℕ) → m ≤ n → (m + 3) / 4 ≤ (n + 3) / 4
strings_up m n h = omega (arith, h)

words_up : (kind : ParamKind) (a b : Arg) → fits_kind kind a ≡ true → fits_kind kind b ≡ true → units_in a ≤ units_in b → words_in a ≤ words_in b
words_up kind (arg.Num m) (arg.Num n) f g h = omega arith
words_up kind (arg.Str u) (arg.Str v) f g h = strings_up (length u) (length v) h
words_up Text (arg.Num m) (arg.Str v) f g h = absurd (false≢true f)
words_up Name (arg.Num m) (arg.Str v) f g h = absurd (false≢true f)
words_up Num (arg.Num m) (arg.Str v) f g h = absurd (false≢true g)
words_up Handle (arg.Num m) (arg.Str v) f g h = absurd (false≢true g)
words_up Text (arg.Str u) (arg.Num n) f g h = absurd (false≢true g)
words_up Name (arg.Str u) (arg.Num n) f g h = absurd (false≢true g)
words_up Num (arg.Str u) (arg.Num n) f g h = absurd (false≢true f)
words_up Handle (arg.Str u) (arg.Num n) f g h = absurd (false≢true f)

all_up : (kinds : List ParamKind) (a b : List Arg) → fit kinds a ≡ true → fit kinds b ≡ true → IsNotLonger a b → (words_of a ≤ words_of b) × (units_of a ≤ units_of b)
all_up kinds [] [] f g h = (omega arith, omega arith)
all_up kinds [] (y ∷ b) f g h = absurd h
all_up kinds (x ∷ a) [] f g h = absurd h
all_up [] (x ∷ a) (y ∷ b) f g h = absurd (false≢true f)
all_up (k ∷ kinds) (x ∷ a) (y ∷ b) f g h =
    let p = and_parts (fits_kind k x) (fit kinds a) f in
    let q = and_parts (fits_kind k y) (fit kinds b) g in
    let rest = all_up kinds a b p.1 q.1 h.1 in
    let one = words_up k x y p.0 q.0 h.0 in
    (omega (arith, one, rest.0), omega (arith, h.0, rest.1))

pub not_longer_is_as_short : NotLongerIsAsShort
not_longer_is_as_short tag a b f g h =
    let up = all_up (shape_of tag) a b f g h in
    by (words_of a) (words_of b) (units_of a) (units_of b) up.0 up.1
  where
    by : (m n x y : ℕ) → m ≤ n → x ≤ y → (ltb n m || (eqb n m && ltb y x)) ≡ false
    by m n x y h k =
        let one : ltb n m ≡ false = grind (arith, nat_tests) in
        let two : ltb y x ≡ false = grind (arith, nat_tests) in
        (λ i. one i || (eqb n m && two i)) ∙ and_false (eqb n m)
      where
        and_false : (b : Bool) → (false || (b && false)) ≡ false
        and_false true = refl
        and_false false = refl

as_many : (kinds : List ParamKind) (args : List Arg) → fit kinds args ≡ true → length args ≡ length kinds
as_many [] [] f = refl
as_many [] (a ∷ args) f = absurd (false≢true f)
as_many (k ∷ kinds) [] f = absurd (false≢true f)
as_many (k ∷ kinds) (a ∷ args) f = ap suc (as_many kinds args (and_parts (fits_kind k a) (fit kinds args) f).1)

pub shortest_is_sendable : ShortestIsSendable
shortest_is_sendable tag a b f g h can =
    by (length a) (length b) (words_of a) (words_of b) (units_of a) (units_of b) (as_many (shape_of tag) a f ∙ sym (as_many (shape_of tag) b g)) h can
  where
    by : (k l m n x y : ℕ) → k ≡ l → (ltb n m || (eqb n m && ltb y x)) ≡ false → leb (16 + l + n) 64 ≡ true → leb (16 + k + m) 64 ≡ true
    by k l m n x y same h can = grind (arith, nat_tests)

content_words : (arg : Arg) → length (content_of arg) ≡ words_in arg
content_words (arg.Num number) = refl
content_words (arg.Str units) = packed_len units

contents_words : (args : List Arg) → length (contents_of args) ≡ words_of args
contents_words [] = refl
contents_words (a ∷ args) = length-append (content_of a) (contents_of args) ∙ (λ i. content_words a i + contents_words args i)

pub sendable_calls_encode : SendableCallsEncode
sendable_calls_encode tag args h =
    let long : length (block tag args 0) ≡ block_words args = block_len tag args 0 h ∙ ap (λ n. first_offset (length args) + n) (contents_words args) in
    sym (λ i. h i && leb (long i) most_words)
