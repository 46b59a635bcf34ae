-- What is known of blocks.
use Rattle.std.proofs.Common.{◌≡◌, ℕ, ◌+◌, ◌/◌, ◌*◌, ◌≤◌, ◌<◌, ◌^◌, ◌%◌, List, [], ◌∷◌, ◌++◌, Bool, true, false, length, length-append, take, arith, refl, sym, ap, ◌∙◌, append_assoc}
use Rattle.std.proofs.Math.Seq.{take-append_seam, get_or-append_seam}
use Rattle.std.proofs.lemmas.Bool.{and_parts, false≢true}
use Rattle.std.proofs.lemmas.Bool.Decides.{nat_tests}
use Rattle.std.specs.Prelude.{nat_le, slice_index}
use Rattle.sb_call.specs.Arguments.{fit, fits, fits_kind}
use Rattle.sb_call.specs.Tags.{shape_of}
use Rattle.sb_call.specs.declared.tags.CallTag.{CallTag}
use Rattle.sb_call.specs.declared.tags.ParamKind.{ParamKind}
use Rattle.sb_call.specs.declared.tags.ParamKind.TheVariants as kind
use Rattle.sb_call.specs.declared.arguments.Arg.{Arg}
use Rattle.sb_call.specs.declared.arguments.Arg.TheVariants as arg
use Rattle.sb_block.specs.Packing.{type_of, offset_of, size_of, descriptor, words_for, unit_word, word_units}
use Rattle.sb_block.specs.Blocks.{block, bytes_of, content_of, contents_of, descriptors_of, end_offset}
use Rattle.sb_block.specs.Layout.{first_offset}
use Rattle.sb_block.proofs.PackingLemmas.{packed_len}

-- there are as many descriptors as arguments that fit
pub descriptors_len : (at : ℕ) (kinds : List ParamKind) (args : List Arg) → fit kinds args ≡ true
    → length (descriptors_of at kinds args) ≡ length args
descriptors_len at [] [] h = refl
descriptors_len at [] (a ∷ args) h = absurd (false≢true h)
descriptors_len at (k ∷ kinds) [] h = absurd (false≢true h)
descriptors_len at (k ∷ kinds) (a ∷ args) h =
    omega (arith, descriptors_len (at + length (content_of a)) kinds args (and_parts (fits_kind k a) (fit kinds args) h).1)

-- a block has as many words as its end says
pub block_len : (tag : CallTag) (args : List Arg) (mark : ℕ) → fits tag args ≡ true
    → length (block tag args mark) ≡ end_offset args
block_len tag args mark h =
    omega (
      arith,
      length-append (descriptors_of (first_offset (length args)) (shape_of tag) args) (end_offset args * 2 ^ 16 ∷ contents_of args),
      descriptors_len (first_offset (length args)) (shape_of tag) args h,
    )

-- what the three parts of a descriptor are
pub type_back : (t o s : ℕ) → o < 2 ^ 16 → s < 2 ^ 16 → type_of (descriptor t o s) ≡ t
type_back t o s ho hs = omega arith

pub offset_back : (t o s : ℕ) → o < 2 ^ 16 → s < 2 ^ 16 → offset_of (descriptor t o s) ≡ o
offset_back t o s ho hs = omega arith

pub size_back : (t o s : ℕ) → o < 2 ^ 16 → s < 2 ^ 16 → size_of (descriptor t o s) ≡ s
size_back t o s ho hs = omega arith

-- an argument's content needs as many words as its bytes do
pub content_words : (k : ParamKind) (a : Arg) → words_for (bytes_of k a) ≡ length (content_of a)
content_words k (arg.Str us) = omega (arith, packed_len us)
content_words kind.Handle (arg.Num n) = refl
content_words kind.Num (arg.Num n) = refl
content_words kind.Text (arg.Num n) = refl
content_words kind.Name (arg.Num n) = refl

-- an argument whose content is short has few bytes
pub bytes_small : (k : ParamKind) (a : Arg) → length (content_of a) ≤ 64 → bytes_of k a < 2 ^ 16
bytes_small k (arg.Str us) h = omega (arith, packed_len us)
bytes_small kind.Handle (arg.Num n) h = omega arith
bytes_small kind.Num (arg.Num n) h = omega arith
bytes_small kind.Text (arg.Num n) h = omega arith
bytes_small kind.Name (arg.Num n) h = omega arith

-- the four units of a word that was made of four units
pub four_back : (a b c d : ℕ) → a < 2 ^ 16 → b < 2 ^ 16 → c < 2 ^ 16 → d < 2 ^ 16
    → word_units (unit_word a b c d) ≡ a ∷ b ∷ c ∷ d ∷ []
four_back a b c d ha hb hc hd =
    let first : unit_word a b c d % 2 ^ 16 ≡ a = omega arith in
    let second : unit_word a b c d / 2 ^ 16 % 2 ^ 16 ≡ b = omega arith in
    let third : unit_word a b c d / 2 ^ 32 % 2 ^ 16 ≡ c = omega arith in
    let fourth : unit_word a b c d / 2 ^ 48 % 2 ^ 16 ≡ d = omega arith in
    rw (first, second, third, fourth)

-- what is not small makes a block of more than 64 words
pub too_long : (n m b : ℕ) (r : Bool) → b ≡ 16 + n + m → r ≡ false → r ≡ nat_le (16 + n + m) 64 → 64 < b
too_long n m b r e h t = grind (arith, nat_tests)

-- and what is small makes one of at most 64
pub enough_room : (n m b : ℕ) (r : Bool) → b ≡ 16 + n + m → r ≡ true → r ≡ nat_le (16 + n + m) 64 → b ≤ 64
enough_room n m b r e h t = grind (arith, nat_tests)

-- the parts of a block, put one after the other
pub assembled : (o i c w v u t : List ℕ) (e : ℕ) → t ≡ o → u ≡ t ++ i → w ≡ u ++ (e ∷ []) → v ≡ w ++ c → v ≡ o ++ (i ++ (e ∷ c))
assembled o i c w v u t e a b h k = k ∙ (ap (λ x. x ++ c) (h ∙ ap (λ x. x ++ (e ∷ [])) (b ∙ ap (λ x. x ++ i) a)) ∙ simp append_assoc)

-- what is at the front is taken, and what is after it is found
pub taken_front : (xs ys : List ℕ) (n : ℕ) → length xs ≡ n → take n (xs ++ ys) ≡ xs
taken_front xs ys n h = rw (sym h) (take-append_seam xs ys)

pub found_after : (xs ys : List ℕ) (x n : ℕ) → length xs ≡ n → slice_index (xs ++ (x ∷ ys)) n ≡ x
found_after xs ys x n h = rw (sym h) (get_or-append_seam xs x ys 0)
