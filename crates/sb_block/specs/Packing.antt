-- Information words, and units in words.
use Rattle.std.specs.Prelude.{ℕ, ◌+◌, ◌*◌, ◌/◌, ◌%◌, ◌^◌, List, [], ◌∷◌, take, drop, slice_index}
use Rattle.std.specs.List.{flat_map}

-- the type is the upper half
abbrev pub type_of : ℕ → ℕ
type_of word = word / 2 ^ 32

-- the offset is bits 16 to 31
abbrev pub offset_of : ℕ → ℕ
offset_of word = word / 2 ^ 16 % 2 ^ 16

-- the size is the lowest 16 bits
abbrev pub size_of : ℕ → ℕ
size_of word = word % 2 ^ 16

-- type, offset and size in one word
abbrev pub descriptor : ℕ → ℕ → ℕ → ℕ
descriptor kind offset size = size + offset * 2 ^ 16 + kind * 2 ^ 32

-- eight bytes are a word, and a part of eight bytes is one too
abbrev pub words_for : ℕ → ℕ
words_for bytes = (bytes + 7) / 8

-- the given number of words from an offset on, or as many as there are
abbrev pub part_of : ℕ → ℕ → List ℕ → List ℕ
part_of offset len words = take len (drop offset words)

-- four units in a word, the first in the lowest bits
abbrev pub unit_word : ℕ → ℕ → ℕ → ℕ → ℕ
unit_word a b c d = a + b * 2 ^ 16 + c * 2 ^ 32 + d * 2 ^ 48

-- the four units of a word
abbrev pub word_units : ℕ → List ℕ
word_units word = word % 2 ^ 16 ∷ word / 2 ^ 16 % 2 ^ 16 ∷ word / 2 ^ 32 % 2 ^ 16 ∷ word / 2 ^ 48 % 2 ^ 16 ∷ []

-- units four to a word, and zeros in what is left of the last
abbrev pub packed : List ℕ → List ℕ
packed [] = []
packed (a ∷ []) = unit_word a 0 0 0 ∷ []
packed (a ∷ b ∷ []) = unit_word a b 0 0 ∷ []
packed (a ∷ b ∷ c ∷ []) = unit_word a b c 0 ∷ []
packed (a ∷ b ∷ c ∷ d ∷ more) = unit_word a b c d ∷ packed more

-- the first units of words, the given number of them
abbrev pub unpacked : ℕ → List ℕ → List ℕ
unpacked count words = take count (flat_map word_units words)

-- the string of a descriptor: half as many units as it has bytes, from its own words
abbrev pub string_in : ℕ → List ℕ → List ℕ
string_in word words = unpacked (size_of word / 2) (part_of (offset_of word) (words_for (size_of word)) words)

-- the word at the offset of a descriptor
abbrev pub number_in : ℕ → List ℕ → ℕ
number_in word words = slice_index words (offset_of word)
