-- The limits of a block, and what its words say.
use Rattle.std.specs.Prelude.{ℕ, ◌+◌, List, slice_index}
use Rattle.sb_block.specs.Packing.{offset_of, part_of}

-- a block has at most 64 words
abbrev pub most_words : ℕ
most_words = 64

-- and at most nine parameters
abbrev pub most_parameters : ℕ
most_parameters = 9

-- the reply is in words 3 to 14
abbrev pub first_reply_word : ℕ
first_reply_word = 3

abbrev pub reply_length : ℕ
reply_length = 12

-- after the reply comes a descriptor for each parameter, and then the end item
abbrev pub first_descriptor : ℕ
first_descriptor = 15

-- parameters come after the end item of a block with the given number of parameters
abbrev pub first_offset : ℕ → ℕ
first_offset count = 16 + count

-- words 0, 1 and 2: the number of the call's tag, the caller's mark, and the number of parameters
abbrev pub tag_word : List ℕ → ℕ
tag_word words = slice_index words 0

abbrev pub mark_in : List ℕ → ℕ
mark_in words = slice_index words 1

abbrev pub count_in : List ℕ → ℕ
count_in words = slice_index words 2

-- the descriptor of a parameter, from 0
abbrev pub descriptor_at : List ℕ → ℕ → ℕ
descriptor_at words i = slice_index words (first_descriptor + i)

-- the descriptors, as many as word 2 counts
abbrev pub descriptors : List ℕ → List ℕ
descriptors words = part_of first_descriptor (count_in words) words

-- the end, in words: the offset part of the end item, whose other bits are not read
abbrev pub end_in : List ℕ → ℕ
end_in words = offset_of (descriptor_at words (count_in words))
