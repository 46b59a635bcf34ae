-- Copies of a block.
use Rattle.std.specs.Prelude.{ℕ, Bool, ◌&&◌, ◌==◌, nat_lt, nat_le, List, length, if◌then◌else◌}
use Rattle.sb_block.specs.Layout.{most_words, most_parameters, first_offset, mark_in, count_in}

-- a copy is the count and the end that were fetched before it, and the words that were copied
pub record Copied : Type 0 where
  pub count_seen : ℕ
  pub end_seen : ℕ
  pub words : List ℕ

-- the copy of a count, an end and words
abbrev pub copied : ℕ → ℕ → List ℕ → Copied
copied count end words = record { count_seen = count; end_seen = end; words = words }

-- a block with the given number of parameters may end there
abbrev pub is_end : ℕ → ℕ → Bool
is_end count end = nat_le (first_offset count) end && nat_le end most_words

-- after too high a count nothing more is fetched, after a bad end no words are copied, and otherwise all words up to the end
abbrev pub is_copy : Copied → Bool
is_copy c =
    if nat_lt most_parameters c.count_seen then c.end_seen == 0 && length c.words == 0
    else (if is_end c.count_seen c.end_seen then length c.words == c.end_seen
    else length c.words == 0)

-- the mark of a copy is its word 1, and 0 if there are no words
abbrev pub mark_of : Copied → ℕ
mark_of c = mark_in c.words

-- the copy of a whole block has all its words, its own count and its own length as its end
abbrev pub whole : List ℕ → Copied
whole block = copied (count_in block) (length block) block
