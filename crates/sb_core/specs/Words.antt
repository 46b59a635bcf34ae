-- The channel words of a target: for each channel its state, and then the 64 words of its block.
use Rattle.std.specs.Prelude.{ℕ, zero, suc, ◌/◌, ◌<◌, Bool, false, ◌||◌, ◌==◌, if◌then◌else◌, List, [], ◌∷◌, ◌++◌, length, replicate, slice_index, slice_index_or, slice_set}
use Rattle.std.specs.List.{list_any}
use Rattle.sb_actor.specs.Acts.{free, ready}
use Rattle.sb_actor.specs.Moves.{at}
use Rattle.sb_statements.specs.Words.{place_of, words_of_channel}
use Rattle.sb_statements.specs.declared.statements.Word.{Word}
use Rattle.sb_block.specs.Layout.{most_words}

-- nobody uses the channel, and each word of its block is 0
abbrev pub free_channel : List ℕ
free_channel = free ∷ replicate most_words 0

-- the words of this many channels at the start
abbrev pub free_channels : ℕ → List ℕ
free_channels zero = []
free_channels (suc n) = free_channels n ++ free_channel

-- what a word holds
abbrev pub loaded : List ℕ → Word → ℕ
loaded words word = slice_index words (place_of word)

-- the words with a value stored into one of them
abbrev pub stored : List ℕ → Word → ℕ → List ℕ
stored words word value = slice_set words (place_of word) value

-- the value of a word after an exchange that found this one: another than `from` stays
abbrev pub exchanged : ℕ → ℕ → ℕ → ℕ
exchanged found from to = if found == from then to else found

-- one of the first n channels is ready
abbrev pub is_ready_below : ℕ → List ℕ → Bool
is_ready_below zero words = false
is_ready_below (suc n) words = slice_index words (at n 0) == ready || is_ready_below n words

-- a channel of the target is ready
abbrev pub has_ready : List ℕ → Bool
has_ready words = is_ready_below (length words / words_of_channel) words

-- a channel of some target is ready
abbrev pub some_ready : List (List ℕ) → Bool
some_ready words = list_any has_ready words

-- the words of a target; one that is not there has none
abbrev pub words_of : List (List ℕ) → ℕ → List ℕ
words_of words target = slice_index_or words target []

-- The target, its channel and the word of the channel are there, each number below its own bound: there are at most 8 targets of at most 8 channels, each of 65 words
pub record IsWordThere (words : List (List ℕ)) (t : ℕ) (word : Word) : Type 0 where
  pub target : t < 8
  pub channel : word.channel < 8
  pub low : word.at < words_of_channel
  pub listed : t < length words
  pub inside : place_of word < length (words_of words t)
