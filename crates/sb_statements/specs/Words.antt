-- Where the words of a target's channels are in a list of them all.
use Rattle.std.specs.Prelude.{ℕ, ◌+◌, ◌*◌}
use Rattle.sb_statements.specs.declared.statements.Word.{Word}

-- a channel has its state and the 64 words of a block
abbrev pub words_of_channel : ℕ
words_of_channel = 65

-- word j of channel c is at c * 65 + j
abbrev pub place_of : Word → ℕ
place_of word = word.channel * words_of_channel + word.at
