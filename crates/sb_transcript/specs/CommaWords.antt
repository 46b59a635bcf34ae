-- Numbers with commas between them.
use Rattle.std.specs.Prelude.{ℕ, List, [], ◌∷◌, ◌++◌}
use Rattle.std.specs.Fmt.{decimal}

-- the words after the first, each after a comma
abbrev pub more_words : List ℕ → List ℕ
more_words [] = []
more_words (w ∷ ws) = 44 ∷ decimal w ++ more_words ws

-- decimal numbers with commas between them
abbrev pub comma_words : List ℕ → List ℕ
comma_words [] = []
comma_words (w ∷ ws) = decimal w ++ more_words ws
