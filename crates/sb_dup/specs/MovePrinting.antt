-- How moves are written as a file.
use Rattle.std.specs.Prelude.{ℕ, ◌^◌, Bool, ◌&&◌, nat_lt, List, [], ◌∷◌, map, codes}
use Rattle.std.specs.Fmt.{decimal}
use Rattle.std.specs.List.{flat_map}
use Rattle.sb_dup.specs.declared.moves.Move.{Move}
use Rattle.sb_text.specs.PlainLines.{words_text}

-- the first line: `sandbox-moves 1`
abbrev pub version_words : List (List ℕ)
version_words = codes "sandbox-moves" ∷ codes "1" ∷ []

-- the line of a move: `move FROM HANDLE TO ACCESS`
abbrev pub move_words : Move → List (List ℕ)
move_words m = codes "move" ∷ decimal m.from ∷ decimal m.handle ∷ decimal m.to ∷ decimal m.access ∷ []

-- the file of moves
abbrev pub written : List Move → List ℕ
written moves = flat_map words_text (version_words ∷ map move_words moves)

-- numbers of targets and accesses have 32 bits, and those of handles 64, as those of every move in memory have
abbrev pub is_of_values : Move → Bool
is_of_values m = nat_lt m.from (2 ^ 32) && nat_lt m.handle (2 ^ 64) && nat_lt m.to (2 ^ 32) && nat_lt m.access (2 ^ 32)
