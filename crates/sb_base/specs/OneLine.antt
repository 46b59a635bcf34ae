-- Bytes of one line.
use Rattle.std.specs.Prelude.{ℕ, Bool, false, not, ◌&&◌, ◌==◌, List, [], ◌∷◌}

-- a byte that is no LF
abbrev pub is_no_lf : ℕ → Bool
is_no_lf b = not (b == 10)

-- whether bytes end with LF and hold no other
abbrev pub is_one_line : List ℕ → Bool
is_one_line [] = false
is_one_line (b ∷ []) = b == 10
is_one_line (b ∷ c ∷ bs) = is_no_lf b && is_one_line (c ∷ bs)
