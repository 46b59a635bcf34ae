-- The names of policies and targets.
use Rattle.std.specs.Prelude.{ℕ, Bool, ◌&&◌, ◌||◌, ◌==◌, nat_lt, nat_le, List, length}
use Rattle.std.specs.List.{list_all}

-- a letter `a` to `z`, a digit or `_`
abbrev pub is_name_byte : ℕ → Bool
is_name_byte b = (nat_le 97 b && nat_le b 122) || (nat_le 48 b && nat_le b 57) || b == 95

-- 1 to 32 such characters
abbrev pub is_short_name : List ℕ → Bool
is_short_name bs = nat_lt 0 (length bs) && nat_le (length bs) 32 && list_all is_name_byte bs
