-- How far a string is a name. A mode is a number: 0 if no name begins so, 1 before the first unit, 2 after a `\`, 3 after a unit with which a component may
-- end, 4 after one with which it may not, and 5 if any string is accepted.
use Rattle.std.specs.Prelude.{◌≡◌, ◌==◌, ◌&&◌, ◌||◌, ℕ, Bool, List, [], ◌∷◌, if◌then◌else◌}
use Rattle.sb_base.specs.Names.{is_ordinary, is_name_of}

-- the mode of a string whose last unit is in a component
abbrev pub mode_inside : ℕ → ℕ
mode_inside u = if u == 32 || u == 46 then 4 else 3

-- the mode after a unit more
abbrev pub mode_after : ℕ → ℕ → ℕ
mode_after mode u =
    if mode == 5 then 5
    else (if u == 92 then (if mode == 1 || mode == 3 then 2 else 0)
    else (if is_ordinary u && (mode == 2 || (mode == 3 || mode == 4)) then mode_inside u else 0))

-- a string with this mode is accepted
abbrev pub is_accepting : ℕ → Bool
is_accepting mode = mode == 3 || mode == 5

-- the mode after some units
abbrev pub mode_of_word : ℕ → List ℕ → ℕ
mode_of_word mode [] = mode
mode_of_word mode (u ∷ us) = mode_of_word (mode_after mode u) us

-- a string is accepted if these units are what follows a string of this mode
abbrev pub accepts : ℕ → List ℕ → Bool
accepts mode [] = is_accepting mode
accepts mode (u ∷ us) = accepts (mode_after mode u) us

-- the strings that are accepted from the first mode are the names
abbrev pub NamesAreAccepted : Type 0
NamesAreAccepted = (us : List ℕ) → accepts 1 us ≡ is_name_of us
