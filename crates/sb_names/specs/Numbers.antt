-- Rows that lead to numbered objects: each number is one of those given so far, and no two rows have one.
use Rattle.std.specs.Prelude.{◌≡◌, ◌+◌, ℕ, Bool, true, ◌&&◌, nat_eq, nat_le, List, map}
use Rattle.std.specs.List.{list_all, IsDistinct}
use Rattle.sb_names.specs.Maps.{Rows, put, without}
use Rattle.sb_names.specs.Renames.{renamed_rows}

-- a number is one of those given so far, which begin with 1
abbrev pub is_given : ℕ → ℕ → Bool
is_given count number = nat_le 1 number && nat_le number count

module _ {V : Type 0} where
  pub record AreNumbered (number : V → ℕ) (count : ℕ) (rows : Rows V) : Type 0 where
    pub given : list_all (λ row. is_given count (number row.1)) rows ≡ true
    pub distinct : IsDistinct nat_eq (map (λ row. number row.1) rows)

-- a row with the next number leaves them so
abbrev pub PutsKeepNumbers : Type 0 → Type 0
PutsKeepNumbers V = (number : V → ℕ) (count : ℕ) (rows : Rows V) (name : List ℕ) (value : V) → AreNumbered number count rows
    → number value ≡ count + 1 → AreNumbered number (count + 1) (put rows name value)

-- and so does a row that is taken out
abbrev pub OutsKeepNumbers : Type 0 → Type 0
OutsKeepNumbers V = (number : V → ℕ) (count : ℕ) (rows : Rows V) (name : List ℕ) → AreNumbered number count rows
    → AreNumbered number count (without rows name)

-- and a rename
abbrev pub RenamesKeepNumbers : Type 0
RenamesKeepNumbers = (count : ℕ) (rows : Rows ℕ) (old new : List ℕ) → AreNumbered (λ n. n) count rows
    → AreNumbered (λ n. n) count (renamed_rows rows old new)
