-- The entries of one target.
use Rattle.std.specs.Prelude.{◌≡◌, ◌≢◌, ℕ, ◌==◌, Bool, List, [], ◌∷◌, ◌++◌}
use Rattle.std.specs.List.{filter}
use Rattle.sb_book.specs.declared.entries.Entry.{Entry}

-- an entry is of this target
abbrev pub is_of_target : ℕ → Entry → Bool
is_of_target target e = e.target == target

-- the entries of one target, in order
abbrev pub of_target : ℕ → List Entry → List Entry
of_target target entries = filter (is_of_target target) entries

-- of entries and others after them, a target's are its entries of the first, and after them those of the others
abbrev pub TargetsAppend : Type 0
TargetsAppend = (target : ℕ) (front rest : List Entry) → of_target target (front ++ rest) ≡ of_target target front ++ of_target target rest

-- an entry after the others is the last of its own target
abbrev pub OwnEntryIsLast : Type 0
OwnEntryIsLast = (target : ℕ) (entries : List Entry) (e : Entry) → e.target ≡ target
    → of_target target (entries ++ e ∷ []) ≡ of_target target entries ++ e ∷ []

-- and it is none of any other target
abbrev pub OtherEntriesStay : Type 0
OtherEntriesStay = (target : ℕ) (entries : List Entry) (e : Entry) → e.target ≢ target
    → of_target target (entries ++ e ∷ []) ≡ of_target target entries
