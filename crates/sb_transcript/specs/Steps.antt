-- Reading fields from left to right.
use Rattle.std.specs.Prelude.{◌≡◌, ⊤, ℕ, List, [], ◌∷◌, Option, None, Some, Result, Ok, Err}
use Rattle.sb_transcript.specs.declared.unread.Unread.{Unread}
use Rattle.sb_transcript.specs.declared.unread.Unread.TheVariants.{NotALine, NoMemory}

infixl 10 ◌>>=◌
-- one step after another: nothing, or what the second makes of the value of the first
abbrev pub ◌>>=◌ : {A B : Type 0} → Option A → (A → Option B) → Option B
(Some x) >>= f = f x
None >>= f = None

-- what was read, and the fields after it
abbrev pub Read : Type 0 → Type 0
Read A = Option (A × List (List ℕ))

-- the next field
abbrev pub field_at : List (List ℕ) → Read (List ℕ)
field_at [] = None
field_at (field ∷ fields) = Some (field, fields)

-- what is there became the result, or there was no memory
abbrev pub Becomes : {A : Type 0} → Option A → Result A Unread → Type 0
Becomes wanted (Ok x) = wanted ≡ Some x
Becomes wanted (Err NotALine) = wanted ≡ None
Becomes wanted (Err NoMemory) = ⊤

-- what is at a place of a line was read, with these fields left, or nothing is there, or there was no memory
abbrev pub Reads : {A : Type 0} → Read A → Result A Unread → List (List ℕ) → Type 0
Reads wanted (Ok x) rest = wanted ≡ Some (x, rest)
Reads wanted (Err NotALine) rest = wanted ≡ None
Reads wanted (Err NoMemory) rest = ⊤

-- the same of a value as it is seen by this function
abbrev pub ReadsAs : {A B : Type 0} → (B → A) → Read A → Result B Unread → List (List ℕ) → Type 0
ReadsAs seen wanted (Ok x) rest = wanted ≡ Some (seen x, rest)
ReadsAs seen wanted (Err NotALine) rest = wanted ≡ None
ReadsAs seen wanted (Err NoMemory) rest = ⊤
