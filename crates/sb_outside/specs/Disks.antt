-- What was read of a disk: which calls were made, one after another, and what each gave. The relations of the disk between its states are those of its trait.
use Rattle.std.specs.Prelude.{◌≡◌, ◌<◌, ◌⊎◌, ◌++◌, ℕ, List, [], ◌∷◌, length}
use Rattle.std.specs.declared.io.ErrorKind.{ErrorKind}
use Rattle.std.specs.declared.io.ErrorKind.TheVariants.{Interrupted, NotFound}
use Rattle.sb_outside.specs.Hosts.{open_fault, read_fault}
use Rattle.sb_outside.specs.declared.files.FileFault.TheVariants.{Failed}
use Rattle.sb_outside.specs.declared.files.ReadCause.{ReadCause}

-- a read that is not the last: it gave this piece, or a signal interrupted it and it gave none
abbrev pub IsPiece : {D : Type 0} → (D → List ℕ → D → Type 0) → (D → ErrorKind → D → Type 0) → D → List ℕ → D → Type 0
IsPiece gives fails before piece after = gives before piece after ⊎ ((piece ≡ []) × fails before Interrupted after)

-- reads gave these pieces, of which the latest is the first of the list
abbrev pub ArePieces : {D : Type 0} → (D → List ℕ → D → Type 0) → (D → ErrorKind → D → Type 0) → D → List (List ℕ) → D → Type 0
ArePieces gives fails first [] now = now ≡ first
ArePieces {D} gives fails first (piece ∷ pieces) now = (before : D) × ArePieces gives fails first pieces before × IsPiece gives fails before piece now

-- the bytes of pieces, in the order in which they were given
abbrev pub bytes_of : List (List ℕ) → List ℕ
bytes_of [] = []
bytes_of (piece ∷ pieces) = bytes_of pieces ++ piece

-- reads gave these bytes and no others
abbrev pub Reads : {D : Type 0} → (D → List ℕ → D → Type 0) → (D → ErrorKind → D → Type 0) → D → List ℕ → D → Type 0
Reads gives fails first bytes now = (pieces : List (List ℕ)) × ArePieces gives fails first pieces now × (bytes ≡ bytes_of pieces)

-- one read appended its piece to the bytes that were read
abbrev pub Appends : {D : Type 0} → (D → List ℕ → D → Type 0) → (D → ErrorKind → D → Type 0) → D → List ℕ → D → List ℕ → Type 0
Appends gives fails old before new after = (piece : List ℕ) × IsPiece gives fails old piece new × (after ≡ before ++ piece)

-- ---- an open file

-- reads gave these bytes, and then one met the end
abbrev pub IsRest : {D : Type 0} → (D → List ℕ → D → Type 0) → (D → D → Type 0) → (D → ErrorKind → D → Type 0) → D → List ℕ → D → Type 0
IsRest {D} gives ends fails old bytes new = (last : D) × Reads gives fails old bytes last × ends last new

-- reads gave more than `most` bytes
abbrev pub IsOver : {D : Type 0} → (D → List ℕ → D → Type 0) → (D → ErrorKind → D → Type 0) → ℕ → D → D → Type 0
IsOver gives fails most old new = (bytes : List ℕ) × Reads gives fails old bytes new × (most < length bytes)

-- a read failed for this cause, and not since memory ran out
abbrev pub FailsOnce : {D : Type 0} → (D → ErrorKind → D → Type 0) → D → D → ReadCause → Type 0
FailsOnce fails before after cause = (kind : ErrorKind) × fails before kind after × (read_fault kind ≡ Failed cause)

-- after some reads one failed
abbrev pub IsCut : {D : Type 0} → (D → List ℕ → D → Type 0) → (D → ErrorKind → D → Type 0) → D → D → ReadCause → Type 0
IsCut {D} gives fails old new cause =
    (bytes : List ℕ) × (last : D) × Reads gives fails old bytes last × FailsOnce fails last new cause

-- ---- the file of a name

-- it was opened, once, and these bytes are all that its reads gave, up to its end
abbrev pub IsContentOf : {D : Type 0} → (D → List ℕ → D → Type 0) → (D → List ℕ → D → Type 0) → (D → D → Type 0) → (D → ErrorKind → D → Type 0)
    → D → List ℕ → List ℕ → D → Type 0
IsContentOf {D} opens gives ends fails old name bytes new = (first : D) × opens old name first × IsRest gives ends fails first bytes new

-- it was opened, once, and its reads gave more than `most` bytes
abbrev pub IsLong : {D : Type 0} → (D → List ℕ → D → Type 0) → (D → List ℕ → D → Type 0) → (D → ErrorKind → D → Type 0) → ℕ → D → List ℕ → D → Type 0
IsLong {D} opens gives fails most old name new = (first : D) × opens old name first × IsOver gives fails most first new

-- the system said that there is none
abbrev pub IsAbsent : {D : Type 0} → (D → List ℕ → ErrorKind → D → Type 0) → D → List ℕ → D → Type 0
IsAbsent refuses old name new = refuses old name NotFound new

-- the system refused to open it for this cause, or it was opened, once, and a read of it failed for this cause
abbrev pub IsUnread : {D : Type 0} → (D → List ℕ → D → Type 0) → (D → List ℕ → ErrorKind → D → Type 0) → (D → List ℕ → D → Type 0) → (D → ErrorKind → D → Type 0)
    → D → List ℕ → D → ReadCause → Type 0
IsUnread {D} opens refuses gives fails old name new cause =
    ((kind : ErrorKind) × refuses old name kind new × (open_fault kind ≡ Failed cause))
    ⊎ ((first : D) × opens old name first × IsCut gives fails first new cause)
