-- What is read in pieces is all that the reads gave.
use Rattle.std.proofs.Common.{◌≡◌, ◌∙◌, ℕ, ◌<◌, List, [], ◌∷◌, ◌++◌, length, refl, sym, ap, subst, append-nil, inl, inr}
use Rattle.std.specs.Prelude.{Err, IsErrOf}
use Rattle.std.specs.declared.io.ErrorKind.{ErrorKind}
use Rattle.std.specs.declared.io.ErrorKind.TheVariants.{Interrupted}
use Rattle.sb_outside.specs.declared.files.FileFault.{FileFault}
use Rattle.sb_outside.specs.declared.files.ReadCause.{ReadCause}
use Rattle.sb_outside.specs.Disks.{Appends, FailsOnce, IsCut, IsOver, IsRest, Reads}

-- one read

pub appended : {D : Type 0} (gives : D → List ℕ → D → Type 0) (fails : D → ErrorKind → D → Type 0) (old new : D) (before piece : List ℕ)
    → gives old piece new → Appends gives fails old before new (before ++ piece)
appended gives fails old new before piece h = (piece, inl h, refl)

pub interrupted : {D : Type 0} (gives : D → List ℕ → D → Type 0) (fails : D → ErrorKind → D → Type 0) (old new : D) (before : List ℕ)
    → fails old Interrupted new → Appends gives fails old before new before
interrupted gives fails old new before h = ([], inr (refl, h), sym (append-nil before))

-- one read after another

pub nothing_read : {D : Type 0} (gives : D → List ℕ → D → Type 0) (fails : D → ErrorKind → D → Type 0) (first : D) → Reads gives fails first [] first
nothing_read gives fails first = ([], refl, refl)

pub one_more : {D : Type 0} (gives : D → List ℕ → D → Type 0) (fails : D → ErrorKind → D → Type 0) (first before now : D) (bytes after : List ℕ)
    → Reads gives fails first bytes before → Appends gives fails before bytes now after → Reads gives fails first after now
one_more gives fails first before now bytes after (pieces, given, is) (piece, one, more) =
    (piece ∷ pieces, (before, given, one), more ∙ ap (λ (xs : List ℕ). xs ++ piece) is)

pub ended : {D : Type 0} (gives : D → List ℕ → D → Type 0) (ends : D → D → Type 0) (fails : D → ErrorKind → D → Type 0) (first before now : D) (bytes : List ℕ)
    → Reads gives fails first bytes before → ends before now → IsRest gives ends fails first bytes now
ended gives ends fails first before now bytes reads e = (before, reads, e)

pub over : {D : Type 0} (gives : D → List ℕ → D → Type 0) (fails : D → ErrorKind → D → Type 0) (most : ℕ) (first now : D) (bytes : List ℕ)
    → Reads gives fails first bytes now → most < length bytes → IsOver gives fails most first now
over gives fails most first now bytes reads h = (bytes, reads, h)

pub cut : {D : Type 0} (gives : D → List ℕ → D → Type 0) (fails : D → ErrorKind → D → Type 0) (first before now : D) (bytes : List ℕ)
    (cause : ReadCause) → Reads gives fails first bytes before → FailsOnce fails before now cause → IsCut gives fails first now cause
cut gives fails first before now bytes cause reads f = (bytes, before, reads, f)

-- the same fault
pub same_fault : {T : Type 0} (a b c : FileFault) → a ≡ b → IsErrOf {T = T} {E = FileFault} (Err a) c → IsErrOf {T = T} {E = FileFault} (Err b) c
same_fault {T} a b c e h = subst (λ (f : FileFault). IsErrOf {T = T} {E = FileFault} (Err f) c) e h
