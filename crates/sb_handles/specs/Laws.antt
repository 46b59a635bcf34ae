-- Laws of handles and shares.
use Rattle.std.specs.Prelude.{◌≡◌, ◌<◌, ◌+◌, ℕ, true, false, None, Some, is_some, ◌==◌, ◌&&◌, if◌then◌else◌}
use Rattle.std.specs.List.{find}
use Rattle.sb_handles.specs.Agreements.{is_file, is_pipe, AgreesOnFiles, pipe_handles}
use Rattle.sb_handles.specs.Shares.{Shares, SharesRise, conflicts, conflict_of, opened, left, left_on, share_on}
use Rattle.sb_handles.specs.Tables.{Table, IsTable, held_by, with_handle, without_handle}
use Rattle.sb_handles.specs.declared.objects.Held.{Held}
use Rattle.sb_handles.specs.declared.objects.OpenHandle.{OpenHandle}
use Rattle.sb_handles.specs.declared.objects.Share.{Share}

-- the number of a new handle is none that an open handle has
abbrev pub NumbersAreNew : Type 0
NumbersAreNew = (table : Table) (target : ℕ) → IsTable table → held_by table target (table.granted + 1) ≡ None

-- a handle that was granted is held by its target, and every other number by whom it was
abbrev pub GrantsAreHeld : Type 0
GrantsAreHeld = (table : Table) (target other number : ℕ) (held : Held) → IsTable table
    → held_by (with_handle table target held) other number
    ≡ (if table.granted + 1 == number && target == other then Some held else held_by table other number)

-- a handle that was closed is held no more, and every other as before
abbrev pub ClosedAreGone : Type 0
ClosedAreGone = (table : Table) (target other number of : ℕ) → IsTable table
    → held_by (without_handle table target number) other of
    ≡ (if number == of && target == other then None else held_by table other of)

-- a handle granted on a file, and opened under its number, keeps the agreement
abbrev pub GrantsKeepFiles : Type 0
GrantsKeepFiles = (shares : Shares) (table : Table) (target : ℕ) (held : Held) → IsTable table → AgreesOnFiles shares table
    → is_file held.object.service ≡ true
    → AgreesOnFiles (opened shares held.object.number (table.granted + 1) (record { access = held.access; sharing = held.sharing }))
    (with_handle table target held)

-- a handle granted on any other object leaves the agreement
abbrev pub GrantsLeaveFiles : Type 0
GrantsLeaveFiles = (shares : Shares) (table : Table) (target : ℕ) (held : Held) → IsTable table → AgreesOnFiles shares table
    → is_file held.object.service ≡ false → AgreesOnFiles shares (with_handle table target held)

-- a closed handle that is left keeps the agreement
abbrev pub ClosesKeepFiles : Type 0
ClosesKeepFiles = (shares : Shares) (table : Table) (target number : ℕ) (held : Held) → IsTable table → AgreesOnFiles shares table
    → held_by table target number ≡ Some held → AgreesOnFiles (left shares number) (without_handle table target number)

-- a handle is open on one object at most
abbrev pub IsOn : Shares → ℕ → ℕ → Type 0
IsOn shares object handle = (other : ℕ) → is_some (share_on shares other handle) ≡ true → other ≡ object

-- a handle that a target holds is open on its object at most
abbrev pub HeldOnOne : Type 0
HeldOnOne = (shares : Shares) (table : Table) (target number : ℕ) (held : Held) → IsTable table → AgreesOnFiles shares table
    → held_by table target number ≡ Some held → IsOn shares held.object.number number

-- a handle that is open on one object at most is left when its share of the object is taken out
abbrev pub OneIsLeft : Type 0
OneIsLeft = (shares : Shares) (object handle : ℕ) → SharesRise shares → IsOn shares object handle → left_on shares object handle ≡ left shares handle

-- what is opened under the number of the next handle, and left again, leaves the shares as they were
abbrev pub OpensComeBack : Type 0
OpensComeBack = (shares : Shares) (table : Table) (object : ℕ) (share : Share) → IsTable table → AgreesOnFiles shares table
    → left_on (opened shares object (table.granted + 1) share) object (table.granted + 1) ≡ shares

-- a granted handle is one more on its pipe
abbrev pub GrantsCount : Type 0
GrantsCount = (table : Table) (target pipe : ℕ) (held : Held)
    → pipe_handles (with_handle table target held) pipe
    ≡ pipe_handles table pipe + (if is_pipe held.object.service && held.object.number == pipe then 1 else 0)

-- a closed one is one fewer
abbrev pub ClosesCount : Type 0
ClosesCount = (table : Table) (target number pipe : ℕ) (held : Held) → IsTable table → held_by table target number ≡ Some held
    → pipe_handles (without_handle table target number) pipe + (if is_pipe held.object.service && held.object.number == pipe then 1 else 0)
    ≡ pipe_handles table pipe

-- what conflicts is an open handle of the object
abbrev pub ConflictsAreOpen : Type 0
ConflictsAreOpen = (shares : Shares) (object access sharing handle : ℕ) → SharesRise shares → conflict_of shares object access sharing ≡ Some handle
    → (share : Share) × (share_on shares object handle ≡ Some share) × (conflicts access sharing share ≡ true)

-- no lower handle of the object conflicts
abbrev pub ConflictsAreLowest : Type 0
ConflictsAreLowest = (shares : Shares) (object access sharing handle lower : ℕ) (share : Share) → SharesRise shares
    → conflict_of shares object access sharing ≡ Some handle → lower < handle → share_on shares object lower ≡ Some share
    → conflicts access sharing share ≡ false

-- and if none is given, no handle of the object conflicts
abbrev pub NoConflictMeansNone : Type 0
NoConflictMeansNone = (shares : Shares) (object access sharing handle : ℕ) (share : Share) → conflict_of shares object access sharing ≡ None
    → share_on shares object handle ≡ Some share → conflicts access sharing share ≡ false

-- a handle on a file or directory conflicts with a new access to it
abbrev pub IsConflicting : Table → ℕ → ℕ → ℕ → ℕ → OpenHandle → Type 0
IsConflicting table object access sharing number handle =
    (find (λ handle. handle.number == number) table.handles ≡ Some handle) × (is_file handle.held.object.service ≡ true)
    × (handle.held.object.number ≡ object)
    × (conflicts access sharing (record { access = handle.held.access; sharing = handle.held.sharing }) ≡ true)

-- if shares and table agree, a conflict is with a handle that some target holds
abbrev pub ConflictsAreHeld : Type 0
ConflictsAreHeld = (shares : Shares) (table : Table) (object access sharing number : ℕ) → SharesRise shares → AgreesOnFiles shares table
    → conflict_of shares object access sharing ≡ Some number → (handle : OpenHandle) × IsConflicting table object access sharing number handle

-- and if some target holds such a handle, there is a conflict
abbrev pub HeldHandlesConflict : Type 0
HeldHandlesConflict = (shares : Shares) (table : Table) (object access sharing number : ℕ) (handle : OpenHandle) → AgreesOnFiles shares table
    → IsConflicting table object access sharing number handle → is_some (conflict_of shares object access sharing) ≡ true
