-- Accesses and sharing of a number.
use Rattle.std.specs.Prelude.{ℕ}
use Rattle.sb_handles.specs.declared.masks.Access.{Access}
use Rattle.sb_handles.specs.declared.masks.Sharing.{Sharing}

-- the access with these bits
abbrev pub access_of : ℕ → Access
access_of bits = record { 0 = bits }

-- the sharing with these bits
abbrev pub sharing_of : ℕ → Sharing
sharing_of bits = record { 0 = bits }
