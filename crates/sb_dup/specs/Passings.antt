-- What is kept of handles while moves are made.
use Rattle.std.specs.Prelude.{◌≡◌, ◌++◌, bit_and, List}
use Rattle.std.specs.List.{AllByRecursion, Contains}
use Rattle.sb_handles.specs.Tables.{Table}
use Rattle.sb_handles.specs.declared.objects.Held.{Held}
use Rattle.sb_handles.specs.declared.objects.OpenHandle.{OpenHandle}
use Rattle.sb_kernel.specs.Namespaces.{Space}

-- a namespace, and the handles after some moves
pub record Moved : Type 0 where
  pub space : Space
  pub table : Table

-- the same object and sharing, and no bit of access that the other lacks
pub record IsNoWider (held from : Held) : Type 0 where
  pub object : held.object ≡ from.object
  pub sharing : held.sharing ≡ from.sharing
  pub access : bit_and held.access.0 from.access.0 ≡ held.access.0

-- a handle is no wider than some one of these
pub record IsFrom (copied : List OpenHandle) (handle : OpenHandle) : Type 0 where
  pub source : OpenHandle
  pub is_copied : Contains copied source
  pub is_no_wider : IsNoWider handle.held source.held

-- the first of these handles are those that were copied, as they were, and each further one is no wider than one of them
pub record AreKept (copied handles : List OpenHandle) : Type 0 where
  pub further : List OpenHandle
  pub unchanged : handles ≡ copied ++ further
  pub narrow : AllByRecursion (IsFrom copied) further
