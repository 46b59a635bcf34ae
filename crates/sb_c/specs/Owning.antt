-- What a handle may hold, and what its place owns.
use Rattle.std.specs.Prelude.{Option, None, Some}
use base.Fml.{Fml, ftrue}
use base.Stored.{Coded}
use denote.RawPtr.{Ptr}
use Rattle.std.specs.Coded.{coded_option}
use Rattle.std.specs.Box.Ownership.{box_owns}
use Rattle.std.specs.Global.{Global}
use Rattle.std_heap.specs.contracts.GlobalAllocator.TheImpl.{ghosts}
use Rattle.sb_c.specs.contracts.helds.Held.{the_row}

-- what a handle may hold
abbrev pub Content : Type 0
Content = the_row.Denot

abbrev pub held_coded : Coded (Option Content)
held_coded = coded_option the_row.coded

-- a place owns the memory of a box of its content, and nothing if it has none
abbrev pub place_owns : Global → Ptr → Option Content → Fml
place_owns alloc at None = ftrue
place_owns alloc at (Some content) = box_owns (ghosts.dealloc_token alloc) the_row at content
