-- What a handle holds.
use Rattle.std.specs.Prelude.{Option}
use Rattle.sb_c.specs.Owning.{Content}
use Rattle.sb_c.specs.declared.handles.Handle.{Handle}

-- what a handle holds
abbrev pub content : Handle → Option Content
content h = h.place.held
