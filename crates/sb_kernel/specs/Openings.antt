-- The namespace that is there before the first call.
use Rattle.std.specs.Prelude.{◌≡◌, ℕ, ◌+◌, Bool, true, false, List, [], ◌∷◌, length, Option, None, Some, Result, Ok, Err, ⊤, if◌then◌else◌}
use Rattle.sb_base.specs.Names.{is_name_of}
use Rattle.sb_statements.specs.declared.scripts.StartLine.{StartLine}
use Rattle.sb_statements.specs.declared.scripts.StartLine.TheVariants.{Dir, File, Key, Event}
use Rattle.sb_services.specs.Files as files
use Rattle.sb_services.specs.Registry as registry
use Rattle.sb_services.specs.Events as events
use Rattle.sb_services.specs.EventKinds.{kind_from, state_from}
use Rattle.sb_kernel.specs.Kept.{MadeAtMost}
use Rattle.sb_kernel.specs.Namespaces.{Space, empty_space}
use Rattle.sb_kernel.specs.declared.openings.StartRefused.{StartRefused}
use Rattle.sb_kernel.specs.declared.openings.StartRefused.TheVariants.{BadStart}
use Rattle.sb_kernel.specs.declared.openings.StartRefused.TheVariants as refused

-- the name of an object of the opening
abbrev pub name_of : StartLine → List ℕ
name_of (Dir name) = name
name_of (File name attributes) = name
name_of (Key name) = name
name_of (Event name kind initial) = name

-- it is a name
abbrev pub is_named : StartLine → Bool
is_named line = is_name_of (name_of line)

-- the namespace with an object of the opening more. None if it cannot be placed: its parent is missing or no directory, or its name
-- is taken among the objects of its service
abbrev pub placed : Space → StartLine → Option Space
placed ns (Dir name) = if files.can_start ns.files name then Some (record ns { files = files.started ns.files name true 0 }) else None
placed ns (File name attributes) =
    if files.can_start ns.files name then Some (record ns { files = files.started ns.files name false attributes }) else None
placed ns (Key name) = if registry.can_start ns.keys name then Some (record ns { keys = registry.started ns.keys name }) else None
placed ns (Event name kind initial) =
    if events.can_start ns.events name then Some (record ns { events = events.started ns.events name (kind_from kind) (state_from initial) }) else None

-- the namespace after these objects in turn, or the place of the first that cannot be placed; the places count from this number
abbrev pub opened_from : ℕ → Space → List StartLine → Result Space ℕ
opened_from at ns [] = Ok ns
opened_from at ns (line ∷ lines) = elim (placed ns line) [
  | None ↦ Err at
  | Some next ↦ opened_from (at + 1) next lines
]

-- the opening namespace, or the place of the first object that cannot be placed, from 0
abbrev pub opened : List StartLine → Result Space ℕ
opened lines = opened_from 0 empty_space lines

-- the namespace, or the empty one if some object cannot be placed
abbrev pub space_or_empty : Result Space ℕ → Space
space_or_empty (Ok ns) = ns
space_or_empty (Err at) = empty_space

-- the opening namespace of objects each of which can be placed
abbrev pub opening : List StartLine → Space
opening lines = space_or_empty (opened lines)

-- a refusal is the place of the first object that cannot be placed, or that memory ran out
abbrev pub IsStartRefused : Result Space ℕ → StartRefused → Type 0
IsStartRefused wanted (BadStart at) = wanted ≡ Err at
IsStartRefused wanted refused.NoMemory = ⊤

-- objects that are placed in turn are the only ones: each service made at most as many
abbrev pub OpeningsMakeFew : Type 0
OpeningsMakeFew = (lines : List StartLine) (ns : Space) → opened lines ≡ Ok ns → MadeAtMost (length lines) ns
