-- What a kernel keeps of the handles that targets hold.
use Rattle.std.specs.Prelude.{◌≡◌, ℕ, ◌^◌, ◌≤◌, ◌&&◌, Bool, true, nat_lt, List, Option, None, Some, ⊤}
use Rattle.std.specs.List.{AllByRecursion, list_all}
use Rattle.std.specs.Map.{lookup}
use Rattle.sb_handles.specs.declared.objects.Held.{Held}
use Rattle.sb_handles.specs.declared.objects.OpenHandle.{OpenHandle}
use Rattle.sb_handles.specs.declared.objects.Service.{Service}
use Rattle.sb_handles.specs.declared.objects.Service.TheVariants as service
use Rattle.sb_handles.specs.declared.objects.Object.{Object}
use Rattle.sb_names.specs.Maps.{Rows, is_key}
use Rattle.sb_names.specs.Objects.{IsNameBy, IsNameOf}
use Rattle.sb_services.specs.Events as events
use Rattle.sb_kernel.specs.Namespaces.{Space}

module _ {V : Type 0} where
  -- something of this number is under some name
  abbrev pub IsUnder : (V → ℕ) → Rows V → ℕ → Type 0
  IsUnder number_of rows number = (key : List ℕ) × (row : V) × (lookup (is_key key) rows ≡ Some row) × (number_of row ≡ number)

-- the number of an object is itself
abbrev pub itself : ℕ → ℕ
itself n = n

-- a file or directory, a key or an event has its row. Of a pipe the count of its handles says so
abbrev pub HasRow : Space → Service → ℕ → Type 0
HasRow ns service.File number = IsUnder itself ns.files.names number
HasRow ns service.Pipe number = ⊤
HasRow ns service.Key number = IsUnder itself ns.keys.names number
HasRow ns service.Event number = IsUnder events.number_of ns.events.rows number

-- so has the object of each of these handles
abbrev pub HaveRows : Space → List OpenHandle → Type 0
HaveRows ns handles = AllByRecursion (λ handle. HasRow ns handle.held.object.service handle.held.object.number) handles

-- access and sharing are below 2^32
abbrev pub is_narrow : Held → Bool
is_narrow held = nat_lt held.access.0 (2 ^ 32) && nat_lt held.sharing.0 (2 ^ 32)

abbrev pub AreNarrow : List OpenHandle → Type 0
AreNarrow handles = list_all (λ handle. is_narrow handle.held) handles ≡ true

-- each handle of a file, key or event has its row; access and sharing of each are below 2^32; and each pipe came with a handle
pub record AreHeld (ns : Space) : Type 0 where
  pub rows : HaveRows ns ns.handles.handles
  pub narrow : AreNarrow ns.handles.handles
  pub pipes_come : ns.pipes.made ≤ ns.handles.granted

-- the folded name of an object of a service: that of the row of a file, a key or an event, and none of a pipe
abbrev pub IsNameIn : Service → Space → ℕ → Option (List ℕ) → Type 0
IsNameIn service.File ns number name = IsNameOf ns.files.names number name
IsNameIn service.Pipe ns number name = name ≡ None
IsNameIn service.Key ns number name = IsNameOf ns.keys.names number name
IsNameIn service.Event ns number name = IsNameBy events.number_of ns.events.rows number name

-- the folded name of an object
abbrev pub IsObjectName : Space → Object → Option (List ℕ) → Type 0
IsObjectName ns object name = IsNameIn object.service ns object.number name
