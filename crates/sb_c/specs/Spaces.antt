-- A namespace of the product's own in a handle, and the calls that are performed in it.
use Rattle.std.specs.Prelude.{◌≡◌, ℕ, true, false, is_some, Option, None, Some}
use Rattle.sb_kernel.specs.Namespaces.{Space, empty_space}
use Rattle.sb_host.specs.HostWorkers.{HostAt, after_performing, can_reply, space_after_performing, takes_space_for}
use Rattle.sb_c.specs.Owning.{Content}
use Rattle.sb_c.specs.declared.helds.Held.TheVariants as held
use Rattle.sb_c.specs.declared.statuses.Status.{Status}
use Rattle.sb_c.specs.declared.statuses.Status.TheVariants as status

-- the status of a new namespace: nothing is in it, the handle holds something, or there was no memory
abbrev pub IsNewSpace : Option Content → Option Content → Option Status → Type 0
IsNewSpace old new (Some status.Ok) = (old ≡ None) × (new ≡ Some (held.Space empty_space))
IsNewSpace old new (Some status.BadCall) = is_some old ≡ true
IsNewSpace old new (Some status.NoMemory) = old ≡ None
IsNewSpace old new _ = ⊥

-- what is there after this was done to its namespace
abbrev pub space_changed : (Space → Space) → Content → Content
space_changed f (held.Space ns) = held.Space (f ns)
space_changed f (held.Policies set) = held.Policies set
space_changed f (held.Worker h) = held.Worker h

abbrev pub with_space : (Space → Space) → Option Content → Option Content
with_space f None = None
with_space f (Some content) = Some (space_changed f content)

-- a worker after what is decided of its copy was performed in a namespace for a target
abbrev pub after_performing_in : Option Space → ℕ → HostAt → HostAt
after_performing_in None target h = h
after_performing_in (Some ns) target h = after_performing h ns target

-- and the namespace
abbrev pub space_after_performing_by : Option HostAt → ℕ → Space → Space
space_after_performing_by None target ns = ns
space_after_performing_by (Some h) target ns = space_after_performing h ns target

-- the status of a call that is performed in a namespace: it was; there is no worker with a copy that is decided, or no namespace; or the namespace had no
-- memory for a call that needs some
abbrev pub IsPerformed : Option HostAt → Option Space → ℕ → Option Status → Type 0
IsPerformed (Some h) (Some ns) target (Some status.Ok) = can_reply h ≡ true
IsPerformed (Some h) (Some ns) target (Some status.BadCall) = can_reply h ≡ false
IsPerformed (Some h) (Some ns) target (Some status.NoMemory) = (can_reply h ≡ true) × (takes_space_for h.decision ns target ≡ true)
IsPerformed (Some h) None target (Some status.BadCall) = Unit {0}
IsPerformed None ns target (Some status.BadCall) = Unit {0}
IsPerformed h ns target _ = ⊥
