-- The calls by which objects are opened.
use Rattle.std.specs.Prelude.{ℕ, List, [], ◌∷◌, Option, None, Some}
use Rattle.sb_call.specs.declared.arguments.Arg.TheVariants.{Num, Str}
use Rattle.sb_call.specs.declared.tags.CallTag.TheVariants as tag
use Rattle.sb_dup.specs.Names.{object_name}
use Rattle.sb_dup.specs.declared.openings.Opening.{Opening}
use Rattle.sb_handles.specs.declared.objects.Held.{Held}
use Rattle.sb_handles.specs.declared.objects.Service.{Service}
use Rattle.sb_handles.specs.declared.objects.Service.TheVariants as service
use Rattle.sb_kernel.specs.Namespaces.{Space}

-- the call that opens an object of a service by its name, with an access and a sharing; none opens a pipe
abbrev pub opening_by : Service → List ℕ → ℕ → ℕ → Option Opening
opening_by service.File name access sharing = Some (record { tag = tag.FileOpen; args = Str name ∷ Num access ∷ Num sharing ∷ Num 0 ∷ [] })
opening_by service.Pipe name access sharing = None
opening_by service.Key name access sharing = Some (record { tag = tag.KeyOpen; args = Str name ∷ Num access ∷ [] })
opening_by service.Event name access sharing = Some (record { tag = tag.EventOpen; args = Str name ∷ Num access ∷ [] })

abbrev pub opening_named : Option (List ℕ) → Held → ℕ → Option Opening
opening_named None held access = None
opening_named (Some name) held access = opening_by held.object.service name access held.sharing.0

-- the call that opens with this access what a handle is open on, with the sharing of the handle
abbrev pub opening_of : Space → Held → ℕ → Option Opening
opening_of ns held access = opening_named (object_name ns held.object) held access
