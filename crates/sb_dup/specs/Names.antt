-- The names of objects.
use Rattle.std.specs.Prelude.{ℕ, ◌==◌, List, Option, None, option_map}
use Rattle.std.specs.List.{find}
use Rattle.sb_services.specs.Events as events
use Rattle.sb_handles.specs.declared.objects.Object.{Object}
use Rattle.sb_handles.specs.declared.objects.Service.{Service}
use Rattle.sb_handles.specs.declared.objects.Service.TheVariants as service
use Rattle.sb_kernel.specs.Held.{itself}
use Rattle.sb_kernel.specs.Namespaces.{Space}
use Rattle.sb_names.specs.Maps.{Rows}

module _ {V : Type 0} where
  -- the name of the row whose object has this number
  abbrev pub name_in : (V → ℕ) → Rows V → ℕ → Option (List ℕ)
  name_in number_of rows number = option_map (λ row. row.0) (find (λ row. number_of row.1 == number) rows)

-- the folded name of an object of a service; a pipe has none
abbrev pub name_by : Service → Space → ℕ → Option (List ℕ)
name_by service.File ns number = name_in itself ns.files.names number
name_by service.Pipe ns number = None
name_by service.Key ns number = name_in itself ns.keys.names number
name_by service.Event ns number = name_in events.number_of ns.events.rows number

-- the folded name of an object
abbrev pub object_name : Space → Object → Option (List ℕ)
object_name ns object = name_by object.service ns object.number
