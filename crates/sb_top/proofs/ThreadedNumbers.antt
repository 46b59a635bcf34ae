-- The numbers of commands on threads are within the bounds of their forms.
use Rattle.std.specs.Prelude.{◌≤◌, ℕ, None, Option, Some, slice_get, unwrap_or}
use Rattle.sb_commands.specs.Commands.{HasNumbers, IsOptionWithin, threaded}
use Rattle.sb_commands.specs.Forms.{form_with}
use Rattle.sb_commands.specs.NumberWords.{number_of}
use Rattle.sb_commands.specs.Usage.{Values}
use Rattle.sb_commands.specs.declared.works.ThreadedWork.TheVariants.{Make, Run}
use Rattle.sb_commands.specs.declared.works.Work.TheVariants.{Threaded}

pub workers : (values : Values) → HasNumbers (threaded Run values) → (1 ≤ unwrap_or values.first_option 0) × (unwrap_or values.first_option 0 ≤ 8)
workers values h = by values.first_option h.first
  where
    by : (value : Option ℕ) → IsOptionWithin (slice_get (form_with (Threaded Run)).options 0) value → (1 ≤ unwrap_or value 0) × (unwrap_or value 0 ≤ 8)
    by None k = absurd k
    by (Some number) k = k

pub targets : (values : Values) → HasNumbers (threaded Make values) → (1 ≤ number_of values.second) × (number_of values.second ≤ 8)
targets values h = h.places.1.0

pub calls : (values : Values) → HasNumbers (threaded Make values) → (1 ≤ number_of values.third) × (number_of values.third ≤ 4096)
calls values h = h.places.1.1.0
