-- The definitions, tried on worked calls by computation.
use Rattle.std.specs.Prelude.{◌≡◌, [], ◌∷◌, codes, refl}
use Rattle.sb_call.specs.Statuses.{refusal, granting, success, invalid_parameter, access_denied, instance_not_available}
use Rattle.sb_handles.specs.Effects.{Effect}
use Rattle.sb_handles.specs.Tables.{no_handles}
use Rattle.sb_services.specs.Pipes.{Pipes, no_pipes, create, closed}
use Rattle.sb_services.specs.declared.pipe_modes.PipeForm.TheVariants.{Bytes}
use Rattle.sb_services.specs.declared.pipe_modes.PipeMode.TheVariants.{Outbound, Duplex}

abbrev first : Effect Pipes
first = create no_pipes no_handles 0 (codes "\\p") Duplex Bytes 2

made : first.answer ≡ granting success 1 (1 ∷ [])
made = refl

abbrev second : Effect Pipes
second = create first.service first.handles 0 (codes "\\P") Duplex Bytes 2

one_more : second.answer ≡ granting success 2 (2 ∷ [])
one_more = refl

full : (create second.service second.handles 0 (codes "\\p") Duplex Bytes 2).answer ≡ refusal instance_not_available
full = refl

other_mode : (create second.service second.handles 0 (codes "\\p") Outbound Bytes 2).answer ≡ refusal access_denied
other_mode = refl

out_of_range : (create second.service second.handles 0 (codes "\\p") Duplex Bytes 256).answer ≡ refusal invalid_parameter
out_of_range = refl

gone : (closed (closed second.service 1) 1).rows ≡ []
gone = refl
