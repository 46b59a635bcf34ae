-- The pipes, and what each call on them does.
use Rattle.std.specs.Prelude.{◌≡◌, ◌+◌, ◌-◌, ℕ, Bool, true, ◌&&◌, not, ◌==◌, nat_eq, nat_le, List, [], ◌∷◌, Option, None, Some, map, if◌then◌else◌}
use Rattle.std.specs.List.{find, list_all, IsDistinct}
use Rattle.sb_call.specs.Statuses.{success, invalid_parameter, access_denied, instance_not_available}
use Rattle.sb_handles.specs.Agreements.{pipe_handles}
use Rattle.sb_handles.specs.Effects.{Effect, refused, grants}
use Rattle.sb_handles.specs.Masks.{access_of, sharing_of}
use Rattle.sb_handles.specs.Tables.{Table}
use Rattle.sb_handles.specs.declared.objects.Held.{Held}
use Rattle.sb_handles.specs.declared.objects.Service.TheVariants as service
use Rattle.sb_names.specs.Maps.{Rows, found, put, replaced}
use Rattle.sb_services.specs.PipeModes.{form_number, mode_number}
use Rattle.sb_services.specs.declared.pipe_modes.PipeForm.{PipeForm}
use Rattle.sb_services.specs.declared.pipe_modes.PipeMode.{PipeMode}
use Rattle.sb_services.specs.declared.pipe_rows.PipeRow.{PipeRow}

-- the pipe under each name, and how many were ever made
pub record Pipes : Type 0 where
  pub rows : Rows PipeRow
  pub made : ℕ

abbrev pub no_pipes : Pipes
no_pipes = record { rows = []; made = 0 }

-- with a pipe more, which has one handle; its number is one more than the count of pipes ever made
abbrev pub with_pipe : Pipes → List ℕ → PipeMode → PipeForm → ℕ → Pipes
with_pipe pipes name mode form instances =
    record { rows = put pipes.rows name (record { number = pipes.made + 1; mode = mode; form = form; instances = instances; handles = 1 }); made = pipes.made + 1 }

-- with a handle more on the pipe of this name
abbrev pub with_instance : Pipes → List ℕ → PipeRow → Pipes
with_instance pipes name row = record pipes { rows = replaced pipes.rows name (record row { handles = row.handles + 1 }) }

-- a handle on the pipe of this number; pipes have neither access nor sharing
abbrev pub on_pipe : ℕ → Held
on_pipe number = record { object = record { service = service.Pipe; number = number }; access = access_of 0; sharing = sharing_of 0 }

-- the instances are not 1 to 255
abbrev pub is_invalid : ℕ → Bool
is_invalid instances = not (nat_le 1 instances && nat_le instances 255)

-- the pipe was made with these properties
abbrev pub is_alike : PipeRow → PipeMode → PipeForm → ℕ → Bool
is_alike row mode form instances = mode_number row.mode == mode_number mode && form_number row.form == form_number form && row.instances == instances

-- pipe.create, by what is under the name
abbrev pub create_by : Option PipeRow → Pipes → Table → ℕ → List ℕ → PipeMode → PipeForm → ℕ → Effect Pipes
create_by (Some row) pipes handles target name mode form instances =
    if not (is_alike row mode form instances) then refused pipes handles access_denied
    else (if row.handles == row.instances then refused pipes handles instance_not_available
    else grants (with_instance pipes name row) handles target (on_pipe row.number) success ((row.handles + 1) ∷ []))
create_by None pipes handles target name mode form instances =
    grants (with_pipe pipes name mode form instances) handles target (on_pipe (pipes.made + 1)) success (1 ∷ [])

-- pipe.create: the first case that applies
abbrev pub create : Pipes → Table → ℕ → List ℕ → PipeMode → PipeForm → ℕ → Effect Pipes
create pipes handles target name mode form instances =
    if is_invalid instances then refused pipes handles invalid_parameter
    else create_by (found pipes.rows name) pipes handles target name mode form instances

-- the rows with one handle fewer on the pipe of this number; a pipe whose last handle is closed is gone
abbrev pub fewer : Rows PipeRow → ℕ → Rows PipeRow
fewer [] pipe = []
fewer (row ∷ rows) pipe =
    if row.1.number == pipe then (if nat_le row.1.handles 1 then rows else (row.0, record row.1 { handles = row.1.handles - 1 }) ∷ rows)
    else row ∷ fewer rows pipe

-- the pipes after a handle on the pipe of this number was closed
abbrev pub closed : Pipes → ℕ → Pipes
closed pipes pipe = record pipes { rows = fewer pipes.rows pipe }

-- how many handles the pipe of this number has
abbrev pub handles_by : Option (List ℕ × PipeRow) → ℕ
handles_by None = 0
handles_by (Some row) = row.1.handles

abbrev pub handles_of : Pipes → ℕ → ℕ
handles_of pipes pipe = handles_by (find (λ row. row.1.number == pipe) pipes.rows)

-- each pipe has the handles that the table holds of it
abbrev pub Agrees : Pipes → Table → Type 0
Agrees pipes handles = (pipe : ℕ) → handles_of pipes pipe ≡ pipe_handles handles pipe

-- no two pipes have one number, each number is one of those ever made, and each pipe has 1 handle to as many as it may have
abbrev pub is_made : ℕ → List ℕ × PipeRow → Bool
is_made made row =
    nat_le 1 row.1.number && nat_le row.1.number made && nat_le 1 row.1.handles && nat_le row.1.handles row.1.instances
    && nat_le row.1.instances 255

abbrev pub ArePipes : Pipes → Type 0
ArePipes pipes = IsDistinct nat_eq (map (λ row. row.1.number) pipes.rows) × (list_all (is_made pipes.made) pipes.rows ≡ true)
