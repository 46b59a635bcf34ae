-- What a pipe is made with, and its numbers.
use Rattle.std.specs.Prelude.{ℕ, ◌==◌, Option, None, Some, if◌then◌else◌}
use Rattle.sb_services.specs.declared.pipe_modes.PipeMode.{PipeMode}
use Rattle.sb_services.specs.declared.pipe_modes.PipeMode.TheVariants.{Inbound, Outbound, Duplex}
use Rattle.sb_services.specs.declared.pipe_modes.PipeForm.{PipeForm}
use Rattle.sb_services.specs.declared.pipe_modes.PipeForm.TheVariants.{Bytes, Messages}

-- the modes have the numbers 1 to 3
abbrev pub mode_of : ℕ → Option PipeMode
mode_of number =
    if number == 1 then Some Inbound
    else (if number == 2 then Some Outbound
    else (if number == 3 then Some Duplex else None))

abbrev pub mode_number : PipeMode → ℕ
mode_number Inbound = 1
mode_number Outbound = 2
mode_number Duplex = 3

-- the forms have the numbers 0 and 1
abbrev pub form_of : ℕ → Option PipeForm
form_of number = if number == 0 then Some Bytes else (if number == 1 then Some Messages else None)

abbrev pub form_number : PipeForm → ℕ
form_number Bytes = 0
form_number Messages = 1
