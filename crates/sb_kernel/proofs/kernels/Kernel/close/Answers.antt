use Rattle.std.proofs.Common.{◌≡◌, rules, false}
use Rattle.sb_handles.specs.Agreements.{is_file, is_pipe}
use Rattle.sb_handles.specs.Tables.{IsTable}
use Rattle.sb_handles.specs.declared.objects.Service.TheVariants as service
use Rattle.sb_services.specs.Pipes.{ArePipes}
use Rattle.sb_kernel.proofs.Closing.{file_closed, pipe_closed, other_closed}
use Rattle.sb_kernel.specs.Namespaces.{Space}
use Rattle.sb_kernel.proofs.kernels.Kernel.close.Goals as goal

pub close-requires-in-File : goal.close-requires-in-File
close-requires-in-File c =
    let ns : Space = record { files = c.self.inside.files; pipes = c.self.inside.pipes; keys = c.self.inside.keys; events = c.self.inside.events; handles = c.self.inside.handles.table } in
    let table : IsTable ns.handles = rw (← c.self.view_is) at c.establish_closing.ensures.table in
    c.establish_closing.ensures.alone ns.files.shares ns.handles c.args.target c.args.handle c.in-Ok.held table c.self.invariant.files_agree c.in-Ok.ensures.held

pub invariant_of-self-in-File : goal.invariant_of-self-in-File
invariant_of-self-in-File c =
    let ns : Space = record { files = c.self.inside.files; pipes = c.self.inside.pipes; keys = c.self.inside.keys; events = c.self.inside.events; handles = c.self.inside.handles.table } in
    let table : IsTable ns.handles = rw (← c.self.view_is) at c.establish_closing.ensures.table in
    let made : ArePipes ns.pipes = rw (← c.self.view_is) at c.establish_closing.ensures.pipes in
    let kind : c.in-Ok.held.object.service ≡ service.File = search rules in
    file_closed c.establish_closing.ensures.files_closed c.establish_closing.ensures.other_files c.establish_closing.ensures.pipes_closed c.establish_closing.ensures.other_pipes ns c.self.invariant table made c.args.target c.args.handle c.in-Ok.held c.in-Ok.ensures.held c.close-in-File.new.self c.close.new.self.table kind c.close-in-File.ensures c.in-Ok.ensures.ok

pub invariant_of-self-in-Pipe : goal.invariant_of-self-in-Pipe
invariant_of-self-in-Pipe c =
    let ns : Space = record { files = c.self.inside.files; pipes = c.self.inside.pipes; keys = c.self.inside.keys; events = c.self.inside.events; handles = c.self.inside.handles.table } in
    let table : IsTable ns.handles = rw (← c.self.view_is) at c.establish_closing.ensures.table in
    let made : ArePipes ns.pipes = rw (← c.self.view_is) at c.establish_closing.ensures.pipes in
    let kind : c.in-Ok.held.object.service ≡ service.Pipe = search rules in
    pipe_closed c.establish_closing.ensures.files_closed c.establish_closing.ensures.other_files c.establish_closing.ensures.pipes_closed c.establish_closing.ensures.other_pipes ns c.self.invariant table made c.args.target c.args.handle c.in-Ok.held c.in-Ok.ensures.held c.close-in-Pipe.new.self c.close.new.self.table kind c.close-in-Pipe.ensures c.in-Ok.ensures.ok

pub invariant_of-self-in-Key : goal.invariant_of-self-in-Key
invariant_of-self-in-Key c =
    let ns : Space = record { files = c.self.inside.files; pipes = c.self.inside.pipes; keys = c.self.inside.keys; events = c.self.inside.events; handles = c.self.inside.handles.table } in
    let table : IsTable ns.handles = rw (← c.self.view_is) at c.establish_closing.ensures.table in
    let made : ArePipes ns.pipes = rw (← c.self.view_is) at c.establish_closing.ensures.pipes in
    let no_file : is_file c.in-Ok.held.object.service ≡ false = search rules in
    let no_pipe : is_pipe c.in-Ok.held.object.service ≡ false = search rules in
    other_closed c.establish_closing.ensures.files_closed c.establish_closing.ensures.other_files c.establish_closing.ensures.pipes_closed c.establish_closing.ensures.other_pipes ns c.self.invariant table made c.args.target c.args.handle c.in-Ok.held c.in-Ok.ensures.held c.close.new.self.table no_file no_pipe c.in-Ok.ensures.ok
