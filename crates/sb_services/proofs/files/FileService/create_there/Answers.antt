use Rattle.std.proofs.Common.{◌≤◌, ◌+◌, ◌-◌, length, refl, subst, sym}
use Rattle.sb_names.specs.Nodes.{rows_of}
use Rattle.sb_services.specs.Files.{Files}
use Rattle.sb_services.proofs.FileLemmas.{files_opened_by, files_with_attributes}
use Rattle.sb_services.proofs.files.FileService.create_there.Goals as goal

pub invariant_of-self-then-not-replaces : goal.invariant_of-self-then-not-replaces
invariant_of-self-then-not-replaces c =
    let inside : Files = record { names = rows_of c.self.inside.names.nodes; objects = c.self.inside.objects.items; shares = c.self.inside.shares } in
    let high = subst (λ files. c.args.number ≤ length files.objects) (sym c.self.view_is) c.requires.high in
    files_opened_by inside c.open.new.shares c.args.number (c.args.handles.now.table.granted + 1) c.args.request c.on_file.result
    c.on_file.ensures c.in_ok-handle.ensures.shares c.requires.low high c.self.invariant

pub invariant_of-self-2 : goal.invariant_of-self-2
invariant_of-self-2 c =
    let inside : Files = record { names = rows_of c.self.inside.names.nodes; objects = c.self.inside.objects.items; shares = c.self.inside.shares } in
    let high = subst (λ files. c.args.number ≤ length files.objects) (sym c.self.view_is) c.requires.high in
    let in_use = files_opened_by inside c.open.new.shares c.args.number (c.args.handles.now.table.granted + 1) c.args.request c.on_file.result
    c.on_file.ensures c.in_ok-handle.ensures.shares c.requires.low high c.self.invariant in
    files_with_attributes (record inside { shares = c.open.new.shares }) c.set_attributes.new.objects.items (c.args.number - 1) _ c.set_attributes.ensures refl in_use
