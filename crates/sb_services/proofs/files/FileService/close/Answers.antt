use Rattle.std.proofs.Common.{sym, subst, ◌∙◌}
use Rattle.sb_names.specs.Nodes.{rows_of}
use Rattle.sb_handles.specs.Laws.{IsOn}
use Rattle.sb_services.specs.Files.{Files}
use Rattle.sb_services.proofs.FileLemmas.{files_left}
use Rattle.sb_services.proofs.files.FileService.close.Goals as goal

-- src/files.rt:245:5
pub invariant_of-self : goal.invariant_of-self
invariant_of-self c =
    let inside : Files = record { names = rows_of c.self.inside.names.nodes; objects = c.self.inside.objects.items; shares = c.self.inside.shares } in
    let on = subst (λ files. IsOn files.shares c.args.number c.args.handle) (sym c.self.view_is) c.requires in
    files_left inside c.leave.new.self c.args.handle
    (c.leave.ensures ∙ c.handles_are_on_one_object.ensures.left c.self.inside.shares c.args.number c.args.handle c.establish_order.ensures on) c.self.invariant
