use Rattle.std.proofs.Common.{rules, ◌≡◌, Some}
use Rattle.sb_names.specs.Maps.{found}
use Rattle.sb_services.proofs.PipeServiceLemmas.{kept_with_instance}
use Rattle.sb_services.proofs.pipes.PipeService.add_instance.Goals as goal

-- src/pipes.rt:138:5
pub invariant_of-self : goal.invariant_of-self
invariant_of-self c =
    let f : found c.self.inside.rows c.args.name.now ≡ Some c.args.row = search rules in
    kept_with_instance c.self.inside.names.items c.self.inside.rows c.replace.new.self c.args.name.now c.args.row c.replace.ensures f c.requires.room c.self.invariant
