use Rattle.std.proofs.Common.{rules, ◌≡◌, ◌+◌, ◌++◌, ◌∷◌, [], None, Some, length}
use Rattle.std.proofs.Common.{arith}
use Rattle.std.proofs.lemmas.Grind.{common_steps}
use Rattle.sb_names.specs.Maps.{found, put}
use Rattle.sb_services.proofs.PipeServiceLemmas.{kept_with_pipe}
use Rattle.sb_services.proofs.pipes.PipeService.add_pipe.Goals as goal

pub invariant_of-self-3 : goal.invariant_of-self-3
invariant_of-self-3 c =
    let f : found c.self.inside.rows c.args.name.now ≡ None = search rules in
    let n : c.push_reserved.new.self.items ≡ c.self.inside.names.items ++ Some c.args.name.now ∷ [] = grind (arith, common_steps) in
    let e : c.add.new.self ≡ put c.self.inside.rows c.args.name.now (record { number = length c.self.inside.names.items + 1; mode = c.args.mode; form = c.args.form; instances = c.args.instances; handles = 1 }) =
    search rules in
    kept_with_pipe c.names_fold.ensures c.self.inside.names.items c.push_reserved.new.self.items c.self.inside.rows c.add.new.self c.args.name.now c.args.mode c.args.form c.args.instances
    n e c.requires.name f c.requires.few.0 c.requires.few.1 c.self.invariant
