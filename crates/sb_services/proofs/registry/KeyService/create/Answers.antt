use Rattle.std.proofs.Common.{◌+◌, refl}
use Rattle.sb_names.specs.Nodes.{rows_of}
use Rattle.sb_services.specs.Registry.{Keys}
use Rattle.sb_services.proofs.KeyNumbering.{one_more}
use Rattle.sb_services.proofs.registry.KeyService.create.Goals as goal

pub invariant_of-self-in-Absent : goal.invariant_of-self-in-Absent
invariant_of-self-in-Absent c =
    let inside : Keys = record { names = rows_of c.self.inside.names.nodes; made = c.self.inside.made } in
    one_more c.numbers_are_kept.ensures.puts inside (rows_of c.add_at.new.self.nodes) c.args.name.now (c.self.inside.made + 1) refl c.in_ok-add_at-in-Absent.ensures.rows c.self.invariant
