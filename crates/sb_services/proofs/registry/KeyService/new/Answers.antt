use Rattle.sb_names.specs.Nodes.{rows_of}
use Rattle.sb_services.proofs.KeyNumbering.{none_made}
use Rattle.sb_services.proofs.registry.KeyService.new.Goals as goal

pub invariant_of-result : goal.invariant_of-result
invariant_of-result c = none_made (rows_of c.new.result.nodes) c.new.ensures.rows
