use Rattle.sb_names.specs.Nodes.{rows_of}
use Rattle.sb_services.proofs.FileLemmas.{files_none}
use Rattle.sb_services.proofs.files.FileService.new.Goals as goal

pub invariant_of-result : goal.invariant_of-result
invariant_of-result c = files_none (rows_of c.new.result.nodes) c.new-2.result.items c.new-3.result c.new.ensures.rows c.new-3.ensures
