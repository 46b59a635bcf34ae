use Rattle.std.proofs.Common.{◌≡◌, true, inr, rules}
use Rattle.sb_outside.specs.MemFiles.{is_failing}
use Rattle.sb_outside.proofs.mem_files.MemFilesFiles.read.Goals as goal

pub returns-then-contains-clause-answer : goal.returns-then-contains-clause-answer
returns-then-contains-clause-answer c =
    let failing : is_failing c.args.self.now ≡ true = search rules in
    inr (rw failing)
