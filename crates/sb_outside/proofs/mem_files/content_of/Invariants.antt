use Rattle.std.proofs.Common.{◌≡◌, drop}
use Rattle.sb_outside.specs.MemFiles.{content_of}
use Rattle.sb_outside.proofs.mem_files.content_of.Given as goal

abbrev pub invariant-loop-file : goal.invariant-loop-file
invariant-loop-file l = content_of (drop l.file-index l.files) l.name ≡ content_of l.files l.name
