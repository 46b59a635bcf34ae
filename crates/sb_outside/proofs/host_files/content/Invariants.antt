use Rattle.std.proofs.Common.{◌≤◌, vec_len}
use Rattle.sb_outside.specs.Disks.{Reads}
use Rattle.sb_outside.proofs.host_files.content.Given as goal

-- what was read so far, which is not too long
abbrev pub invariant-loop : goal.invariant-loop
invariant-loop g l = Reads g.D.Disk.gives g.D.Disk.fails l.initial.disk l.bytes.items l.disk × (vec_len l.bytes ≤ l.most)
