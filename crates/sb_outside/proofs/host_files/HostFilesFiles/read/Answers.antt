use Rattle.std.proofs.Common.{sym, subst}
use Rattle.sb_outside.proofs.Reading.{same_fault}
use Rattle.sb_outside.specs.Disks.{IsUnread}
use Rattle.sb_outside.specs.declared.files.FileFault.TheVariants.{Failed}
use Rattle.sb_outside.proofs.host_files.HostFilesFiles.read.Goals as goal

-- counting changes neither the disk nor the fault
pub returns-in-Err-clause-unread : goal.returns-in-Err-clause-unread
returns-in-Err-clause-unread g c cause e =
    subst (λ disk. IsUnread g.D.Disk.opens g.D.Disk.refuses g.D.Disk.gives g.D.Disk.fails c.args.self.now.disk c.args.name.now disk cause) (sym c.counted.ensures.disk)
    (c.in-Err.ensures.unread cause (same_fault c.counted.result c.in-Err.fault (Failed cause) c.counted.ensures.fault e))
