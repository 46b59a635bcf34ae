use Rattle.sb_host.proofs.WorkerSteps.{as_workers}
use Rattle.sb_host.proofs.laws.hosts_go_as_workers.Goals as goal

pub returns-clause-words : goal.returns-clause-words
returns-clause-words c = as_workers c.worker_follows.ensures
