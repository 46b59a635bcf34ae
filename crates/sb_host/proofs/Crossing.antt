-- Policies and workers may go to another thread.
use denote.Param.Send.{IsSend, sendable}
use Rattle.std.proofs.Crossing.{crosses}
use Rattle.sb_host.specs.contracts.policy_sets.PolicySet as PolicySet
use Rattle.sb_host.specs.contracts.host_workers.HostWorker as HostWorker

pub policies_send : IsSend PolicySet.the_row
policies_send = search (sendable, crosses) depth 200 fits 20000

pub worker_send : IsSend HostWorker.the_row
worker_send = search (sendable, crosses) depth 200 fits 20000
