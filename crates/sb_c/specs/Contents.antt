-- What is in a handle.
use Rattle.std.specs.Prelude.{Bool, true, false, List, [], Option, None, Some}
use Rattle.sb_rule.specs.declared.policies.Policy.{Policy}
use Rattle.sb_kernel.specs.Namespaces.{Space}
use Rattle.sb_compile.specs.Targets.{TargetPolicies}
use Rattle.sb_host.specs.HostWorkers.{HostAt}
use Rattle.sb_c.specs.Owning.{Content}
use Rattle.sb_c.specs.declared.helds.Held.TheVariants as held

-- the policies, if policies are there
abbrev pub set_of : Content → Option TargetPolicies
set_of (held.Policies set) = Some set
set_of (held.Worker h) = None
set_of (held.Space ns) = None

abbrev pub list_of : Option TargetPolicies → List Policy
list_of None = []
list_of (Some set) = set.policies

-- the policies of a handle, none if it holds no policies
abbrev pub policies_in : Option Content → List Policy
policies_in None = []
policies_in (Some content) = list_of (set_of content)

abbrev pub has_set : Option TargetPolicies → Bool
has_set None = false
has_set (Some set) = true

-- policies may be loaded into a handle that is empty or holds policies
abbrev pub may_load : Option Content → Bool
may_load None = true
may_load (Some content) = has_set (set_of content)

-- the worker, if a worker is there
abbrev pub worker_of : Content → Option HostAt
worker_of (held.Worker h) = Some h
worker_of (held.Policies set) = None
worker_of (held.Space ns) = None

abbrev pub worker_in : Option Content → Option HostAt
worker_in None = None
worker_in (Some content) = worker_of content

-- the namespace, if a namespace is there
abbrev pub space_of : Content → Option Space
space_of (held.Space ns) = Some ns
space_of (held.Policies set) = None
space_of (held.Worker h) = None

abbrev pub space_in : Option Content → Option Space
space_in None = None
space_in (Some content) = space_of content
