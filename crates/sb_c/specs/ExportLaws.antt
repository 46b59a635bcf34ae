-- What a function for C makes of a worker is what a call of its host makes of it, so each law of hosts holds of these functions.
use Rattle.std.specs.Prelude.{◌≡◌, ℕ, true, List, length}
use Rattle.sb_rule.specs.Verdicts.{policy_at}
use Rattle.sb_rule.specs.declared.policies.Policy.{Policy}
use Rattle.sb_host.specs.HostLaws.{AnswerWith, DecideBy, Found, Loaded, Stored, after_call}
use Rattle.sb_host.specs.HostWorkers.{HostAt, after_answer, after_decision, after_loads, after_stores, can_decide, host_plan}
use Rattle.sb_c.specs.Workers.{answer_in, found_at, step_found}
use Rattle.sb_c.specs.declared.shapes.HostAnswer.{HostAnswer}

-- `sb_worker_after` tells what a step found
abbrev pub StepsAreCalls : Type 0
StepsAreCalls = (h : HostAt) (found : ℕ) → step_found found h ≡ after_call h (Found (found_at (host_plan h) found))

-- `sb_worker_loaded` tells what loads in a row found
abbrev pub LoadsAreCalls : Type 0
LoadsAreCalls = (h : HostAt) (values : List ℕ) → after_loads h values ≡ after_call h (Loaded values)

-- `sb_worker_stored` tells how many stores in a row were made
abbrev pub StoresAreCalls : Type 0
StoresAreCalls = (h : HostAt) (count : ℕ) → after_stores h count ≡ after_call h (Stored count)

-- `sb_worker_decide` gives a policy to decide by
abbrev pub DecisionsAreCalls : Type 0
DecisionsAreCalls = (h : HostAt) (policies : List Policy) (number : ℕ) → can_decide h (length policies) number ≡ true
    → after_decision h (policy_at policies number) ≡ after_call h (DecideBy (policy_at policies number))

-- `sb_worker_reply` gives the host's answer
abbrev pub RepliesAreCalls : Type 0
RepliesAreCalls = (h : HostAt) (answer : HostAnswer) → after_answer h (answer_in answer) ≡ after_call h (AnswerWith (answer_in answer))
