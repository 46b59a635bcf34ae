-- The worlds of a script: the start, steps and drains lead to one.
use Rattle.std.proofs.Common.{◌≡◌, ◌∙◌, refl, ap, sym, true, List, [], ◌∷◌, ◌++◌, ℕ, ◌<◌, length}
use Rattle.sb_core.proofs.Names.{Actor, CanRun, drained, DrainsAreOfScripts, is_there, IsOfScript, IsReady, IsRunning, IsWorld, played, Policy, Schedule, Script, SoundStatements, SoundTargets, start_world, StartsAreOfScripts, step, steps, StepsAreOfScripts, Thread, threads_at, Worker, worker_step, WorldAt, WorldsOfScriptsRun}
use Rattle.sb_core.proofs.Folding.{steps_append}
use Rattle.sb_core.proofs.Running.{step_keeps, thread_is_there, worker_is_there}
use Rattle.sb_core.proofs.Stepping.{Leads, kept_along, leads_by, leads_drain, leads_run, all_append, single}
use Rattle.sb_core.proofs.Starting.{starts_keep}

pub of_start : StartsAreOfScripts
of_start policies script h = record { policies = policies; actors = []; ready = h; there = refl; reached = refl }

-- further steps
pub of_more : (script : Script) (w v : WorldAt) → Leads script w v → IsOfScript script w → IsOfScript script v
of_more script w v leads o = record {
  policies = o.policies;
  actors = o.actors ++ leads.actors;
  ready = o.ready;
  there = all_append (is_there script.targets) o.actors leads.actors o.there leads.there;
  reached = leads.reached ∙ (ap (steps script leads.actors) o.reached ∙ sym (steps_append script o.actors leads.actors (start_world o.policies script)));
}

pub of_step : StepsAreOfScripts
of_step script w actor o h = of_more script w (step script w actor) (leads_by script (actor ∷ []) w (single (is_there script.targets) actor h)) o

pub of_drain : (script : Script) (w : WorldAt) → IsWorld w → IsRunning script w → IsOfScript script w → IsOfScript script (drained w)
of_drain script w kept runs o = of_more script w (drained w) (leads_drain script w kept runs) o

-- the steps of a world of a script, from its start
pub leads_of : (script : Script) (w : WorldAt) → (o : IsOfScript script w) → Leads script (start_world o.policies script) w
leads_of script w o = record { actors = o.actors; there = o.there; reached = o.reached }

-- what every world keeps, and what a world keeps of its script

pub of_runs : SoundTargets → SoundStatements → WorldsOfScriptsRun
of_runs targets statements script w o =
    let start = starts_keep targets statements o.policies script o.ready in
    kept_along script (λ v. IsWorld v × IsRunning script v) (λ v actor both e. step_keeps statements script v actor both.0 both.1 e) (start_world o.policies script) w (leads_of script w o) start

-- a run, and its drain
pub of_run : (policies : List Policy) (script : Script) (schedule : Schedule) → CanRun policies script schedule → IsOfScript script (played policies script schedule)
of_run policies script schedule can = of_more script (start_world policies script) (played policies script schedule) (leads_run script policies schedule can) (of_start policies script can.ready)

pub of_end : SoundTargets → SoundStatements → (policies : List Policy) (script : Script) (schedule : Schedule) → CanRun policies script schedule → IsOfScript script (drained (played policies script schedule))
of_end targets statements policies script schedule can =
    let w = played policies script schedule in
    let o = of_run policies script schedule can in
    let keeps = of_runs targets statements script w o in
    of_drain script w keeps.0 keeps.1 o

pub of_drains : SoundTargets → SoundStatements → DrainsAreOfScripts
of_drains targets statements script w o = let keeps = of_runs targets statements script w o in of_drain script w keeps.0 keeps.1 o

-- a world of a script with what it keeps
pub record Keeps (script : Script) (P : WorldAt → Type 0) (w : WorldAt) : Type 0 where
  pub kept : IsWorld w
  pub runs : IsRunning script w
  pub has : P w

-- what holds at the start, and is kept by each step of a worker and of a thread that is there, holds of each world that steps lead to
module _ (targets : SoundTargets) (statements : SoundStatements) (script : Script) (P : WorldAt → Type 0)
    (worker : (w : WorldAt) (t : ℕ) → Keeps script P w → t < length w.workers → P (worker_step w t))
    (thread : (w : WorldAt) (t k : ℕ) → Keeps script P w → k < length (threads_at w t) → P (step script w (Thread t k))) where
  keeps_step : (w : WorldAt) (actor : Actor) → Keeps script P w → is_there script.targets actor ≡ true → Keeps script P (step script w actor)
  keeps_step w (Worker t) h e =
      let next = step_keeps statements script w (Worker t) h.kept h.runs e in
      record { kept = next.0; runs = next.1; has = worker w t h (worker_is_there script w t h.kept h.runs e) }
  keeps_step w (Thread t k) h e =
      let next = step_keeps statements script w (Thread t k) h.kept h.runs e in
      record { kept = next.0; runs = next.1; has = thread w t k h (thread_is_there script w t k h.runs e) }

  pub holds_on : (policies : List Policy) → IsReady policies script → P (start_world policies script) → (w : WorldAt) → Leads script (start_world policies script) w → Keeps script P w
  holds_on policies ready start w leads =
      let first = starts_keep targets statements policies script ready in
      kept_along script (Keeps script P) keeps_step (start_world policies script) w leads (record { kept = first.0; runs = first.1; has = start })
