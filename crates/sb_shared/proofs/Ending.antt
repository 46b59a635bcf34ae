-- A closed run is a run of the core.
use Rattle.std.proofs.Common.{◌≡◌, ◌∙◌, refl, ap, subst, sym, ℕ, zero, suc, ◌<◌, List, [], ◌∷◌, length, get_or, arith}
use Rattle.sb_actor.specs.WorkerStages.{WorkerAt, Look}
use Rattle.sb_book.specs.Histories.{History}
use Rattle.sb_statements.specs.declared.results.StmtResult.{StmtResult}
use Rattle.sb_core.specs.Laws.{EndsAreRuns, EndsCanFinish}
use Rattle.sb_core.specs.Reports.{results_of}
use Rattle.sb_core.specs.Runs.{CanFinish, finished, schedule_of}
use Rattle.sb_core.specs.Worlds.{no_worker, worker_at}
use Rattle.sb_shared.specs.Events.{actors_of}
use Rattle.sb_shared.specs.Runs.{AreLooking, ClosedRunsAreRuns}

-- a worker that is not there looks too
each_looks : (workers : List WorkerAt) → AreLooking workers → (t : ℕ) → (get_or workers t no_worker).stage ≡ Look
each_looks [] all t = refl
each_looks (x ∷ xs) all zero = all 0 no_worker (omega arith)
each_looks (x ∷ xs) all (suc t) = each_looks xs (λ k d l. all (suc k) d (omega (arith, l))) t

abbrev Parts : Type 0
Parts = List (List ℕ) × List WorkerAt × History × List (List (List StmtResult))

pub closed_runs_are_runs : EndsAreRuns → EndsCanFinish → ClosedRunsAreRuns
closed_runs_are_runs ends can key workers seats run ready c looking done =
    let policies = key.policies.value.list in
    let script = key.script.value in
    let w = c.world in
    let actors = actors_of c.events in
    let over = c.finished done in
    let end = ends policies script actors w ready c.there c.reached over c.turn in
    let looks : (t : ℕ) → t < length script.targets → (worker_at w t).stage ≡ Look =
    λ t l. ap (λ (ws : List WorkerAt). (get_or ws t no_worker).stage) (sym c.states) ∙ each_looks run.workers.items looking t in
    let same : (w.shared.words, w.workers, w.shared.book, results_of w.threads) ≡ (run.words, run.workers.items, run.book, run.results) =
    λ i. (sym c.words i, sym c.states i, sym c.book i, sym c.results i) in
    record {
      schedule = schedule_of actors;
      can = end.can;
      no_rounds = refl;
      unfinished = end.unfinished;
      finishes = subst (λ (z : Parts). CanFinish script z.0 z.1 z.2 z.3) same (can policies script actors w ready c.there c.reached over looks).1;
      report = (λ i. finished (c.words i) (c.states i) (c.book i) (c.results i)) ∙ end.finishes;
    }
