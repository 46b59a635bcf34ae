-- The seats with which a run is closed, and its report.
use Rattle.std.proofs.Common.{◌≡◌, refl, sym, subst, ap, ◌∙◌, ℕ, true, List, [], ◌∷◌, map, IfOk, Result, Ok, Err}
use Rattle.std.proofs.lemmas.List.Elements.{All-cons, All-head, All-nil, All-tail}
use Rattle.std.specs.List.{All, AllZip}
use Rattle.atomic_table.specs.Seated.{TableId}
use Rattle.sb_actor.specs.Places.{is_finished}
use Rattle.sb_actor.specs.WorkerStages.{WorkerAt, WorkerStage, Look}
use Rattle.sb_actor.specs.WorkerTable.{is_looking}
use Rattle.sb_book.specs.Readiness.{IsReady}
use Rattle.sb_shared.specs.Closing.{AreFinished, AreThreads, AreWorkers, IsClosed, IsThreadSeat, IsWorkerSeat}
use Rattle.sb_shared.specs.Opening.{target_places}
use Rattle.sb_core.specs.Runs.{IsSomeRun, finished}
use Rattle.sb_book.specs.declared.reports.Report.{Report}
use Rattle.sb_shared.specs.Runs.{AreLooking, ClosedRunsAreRuns}
use Rattle.sb_shared.specs.Seats.{SharedValue, ThreadSeatValue, WorkerSeatValue, fresh_thread, fresh_worker}
use Rattle.sb_shared.specs.declared.closings.ClosedRun.{ClosedRun}
use Rattle.sb_shared.specs.declared.views.Origin.{Origin}
use Rattle.sb_run.specs.Crews.{AreAll}
use Rattle.sb_run.specs.Threads.{HasEnded}
use Rattle.sb_run.specs.Endings.{HasClosed}
use Rattle.sb_run.specs.Openings.{worker_homes}
use Rattle.sb_run.specs.Works.{IsWork, home_of}

-- what the second of each pair has by the first
all_by : {A B : Type 0} (R : A → B → Type 0) (P : A → Type 0) (Q : B → Type 0) → ((x : A) (y : B) → R x y → P x → Q y) → (xs : List A) (ys : List B) → AllZip R xs ys → All P xs → All Q ys
all_by R P Q h [] [] pairs all = All-nil Q
all_by R P Q h [] (y ∷ ys) pairs all = absurd pairs
all_by R P Q h (x ∷ xs) [] pairs all = absurd pairs
all_by R P Q h (x ∷ xs) (y ∷ ys) pairs all = All-cons Q y ys (h x y pairs.0 (All-head P x xs all)) (all_by R P Q h xs ys pairs.1 (All-tail P x xs all))

same_by : {A B C : Type 0} (R : A → B → Type 0) (f : A → C) (g : B → C) → ((x : A) (y : B) → R x y → g y ≡ f x) → (xs : List A) (ys : List B) → AllZip R xs ys → map g ys ≡ map f xs
same_by R f g h [] [] pairs = refl
same_by R f g h [] (y ∷ ys) pairs = absurd pairs
same_by R f g h (x ∷ xs) [] pairs = absurd pairs
same_by R f g h (x ∷ xs) (y ∷ ys) pairs = let one = h x y pairs.0 in let more = same_by R f g h xs ys pairs.1 in cc

-- the places of the threads of these seats
abbrev place_of : ThreadSeatValue → ℕ × ℕ
place_of s = (s.target, s.thread)

pub fresh_places : (table : TableId) (key : Origin) (places : List (ℕ × ℕ)) → map place_of (map (fresh_thread table key) places) ≡ places
fresh_places table key [] = refl
fresh_places table key (p ∷ ps) = ap (λ l. p ∷ l) (fresh_places table key ps)

pub fresh_own : (world : SharedValue) (places : List (ℕ × ℕ)) → All (IsThreadSeat world) (map (fresh_thread world.table world.key) places)
fresh_own world [] = All-nil (IsThreadSeat world)
fresh_own world (p ∷ ps) = All-cons (IsThreadSeat world) (fresh_thread world.table world.key p) (map (fresh_thread world.table world.key) ps) (record { table = refl; key = refl }) (fresh_own world ps)

-- the seats of all threads, once each has ended
module _ (world : SharedValue) (first ended : List ThreadSeatValue) (own : All (IsThreadSeat world) first) (pairs : AllZip HasEnded first ended) where
  pub threads_ended : AreAll world first → AreThreads world ended
  threads_ended all = record {
    each = all_by HasEnded (IsThreadSeat world) (IsThreadSeat world) (λ x y e h. record { table = e.same.table ∙ h.table; key = e.same.key ∙ h.key }) first ended pairs own;
    places = same_by HasEnded place_of place_of (λ x y e. λ k. (e.same.target k, e.same.thread k)) first ended pairs ∙ all;
  }

  pub threads_finished : AreFinished world.key ended
  threads_finished =
      all_by HasEnded (IsThreadSeat world) (λ (s : ThreadSeatValue). is_finished world.key.script.value s.run.thread ≡ true)
      (λ x y e h. subst (λ (key : Origin). is_finished key.script.value y.run.thread ≡ true) (e.same.key ∙ h.key) e.finished) first ended pairs own

-- the workers' seats, by their homes
workers_own : (world : SharedValue) (ts : List ℕ) (seats : List WorkerSeatValue) → map home_of seats ≡ map home_of (map (fresh_worker world.table world.key) ts) → All IsWork seats → All (IsWorkerSeat world) seats
workers_own world ts [] e kept = All-nil (IsWorkerSeat world)
workers_own world [] (s ∷ seats) e kept = absurd (cc)
workers_own world (t ∷ ts) (s ∷ seats) e kept =
    let same : home_of s ≡ home_of (fresh_worker world.table world.key t) = cc in
    let more : map home_of seats ≡ map home_of (map (fresh_worker world.table world.key) ts) = cc in
    All-cons (IsWorkerSeat world) s seats
    (record { table = ap (λ (z : WorkerSeatValue). z.table) same; key = ap (λ (z : WorkerSeatValue). z.key) same; without = (All-head IsWork s seats kept).without })
    (workers_own world ts seats more (All-tail IsWork s seats kept))

workers_placed : (table : TableId) (key : Origin) (ts : List ℕ) (seats : List WorkerSeatValue) → map home_of seats ≡ map home_of (map (fresh_worker table key) ts) → map (λ (s : WorkerSeatValue). s.target) seats ≡ ts
workers_placed table key [] [] e = refl
workers_placed table key (t ∷ ts) [] e = absurd (cc)
workers_placed table key [] (s ∷ seats) e = absurd (cc)
workers_placed table key (t ∷ ts) (s ∷ seats) e =
    let same : home_of s ≡ home_of (fresh_worker table key t) = cc in
    let more : map home_of seats ≡ map home_of (map (fresh_worker table key) ts) = cc in
    let one : s.target ≡ t = ap (λ (z : WorkerSeatValue). z.target) same in
    let rest = workers_placed table key ts seats more in
    cc

looks_at : (stage : WorkerStage) → is_looking stage ≡ true → stage ≡ Look
looks_at Look e = refl
looks_at _ e = absurd (cc)

workers_look : (seats : List WorkerSeatValue) → All IsWork seats → AreLooking (map (λ (s : WorkerSeatValue). s.state) seats)
workers_look [] kept = All-nil (λ (x : WorkerAt). x.stage ≡ Look)
workers_look (s ∷ seats) kept =
    All-cons (λ (x : WorkerAt). x.stage ≡ Look) s.state (map (λ (z : WorkerSeatValue). z.state) seats) (looks_at s.state.stage (All-head IsWork s seats kept).looking)
    (workers_look seats (All-tail IsWork s seats kept))

pub are_workers : (world : SharedValue) (seats : List WorkerSeatValue) → map home_of seats ≡ worker_homes world → All IsWork seats → AreWorkers world seats
are_workers world seats homes kept = record {
  each = workers_own world (target_places world.key.script.value.targets) seats homes kept;
  places = workers_placed world.table world.key (target_places world.key.script.value.targets) seats homes;
}

pub has_closed : ClosedRunsAreRuns → (key : Origin) (threads : List ThreadSeatValue) (seats : List WorkerSeatValue) (run : ClosedRun)
    → IsReady key.policies.value.list key.script.value → IsClosed key seats threads run → run.workers.items ≡ map (λ (s : WorkerSeatValue). s.state) seats → AreFinished key threads → All IsWork seats
    → HasClosed key run
has_closed law key threads seats run ready closed states finished kept = record {
  runs = law key seats threads run ready closed (subst AreLooking (sym states) (workers_look seats kept)) finished;
  setting = closed.setting;
}

-- so its report is that of the script's run by that order
pub some_run : {E : Type 0} (key : Origin) (run : ClosedRun) (result : Result Report E) → HasClosed key run → IfOk result (λ r. r ≡ finished run.words run.workers.items run.book run.results)
    → IfOk result (λ r. IsSomeRun key.policies.value.list key.script.value r)
some_run key run (Ok report) closed is = record {
  schedule = closed.runs.schedule;
  can = closed.runs.can;
  no_rounds = closed.runs.no_rounds;
  finished = closed.runs.unfinished;
  is = is ∙ closed.runs.report;
}
some_run key run (Err refused) closed is = tt
