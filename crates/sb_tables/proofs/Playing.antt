-- Seats that are made, make a step among others, and are left at the end.
use Rattle.std.proofs.Common.{◌≡◌, ◌∙◌, ◌<◌, refl, sym, ap, subst, ℕ, Bool, true, false, List, [], ◌∷◌, ◌++◌, map, length, take, None, Option, Some, is_some, slice_index_or}
use Rattle.std.proofs.Math.ListN.{set, get_or, get_or-map}
use Rattle.std.proofs.Math.Seq.{map-set_same, take-append_seam}
use Rattle.std.proofs.lemmas.Bool.{or_parts}
use Rattle.std.proofs.lemmas.List.Elements.{All-cons, All-map, All-nil, All-set}
use Rattle.std.proofs.lemmas.List.{ext_get_or, length-map}
use Rattle.std.specs.List.{All, list_any}
use Rattle.sb_actor.specs.WorkerStages.{WorkerAt, WorkerStage, Look, Count, End, Copy, Take, Answer, Give, Reply, Ack}
use Rattle.sb_actor.specs.WorkerTable.{worker_plan}
use Rattle.sb_actor.specs.declared.acts.Act.{Act}
use Rattle.sb_actor.specs.declared.acts.Act.TheVariants as act
use Rattle.sb_book.specs.Histories.{History}
use Rattle.sb_core.specs.Kept.{has_turn}
use Rattle.sb_shared.specs.Closing.{AreThreads, AreWorkers, IsThreadSeat, IsWorkerOf}
use Rattle.sb_shared.specs.Opening.{target_places, thread_places}
use Rattle.sb_shared.specs.Seats.{IsSameThread, IsSameWorker, SharedValue, ThreadSeatValue, WorkerSeatValue, fresh_thread, fresh_worker}
use Rattle.sb_statements.specs.declared.scripts.Script.{Script}
use Rattle.sb_tables.specs.Players.{AreHere}

abbrev target_of : WorkerSeatValue → ℕ
target_of s = s.target

abbrev pair : ℕ → ℕ → ℕ × ℕ
pair t k = (t, k)

abbrev place_of : ThreadSeatValue → ℕ × ℕ
place_of s = pair s.target s.thread

-- the seats with which a world opens
fresh_targets : (world : SharedValue) (ts : List ℕ) → map target_of (map (fresh_worker world.table world.key) ts) ≡ ts
fresh_targets world [] = refl
fresh_targets world (t ∷ ts) = ap (λ l. t ∷ l) (fresh_targets world ts)

fresh_places : (world : SharedValue) (ps : List (ℕ × ℕ)) → map place_of (map (fresh_thread world.table world.key) ps) ≡ ps
fresh_places world [] = refl
fresh_places world (p ∷ ps) = ap (λ l. p ∷ l) (fresh_places world ps)

workers_on : (world : SharedValue) (ts : List ℕ) → ts ≡ target_places world.key.script.value.targets → AreHere world (map (fresh_worker world.table world.key) ts)
workers_on world ts e = record {
  each = All-map (IsWorkerOf world) (fresh_worker world.table world.key) ts (λ k d l. record { table = refl; key = refl });
  places = fresh_targets world ts ∙ e;
}

pub fresh_workers : (world : SharedValue) (script : Script) (seats : List WorkerSeatValue) → world.key.script.value ≡ script
    → seats ≡ map (fresh_worker world.table world.key) (target_places script.targets) → AreHere world seats
fresh_workers world script seats key made =
    subst (λ l. AreHere world l) (sym made) (workers_on world (target_places script.targets) (ap (λ (s : Script). target_places s.targets) (sym key)))

threads_on : (world : SharedValue) (ps : List (ℕ × ℕ)) → ps ≡ thread_places world.key.script.value.targets → AreThreads world (map (fresh_thread world.table world.key) ps)
threads_on world ps e = record {
  each = All-map (IsThreadSeat world) (fresh_thread world.table world.key) ps (λ k d l. record { table = refl; key = refl });
  places = fresh_places world ps ∙ e;
}

pub fresh_threads : (world : SharedValue) (script : Script) (seats : List ThreadSeatValue) → world.key.script.value ≡ script
    → seats ≡ map (fresh_thread world.table world.key) (thread_places script.targets) → AreThreads world seats
fresh_threads world script seats key made =
    subst (λ l. AreThreads world l) (sym made) (threads_on world (thread_places script.targets) (ap (λ (s : Script). thread_places s.targets) (sym key)))

-- a worker has made steps among others
pub worker_set : (world : SharedValue) (seats : List WorkerSeatValue) (at : ℕ) (old new : WorkerSeatValue) → AreHere world seats → at < length seats
    → old ≡ get_or seats at old → IsSameWorker old new → AreHere world (set seats at new)
worker_set world seats at old new h low read same =
    let here : IsWorkerOf world old = subst (λ s. IsWorkerOf world s) (sym read) (h.each at old low) in
    record {
      each = All-set (IsWorkerOf world) seats at new (record { table = same.table ∙ here.table; key = same.key ∙ here.key }) h.each;
      places = map-set_same target_of seats at new old (same.target ∙ ap target_of read) ∙ h.places;
    }

-- and a thread
pub thread_set : (world : SharedValue) (seats : List ThreadSeatValue) (at : ℕ) (old new : ThreadSeatValue) → AreThreads world seats → at < length seats
    → old ≡ get_or seats at old → IsSameThread old new → AreThreads world (set seats at new)
thread_set world seats at old new h low read same =
    let here : IsThreadSeat world old = subst (λ s. IsThreadSeat world s) (sym read) (h.each at old low) in
    let place : place_of new ≡ place_of old = ap (λ (t : ℕ). pair t new.thread) same.target ∙ ap (λ (k : ℕ). pair old.target k) same.thread in
    record {
      each = All-set (IsThreadSeat world) seats at new (record { table = same.table ∙ here.table; key = same.key ∙ here.key }) h.each;
      places = map-set_same place_of seats at new old (place ∙ ap place_of read) ∙ h.places;
    }

-- a worker has the turn if its next step is at Answer or Give
abbrev is_turn_plan : Act → Bool
is_turn_plan act.Answer = true
is_turn_plan act.Give = true
is_turn_plan _ = false

turn_plan_at : (t n c : ℕ) (stage : WorkerStage) → has_turn stage ≡ is_turn_plan (worker_plan (record { target = t; channels = n; channel = c; stage = stage }))
turn_plan_at t n c Look = refl
turn_plan_at t n c Count = refl
turn_plan_at t n c (End m) = refl
turn_plan_at t n c (Copy m end words) = refl
turn_plan_at t n c (Take taken) = refl
turn_plan_at t n c (Answer taken) = refl
turn_plan_at t n c (Give taken reply) = refl
turn_plan_at t n c (Reply taken reply m) = refl
turn_plan_at t n c (Ack taken reply) = refl

pub turn_plans : (w : WorkerAt) → has_turn w.stage ≡ is_turn_plan (worker_plan w)
turn_plans w = turn_plan_at w.target w.channels w.channel w.stage

-- no worker has the turn
no_book : (o : Option History) → is_some o ≡ false → o ≡ None
no_book None h = refl
no_book (Some b) h = absurd (cc)

none_held : (seats : List WorkerSeatValue) → list_any (λ s. is_some s.book) seats ≡ false → All (λ s. is_some s.book ≡ false) seats
none_held [] h = All-nil (λ s. is_some s.book ≡ false)
none_held (s ∷ seats) h =
    let parts = or_parts (is_some s.book) (list_any (λ s. is_some s.book) seats) h in
    All-cons (λ s. is_some s.book ≡ false) s seats parts.0 (none_held seats parts.1)

pub seats_left : (world : SharedValue) (seats : List WorkerSeatValue) → AreHere world seats → list_any (λ s. is_some s.book) seats ≡ false → AreWorkers world seats
seats_left world seats h free = record {
  each = λ k d l. record { table = (h.each k d l).table; key = (h.each k d l).key; without = no_book (slice_index_or seats k d).book (none_held seats free k d l) };
  places = h.places;
}

-- each seat made steps of its own
pub workers_same : (world : SharedValue) (xs ys : List WorkerSeatValue) → AreHere world xs → length ys ≡ length xs
    → ((i : ℕ) (d : WorkerSeatValue) → i < length xs → IsSameWorker (slice_index_or xs i d) (slice_index_or ys i d)) → AreHere world ys
workers_same world xs ys h len same = record {
  each = λ k d l. record {
    table = (same k d (within k l)).table ∙ (h.each k d (within k l)).table;
    key = (same k d (within k l)).key ∙ (h.each k d (within k l)).key;
  };
  places = ext_get_or (target_of first) (map target_of ys) (map target_of xs) (length-map ys target_of ∙ len ∙ sym (length-map xs target_of)) at ∙ h.places;
}
  where
    within : (k : ℕ) → k < length ys → k < length xs
    within k l = subst (λ n. k < n) len l

    first : WorkerSeatValue
    first = fresh_worker world.table world.key 0

    at : (i : ℕ) → i < length (map target_of ys) → get_or (map target_of ys) i (target_of first) ≡ get_or (map target_of xs) i (target_of first)
    at i l =
        let low : i < length ys = subst (λ n. i < n) (length-map ys target_of) l in
        get_or-map target_of ys i first ∙ (same i first (within i low)).target ∙ sym (get_or-map target_of xs i first)

pub threads_same : (world : SharedValue) (xs ys : List ThreadSeatValue) → AreThreads world xs → length ys ≡ length xs
    → ((i : ℕ) (d : ThreadSeatValue) → i < length xs → IsSameThread (slice_index_or xs i d) (slice_index_or ys i d)) → AreThreads world ys
threads_same world xs ys h len same = record {
  each = λ k d l. record {
    table = (same k d (within k l)).table ∙ (h.each k d (within k l)).table;
    key = (same k d (within k l)).key ∙ (h.each k d (within k l)).key;
  };
  places = ext_get_or (place_of first) (map place_of ys) (map place_of xs) (length-map ys place_of ∙ len ∙ sym (length-map xs place_of)) at ∙ h.places;
}
  where
    within : (k : ℕ) → k < length ys → k < length xs
    within k l = subst (λ n. k < n) len l

    first : ThreadSeatValue
    first = fresh_thread world.table world.key (pair 0 0)

    at : (i : ℕ) → i < length (map place_of ys) → get_or (map place_of ys) i (place_of first) ≡ get_or (map place_of xs) i (place_of first)
    at i l =
        let low : i < length ys = subst (λ n. i < n) (length-map ys place_of) l in
        let s = same i first (within i low) in
        let one : place_of (get_or ys i first) ≡ place_of (get_or xs i first) =
        ap (λ (t : ℕ). pair t (get_or ys i first).thread) s.target ∙ ap (λ (k : ℕ). pair (get_or xs i first).target k) s.thread in
        get_or-map place_of ys i first ∙ one ∙ sym (get_or-map place_of xs i first)

-- what is written back to a list that is as long as before
pub whole : {A : Type 0} (n : ℕ) (ys tail : List A) → length ys ≡ n → ys ≡ take n (ys ++ tail)
whole n ys tail e = subst (λ m. ys ≡ take m (ys ++ tail)) e (sym (take-append_seam ys tail))
