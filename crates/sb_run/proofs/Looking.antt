-- A worker that is looking does not have the turn; what a look at the stop word, or a stop that was set, says of it.
use Rattle.std.proofs.Common.{◌≡◌, ◌∙◌, ◌<◌, ◌≤◌, ◌++◌, ℕ, true, false, refl, ap, List, [], ◌∷◌, Option, None, Some, is_some, max, Result, Ok, Err, OnErr, arith}
use Rattle.sb_actor.specs.WorkerStages.{WorkerStage, Look}
use Rattle.sb_actor.specs.WorkerTable.{is_looking}
use Rattle.sb_book.specs.Histories.{History}
use Rattle.sb_core.specs.Kept.{has_turn}
use Rattle.sb_shared.specs.Events.{stop_in}
use Rattle.sb_shared.specs.Seats.{IsLook, IsStop}
use Rattle.sb_shared.specs.Stops.{stop_number}
use Rattle.sb_shared.specs.declared.stops.Stop.{Stop}
use Rattle.sb_shared.specs.declared.stops.Stop.TheVariants.{Finished, OutOfMemory}
use Rattle.sb_shared.specs.declared.views.Event.{Event}
use Rattle.sb_shared.specs.declared.views.Event.TheVariants as event
use Rattle.sb_shared.specs.declared.views.Part.{Part}

none_if : {X : Type 0} (x : Option X) → false ≡ is_some x → x ≡ None
none_if None e = refl
none_if (Some y) e = absurd (cc)

pub looks_without : (stage : WorkerStage) (book : Option History) → is_looking stage ≡ true → has_turn stage ≡ is_some book → book ≡ None
looks_without Look book e h = none_if book h
looks_without _ book e h = absurd (cc)

-- the stop word only grows
more : (n a b c : ℕ) → a ≡ max b c → max n a ≡ max (max n b) c
more n a b c e = omega (arith, e)

stop_after : (xs ys : List Event) → stop_in (xs ++ ys) ≡ max (stop_in xs) (stop_in ys)
stop_after [] ys = omega arith
stop_after (event.Step a ∷ xs) ys = stop_after xs ys
stop_after (event.Stop s ∷ xs) ys = more (stop_number (Some s)) (stop_in (xs ++ ys)) (stop_in xs) (stop_in ys) (stop_after xs ys)
stop_after (event.Look ∷ xs) ys = stop_after xs ys

some_number : (stop : Option Stop) → is_some stop ≡ true → 0 < stop_number stop
some_number None e = absurd cc
some_number (Some Finished) e = omega arith
some_number (Some OutOfMemory) e = omega arith

-- a seat that saw a stop knows of one that was set
pub knows_stop : (parts : List Part) (seen : List Event) (stop : Option Stop) (now : List Event) → IsLook parts seen stop now → is_some stop ≡ true → 0 < stop_in now
knows_stop parts seen stop now look some =
    let same = ap stop_in look.made in
    let grown = stop_after look.before (event.Look ∷ []) in
    let set = some_number stop some in
    let is = look.is in
    omega (arith, same, grown, set, is)

-- and one that set a stop
pub set_stop : (parts : List Part) (seen : List Event) (stop : Stop) (now : List Event) → IsStop parts seen stop now → stop_number (Some stop) ≤ stop_in now
set_stop parts seen stop now set =
    let same = ap stop_in set.made in
    let grown = stop_after set.before (event.Stop stop ∷ []) in
    omega (arith, same, grown)

small : (s : Stop) → stop_number (Some s) ≤ 2
small Finished = omega arith
small OutOfMemory = omega arith

both_small : (a b : ℕ) → a ≤ 2 → b ≤ 2 → max a b ≤ 2
both_small a b l m = omega (arith, l, m)

stop_small : (xs : List Event) → stop_in xs ≤ 2
stop_small [] = omega arith
stop_small (event.Step a ∷ xs) = stop_small xs
stop_small (event.Stop s ∷ xs) = both_small (stop_number (Some s)) (stop_in xs) (small s) (stop_small xs)
stop_small (event.Look ∷ xs) = stop_small xs

pub out_of_memory : (parts : List Part) (seen now : List Event) → IsStop parts seen OutOfMemory now → stop_in now ≡ 2
out_of_memory parts seen now set =
    let low = set_stop parts seen OutOfMemory now set in
    let high = stop_small now in
    omega (arith, low, high)

-- it is so after an error, since it is so
pub after_error : {T E : Type 0} (r : Result T E) (P : Type 0) → P → OnErr r P
after_error (Ok x) P p = tt
after_error (Err e) P p = p
