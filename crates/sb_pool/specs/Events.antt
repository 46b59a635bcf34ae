-- The history of a pool, and how each step changes what a seat knows of it.
use Rattle.std.specs.Prelude.{◌≡◌, ⊤, ℕ, ◌+◌, ◌-◌, ◌++◌, ◌==◌, cond, nat_lt, List, [], ◌∷◌, length, replicate}
use Rattle.sb_pool.specs.declared.events.PoolEvent.{PoolEvent}
use Rattle.sb_pool.specs.declared.events.PoolEvent.TheVariants.{Put, Draw, Look}
use Rattle.sb_pool.specs.declared.events.SeatHistory.{SeatHistory}

-- events weighed and added up
abbrev pub weigh : (PoolEvent → ℕ) → List PoolEvent → ℕ
weigh h [] = 0
weigh h (e ∷ events) = h e + weigh h events

-- one for each put
abbrev pub put_weight : PoolEvent → ℕ
put_weight (Put seat) = 1
put_weight (Draw seat) = 0
put_weight (Look seat) = 0

-- one for each draw
abbrev pub draw_weight : PoolEvent → ℕ
draw_weight (Put seat) = 0
draw_weight (Draw seat) = 1
draw_weight (Look seat) = 0

-- n works are in after these events: those that were put, without those that were drawn
abbrev pub AreIn : List PoolEvent → ℕ → Type 0
AreIn events n = n + weigh draw_weight events ≡ weigh put_weight events

-- the events begin with the first ones
abbrev pub Begins : List PoolEvent → List PoolEvent → Type 0
Begins first events = (later : List PoolEvent) × (events ≡ first ++ later)

-- each of these is a beginning of the events
abbrev pub AllBegin : List (List PoolEvent) → List PoolEvent → Type 0
AllBegin [] events = ⊤
AllBegin (first ∷ more) events = Begins first events × AllBegin more events

-- the longer of two lists
abbrev pub longer : List PoolEvent → List PoolEvent → List PoolEvent
longer a b = cond (nat_lt (length a) (length b)) b a

-- the first seat of a pool, once it has put all works in
abbrev pub first_history : ℕ → ℕ → SeatHistory
first_history works seats =
    record { number = 0; made = 0; seats = seats; out = 0; history = replicate works (Put 0); own = replicate works (Put 0); taken = [] }

-- a seat of which one more was made
abbrev pub parted : SeatHistory → SeatHistory
parted v = record v { made = v.made + 1; seats = v.seats - 1 }

-- the seat that was made: it knows what the other knew, and has no event of its own
abbrev pub newcomer_history : SeatHistory → SeatHistory
newcomer_history v = record { number = v.made + 1; made = 0; seats = 1; out = 0; history = v.history; own = []; taken = [] }

-- seat n of those that were made, this many of `many`: the first one put all works in
abbrev pub dealt_history : ℕ → ℕ → ℕ → ℕ → SeatHistory
dealt_history works many made n =
    cond (n == 0) (record (first_history works (many + 1 - made)) { made = made - 1 })
    (record { number = n; made = 0; seats = 1; out = 0; history = replicate works (Put 0); own = []; taken = [] })

-- a seat that took in another
abbrev pub joined_history : SeatHistory → SeatHistory → SeatHistory
joined_history v w =
    record v { seats = v.seats + w.seats; out = v.out + w.out; history = longer v.history w.history; own = v.own ++ w.own; taken = v.history ∷ w.history ∷ v.taken ++ w.taken }

-- a seat that was taken in knows nothing more
abbrev pub spent_history : SeatHistory
spent_history = record { number = 0; made = 0; seats = 0; out = 0; history = []; own = []; taken = [] }

-- a seat that has seen what was before, and then made an event, after which this many works are out with it
abbrev pub with_event : SeatHistory → List PoolEvent → PoolEvent → ℕ → SeatHistory
with_event v before event out = record v { out = out; history = before ++ event ∷ []; own = v.own ++ event ∷ [] }

-- The seat put a work in, after all that it knew and what others did since
pub record IsPut (old new : SeatHistory) : Type 0 where
  pub before : List PoolEvent
  pub began : Begins old.history before
  pub is : new ≡ with_event old before (Put old.number) (old.out - 1)

-- The seat drew a work, after all that it knew and what others did since, when some work was in
pub record IsDraw (old new : SeatHistory) : Type 0 where
  pub before : List PoolEvent
  pub began : Begins old.history before
  pub some : (n : ℕ) × AreIn before (n + 1)
  pub is : new ≡ with_event old before (Draw old.number) (old.out + 1)

-- The seat looked, after all that it knew and what others did since, when no work was in
pub record IsLook (old new : SeatHistory) : Type 0 where
  pub before : List PoolEvent
  pub began : Begins old.history before
  pub none : AreIn before 0
  pub is : new ≡ with_event old before (Look old.number) old.out

-- One list has all events of a pool whose seats came together in this one. Each seat saw a beginning of it; it has the events that the seats made, each as
-- often as one made it, and no others; and after it all works are in.
pub record IsClosed (works : ℕ) (v : SeatHistory) : Type 0 where
  pub events : List PoolEvent
  pub began : Begins v.history events
  pub taken : AllBegin v.taken events
  pub own : (h : PoolEvent → ℕ) → weigh h events ≡ weigh h v.own
  pub all_in : AreIn events works
