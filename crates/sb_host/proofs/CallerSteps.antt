-- The steps of a call that waits for ever are ones that a caller may make.
use Rattle.std.specs.Prelude.{nat_lt, slice_index, unwrap_or, is_some}
use Rattle.std.proofs.Common.{◌≡◌, ◌∙◌, ℕ, ◌+◌, ◌<◌, Bool, true, false, ◌==◌, ◌&&◌, List, [], ◌∷◌, ◌++◌, length, take, Option, Some, refl, sym, ap, subst, arith}
use Rattle.std.proofs.lemmas.Bool.{false≢true}
use Rattle.std.proofs.lemmas.Bool.Decides.{nat_tests}
use Rattle.std.proofs.lemmas.List.{length-replicate, length-take-le, take_all, take_more}
use Rattle.sb_actor.specs.Acts.{abandoned, acknowledged, busy, free}
use Rattle.sb_actor.specs.Moves.{Deed, IsBlock, at, take_it, fill, send, wait, fetch, thread_view}
use Rattle.sb_actor.specs.Moves as deed
use Rattle.sb_actor.specs.Ranges.{IsSoundThreadStage}
use Rattle.sb_actor.specs.ThreadStages.{ThreadStage, Try, Fill, Send, Wait, Fetch, Free, Abandon, Stray, Over}
use Rattle.sb_actor.specs.Ties.{thread_deed, thread_place_of}
use Rattle.sb_actor.specs.Views.{EndedCall, ThreadView}
use Rattle.sb_actor.specs.Views as view
use Rattle.sb_statements.specs.declared.results.CallResult.{CallResult}
use Rattle.sb_host.specs.Calls.{CallAt, call_after}
use Rattle.sb_host.specs.ChannelLaws.{CallGoes, CallsGoAsCallers, all_clean, is_giving_up}

-- a view and a call of their parts
abbrev shown : ℕ → ℕ → List EndedCall → List ℕ → ThreadStage → ThreadView
shown k n ended_calls block s = record { number = k; clean = all_clean n; place = thread_place_of block s; ended_calls = ended_calls }

abbrev waiter : ℕ → List ℕ → Option CallResult → ThreadStage → CallAt
waiter n block r s = record { channels = n; patience = 0; block = block; stage = s; result = r }

-- the view after the step shows the stage after it
abbrev Placed : ThreadStage → Deed → ℕ → ℕ → List EndedCall → List ℕ → Option CallResult → ℕ → Type 0
Placed s d k n ended_calls block r x = (thread_view (shown k n ended_calls block s) d x).place ≡ thread_place_of block (call_after (waiter n block r s) x).stage

-- what is shown at a stage
abbrev Goes : ThreadStage → Deed → Type 0
Goes s d = (k n : ℕ) (ended_calls : List EndedCall) (block : List ℕ) (r : Option CallResult) (x : ℕ) → IsSoundThreadStage n 1 block s → IsBlock k block
    → CallGoes (shown k n ended_calls block s) (waiter n block r s) d x

within : (c n : ℕ) → c < n → c < length (all_clean n)
within c n h = subst (λ m. c < m) (sym (length-replicate n true)) h

none_after : (c n : ℕ) → (c + 1 == n) ≡ true → nat_lt (c + 1) n ≡ false
none_after c n e = grind (arith, nat_tests, e)

some_after : (c n : ℕ) → c < n → (c + 1 == n) ≡ false → nat_lt (c + 1) n ≡ true
some_after c n h e = grind (arith, nat_tests, h, e)

counted : (c n : ℕ) (b : Bool) → nat_lt (c + 1) n ≡ b → nat_lt (c + 1) (length (all_clean n)) ≡ b
counted c n b e = ap (λ m. nat_lt (c + 1) m) (length-replicate n true) ∙ e

tries : (c rounds : ℕ) (all_abandoned : Bool) → Goes (Try c rounds all_abandoned) take_it
tries c rounds all_abandoned k n ended_calls block r x sound whole = record {
  may = (within c n sound.0, refl);
  writes = refl;
  place = by (x == free) refl;
}
  where
    round : (a : Bool) → (x == free) ≡ false → (c + 1 == n) ≡ true → (all_abandoned && x == abandoned) ≡ a
        → Placed (Try c rounds all_abandoned) take_it k n ended_calls block r x
    round true e l a = rw (e, counted c n false (none_after c n l), l, a) refl
    round false e l a = rw (e, counted c n false (none_after c n l), l, a) refl

    next : (l : Bool) → (x == free) ≡ false → (c + 1 == n) ≡ l → Placed (Try c rounds all_abandoned) take_it k n ended_calls block r x
    next true e l = round (all_abandoned && x == abandoned) e l refl
    next false e l = rw (e, counted c n true (some_after c n sound.0 l), l) refl

    by : (b : Bool) → (x == free) ≡ b → Placed (Try c rounds all_abandoned) take_it k n ended_calls block r x
    by true e = rw (e) refl
    by false e = next (c + 1 == n) e refl

fills : (c i k n : ℕ) (ended_calls : List EndedCall) (block : List ℕ) (r : Option CallResult) (x : ℕ)
    → IsSoundThreadStage n 1 block (Fill c i) → IsBlock k block
    → CallGoes (shown k n ended_calls block (Fill c i)) (waiter n block r (Fill c i)) (fill (slice_index block i)) x
fills c i k n ended_calls block r x sound whole = record {
  may = (within c n sound.0, ap (λ m. at c (1 + m)) (sym size), small);
  writes = refl;
  place = by (i + 1 == length block) refl;
}
  where
    size : length (take i block) ≡ i
    size = length-take-le i block (omega (arith, sound.1))

    small : length (take i block) < 64
    small = let high = whole.high in let inside = sound.1 in subst (λ m. m < 64) (sym size) (omega (arith, high, inside))

    more : take (i + 1) block ≡ take i block ++ slice_index block i ∷ []
    more = take_more block i 0 sound.1

    by : (b : Bool) → (i + 1 == length block) ≡ b → Placed (Fill c i) (fill (slice_index block i)) k n ended_calls block r x
    by true e = rw (e) (ap (λ words. view.Fill c words) (sym more ∙ take_all (i + 1) block (grind (arith, nat_tests, e))))
    by false e = rw (e) (ap (λ words. view.Fill c words) (sym more))

sends : (c : ℕ) → Goes (Send c) send
sends c k n ended_calls block r x sound whole = record { may = (within c n sound, refl, whole); writes = refl; place = by (x == busy) refl }
  where
    by : (b : Bool) → (x == busy) ≡ b → Placed (Send c) send k n ended_calls block r x
    by true e = rw (e) refl
    by false e = rw (e) refl

waits : (c loads : ℕ) → Goes (Wait c loads) wait
waits c loads k n ended_calls block r x sound whole = record { may = (within c n sound.0, refl); writes = refl; place = by (x == acknowledged) refl }
  where
    by : (b : Bool) → (x == acknowledged) ≡ b → Placed (Wait c loads) wait k n ended_calls block r x
    by true e = rw (e) refl
    by false e = rw (e) refl

fetches : (c : ℕ) (words : List ℕ) → Goes (Fetch c words) fetch
fetches c words k n ended_calls block r x sound whole = record {
  may = (within c n sound.0, omega arith, sound.1);
  writes = refl;
  place = by (length (words ++ x ∷ []) == 12) refl;
}
  where
    by : (b : Bool) → (length (words ++ x ∷ []) == 12) ≡ b → Placed (Fetch c words) fetch k n ended_calls block r x
    by true e = rw (e) refl
    by false e = rw (e) refl

frees : (c : ℕ) (words : List ℕ) → Goes (Free c words) deed.free
frees c words k n ended_calls block r x sound whole = record { may = (within c n sound.0, refl, sound.1); writes = refl; place = refl }

-- the kind of a step is the one that its stage has
of_kind : (d e : Deed) → Some d ≡ Some e → d ≡ e
of_kind d e h = ap (λ o. unwrap_or o d) h

steps : (s : ThreadStage) (d : Deed) (k n : ℕ) (ended_calls : List EndedCall) (block : List ℕ) (r : Option CallResult) (x : ℕ)
    → IsSoundThreadStage n 1 block s → is_giving_up s ≡ false → IsBlock k block → thread_deed block s ≡ Some d
    → CallGoes (shown k n ended_calls block s) (waiter n block r s) d x
steps (Try c rounds all_abandoned) d k n ended_calls block r x sound keeps whole is =
    subst (λ d. CallGoes (shown k n ended_calls block (Try c rounds all_abandoned)) (waiter n block r (Try c rounds all_abandoned)) d x) (of_kind take_it d is)
    (tries c rounds all_abandoned k n ended_calls block r x sound whole)
steps (Fill c i) d k n ended_calls block r x sound keeps whole is =
    subst (λ d. CallGoes (shown k n ended_calls block (Fill c i)) (waiter n block r (Fill c i)) d x) (of_kind (fill (slice_index block i)) d is)
    (fills c i k n ended_calls block r x sound whole)
steps (Send c) d k n ended_calls block r x sound keeps whole is =
    subst (λ d. CallGoes (shown k n ended_calls block (Send c)) (waiter n block r (Send c)) d x) (of_kind send d is) (sends c k n ended_calls block r x sound whole)
steps (Wait c loads) d k n ended_calls block r x sound keeps whole is =
    subst (λ d. CallGoes (shown k n ended_calls block (Wait c loads)) (waiter n block r (Wait c loads)) d x) (of_kind wait d is)
    (waits c loads k n ended_calls block r x sound whole)
steps (Fetch c words) d k n ended_calls block r x sound keeps whole is =
    subst (λ d. CallGoes (shown k n ended_calls block (Fetch c words)) (waiter n block r (Fetch c words)) d x) (of_kind fetch d is)
    (fetches c words k n ended_calls block r x sound whole)
steps (Free c words) d k n ended_calls block r x sound keeps whole is =
    subst (λ d. CallGoes (shown k n ended_calls block (Free c words)) (waiter n block r (Free c words)) d x) (of_kind deed.free d is)
    (frees c words k n ended_calls block r x sound whole)
steps (Abandon c) d k n ended_calls block r x sound keeps whole is = absurd (false≢true (sym keeps))
steps (Stray loads most) d k n ended_calls block r x sound keeps whole is = absurd (false≢true (ap is_some is))
steps Over d k n ended_calls block r x sound keeps whole is = absurd (false≢true (ap is_some is))

pub as_callers : CallsGoAsCallers
as_callers v y d x shows waits is =
    let same_view : v ≡ shown v.number y.channels v.ended_calls y.block y.stage = (λ i. record { number = v.number; clean = shows.clean i; place = shows.place i; ended_calls = v.ended_calls }) in
    let same_call : y ≡ waiter y.channels y.block y.result y.stage =
    (λ i. record { channels = y.channels; patience = waits.patience i; block = y.block; stage = y.stage; result = y.result }) in
    subst (λ v'. CallGoes v' y d x) (sym same_view)
    (subst (λ y'. CallGoes (shown v.number y.channels v.ended_calls y.block y.stage) y' d x) (sym same_call)
    (steps y.stage d v.number y.channels v.ended_calls y.block y.result x waits.sound waits.keeps waits.block is))
