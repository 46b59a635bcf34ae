-- Lists of events that grow.
use Rattle.std.proofs.Common.{◌≡◌, ◌≢◌, ◌∙◌, refl, ap, sym, ℕ, ◌+◌, ◌≤◌, ◌++◌, max, Bool, true, false, ◌&&◌, eqb, eq-eqb, cond, nat_lt, List, [], ◌∷◌, length, append_assoc, Some, arith}
use Rattle.std.proofs.lemmas.Bool.{and_parts}
use Rattle.std.proofs.lemmas.Bool.Decides.{nat_tests}
use Rattle.std.proofs.lemmas.List.{append-nil}
use mathlib.Core.Option as raw
use lib.ListN.{get_elem?}
use Rattle.sb_statements.specs.declared.schedules.Actor.{Actor}
use Rattle.sb_statements.specs.declared.schedules.Actor.TheVariants.{Worker, Thread}
use Rattle.sb_core.specs.Worlds.{WorldAt}
use Rattle.sb_shared.specs.Events.{Begins, actors_of, is_same, longer, steps_of, stop_in}
use Rattle.sb_shared.specs.Parts.{actor_in}
use Rattle.sb_shared.specs.Rule.{FitsView}
use Rattle.sb_shared.specs.Steps.{IsSince}
use Rattle.sb_shared.specs.Stops.{stop_number}
use Rattle.sb_shared.specs.declared.stops.Stop.{Stop}
use Rattle.sb_shared.specs.declared.stops.Stop.TheVariants.{Finished, OutOfMemory}
use Rattle.sb_shared.specs.declared.views.Event.{Event}
use Rattle.sb_shared.specs.declared.views.Event.TheVariants as event
use Rattle.sb_shared.specs.declared.views.Origin.{Origin}
use Rattle.sb_shared.specs.declared.views.Part.{Part}
use Rattle.sb_shared.specs.declared.views.View.{View}

-- whether two actors are the same
pub same_true : (a b : Actor) → is_same a b ≡ true → a ≡ b
same_true (Worker t) (Worker u) e = ap Worker (grind (arith, nat_tests, e))
same_true (Thread t k) (Thread u l) e =
    let both = and_parts (eqb t u) (eqb k l) e in
    let one = both.0 in
    let two = both.1 in
    let first : t ≡ u = grind (arith, nat_tests, one) in
    let second : k ≡ l = grind (arith, nat_tests, two) in
    λ i. Thread (first i) (second i)
same_true (Worker t) (Thread u l) e = absurd cc
same_true (Thread t k) (Worker u) e = absurd cc

pub differ : (a b : Actor) → a ≢ b → is_same a b ≡ false
differ a b n = by (is_same a b) refl
  where
    by : (q : Bool) → is_same a b ≡ q → is_same a b ≡ false
    by true e = absurd (n (same_true a b e))
    by false e = e

self_and : (a b : Bool) → a ≡ true → b ≡ true → (a && b) ≡ true
self_and true b e f = f
self_and false b e f = e

pub same_self : (a : Actor) → is_same a a ≡ true
same_self (Worker t) = eq-eqb t t refl
same_self (Thread t k) = self_and (eqb t t) (eqb k k) (eq-eqb t t refl) (eq-eqb k k refl)

-- lists one after another
pub actors_more : (xs ys : List Event) → actors_of (xs ++ ys) ≡ actors_of xs ++ actors_of ys
actors_more [] ys = refl
actors_more (event.Step a ∷ xs) ys = ap (λ l. a ∷ l) (actors_more xs ys)
actors_more (event.Stop s ∷ xs) ys = actors_more xs ys
actors_more (event.Look ∷ xs) ys = actors_more xs ys

plus_more : (n a b c : ℕ) → a ≡ b + c → n + a ≡ n + b + c
plus_more n a b c e = omega (arith, e)

pub steps_more : (a : Actor) (xs ys : List Event) → steps_of a (xs ++ ys) ≡ steps_of a xs + steps_of a ys
steps_more a [] ys = omega arith
steps_more a (event.Step b ∷ xs) ys = plus_more (cond (is_same a b) 1 0) (steps_of a (xs ++ ys)) (steps_of a xs) (steps_of a ys) (steps_more a xs ys)
steps_more a (event.Stop s ∷ xs) ys = steps_more a xs ys
steps_more a (event.Look ∷ xs) ys = steps_more a xs ys

max_more : (n a b c : ℕ) → a ≡ max b c → max n a ≡ max (max n b) c
max_more n a b c e = omega (arith, e)

pub stop_more : (xs ys : List Event) → stop_in (xs ++ ys) ≡ max (stop_in xs) (stop_in ys)
stop_more [] ys = omega arith
stop_more (event.Step a ∷ xs) ys = stop_more xs ys
stop_more (event.Stop s ∷ xs) ys = max_more (stop_number (Some s)) (stop_in (xs ++ ys)) (stop_in xs) (stop_in ys) (stop_more xs ys)
stop_more (event.Look ∷ xs) ys = stop_more xs ys

number_small : (s : Stop) → stop_number (Some s) ≤ 2
number_small Finished = omega arith
number_small OutOfMemory = omega arith

max_small : (a b : ℕ) → a ≤ 2 → b ≤ 2 → max a b ≤ 2
max_small a b l m = omega (arith, l, m)

pub stop_small : (xs : List Event) → stop_in xs ≤ 2
stop_small [] = omega arith
stop_small (event.Step a ∷ xs) = stop_small xs
stop_small (event.Stop s ∷ xs) = max_small (stop_number (Some s)) (stop_in xs) (number_small s) (stop_small xs)
stop_small (event.Look ∷ xs) = stop_small xs

-- an event that is no step of an actor
pub record IsQuiet (e : Event) : Type 0 where
  pub actors : actors_of (e ∷ []) ≡ []
  pub steps : (a : Actor) → steps_of a (e ∷ []) ≡ 0

pub stop_quiet : (s : Stop) → IsQuiet (event.Stop s)
stop_quiet s = record { actors = refl; steps = λ a. refl }

pub look_quiet : IsQuiet event.Look
look_quiet = record { actors = refl; steps = λ a. refl }

pub actors_quiet : (events : List Event) (e : Event) → IsQuiet e → actors_of (events ++ e ∷ []) ≡ actors_of events
actors_quiet events e quiet = actors_more events (e ∷ []) ∙ ap (λ l. actors_of events ++ l) quiet.actors ∙ append-nil (actors_of events)

pub steps_quiet : (a : Actor) (events : List Event) (e : Event) → IsQuiet e → steps_of a (events ++ e ∷ []) ≡ steps_of a events
steps_quiet a events e quiet = let more = steps_more a events (e ∷ []) in let none = quiet.steps a in omega (arith, more, none)

-- a step of an actor
pub actors_step : (events : List Event) (a : Actor) → actors_of (events ++ event.Step a ∷ []) ≡ actors_of events ++ a ∷ []
actors_step events a = actors_more events (event.Step a ∷ [])

pub stop_step : (events : List Event) (a : Actor) → stop_in (events ++ event.Step a ∷ []) ≡ stop_in events
stop_step events a = let more = stop_more events (event.Step a ∷ []) in omega (arith, more)

pub steps_other : (a b : Actor) (events : List Event) → a ≢ b → steps_of a (events ++ event.Step b ∷ []) ≡ steps_of a events
steps_other a b events n =
    let more = steps_more a events (event.Step b ∷ []) in
    let none : cond {A = ℕ} (is_same a b) 1 0 ≡ 0 = ap (λ (q : Bool). cond {A = ℕ} q 1 0) (differ a b n) in
    omega (arith, more, none)

-- what a list begins with
pub begins_self : (first events : List Event) → events ≡ first → Begins first events
begins_self first events e = ([], e ∙ sym (append-nil first))

pub begins_more : (first events more : List Event) → Begins first events → Begins first (events ++ more)
begins_more first events more b = (b.0 ++ more, ap (λ l. l ++ more) b.1 ∙ append_assoc first b.0 more)

pub steps_within : (a : Actor) (first events : List Event) → Begins first events → steps_of a first ≤ steps_of a events
steps_within a first events b =
    let more = steps_more a first b.0 in
    let same = ap (steps_of a) b.1 in
    omega (arith, more, same)

pub two_begin : (xs ys l m : List Event) → xs ++ l ≡ ys ++ m → length xs ≤ length ys → Begins xs ys
two_begin [] ys l m e h = (ys, refl)
two_begin (x ∷ xs) [] l m e h = absurd (omega (arith, h))
two_begin (x ∷ xs) (y ∷ ys) l m e h =
    let first : y ≡ x = cc in
    let rest : xs ++ l ≡ ys ++ m = cc in
    let more = two_begin xs ys l m rest (omega (arith, h)) in
    (more.0, λ i. first i ∷ more.1 i)

-- the longer of two beginnings
pub record IsLonger (xs ys events : List Event) : Type 0 where
  pub whole : Begins (longer xs ys) events
  pub left : Begins xs (longer xs ys)
  pub right : Begins ys (longer xs ys)

abbrev Chosen : List Event → List Event → List Event → Bool → Type 0
Chosen xs ys events q = Begins (cond q ys xs) events × Begins xs (cond q ys xs) × Begins ys (cond q ys xs)

chosen : (xs ys events : List Event) → Begins xs events → Begins ys events → (q : Bool) → nat_lt (length xs) (length ys) ≡ q → Chosen xs ys events q
chosen xs ys events b c true e =
    let less : length xs ≤ length ys = grind (arith, nat_tests, e) in
    (c, two_begin xs ys b.0 c.0 (sym b.1 ∙ c.1) less, begins_self ys ys refl)
chosen xs ys events b c false e =
    let less : length ys ≤ length xs = grind (arith, nat_tests, e) in
    (b, begins_self xs xs refl, two_begin ys xs c.0 b.0 (sym c.1 ∙ b.1) less)

pub is_longer : (xs ys events : List Event) → Begins xs events → Begins ys events → IsLonger xs ys events
is_longer xs ys events b c =
    let h = chosen xs ys events b c (nat_lt (length xs) (length ys)) refl in
    record { whole = h.0; left = h.1; right = h.2 }

-- a seat that has seen all steps of an actor, has seen them still when it has seen more
pub seen_more : (a : Actor) (seen more events : List Event) → steps_of a events ≡ steps_of a seen → Begins seen more → Begins more events → steps_of a events ≡ steps_of a more
seen_more a seen more events e b c =
    let low = steps_within a seen more b in
    let high = steps_within a more events c in
    omega (arith, e, low, high)

-- what happened since a seat made its last step is no step of its actors
pub since_of : (key : Origin) (events : List Event) (w : WorldAt) (owner : Actor → ℕ) (i : ℕ) (v : View) → FitsView key events w owner i v → IsSince v.parts v.history events
since_of key events w owner i v f =
    record {
      since = f.history.0;
      is = f.history.1;
      others = λ n p e.
          let a = actor_in p in
          let seen = (f.parts n p e).seen in
          let more = steps_more a v.history f.history.0 in
          let same = ap (steps_of a) f.history.1 in
          omega (arith, seen, more, same);
    }

-- nor is what happens then, if it is no step of an actor of its own
pub since_step : (parts : List Part) (seen events : List Event) (who : Actor) → IsSince parts seen events
    → ((n : ℕ) (p : Part) → get_elem? parts n ≡ raw.some p → actor_in p ≢ who) → IsSince parts seen (events ++ event.Step who ∷ [])
since_step parts seen events who s apart =
    record {
      since = s.since ++ event.Step who ∷ [];
      is = ap (λ (l : List Event). l ++ event.Step who ∷ []) s.is ∙ append_assoc seen s.since (event.Step who ∷ []);
      others = λ n p e. steps_other (actor_in p) who s.since (apart n p e) ∙ s.others n p e;
    }

pub since_quiet : (parts : List Part) (seen events : List Event) (e : Event) → IsQuiet e → IsSince parts seen events → IsSince parts seen (events ++ e ∷ [])
since_quiet parts seen events e quiet s =
    record {
      since = s.since ++ e ∷ [];
      is = ap (λ (l : List Event). l ++ e ∷ []) s.is ∙ append_assoc seen s.since (e ∷ []);
      others = λ n p at_n. steps_quiet (actor_in p) s.since e quiet ∙ s.others n p at_n;
    }
