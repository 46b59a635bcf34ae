-- Steps on the stop word keep the rule of the table.
use Rattle.std.proofs.Common.{◌≡◌, ◌∙◌, refl, ap, subst, sym, ⊎_elim, ℕ, ◌++◌, eqb, List, [], ◌∷◌, length-set, set, get_or, get_or-set_same, get_or-set_other, true, arith}
use mathlib.Core.Option as raw
use prog.Atomic.{either}
use lib.ListN.{get_elem?}
use Rattle.atomic_table.specs.Table.{Allows, State, keeps, step as made}
use Rattle.atomic_table.proofs.Lists.{at_set, exchanged}
use Rattle.sb_statements.specs.declared.schedules.Actor.{Actor}
use Rattle.sb_core.specs.Actors.{are_there}
use Rattle.sb_core.specs.Shared.{SharedAt}
use Rattle.sb_core.specs.Worlds.{WorldAt, steps}
use Rattle.sb_shared.specs.Events.{stop_in}
use Rattle.sb_shared.specs.Origins.{start_of}
use Rattle.sb_shared.specs.Parts.{actor_in, told_view}
use Rattle.sb_shared.specs.Plays.{Ended, Failed, Looked, Placed}
use Rattle.sb_shared.specs.Rule.{FitsView, Holds, Shows, Slot, spot, stop_word, turn_word}
use Rattle.sb_shared.specs.declared.stops.Stop.TheVariants.{Finished, OutOfMemory}
use Rattle.sb_shared.specs.declared.views.Event.{Event}
use Rattle.sb_shared.specs.declared.views.Event.TheVariants as event
use Rattle.sb_shared.specs.declared.views.Origin.{Origin}
use Rattle.sb_shared.specs.declared.views.View.{View}
use Rattle.sb_shared.proofs.Happened.{IsQuiet, actors_quiet, begins_more, begins_self, look_quiet, since_of, since_quiet, steps_quiet, stop_more, stop_quiet, stop_small}
use Rattle.sb_shared.proofs.Rows.{spot_small}

shows_stop : (s : SharedAt) (words : List ℕ) (homes : List (raw.Option Slot)) (n : ℕ) → Shows s words homes → Shows s (set words stop_word n) homes
shows_stop s words homes n h =
    record {
      sized = length-set words stop_word n ∙ h.sized;
      rows = λ t c j ht hc hj. get_or-set_other words stop_word (spot t c j) n 0 (λ e. let l = spot_small t c j ht hc hj in absurd (omega (arith, e, l))) ∙ h.rows t c j ht hc hj;
      turn = get_or-set_other words stop_word turn_word n 0 (λ e. absurd (omega (arith, e))) ∙ h.turn;
      slot = h.slot;
    }

-- a seat makes a step on the stop word, which becomes n
module _ (key : Origin) (id : ℕ) (v : View) (e : Event) (quiet : IsQuiet e) where
  module _ (events : List Event) (w : WorldAt) (owner : Actor → ℕ) where
    abbrev after : List Event
    after = events ++ e ∷ []

    other_fits : (j : ℕ) (u : View) → FitsView key events w owner j u → FitsView key after w owner j u
    other_fits j u f =
        record {
          parts = λ n p at_n.
              let g = f.parts n p at_n in
              record { key_is = g.key_is; is = g.is; there = g.there; owned = g.owned; seen = steps_quiet (actor_in p) events e quiet ∙ g.seen };
          apart = f.apart;
          history = begins_more u.history events (e ∷ []) f.history;
          taken = λ n t at_n. let g = f.taken n t at_n in record { since = since_quiet t.parts t.history events e quiet g.since; owned = g.owned };
        }

    my_fits : FitsView key events w owner id v → FitsView key after w owner id (told_view v after)
    my_fits f =
        record {
          parts = λ n p at_n. let g = f.parts n p at_n in record { key_is = g.key_is; is = g.is; there = g.there; owned = g.owned; seen = refl };
          apart = f.apart;
          history = begins_self after after refl;
          taken = λ n t at_n. let g = f.taken n t at_n in record { since = since_quiet t.parts t.history events e quiet g.since; owned = g.owned };
        }

  holds_told : (s : State Slot View) (h : Holds key s) → get_elem? s.views id ≡ raw.some v → (n : ℕ) → n ≡ stop_in (h.0 ++ e ∷ [])
      → Holds key (record { words = set s.words stop_word n; homes = s.homes; views = set s.views id (told_view v (h.0 ++ e ∷ [])) })
  holds_told s h at_id n is =
      let events = h.0 in
      let w = h.1 in
      let owner = h.2 in
      let r = h.3 in
      let now : List Event = events ++ e ∷ [] in
      let sized = r.shows.sized in
      let actors = actors_quiet events e quiet in (
        now,
        w,
        owner,
        record {
          reached = r.reached ∙ ap (λ (l : List Actor). steps key.script.value l (start_of key)) (sym actors);
          there = subst (λ (l : List Actor). are_there key.script.value.targets l ≡ true) (sym actors) r.there;
          world = r.world;
          running = r.running;
          setting = r.setting;
          shows = shows_stop w.shared s.words s.homes n r.shows;
          stop = get_or-set_same s.words stop_word n 0 (omega (arith, sized)) ∙ is;
          seats = λ j x at_j. ⊎_elim
              (λ z. subst (λ k. FitsView key now w owner k x) (sym z.0) (subst (FitsView key now w owner id) z.1 (my_fits events w owner (r.seats id v at_id))))
              (λ z. other_fits events w owner j x (r.seats j x z.1)) (at_set s.views id j (told_view v now) x at_j);
        },
      )

module _ (key : Origin) (slots id : ℕ) (me : Placed) where
  abbrev v : View
  v = me.0

  pub look_allowed : Allows (Holds key) slots id me stop_word (λ n. n) (Looked (made slots stop_word 0 0 raw.none) me)
  look_allowed s h homes at_id small =
      let n : ℕ = get_or s.words stop_word 0 in
      let r = h.3 in
      let is : n ≡ stop_in h.0 = r.stop in
      let more = stop_more h.0 (event.Look ∷ []) in
      let low = stop_small h.0 in (
        told_view v (h.0 ++ event.Look ∷ []),
        keeps,
        tt,
        holds_told key id v event.Look look_quiet s h at_id n (omega (arith, is, more)),
        (omega (arith, is, low), h.0, since_of key h.0 h.1 h.2 id v (r.seats id v at_id), is, refl),
      )

  pub fail_allowed : Allows (Holds key) slots id me stop_word (λ _. 2) (λ _. Failed (made slots stop_word 2 0 raw.none) me 2)
  fail_allowed s h homes at_id small =
      let r = h.3 in
      let more = stop_more h.0 (event.Stop OutOfMemory ∷ []) in
      let low = stop_small h.0 in (
        told_view v (h.0 ++ event.Stop OutOfMemory ∷ []),
        keeps,
        tt,
        holds_told key id v (event.Stop OutOfMemory) (stop_quiet OutOfMemory) s h at_id 2 (omega (arith, more, low)),
        (h.0, since_of key h.0 h.1 h.2 id v (r.seats id v at_id), refl),
      )

  pub end_allowed : Allows (Holds key) slots id me stop_word (λ n. either (eqb n 0) 1 n) (Ended (made slots stop_word 0 1 raw.none) me)
  end_allowed s h homes at_id small =
      let n : ℕ = get_or s.words stop_word 0 in
      let r = h.3 in
      let is : n ≡ stop_in h.0 = r.stop in
      let now : List Event = h.0 ++ event.Stop Finished ∷ [] in
      let more = stop_more h.0 (event.Stop Finished ∷ []) in (
        told_view v now,
        keeps,
        tt,
        exchanged n 0 1 (λ z. Holds key (record { words = set s.words stop_word z; homes = s.homes; views = set s.views id (told_view v now) }))
            (λ e. holds_told key id v (event.Stop Finished) (stop_quiet Finished) s h at_id 1 (omega (arith, is, more, e)))
            (λ ne. holds_told key id v (event.Stop Finished) (stop_quiet Finished) s h at_id n (omega (arith, is, more, ne))),
        (h.0, since_of key h.0 h.1 h.2 id v (r.seats id v at_id), refl),
      )
