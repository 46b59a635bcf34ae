-- What the table asks of a step on a word.
use Rattle.std.proofs.Common.{◌≡◌, refl, ap, subst, sym, ℕ, ◌+◌, ◌*◌, ◌++◌, true, eqb, cond, List, [], ◌∷◌, set, get_or}
use mathlib.Core.Option as raw
use prog.Atomic.{either}
use lib.ListN.{get_elem?}
use Rattle.atomic_table.specs.Table.{State, keeps}
use Rattle.sb_actor.specs.declared.acts.Act.{Act}
use Rattle.sb_actor.specs.declared.acts.Act.TheVariants as act
use Rattle.sb_actor.specs.Observations as seen
use Rattle.sb_statements.specs.declared.statements.Word.{Word}
use Rattle.sb_core.specs.Shared.{IsActThere, Sets, changed, on_word}
use Rattle.sb_core.specs.Words.{IsWordThere, exchanged}
use Rattle.sb_statements.specs.declared.schedules.Actor.{Actor}
use Rattle.sb_core.specs.Worlds.{WorldAt, step}
use Rattle.sb_shared.specs.Laws.{Laws}
use Rattle.sb_shared.specs.Parts.{actor_in, first_part, is_on_word, plan_in, seen_of, word_view}
use Rattle.sb_shared.specs.Plays.{IsShown, IsSpot, MayStep}
use Rattle.sb_shared.specs.Rule.{Holds, RuleAt, Shows, Slot, spot, stop_word}
use Rattle.sb_shared.specs.Standing.{AllStand}
use Rattle.sb_shared.specs.declared.views.Event.{Event}
use Rattle.sb_shared.specs.declared.views.Event.TheVariants as event
use Rattle.sb_shared.specs.declared.views.Origin.{Origin}
use Rattle.sb_shared.specs.declared.views.Part.{Part}
use Rattle.sb_shared.specs.declared.views.View.{View}
use Rattle.sb_shared.proofs.Advancing.{advance_word, placed_plan, shown_word, stands_word}
use Rattle.sb_shared.proofs.Rows.{found_is, shows_exchange, shows_load, shows_store, stop_stays}

spot_is : (lists : List (List ℕ)) (t k : ℕ) (word : Word) → IsWordThere lists t word → IsSpot t word k → k ≡ spot t word.channel word.at
spot_is lists t k word near is = is near.target near.channel near.low

module _ (laws : Laws) (key : Origin) (slots id : ℕ) (v : View) (out : List (ℕ × Slot)) (p : Part) (one : v.parts ≡ p ∷ []) where
  abbrev seen_at : ℕ → View → Type 0
  seen_at n u = IsShown v u (seen_of (plan_in v.key.script.value (first_part v.parts)) n)

  -- with a step after these
  abbrev after : List Event → List Event
  after events = events ++ event.Step (actor_in p) ∷ []

  module _ (s : State Slot View) (events : List Event) (w : WorldAt) (owner : Actor → ℕ)
      (r : RuleAt key s.words s.homes s.views events w owner) (at_id : get_elem? s.views id ≡ raw.some v) where
    abbrev After : ℕ → List ℕ → Type 0
    After n words =
        Holds key (record { words = words; homes = s.homes; views = set s.views id (word_view v n (after events)) })
        × AllStand v.key (word_view v n (after events)).parts × seen_at n (word_view v n (after events))

    near_to : (a : Act) → plan_in v.key.script.value p ≡ a → IsActThere w.shared.words a
    near_to a e = subst (IsActThere w.shared.words) e (placed_plan laws key s.words s.homes s.views events w owner r id v p at_id one)

    goes : (a : Act) → plan_in v.key.script.value p ≡ a → is_on_word a ≡ true → (n : ℕ) (words : List ℕ) → (on_word w.shared a).seen ≡ seen_of a n
        → Shows (on_word w.shared a).shared words s.homes → get_or words stop_word 0 ≡ get_or s.words stop_word 0 → After n words
    goes a e on n words seen shows stop =
        let on_plan = subst (λ z. is_on_word z ≡ true) (sym e) on in
        let seen_plan = subst (λ z. (on_word w.shared z).seen ≡ seen_of z n) (sym e) seen in (
          (
            after events,
            step key.script.value w (actor_in p),
            owner,
            advance_word laws key s.words s.homes s.views events w owner r id v p at_id one n on_plan seen_plan words
                (subst (λ z. Shows (on_word w.shared z).shared words s.homes) (sym e) shows) stop,
          ),
          stands_word laws key s.words s.homes s.views events w owner r id v p at_id one n on_plan seen_plan,
          shown_word laws key s.words s.homes s.views events w owner r id v p at_id one n on_plan seen_plan,
        )

    load_goes : (t k : ℕ) (word : Word) → plan_in v.key.script.value p ≡ act.Load t word → IsSpot t word k → After (get_or s.words k 0) (set s.words k (get_or s.words k 0))
    load_goes t k word e is =
        let near : IsWordThere w.shared.words t word = near_to (act.Load t word) e in
        subst (λ z. After (get_or s.words z 0) (set s.words z (get_or s.words z 0))) (sym (spot_is w.shared.words t k word near is))
        (goes (act.Load t word) e refl (get_or s.words (spot t word.channel word.at) 0) (set s.words (spot t word.channel word.at) (get_or s.words (spot t word.channel word.at) 0))
        (ap seen.Value (found_is w.shared s.words s.homes r.shows t word near)) (shows_load w.shared s.words s.homes r.shows t word near)
        (stop_stays s.words t word.channel word.at (get_or s.words (spot t word.channel word.at) 0) near.target near.channel near.low))

    store_goes : (t k x : ℕ) (word : Word) → plan_in v.key.script.value p ≡ act.Store t word x → IsSpot t word k → After x (set s.words k x)
    store_goes t k x word e is =
        let near : IsWordThere w.shared.words t word = near_to (act.Store t word x) e in
        subst (λ z. After x (set s.words z x)) (sym (spot_is w.shared.words t k word near is))
        (goes (act.Store t word x) e refl x (set s.words (spot t word.channel word.at) x) refl (shows_store w.shared s.words s.homes r.shows t word near x)
        (stop_stays s.words t word.channel word.at x near.target near.channel near.low))

    exchange_goes : (t k from to : ℕ) (word : Word) → plan_in v.key.script.value p ≡ act.Exchange t word from to → IsSpot t word k
        → After (get_or s.words k 0) (set s.words k (either (eqb (get_or s.words k 0) from) to (get_or s.words k 0)))
    exchange_goes t k from to word e is =
        let near : IsWordThere w.shared.words t word = near_to (act.Exchange t word from to) e in
        let here : ℕ = spot t word.channel word.at in
        let n : ℕ = get_or s.words here 0 in
        let found = found_is w.shared s.words s.homes r.shows t word near in
        subst (λ z. After (get_or s.words z 0) (set s.words z (either (eqb (get_or s.words z 0) from) to (get_or s.words z 0)))) (sym (spot_is w.shared.words t k word near is))
        (goes (act.Exchange t word from to) e refl n (set s.words here (either (eqb n from) to n)) (ap seen.Value found)
        (subst (λ z. Shows (changed w.shared (Sets t word (exchanged z from to))) (set s.words here (either (eqb n from) to n)) s.homes) (sym found)
        (shows_exchange w.shared s.words s.homes r.shows t word near to (eqb n from)))
        (stop_stays s.words t word.channel word.at (either (eqb n from) to n) near.target near.channel near.low))

  may_load : (t : ℕ) (word : Word) → plan_in v.key.script.value p ≡ act.Load t word → MayStep key slots id (v, out) (act.Load t word)
  may_load t word e k is s h homes at_id small =
      let n : ℕ = get_or s.words k 0 in
      let made = load_goes s h.0 h.1 h.2 h.3 at_id t k word e is in
      (word_view v n (after h.0), keeps, tt, made.0, (refl, made.1, made.2))

  may_store : (t : ℕ) (word : Word) (x : ℕ) → plan_in v.key.script.value p ≡ act.Store t word x → MayStep key slots id (v, out) (act.Store t word x)
  may_store t word x e k is s h homes at_id small =
      let made = store_goes s h.0 h.1 h.2 h.3 at_id t k x word e is in
      (word_view v x (after h.0), keeps, tt, made.0, (refl, made.1, made.2))

  may_exchange : (t : ℕ) (word : Word) (from to : ℕ) → plan_in v.key.script.value p ≡ act.Exchange t word from to → MayStep key slots id (v, out) (act.Exchange t word from to)
  may_exchange t word from to e k is s h homes at_id small =
      let n : ℕ = get_or s.words k 0 in
      let made = exchange_goes s h.0 h.1 h.2 h.3 at_id t k from to word e is in
      (word_view v n (after h.0), keeps, tt, made.0, (refl, made.1, made.2))

  -- the step of a seat's actor by its plan; one that is not on a word asks for nothing
  pub may_step : (a : Act) → plan_in v.key.script.value p ≡ a → MayStep key slots id (v, out) a
  may_step (act.Load t word) e = may_load t word e
  may_step (act.Store t word x) e = may_store t word x e
  may_step (act.Exchange t word from to) e = may_exchange t word from to e
  may_step _ e = tt
