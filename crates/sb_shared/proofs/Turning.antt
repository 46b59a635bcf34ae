-- Steps on the turn keep the rule of the table.
use Rattle.std.proofs.Common.{◌≡◌, ◌≢◌, ◌∙◌, refl, ap, subst, sym, ℕ, ◌+◌, ◌*◌, ◌<◌, ◌++◌, Bool, true, false, eqb, eq-eqb, ne_eqb, List, [], ◌∷◌, map, length-set, set, get_or, get_or-set_same, get_or-set_other, Option, None, Some, is_none, if◌then◌else◌, arith, MatchBool}
use Rattle.std.proofs.lemmas.Bool.Decides.{nat_tests}
use Rattle.std.proofs.lemmas.List.{set-get_or}
use mathlib.Core.Option as raw
use mathlib.Core.Option.{some-ne-none}
use prog.Atomic.{either}
use lib.ListN.{get_elem?}
use Rattle.atomic_table.specs.Table.{State, Act as TableAct, keeps, takes, gives, Allows, Valid, stepped, carried_after, step as made}
use Rattle.sb_actor.specs.WorkerStages.{WorkerAt}
use Rattle.sb_actor.specs.WorkerTable.{worker_plan, worker_after, taken_in}
use Rattle.sb_actor.specs.declared.acts.Act.{Act}
use Rattle.sb_actor.specs.declared.acts.Act.TheVariants as act
use Rattle.sb_actor.specs.Observations as seen
use Rattle.sb_block.specs.Copies.{Copied, mark_of}
use Rattle.sb_book.specs.Histories.{History, answered, reply_of, target_decision}
use Rattle.sb_statements.specs.declared.schedules.Actor.{Actor}
use Rattle.sb_statements.specs.declared.schedules.Actor.TheVariants.{Worker}
use Rattle.sb_core.specs.Shared.{SharedAt, Effect, finds, on_worker, turn_taken, on_answer}
use Rattle.sb_core.specs.Worlds.{WorldAt, worker_at, step}
use Rattle.sb_shared.specs.Laws.{Laws}
use Rattle.sb_shared.specs.Parts.{answer_to, given_view, held_by, answered_part, answered_view, missed_view, moved_view, part_of, shown_part, taken_view}
use Rattle.sb_shared.specs.Plays.{Gave, IsShown, HasAnswered, Placed, Took, Tried}
use Rattle.sb_shared.specs.Rule.{FitsPart, Holds, RuleAt, Shows, Slot, slot_of, spot, stop_word, turn_number, turn_word}
use Rattle.sb_shared.specs.Seats.{worker_in}
use Rattle.sb_shared.specs.Standing.{AllStand}
use Rattle.sb_shared.specs.declared.views.Event.{Event}
use Rattle.sb_shared.specs.declared.views.Event.TheVariants as event
use Rattle.sb_shared.specs.declared.views.Origin.{Origin}
use Rattle.sb_shared.specs.declared.views.Part.{Part}
use Rattle.sb_shared.specs.declared.views.Part.TheVariants as part
use Rattle.sb_shared.specs.declared.views.View.{View}
use Rattle.sb_shared.proofs.Advancing.{advance, mine, shown, stands_after}
use Rattle.sb_shared.proofs.Rows.{spot_small}
use Rattle.sb_shared.proofs.Standing.{worker_moved}

abbrev state_in : Part → WorkerAt
state_in p = (worker_in (p ∷ [])).state

abbrev book_in : Part → Option History
book_in p = (worker_in (p ∷ [])).book

-- whose turn the turn word says
none_of : (o : Option ℕ) → turn_number o ≡ 0 → o ≡ None
none_of None e = refl
none_of (Some t) e = absurd (omega arith)

some_of : (o : Option ℕ) → turn_number o ≢ 0 → (h : ℕ) × (o ≡ Some h)
some_of None n = absurd (n refl)
some_of (Some h) n = (h, refl)

-- who has the book
pub has_it : (t : ℕ) (book : History) → held_by (Some t) book t ≡ Some book
has_it t book = ap (λ (b : Bool). if b then Some book else None) (eq-eqb t t refl)

has_not : (t u : ℕ) (book : History) → u ≢ t → held_by (Some t) book u ≡ None
has_not t u book n = ap (λ (b : Bool). if b then Some book else None) (ne_eqb t u (λ e. n (sym e)))

holder_is : (o : Option ℕ) (mine book : History) (t : ℕ) → Some mine ≡ held_by o book t → (o ≡ Some t) × (mine ≡ book)
holder_is None mine book t e = absurd (cc)
holder_is (Some h) mine book t e = by (eqb h t) refl e
  where
    by : (b : Bool) → eqb h t ≡ b → Some mine ≡ (if b then Some book else None) → (Some h ≡ Some t) × (mine ≡ book)
    by true q e = (ap Some (grind (arith, nat_tests, q)), cc)
    by false q e = absurd (cc)

-- the place of the book
first_set : {A : Type 0} (xs : List A) (x y : A) → get_elem? xs 0 ≡ raw.some x → get_elem? (set xs 0 y) 0 ≡ raw.some y
first_set [] x y e = absurd (some-ne-none x (sym e))
first_set (z ∷ xs) x y e = refl

-- the turn word is set
shows_turn : (s : SharedAt) (words : List ℕ) (homes homes_after : List (raw.Option Slot)) → Shows s words homes → (turn : Option ℕ) (book : History)
    → get_elem? homes_after 0 ≡ raw.some (slot_of turn book)
    → Shows (record { words = s.words; turn = turn; book = book }) (set words turn_word (turn_number turn)) homes_after
shows_turn s words homes homes_after h turn book slot =
    record {
      sized = length-set words turn_word (turn_number turn) ∙ h.sized;
      rows = λ t c j ht hc hj. get_or-set_other words turn_word (spot t c j) (turn_number turn) 0 (λ e. let l = spot_small t c j ht hc hj in absurd (omega (arith, e, l))) ∙ h.rows t c j ht hc hj;
      turn = get_or-set_same words turn_word (turn_number turn) 0 (let s = h.sized in omega (arith, s));
      slot = slot;
    }

stop_kept : (words : List ℕ) (n : ℕ) → get_or (set words turn_word n) stop_word 0 ≡ get_or words stop_word 0
stop_kept words n = get_or-set_other words turn_word stop_word n 0 (λ e. absurd (omega (arith, e)))

-- what the book answers depends on the book alone
answer_seen : (s u : SharedAt) (t : ℕ) (x : WorkerAt) (c : Option Copied) → s.book ≡ u.book → (on_answer s t x c).seen ≡ (on_answer u t x c).seen
answer_seen s u t x None e = refl
answer_seen s u t x (Some taken) e = ap (λ (b : History). seen.Answered (reply_of b.space t (mark_of taken) (target_decision b t taken))) e

answer_book : (s u : SharedAt) (t : ℕ) (x : WorkerAt) (c : Option Copied) → s.book ≡ u.book → (on_answer s t x c).shared.book ≡ (on_answer u t x c).shared.book
answer_book s u t x None e = e
answer_book s u t x (Some taken) e = ap (λ (b : History). answered b t x.channel taken (target_decision b t taken)) e

answer_turn : (s : SharedAt) (t : ℕ) (x : WorkerAt) (c : Option Copied) → (on_answer s t x c).shared.turn ≡ s.turn
answer_turn s t x None = refl
answer_turn s t x (Some taken) = refl

answer_words : (s : SharedAt) (t : ℕ) (x : WorkerAt) (c : Option Copied) → (on_answer s t x c).shared.words ≡ s.words
answer_words s t x None = refl
answer_words s t x (Some taken) = refl

module _ (laws : Laws) (key : Origin) (slots id : ℕ) (v : View) (out : List (ℕ × Slot)) (t : ℕ) (x : WorkerAt) (b : Option History) (one : v.parts ≡ part.Worker t x b ∷ []) where
  abbrev Outcome : Bool → ℕ → Placed → Type 0
  Outcome q n after = MatchBool q (Took (v, out) after) (after ≡ (missed_view v n after.0.history, out))

  -- with a step after these
  abbrev pub after_step : List Event → List Event
  after_step events = events ++ event.Step (Worker t) ∷ []

  module _ (s : State Slot View) (events : List Event) (w : WorldAt) (owner : Actor → ℕ)
      (r : RuleAt key s.words s.homes s.views events w owner) (at_id : get_elem? s.views id ≡ raw.some v) where
    abbrev now : List Event
    now = after_step events

    abbrev me_of : FitsPart key events w owner id v (part.Worker t x b)
    me_of = mine laws key s.words s.homes s.views events w owner r id v (part.Worker t x b) at_id one

    state_is : x ≡ worker_at w t
    state_is = ap state_in me_of.is

    book_is : b ≡ held_by w.shared.turn w.shared.book t
    book_is = ap book_in me_of.is

    -- a step on the turn, with what it shows and leaves
    turns : (a : Act) → worker_plan x ≡ a → (e : Effect) → on_worker w.shared t x a ≡ e → (f : Part → Part) (book : Option History) (n : ℕ)
        → f (part.Worker t x b) ≡ part.Worker t (worker_after x e.seen) book → held_by e.shared.turn e.shared.book t ≡ book
        → ((u : ℕ) → u ≢ t → held_by e.shared.turn e.shared.book u ≡ held_by w.shared.turn w.shared.book u)
        → (words : List ℕ) (homes : List (raw.Option Slot)) → Shows e.shared words homes → get_or words stop_word 0 ≡ get_or s.words stop_word 0
        → Holds key (record { words = words; homes = homes; views = set s.views id (moved_view v (map f v.parts) n now) }) × AllStand v.key (map f v.parts)
        × IsShown v (moved_view v (map f v.parts) n now) e.seen
    turns a plan e effect f book n part_is held others words homes shows stop =
        let script = key.script.value in
        let same : on_worker w.shared t (worker_at w t) (worker_plan (worker_at w t)) ≡ e =
        (λ i. on_worker w.shared t (sym state_is i) (worker_plan (sym state_is i))) ∙ ap (on_worker w.shared t x) plan ∙ effect in
        let shared : (step script w (Worker t)).shared ≡ e.shared = ap (λ (z : Effect). z.shared) same in
        let moved : worker_at (step script w (Worker t)) t ≡ worker_after x e.seen =
        worker_moved script w r.world r.running t me_of.there ∙ (λ i. worker_after (sym state_is i) (same i).seen) in
        let mine_after : part_of (step script w (Worker t)) (Worker t) ≡ part.Worker t (worker_after x e.seen) book =
        (λ i. part.Worker t (moved i) (held_by (shared i).turn (shared i).book t)) ∙ ap (part.Worker t (worker_after x e.seen)) held in
        let parts_after : map f v.parts ≡ f (part.Worker t x b) ∷ [] = ap (map f) one in (
          (
            now,
            step script w (Worker t),
            owner,
            advance laws key s.words s.homes s.views events w owner r id v (part.Worker t x b) at_id one
                (moved_view v (map f v.parts) n now) (f (part.Worker t x b)) words homes refl parts_after refl refl (part_is ∙ sym mine_after)
                (subst (λ z. Shows z words homes) (sym shared) shows) stop
                (λ u apart. (λ i. held_by (shared i).turn (shared i).book u) ∙ others u (λ q. apart (ap Worker (sym q)))),
          ),
          stands_after laws key s.words s.homes s.views events w owner r id v (part.Worker t x b) at_id one
              (moved_view v (map f v.parts) n now) (f (part.Worker t x b)) refl parts_after (part_is ∙ sym mine_after),
          shown laws key s.words s.homes s.views events w owner r id v (part.Worker t x b) at_id one
              (moved_view v (map f v.parts) n now) (f (part.Worker t x b)) parts_after refl (part_is ∙ sym mine_after) e.seen
              (sym ((λ i. (on_worker w.shared t x (plan i)).seen) ∙ ap (λ (z : Effect). z.seen) effect)),
        )

    -- a try to take the turn
    abbrev TryLeaves : Bool → Type 0
    TryLeaves q =
        (u : View) × (a : TableAct Slot) × Valid s.homes out a × Holds key (stepped s turn_word (either q (t + 1) (get_or s.words turn_word 0)) id out u a)
        × (Outcome q (get_or s.words turn_word 0) (u, carried_after out a) × AllStand u.key u.parts × IsShown v u (seen.Turn q))

    tried : worker_plan x ≡ act.Take → b ≡ None → (q : Bool) → eqb (get_or s.words turn_word 0) 0 ≡ q → TryLeaves q
    tried plan without true e =
        let zero_word : get_or s.words turn_word 0 ≡ 0 = grind (arith, nat_tests, e) in
        let free : w.shared.turn ≡ None = none_of w.shared.turn (sym r.shows.turn ∙ zero_word) in
        let book : History = w.shared.book in
        let there : get_elem? s.homes 0 ≡ raw.some (raw.some (Some book)) = r.shows.slot ∙ ap (λ o. raw.some (slot_of o book)) free in
        let after : SharedAt = record { words = w.shared.words; turn = Some t; book = book } in
        let turned =
        turns act.Take plan (finds (seen.Turn true) after) (λ i. finds (seen.Turn (is_none (free i))) (record w.shared { turn = turn_taken t (free i) }))
        (shown_part (seen.Turn true) (Some book)) (Some book) 0 refl (has_it t book)
        (λ u n. has_not t u book n ∙ sym (ap (λ o. held_by o book u) free))
        (set s.words turn_word (t + 1)) (set s.homes 0 raw.none)
        (shows_turn w.shared s.words s.homes (set s.homes 0 raw.none) r.shows (Some t) book (first_set s.homes (raw.some (Some book)) raw.none there))
        (stop_kept s.words (t + 1)) in
        (taken_view v book now, takes 0 (Some book), there, turned.0, ((book, refl), turned.1, turned.2))
    tried plan without false e =
        let n : ℕ = get_or s.words turn_word 0 in
        let held_word : n ≢ 0 = λ z. grind (arith, nat_tests, e, z) in
        let holder = some_of w.shared.turn (λ z. held_word (r.shows.turn ∙ z)) in
        let h = holder.0 in
        let mine_none : held_by w.shared.turn w.shared.book t ≡ None = sym book_is ∙ without in
        let turned =
        turns act.Take plan (finds (seen.Turn false) w.shared)
        ((λ i. finds (seen.Turn (is_none (holder.1 i))) (record w.shared { turn = turn_taken t (holder.1 i) }))
        ∙ (λ i. finds (seen.Turn false) (record w.shared { turn = sym holder.1 i })))
        (shown_part (seen.Turn false) None) None n refl mine_none (λ u ne. refl)
        (set s.words turn_word n) s.homes (subst (λ z. Shows w.shared z s.homes) (sym (set-get_or s.words turn_word 0)) r.shows) (stop_kept s.words n) in
        (missed_view v n now, keeps, tt, turned.0, (refl, turned.1, turned.2))

  pub try_allowed : worker_plan x ≡ act.Take → b ≡ None → Allows (Holds key) slots id (v, out) turn_word (λ n. either (eqb n 0) (t + 1) n) (Tried (made slots turn_word 0 (t + 1) raw.none) (v, out))
  try_allowed plan without s h homes at_id small = tried s h.0 h.1 h.2 h.3 at_id plan without (eqb (get_or s.words turn_word 0) 0) refl

-- the book answers the worker that has it
module _ (laws : Laws) (key : Origin) (slots id : ℕ) (v : View) (out : List (ℕ × Slot)) (t : ℕ) (x : WorkerAt) (book : History) (one : v.parts ≡ part.Worker t x (Some book) ∷ []) where
  pub answer_allowed : worker_plan x ≡ act.Answer → Allows (Holds key) slots id (v, out) turn_word (λ n. n) (HasAnswered (made slots turn_word 0 0 raw.none) (v, out))
  answer_allowed plan s h homes at_id small =
      let w = h.1 in
      let r = h.3 in
      let now : List Event = h.0 ++ event.Step (Worker t) ∷ [] in
      let n : ℕ = get_or s.words turn_word 0 in
      let holder = holder_is w.shared.turn book w.shared.book t (book_is laws key slots id v out t x (Some book) one s h.0 w h.2 r at_id) in
      let c = taken_in x.stage in
      let e : Effect = on_answer w.shared t x c in
      let dummy : SharedAt = record { words = []; turn = None; book = book } in
      let after : History = (answer_to book t x).shared.book in
      let turn : e.shared.turn ≡ Some t = answer_turn w.shared t x c ∙ holder.0 in
      let said : e.seen ≡ (answer_to book t x).seen = answer_seen w.shared dummy t x c (sym holder.1) in
      let wrote : e.shared.book ≡ after = answer_book w.shared dummy t x c (sym holder.1) in
      let turned =
      turns laws key slots id v out t x (Some book) one s h.0 w h.2 r at_id act.Answer plan e refl answered_part (Some after) n
      (λ i. part.Worker t (worker_after x (sym said i)) (Some after))
      ((λ i. held_by (turn i) (wrote i) t) ∙ has_it t after)
      (λ u ne. (λ i. held_by (turn i) e.shared.book u) ∙ has_not t u e.shared.book ne ∙ sym ((λ i. held_by (holder.0 i) w.shared.book u) ∙ has_not t u w.shared.book ne))
      (set s.words turn_word n) s.homes
      (subst (λ z. Shows e.shared z s.homes) (sym (set-get_or s.words turn_word 0))
      (record {
        sized = r.shows.sized;
        rows = subst (λ (ls : List (List ℕ)). (t c j : ℕ) → t < 8 → c < 8 → j < 65 → get_or s.words (spot t c j) 0 ≡ get_or (get_or ls t []) (c * 65 + j) 0) (sym (answer_words w.shared t x c)) r.shows.rows;
        turn = r.shows.turn ∙ ap turn_number (sym (answer_turn w.shared t x c));
        slot = r.shows.slot ∙ (λ i. raw.some (slot_of (holder.0 i) w.shared.book)) ∙ sym (λ i. raw.some (slot_of (turn i) e.shared.book));
      }))
      (stop_kept s.words n) in
      (answered_view v n now, keeps, tt, turned.0, (refl, turned.1, turned.2.0))

  pub give_allowed : worker_plan x ≡ act.Give → out ≡ (0, Some book) ∷ [] → Allows (Holds key) slots id (v, out) turn_word (λ _. 0) (λ _. Gave (made slots turn_word 0 0 raw.none) (v, out) 0)
  give_allowed plan back s h homes at_id small =
      let w = h.1 in
      let r = h.3 in
      let now : List Event = h.0 ++ event.Step (Worker t) ∷ [] in
      let holder = holder_is w.shared.turn book w.shared.book t (book_is laws key slots id v out t x (Some book) one s h.0 w h.2 r at_id) in
      let after : SharedAt = record { words = w.shared.words; turn = None; book = w.shared.book } in
      let out_there : get_elem? s.homes 0 ≡ raw.some raw.none = r.shows.slot ∙ ap (λ o. raw.some (slot_of o w.shared.book)) holder.0 in
      let laid : List (raw.Option Slot) = set s.homes 0 (raw.some (Some book)) in
      let turned =
      turns laws key slots id v out t x (Some book) one s h.0 w h.2 r at_id act.Give plan (finds seen.Done after) refl (shown_part seen.Done None) None 0
      refl refl
      (λ u ne. sym ((λ i. held_by (holder.0 i) w.shared.book u) ∙ has_not t u w.shared.book ne))
      (set s.words turn_word 0) laid
      (shows_turn w.shared s.words s.homes laid r.shows None w.shared.book
      (first_set s.homes raw.none (raw.some (Some book)) out_there ∙ ap (λ (k : History). raw.some (raw.some (Some k))) holder.1))
      (stop_kept s.words 0) in
      subst (λ (o : List (ℕ × Slot)). (u : View) × (a : TableAct Slot) × Valid s.homes o a × Holds key (stepped s turn_word 0 id o u a) × Gave (made slots turn_word 0 0 raw.none) (v, o) 0 (u, carried_after o a)) (sym back)
      (given_view v now, gives, tt, turned.0, (refl, turned.1, turned.2.0))
