-- A step of the actor of a seat keeps the rule of the table.
use Rattle.std.proofs.Common.{◌≡◌, ◌≢◌, ◌∙◌, refl, ap, subst, sym, ℕ, zero, suc, ◌++◌, Bool, true, false, ◌&&◌, List, [], ◌∷◌, map, set, get_or, ⊎_elim}
use mathlib.Core.Option as raw
use mathlib.Core.Option.{some-injective, some-ne-none}
use lib.ListN.{get_elem?}
use Rattle.atomic_table.proofs.Lists.{at_set}
use Rattle.sb_statements.specs.Actors.{is_there}
use Rattle.sb_statements.specs.declared.schedules.Actor.{Actor}
use Rattle.sb_statements.specs.declared.schedules.Actor.TheVariants.{Worker}
use Rattle.sb_statements.specs.declared.scripts.Script.{Script}
use Rattle.sb_statements.specs.declared.scripts.TargetScript.{TargetScript}
use Rattle.sb_core.specs.Actors.{are_there}
use Rattle.sb_core.specs.Changes.{Changes, plan_of}
use Rattle.sb_core.specs.Shared.{IsActThere, SharedAt, on_word}
use Rattle.sb_core.specs.Worlds.{WorldAt, step, steps}
use Rattle.sb_actor.specs.Observations.{Observation}
use Rattle.sb_shared.specs.Events.{actors_of, steps_of, world_in}
use Rattle.sb_shared.specs.Parts.{actor_in, first_part, held_by, is_on_word, part_of, part_after, plan_in, seen_of, word_view}
use Rattle.sb_shared.specs.Plays.{IsMade, IsShown}
use Rattle.sb_shared.specs.Rule.{FitsPart, FitsView, RuleAt, Shows, Slot, stop_word}
use Rattle.sb_shared.specs.Laws.{Laws}
use Rattle.sb_shared.specs.Origins.{start_of}
use Rattle.sb_shared.specs.Standing.{AllStand}
use Rattle.sb_shared.specs.Steps.{IsSince, IsStep, shown_in}
use Rattle.sb_shared.specs.declared.views.Event.{Event}
use Rattle.sb_shared.specs.declared.views.Event.TheVariants as event
use Rattle.sb_shared.specs.declared.views.Origin.{Origin}
use Rattle.sb_shared.specs.declared.views.Part.{Part}
use Rattle.sb_shared.specs.declared.views.TakenSeat.{TakenSeat}
use Rattle.sb_shared.specs.declared.views.View.{View}
use Rattle.sb_shared.proofs.Happened.{actors_step, begins_more, begins_self, since_of, since_step, steps_other, stop_step}
use Rattle.sb_shared.proofs.Standing.{actor_of_part, all_stand, part_moved, part_stays, plan_of_part, shared_after, shown_on_word, word_book, word_turn}

both : (a b : Bool) → a ≡ true → b ≡ true → (a && b) ≡ true
both true b e f = f
both false b e f = e

and_later : (q x y : Bool) → (q && x) ≡ true → (x ≡ true → y ≡ true) → (q && y) ≡ true
and_later true x y h f = f h
and_later false x y h f = h

pub there_more : (targets : List TargetScript) (actors : List Actor) (a : Actor) → are_there targets actors ≡ true → is_there targets a ≡ true → are_there targets (actors ++ a ∷ []) ≡ true
there_more targets [] a h g = both (is_there targets a) true g refl
there_more targets (b ∷ actors) a h g = and_later (is_there targets b) (are_there targets actors) (are_there targets (actors ++ a ∷ [])) h (λ f. there_more targets actors a f g)

-- the one element of a list
pub only_one : {A : Type 0} (l : List A) (p q : A) (n : ℕ) → l ≡ p ∷ [] → get_elem? l n ≡ raw.some q → (n ≡ 0) × (p ≡ q)
only_one {A} l p q n e h = by n (ap (λ (z : List A). get_elem? z n) (sym e) ∙ h)
  where
    by : (m : ℕ) → get_elem? (p ∷ []) m ≡ raw.some q → (m ≡ 0) × (p ≡ q)
    by zero f = (refl, some-injective p q f)
    by (suc m) f = absurd (some-ne-none q (sym f))

module _ (laws : Laws) (key : Origin) (words : List ℕ) (homes : List (raw.Option Slot)) (views : List View)
    (events : List Event) (w : WorldAt) (owner : Actor → ℕ) (r : RuleAt key words homes views events w owner)
    (id : ℕ) (v : View) (p : Part) (at_id : get_elem? views id ≡ raw.some v) (one : v.parts ≡ p ∷ []) where
  abbrev pub script : Script
  script = key.script.value

  abbrev pub who : Actor
  who = actor_in p

  abbrev pub next : WorldAt
  next = step script w who

  -- with the step
  abbrev pub after : List Event
  after = events ++ event.Step who ∷ []

  pub ours : FitsView key events w owner id v
  ours = r.seats id v at_id

  pub mine : FitsPart key events w owner id v p
  mine = ours.parts 0 p (ap (λ (l : List Part). get_elem? l 0) one)

  pub changes : Changes who (plan_of script w who) w next
  changes = laws.change script w who r.world r.running mine.there

  -- the book is with whom it was, except for the actor
  abbrev pub HeldElse : Type 0
  HeldElse = (t : ℕ) → who ≢ Worker t → held_by next.shared.turn next.shared.book t ≡ held_by w.shared.turn w.shared.book t

  other_fits : HeldElse → (j : ℕ) (u : View) → j ≢ id → get_elem? views j ≡ raw.some u → FitsView key after next owner j u
  other_fits held j u ne at_j =
      let f = r.seats j u at_j in
      record {
        parts = λ n q at_n.
            let g = f.parts n q at_n in
            let apart : who ≢ actor_in q = λ e. ne (sym g.owned ∙ ap owner (sym e) ∙ mine.owned) in
            record {
              key_is = g.key_is;
              is = g.is ∙ sym (part_stays script w who (actor_in q) changes apart (λ t e. held t (λ z. apart (z ∙ sym e))));
              there = g.there;
              owned = g.owned;
              seen = steps_other (actor_in q) who events (λ e. apart (sym e)) ∙ g.seen;
            };
        apart = f.apart;
        history = begins_more u.history events (event.Step who ∷ []) f.history;
        taken = λ n t e.
            let g = f.taken n t e in
            record {
              since = since_step t.parts t.history events who g.since (λ k q at_k z. ne (sym (g.owned k q at_k) ∙ ap owner z ∙ mine.owned));
              owned = g.owned;
            };
      }

  my_fits : (u : View) (q : Part) → u.key ≡ v.key → u.parts ≡ q ∷ [] → q ≡ part_of next who → u.history ≡ after → u.taken ≡ [] → FitsView key after next owner id u
  my_fits u q same parts is history taken =
      let actor : actor_in q ≡ who = ap actor_in is ∙ actor_of_part next who in
      record {
        parts = λ n x at_n.
            subst (FitsPart key after next owner id u) (only_one u.parts q x n parts at_n).1
            (record {
              key_is = same ∙ mine.key_is;
              is = is ∙ ap (part_of next) (sym actor);
              there = ap (is_there script.targets) actor ∙ mine.there;
              owned = ap owner actor ∙ mine.owned;
              seen = ap (steps_of (actor_in q)) (sym history);
            });
        apart = λ m n x y at_m at_n ne. absurd (ne ((only_one u.parts q x m parts at_m).0 ∙ sym (only_one u.parts q y n parts at_n).0));
        history = begins_self u.history after (sym history);
        taken = λ n t e. absurd (some-ne-none t (sym e ∙ ap (λ (l : List TakenSeat). get_elem? l n) taken));
      }

  -- the actor makes its step, and its seat has this view then
  pub advance : (u : View) (q : Part) (words_after : List ℕ) (homes_after : List (raw.Option Slot)) → u.key ≡ v.key → u.parts ≡ q ∷ [] → u.history ≡ after
      → u.taken ≡ [] → q ≡ part_of next who → Shows next.shared words_after homes_after
      → get_or words_after stop_word 0 ≡ get_or words stop_word 0 → HeldElse → RuleAt key words_after homes_after (set views id u) after next owner
  advance u q words_after homes_after same parts history taken is shows stop held =
      let kept = laws.keep script w who r.world r.running mine.there in
      let actors = actors_step events who in
      record {
        reached =
            ap (λ z. step script z who) r.reached ∙ sym (laws.fold script (actors_of events) (who ∷ []) (start_of key))
            ∙ ap (λ (l : List Actor). steps script l (start_of key)) (sym actors);
        there = subst (λ (l : List Actor). are_there script.targets l ≡ true) (sym actors) (there_more script.targets (actors_of events) who r.there mine.there);
        world = kept.0;
        running = kept.1;
        setting = changes.setting ∙ r.setting;
        shows = shows;
        stop = stop ∙ r.stop ∙ sym (stop_step events who);
        seats = λ j x at_j. ⊎_elim
            (λ h. subst (λ z. FitsView key after next owner z x) (sym h.0) (subst (FitsView key after next owner id) h.1 (my_fits u q same parts is history taken)))
            (λ h. other_fits held j x h.0 h.1) (at_set views id j u x at_j);
      }

  -- its seat has made one step of the core, and saw what the core's step shows
  abbrev pub made : (u : View) (q : Part) → u.parts ≡ q ∷ [] → u.history ≡ after → q ≡ part_of next who → IsMade v u
  made u q parts history is = record {
    before = events;
    core =
        let core : IsStep key p q v.history events u.history = record {
          since = subst (λ (l : List Part). IsSince l v.history events) one (since_of key events w owner id v ours);
          there = r.there;
          stood = mine.is ∙ ap (λ (z : WorldAt). part_of z who) r.reached;
          stands = is ∙ ap (λ (z : WorldAt). part_of (step script z who) who) r.reached;
          made = history;
        } in
        subst (λ (z : Origin × Part × Part). IsStep z.0 z.1 z.2 v.history events u.history)
        (λ i. (sym mine.key_is i, ap first_part (sym one) i, ap first_part (sym parts) i)) core;
  }

  abbrev pub shown : (u : View) (q : Part) → u.parts ≡ q ∷ [] → u.history ≡ after → q ≡ part_of next who → (seen : Observation) → seen ≡ shown_in v.key.script.value w p → IsShown v u seen
  shown u q parts history is seen e = (
    made u q parts history is,
    e ∙ (λ i. shown_in v.key.script.value ((r.reached ∙ ap (λ (k : Origin). world_in k events) (sym mine.key_is)) i) (ap first_part (sym one) i)),
  )

  -- what holds of the actor wherever it is, holds after its step
  pub stands_after : (u : View) (q : Part) → u.key ≡ v.key → u.parts ≡ q ∷ [] → q ≡ part_of next who → AllStand u.key u.parts
  stands_after u q same parts is =
      let kept = laws.keep script w who r.world r.running mine.there in
      all_stand key next kept.0 kept.1 (changes.setting ∙ r.setting) u.key u.parts who (same ∙ mine.key_is) (parts ∙ ap (λ (z : Part). z ∷ []) is) mine.there

  pub plan_is : plan_in v.key.script.value p ≡ plan_of script w who
  plan_is = (λ i. plan_in (mine.key_is i).script.value (mine.is i)) ∙ plan_of_part script w who

  pub placed_plan : IsActThere w.shared.words (plan_in v.key.script.value p)
  placed_plan = subst (IsActThere w.shared.words) (sym plan_is) (laws.plans script w who r.world r.running mine.there)

  -- a step on a word
  module _ (n : ℕ) (on : is_on_word (plan_in v.key.script.value p) ≡ true) (seen : (on_word w.shared (plan_in v.key.script.value p)).seen ≡ seen_of (plan_in v.key.script.value p) n) where
    on_plan : is_on_word (plan_of script w who) ≡ true
    on_plan = subst (λ z. is_on_word z ≡ true) plan_is on

    moved : part_after v.key.script.value p n ≡ part_of next who
    moved =
        let seen_plan : (on_word w.shared (plan_of script w who)).seen ≡ seen_of (plan_of script w who) n =
        subst (λ z. (on_word w.shared z).seen ≡ seen_of z n) plan_is seen in
        (λ i. part_after (mine.key_is i).script.value (mine.is i) n) ∙ sym (part_moved script w r.world r.running who n mine.there on_plan seen_plan)

    abbrev pub word_after : View
    word_after = word_view v n after

    parts_after : word_after.parts ≡ part_after v.key.script.value p n ∷ []
    parts_after = ap (map (λ q. part_after v.key.script.value q n)) one

    pub advance_word : (words_after : List ℕ) → Shows (on_word w.shared (plan_in v.key.script.value p)).shared words_after homes
        → get_or words_after stop_word 0 ≡ get_or words stop_word 0 → RuleAt key words_after homes (set views id word_after) after next owner
    advance_word words_after shows stop =
        let same = shared_after script w who on_plan in
        let turn : next.shared.turn ≡ w.shared.turn = ap (λ (s : SharedAt). s.turn) same ∙ word_turn w.shared (plan_of script w who) in
        let book : next.shared.book ≡ w.shared.book = ap (λ (s : SharedAt). s.book) same ∙ word_book w.shared (plan_of script w who) in
        advance word_after (part_after v.key.script.value p n) words_after homes refl parts_after refl refl moved
        (subst (λ z. Shows z words_after homes) (ap (λ z. (on_word w.shared z).shared) plan_is ∙ sym same) shows) stop
        (λ t apart. λ i. held_by (turn i) (book i) t)

    pub stands_word : AllStand v.key word_after.parts
    stands_word = stands_after word_after (part_after v.key.script.value p n) refl parts_after moved

    -- what it found is what is in the core
    pub shown_word : IsShown v word_after (seen_of (plan_in v.key.script.value (first_part v.parts)) n)
    shown_word =
        subst (λ (z : Part). IsShown v word_after (seen_of (plan_in v.key.script.value z) n)) (ap first_part (sym one))
        (shown word_after (part_after v.key.script.value p n) parts_after refl moved (seen_of (plan_in v.key.script.value p) n)
        (sym seen ∙ sym (shown_on_word v.key.script.value w p on)))
