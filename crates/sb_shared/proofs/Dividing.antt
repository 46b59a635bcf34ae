-- The first seat is cut, seats are taken in, and the table is closed.
use Rattle.std.proofs.Common.{◌≡◌, ◌≢◌, ◌∙◌, refl, ap, subst, sym, ⊎_elim, ℕ, suc, ◌+◌, ◌<◌, Bool, eqb, eq-eqb, ne_eqb, cond, List, [], ◌∷◌, length, length-set, set, get_or, Some, arith}
use mathlib.Core.Option as raw
use mathlib.Core.Option.{some-injective, some-ne-none}
use lib.ListN.{get_elem?}
use Rattle.atomic_table.specs.Table.{Splits, Joins, Final, Seen}
use Rattle.atomic_table.proofs.Lists.{at_set, set_else}
use Rattle.sb_actor.specs.Moves.{at}
use Rattle.sb_core.specs.Words.{words_of}
use Rattle.sb_statements.specs.declared.schedules.Actor.{Actor}
use Rattle.sb_shared.specs.Closing.{Ends, joined_view, left_view, right_view, spent_view, front, later_parts, taken_of}
use Rattle.sb_shared.specs.Events.{is_same}
use Rattle.sb_shared.specs.Parts.{actor_in}
use Rattle.sb_shared.specs.Rule.{FitsPart, FitsTaken, FitsView, Holds, Slot, slot_of, spot}
use Rattle.sb_shared.specs.declared.views.Origin.{Origin}
use Rattle.sb_shared.specs.declared.views.Part.{Part}
use Rattle.sb_shared.specs.declared.views.View.{View}
use Rattle.sb_shared.proofs.Advancing.{only_one}
use Rattle.sb_shared.proofs.Grouping.{at_end, at_joined, below_of}
use Rattle.sb_shared.proofs.Happened.{differ, is_longer, same_self, seen_more, since_of}

-- the first part of a seat goes to a new one
module _ (key : Origin) (id : ℕ) (v : View) (p : Part) (ps : List Part) (parts : v.parts ≡ p ∷ ps) where
  pub splits : Splits (Holds key) id v (left_view v) (right_view v)
  splits s h at_id =
      let events = h.0 in
      let w = h.1 in
      let owner = h.2 in
      let r = h.3 in
      let mine : FitsView key events w owner id v = r.seats id v at_id in
      let at_first : get_elem? v.parts 0 ≡ raw.some p = ap (λ (l : List Part). get_elem? l 0) parts in
      let first : FitsPart key events w owner id v p = mine.parts 0 p at_first in
      let id_below : id < length s.views = below_of s.views id v at_id in
      let late : ℕ = length s.views in
      let owner_after : Actor → ℕ = λ a. cond (is_same a (actor_in p)) late (owner a) in
      let kept : (j : ℕ) (u : View) (q : Part) → actor_in q ≢ actor_in p → FitsPart key events w owner j u q → FitsPart key events w owner_after j u q =
      λ j u q n g. record { key_is = g.key_is; is = g.is; there = g.there; seen = g.seen; owned = ap (λ (b : Bool). cond b late (owner (actor_in q))) (differ (actor_in q) (actor_in p) n) ∙ g.owned } in
      let left_at : (n : ℕ) (q : Part) → get_elem? (later_parts v.parts) n ≡ raw.some q → get_elem? v.parts (suc n) ≡ raw.some q =
      λ n q e. ap (λ (l : List Part). get_elem? l (suc n)) parts ∙ ap (λ (l : List Part). get_elem? (later_parts l) n) (sym parts) ∙ e in
      let right_is : front v.parts ≡ p ∷ [] = ap front parts in
      let left : FitsView key events w owner_after id (left_view v) = record {
        parts = λ n q e.
            let g = mine.parts (suc n) q (left_at n q e) in
            kept id (left_view v) q (mine.apart (suc n) 0 q p (left_at n q e) at_first (λ z. omega arith))
            (record { key_is = g.key_is; is = g.is; there = g.there; owned = g.owned; seen = g.seen });
        apart = λ m n a b e f ne. mine.apart (suc m) (suc n) a b (left_at m a e) (left_at n b f) (λ z. ne (omega (arith, z)));
        history = mine.history;
        taken = λ n t e. absurd (some-ne-none t (sym e));
      } in
      let right : FitsView key events w owner_after late (right_view v) = record {
        parts = λ n q e.
            subst (FitsPart key events w owner_after late (right_view v)) (only_one (front v.parts) p q n right_is e).1
            (record { key_is = first.key_is; is = first.is; there = first.there; seen = first.seen; owned = ap (λ (b : Bool). cond b late (owner (actor_in p))) (same_self (actor_in p)) });
        apart = λ m n a b e f ne. absurd (ne ((only_one (front v.parts) p a m right_is e).0 ∙ sym (only_one (front v.parts) p b n right_is f).0));
        history = mine.history;
        taken = λ n t e. absurd (some-ne-none t (sym e));
      } in
      let others : (j : ℕ) (u : View) → j ≢ id → get_elem? s.views j ≡ raw.some u → FitsView key events w owner_after j u =
      λ j u ne at_j. let f = r.seats j u at_j in record {
        parts = λ n q e. let g = f.parts n q e in kept j u q (λ z. ne (sym g.owned ∙ ap owner z ∙ first.owned)) g;
        apart = f.apart;
        history = f.history;
        taken = λ n t e. let g = f.taken n t e in record {
          since = g.since;
          owned = λ k q at_k.
              let own = g.owned k q at_k in
              ap (λ (b : Bool). cond b late (owner (actor_in q))) (differ (actor_in q) (actor_in p) (λ z. ne (sym own ∙ ap owner z ∙ first.owned))) ∙ own;
        };
      } in (
        events,
        w,
        owner_after,
        record {
          reached = r.reached;
          there = r.there;
          world = r.world;
          running = r.running;
          setting = r.setting;
          shows = r.shows;
          seats = λ j u e. ⊎_elim
              (λ q. ⊎_elim
              (λ z. subst (λ k. FitsView key events w owner_after k u) (sym z.0) (subst (FitsView key events w owner_after id) z.1 left))
              (λ z. others j u z.0 z.1) (at_set s.views id j (left_view v) u q))
              (λ q. subst (λ k. FitsView key events w owner_after k u) (sym (q.0 ∙ length-set s.views id (left_view v))) (subst (FitsView key events w owner_after late) q.1 right))
              (at_end (set s.views id (left_view v)) (right_view v) u j e);
          stop = r.stop;
        },
      )

-- a seat takes in another
pub joins : (key : Origin) (id : ℕ) (v : View) (other : ℕ) (u : View) → v.key ≡ key → Joins (Holds key) id v other u (joined_view v u) spent_view
joins key id v other u key_is s h at_id ne at_other =
    let events = h.0 in
    let w = h.1 in
    let owner = h.2 in
    let r = h.3 in
    let at_u : get_elem? s.views other ≡ raw.some u = sym (set_else s.views id other (joined_view v u) ne) ∙ at_other in
    let mine = r.seats id v at_id in
    let yours = r.seats other u at_u in
    let owner_after : Actor → ℕ = λ a. cond (eqb (owner a) other) id (owner a) in
    let stays : (j : ℕ) (q : Part) → j ≢ other → owner (actor_in q) ≡ j → owner_after (actor_in q) ≡ j =
    λ j q n e. ap (λ (b : Bool). cond b id (owner (actor_in q))) (ne_eqb (owner (actor_in q)) other (λ z. n (sym e ∙ z))) ∙ e in
    let goes : (q : Part) → owner (actor_in q) ≡ other → owner_after (actor_in q) ≡ id =
    λ q e. ap (λ (b : Bool). cond b id (owner (actor_in q))) (eq-eqb (owner (actor_in q)) other e) in
    let apart_two : (m n : ℕ) (a b : Part) → get_elem? v.parts m ≡ raw.some a → get_elem? u.parts n ≡ raw.some b → actor_in a ≢ actor_in b =
    λ m n a b e f z. ne (sym (yours.parts n b f).owned ∙ ap owner (sym z) ∙ (mine.parts m a e).owned) in
    let all = is_longer v.history u.history events mine.history yours.history in
    let both : FitsView key events w owner_after id (joined_view v u) = record {
      parts = λ n q e. ⊎_elim
          (λ f. let g = mine.parts n q f in record { key_is = key_is; is = g.is; there = g.there; owned = stays id q (λ z. ne (sym z)) g.owned; seen = seen_more (actor_in q) v.history (joined_view v u).history events g.seen all.left all.whole })
          (λ f. let g = yours.parts f.0 q f.2 in record { key_is = key_is; is = g.is; there = g.there; owned = goes q g.owned; seen = seen_more (actor_in q) u.history (joined_view v u).history events g.seen all.right all.whole })
          (at_joined v.parts u.parts n q e);
      apart = λ m n a b e f differ_at. ⊎_elim
          (λ x. ⊎_elim (λ y. mine.apart m n a b x y differ_at) (λ y. apart_two m y.0 a b x y.2) (at_joined v.parts u.parts n b f))
          (λ x. ⊎_elim (λ y. λ z. apart_two n x.0 b a y x.2 (sym z)) (λ y. yours.apart x.0 y.0 a b x.2 y.2 (λ z. differ_at (x.1 ∙ ap (λ k. length v.parts + k) z ∙ sym y.1))) (at_joined v.parts u.parts n b f))
          (at_joined v.parts u.parts m a e);
      history = all.whole;
      taken = λ n t e. ⊎_elim
          (λ f. let g = mine.taken n t f in record { since = g.since; owned = λ k q at_k. stays id q (λ z. ne (sym z)) (g.owned k q at_k) })
          (λ f. subst (FitsTaken key events w owner_after id) f.1
          (record { since = since_of key events w owner other u yours; owned = λ k q at_k. goes q (yours.parts k q at_k).owned }))
          (at_end v.taken (taken_of u) t n e);
    } in
    let gone : FitsView key events w owner_after other spent_view = record {
      parts = λ n q e. absurd (some-ne-none q (sym e));
      apart = λ m n a b e f d. absurd (some-ne-none a (sym e));
      history = (events, refl);
      taken = λ n t e. absurd (some-ne-none t (sym e));
    } in
    let others : (j : ℕ) (x : View) → j ≢ id → j ≢ other → get_elem? s.views j ≡ raw.some x → FitsView key events w owner_after j x =
    λ j x n m at_j. let f = r.seats j x at_j in record {
      parts = λ k q e. let g = f.parts k q e in record { key_is = g.key_is; is = g.is; there = g.there; owned = stays j q m g.owned; seen = g.seen };
      apart = f.apart;
      history = f.history;
      taken = λ n t e. let g = f.taken n t e in record { since = g.since; owned = λ k q at_k. stays j q m (g.owned k q at_k) };
    } in (
      events,
      w,
      owner_after,
      record {
        reached = r.reached;
        there = r.there;
        world = r.world;
        running = r.running;
        setting = r.setting;
        shows = r.shows;
        seats = λ j x e. ⊎_elim
            (λ z. subst (λ k. FitsView key events w owner_after k x) (sym z.0) (subst (FitsView key events w owner_after other) z.1 gone))
            (λ y. ⊎_elim
            (λ z. subst (λ k. FitsView key events w owner_after k x) (sym z.0) (subst (FitsView key events w owner_after id) z.1 both))
            (λ z. others j x z.0 y.0 z.1) (at_set s.views id j (joined_view v u) x y.1))
            (at_set (set s.views id (joined_view v u)) other j spent_view x e);
        stop = r.stop;
      },
    )

-- what is known at the end
pub closes : (key : Origin) (id : ℕ) (v : View) (words : List ℕ) (slots : List Slot) (slot : Slot) → get_elem? slots 0 ≡ raw.some slot
    → Final (Seen (Holds key) id v) words slots → Ends key v.parts v.taken words slot
closes key id v words slots slot at_slot f =
    let s = f.0 in
    let h = f.1.0 in
    let at_id = f.1.1 in
    let same = f.2 in
    let homes = f.4 in
    let w = h.1 in
    let r = h.3 in
    record {
      events = h.0;
      world = w;
      reached = r.reached;
      there = r.there;
      kept = r.world;
      running = r.running;
      setting = r.setting;
      words = subst (λ (l : List ℕ). (t c j : ℕ) → t < 8 → c < 8 → j < 65 → get_or l (spot t c j) 0 ≡ get_or (words_of w.shared.words t) (at c j) 0) same r.shows.rows;
      book = λ e.
          let there : get_elem? slots 0 ≡ raw.some (Some w.shared.book) = homes 0 (Some w.shared.book) (r.shows.slot ∙ ap (λ o. raw.some (slot_of o w.shared.book)) e) in
          some-injective slot (Some w.shared.book) (sym at_slot ∙ there);
      stand = λ n p e. ((r.seats id v at_id).parts n p e).is;
      since = λ n t e. ((r.seats id v at_id).taken n t e).since;
    }
