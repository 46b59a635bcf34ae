use Rattle.std.proofs.Common.{◌≡◌, ◌∙◌, ◌<◌, ◌+◌, ◌++◌, ℕ, List, [], ◌∷◌, ap, sym, subst, drop, take, get_or, length, map, rules, slice_index_or}
use Rattle.std.proofs.lemmas.List.{map-append, take_more}
use mathlib.Core.Option as raw
use lib.ListN.{get_elem?}
use Rattle.sb_shared.specs.Closing.{later_parts}
use Rattle.sb_shared.specs.Making.{keeper_of}
use Rattle.sb_shared.specs.Opening.{thread_of}
use Rattle.sb_shared.specs.Seats.{KeeperValue, fresh_thread}
use Rattle.sb_shared.proofs.Places.{places_there}
use Rattle.sb_shared.proofs.Ranges.{here_at}
use Rattle.sb_shared.proofs.openings.thread_seats.Goals as goal

-- what is made of one element more
made_more : {A B : Type 0} (f : A → B) (l : List A) (i : ℕ) (d : A) (xs ys : List B) (x : B) → i < length l → xs ≡ map f (take i l) → x ≡ f (get_or l i d) → ys ≡ xs ++ x ∷ []
    → ys ≡ map f (take (i + 1) l)
made_more f l i d xs ys x here e is grown =
    grown ∙ (λ k. e k ++ is k ∷ []) ∙ sym (ap (map f) (take_more l i d here) ∙ map-append f (take i l) (get_or l i d ∷ []))

pub thread_seat-requires-clause-there : goal.thread_seat-requires-clause-there
thread_seat-requires-clause-there c =
    let places = c.args.places.now in
    let i = c.loop-place.place-index in
    let here : i < length places = search rules in
    places_there c.args.script.now.targets i (slice_index_or places i (0, 0))
    (subst (λ (l : List (ℕ × ℕ)). get_elem? l i ≡ raw.some (slice_index_or places i (0, 0))) c.requires.places (here_at places i (0, 0) here).1)

pub thread_seat-requires-clause-first : goal.thread_seat-requires-clause-first
thread_seat-requires-clause-first c =
    let places = c.args.places.now in
    let i = c.loop-place.place-index in
    let here : i < length places = search rules in (
      map thread_of (drop (i + 1) places),
      c.loop-place.invariant.0 ∙ ap (λ l. keeper_of c.args.words.now.table_id c.args.words.now.key (map thread_of l)) (here_at places i (0, 0) here).0,
    )

pub loop-place-preserved : goal.loop-place-preserved
loop-place-preserved c =
    let words = c.args.words.now in
    let places = c.args.places.now in
    let i = c.loop-place.place-index in
    let here : i < length places = search rules in
    let first = c.loop-place.invariant.0 ∙ ap (λ l. keeper_of words.table_id words.key (map thread_of l)) (here_at places i (0, 0) here).0 in (
      c.in_ok-thread_seat.ensures.keeper ∙ ap (λ (k : KeeperValue). record k { parts = later_parts k.parts; taken = [] }) first,
      made_more (fresh_thread words.table_id words.key) places i (0, 0) c.loop-place.seats.items c.push.new.self.items c.in_ok-thread_seat.field-0 here c.loop-place.invariant.1 c.in_ok-thread_seat.ensures.seat
          c.in_ok-push.ensures.items,
    )
