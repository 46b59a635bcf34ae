-- The law of the worker's steps, and the opening.
use Rattle.std.proofs.Common.{◌≡◌, ℕ, ◌+◌, ◌*◌, ◌%◌, ◌<◌, ◌≤◌, Bool, true, false, cond, List, [], length, sym, subst, refl, set, get_or, ap, ◌∙◌, arith, eq-eqb, lt_of_not-le}
use Rattle.std.proofs.lemmas.List.{get_or_past}
use mathlib.Core.Option.{some-injective, some-ne-none}
use native.Mathlib.Decide.{dec_le}
use Rattle.sb_actor.specs.Views.{WorkerPlace, Look, Count, End, Copy, Whole, Reply, WorkerView}
use Rattle.sb_actor.specs.Moves.{is_clean, Deed, met, wrote, worker_view, WorkerMay, look, load_count, load_end, copy, answer, acknowledge}
use Rattle.sb_actor.specs.Rule.{idle, FitsThread, Rule}
use Rattle.sb_actor.specs.Laws.{WorkerKeeps, Starts, first_thread, first_worker}
use Rattle.sb_actor.proofs.Lists.{at_below}
use Rattle.sb_actor.proofs.Parts.{off}
use Rattle.sb_actor.proofs.WorkerSteps.{wv, worker_steps, sees_look}

inside_of : (v : WorkerView) (p : WorkerPlace) (w : ℕ) (d : Deed) → WorkerMay v p w d → v.channel < length v.clean
inside_of v Look w look may = may.0
inside_of v Count w load_count may = may.0
inside_of v (End k) w load_end may = may.0
inside_of v (Copy k e ws) w copy may = may.0
inside_of v (Whole t) w (answer x) may = may.0
inside_of v (Reply t a) w (answer x) may = may.0
inside_of v (Reply t a) w acknowledge may = may.0
inside_of v p w d may = absurd may

pub worker_keeps : WorkerKeeps
worker_keeps clean words v threads w d known may =
    let lc : v.channel < length v.clean = inside_of v v.place w d may in
    let V : List Bool → WorkerView = λ cl. wv cl v.channel v.place v.served in
    subst
    (λ (cl : List Bool).
    v.channel < length cl → WorkerMay (V cl) v.place w d → Rule clean words (V cl) threads
    → Rule clean (set words w (wrote d (met d (get_or words w 0)) (get_or words w 0))) (worker_view (V cl) d (get_or words w 0)) threads)
    (sym known.fits_worker.its_clean)
    (λ l m k. worker_steps clean words threads w v.channel v.served l v.place d k m)
    lc
    may
    known

clean_inside : (clean : List Bool) (c : ℕ) → is_clean clean c ≡ true → c < length clean
clean_inside clean c cl = by_order (dec_le (length clean) c)
  where
    by_order : Dec (length clean ≤ c) → c < length clean
    by_order (yes l) = absurd (off (sym (get_or_past clean c false l) ∙ cl))
    by_order (no n) = lt_of_not-le n

pub starts : Starts
starts clean words threads sized opened first = record {
  owners = λ c. idle;
  sized = sized;
  each_channel = λ c cl. (state c cl, sees_look (first_worker clean) c refl);
  lasts = λ c cl. tt;
  fits_worker = record {
    its_clean = refl;
    owners_there = λ c k cl o. absurd (some-ne-none k (sym o));
    no_strangers = λ k l. refl;
    of_threads = λ n x e cl. absurd (some-ne-none x (sym e));
    replied = λ n x e. absurd (some-ne-none x (sym e));
    replies = tt;
  };
  fits = λ i v e. subst (FitsThread clean (λ c. idle) [] i) (some-injective (first_thread clean i) v (sym (first i (at_below threads i v e)) ∙ e)) (one i);
}
  where
    state : (c : ℕ) → is_clean clean c ≡ true → get_or words (c * 65 + 0) 0 ≡ 1
    state c cl =
        let l = clean_inside clean c cl in
        let inside : c * 65 + 0 < length words = omega arith in
        let rem : (c * 65 + 0) % 65 ≡ 0 = omega arith in
        opened (c * 65 + 0) inside ∙ ap (λ b. cond {A = ℕ} b 1 0) (eq-eqb ((c * 65 + 0) % 65) 0 rem)

    one : (i : ℕ) → FitsThread clean (λ c. idle) [] i (first_thread clean i)
    one i = record {
      number = refl;
      its_clean = refl;
      agrees = λ c e cl. absurd (some-ne-none c (sym e));
      only = λ c cl o. absurd (some-ne-none i (sym o));
      calls = refl;
      all_abandoned = λ _ c l. absurd (omega arith);
      handed_is_own = tt;
    }
