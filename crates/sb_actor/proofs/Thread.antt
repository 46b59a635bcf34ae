-- The law of a thread's steps.
use Rattle.std.proofs.Common.{◌≡◌, Bool, List, sym, subst, set, get_or}
use mathlib.Core.Option.{some}
use lib.ListN.{get_elem?}
use Rattle.sb_actor.specs.Moves.{met, wrote, thread_view, ThreadMay}
use Rattle.sb_actor.specs.Rule.{Rule}
use Rattle.sb_actor.specs.Laws.{ThreadKeeps}
use Rattle.sb_actor.proofs.ThreadSteps.{tv, thread_steps}

pub thread_keeps : ThreadKeeps
thread_keeps clean words worker threads i w v d r at_i may =
    let its_clean : v.clean ≡ clean = (r.fits i v at_i).its_clean in
    subst
    (λ (cl : List Bool).
    get_elem? threads i ≡ some (tv v.number cl v.place v.ended_calls) → ThreadMay (tv v.number cl v.place v.ended_calls) v.place w d
    → Rule clean (set words w (wrote d (met d (get_or words w 0)) (get_or words w 0))) worker (set threads i (thread_view (tv v.number cl v.place v.ended_calls) d (get_or words w 0))))
    (sym its_clean)
    (λ e m. thread_steps clean words worker threads r i w v.number v.ended_calls v.place d e m)
    at_i
    may
