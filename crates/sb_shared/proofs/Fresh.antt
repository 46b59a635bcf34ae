-- Where actors are before the first step, and the seats that know it.
use Rattle.std.proofs.Common.{◌≡◌, ◌∙◌, refl, ap, subst, sym, ℕ, ◌<◌, true, List, [], ◌∷◌, length, slice_get, None, arith}
use Rattle.std.proofs.lemmas.Bool.Decides.{nat_tests}
use Rattle.sb_actor.specs.Places.{statements_of}
use Rattle.sb_actor.specs.WorkerStages.{WorkerAt}
use Rattle.sb_rule.specs.declared.policies.Policy.{Policy}
use Rattle.sb_statements.specs.Actors.{is_there, thread_count}
use Rattle.sb_statements.specs.Soundness.{SoundStatements, SoundTargets}
use Rattle.sb_statements.specs.declared.schedules.Actor.{Actor}
use Rattle.sb_statements.specs.declared.schedules.Actor.TheVariants.{Worker, Thread}
use Rattle.sb_statements.specs.declared.scripts.Script.{Script}
use Rattle.sb_book.specs.Readiness.{IsReady}
use Rattle.sb_core.specs.Kept.{IsRunning, IsWorld}
use Rattle.sb_core.specs.Laws.{StartsKeep}
use Rattle.sb_core.specs.Worlds.{first_run, first_worker, first_workers, no_worker, run_at, threads_at, worker_at}
use Rattle.sb_core.proofs.Starting.{each_is, start_run}
use Rattle.sb_shared.specs.Closing.{front}
use Rattle.sb_shared.specs.Keeping.{IsBody}
use Rattle.sb_shared.specs.Making.{IsOpenedWith}
use Rattle.sb_shared.specs.Origins.{start_of}
use Rattle.sb_shared.specs.Parts.{part_of}
use Rattle.sb_shared.specs.Plays.{Placed}
use Rattle.sb_shared.specs.Seats.{IsThread, KeeperValue, thread_in}
use Rattle.sb_shared.specs.Standing.{AllStand}
use Rattle.sb_shared.specs.declared.views.Origin.{Origin}
use Rattle.sb_shared.specs.declared.views.View.{View}
use Rattle.sb_shared.proofs.Standing.{all_stand}

-- a seat before its first step
abbrev pub seat_of : Origin → Actor → Placed
seat_of key actor = (record { key = key; parts = part_of (start_of key) actor ∷ []; found = 0; history = []; taken = [] }, [])

-- the seat with the keeper's first part
abbrev pub seat_with : KeeperValue → View
seat_with s = record { key = s.key; parts = front s.parts; found = 0; history = s.history; taken = [] }

-- a run that is opened with a ready script
pub opened_with : SoundTargets → SoundStatements → StartsKeep → (key : Origin) (policies : List Policy) (script : Script) → key.policies.value.list ≡ policies
    → key.script.value ≡ script → IsReady policies script → IsOpenedWith key script
opened_with targets statements starts key policies script e f ready =
    let back : (policies, script) ≡ (key.policies.value.list, key.script.value) = λ i. (sym e i, sym f i) in
    let its : IsReady key.policies.value.list key.script.value = subst (λ (z : List Policy × Script). IsReady z.0 z.1) back ready in
    let kept = starts key.policies.value.list key.script.value its in
    record {
      script_is = f;
      world = kept.0;
      running = subst (λ (z : Script). IsRunning z (start_of key)) f kept.1;
      first = λ t k l. start_run targets statements key.policies.value.list key.script.value its t k l ∙ ap (λ z. first_run z t k) f;
    }

module _ (key : Origin) (script : Script) (opened : IsOpenedWith key script) where
  kept : IsWorld (start_of key) × IsRunning key.script.value (start_of key)
  kept = (opened.world, subst (λ (z : Script). IsRunning z (start_of key)) (sym opened.script_is) opened.running)

  actor_stands : (a : Actor) → is_there script.targets a ≡ true → AllStand key (part_of (start_of key) a ∷ [])
  actor_stands a there = all_stand key (start_of key) kept.0 kept.1 refl key (part_of (start_of key) a ∷ []) a refl refl
      (subst (λ (z : Script). is_there z.targets a ≡ true) (sym opened.script_is) there)

  -- the seat of a worker
  worker_first : (t : ℕ) → t < length script.targets → worker_at (start_of key) t ≡ first_worker script.targets t
  worker_first t l =
      let here : t < length key.script.value.targets = subst (λ (z : Script). t < length z.targets) (sym opened.script_is) l in
      each_is (first_worker key.script.value.targets) (first_workers key.script.value.targets) refl (λ n. refl) (length key.script.value.targets) t no_worker here
      ∙ ap (λ (z : Script). first_worker z.targets t) opened.script_is

  pub fresh_body : (t : ℕ) → t < length script.targets → (me : Placed) (state : WorkerAt) → me ≡ seat_of key (Worker t) → state ≡ first_worker script.targets t → IsBody me state None None
  fresh_body t l me state is first =
      subst (λ (z : Placed). IsBody z state None None) (sym is)
      (record {
        worker = record { one = refl; stands = actor_stands (Worker t) (grind (arith, nat_tests, l)) };
        state_is = first ∙ sym (worker_first t l);
        book_is = refl;
        lies = refl;
        decided = tt;
      })

  -- the seat of a thread
  pub fresh_seat : (t k : ℕ) → k < thread_count (slice_get script.targets t) → (me : Placed) → me ≡ seat_of key (Thread t k)
      → IsThread me.0 × (me.1 ≡ []) × ((thread_in me.0.parts).run ≡ first_run script t k)
      × (statements_of me.0.key.script.value (thread_in me.0.parts).target (thread_in me.0.parts).thread ≡ statements_of script t k)
  fresh_seat t k l me is =
      let count : length (threads_at (start_of key) t) ≡ thread_count (slice_get script.targets t) =
      kept.1.threads t ∙ ap (λ (z : Script). thread_count (slice_get z.targets t)) opened.script_is in
      let run : run_at (start_of key) t k ≡ first_run script t k =
      opened.first t k (omega (arith, l, count)) in
      subst (λ (z : Placed). IsThread z.0 × (z.1 ≡ []) × ((thread_in z.0.parts).run ≡ first_run script t k)
      × (statements_of z.0.key.script.value (thread_in z.0.parts).target (thread_in z.0.parts).thread ≡ statements_of script t k)) (sym is) (
        record { one = refl; stands = actor_stands (Thread t k) (grind (arith, nat_tests, l)) },
        refl,
        run,
        ap (λ z. statements_of z t k) opened.script_is,
      )
