use Rattle.std.proofs.Common.{◌≡◌, ◌∙◌, ap, length, map, rules, subst, sym}
use Rattle.sb_book.specs.Readiness.{IsReady}
use Rattle.sb_statements.specs.declared.scripts.Script.{Script}
use Rattle.sb_shared.specs.Making.{keeper_of}
use Rattle.sb_shared.specs.Opening.{all_actors, target_places, thread_places}
use Rattle.sb_shared.specs.Seats.{fresh_keeper, fresh_thread, fresh_worker}
use Rattle.sb_shared.proofs.Fresh.{opened_with}
use Rattle.sb_shared.proofs.worlds.SharedWorld.open.Goals as goal

pub begin-requires : goal.begin-requires
begin-requires c =
    let len : c.len.result ≡ length c.in_ok-places.places.items = search rules in
    let threads : c.len.result ≡ length (thread_places c.script_of-script.result.now.targets) = len ∙ ap length c.in_ok-places.ensures in
    record { threads = threads ∙ ap (λ (s : Script). length (thread_places s.targets)) c.script_of-script.ensures.same }

pub worker_seats-requires-clause-opened : goal.worker_seats-requires-clause-opened
worker_seats-requires-clause-opened c =
    let policies = c.args.start.policies in
    let script = c.script_of-script.result.now in
    let ready : IsReady policies script = subst (λ (z : Script). IsReady policies z) (sym c.script_of-script.ensures.same) c.script_of-script.ensures.ready in
    opened_with c.sound_parts.ensures.targets c.sound_parts.ensures.statements c.worlds_keep.ensures.start c.world.inside.table.shared.key policies script
    (ap (λ z. z.key.policies.value.list) c.world.view_is ∙ c.in_ok-world.ensures.policies)
    (ap (λ z. z.key.script.value) c.world.view_is ∙ c.in_ok-world.ensures.script ∙ sym c.script_of-script.ensures.same) ready

pub worker_seats-requires-clause-keeper : goal.worker_seats-requires-clause-keeper
worker_seats-requires-clause-keeper c =
    c.in_ok-world.ensures.keeper
    ∙ (λ i. keeper_of (sym (ap (λ z. z.table) c.world.view_is) i) (sym (ap (λ z. z.key) c.world.view_is) i) (all_actors (sym c.script_of-script.ensures.same i).targets))

pub thread_seats-requires-clause-opened : goal.thread_seats-requires-clause-opened
thread_seats-requires-clause-opened c =
    let policies = c.args.start.policies in
    let script = c.script_of-script.result.now in
    let ready : IsReady policies script = subst (λ (z : Script). IsReady policies z) (sym c.script_of-script.ensures.same) c.script_of-script.ensures.ready in
    opened_with c.sound_parts.ensures.targets c.sound_parts.ensures.statements c.worlds_keep.ensures.start c.world.inside.table.shared.key policies script
    (ap (λ z. z.key.policies.value.list) c.world.view_is ∙ c.in_ok-world.ensures.policies)
    (ap (λ z. z.key.script.value) c.world.view_is ∙ c.in_ok-world.ensures.script ∙ sym c.script_of-script.ensures.same) ready

pub returns-clause-policies : goal.returns-clause-policies
returns-clause-policies c = c.in_ok-world.ensures.policies

pub returns-clause-script : goal.returns-clause-script
returns-clause-script c = c.in_ok-world.ensures.script

pub returns-clause-keeper : goal.returns-clause-keeper
returns-clause-keeper c = c.in_ok-threads.ensures.keeper ∙ (λ i. fresh_keeper (c.world.view_is i).table (c.world.view_is i).key)

pub returns-clause-workers : goal.returns-clause-workers
returns-clause-workers c =
    c.in_ok-workers.ensures.seats ∙ (λ i. map (fresh_worker (c.world.view_is i).table (c.world.view_is i).key) (target_places (c.script_of-script.ensures.same i).targets))

pub returns-clause-threads : goal.returns-clause-threads
returns-clause-threads c =
    let slice : c.as_slice.result.now ≡ c.in_ok-places.places.items = search rules in
    let places = slice ∙ c.in_ok-places.ensures ∙ ap (λ (s : Script). thread_places s.targets) c.script_of-script.ensures.same in
    c.in_ok-threads.ensures.seats ∙ (λ i. map (fresh_thread (c.world.view_is i).table (c.world.view_is i).key) (places i))
