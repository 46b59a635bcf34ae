use Rattle.std.proofs.Common.{◌≡◌, ◌<◌, ◌∙◌, ap, length, subst, sym}
use Rattle.sb_core.proofs.Names.{IsWorld, no_worker, worker_step, WorldAt}
use Rattle.sb_core.proofs.WorkerKeeping.{worker_keeps, worker_left, worker_setting, worker_stays}
use Rattle.sb_core.proofs.Beginning.{after_error}
use Rattle.sb_core.proofs.Sets.{at_place}
use Rattle.sb_core.proofs.worlds.World.worker_step.Goals as goal

pub invariant_of-self : goal.invariant_of-self
invariant_of-self g c =
    let w : WorldAt = record { shared = c.self.inside.shared; workers = c.self.inside.workers.items; threads = c.self.inside.threads.items } in
    let there : c.args.target < length w.workers = subst (λ (v : WorldAt). c.args.target < length v.workers) (sym c.self.view_is) c.requires.target in
    let found = at_place w.workers c.args.target c.index_mut-worker.result.now no_worker there c.index_mut-worker.ensures.value in
    let stays = worker_stays w c.args.target c.index_mut-worker.result.now c.make_step.new.worker c.make_step.new.shared found c.in_err-make_step.ensures.shared c.in_err-make_step.ensures.worker in
    subst (λ v. IsWorld v) (sym stays) c.self.invariant

pub invariant_of-self-2 : goal.invariant_of-self-2
invariant_of-self-2 g c =
    let w : WorldAt = record { shared = c.self.inside.shared; workers = c.self.inside.workers.items; threads = c.self.inside.threads.items } in
    let there : c.args.target < length w.workers = subst (λ (v : WorldAt). c.args.target < length v.workers) (sym c.self.view_is) c.requires.target in
    let found = at_place w.workers c.args.target c.index_mut-worker.result.now no_worker there c.index_mut-worker.ensures.value in
    let left = worker_left w c.args.target c.index_mut-worker.result.now c.make_step.new.worker c.make_step.new.shared found c.in_ok-make_step.ensures.ok in
    subst (λ v. IsWorld v) (sym left) (worker_keeps w c.args.target c.self.invariant there)

pub returns-in_err-make_step-clause-err : goal.returns-in_err-make_step-clause-err
returns-in_err-make_step-clause-err g c =
    let w : WorldAt = record { shared = c.self.inside.shared; workers = c.self.inside.workers.items; threads = c.self.inside.threads.items } in
    let there : c.args.target < length w.workers = subst (λ (v : WorldAt). c.args.target < length v.workers) (sym c.self.view_is) c.requires.target in
    let found = at_place w.workers c.args.target c.index_mut-worker.result.now no_worker there c.index_mut-worker.ensures.value in
    let stays = worker_stays w c.args.target c.index_mut-worker.result.now c.make_step.new.worker c.make_step.new.shared found c.in_err-make_step.ensures.shared c.in_err-make_step.ensures.worker in
    after_error c.from_residual.result (stays ∙ c.self.view_is)

pub returns-clause-ok : goal.returns-clause-ok
returns-clause-ok g c =
    let w : WorldAt = record { shared = c.self.inside.shared; workers = c.self.inside.workers.items; threads = c.self.inside.threads.items } in
    let there : c.args.target < length w.workers = subst (λ (v : WorldAt). c.args.target < length v.workers) (sym c.self.view_is) c.requires.target in
    let found = at_place w.workers c.args.target c.index_mut-worker.result.now no_worker there c.index_mut-worker.ensures.value in
    let left = worker_left w c.args.target c.index_mut-worker.result.now c.make_step.new.worker c.make_step.new.shared found c.in_ok-make_step.ensures.ok in
    left ∙ ap (λ (v : WorldAt). worker_step v c.args.target) c.self.view_is

pub returns-clause-setting : goal.returns-clause-setting
returns-clause-setting g c =
    let w : WorldAt = record { shared = c.self.inside.shared; workers = c.self.inside.workers.items; threads = c.self.inside.threads.items } in
    let there : c.args.target < length w.workers = subst (λ (v : WorldAt). c.args.target < length v.workers) (sym c.self.view_is) c.requires.target in
    let found = at_place w.workers c.args.target c.index_mut-worker.result.now no_worker there c.index_mut-worker.ensures.value in
    let left = worker_left w c.args.target c.index_mut-worker.result.now c.make_step.new.worker c.make_step.new.shared found c.in_ok-make_step.ensures.ok in
    ap (λ (v : WorldAt). v.shared.book.setting) left ∙ (worker_setting w c.args.target c.self.invariant there ∙ ap (λ (v : WorldAt). v.shared.book.setting) c.self.view_is)
