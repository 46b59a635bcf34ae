use Rattle.std.proofs.Common.{◌≡◌, subst, sym, true}
use Rattle.sb_core.proofs.Names.{is_there, IsOfScript, IsRunning, step, Thread, Worker}
use Rattle.sb_core.proofs.Belonging.{of_step}
use Rattle.sb_core.proofs.Running.{step_keeps, worker_is_there}
use Rattle.sb_core.proofs.worlds.World.step.Goals as goal

pub worker_step-requires-clause-target : goal.worker_step-requires-clause-target
worker_step-requires-clause-target g c κs within =
    worker_is_there c.args.script.now c.args.self.now c.in-Worker.target c.establish_kept.ensures c.requires.running
    (subst (λ a. is_there c.args.script.now.targets a ≡ true) c.in-Worker.is c.requires.there)

pub returns-in-Thread-clause-running :
    goal.returns-in-Thread-clause-running
returns-in-Thread-clause-running g c =
    let actor = Thread c.in-Thread.target c.in-Thread.thread in
    let made : c.thread_step.new.self ≡ step c.args.script.now c.args.self.now actor = c.thread_step.ensures.value in
    let there : is_there c.args.script.now.targets actor ≡ true = subst (λ a. is_there c.args.script.now.targets a ≡ true) c.in-Thread.is c.requires.there in
    subst (λ v. IsRunning c.args.script.now v) (sym made)
    (step_keeps c.sound_parts.ensures.statements c.args.script.now c.args.self.now actor c.establish_kept.ensures c.requires.running there).1

pub returns-in-Thread-clause-of_script : goal.returns-in-Thread-clause-of_script
returns-in-Thread-clause-of_script g c =
    let actor = Thread c.in-Thread.target c.in-Thread.thread in
    let made : c.thread_step.new.self ≡ step c.args.script.now c.args.self.now actor = c.thread_step.ensures.value in
    let there : is_there c.args.script.now.targets actor ≡ true = subst (λ a. is_there c.args.script.now.targets a ≡ true) c.in-Thread.is c.requires.there in
    λ o. subst (λ v. IsOfScript c.args.script.now v) (sym made) (of_step c.args.script.now c.args.self.now actor o there)

pub returns-in_ok-worker_step-in-Worker-clause-of_script :
    goal.returns-in_ok-worker_step-in-Worker-clause-of_script
returns-in_ok-worker_step-in-Worker-clause-of_script g c =
    let actor = Worker c.in-Worker.target in
    let made : c.worker_step.new.self ≡ step c.args.script.now c.args.self.now actor = c.in_ok-worker_step-in-Worker.ensures.ok in
    let there : is_there c.args.script.now.targets actor ≡ true = subst (λ a. is_there c.args.script.now.targets a ≡ true) c.in-Worker.is c.requires.there in
    λ o. subst (λ v. IsOfScript c.args.script.now v) (sym made) (of_step c.args.script.now c.args.self.now actor o there)
