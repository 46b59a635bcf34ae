use Rattle.std.proofs.Common.{◌∙◌, ap, subst, sym, []}
use Rattle.sb_core.proofs.Names.{IsRunning, IsWorld, step, Thread, WorldAt}
use Rattle.sb_core.proofs.Running.{thread_is_there}
use Rattle.sb_core.proofs.Sets.{at_place}
use Rattle.sb_core.proofs.Existence.{listed, thread_there}
use Rattle.sb_core.proofs.ThreadKeeping.{has_room, room_at, thread_at, thread_book, thread_keeps, thread_left}
use Rattle.sb_core.proofs.worlds.World.thread_step.Goals as goal

pub step-requires-clause-there : goal.step-requires-clause-there
step-requires-clause-there c =
    let w : WorldAt = record { shared = c.self.inside.shared; workers = c.self.inside.workers.items; threads = c.self.inside.threads.items } in
    let runs : IsRunning c.args.script.now w = subst (λ v. IsRunning c.args.script.now v) (sym c.self.view_is) c.requires.running in
    let there = thread_is_there c.args.script.now w c.args.target c.args.thread runs c.requires.there in
    let same = at_place w.threads c.args.target c.index_mut.result.now [] (listed w.threads c.args.target c.args.thread there) c.index_mut.ensures.value in
    thread_at c.args.script.now w c.args.target c.args.thread c.index_mut.result.now same
    (thread_there c.args.script.now w c.self.invariant runs c.args.target c.args.thread there c.sound_parts.ensures.statements)

pub step-requires-clause-room : goal.step-requires-clause-room
step-requires-clause-room c =
    let w : WorldAt = record { shared = c.self.inside.shared; workers = c.self.inside.workers.items; threads = c.self.inside.threads.items } in
    let runs : IsRunning c.args.script.now w = subst (λ v. IsRunning c.args.script.now v) (sym c.self.view_is) c.requires.running in
    let there = thread_is_there c.args.script.now w c.args.target c.args.thread runs c.requires.there in
    let same = at_place w.threads c.args.target c.index_mut.result.now [] (listed w.threads c.args.target c.args.thread there) c.index_mut.ensures.value in
    room_at c.args.script.now w c.args.target c.args.thread c.index_mut.result.now same
    (has_room c.args.script.now w c.args.target c.args.thread c.self.invariant runs there c.sound_parts.ensures.statements c.sound_parts.ensures.targets)

pub invariant_of-self : goal.invariant_of-self
invariant_of-self c =
    let w : WorldAt = record { shared = c.self.inside.shared; workers = c.self.inside.workers.items; threads = c.self.inside.threads.items } in
    let runs : IsRunning c.args.script.now w = subst (λ v. IsRunning c.args.script.now v) (sym c.self.view_is) c.requires.running in
    let there = thread_is_there c.args.script.now w c.args.target c.args.thread runs c.requires.there in
    let same = at_place w.threads c.args.target c.index_mut.result.now [] (listed w.threads c.args.target c.args.thread there) c.index_mut.ensures.value in
    let left = thread_left c.args.script.now w c.args.target c.args.thread c.index_mut.result.now c.step.new.self c.step.new.shared same c.step.ensures.runs c.step.ensures.shared in
    subst (λ v. IsWorld v) (sym left) (thread_keeps c.args.script.now w c.args.target c.args.thread c.self.invariant runs there c.sound_parts.ensures.statements)

pub returns-clause-value : goal.returns-clause-value
returns-clause-value c =
    let w : WorldAt = record { shared = c.self.inside.shared; workers = c.self.inside.workers.items; threads = c.self.inside.threads.items } in
    let runs : IsRunning c.args.script.now w = subst (λ v. IsRunning c.args.script.now v) (sym c.self.view_is) c.requires.running in
    let there = thread_is_there c.args.script.now w c.args.target c.args.thread runs c.requires.there in
    let same = at_place w.threads c.args.target c.index_mut.result.now [] (listed w.threads c.args.target c.args.thread there) c.index_mut.ensures.value in
    let left = thread_left c.args.script.now w c.args.target c.args.thread c.index_mut.result.now c.step.new.self c.step.new.shared same c.step.ensures.runs c.step.ensures.shared in
    left ∙ ap (λ (v : WorldAt). step c.args.script.now v (Thread c.args.target c.args.thread)) c.self.view_is

pub returns-clause-book : goal.returns-clause-book
returns-clause-book c =
    let w : WorldAt = record { shared = c.self.inside.shared; workers = c.self.inside.workers.items; threads = c.self.inside.threads.items } in
    let runs : IsRunning c.args.script.now w = subst (λ v. IsRunning c.args.script.now v) (sym c.self.view_is) c.requires.running in
    let there = thread_is_there c.args.script.now w c.args.target c.args.thread runs c.requires.there in
    let same = at_place w.threads c.args.target c.index_mut.result.now [] (listed w.threads c.args.target c.args.thread there) c.index_mut.ensures.value in
    let left = thread_left c.args.script.now w c.args.target c.args.thread c.index_mut.result.now c.step.new.self c.step.new.shared same c.step.ensures.runs c.step.ensures.shared in
    ap (λ (v : WorldAt). v.shared.book) left
    ∙ (thread_book c.args.script.now w c.args.target c.args.thread c.self.invariant runs there c.sound_parts.ensures.statements ∙ ap (λ (v : WorldAt). v.shared.book) c.self.view_is)
