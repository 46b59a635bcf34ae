use Rattle.std.proofs.Common.{rules, ◌≡◌, None, Some, sym, subst, arith}
use Rattle.std.proofs.lemmas.Bool.Decides.{nat_tests}
use Rattle.sb_names.specs.Maps.{found}
use Rattle.sb_services.specs.Pipes.{Agrees, with_instance, with_pipe}
use Rattle.sb_services.proofs.KeptPipes.{has_room}
use Rattle.sb_services.proofs.PipeLaws.{instance_agrees, pipe_agrees}
use Rattle.sb_services.proofs.pipes.PipeService.create.Goals as goal

-- src/pipes.rt:234:30
pub add_instance-requires-clause-room : goal.add_instance-requires-clause-room
add_instance-requires-clause-room c =
    let f : found c.args.self.now.rows c.args.name.now ≡ Some c.in-Some.row = search rules in
    let room = has_room c.args.self.now c.args.name.now c.in-Some.row f c.establish_pipes.ensures.made in
    grind (arith, nat_tests, room, c.if-row.false)

-- src/pipes.rt:235:55
pub overflow_add-row : goal.overflow_add-row
overflow_add-row c =
    let f : found c.args.self.now.rows c.args.name.now ≡ Some c.in-Some.row = search rules in
    let room = has_room c.args.self.now c.args.name.now c.in-Some.row f c.establish_pipes.ensures.made in
    grind (arith, room)

-- src/pipes.rt:204:5
pub returns-in_ok-handle-in-Some-clause-agree : goal.returns-in_ok-handle-in-Some-clause-agree
returns-in_ok-handle-in-Some-clause-agree c =
    let f : found c.args.self.now.rows c.args.name.now ≡ Some c.in-Some.row = search rules in
    subst (λ pipes. Agrees pipes c.add_instance.new.handles.table) (sym c.in_ok-handle-in-Some.ensures.service)
    (subst (Agrees (with_instance c.args.self.now c.args.name.now c.in-Some.row)) (sym c.in_ok-handle-in-Some.ensures.handles)
    (instance_agrees c.pipe_handles_are_counted.ensures.grants c.args.self.now c.args.handles.now.table c.args.target c.args.name.now c.in-Some.row
    c.establish_pipes.ensures.made c.requires.agree f))

-- src/pipes.rt:204:5
pub returns-in_ok-handle-in-None-clause-agree : goal.returns-in_ok-handle-in-None-clause-agree
returns-in_ok-handle-in-None-clause-agree c =
    let f : found c.args.self.now.rows c.args.name.now ≡ None = search rules in
    subst (λ pipes. Agrees pipes c.add_pipe.new.handles.table) (sym c.in_ok-handle-in-None.ensures.service)
    (subst (Agrees (with_pipe c.args.self.now c.args.name.now c.args.mode c.args.form c.args.instances)) (sym c.in_ok-handle-in-None.ensures.handles)
    (pipe_agrees c.pipe_handles_are_counted.ensures.grants c.args.self.now c.args.handles.now.table c.args.target c.args.name.now c.args.mode c.args.form c.args.instances
    c.establish_pipes.ensures.made c.requires.agree f))
