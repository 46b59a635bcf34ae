use Rattle.std.proofs.Common.{rules, ◌≡◌, true}
use Rattle.sb_kernel.specs.Kept.{IsSound}
use Rattle.sb_kernel.specs.Namespaces.{Space}
use Rattle.sb_kernel.specs.Requests.{is_proper}
use Rattle.sb_kernel.specs.Requests as request
use Rattle.sb_kernel.proofs.kernels.Kernel.perform_request.Goals as goal

pub invariant_of-self-in-FileCreate : goal.invariant_of-self-in-FileCreate
invariant_of-self-in-FileCreate c =
    let ns : Space = record { files = c.self.inside.files; pipes = c.self.inside.pipes; keys = c.self.inside.keys; events = c.self.inside.events; handles = c.self.inside.handles.table } in
    let sound : IsSound ns = rw (← c.self.view_is) at c.establish_bounds.ensures.sound in
    let proper : is_proper (request.FileCreate c.in-FileCreate.name.now c.in-FileCreate.request) ≡ true = search rules in
    let kept = c.requests_are_kept.ensures ns c.args.target (request.FileCreate c.in-FileCreate.name.now c.in-FileCreate.request) proper sound in
    rw (c.in_ok-create-in-FileCreate.ensures.effect.1, c.in_ok-create-in-FileCreate.ensures.effect.2) kept

pub invariant_of-self-in-FileRename : goal.invariant_of-self-in-FileRename
invariant_of-self-in-FileRename c =
    let ns : Space = record { files = c.self.inside.files; pipes = c.self.inside.pipes; keys = c.self.inside.keys; events = c.self.inside.events; handles = c.self.inside.handles.table } in
    let sound : IsSound ns = rw (← c.self.view_is) at c.establish_bounds.ensures.sound in
    let proper : is_proper (request.FileRename c.in-FileRename.name.now c.in-FileRename.to.now) ≡ true = search rules in
    let kept = c.requests_are_kept.ensures ns c.args.target (request.FileRename c.in-FileRename.name.now c.in-FileRename.to.now) proper sound in
    rw (c.in_ok-rename-in-FileRename.ensures.service) kept

pub invariant_of-self-in-PipeCreate : goal.invariant_of-self-in-PipeCreate
invariant_of-self-in-PipeCreate c =
    let ns : Space = record { files = c.self.inside.files; pipes = c.self.inside.pipes; keys = c.self.inside.keys; events = c.self.inside.events; handles = c.self.inside.handles.table } in
    let sound : IsSound ns = rw (← c.self.view_is) at c.establish_bounds.ensures.sound in
    let proper : is_proper (request.PipeCreate c.in-PipeCreate.name.now c.in-PipeCreate.mode c.in-PipeCreate.form c.in-PipeCreate.instances) ≡ true = search rules in
    let kept = c.requests_are_kept.ensures ns c.args.target (request.PipeCreate c.in-PipeCreate.name.now c.in-PipeCreate.mode c.in-PipeCreate.form c.in-PipeCreate.instances) proper sound in
    rw (c.in_ok-create-in-PipeCreate.ensures.effect.1, c.in_ok-create-in-PipeCreate.ensures.effect.2) kept

pub invariant_of-self-in-KeyCreate : goal.invariant_of-self-in-KeyCreate
invariant_of-self-in-KeyCreate c =
    let ns : Space = record { files = c.self.inside.files; pipes = c.self.inside.pipes; keys = c.self.inside.keys; events = c.self.inside.events; handles = c.self.inside.handles.table } in
    let sound : IsSound ns = rw (← c.self.view_is) at c.establish_bounds.ensures.sound in
    let proper : is_proper (request.KeyCreate c.in-KeyCreate.name.now c.in-KeyCreate.access) ≡ true = search rules in
    let kept = c.requests_are_kept.ensures ns c.args.target (request.KeyCreate c.in-KeyCreate.name.now c.in-KeyCreate.access) proper sound in
    rw (c.in_ok-create-in-KeyCreate.ensures.effect.1, c.in_ok-create-in-KeyCreate.ensures.effect.2) kept

pub invariant_of-self-in-KeyOpen : goal.invariant_of-self-in-KeyOpen
invariant_of-self-in-KeyOpen c =
    let ns : Space = record { files = c.self.inside.files; pipes = c.self.inside.pipes; keys = c.self.inside.keys; events = c.self.inside.events; handles = c.self.inside.handles.table } in
    let sound : IsSound ns = rw (← c.self.view_is) at c.establish_bounds.ensures.sound in
    let proper : is_proper (request.KeyOpen c.in-KeyOpen.name.now c.in-KeyOpen.access) ≡ true = search rules in
    let kept = c.requests_are_kept.ensures ns c.args.target (request.KeyOpen c.in-KeyOpen.name.now c.in-KeyOpen.access) proper sound in
    rw (c.in_ok-open_by_name-in-KeyOpen.ensures.effect.1, c.in_ok-open_by_name-in-KeyOpen.ensures.effect.2) kept

pub invariant_of-self-in-EventCreate : goal.invariant_of-self-in-EventCreate
invariant_of-self-in-EventCreate c =
    let ns : Space = record { files = c.self.inside.files; pipes = c.self.inside.pipes; keys = c.self.inside.keys; events = c.self.inside.events; handles = c.self.inside.handles.table } in
    let sound : IsSound ns = rw (← c.self.view_is) at c.establish_bounds.ensures.sound in
    let proper : is_proper (request.EventCreate c.in-EventCreate.name.now c.in-EventCreate.kind c.in-EventCreate.initial) ≡ true = search rules in
    let kept = c.requests_are_kept.ensures ns c.args.target (request.EventCreate c.in-EventCreate.name.now c.in-EventCreate.kind c.in-EventCreate.initial) proper sound in
    rw (c.in_ok-create-in-EventCreate.ensures.effect.1, c.in_ok-create-in-EventCreate.ensures.effect.2) kept

pub invariant_of-self-in-EventOpen : goal.invariant_of-self-in-EventOpen
invariant_of-self-in-EventOpen c =
    let ns : Space = record { files = c.self.inside.files; pipes = c.self.inside.pipes; keys = c.self.inside.keys; events = c.self.inside.events; handles = c.self.inside.handles.table } in
    let sound : IsSound ns = rw (← c.self.view_is) at c.establish_bounds.ensures.sound in
    let proper : is_proper (request.EventOpen c.in-EventOpen.name.now c.in-EventOpen.access) ≡ true = search rules in
    let kept = c.requests_are_kept.ensures ns c.args.target (request.EventOpen c.in-EventOpen.name.now c.in-EventOpen.access) proper sound in
    rw (c.in_ok-open_by_name-in-EventOpen.ensures.effect.1, c.in_ok-open_by_name-in-EventOpen.ensures.effect.2) kept
