use Rattle.std.proofs.Common.{◌≡◌, ◌∙◌, [], ap, sym}
use Rattle.std.proofs.lemmas.List.{get_or_read}
use Rattle.sb_compare.specs.Classes.{class_of}
use Rattle.sb_compare.specs.ShownCalls.{call_at}
use Rattle.sb_compare.proofs.ShownCallLemmas.{none_yet, shortest_more}
use Rattle.sb_compare.proofs.shown_calls.shortest_of.Goals as goal

pub loop-call-init : goal.loop-call-init
loop-call-init c = none_yet (class_of c.args.tag c.args.policies.now) c.args.seen.now c.new-classes.result.keys c.new-calls.result.items c.new-classes.ensures.empty c.new-calls.ensures.items

pub loop-call-preserved : goal.loop-call-preserved
loop-call-preserved c =
    let seen = c.args.seen.now in
    let i = c.loop-call.call-index in
    let f = class_of c.args.tag c.args.policies.now in
    let is : c.call-item.result ≡ call_at seen i = get_or_read seen i c.call-item.result c.loop-call-test.true c.call-item.is [] in
    shortest_more f seen i c.in_ok-class.class c.in_ok-copy.copy c.loop-call.classes.keys c.loop-call.calls.items c.note.new.classes.keys c.note.new.calls.items c.loop-call-test.true
    (c.in_ok-copy.ensures ∙ is) (c.in_ok-class.ensures ∙ ap f (c.deref.ensures ∙ sym c.in_ok-copy.ensures)) c.in_ok-note.ensures c.loop-call.invariant
