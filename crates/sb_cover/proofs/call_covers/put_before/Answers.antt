use Rattle.std.specs.List.{Contains, list_all}
use Rattle.std.proofs.Common.{◌≡◌, ◌∙◌, ◌∷◌, [], List, true, ap, below_more, get_or}
use Rattle.std.proofs.lemmas.List.{get_or_read}
use Rattle.sb_call.specs.declared.arguments.Arg.{Arg}
use Rattle.sb_cover.proofs.CallLemmas.{all_put, has_each, has_last, has_still}
use Rattle.sb_cover.proofs.call_covers.put_before.Goals as goal

pub loop-args-preserved : goal.loop-args-preserved
loop-args-preserved c =
    let old = c.loop-args.calls.items in
    let new = c.push.new.self.items in
    let place = c.loop-args.args-index in
    let call : c.in_ok-before.field-0 ≡ c.args.value.now ∷ get_or c.args.later.now place [] =
    c.in_ok-before.ensures ∙ ap (λ l. c.args.value.now ∷ l) (c.deref.ensures ∙ get_or_read c.args.later.now place c.args-item.result c.loop-args-test.true c.args-item.is []) in
    record {
      kept = λ x h. has_still old new x c.in_ok-before.field-0 c.in_ok-push.ensures.items (c.loop-args.invariant.kept x h);
      here = below_more (λ k. Contains new (c.args.value.now ∷ get_or c.args.later.now k [])) place
          (λ k h. has_still old new (c.args.value.now ∷ get_or c.args.later.now k []) c.in_ok-before.field-0 c.in_ok-push.ensures.items (c.loop-args.invariant.here k h))
          (has_last old new (c.args.value.now ∷ get_or c.args.later.now place []) c.in_ok-before.field-0 c.in_ok-push.ensures.items call);
      all = λ one more every join value later before.
          all_put one more every old new c.args.later.now c.args.value.now place c.in_ok-before.field-0 join c.loop-args-test.true c.in_ok-push.ensures.items call value later
          (c.loop-args.invariant.all one more every join value later before);
    }

pub returns-clause-here : goal.returns-clause-here
returns-clause-here c = λ x h.
    has_each (λ (l : List Arg). Contains c.loop-args.calls.items (c.args.value.now ∷ l)) c.args.later.now [] x c.loop-args.args-index c.loop-args-test.false c.loop-args.invariant.here h
