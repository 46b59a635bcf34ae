use Rattle.std.specs.Option.{option_copied}
use Rattle.std.proofs.Common.{◌∙◌}
use Rattle.sb_compare.proofs.DecidedLemmas.{verdict_put}
use Rattle.sb_compare.proofs.decided.put_verdict.Goals as goal

pub returns : goal.returns
returns c = λ policy are written.
    verdict_put c.args.tag policy c.args.verdict c.args.calls.now.classes.keys c.args.calls.now.calls.items c.in_ok-reading.reading c.in_ok-writing.writing
    (option_copied c.call_of.result) (option_copied c.call_of-2.result) c.in_ok-call.call c.args.list.now c.push.new.self
    c.in_ok-reading.ensures c.in_ok-writing.ensures c.call_of.ensures c.call_of-2.ensures (c.in_ok-call.ensures ∙ c.shorter_of.ensures) c.in_ok-push.ensures.ok are written
