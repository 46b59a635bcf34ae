use Rattle.std.proofs.Common.{rules, ◌≡◌, sym, ◌∙◌, true}
use Rattle.sb_audit.specs.Audited.{policy_of}
use Rattle.sb_audit.specs.Clauses.{reply_due, shows_rule}
use Rattle.sb_audit.specs.Comparing.{same_reply}
use Rattle.sb_audit.specs.Kept.{IsOwnPlace}
use Rattle.sb_audit.proofs.Calls.{rule_fits}
use Rattle.sb_audit.proofs.KeptEntries.{none_due, own_due, own_is_kept}
use Rattle.sb_audit.proofs.walks.Walk.decision.Goals as goal

pub reply_due-requires : goal.reply_due-requires
reply_due-requires g c =
    let passed : c.shows_rule.result ≡ true = search rules in
    record { fits = rule_fits c.policy_of-policy.result.now c.args.entry.decision (sym c.shows_rule.ensures ∙ passed) }

pub returns-in-NotOwn-clause-clause : goal.returns-in-NotOwn-clause-clause
returns-in-NotOwn-clause-clause g c =
    let policy = policy_of c.args.context.now.policies c.args.context.now.script c.args.target in
    let script = c.args.context.now.script in
    let kept = c.args.self.now in
    let entry = c.args.entry in
    let shows : shows_rule policy entry.decision ≡ true = search rules in
    let same : same_reply entry.reply (reply_due kept.space c.args.target entry.decision) ≡ true = search rules in
    let here : IsOwnPlace policy script kept.rows c.args.target entry c.own_place-place.result = search rules in
    own_due policy script kept c.args.target entry c.own_place-place.result c.due_call.result shows same here c.in-NotOwn.is c.due_call.ensures

pub keep_reply-requires : goal.keep_reply-requires
keep_reply-requires g c =
    let policy = c.policy_of-policy.result.now in
    let script = c.args.context.now.script in
    let here : IsOwnPlace policy script c.self.inside.rows c.args.target c.args.entry c.own_place-place.result = search rules in
    record { place = here; own = own_is_kept policy script c.self.inside.rows c.args.target c.args.entry c.own_place-place.result here c.in_default.not-NotOwn }

pub returns : goal.returns
returns g c =
    let policy = policy_of c.args.context.now.policies c.args.context.now.script c.args.target in
    let script = c.args.context.now.script in
    let kept = c.args.self.now in
    let entry = c.args.entry in
    let shows : shows_rule policy entry.decision ≡ true = search rules in
    let same : same_reply entry.reply (reply_due kept.space c.args.target entry.decision) ≡ true = search rules in
    let here : IsOwnPlace policy script kept.rows c.args.target entry c.own_place-place.result = search rules in
    let own = own_is_kept policy script kept.rows c.args.target entry c.own_place-place.result here c.in_default.not-NotOwn in
    record {
      clause = none_due policy script kept c.args.target entry shows same own;
      kept = λ _. record { space = search rules; totals = search rules; ended = search rules; rows = search rules };
    }
