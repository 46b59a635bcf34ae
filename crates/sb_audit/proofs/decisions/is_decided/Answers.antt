use Rattle.std.proofs.Common.{◌≡◌, sym, subst, ap, ◌∙◌, true, List}
use Rattle.std.specs.Prelude.{Some}
use Rattle.sb_book.specs.Decisions.{by_verdict}
use Rattle.sb_call.specs.Arguments.{fits}
use Rattle.sb_call.specs.declared.arguments.Arg.{Arg}
use Rattle.sb_transcript.specs.Printed.{shown_decision}
use Rattle.sb_rule.specs.Verdicts.{policy_at, verdict_of}
use Rattle.sb_rule.specs.declared.verdicts.Verdict.{Verdict}
use Rattle.sb_statements.specs.declared.statements.Statement.{Statement}
use Rattle.sb_audit.specs.Clauses.{is_decided}
use Rattle.sb_audit.specs.Comparing.{same_decision}
use Rattle.sb_actor.specs.Found.{is_encoded}
use Rattle.sb_audit.proofs.Calls.{call_decided, call_fits}
use Rattle.sb_audit.proofs.decisions.is_decided.Goals as goal

pub judge-verdict-requires-clause-fits : goal.judge-verdict-requires-clause-fits
judge-verdict-requires-clause-fits g c =
    subst (λ a. fits c.in-Call.tag a ≡ true) (sym c.as_slice.ensures)
    (call_fits c.in-Call.tag c.in-Call.args (subst (λ (s : Statement). is_encoded s ≡ true) c.in-Call.is c.requires.encoded))

pub returns-in-Call : goal.returns-in-Call
returns-in-Call g c =
    let policy = policy_at (g.J.Judge.policies c.args.judge.now) c.args.target in
    let tag = c.in-Call.tag in
    let encoded = subst (λ (s : Statement). is_encoded s ≡ true) c.in-Call.is c.requires.encoded in
    let decided = call_decided c.blocks_come_back.ensures policy tag c.in-Call.args c.args.mark c.args.decision.now encoded in
    subst (λ (s : Statement). c.shows_verdict.result ≡ is_decided policy c.args.mark c.args.decision.now (Some s)) (sym c.in-Call.is)
    (c.shows_verdict.ensures
    ∙ (ap (λ (a : List Arg). same_decision c.args.decision.now (shown_decision (by_verdict tag a c.judge-verdict.result))) c.as_slice-in-Call.ensures
    ∙ (ap (λ (v : Verdict). same_decision c.args.decision.now (shown_decision (by_verdict tag c.in-Call.args v))) (c.judge-verdict.ensures ∙ ap (verdict_of policy tag) c.as_slice.ensures)
    ∙ sym decided)))
