use Rattle.std.proofs.Common.{◌≡◌, sym, subst, ap, ◌∙◌, length, List, arith}
use Rattle.std.specs.Prelude.{None}
use Rattle.sb_text.specs.Lines.{NumberedRawLine}
use Rattle.sb_audit.specs.Audited.{audited}
use Rattle.sb_audit.proofs.Reading.{IsRead, ended_read, next_read, no_clause, small_enough, start_read, stopped}
use Rattle.sb_audit.proofs.audits.answer.Goals as goal

pub new-lines-requires : goal.new-lines-requires
new-lines-requires g c = omega arith

pub loop-raw-init : goal.loop-raw-init
loop-raw-init g c =
    let policies = c.args.context.now.policies in
    let script = c.args.context.now.script in
    let text = c.args.text.now in
    subst (λ (lines : List NumberedRawLine). IsRead policies script (audited policies script text) (length text) c.args.walk.now 0 lines) (sym c.new-lines.ensures)
    (start_read policies script c.args.walk.now text c.requires.start)

pub failing-requires-clause-small : goal.failing-requires-clause-small
failing-requires-clause-small g c κs within =
    let policies = c.args.context.now.policies in
    let script = c.args.context.now.script in
    let text = c.args.text.now in
    let raw : NumberedRawLine = record { number = c.in-Some.raw.number; bytes = c.in-Some.raw.bytes.now; is_ended = c.in-Some.raw.is_ended } in
    small_enough policies script c.establish_found.ensures (audited policies script text) (length text) c.loop-raw.walk c.loop-raw.last
    raw c.next_line.new.self
    (subst (λ (lines : List NumberedRawLine). IsRead policies script (audited policies script text) (length text) c.loop-raw.walk c.loop-raw.last lines) c.in-Some.ensures c.loop-raw.invariant)
    c.requires.short

pub returns-in-Some-2 : goal.returns-in-Some-2
returns-in-Some-2 g c =
    let policies = c.args.context.now.policies in
    let script = c.args.context.now.script in
    let text = c.args.text.now in
    let raw : NumberedRawLine = record { number = c.in-Some.raw.number; bytes = c.in-Some.raw.bytes.now; is_ended = c.in-Some.raw.is_ended } in
    c.refutation.ensures
    ∙ stopped policies script c.establish_found.ensures (audited policies script text) (length text) c.loop-raw.walk c.loop-raw.last
    raw c.next_line.new.self
    (subst (λ (lines : List NumberedRawLine). IsRead policies script (audited policies script text) (length text) c.loop-raw.walk c.loop-raw.last lines) c.in-Some.ensures c.loop-raw.invariant)
    c.in-Some-2.due (sym c.in_ok-due.ensures.clause ∙ c.in-Some-2.is)

pub loop-raw-smaller : goal.loop-raw-smaller
loop-raw-smaller g c = let e = ap length c.in-Some.ensures in omega arith

pub loop-raw-preserved : goal.loop-raw-preserved
loop-raw-preserved g c =
    let policies = c.args.context.now.policies in
    let script = c.args.context.now.script in
    let text = c.args.text.now in
    let raw : NumberedRawLine = record { number = c.in-Some.raw.number; bytes = c.in-Some.raw.bytes.now; is_ended = c.in-Some.raw.is_ended } in
    let none : c.in_ok-due.field-0 ≡ None = no_clause c.in_ok-due.field-0 c.in_default-2.not-Some in
    next_read policies script c.establish_found.ensures (audited policies script text) (length text) c.loop-raw.walk c.loop-raw.last
    raw c.next_line.new.self
    (subst (λ (lines : List NumberedRawLine). IsRead policies script (audited policies script text) (length text) c.loop-raw.walk c.loop-raw.last lines) c.in-Some.ensures c.loop-raw.invariant)
    c.failing.new.walk (sym c.in_ok-due.ensures.clause ∙ none) (c.in_ok-due.ensures.kept none)

pub end-requires : goal.end-requires
end-requires g c = let few = c.loop-raw.invariant.few in let short = c.requires.short in omega arith

pub returns : goal.returns
returns g c =
    let policies = c.args.context.now.policies in
    let script = c.args.context.now.script in
    let text = c.args.text.now in
    c.end.ensures
    ∙ ended_read policies script (audited policies script text) (length text) c.loop-raw.walk c.loop-raw.last
    (subst (λ (lines : List NumberedRawLine). IsRead policies script (audited policies script text) (length text) c.loop-raw.walk c.loop-raw.last lines) c.in_default.ensures.0 c.loop-raw.invariant)
