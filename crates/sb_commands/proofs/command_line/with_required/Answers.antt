use Rattle.std.proofs.Common.{◌≡◌, ◌∙◌, ◌+◌, ◌<◌, ℕ, List, [], ap, drop, get_or, length, map, sym}
use Rattle.std.specs.Borrow.{Bor}
use Rattle.std.proofs.lemmas.List.{at_drop_more}
use Rattle.clap.specs.Words.{App, Rule, Text, rule_of, with_rule}
use Rattle.sb_commands.specs.CommandLine.{required_argument, with_required}
use Rattle.sb_commands.proofs.command_line.with_required.Goals as goal

-- one argument further
further : (names : List (Bor Text)) (n : ℕ) (line next wanted : App) (none : Bor Text) (rule : Rule) → n < length names
    → next ≡ with_rule line rule → rule ≡ required_argument (get_or names n none).now
    → with_required (map (λ name. name.now) (drop n names)) line ≡ wanted → with_required (map (λ name. name.now) (drop (n + 1) names)) next ≡ wanted
further names n line next wanted none rule inside made is left =
    let rest : List Text = map (λ name. name.now) (drop (n + 1) names) in
    ap (λ (app : App). with_required rest app) (made ∙ ap (λ (r : Rule). with_rule line r) is)
    ∙ (sym (at_drop_more (λ (some : List (Bor Text)). with_required (map (λ name. name.now) some) line) names n none inside) ∙ left)

pub loop-name-preserved : goal.loop-name-preserved
loop-name-preserved c =
    further c.args.names.now c.loop-name.name-index c.loop-name.line c.in_ok-line.line (with_required (map (λ name. name.now) c.args.names.now) c.args.line)
    (record { ref_ptr = (0, 0); now = [] }) (rule_of c.required_argument.result) c.loop-name-test.true c.in_ok-line.ensures c.required_argument.ensures.rule c.loop-name.invariant
