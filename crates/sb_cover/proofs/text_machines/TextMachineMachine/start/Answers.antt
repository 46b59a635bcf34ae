use Rattle.std.specs.Prelude.{◌&&◌}
use Rattle.std.proofs.Common.{◌≡◌, ◌∙◌, ◌∷◌, [], ℕ, List, ap, subst, sym}
use Rattle.sb_rule.specs.Matching.{matches}
use Rattle.sb_rule.specs.declared.cells.Cell.{Cell}
use Rattle.sb_cover.specs.AskedConds.{cond_at, is_text}
use Rattle.sb_cover.specs.Positions.{cells_at, tells}
use Rattle.sb_cover.specs.Pruning.{AllDecideAlike}
use Rattle.sb_cover.specs.TextMachines.{told, LeadsTo, StandsFor}
use Rattle.sb_cover.proofs.TextLemmas.{start_leads, start_stands}
use Rattle.sb_cover.proofs.text_machines.TextMachineMachine.start.Goals as goal

pub returns-clause-leads : goal.returns-clause-leads
returns-clause-leads c =
    let conds = c.args.self.now.table.now.conds.items in
    let patterns = c.args.self.now.table.now.patterns.items in
    let questions = c.args.self.now.questions.now in
    let first = c.in_ok-positions.positions.items in
    let kept = c.in_ok-kept.kept.items in
    let tell : (patterns : List (List Cell)) (n : ℕ) (units : List ℕ) → tells patterns first n units ≡ (is_text (cond_at conds n).cond.test && matches (cells_at patterns n) units) =
    subst (λ l. (patterns : List (List Cell)) (n : ℕ) (units : List ℕ) → tells patterns first n units ≡ (is_text (cond_at l n).cond.test && matches (cells_at patterns n) units))
    c.deref.ensures.value c.in_ok-positions.ensures in
    let prune : (later : List ℕ) → AllDecideAlike (told conds patterns first later) (told conds patterns kept later) questions =
    subst (λ l. (later : List ℕ) → AllDecideAlike (told conds patterns l later) (told conds patterns kept later) questions) c.deref-2.ensures.value c.in_ok-kept.ensures in
    let e : c.in_ok-state.state ≡ c.args.self.now.first ∷ kept = c.in_ok-state.ensures ∙ ap (λ l. c.args.self.now.first ∷ l) c.deref-3.ensures.value in
    subst (LeadsTo conds patterns questions c.args.self.now.first []) (sym e)
    (start_leads c.texts_are_matched.ensures conds patterns questions c.args.self.now.first first kept c.args.self.now.table.now.cells tell prune)

pub returns-clause-stands : goal.returns-clause-stands
returns-clause-stands c =
    let conds = c.args.self.now.table.now.conds.items in
    let patterns = c.args.self.now.table.now.patterns.items in
    let questions = c.args.self.now.questions.now in
    let first = c.in_ok-positions.positions.items in
    let kept = c.in_ok-kept.kept.items in
    let tell : (patterns : List (List Cell)) (n : ℕ) (units : List ℕ) → tells patterns first n units ≡ (is_text (cond_at conds n).cond.test && matches (cells_at patterns n) units) =
    subst (λ l. (patterns : List (List Cell)) (n : ℕ) (units : List ℕ) → tells patterns first n units ≡ (is_text (cond_at l n).cond.test && matches (cells_at patterns n) units))
    c.deref.ensures.value c.in_ok-positions.ensures in
    let prune : (later : List ℕ) → AllDecideAlike (told conds patterns first later) (told conds patterns kept later) questions =
    subst (λ l. (later : List ℕ) → AllDecideAlike (told conds patterns l later) (told conds patterns kept later) questions) c.deref-2.ensures.value c.in_ok-kept.ensures in
    let e : c.in_ok-state.state ≡ c.args.self.now.first ∷ kept = c.in_ok-state.ensures ∙ ap (λ l. c.args.self.now.first ∷ l) c.deref-3.ensures.value in
    subst (StandsFor conds patterns questions c.args.self.now.first []) (sym e)
    (start_stands c.texts_are_matched.ensures conds patterns questions c.args.self.now.first first kept c.args.self.now.table.now.cells tell prune)
