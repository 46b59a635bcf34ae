use Rattle.std.proofs.Common.{◌≡◌, ◌∙◌, ◌++◌, ◌∷◌, [], ℕ, List, ap, subst, sym}
use Rattle.sb_cover.specs.Modes.{mode_after}
use Rattle.sb_cover.specs.Positions.{tells}
use Rattle.sb_cover.specs.Pruning.{AllDecideAlike}
use Rattle.sb_cover.specs.TextMachines.{told, LeadsTo, StandsFor}
use Rattle.sb_cover.proofs.TextLemmas.{leads_more, stands_more, leads_dead, stands_dead}
use Rattle.sb_cover.proofs.text_machines.read.Goals as goal

pub returns-then-mode-eq-DEAD-clause-leads : goal.returns-then-mode-eq-DEAD-clause-leads
returns-then-mode-eq-DEAD-clause-leads c = λ first word before.
    let conds = c.args.table.now.conds.items in
    let patterns = c.args.table.now.patterns.items in
    subst (LeadsTo conds patterns c.args.questions.now first (word ++ c.args.letter ∷ [])) (sym c.in_ok-state.ensures)
    (leads_dead conds patterns c.args.questions.now first c.args.mode word c.args.positions.now c.args.letter (sym c.mode_after-mode.ensures ∙ c.if-mode-eq-DEAD.true) before)

pub returns-then-mode-eq-DEAD-clause-stands : goal.returns-then-mode-eq-DEAD-clause-stands
returns-then-mode-eq-DEAD-clause-stands c = λ first unit word like before.
    let conds = c.args.table.now.conds.items in
    let patterns = c.args.table.now.patterns.items in
    subst (StandsFor conds patterns c.args.questions.now first (word ++ unit ∷ [])) (sym c.in_ok-state.ensures)
    (stands_dead conds patterns c.args.questions.now first c.args.mode word c.args.positions.now unit c.args.letter (sym c.mode_after-mode.ensures ∙ c.if-mode-eq-DEAD.true) like before)

pub returns-clause-leads : goal.returns-clause-leads
returns-clause-leads c = λ first word before.
    let conds = c.args.table.now.conds.items in
    let patterns = c.args.table.now.patterns.items in
    let questions = c.args.questions.now in
    let next = c.in_ok-next.next.items in
    let kept = c.in_ok-kept.kept.items in
    let step : (k : ℕ) (later : List ℕ) → tells patterns next k later ≡ tells patterns c.args.positions.now k (c.args.letter ∷ later) =
    subst (λ p. (k : ℕ) (later : List ℕ) → tells p next k later ≡ tells p c.args.positions.now k (c.args.letter ∷ later)) c.deref.ensures.value c.in_ok-next.ensures in
    let prune : (later : List ℕ) → AllDecideAlike (told conds patterns next later) (told conds patterns kept later) questions =
    subst (λ l. (later : List ℕ) → AllDecideAlike (told conds patterns l later) (told conds patterns kept later) questions) c.deref-2.ensures.value c.in_ok-kept.ensures in
    let e : c.in_ok-state-2.state ≡ mode_after c.args.mode c.args.letter ∷ kept = c.in_ok-state-2.ensures ∙ (λ i. c.mode_after-mode.ensures i ∷ c.deref-3.ensures.value i) in
    subst (LeadsTo conds patterns questions first (word ++ c.args.letter ∷ [])) (sym e)
    (leads_more conds patterns questions first c.args.mode word c.args.positions.now next kept c.args.letter step prune before)

pub returns-clause-stands : goal.returns-clause-stands
returns-clause-stands c = λ first unit word like before.
    let conds = c.args.table.now.conds.items in
    let patterns = c.args.table.now.patterns.items in
    let questions = c.args.questions.now in
    let next = c.in_ok-next.next.items in
    let kept = c.in_ok-kept.kept.items in
    let step : (k : ℕ) (later : List ℕ) → tells patterns next k later ≡ tells patterns c.args.positions.now k (c.args.letter ∷ later) =
    subst (λ p. (k : ℕ) (later : List ℕ) → tells p next k later ≡ tells p c.args.positions.now k (c.args.letter ∷ later)) c.deref.ensures.value c.in_ok-next.ensures in
    let prune : (later : List ℕ) → AllDecideAlike (told conds patterns next later) (told conds patterns kept later) questions =
    subst (λ l. (later : List ℕ) → AllDecideAlike (told conds patterns l later) (told conds patterns kept later) questions) c.deref-2.ensures.value c.in_ok-kept.ensures in
    let e : c.in_ok-state-2.state ≡ mode_after c.args.mode c.args.letter ∷ kept = c.in_ok-state-2.ensures ∙ (λ i. c.mode_after-mode.ensures i ∷ c.deref-3.ensures.value i) in
    subst (StandsFor conds patterns questions first (word ++ unit ∷ [])) (sym e)
    (stands_more conds patterns questions first c.args.mode word c.args.positions.now next kept unit c.args.letter step prune like before)
