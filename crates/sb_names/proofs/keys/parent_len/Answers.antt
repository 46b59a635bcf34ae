use Rattle.std.proofs.Common.{◌≡◌, ◌∙◌, ◌+◌, [], length, if◌then◌else◌, ap, sym, arith}
use Rattle.std.proofs.lemmas.List.{nil_from_length}
use Rattle.std.specs.List.{list_any}
use Rattle.sb_names.specs.Keys.{parent_of, is_backslash}
use Rattle.sb_names.proofs.KeyLemmas.{parent_none}
use Rattle.sb_names.proofs.keys.parent_len.Goals as goal

pub loop-unit-init : goal.loop-unit-init
loop-unit-init c = (parent_none c.args.name.now, omega arith)

pub returns : goal.returns
returns c =
    let none : c.loop-unit.rest.now ≡ [] = nil_from_length c.loop-unit.rest.now c.in_default.ensures.cases in
    sym (c.loop-unit.invariant.0
    ∙ ap (λ us. if list_any is_backslash us then c.loop-unit.at + length (parent_of us) else c.loop-unit.last) none)
