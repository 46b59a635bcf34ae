use Rattle.std.proofs.Common.{◌≡◌, ◌∙◌, ◌≤◌, subst, sym}
use Rattle.std.proofs.lemmas.List.Sorted.{searched}
use Rattle.std.specs.Prelude.{Err}
use Rattle.sb_index.specs.Bounds.{IsRising, first_of, last_of}
use Rattle.sb_index.proofs.SlotLemmas.{bounds_rise, slot_found}
use Rattle.sb_index.proofs.bounds.Bounds.slot_of.Goals as goal

pub returns-in-Err-clause-first : goal.returns-in-Err-clause-first
returns-in-Err-clause-first c =
    let bounds = c.deref.result.now in
    let slot = c.in-Err.slot in
    let number = c.args.number in
    let same : c.self.inside.items.items ≡ bounds = sym c.deref.ensures.value in
    let rising : IsRising bounds = subst IsRising same c.self.invariant.0 in
    let found = searched bounds number (Err slot) c.in-Err.ensures.position (bounds_rise bounds rising) in
    subst (λ bs. first_of bs slot ≤ number) (sym same ∙ c.self.view_is) (slot_found bounds number slot c.ranges.number.fits found).0

pub returns-in-Err-clause-last : goal.returns-in-Err-clause-last
returns-in-Err-clause-last c =
    let bounds = c.deref.result.now in
    let slot = c.in-Err.slot in
    let number = c.args.number in
    let same : c.self.inside.items.items ≡ bounds = sym c.deref.ensures.value in
    let rising : IsRising bounds = subst IsRising same c.self.invariant.0 in
    let found = searched bounds number (Err slot) c.in-Err.ensures.position (bounds_rise bounds rising) in
    subst (λ bs. number ≤ last_of bs slot) (sym same ∙ c.self.view_is) (slot_found bounds number slot c.ranges.number.fits found).1
