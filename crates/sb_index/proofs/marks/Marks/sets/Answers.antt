use Rattle.std.proofs.Common.{rules, ◌≡◌, ◌∙◌, ◌<◌, ◌+◌, ◌-◌, ◌++◌, ◌∷◌, ℕ, suc, [], length, sym, subst, ap, arith}
use Rattle.std.specs.Prelude.{slice_index_or}
use Rattle.std.proofs.lemmas.List.{get_or_default, length-append}
use Rattle.sb_index.specs.Marks.{is_marked, up_to}
use Rattle.sb_index.specs.Sets.{has}
use Rattle.sb_index.proofs.MarkLemmas.{sets_pushed, slot_merged}
use Rattle.sb_index.proofs.marks.Marks.sets.Goals as goal

pub loop-slot-preserved : goal.loop-slot-preserved
loop-slot-preserved c =
    let marks = c.args.self.now in
    let slots = c.args.slots in
    let slot = c.loop-slot.slot in
    let begun = c.in_ok-begun.begun.items in
    let unended = c.in_ok-unended.unended.items in
    let set = c.merge.result in
    let pushed : c.push.new.self.items ≡ c.loop-slot.sets.items ++ set ∷ [] = search rules in
    let within : slot < slots = search rules in
    let point : slice_index_or marks.points.items slot [] ≡ c.index.result.now =
    get_or_default marks.points.items slot [] c.index.result.now (omega (arith, within, c.requires.0)) ∙ search rules
    in
    let first : slice_index_or begun slot [] ≡ c.index-in-loop-slot.result.now =
    get_or_default begun slot [] c.index-in-loop-slot.result.now (omega (arith, within, c.requires.1, c.in_ok-begun.ensures.many)) ∙ search rules
    in
    let last : slice_index_or unended (slots - 1 - slot) [] ≡ c.index-in-loop-slot-2.result.now =
    get_or_default unended (slots - 1 - slot) [] c.index-in-loop-slot-2.result.now
    (omega (arith, within, c.requires.2, c.in_ok-unended.ensures.many)) ∙ search rules
    in
    let up : (s : ℕ) (k : ℕ) → s < length marks.begins.items → has (slice_index_or begun s []) k ≡ up_to marks.begins.items (suc s) k =
    subst (λ l. (s : ℕ) (k : ℕ) → s < length l → has (slice_index_or begun s []) k ≡ up_to l (suc s) k) (search rules) c.in_ok-begun.ensures.up
    in
    let down : (s : ℕ) (k : ℕ) → s < length marks.ends.items → has (slice_index_or unended s []) k ≡ up_to marks.ends.items (suc s) k =
    subst (λ l. (s : ℕ) (k : ℕ) → s < length l → has (slice_index_or unended s []) k ≡ up_to l (suc s) k) (search rules) c.in_ok-unended.ensures.up
    in
    let merged : (k : ℕ) → has set k ≡ is_marked marks slot k =
    slot_merged marks slots slot c.index.result.now c.index-in-loop-slot.result.now c.index-in-loop-slot-2.result.now set within c.requires.2 point
    (λ k. ap (λ w. has w k) (sym first) ∙ up slot k (omega (arith, within, c.requires.1)))
    (λ k. ap (λ w. has w k) (sym last) ∙ down (slots - 1 - slot) k (omega (arith, within, c.requires.2)))
    c.merge.ensures
    in
    subst
    (λ l. (length l ≡ slot + 1) × ((s : ℕ) (k : ℕ) → s < slot + 1 → has (slice_index_or l s []) k ≡ is_marked marks s k)) (sym pushed) (
      omega (arith, c.loop-slot.invariant.0, length-append c.loop-slot.sets.items (set ∷ [])),
      sets_pushed (is_marked marks) c.loop-slot.sets.items set slot c.loop-slot.invariant.0 c.loop-slot.invariant.1 merged,
    )
