use Rattle.std.proofs.Common.{rules, ◌∙◌}
use Rattle.std.specs.BTreeMap.Range.{entries_between}
use Rattle.std.specs.declared.ops.Bound.TheVariants.{Included}
use Rattle.sb_names.specs.Keys.{key_of}
use Rattle.sb_base.specs.Orders.{by_pair}
use Rattle.sb_names.proofs.EntryLemmas.{place_met, place_missing}
use Rattle.sb_names.proofs.maps.place.Goals as goal

pub returns-then-is_key : goal.returns-then-is_key
returns-then-is_key g c =
    let between = c.range-number-items.ensures.between (search rules)
    ∙ (λ k. entries_between by_pair (Included (c.new.ensures.start k)) (Included (c.new.ensures.end k)) c.args.index.now.entries) in
    place_met (key_of c.args.name.now) c.args.hash c.args.index.now.entries c.loop-number.number-iterator c.range-number-items.result
    (c.in-Some.field-0-0.now, c.in-Some.row.now) c.requires.hash c.requires.hashed between (c.loop-number.invariant ∙ search rules) (search rules)

pub returns : goal.returns
returns g c =
    let between = c.range-number-items.ensures.between (search rules)
    ∙ (λ k. entries_between by_pair (Included (c.new.ensures.start k)) (Included (c.new.ensures.end k)) c.args.index.now.entries) in
    place_missing (key_of c.args.name.now) c.args.hash c.args.index.now.entries c.loop-number.number-iterator c.range-number-items.result
    c.requires.hash c.requires.hashed between (c.loop-number.invariant ∙ search rules) c.in-None.ensures.steps.0
