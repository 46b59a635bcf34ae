use Rattle.std.proofs.Common.{◌≡◌, ◌∷◌, rules}
use Rattle.sb_book.specs.Stores.{buffers}
use Rattle.sb_book.proofs.Storing.{rest_is_cut}
use Rattle.sb_book.proofs.slices.EntrySlice.split_first.Goals as goal

pub invariant_of-result : goal.invariant_of-result
invariant_of-result c =
    let all : c.self.inside.rows.now ≡ c.in-Some.row.now ∷ c.in-Some.rows.now = search rules in
    rest_is_cut (buffers c.self.inside.words.now c.self.inside.args.now c.self.inside.units.now) c.self.inside.rows.now c.in-Some.rows.now c.in-Some.row.now all c.self.invariant
