use Rattle.std.proofs.Common.{rules, ◌≡◌, ◌<◌, ◌++◌, ◌∷◌, [], false, length, subst, sym}
use Rattle.std.specs.List.{list_any}
use Rattle.sb_link.specs.Links.{is_from, most_links}
use Rattle.sb_link.specs.SortedFroms.{AreIndexed, inserted}
use Rattle.sb_link.proofs.Inserted.{one_more_indexed}
use Rattle.sb_link.proofs.links.Links.push.Goals as goal

pub invariant_of-self-2 : goal.invariant_of-self-2
invariant_of-self-2 c =
    let links = c.self.inside.items in
    let sorted = c.self.inside.sorted.items in
    let are : AreIndexed links sorted = c.self.invariant in
    let more : c.push.new.self ≡ links ++ c.args.link ∷ [] = search rules in
    let new_sorted : c.in_ok-sorted.sorted.items ≡ inserted links c.args.link.from (length links) [] sorted = search rules in
    let room : length links < most_links = search rules in
    let new : list_any (is_from c.args.link.from) links ≡ false = search rules in
    subst (λ l. AreIndexed l c.in_ok-sorted.sorted.items) (sym more)
    (subst (AreIndexed (links ++ c.args.link ∷ [])) (sym new_sorted) (one_more_indexed links sorted c.args.link are room c.requires.named new))
