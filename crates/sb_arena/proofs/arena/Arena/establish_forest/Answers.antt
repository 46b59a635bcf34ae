use Rattle.std.proofs.Common.{rules, ◌≡◌, ◌<◌, ◌^◌, length, subst, sym, ◌∙◌}
use Rattle.std.proofs.lemmas.List.{length-map}
use Rattle.sb_arena.specs.Forests.{IsRooted, IsShallow, Agrees, HasLiveLinks, HasSingleChildren}
use Rattle.sb_arena.specs.Links.{rows_of, row_of}
use Rattle.sb_arena.proofs.Depths.{shallow}
use Rattle.sb_arena.proofs.Agreeing.{agrees, single_children, live_links}
use Rattle.sb_arena.proofs.arena.Arena.establish_forest.Goals as goal

pub returns-clause-rooted : goal.returns-clause-rooted
returns-clause-rooted g c = subst (λ f. IsRooted f.rows) c.self.view_is c.self.invariant.4

pub returns-clause-agree : goal.returns-clause-agree
returns-clause-agree g c =
    subst (λ f. Agrees f) c.self.view_is (agrees c.self.inside.links.items c.self.inside.values.items c.self.inside.free.items c.self.invariant.1)

pub returns-clause-single : goal.returns-clause-single
returns-clause-single g c =
    subst (λ f. HasSingleChildren f) c.self.view_is
    (single_children c.self.inside.links.items c.self.inside.values.items c.self.inside.free.items c.self.invariant.1)

pub returns-clause-live : goal.returns-clause-live
returns-clause-live g c =
    let links = c.self.inside.links.items in
    let values = c.self.inside.values.items in
    let free = c.self.inside.free.items in
    subst (λ f. HasLiveLinks f) c.self.view_is
    (live_links (record { rows = rows_of links; values = values; free = free }) c.self.invariant.3
    (length-map links (row_of links) ∙ c.self.invariant.0) (agrees links values free c.self.invariant.1))

pub returns-clause-shallow : goal.returns-clause-shallow
returns-clause-shallow g c = subst (λ f. IsShallow f.rows) c.self.view_is (shallow (rows_of c.self.inside.links.items) c.self.invariant.4)

pub returns-clause-even : goal.returns-clause-even
returns-clause-even g c =
    let links = c.self.inside.links.items in
    subst (λ f. length f.rows ≡ length f.values) c.self.view_is (length-map links (row_of links) ∙ c.self.invariant.0)

pub returns-clause-small : goal.returns-clause-small
returns-clause-small g c =
    let links = c.self.inside.links.items in
    let few : length links < 2 ^ 64 = search rules in
    subst (λ f. length f.rows < 2 ^ 64) c.self.view_is (subst (λ n. n < 2 ^ 64) (sym (length-map links (row_of links))) few)
