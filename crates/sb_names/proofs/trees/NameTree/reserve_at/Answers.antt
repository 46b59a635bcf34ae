use Rattle.std.proofs.Common.{rules, ◌≡◌, ◌∙◌, ap, sym, refl, subst, ◌++◌, ◌∷◌}
use Rattle.std.specs.BTreeMap.{get}
use Rattle.sb_arena.specs.Forests.{HasLiveLinks, IsShallow, node_number, with_vacancy}
use Rattle.sb_base.specs.Names.{is_component}
use Rattle.sb_names.specs.Hashes.{hash_of}
use Rattle.sb_names.specs.Keys.{key_of, parent_of}
use Rattle.sb_names.specs.Nodes.{HasNames, IsIndexed, IsThere, name_of, number_of, rows_of}
use Rattle.sb_names.specs.Objects.{HasObjects}
use Rattle.sb_base.specs.Orders.{by_pair}
use Rattle.sb_names.proofs.AddLemmas.{at_there, whole_key}
use Rattle.sb_names.proofs.ObjectLemmas.{more_objects, same_objects, vacancy_objects}
use Rattle.sb_names.proofs.PutLemmas.{indexed_more}
use Rattle.sb_names.proofs.RoomLemmas.{entry_here, has_room, vacancy_indexed, vacancy_name, vacancy_names, vacancy_rows}
use Rattle.sb_names.proofs.trees.NameTree.reserve_at.Goals as goal

pub invariant_of-self-in_err-reserve : goal.invariant_of-self-in_err-reserve
invariant_of-self-in_err-reserve c =
    subst (λ g. HasNames g × IsIndexed (get by_pair c.insert.new.self) g × HasObjects (get by_pair c.insert-2.new.self) g) (sym c.in_err-reserve.ensures.err) (
      c.self.invariant.0,
      indexed_more c.self.inside.nodes (get by_pair c.self.inside.index) (get by_pair c.insert.new.self) _ c.hash_of-hash.result c.vacant-number.result.0
          c.self.invariant.1 c.in_ok-insert.ensures.updates.0,
      more_objects c.self.inside.nodes (get by_pair c.self.inside.objects) (get by_pair c.insert-2.new.self) _ (c.args.object, c.vacant-number.result.0)
          c.self.invariant.2 c.in_ok-insert-2.ensures.updates.0,
    )

pub invariant_of-self-2 : goal.invariant_of-self-2
invariant_of-self-2 c =
    let leaves = c.vacancies_change_nothing.ensures.nodes in
    let more = indexed_more c.self.inside.nodes (get by_pair c.self.inside.index) (get by_pair c.insert.new.self) _ c.hash_of-hash.result c.vacant-number.result.0
    c.self.invariant.1 c.in_ok-insert.ensures.updates.0 in
    let held = more_objects c.self.inside.nodes (get by_pair c.self.inside.objects) (get by_pair c.insert-2.new.self) _ (c.args.object, c.vacant-number.result.0)
    c.self.invariant.2 c.in_ok-insert-2.ensures.updates.0 in
    subst (λ g. HasNames g × IsIndexed (get by_pair c.insert.new.self) g × HasObjects (get by_pair c.insert-2.new.self) g) (sym c.in_ok-reserve.ensures.ok) (
      vacancy_names leaves c.self.inside.nodes c.self.invariant.0,
      vacancy_indexed leaves c.self.inside.nodes (get by_pair c.insert.new.self) more,
      vacancy_objects leaves c.self.inside.nodes (get by_pair c.insert-2.new.self) held,
    )

pub invariant_of-self-in_err-insert-2 : goal.invariant_of-self-in_err-insert-2
invariant_of-self-in_err-insert-2 c = (
  c.self.invariant.0,
  indexed_more c.self.inside.nodes (get by_pair c.self.inside.index) (get by_pair c.insert.new.self) _ c.hash_of-hash.result c.vacant-number.result.0
      c.self.invariant.1 c.in_ok-insert.ensures.updates.0,
  same_objects c.self.inside.nodes c.self.inside.objects c.insert-2.new.self (search rules) c.self.invariant.2,
)

pub returns-clause-room : goal.returns-clause-room
returns-clause-room c =
    let f = c.self.inside.nodes in
    let d = number_of c.args.directory in
    let part = c.in_ok-from_units.field-0 in
    let there = at_there c.args.self.now.nodes d (key_of (parent_of c.args.name.now)) c.requires.at in
    let hashed : c.hash_of-hash.result ≡ hash_of d (key_of part) = c.hash_of-hash.ensures ∙ ap (λ us. hash_of d (key_of us)) (sym c.in_ok-from_units.ensures) in
    has_room c.vacancies_change_nothing.ensures.nodes c.vacancies_change_nothing.ensures.numbers f c.reserve.new.self c.in_ok-reserve.ensures.ok
    (record { directory = c.args.directory; part = part; object = c.args.object }) c.insert.new.self.entries c.insert-2.new.self.entries
    (subst (λ t. IsThere t.nodes d) (sym c.self.view_is) there)
    (ap is_component c.in_ok-from_units.ensures ∙ c.last_component.ensures.part)
    (entry_here (get by_pair c.self.inside.index) (get by_pair c.insert.new.self) _ c.hash_of-hash.result c.vacant-number.result.0
    c.in_ok-insert.ensures.updates.0 (hash_of d (key_of part)) (node_number f) hashed c.vacant-number.ensures)
    (entry_here (get by_pair c.self.inside.objects) (get by_pair c.insert-2.new.self) _ c.args.object c.vacant-number.result.0
    c.in_ok-insert-2.ensures.updates.0 c.args.object (node_number f) refl c.vacant-number.ensures)

pub returns-clause-key : goal.returns-clause-key
returns-clause-key c =
    let f = c.args.self.now.nodes in
    let known = c.establish_names.ensures in
    let grown = c.in_ok-reserve.ensures.ok ∙ ap (λ t. with_vacancy t.nodes) c.self.view_is in
    let shallow = subst (λ g. IsShallow g.rows) grown c.establish_forest.ensures.shallow in
    let live = subst (λ g. HasLiveLinks g) grown c.establish_forest.ensures.live in
    let d = number_of c.args.directory in
    let name = c.args.name.now in
    let part = c.last_component.result.1.now in
    (λ i. name_of (grown i) d ++ 92 ∷ key_of (c.in_ok-from_units.ensures i))
    ∙ ap (λ us. us ++ 92 ∷ key_of part) (vacancy_name c.vacancies_change_nothing.ensures.nodes f c.calls_change_one_value.ensures.free known.sound known.even known.names
    known.shallow known.live shallow live d (at_there f d (key_of (parent_of name)) c.requires.at))
    ∙ sym (whole_key f known.names known.shallow known.live name (parent_of name) part d refl c.last_component.ensures.whole c.requires.at)

pub returns-clause-rows : goal.returns-clause-rows
returns-clause-rows c =
    let known = c.establish_names.ensures in
    let grown = c.in_ok-reserve.ensures.ok ∙ ap (λ t. with_vacancy t.nodes) c.self.view_is in
    let shallow = subst (λ g. IsShallow g.rows) grown c.establish_forest.ensures.shallow in
    let live = subst (λ g. HasLiveLinks g) grown c.establish_forest.ensures.live in
    ap rows_of grown
    ∙ vacancy_rows c.vacancies_change_nothing.ensures.nodes c.args.self.now.nodes c.calls_change_one_value.ensures.free known.sound known.even known.names
    known.shallow known.live shallow live
