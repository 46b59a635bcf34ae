use Rattle.std.proofs.Common.{◌≡◌, ℕ, List, [], ◌∷◌, ◌++◌, Some, sym, ap, subst, rules, ◌∙◌}
use Rattle.sb_statements.specs.declared.scripts.Script.{Script}
use Rattle.sb_shared.specs.Making.{keeper_of}
use Rattle.sb_shared.specs.Opening.{AreFirst, all_actors}
use Rattle.sb_shared.specs.Rule.{Slot, word_count}
use Rattle.sb_shared.specs.Seats.{keeper_seat}
use Rattle.sb_shared.specs.declared.views.Origin.{Origin}
use Rattle.sb_shared.proofs.Begun.{begins}
use Rattle.sb_shared.proofs.openings.begin.Goals as goal

pub new-requires-3 : goal.new-requires-3
new-requires-3 c =
    let book = c.in_ok-book.book in
    let script = c.args.start.script in
    let policies = c.args.start.policies in
    let key : Origin = record { policies = c.of.result; script = c.of-2.result } in
    let items : c.push_reserved.new.self.items ≡ Some book ∷ [] = c.push_reserved.ensures.items ∙ ap (λ (l : List Slot). l ++ Some book ∷ []) c.in_ok-slots.ensures.items in
    let policies_are : key.policies.value.list ≡ policies = search rules in
    let script_is : key.script.value ≡ script = search rules in
    let slice : c.as_slice.result.now ≡ c.in_ok-words.words.items = search rules in
    let first : AreFirst script.targets word_count c.in_ok-words.words.items =
    subst (λ (s : Script). AreFirst s.targets word_count c.in_ok-words.words.items) c.script_of-script.ensures.same c.in_ok-words.ensures in
    let words : AreFirst script.targets word_count c.as_slice.result.now = subst (λ (l : List ℕ). AreFirst script.targets word_count l) (sym slice) first in
    begins key policies script policies_are script_is c.worlds_keep.ensures.start c.script_of-script.ensures.ready
    c.as_slice.result.now book words (c.in_ok-book.ensures ∙ c.new.ensures) c.push_reserved.new.self.items items

pub returns-in-Ok-clause-keeper : goal.returns-in-Ok-clause-keeper
returns-in-Ok-clause-keeper c =
    let ok = c.in-Ok.ensures.ok in
    let script_is : c.of-2.result.value ≡ c.args.start.script = search rules in
    ap (λ m. keeper_seat c.in-Ok.seat.table_id m.0) ok.4 ∙ (λ i. keeper_of (ok.2 i) (sym ok.5 i) (all_actors (script_is i).targets))
