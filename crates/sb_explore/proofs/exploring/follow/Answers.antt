use Rattle.std.specs.Prelude.{nat_eq}
use Rattle.std.specs.Cmp.Lexicographic.{pointwise}
use Rattle.std.specs.List.{list_any}
use Rattle.std.proofs.Common.{◌≡◌, ◌∙◌, ◌<◌, ◌++◌, ◌∷◌, [], length, ap, subst, sym, arith, rules}
use Rattle.std.proofs.lemmas.List.{get_or_read}
use Rattle.std.proofs.lemmas.Option.{get_or_from_slice_get}
use Rattle.sb_explore.specs.Exploring.{list_at, AreFound, AreInOrder}
use Rattle.sb_explore.proofs.FoundLemmas.{leads_to_stored, found_pushed, old_kept, order_pushed}
use Rattle.sb_explore.proofs.exploring.follow.Goals as goal

pub returns-then-not-is_new-clause-leads : goal.returns-then-not-is_new-clause-leads
returns-then-not-is_new-clause-leads g c = λ unit like.
    let here : list_at c.args.states.now.keys c.args.place ≡ c.index.result.now =
    get_or_from_slice_get c.args.states.now.keys c.args.place c.index.result.now [] c.index.ensures in
    let s = c.in_ok-is_new.ensures.stored in
    let same : c.insert_full.new.self.keys ≡ c.args.states.now.keys =
    old_kept (list_any (pointwise nat_eq c.in_ok-next.next) c.args.states.now.keys) c.in_ok-is_new.is_new c.args.states.now.keys c.insert_full.new.self.keys c.in_ok-next.next
    c.in_ok-is_new.ensures.keys c.in_ok-is_new.ensures.added c.if-not-is_new.true in
    leads_to_stored (g.M.Machine.stands_for c.args.machine.now) c.args.words.now.items c.insert_full.new.self.keys (length (list_at c.args.words.now.items c.args.place))
    (list_at c.args.states.now.keys c.args.place) c.in_ok-next.next s.0 unit c.in_ok-is_new.field-0-0 (c.requires.found.as_many ∙ ap length (sym same)) c.requires.order s.1 s.2
    (λ word w. c.in_ok-next.ensures.stands word unit (subst (λ l. g.M.Machine.is_like c.args.machine.now l unit c.args.letter) here like)
    (subst (g.M.Machine.stands_for c.args.machine.now word) here w))

pub returns-clause-leads : goal.returns-clause-leads
returns-clause-leads g c = λ unit like.
    let here : list_at c.args.states.now.keys c.args.place ≡ c.index.result.now =
    get_or_from_slice_get c.args.states.now.keys c.args.place c.index.result.now [] c.index.ensures in
    let low : c.args.place < length c.args.words.now.items = omega (arith, c.requires.found.as_many, c.requires.place) in
    let read : c.index-2.result.now ≡ list_at c.args.words.now.items c.args.place = get_or_read c.args.words.now.items c.args.place c.index-2.result.now low c.index-2.ensures [] in
    let word : c.in_ok-word.word ≡ list_at c.args.words.now.items c.args.place ++ c.args.letter ∷ [] =
    c.in_ok-word.ensures ∙ ap (λ l. l ++ c.args.letter ∷ []) (c.as_units.ensures ∙ read) in
    let s = c.in_ok-is_new.ensures.stored in
    let found : AreFound (g.M.Machine.leads_to c.args.machine.now) c.push.new.self.items c.insert_full.new.self.keys =
    found_pushed (g.M.Machine.leads_to c.args.machine.now) c.args.words.now.items c.push.new.self.items c.args.states.now.keys c.insert_full.new.self.keys c.args.place c.args.letter
    c.in_ok-next.next c.in_ok-word.word (list_any (pointwise nat_eq c.in_ok-next.next) c.args.states.now.keys) c.in_ok-is_new.is_new c.requires.place c.requires.found
    (λ w h. c.in_ok-next.ensures.leads w (subst (λ l. g.M.Machine.is_like c.args.machine.now l c.args.letter c.args.letter) here c.requires.letter)
    (subst (g.M.Machine.leads_to c.args.machine.now w) here h)) c.in_ok-push.ensures.items word c.in_ok-is_new.ensures.keys c.in_ok-is_new.ensures.added c.if-not-is_new.false in
    let order : AreInOrder c.push.new.self.items (length (list_at c.args.words.now.items c.args.place)) =
    order_pushed c.args.words.now.items c.push.new.self.items c.args.place c.args.letter c.in_ok-word.word c.in_ok-push.ensures.items word c.requires.order in
    leads_to_stored (g.M.Machine.stands_for c.args.machine.now) c.push.new.self.items c.insert_full.new.self.keys (length (list_at c.args.words.now.items c.args.place))
    (list_at c.args.states.now.keys c.args.place) c.in_ok-next.next s.0 unit c.in_ok-is_new.field-0-0 found.as_many order s.1 s.2
    (λ word w. c.in_ok-next.ensures.stands word unit (subst (λ l. g.M.Machine.is_like c.args.machine.now l unit c.args.letter) here like)
    (subst (g.M.Machine.stands_for c.args.machine.now word) here w))

pub returns-clause-found : goal.returns-clause-found
returns-clause-found g c =
    let here : list_at c.args.states.now.keys c.args.place ≡ c.index.result.now =
    get_or_from_slice_get c.args.states.now.keys c.args.place c.index.result.now [] c.index.ensures in
    let low : c.args.place < length c.args.words.now.items = omega (arith, c.requires.found.as_many, c.requires.place) in
    let read : c.index-2.result.now ≡ list_at c.args.words.now.items c.args.place = get_or_read c.args.words.now.items c.args.place c.index-2.result.now low c.index-2.ensures [] in
    let word : c.in_ok-word.word ≡ list_at c.args.words.now.items c.args.place ++ c.args.letter ∷ [] =
    c.in_ok-word.ensures ∙ ap (λ l. l ++ c.args.letter ∷ []) (c.as_units.ensures ∙ read) in
    found_pushed (g.M.Machine.leads_to c.args.machine.now) c.args.words.now.items c.push.new.self.items c.args.states.now.keys c.insert_full.new.self.keys c.args.place c.args.letter
    c.in_ok-next.next c.in_ok-word.word (list_any (pointwise nat_eq c.in_ok-next.next) c.args.states.now.keys) c.in_ok-is_new.is_new c.requires.place c.requires.found
    (λ w h. c.in_ok-next.ensures.leads w (subst (λ l. g.M.Machine.is_like c.args.machine.now l c.args.letter c.args.letter) here c.requires.letter)
    (subst (g.M.Machine.leads_to c.args.machine.now w) here h)) c.in_ok-push.ensures.items word c.in_ok-is_new.ensures.keys c.in_ok-is_new.ensures.added c.if-not-is_new.false

pub returns-clause-order : goal.returns-clause-order
returns-clause-order g c =
    let low : c.args.place < length c.args.words.now.items = omega (arith, c.requires.found.as_many, c.requires.place) in
    let read : c.index-2.result.now ≡ list_at c.args.words.now.items c.args.place = get_or_read c.args.words.now.items c.args.place c.index-2.result.now low c.index-2.ensures [] in
    let word : c.in_ok-word.word ≡ list_at c.args.words.now.items c.args.place ++ c.args.letter ∷ [] =
    c.in_ok-word.ensures ∙ ap (λ l. l ++ c.args.letter ∷ []) (c.as_units.ensures ∙ read) in
    order_pushed c.args.words.now.items c.push.new.self.items c.args.place c.args.letter c.in_ok-word.word c.in_ok-push.ensures.items word c.requires.order
