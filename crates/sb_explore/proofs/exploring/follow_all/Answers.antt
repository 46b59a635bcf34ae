use Rattle.std.proofs.Common.{◌≡◌, ◌∙◌, ◌<◌, ◌≤◌, [], ℕ, true, length, ap, arith, get_or, subst, sym}
use Rattle.std.proofs.lemmas.Option.{get_or_from_slice_get}
use Rattle.sb_explore.specs.Exploring.{list_at, is_letter, AreInOrder, Leads}
use Rattle.sb_explore.proofs.FoundLemmas.{all_lead, at_longer, lead_more, letter_at, longer_longer}
use Rattle.sb_explore.proofs.exploring.follow_all.Goals as goal

pub follow-requires-clause-letter : goal.follow-requires-clause-letter
follow-requires-clause-letter g c =
    let letters = c.deref-letter-items.result.now in
    let letter = get_or letters c.loop-letter.letter-index 0 in
    let here : list_at c.args.states.now.keys c.args.place ≡ c.index.result.now =
    get_or_from_slice_get c.args.states.now.keys c.args.place c.index.result.now [] c.index.ensures in
    let same : c.index.result.now ≡ list_at c.loop-letter.states.keys c.args.place =
    sym here ∙ sym (at_longer c.args.states.now.keys c.loop-letter.states.keys c.args.place c.loop-letter.invariant.states c.requires.place) in
    let is : is_letter c.in_ok-letters.letters.items letter ≡ true =
    ap (λ l. is_letter l letter) (sym c.deref-letter-items.ensures.value) ∙ letter_at letters c.loop-letter.letter-index c.loop-letter-test.true in
    subst (λ s. g.M.Machine.is_like c.args.machine.now s letter letter) same (c.in_ok-letters.ensures.own letter is)

pub loop-letter-preserved : goal.loop-letter-preserved
loop-letter-preserved g c =
    let state = list_at c.args.states.now.keys c.args.place in
    let units = length (list_at c.args.words.now.items c.args.place) in
    let inv = c.loop-letter.invariant in
    let grown = c.in_ok-follow.ensures in
    let low_word : c.args.place < length c.args.words.now.items = omega (arith, c.requires.found.as_many, c.requires.place) in
    let same_state : list_at c.loop-letter.states.keys c.args.place ≡ state = at_longer c.args.states.now.keys c.loop-letter.states.keys c.args.place inv.states c.requires.place in
    let same_units : length (list_at c.loop-letter.words.items c.args.place) ≡ units = ap length (at_longer c.args.words.now.items c.loop-letter.words.items c.args.place inv.words low_word) in
    record {
      found = grown.found;
      order = subst (AreInOrder c.follow.new.words.items) same_units grown.order;
      states = longer_longer c.args.states.now.keys c.loop-letter.states.keys c.follow.new.states.keys inv.states grown.states;
      words = longer_longer c.args.words.now.items c.loop-letter.words.items c.follow.new.words.items inv.words grown.words;
      lead = lead_more (g.M.Machine.is_like c.args.machine.now state) (g.M.Machine.stands_for c.args.machine.now) c.deref-letter-items.result.now c.loop-letter.words.items
          c.follow.new.words.items c.loop-letter.states.keys c.follow.new.states.keys units state c.loop-letter.letter-index c.loop-letter-test.true inv.found.as_many grown.words grown.states
          inv.lead
          (λ unit like. subst (λ n. Leads (g.M.Machine.stands_for c.args.machine.now) c.follow.new.words.items c.follow.new.states.keys n state unit) same_units
          (subst (λ s. Leads (g.M.Machine.stands_for c.args.machine.now) c.follow.new.words.items c.follow.new.states.keys (length (list_at c.loop-letter.words.items c.args.place)) s unit) same_state
          (grown.leads unit (subst (λ s. g.M.Machine.is_like c.args.machine.now s unit (get_or c.deref-letter-items.result.now c.loop-letter.letter-index 0)) (sym same_state) like))));
    }

pub returns-clause-lead : goal.returns-clause-lead
returns-clause-lead g c =
    let state = list_at c.args.states.now.keys c.args.place in
    let letters = c.deref-letter-items.result.now in
    let here : list_at c.args.states.now.keys c.args.place ≡ c.index.result.now =
    get_or_from_slice_get c.args.states.now.keys c.args.place c.index.result.now [] c.index.ensures in
    all_lead (g.M.Machine.is_like c.args.machine.now state) (g.M.Machine.stands_for c.args.machine.now) letters c.loop-letter.words.items c.loop-letter.states.keys
    (length (list_at c.args.words.now.items c.args.place)) state c.loop-letter.letter-index c.loop-letter-test.false
    (λ unit. let l = c.in_ok-letters.ensures.all unit in
    (l.0, ap (λ x. is_letter x l.0) c.deref-letter-items.ensures.value ∙ l.1, subst (λ s. g.M.Machine.is_like c.args.machine.now s unit l.0) (sym here) l.2))
    c.loop-letter.invariant.lead
