use Rattle.std.proofs.Common.{◌≡◌, ◌∙◌, ◌≤◌, ◌<◌, ◌+◌, [], length, ap, sym, subst, arith}
use Rattle.sb_explore.specs.Exploring.{list_at}
use Rattle.sb_explore.proofs.FoundLemmas.{all_reached, at_longer, followed_more, length_longer, order_next}
use Rattle.sb_explore.proofs.exploring.explore.Goals as goal

pub loop-place-preserved : goal.loop-place-preserved
loop-place-preserved g c =
    let inv = c.loop-place.invariant in
    let grown = c.in_ok-follow_all.ensures in
    let before = c.loop-place.states.keys in
    let within : c.loop-place.place < length before = omega (arith, c.len.ensures.len, c.loop-place-test.true) in
    let within_word : c.loop-place.place < length c.loop-place.words.items = omega (arith, inv.found.as_many, within) in
    let some_word : 0 < length c.loop-place.words.items = omega (arith, inv.found.as_many, inv.some) in
    record {
      found = grown.found;
      by_length = grown.order.by_length;
      order = λ next. let next_word : c.loop-place.place + 1 < length c.follow_all.new.words.items = omega (arith, grown.found.as_many, next) in
          order_next c.loop-place.words.items c.follow_all.new.words.items c.loop-place.place grown.words within_word grown.order next_word;
      followed = followed_more (g.M.Machine.stands_for c.args.machine.now) c.loop-place.words.items c.follow_all.new.words.items before c.follow_all.new.states.keys c.loop-place.place within
          inv.found.as_many grown.words grown.states inv.followed grown.lead;
      low = omega arith;
      some = omega (arith, inv.some, length_longer before c.follow_all.new.states.keys grown.states);
      empty = ap length (at_longer c.loop-place.words.items c.follow_all.new.words.items 0 grown.words some_word) ∙ inv.empty;
      start = subst (g.M.Machine.stands_for c.args.machine.now []) (sym (at_longer before c.follow_all.new.states.keys 0 grown.states inv.some)) inv.start;
    }

pub returns-clause-all : goal.returns-clause-all
returns-clause-all g c =
    let past : length c.loop-place.states.keys ≤ c.loop-place.place = omega (arith, c.len.ensures.len, c.loop-place-test.false) in
    all_reached (g.M.Machine.stands_for c.args.machine.now) c.loop-place.words.items c.loop-place.states.keys c.loop-place.place past c.loop-place.invariant.followed
    c.loop-place.invariant.some c.loop-place.invariant.empty c.loop-place.invariant.start
