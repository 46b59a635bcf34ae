use Rattle.std.proofs.Common.{◌≡◌, ◌<◌, ◌++◌, ◌∷◌, [], length, rules}
use Rattle.std.specs.Prelude.{slice_index}
use Rattle.sb_rule.specs.Verdicts.{policy_at}
use Rattle.sb_book.specs.Decisions.{decision_of}
use Rattle.sb_book.specs.Histories.{History, IsHistory, answered, entry_of, setting_of, space_after}
use Rattle.sb_book.proofs.Fitting.{decided_fits}
use Rattle.sb_book.proofs.Legal.{answered_is_legal}
use Rattle.sb_book.proofs.books.Book.answer.Goals as goal

pub carry_out-requires : goal.carry_out-requires
carry_out-requires c = record { fits = rw c.requires.decided (decided_fits c.faultless_copies_fit.ensures (policy_at c.args.self.now.setting.policies c.args.target) c.args.taken.now) }

pub invariant_of-self-2 : goal.invariant_of-self-2
invariant_of-self-2 c =
    let h : History = record {
      setting = setting_of c.self.inside.policies.value.list c.self.inside.script.value;
      space = c.self.inside.kernel;
      entries = c.self.inside.store.entries;
    } in
    let there : c.args.target < length h.setting.policies = rw (← c.self.view_is) at c.requires.target_there in
    let channel : c.args.channel < slice_index h.setting.channels c.args.target = rw (← c.self.view_is) at c.requires.channel_there in
    let decided : c.args.decision ≡ decision_of (policy_at h.setting.policies c.args.target) c.args.taken.now = rw (← c.self.view_is) at c.requires.decided in
    let legal : IsHistory (answered h c.args.target c.args.channel c.args.taken.now c.args.decision) =
    answered_is_legal h c.args.target c.args.channel c.args.taken.now c.args.decision there channel c.establish_whole.ensures decided c.self.invariant in
    let space : c.carry_out.new.kernel ≡ space_after h.space c.args.target c.args.decision = c.in_ok-reply.ensures.ok in
    let entries : c.push_reserved.new.self.entries ≡ h.entries ++ entry_of h.space c.args.target c.args.channel c.args.taken.now c.args.decision ∷ [] = search rules in
    rw (space, entries) legal
