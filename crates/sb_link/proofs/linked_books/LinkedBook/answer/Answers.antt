use Rattle.std.proofs.Common.{rules, ◌≡◌, ◌∙◌, ◌++◌, ◌∷◌, [], length, subst, sym, ap}
use Rattle.std.specs.Prelude.{Ok, Err}
use Rattle.sb_block.specs.Copies.{mark_of}
use Rattle.sb_book.specs.Histories.{answered, target_decision}
use Rattle.sb_link.specs.Answers.{IsResolvedCall, linked, stopped_reply}
use Rattle.sb_link.specs.LinkedHistories.{IsLinkedHistory, LinkedHistory, answered_by, answered_linked, linked_reply, reply_by}
use Rattle.sb_link.specs.declared.linked_books.Linked.TheVariants as item
use Rattle.sb_link.proofs.Linking.{entry_is_linked, stop_is_linked}
use Rattle.sb_link.proofs.linked_books.LinkedBook.answer.Goals as goal

pub invariant_of-self-in-Ok : goal.invariant_of-self-in-Ok
invariant_of-self-in-Ok g c =
    let old : LinkedHistory = record { links = c.self.inside.links; history = c.self.inside.book; log = c.self.inside.log.items } in
    let target = c.args.target in
    let channel = c.args.channel in
    let taken = c.args.taken.now in
    let copy = c.in-Ok.linked.copy in
    let book : c.answer_copy.new.book ≡ answered old.history target channel copy (target_decision old.history target copy) = search rules in
    let log : c.push_reserved.new.self.items ≡ old.log ++ item.Entry taken (length old.history.entries) ∷ [] = search rules in
    let new : LinkedHistory = record { links = c.self.inside.links; history = c.answer_copy.new.book; log = c.push_reserved.new.self.items } in
    let whole : new ≡ answered_by old target channel taken (Ok copy) = λ i. record { links = c.self.inside.links; history = book i; log = log i } in
    subst IsLinkedHistory (sym whole) (entry_is_linked old target channel taken copy c.self.invariant c.in-Ok.ensures.copy
    (subst (IsResolvedCall old.links) (sym c.in-Ok.ensures.call) c.in-Ok.ensures.resolved))

pub returns-in_ok-reply-in-Ok-clause-reply : goal.returns-in_ok-reply-in-Ok-clause-reply
returns-in_ok-reply-in-Ok-clause-reply g c =
    let old : LinkedHistory = record { links = c.self.inside.links; history = c.self.inside.book; log = c.self.inside.log.items } in
    let target = c.args.target in
    let taken = c.args.taken.now in
    let reply : c.in_ok-reply-in-Ok.reply ≡ reply_by old target taken (Ok c.in-Ok.linked.copy) = search rules in
    reply ∙ ap (reply_by old target taken) (sym c.in-Ok.ensures.copy) ∙ ap (λ (s : LinkedHistory). linked_reply s target taken) c.self.view_is

pub returns-in_ok-reply-in-Ok-clause-ok : goal.returns-in_ok-reply-in-Ok-clause-ok
returns-in_ok-reply-in-Ok-clause-ok g c =
    let old : LinkedHistory = record { links = c.self.inside.links; history = c.self.inside.book; log = c.self.inside.log.items } in
    let target = c.args.target in
    let channel = c.args.channel in
    let taken = c.args.taken.now in
    let copy = c.in-Ok.linked.copy in
    let book : c.answer_copy.new.book ≡ answered old.history target channel copy (target_decision old.history target copy) = search rules in
    let log : c.push_reserved.new.self.items ≡ old.log ++ item.Entry taken (length old.history.entries) ∷ [] = search rules in
    let new : LinkedHistory = record { links = c.self.inside.links; history = c.answer_copy.new.book; log = c.push_reserved.new.self.items } in
    let whole : new ≡ answered_by old target channel taken (Ok copy) = λ i. record { links = c.self.inside.links; history = book i; log = log i } in
    whole ∙ ap (answered_by old target channel taken) (sym c.in-Ok.ensures.copy) ∙ ap (λ (s : LinkedHistory). answered_linked s target channel taken) c.self.view_is

pub invariant_of-self-in-Err-Fault : goal.invariant_of-self-in-Err-Fault
invariant_of-self-in-Err-Fault g c =
    let old : LinkedHistory = record { links = c.self.inside.links; history = c.self.inside.book; log = c.self.inside.log.items } in
    let target = c.args.target in
    let channel = c.args.channel in
    let taken = c.args.taken.now in
    let stopped = c.in-Err-Fault.stopped in
    let stops : linked old.links taken ≡ Err stopped = search rules in
    let log : c.push_reserved-in-Err-Fault.new.self.items
    ≡ old.log ++ item.Stopped target channel taken stopped.tag stopped.stop (stopped_reply (mark_of taken)) ∷ [] = search rules in
    let new : LinkedHistory = record { links = c.self.inside.links; history = c.self.inside.book; log = c.push_reserved-in-Err-Fault.new.self.items } in
    let whole : new ≡ answered_by old target channel taken (Err stopped) = λ i. record { links = c.self.inside.links; history = c.self.inside.book; log = log i } in
    subst IsLinkedHistory (sym whole) (stop_is_linked old target channel taken stopped c.self.invariant stops)
