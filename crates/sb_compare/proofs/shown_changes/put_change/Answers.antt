use Rattle.std.proofs.Common.{◌≡◌, ◌∙◌, ◌++◌, ◌∷◌, [], false, inl, inr, ap, refl, subst, sym}
use Rattle.sb_compare.specs.Changes.{is_answered_alike}
use Rattle.sb_compare.specs.ShownChanges.{IsShown}
use Rattle.sb_compare.proofs.ShownChangeLemmas.{alike_none, found_shown, missing_none}
use Rattle.sb_compare.proofs.shown_changes.put_change.Goals as goal

pub returns-then-is_answered_alike : goal.returns-then-is_answered_alike
returns-then-is_answered_alike c = λ old new name old_made new_made are written.
    inl (refl, alike_none c.changes_decide_answers.ensures c.args.tag old new c.args.change old_made new_made (sym c.is_answered_alike.ensures ∙ c.if-is_answered_alike.true))

pub returns-in_default : goal.returns-in_default
returns-in_default c = λ old new name old_made new_made are written.
    inl (refl, missing_none c.args.tag old new c.args.change c.in_ok-class.class c.args.calls.now.classes.keys c.args.calls.now.calls.items c.in_ok-class.ensures c.in_default.ensures are)

pub returns : goal.returns
returns c = λ old new name old_made new_made are written.
    let tag = c.args.tag in
    let change = c.args.change in
    let unlike : is_answered_alike change ≡ false = sym c.is_answered_alike.ensures ∙ c.if-is_answered_alike.false in
    let put = c.in_ok-push.ensures.ok ∙ ap (λ p. c.args.shown.now ++ (record { policy = p; tag = tag; change = change; call = c.in_ok-call.call }) ∷ []) (c.copy.ensures ∙ sym name) in
    let shown = found_shown c.changes_decide_answers.ensures tag old new change c.in_ok-class.class c.args.calls.now.classes.keys c.args.calls.now.calls.items c.in-Some.call.now old_made new_made
    c.in_ok-class.ensures unlike c.in-Some.ensures are written in
    inr (c.in_ok-call.call, put, subst (IsShown tag old new change) (sym c.in_ok-call.ensures) shown)
