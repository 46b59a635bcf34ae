-- The entries of one target, if others are put after them.
use Rattle.std.proofs.Common.{◌∙◌, cond, [], ◌∷◌, ◌++◌, ap, eq-eqb, ne_eqb}
use Rattle.std.proofs.lemmas.List.{append-nil}
use Rattle.std.proofs.lemmas.List.Elements.{filter-append}
use Rattle.sb_book.specs.Targets.{TargetsAppend, OwnEntryIsLast, OtherEntriesStay, is_of_target, of_target}

pub targets_append : TargetsAppend
targets_append target front rest = filter-append (is_of_target target) front rest

pub own_entry_is_last : OwnEntryIsLast
own_entry_is_last target entries e same =
    targets_append target entries (e ∷ []) ∙ ap (λ b. of_target target entries ++ cond b (e ∷ []) []) (eq-eqb e.target target same)

pub other_entries_stay : OtherEntriesStay
other_entries_stay target entries e other =
    targets_append target entries (e ∷ []) ∙ ap (λ b. of_target target entries ++ cond b (e ∷ []) []) (ne_eqb e.target target other)
    ∙ append-nil (of_target target entries)
