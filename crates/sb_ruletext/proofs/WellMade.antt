-- The rules and policies that are read are well made.
use Rattle.std.proofs.Common.{◌≡◌, refl, ℕ, ◌≤◌, List, [], ◌∷◌, true, length, nat_le, arith}
use Rattle.std.proofs.lemmas.Bool.{and_from}
use Rattle.std.proofs.lemmas.Bool.Decides.{nat_tests}
use Rattle.std.specs.List.{list_all}
use Rattle.sb_call.specs.declared.tags.CallTag.{CallTag}
use Rattle.sb_rule.specs.declared.cells.Cell.{Cell}
use Rattle.sb_rule.specs.WellMade.{is_like_text, is_well_made_rule, is_well_formed, is_for_readers}
use Rattle.sb_rule.specs.declared.actions.Action.{Action}
use Rattle.sb_rule.specs.declared.conditions.Cond.{Cond}
use Rattle.sb_ruletext.specs.Grants.{rules_of}
use Rattle.sb_ruletext.specs.declared.grants.Grant.{Grant}
use Rattle.sb_ruletext.specs.declared.grants.Grant.TheVariants.{FilesAny, FilesReadonly, FilesQuery, PipesAny, RegistryAny, RegistryReadonly, EventsAny, EventsReadonly}

-- the rules of a grant
pub granted_well_made : (line : ℕ) (grant : Grant) (pattern : List Cell) → is_like_text pattern ≡ true
    → list_all is_well_made_rule (rules_of line grant pattern) ≡ true
granted_well_made line FilesAny pattern h = rw (h) refl
granted_well_made line FilesReadonly pattern h = rw (h) refl
granted_well_made line FilesQuery pattern h = rw (h) refl
granted_well_made line PipesAny pattern h = rw (h) refl
granted_well_made line RegistryAny pattern h = rw (h) refl
granted_well_made line RegistryReadonly pattern h = rw (h) refl
granted_well_made line EventsAny pattern h = rw (h) refl
granted_well_made line EventsReadonly pattern h = rw (h) refl

-- one rule, with few conditions that are well formed
pub one_well_made : (tag : CallTag) (conds : List Cond) (action : Action) (line : ℕ) → length conds ≤ 8 → is_for_readers action tag ≡ true
    → list_all (is_well_formed tag) conds ≡ true → list_all is_well_made_rule (record { tag = tag; conds = conds; action = action; line = line } ∷ []) ≡ true
one_well_made tag conds action line l r h =
    let few : nat_le (length conds) 8 ≡ true = grind (arith, nat_tests) in
    and_from _ _ (and_from _ _ (and_from _ _ few r) h) refl
