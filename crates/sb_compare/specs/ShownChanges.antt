-- Which changes are shown, each with a call.
use Rattle.std.specs.Prelude.{◌≡◌, ◌⊎◌, ◌++◌, ◌∷◌, true, false, List, []}
use Rattle.std.specs.List.{list_all}
use Rattle.sb_call.specs.Arguments.{fits}
use Rattle.sb_call.specs.declared.arguments.Arg.{Arg}
use Rattle.sb_call.specs.declared.tags.CallTag.{CallTag}
use Rattle.sb_cover.specs.Choices.{is_shown_arg}
use Rattle.sb_cover.specs.Lengths.{is_shorter}
use Rattle.sb_cover.specs.PolicyCovers.{is_call}
use Rattle.sb_rule.specs.declared.policies.Policy.{Policy}
use Rattle.sb_compare.specs.Candidates.{candidates}
use Rattle.sb_compare.specs.Changes.{change_of, AnswersAlike}
use Rattle.sb_compare.specs.declared.changes.Change.{Change}
use Rattle.sb_compare.specs.declared.changes.ShownChange.{ShownChange}

-- both policies answer each call with this change alike; so also if there is none
abbrev pub IsNoChange : CallTag → Policy → Policy → Change → Type 0
IsNoChange tag old new change = (args : List Arg) → is_call tag args ≡ true → change_of tag old new args ≡ change → AnswersAlike change args

-- the call has this change, the policies do not answer it alike, a script can have it, and no call with this change is shorter
pub record IsShown (tag : CallTag) (old new : Policy) (change : Change) (call : List Arg) : Type 0 where
  pub fits : fits tag call ≡ true
  pub has : change_of tag old new call ≡ change
  pub unlike : AnswersAlike change call → ⊥
  pub written : list_all is_shown_arg call ≡ true
  pub shortest : (other : List Arg) → is_call tag other ≡ true → change_of tag old new other ≡ change → is_shorter other call ≡ false

-- of some changes those are shown that some call has which the policies do not answer alike, in order
abbrev pub AreShown : CallTag → Policy → Policy → List Change → List ShownChange → Type 0
AreShown tag old new [] shown = shown ≡ []
AreShown tag old new (change ∷ changes) shown =
    (IsNoChange tag old new change × AreShown tag old new changes shown)
    ⊎ ((call : List Arg) × (rest : List ShownChange) × (shown ≡ (record { policy = new.name; tag = tag; change = change; call = call }) ∷ rest)
    × IsShown tag old new change call × AreShown tag old new changes rest)

-- all changes of the calls of a tag
abbrev pub AreChangesOf : CallTag → Policy → Policy → List ShownChange → Type 0
AreChangesOf tag old new shown = AreShown tag old new (candidates tag old new) shown

-- the changes of the calls of each tag, tag by tag
abbrev pub AreAllChanges : Policy → Policy → List CallTag → List ShownChange → Type 0
AreAllChanges old new [] shown = shown ≡ []
AreAllChanges old new (tag ∷ tags) shown =
    (here : List ShownChange) × (later : List ShownChange) × (shown ≡ here ++ later) × AreChangesOf tag old new here × AreAllChanges old new tags later

-- a change is put with a call that shows it, or is none
abbrev pub IsChangePut : CallTag → Policy → Policy → Change → List ShownChange → List ShownChange → Type 0
IsChangePut tag old new change before after =
    ((after ≡ before) × IsNoChange tag old new change)
    ⊎ ((call : List Arg) × (after ≡ before ++ (record { policy = new.name; tag = tag; change = change; call = call }) ∷ []) × IsShown tag old new change call)

-- of some changes those that are shown are put
abbrev pub ArePut : CallTag → Policy → Policy → List Change → List ShownChange → List ShownChange → Type 0
ArePut tag old new changes before after = (here : List ShownChange) × (after ≡ before ++ here) × AreShown tag old new changes here
