-- What `compare` writes.
use Rattle.std.specs.Prelude.{ℕ, Bool, not, List, ◌++◌, codes, length}
use Rattle.std.specs.Fmt.{decimal}
use Rattle.std.specs.List.{count_by, filter, flat_map, list_any}
use Rattle.sb_rule.specs.WellMade.{is_named}
use Rattle.sb_rule.specs.declared.policies.Policy.{Policy}
use Rattle.sb_compare.specs.ChangeLines.{change_line}
use Rattle.sb_compare.specs.Changes.{performs_more}
use Rattle.sb_compare.specs.declared.changes.ShownChange.{ShownChange}

-- the new policy performs more
abbrev pub is_more : ShownChange → Bool
is_more shown = performs_more shown.change.old shown.change.new

-- the new policy performs less
abbrev pub is_less : ShownChange → Bool
is_less shown = performs_more shown.change.new shown.change.old

-- a policy of the list has the name of this one
abbrev pub is_in : List Policy → Policy → Bool
is_in policies policy = list_any (is_named policy.name) policies

-- how many policies have a name that the other list has too
abbrev pub count_both : List Policy → List Policy → ℕ
count_both theirs ours = count_by (is_in theirs) ours

-- how many have a name that it does not have
abbrev pub count_only : List Policy → List Policy → ℕ
count_only theirs ours = count_by (λ policy. not (is_in theirs policy)) ours

-- `only OLD policy NAME`, or with NEW
abbrev pub only_line : List ℕ → Policy → List ℕ
only_line word policy = codes "only " ++ word ++ codes " policy " ++ policy.name ++ codes "\n"

-- a line for each policy whose name the other list does not have
abbrev pub only_lines : List ℕ → List Policy → List Policy → List ℕ
only_lines word theirs ours = flat_map (only_line word) (filter (λ policy. not (is_in theirs policy)) ours)

-- `compare policies P changed N`
abbrev pub total_head : ℕ → List ShownChange → List ℕ
total_head policies shown = codes "compare policies " ++ decimal policies ++ codes " changed " ++ decimal (length shown)

-- the last line: `compare policies P changed N more A less B`
abbrev pub total_line : ℕ → List ShownChange → List ℕ
total_line policies shown =
    total_head policies shown ++ codes " more " ++ decimal (count_by is_more shown) ++ codes " less " ++ decimal (count_by is_less shown) ++ codes "\n"

-- the text: the changes, the policies that are in one list alone, and the totals
abbrev pub compare_text : List Policy → List Policy → List ShownChange → List ℕ
compare_text olds news shown =
    flat_map change_line shown ++ only_lines (codes "OLD") news olds ++ only_lines (codes "NEW") olds news ++ total_line (count_both olds news) shown
