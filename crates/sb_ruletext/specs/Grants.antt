-- Grants: one line that represents several rules.
use Rattle.std.specs.Prelude.{ℕ, true, false, List, [], ◌∷◌, Option, codes}
use Rattle.sb_call.specs.declared.tags.CallTag.{CallTag}
use Rattle.sb_call.specs.declared.tags.CallTag.TheVariants.{FileCreate, FileOpen, FileQuery, FileRename, PipeCreate, KeyCreate, KeyOpen, EventCreate, EventOpen}
use Rattle.sb_rule.specs.declared.cells.Cell.{Cell}
use Rattle.sb_rule.specs.Accesses.{writing_bits}
use Rattle.sb_rule.specs.declared.actions.Action.TheVariants.{Allow}
use Rattle.sb_rule.specs.declared.conditions.Cond.{Cond}
use Rattle.sb_rule.specs.declared.conditions.Test.TheVariants.{OneOf, Mask, Like}
use Rattle.sb_rule.specs.declared.policies.Rule.{Rule}
use Rattle.sb_call.specs.CallWords.{named}
use Rattle.sb_ruletext.specs.declared.grants.Grant.{Grant}
use Rattle.sb_ruletext.specs.declared.grants.Grant.TheVariants.{FilesAny, FilesReadonly, FilesQuery, PipesAny, RegistryAny, RegistryReadonly, EventsAny, EventsReadonly}

-- the word of a grant
abbrev pub grant_word : Grant → List ℕ
grant_word FilesAny = codes "files_any"
grant_word FilesReadonly = codes "files_readonly"
grant_word FilesQuery = codes "files_query"
grant_word PipesAny = codes "pipes_any"
grant_word RegistryAny = codes "registry_any"
grant_word RegistryReadonly = codes "registry_readonly"
grant_word EventsAny = codes "events_any"
grant_word EventsReadonly = codes "events_readonly"

-- all grants
abbrev pub grants : List Grant
grants = FilesAny ∷ FilesReadonly ∷ FilesQuery ∷ PipesAny ∷ RegistryAny ∷ RegistryReadonly ∷ EventsAny ∷ EventsReadonly ∷ []

-- the grant of a word
abbrev pub grant_of : List ℕ → Option Grant
grant_of word = named grant_word grants word

-- `name like P`, and for `file.rename` also `to like P`
abbrev pub like_at : ℕ → List Cell → Cond
like_at param pattern = record { param = param; negated = false; test = Like pattern }

-- `not access has M`, where access is this parameter
abbrev pub reads_at : ℕ → Cond
reads_at param = record { param = param; negated = true; test = Mask writing_bits }

-- `disposition is 1`, where disposition is this parameter: the file is to be there
abbrev pub opens_at : ℕ → Cond
opens_at param = record { param = param; negated = false; test = OneOf (1 ∷ []) }

-- a rule that allows a call under these conditions
abbrev pub allowing : ℕ → CallTag → List Cond → Rule
allowing line tag conds = record { tag = tag; conds = conds; action = Allow; line = line }

-- the rules of a grant on a line, for a pattern
abbrev pub rules_of : ℕ → Grant → List Cell → List Rule
rules_of line FilesAny pattern =
    allowing line FileCreate (like_at 0 pattern ∷ [])
    ∷ allowing line FileOpen (like_at 0 pattern ∷ [])
    ∷ allowing line FileQuery (like_at 0 pattern ∷ [])
    ∷ allowing line FileRename (like_at 0 pattern ∷ like_at 1 pattern ∷ [])
    ∷ []
rules_of line FilesReadonly pattern =
    allowing line FileOpen (like_at 0 pattern ∷ reads_at 1 ∷ [])
    ∷ allowing line FileCreate (like_at 0 pattern ∷ reads_at 2 ∷ opens_at 4 ∷ [])
    ∷ allowing line FileQuery (like_at 0 pattern ∷ [])
    ∷ []
rules_of line FilesQuery pattern = allowing line FileQuery (like_at 0 pattern ∷ []) ∷ []
rules_of line PipesAny pattern = allowing line PipeCreate (like_at 0 pattern ∷ []) ∷ []
rules_of line RegistryAny pattern =
    allowing line KeyCreate (like_at 0 pattern ∷ [])
    ∷ allowing line KeyOpen (like_at 0 pattern ∷ [])
    ∷ []
rules_of line RegistryReadonly pattern = allowing line KeyOpen (like_at 0 pattern ∷ reads_at 1 ∷ []) ∷ []
rules_of line EventsAny pattern =
    allowing line EventCreate (like_at 0 pattern ∷ [])
    ∷ allowing line EventOpen (like_at 0 pattern ∷ [])
    ∷ []
rules_of line EventsReadonly pattern = allowing line EventOpen (like_at 0 pattern ∷ reads_at 1 ∷ []) ∷ []
