-- The words by which texts name calls.
use Rattle.std.specs.Prelude.{ℕ, Bool, nat_eq, List, [], ◌∷◌, Option, None, Some, if◌then◌else◌, codes}
use Rattle.std.specs.Cmp.Lexicographic.{pointwise}
use Rattle.sb_call.specs.declared.tags.CallTag.{CallTag}
use Rattle.sb_call.specs.declared.tags.CallTag.TheVariants.{Ping, FileCreate, FileOpen, FileQuery, FileRename, PipeCreate, KeyCreate, KeyOpen, EventCreate, EventOpen, HandleClose}
pub use Rattle.sb_call.specs.Tags.{every_tag}

-- a word is the expected one
abbrev pub is_word : List ℕ → List ℕ → Bool
is_word expected word = pointwise nat_eq word expected

-- the item of a list whose name is this word
abbrev pub named : {A : Type 0} → (A → List ℕ) → List A → List ℕ → Option A
named name [] word = None
named name (item ∷ items) word = if is_word (name item) word then Some item else named name items word

-- the word of a call
abbrev pub call_word : CallTag → List ℕ
call_word Ping = codes "ping"
call_word FileCreate = codes "file.create"
call_word FileOpen = codes "file.open"
call_word FileQuery = codes "file.query"
call_word FileRename = codes "file.rename"
call_word PipeCreate = codes "pipe.create"
call_word KeyCreate = codes "key.create"
call_word KeyOpen = codes "key.open"
call_word EventCreate = codes "event.create"
call_word EventOpen = codes "event.open"
call_word HandleClose = codes "handle.close"

-- the call of a word
abbrev pub tag_of_word : List ℕ → Option CallTag
tag_of_word word = named call_word every_tag word
