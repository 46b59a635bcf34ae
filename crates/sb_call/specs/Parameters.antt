-- The names and the kinds of parameters.
use Rattle.std.specs.Prelude.{ℕ, Bool, true, false, List, [], ◌∷◌, slice_index_or, codes}
use Rattle.sb_call.specs.declared.tags.CallTag.{CallTag}
use Rattle.sb_call.specs.declared.tags.CallTag.TheVariants.{Ping, FileCreate, FileOpen, FileQuery, FileRename, PipeCreate, KeyCreate, KeyOpen, EventCreate, EventOpen, HandleClose}
use Rattle.sb_call.specs.declared.tags.ParamKind.{ParamKind}
use Rattle.sb_call.specs.declared.tags.ParamKind.TheVariants as kind

-- the names of a call's parameters, in order
abbrev pub parameter_words : CallTag → List (List ℕ)
parameter_words Ping = codes "cookie" ∷ codes "text" ∷ []
parameter_words FileCreate = codes "name" ∷ codes "attributes" ∷ codes "access" ∷ codes "sharing" ∷ codes "disposition" ∷ codes "options" ∷ []
parameter_words FileOpen = codes "name" ∷ codes "access" ∷ codes "sharing" ∷ codes "options" ∷ []
parameter_words FileQuery = codes "name" ∷ []
parameter_words FileRename = codes "name" ∷ codes "to" ∷ []
parameter_words PipeCreate = codes "name" ∷ codes "mode" ∷ codes "form" ∷ codes "instances" ∷ []
parameter_words KeyCreate = codes "name" ∷ codes "access" ∷ []
parameter_words KeyOpen = codes "name" ∷ codes "access" ∷ []
parameter_words EventCreate = codes "name" ∷ codes "kind" ∷ codes "initial" ∷ []
parameter_words EventOpen = codes "name" ∷ codes "access" ∷ []
parameter_words HandleClose = codes "handle" ∷ []

-- the name of a parameter, and nothing if there is none
abbrev pub parameter_word : CallTag → ℕ → List ℕ
parameter_word tag param = slice_index_or (parameter_words tag) param []

-- a parameter that is a number
abbrev pub is_number_kind : ParamKind → Bool
is_number_kind kind.Text = false
is_number_kind kind.Name = false
is_number_kind kind.Num = true
is_number_kind kind.Handle = true
