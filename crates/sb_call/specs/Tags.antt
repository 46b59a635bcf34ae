-- The tags of calls, their numbers and their parameters.
use Rattle.std.specs.Prelude.{◌≡◌, ℕ, ◌==◌, List, [], ◌∷◌, Option, None, Some, if◌then◌else◌}
use Rattle.sb_call.specs.declared.tags.CallTag.{CallTag}
use Rattle.sb_call.specs.declared.tags.CallTag.TheVariants.{Ping, FileCreate, FileOpen, FileQuery, FileRename, PipeCreate, KeyCreate, KeyOpen, EventCreate, EventOpen, HandleClose}
use Rattle.sb_call.specs.declared.tags.ParamKind.{ParamKind}
use Rattle.sb_call.specs.declared.tags.ParamKind.TheVariants.{Text, Name, Num, Handle}

-- the number that represents a tag
abbrev pub number_of : CallTag → ℕ
number_of Ping = 1
number_of FileCreate = 2
number_of FileOpen = 3
number_of FileQuery = 4
number_of FileRename = 5
number_of PipeCreate = 6
number_of KeyCreate = 7
number_of KeyOpen = 8
number_of EventCreate = 9
number_of EventOpen = 10
number_of HandleClose = 11

-- all tags in the order of their numbers
abbrev pub every_tag : List CallTag
every_tag = Ping ∷ FileCreate ∷ FileOpen ∷ FileQuery ∷ FileRename ∷ PipeCreate ∷ KeyCreate ∷ KeyOpen ∷ EventCreate ∷ EventOpen ∷ HandleClose ∷ []

-- the first of these tags whose number it is
abbrev pub tag_among : List CallTag → ℕ → Option CallTag
tag_among [] n = None
tag_among (t ∷ ts) n = if n == number_of t then Some t else tag_among ts n

-- the tag that a number represents, if there is one
abbrev pub tag_of : ℕ → Option CallTag
tag_of n = tag_among every_tag n

-- the kinds of a call's parameters, in order
abbrev pub shape_of : CallTag → List ParamKind
shape_of Ping = Num ∷ Text ∷ []
shape_of FileCreate = Name ∷ Num ∷ Num ∷ Num ∷ Num ∷ Num ∷ []
shape_of FileOpen = Name ∷ Num ∷ Num ∷ Num ∷ []
shape_of FileQuery = Name ∷ []
shape_of FileRename = Name ∷ Name ∷ []
shape_of PipeCreate = Name ∷ Num ∷ Num ∷ Num ∷ []
shape_of KeyCreate = Name ∷ Num ∷ []
shape_of KeyOpen = Name ∷ Num ∷ []
shape_of EventCreate = Name ∷ Num ∷ Num ∷ []
shape_of EventOpen = Name ∷ Num ∷ []
shape_of HandleClose = Handle ∷ []

-- each tag is the tag of its number
abbrev pub TagsComeBack : Type 0
TagsComeBack = (t : CallTag) → tag_of (number_of t) ≡ Some t

-- if a number represents a tag, it is the number of that tag
abbrev pub NumbersComeBack : Type 0
NumbersComeBack = (n : ℕ) (t : CallTag) → tag_of n ≡ Some t → number_of t ≡ n
