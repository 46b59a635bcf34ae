-- What can be wrong with a copy of a block.
use Rattle.std.specs.Prelude.{ℕ, Bool, false, ◌+◌, ◌%◌, ◌&&◌, ◌||◌, ◌==◌, not, nat_eq, nat_lt, nat_le, List, [], ◌∷◌, map, Option, None, Some, is_none, option_map, unwrap_or, if◌then◌else◌}
use Rattle.std.specs.List.{position}
use Rattle.std.specs.Option.{option_or}
use Rattle.std.specs.Cmp.Lexicographic.{pointwise}
use Rattle.sb_base.specs.Names.{is_name_of}
use Rattle.sb_call.specs.Tags.{tag_of, shape_of}
use Rattle.sb_call.specs.declared.tags.CallTag.{CallTag}
use Rattle.sb_call.specs.declared.tags.CallTag.TheVariants.{Ping}
use Rattle.sb_call.specs.declared.tags.ParamKind.{ParamKind}
use Rattle.sb_call.specs.declared.tags.ParamKind.TheVariants.{Text, Name, Num, Handle}
use Rattle.sb_block.specs.Layout.{most_parameters, first_offset, tag_word, count_in, end_in, descriptors}
use Rattle.sb_block.specs.Copies.{Copied, is_end}
use Rattle.sb_block.specs.Packing.{type_of, offset_of, size_of, words_for, string_in}
use Rattle.sb_block.specs.declared.faults.BlockFault.{BlockFault}
use Rattle.sb_block.specs.declared.faults.BlockFault.TheVariants.{TooManyParams, BadEnd, CountChanged, EndChanged, BadParamType, BadPlace, UnknownTag, WrongShape, BadSize, BadName}

-- a string has type 1, a number 2 and a handle 3
abbrev pub type_number : ParamKind → ℕ
type_number Text = 1
type_number Name = 1
type_number Num = 2
type_number Handle = 3

-- the type is neither string, number nor handle
abbrev pub has_bad_type : ℕ → Bool
has_bad_type word = not (nat_le 1 (type_of word) && nat_le (type_of word) 3)

-- a parameter begins before the end item is over, or reaches past the end
abbrev pub has_bad_place : ℕ → ℕ → ℕ → Bool
has_bad_place count end word =
    nat_lt (offset_of word) (first_offset count) || nat_lt end (offset_of word + words_for (size_of word))

-- the tag of word 0; if that is no tag's number, which is a fault, it is ping
abbrev pub tag_in : List ℕ → CallTag
tag_in words = unwrap_or (tag_of (tag_word words)) Ping

-- there are as many descriptors as kinds, each with its kind's type
abbrev pub has_shape : List ParamKind → List ℕ → Bool
has_shape kinds infos = pointwise nat_eq (map type_of infos) (map type_number kinds)

-- a string has an odd size, a number another than 4 bytes, or a handle another than 8
abbrev pub has_bad_size : ℕ → Bool
has_bad_size word =
    if type_of word == 1 then not (size_of word % 2 == 0)
    else (if type_of word == 2 then not (size_of word == 4)
    else not (size_of word == 8))

-- a parameter that should be a name is not one
abbrev pub has_bad_name : ParamKind → ℕ → List ℕ → Bool
has_bad_name Text word words = false
has_bad_name Name word words = not (is_name_of (string_in word words))
has_bad_name Num word words = false
has_bad_name Handle word words = false

-- the first parameter that should be a name and is not one
abbrev pub first_bad_name : List ParamKind → List ℕ → List ℕ → Option ℕ
first_bad_name [] infos words = None
first_bad_name (kind ∷ kinds) [] words = None
first_bad_name (kind ∷ kinds) (word ∷ more) words =
    if has_bad_name kind word words then Some 0
    else option_map (λ n. n + 1) (first_bad_name kinds more words)

-- a fault that is there if a test holds
abbrev pub where_holds : Bool → BlockFault → Option BlockFault
where_holds holds fault = if holds then Some fault else None

-- the ten faults in their order, each if it is there. The first four are of what was fetched before the copy, the others of its words
-- alone
abbrev pub faults : Copied → List (Option BlockFault)
faults c =
    where_holds (nat_lt most_parameters c.count_seen) (TooManyParams c.count_seen)
    ∷ where_holds (not (is_end c.count_seen c.end_seen)) (BadEnd c.end_seen)
    ∷ where_holds (not (c.count_seen == count_in c.words)) (CountChanged c.count_seen (count_in c.words))
    ∷ where_holds (not (c.end_seen == end_in c.words)) (EndChanged c.end_seen (end_in c.words))
    ∷ option_map BadParamType (position has_bad_type (descriptors c.words))
    ∷ option_map BadPlace (position (has_bad_place (count_in c.words) (end_in c.words)) (descriptors c.words))
    ∷ where_holds (is_none (tag_of (tag_word c.words))) (UnknownTag (tag_word c.words))
    ∷ where_holds (not (has_shape (shape_of (tag_in c.words)) (descriptors c.words))) WrongShape
    ∷ option_map BadSize (position has_bad_size (descriptors c.words))
    ∷ option_map BadName (first_bad_name (shape_of (tag_in c.words)) (descriptors c.words) c.words)
    ∷ []

-- the first that is there
abbrev pub first_there : List (Option BlockFault) → Option BlockFault
first_there [] = None
first_there (found ∷ more) = option_or found (first_there more)

-- the fault of a copy is the first of the ten that is there
abbrev pub fault : Copied → Option BlockFault
fault c = first_there (faults c)
