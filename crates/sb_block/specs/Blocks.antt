-- How a call is laid out in words.
use Rattle.std.specs.Prelude.{ℕ, Bool, true, ◌+◌, ◌*◌, ◌^◌, ◌&&◌, nat_le, List, [], ◌∷◌, ◌++◌, length, replicate}
use Rattle.std.specs.List.{flat_map, list_all}
use Rattle.sb_base.specs.Wide.{is_unit}
use Rattle.sb_call.specs.Arguments.{fits}
use Rattle.sb_call.specs.Tags.{number_of, shape_of}
use Rattle.sb_call.specs.declared.tags.CallTag.{CallTag}
use Rattle.sb_call.specs.declared.tags.ParamKind.{ParamKind}
use Rattle.sb_call.specs.declared.tags.ParamKind.TheVariants as kind
use Rattle.sb_call.specs.declared.arguments.Arg.{Arg}
use Rattle.sb_call.specs.declared.arguments.Arg.TheVariants.{Num, Str}
use Rattle.sb_block.specs.Layout.{first_offset, most_words, reply_length}
use Rattle.sb_block.specs.Faults.{type_number}
use Rattle.sb_block.specs.Packing.{descriptor, packed}

-- a string has two bytes for each unit, a handle eight bytes, and a number four
abbrev pub bytes_of : ParamKind → Arg → ℕ
bytes_of k (Str units) = 2 * length units
bytes_of kind.Handle (Num number) = 8
bytes_of kind.Num (Num number) = 4
bytes_of kind.Text (Num number) = 4
bytes_of kind.Name (Num number) = 4

-- a number is in one word, and a string's units are four to a word
abbrev pub content_of : Arg → List ℕ
content_of (Num number) = number ∷ []
content_of (Str units) = packed units

-- the contents of arguments, one after the other
abbrev pub contents_of : List Arg → List ℕ
contents_of args = flat_map content_of args

-- the descriptors of arguments whose contents begin at an offset
abbrev pub descriptors_of : ℕ → List ParamKind → List Arg → List ℕ
descriptors_of at [] args = []
descriptors_of at (k ∷ kinds) [] = []
descriptors_of at (k ∷ kinds) (a ∷ args) =
    descriptor (type_number k) at (bytes_of k a) ∷ descriptors_of (at + length (content_of a)) kinds args

-- where the contents of arguments end
abbrev pub end_offset : List Arg → ℕ
end_offset args = first_offset (length args) + length (contents_of args)

-- tag, mark, count, zeros for the reply, descriptors, the end item, and the contents
abbrev pub block : CallTag → List Arg → ℕ → List ℕ
block tag args mark =
    number_of tag ∷ mark ∷ length args ∷ replicate reply_length 0
    ++ (descriptors_of (first_offset (length args)) (shape_of tag) args
    ++ (end_offset args * 2 ^ 16 ∷ contents_of args))

-- a call encodes: its arguments fit it, and its block has at most 64 words, whatever the mark is
abbrev pub encodes : CallTag → List Arg → Bool
encodes tag args = fits tag args && nat_le (length (block tag args 0)) most_words

-- a string is made of units
abbrev pub has_units : Arg → Bool
has_units (Num number) = true
has_units (Str units) = list_all is_unit units
