-- When a call is shorter than another.
use Rattle.std.specs.Prelude.{◌≡◌, ◌+◌, ◌/◌, ◌==◌, ◌&&◌, ◌||◌, ℕ, Bool, true, false, nat_le, nat_lt, List, [], ◌∷◌, length}
use Rattle.sb_block.specs.Blocks.{encodes}
use Rattle.sb_call.specs.Arguments.{fits}
use Rattle.sb_call.specs.declared.arguments.Arg.{Arg}
use Rattle.sb_call.specs.declared.arguments.Arg.TheVariants as arg
use Rattle.sb_call.specs.declared.tags.CallTag.{CallTag}
use Rattle.sb_cover.specs.Calls.{IsNotLonger}
use Rattle.sb_cover.specs.Choices.{units_in}

-- an argument takes a word of a block, and a string one for each four units or part of four
abbrev pub words_in : Arg → ℕ
words_in (arg.Num number) = 1
words_in (arg.Str units) = (length units + 3) / 4

-- the words that arguments take
abbrev pub words_of : List Arg → ℕ
words_of [] = 0
words_of (a ∷ args) = words_in a + words_of args

-- the units of their strings
abbrev pub units_of : List Arg → ℕ
units_of [] = 0
units_of (a ∷ args) = units_in a + units_of args

-- a call is shorter if its block has fewer words, or as many and its strings fewer units
abbrev pub is_shorter : List Arg → List Arg → Bool
is_shorter a b = nat_lt (words_of a) (words_of b) || (words_of a == words_of b && nat_lt (units_of a) (units_of b))

-- the words of a call's block: tag, mark, count, twelve for the reply, a descriptor for each argument, the end item, and the arguments
abbrev pub block_words : List Arg → ℕ
block_words args = 16 + length args + words_of args

-- a call can be sent if its block has at most 64 words
abbrev pub is_sendable : List Arg → Bool
is_sendable args = nat_le (block_words args) 64

-- a call that fits its tag can be sent exactly if it encodes
abbrev pub SendableCallsEncode : Type 0
SendableCallsEncode = (tag : CallTag) (args : List Arg) → fits tag args ≡ true → is_sendable args ≡ encodes tag args

-- if a call can be sent, so can one of the same tag than which it is not shorter
abbrev pub ShortestIsSendable : Type 0
ShortestIsSendable = (tag : CallTag) (a b : List Arg) → fits tag a ≡ true → fits tag b ≡ true → is_shorter b a ≡ false → is_sendable b ≡ true → is_sendable a ≡ true

-- a call is not shorter than one of the same tag that has no string longer than its own
abbrev pub NotLongerIsAsShort : Type 0
NotLongerIsAsShort = (tag : CallTag) (a b : List Arg) → fits tag a ≡ true → fits tag b ≡ true → IsNotLonger a b → is_shorter b a ≡ false
