-- What is true of blocks and copies.
use Rattle.std.specs.Prelude.{◌≡◌, ◌<◌, ◌≤◌, ◌+◌, ◌*◌, ◌^◌, ℕ, true, List, ◌∷◌, ◌++◌, length, take, None, Some, Ok}
use Rattle.std.specs.List.{list_all}
use Rattle.sb_call.specs.Arguments.{fits, fits_kind, arg_at, kind_at}
use Rattle.sb_call.specs.Tags.{shape_of, tag_of}
use Rattle.sb_call.specs.declared.tags.CallTag.{CallTag}
use Rattle.sb_call.specs.declared.arguments.Arg.{Arg}
use Rattle.sb_block.specs.Layout.{most_words, first_offset, reply_length, tag_word, count_in, end_in, descriptor_at}
use Rattle.sb_block.specs.Copies.{Copied, copied, whole, is_copy}
use Rattle.sb_block.specs.Blocks.{block, bytes_of, encodes, has_units}
use Rattle.sb_block.specs.Faults.{fault, faults, first_there, type_number}
use Rattle.sb_block.specs.Packing.{type_of, offset_of, size_of, words_for}
use Rattle.sb_block.specs.Calls.{decoded, called, call_of, argument_in}

-- the count and the end that were fetched before a copy without a fault are those that are in it
abbrev pub FetchedNumbersAreCopied : Type 0
FetchedNumbersAreCopied = (c : Copied) → fault c ≡ None → (c.count_seen ≡ count_in c.words) × (c.end_seen ≡ end_in c.words)

-- so it is its words taken whole, and nothing else decides
abbrev pub FaultlessCopiesAreWhole : Type 0
FaultlessCopiesAreWhole = (c : Copied) → is_copy c ≡ true → fault c ≡ None → c ≡ whole c.words

-- and so is a copy with none of the first four faults: any other fault too is one of the words alone
abbrev pub LaterFaultsAreOfWholeCopies : Type 0
LaterFaultsAreOfWholeCopies = (c : Copied) → is_copy c ≡ true → first_there (take 4 (faults c)) ≡ None → c ≡ whole c.words

-- word 0 of a copy without a fault is the number of its call's tag
abbrev pub TagsAreKnown : Type 0
TagsAreKnown = (c : Copied) → fault c ≡ None → tag_of (tag_word c.words) ≡ Some (call_of c).tag

-- what holds of each parameter of a copy without a fault
abbrev pub OfParameters : (Copied → ℕ → Type 0) → Type 0
OfParameters P = (c : Copied) → is_copy c ≡ true → fault c ≡ None → (i : ℕ) → i < c.count_seen → P c i

-- each begins after the end item, and ends within the copy
abbrev pub ParametersLieInside : Type 0
ParametersLieInside = OfParameters (λ c i.
    (first_offset c.count_seen ≤ offset_of (descriptor_at c.words i))
    × (offset_of (descriptor_at c.words i) + words_for (size_of (descriptor_at c.words i)) ≤ length c.words))

-- each has the type that the call has there
abbrev pub ParametersHaveTheirTypes : Type 0
ParametersHaveTheirTypes = OfParameters (λ c i. type_of (descriptor_at c.words i) ≡ type_number (kind_at (call_of c).tag i))

-- and the size of its argument: two bytes for each unit of a string, four for a number, and eight for a handle
abbrev pub ParametersHaveTheirSizes : Type 0
ParametersHaveTheirSizes = OfParameters (λ c i.
    size_of (descriptor_at c.words i) ≡ bytes_of (kind_at (call_of c).tag i) (arg_at (call_of c).args i))

-- there are as many arguments as parameters
abbrev pub ParametersAreAsMany : Type 0
ParametersAreAsMany = (c : Copied) → is_copy c ≡ true → fault c ≡ None → length (call_of c).args ≡ c.count_seen

-- a parameter of words under a tag: it lies after the end item and within the words, it has the type of its kind and the size of its
-- argument, and that argument is of its kind
pub record IsParameter (words : List ℕ) (tag : CallTag) (i : ℕ) : Type 0 where
  pub begins : first_offset (count_in words) ≤ offset_of (descriptor_at words i)
  pub ends : offset_of (descriptor_at words i) + words_for (size_of (descriptor_at words i)) ≤ length words
  pub typed : type_of (descriptor_at words i) ≡ type_number (kind_at tag i)
  pub sized : size_of (descriptor_at words i) ≡ bytes_of (kind_at tag i) (argument_in words (descriptor_at words i))
  pub fitting : fits_kind (kind_at tag i) (argument_in words (descriptor_at words i)) ≡ true

-- words that hold a call: their tag is known, they have its parameters, and they end where the end item says
pub record IsWellFormed (words : List ℕ) (tag : CallTag) : Type 0 where
  pub known : tag_of (tag_word words) ≡ Some tag
  pub many : count_in words ≡ length (shape_of tag)
  pub behind : first_offset (count_in words) ≤ length words
  pub most : length words ≤ most_words
  pub end : end_in words ≡ length words
  pub each : (i : ℕ) → i < count_in words → IsParameter words tag i

-- and the converse of the laws above: nothing else is refused
abbrev pub WellFormedWordsHaveNoFault : Type 0
WellFormedWordsHaveNoFault = (words : List ℕ) (tag : CallTag) → IsWellFormed words tag → fault (whole words) ≡ None

-- the whole block of a call that encodes, its strings made of units, is a copy, and it decodes to that call
abbrev pub BlocksComeBack : Type 0
BlocksComeBack = (tag : CallTag) (args : List Arg) (mark : ℕ) → encodes tag args ≡ true → list_all has_units args ≡ true
    → (is_copy (whole (block tag args mark)) ≡ true)
    × (decoded (whole (block tag args mark)) ≡ Ok (called tag mark args))

-- a copy without a fault has a call whose arguments fit it
abbrev pub FaultlessCopiesFit : Type 0
FaultlessCopiesFit = (c : Copied) → fault c ≡ None → fits (call_of c).tag (call_of c).args ≡ true

-- words laid out as tag, mark, count, reply words, descriptors, end item and parameters
abbrev pub laid : ℕ → ℕ → ℕ → List ℕ → List ℕ → ℕ → List ℕ → List ℕ
laid tag mark count reply infos item params = tag ∷ mark ∷ count ∷ reply ++ (infos ++ (item ∷ params))

-- other reply words and other bits beside the end in the end item change neither the fault nor the call
abbrev pub UnreadWordsDoNotMatter : Type 0
UnreadWordsDoNotMatter = (count_seen end_seen tag mark count : ℕ) (reply reply' infos params : List ℕ) (item item' : ℕ)
    → length reply ≡ reply_length → length reply' ≡ reply_length → length infos ≡ count_seen → offset_of item ≡ offset_of item'
    → decoded (copied count_seen end_seen (laid tag mark count reply infos item params))
    ≡ decoded (copied count_seen end_seen (laid tag mark count reply' infos item' params))

-- another upper half in the word of a number does not change that number. It may change another parameter, since parameters may overlap
abbrev pub UpperHalvesDoNotMatter : Type 0
UpperHalvesDoNotMatter = (front rest : List ℕ) (info low high high' : ℕ) → type_of info ≡ 2 → offset_of info ≡ length front
    → low < 2 ^ 32
    → argument_in (front ++ ((low + high * 2 ^ 32) ∷ rest)) info ≡ argument_in (front ++ ((low + high' * 2 ^ 32) ∷ rest)) info
