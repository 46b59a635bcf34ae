-- Codes that their listing tells apart.
use Rattle.std.specs.Prelude.{◌≡◌, ◌&&◌, ◌||◌, ◌==◌, ℕ, Bool, true, false, not, nat_lt, List, [], ◌∷◌}
use Rattle.std.specs.List.{list_all}
use Rattle.sb_base.specs.Wide.{is_unit}
use Rattle.sb_call.specs.declared.tags.CallTag.{CallTag}
use Rattle.sb_rule.specs.PatternReading.{begins_with_one}
use Rattle.sb_rule.specs.declared.cells.Cell.{Cell}
use Rattle.sb_rule.specs.declared.cells.Cell.TheVariants.{Lit, One, Any}
use Rattle.sb_opcode.specs.Packing.{is_sized_cell, skip_number}
use Rattle.sb_opcode.specs.Opcodes.{Opcode}
use Rattle.sb_opcode.specs.Opcodes.{OpKind}
use Rattle.sb_opcode.specs.Opcodes.{False, True, Num, Range, Mask, Text, Act}
use Rattle.sb_rule.specs.WellMade.{is_well_made}
use Rattle.sb_rule.specs.declared.conditions.Test.{Test}
use Rattle.sb_rule.specs.declared.conditions.Test.TheVariants as test
use Rattle.sb_rule.specs.declared.policies.Policy.{Policy}
use Rattle.sb_rule.specs.declared.policies.Rule.{Rule}
use Rattle.sb_compile.specs.Compiling.{Compiled, code_in, program_of}
use Rattle.sb_compile.specs.Listing.{listing_of}
use Rattle.sb_base.specs.OneLine.{is_no_lf}
use Rattle.sb_base.specs.Numbers.{is_word64}

-- a literal may come before these cells: a unit, and no `/` before a `?`, since `/?` is the text of the literal `?`
abbrev pub is_told_before : ℕ → List Cell → Bool
is_told_before u later = is_unit u && not (u == 47 && begins_with_one later)

-- cells that their text tells, though a literal may be `*`: none of them is the wildcard `*`
abbrev pub is_fragment : List Cell → Bool
is_fragment [] = true
is_fragment (Lit u ∷ cells) = is_told_before u cells && is_fragment cells
is_fragment (One ∷ cells) = is_fragment cells
is_fragment (Any ∷ cells) = false

-- numbers have 64 bits, and cells are a fragment
abbrev pub is_listable_kind : OpKind → Bool
is_listable_kind False = true
is_listable_kind True = true
is_listable_kind (Num n) = is_word64 n
is_listable_kind (Range lo hi) = is_word64 lo && is_word64 hi
is_listable_kind (Mask mask) = is_word64 mask
is_listable_kind (Text cells seek) = is_fragment cells && is_word64 (skip_number seek)
is_listable_kind (Act action line) = is_word64 line

-- the opcode looks at a parameter
abbrev pub has_param : OpKind → Bool
has_param False = false
has_param True = false
has_param (Num n) = true
has_param (Range lo hi) = true
has_param (Mask mask) = true
has_param (Text cells seek) = true
has_param (Act action line) = false

-- an opcode as compiling makes it: its numbers have their sizes, one that looks at no parameter has the number 0 there, and it has
-- no option but the five
abbrev pub is_listable : Opcode → Bool
is_listable op =
    is_listable_kind op.kind && (has_param op.kind || op.param == 0) && is_word64 op.param && nat_lt op.options.0 32

-- each call's code is of such opcodes
abbrev pub AreListable : Compiled → Type 0
AreListable program = (tag : CallTag) → list_all is_listable (code_in program tag) ≡ true

-- programs of one name whose code differs for a call are listed differently
abbrev pub ListingsDiffer : Type 0
ListingsDiffer = (a b : Compiled) → a.name ≡ b.name → list_all is_no_lf a.name ≡ true → AreListable a → AreListable b
    → listing_of a ≡ listing_of b → (tag : CallTag) → code_in a tag ≡ code_in b tag

-- a test whose numbers have 64 bits and whose units 16
abbrev pub is_sized_test : Test → Bool
is_sized_test (test.OneOf numbers) = list_all is_word64 numbers
is_sized_test (test.Range lo hi) = is_word64 lo && is_word64 hi
is_sized_test (test.Mask mask) = is_word64 mask
is_sized_test (test.Equal text) = list_all is_unit text
is_sized_test (test.Like cells) = list_all is_sized_cell cells

-- a rule whose tests are so, and whose line has 64 bits
abbrev pub is_sized_rule : Rule → Bool
is_sized_rule rule = list_all (λ cond. is_sized_test cond.test) rule.conds && is_word64 rule.line

-- a policy whose rules are so, with no LF in its name
abbrev pub is_sized_policy : Policy → Bool
is_sized_policy policy = list_all is_no_lf policy.name && list_all is_sized_rule policy.rules

-- two well-made policies of one name whose programs differ are listed differently
abbrev pub DifferentCodeIsListedDifferently : Type 0
DifferentCodeIsListedDifferently = (a b : Policy) → is_well_made a ≡ true → is_well_made b ≡ true → is_sized_policy a ≡ true → is_sized_policy b ≡ true
    → a.name ≡ b.name → listing_of (program_of a) ≡ listing_of (program_of b) → program_of a ≡ program_of b
