-- Verified codes, one for each call.
use Rattle.std.specs.Prelude.{Bool, true, false, ◌&&◌, ◌==◌, List, [], ◌∷◌, Option, None, Some}
use Rattle.sb_call.specs.Tags.{number_of}
use Rattle.sb_call.specs.declared.tags.CallTag.{CallTag}
use Rattle.sb_opcode.specs.Opcodes.{Opcode}
use Rattle.sb_opcode.specs.Verified.{VerifiedCode}

-- the opcodes for a call, and none if it has no rules
abbrev pub code_in_call : Option VerifiedCode → List Opcode
code_in_call None = []
code_in_call (Some verified) = verified.code

-- what there is for a call was verified for it
abbrev pub is_for_tag : CallTag → Option VerifiedCode → Bool
is_for_tag tag None = true
is_for_tag tag (Some verified) = number_of verified.tag == number_of tag

-- there is an entry for each of these calls, in order
abbrev pub are_for : List CallTag → List (Option VerifiedCode) → Bool
are_for [] [] = true
are_for (tag ∷ tags) (call ∷ calls) = is_for_tag tag call && are_for tags calls
are_for _ _ = false
