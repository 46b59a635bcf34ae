-- A listing line by line.
use Rattle.std.specs.Prelude.{◌≡◌, ◌+◌, ℕ, true, List, [], ◌∷◌, ◌++◌, codes}
use Rattle.std.specs.List.{flat_map, list_all}
use Rattle.sb_call.specs.CallWords.{call_word, every_tag}
use Rattle.sb_call.specs.declared.tags.CallTag.{CallTag}
use Rattle.sb_opcode.specs.Opcodes.{Opcode}
use Rattle.sb_base.specs.OneLine.{is_no_lf, is_one_line}
use Rattle.sb_compile.specs.Compiling.{Compiled, code_in}
use Rattle.sb_compile.specs.Listing.{opcode_line, listing_of}

-- the line above the code of a call
abbrev pub heading : List ℕ → CallTag → List ℕ
heading name tag = codes "code " ++ name ++ codes " " ++ call_word tag ++ 10 ∷ []

-- a line for each opcode, of which the first has this place
abbrev pub lines_from : ℕ → List Opcode → List (List ℕ)
lines_from at [] = []
lines_from at (op ∷ ops) = opcode_line at op ∷ lines_from (at + 1) ops

-- a heading and a line for each opcode, if there is code
abbrev pub lines_of : List ℕ → CallTag → List Opcode → List (List ℕ)
lines_of name tag [] = []
lines_of name tag (op ∷ ops) = heading name tag ∷ lines_from 0 (op ∷ ops)

-- the lines of a program
abbrev pub listing_lines : Compiled → List (List ℕ)
listing_lines program = flat_map (λ tag. lines_of program.name tag (code_in program tag)) every_tag

-- a listing is these lines one after the other, and each ends with the one LF that it holds
abbrev pub ListingsAreLines : Type 0
ListingsAreLines = (program : Compiled) → list_all is_no_lf program.name ≡ true
    → (listing_of program ≡ flat_map (λ line. line) (listing_lines program)) × (list_all is_one_line (listing_lines program) ≡ true)
