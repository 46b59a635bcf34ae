-- A listing is its lines, each of which ends with the one LF that it holds.
use Rattle.std.specs.Fmt.{decimal, digits, digits_onto, digit_glyph}
use Rattle.std.specs.List.{flat_map, list_all}
use Rattle.std.specs.Prelude.{codes}
use Rattle.std.proofs.Common.{◌≡◌, ◌∙◌, ℕ, ◌+◌, ◌/◌, ◌%◌, Bool, true, false, cond, eqb, leb, ◌&&◌, ◌||◌, List, [], ◌∷◌, ◌++◌, refl, ap, sym, zero, suc, arith}
use Rattle.std.proofs.lemmas.Bool.{and_parts}
use Rattle.std.proofs.lemmas.Bool.Decides.{nat_tests}
use Rattle.std.proofs.lemmas.List.{append_assoc}
use Rattle.std.proofs.lemmas.List.Concat.{flat_map-append}
use Rattle.std.proofs.lemmas.List.Folds.{list_all-append}
use Rattle.sb_base.specs.Quoting.{quoted, quoted_unit, hex_digit}
use Rattle.sb_call.specs.CallWords.{call_word, every_tag}
use Rattle.sb_call.specs.declared.tags.CallTag.{CallTag}
use Rattle.sb_call.specs.declared.tags.CallTag.TheVariants.{Ping}
use Rattle.sb_rule.specs.PatternReading.{text_of}
use Rattle.sb_rule.specs.Actions.{action_word}
use Rattle.sb_rule.specs.declared.actions.Action.{Action}
use Rattle.sb_rule.specs.declared.actions.Action.TheVariants.{Allow}
use Rattle.sb_opcode.specs.Options.{has, NEGATE, CLEAR, OR, FOLD, EXACT}
use Rattle.sb_opcode.specs.Opcodes.{Opcode}
use Rattle.sb_opcode.specs.Opcodes.{OpKind}
use Rattle.sb_opcode.specs.Opcodes.{False, True, Num, Range, Mask, Text, Act}
use Rattle.sb_opcode.specs.declared.opcodes.Seek.{Seek}
use Rattle.sb_opcode.specs.declared.opcodes.Seek.TheVariants.{Skip, Forward, ToEnd}
use Rattle.sb_opcode.specs.declared.options.Options.{Options}
use Rattle.sb_compile.specs.Compiling.{Compiled, code_in}
use Rattle.sb_compile.specs.Listing.{seek_text, number_text, kind_text, word_if, options_text, opcode_line, opcode_lines, code_lines}
use Rattle.sb_compile.specs.ListingLines.{heading, lines_from, lines_of, ListingsAreLines}
use Rattle.sb_base.specs.OneLine.{is_no_lf, is_one_line}

abbrev pub joined : List (List ℕ) → List ℕ
joined lines = flat_map (λ line. line) lines

opcodes_join : (at : ℕ) (ops : List Opcode) → opcode_lines at ops ≡ joined (lines_from at ops)
opcodes_join at [] = refl
opcodes_join at (op ∷ ops) = ap (λ l. opcode_line at op ++ l) (opcodes_join (at + 1) ops)

code_joins : (name : List ℕ) (tag : CallTag) (ops : List Opcode) → code_lines name tag ops ≡ joined (lines_of name tag ops)
code_joins name tag [] = refl
code_joins name tag (op ∷ ops) =
    ap (λ l. codes "code " ++ name ++ codes " " ++ call_word tag ++ 10 ∷ l) (opcodes_join 0 (op ∷ ops))
    ∙ sym (append_assoc (codes "code " ++ name ++ codes " " ++ call_word tag) (10 ∷ []) (joined (lines_from 0 (op ∷ ops))))

calls_join : (program : Compiled) (tags : List CallTag)
    → flat_map (λ tag. code_lines program.name tag (code_in program tag)) tags
    ≡ joined (flat_map (λ tag. lines_of program.name tag (code_in program tag)) tags)
calls_join program [] = refl
calls_join program (tag ∷ tags) =
    (λ i. code_joins program.name tag (code_in program tag) i ++ calls_join program tags i)
    ∙ sym (flat_map-append (λ line. line) (lines_of program.name tag (code_in program tag)) (flat_map (λ tag. lines_of program.name tag (code_in program tag)) tags))

-- bytes without an LF
abbrev has_no_lf : List ℕ → Bool
has_no_lf bs = list_all is_no_lf bs

two : (a b : List ℕ) → has_no_lf a ≡ true → has_no_lf b ≡ true → has_no_lf (a ++ b) ≡ true
two a b ha hb = rw (list_all-append is_no_lf a b, ha, hb) refl

glyph_no_lf : (upper : Bool) (d : ℕ) → is_no_lf (digit_glyph upper d) ≡ true
glyph_no_lf true d = grind (arith, nat_tests)
glyph_no_lf false d = grind (arith, nat_tests)

by_test : (b : Bool) (x y : List ℕ) → has_no_lf x ≡ true → has_no_lf y ≡ true → has_no_lf (cond b x y) ≡ true
by_test true x y hx hy = hx
by_test false x y hx hy = hy

onto_no_lf : (k base : ℕ) (upper : Bool) (n : ℕ) (acc : List ℕ) → has_no_lf acc ≡ true → has_no_lf (digits_onto k base upper n acc) ≡ true
onto_no_lf zero base upper n acc h = h
onto_no_lf (suc k) base upper n acc h =
    let one : has_no_lf (digit_glyph upper (n % base) ∷ acc) ≡ true = two (digit_glyph upper (n % base) ∷ []) acc (rw (glyph_no_lf upper (n % base)) refl) h in
    by_test (eqb (n / base) 0) (digit_glyph upper (n % base) ∷ acc) _ one (onto_no_lf k base upper (n / base) (digit_glyph upper (n % base) ∷ acc) one)

digits_no_lf : (base : ℕ) (upper : Bool) (n : ℕ) → has_no_lf (digits base upper n) ≡ true
unfolding digits
digits_no_lf base upper n = onto_no_lf 64 base upper n [] refl

decimal_no_lf : (n : ℕ) → has_no_lf (decimal n) ≡ true
decimal_no_lf n = digits_no_lf 10 false n

abbrev written : ℕ → Bool → Bool → List ℕ
written u b1 b2 = cond b1 (92 ∷ u ∷ []) (cond b2 (u ∷ []) (92 ∷ 117 ∷ hex_digit (u / 4096) ∷ hex_digit (u / 256 % 16) ∷ hex_digit (u / 16 % 16) ∷ hex_digit (u % 16) ∷ []))

digit_no_lf : (d : ℕ) → is_no_lf (hex_digit d) ≡ true
digit_no_lf d = grind (arith, nat_tests)

written_no_lf : (u : ℕ) (b1 b2 : Bool) → (eqb u 34 || eqb u 92) ≡ b1 → (leb 32 u && leb u 126) ≡ b2 → has_no_lf (written u b1 b2) ≡ true
written_no_lf u true b2 e1 e2 = grind (arith, nat_tests)
written_no_lf u false true e1 e2 = grind (arith, nat_tests)
written_no_lf u false false e1 e2 = rw (digit_no_lf (u / 4096), digit_no_lf (u / 256 % 16), digit_no_lf (u / 16 % 16), digit_no_lf (u % 16)) refl

units_no_lf : (us : List ℕ) → has_no_lf (flat_map quoted_unit us) ≡ true
units_no_lf [] = refl
units_no_lf (u ∷ us) =
    two (quoted_unit u) (flat_map quoted_unit us) (written_no_lf u (eqb u 34 || eqb u 92) (leb 32 u && leb u 126) refl refl) (units_no_lf us)

quoted_no_lf : (us : List ℕ) → has_no_lf (quoted us) ≡ true
quoted_no_lf us = two (flat_map quoted_unit us) (34 ∷ []) (units_no_lf us) refl

call_no_lf : (tag : CallTag) → has_no_lf (call_word tag) ≡ true
call_no_lf Ping = refl
call_no_lf _ = refl

action_no_lf : (action : Action) → has_no_lf (action_word action) ≡ true
action_no_lf Allow = refl
action_no_lf _ = refl

seek_no_lf : (seek : Seek) → has_no_lf (seek_text seek) ≡ true
seek_no_lf (Skip n) = two (codes "skip ") (decimal n) refl (decimal_no_lf n)
seek_no_lf Forward = refl
seek_no_lf ToEnd = refl

number_no_lf : (n : ℕ) → has_no_lf (number_text n) ≡ true
number_no_lf n = two (codes " 0x") (digits 16 false n) refl (digits_no_lf 16 false n)

param_no_lf : (word : List ℕ) (param : ℕ) → has_no_lf word ≡ true → has_no_lf (word ++ decimal param) ≡ true
param_no_lf word param h = two word (decimal param) h (decimal_no_lf param)

kind_no_lf : (kind : OpKind) (param : ℕ) → has_no_lf (kind_text kind param) ≡ true
kind_no_lf False param = refl
kind_no_lf True param = refl
kind_no_lf (Num n) param = two (codes "num p" ++ decimal param) (number_text n) (param_no_lf (codes "num p") param refl) (number_no_lf n)
kind_no_lf (Range lo hi) param =
    two (codes "range p" ++ decimal param ++ number_text lo) (number_text hi)
    (two (codes "range p" ++ decimal param) (number_text lo) (param_no_lf (codes "range p") param refl) (number_no_lf lo)) (number_no_lf hi)
kind_no_lf (Mask mask) param = two (codes "mask p" ++ decimal param) (number_text mask) (param_no_lf (codes "mask p") param refl) (number_no_lf mask)
kind_no_lf (Text cells seek) param =
    let head = codes "text p" ++ decimal param in
    let one = two head (codes " ") (param_no_lf (codes "text p") param refl) refl in
    let next = two (head ++ codes " ") (seek_text seek) one (seek_no_lf seek) in
    let third = two (head ++ codes " " ++ seek_text seek) (codes " ") next refl in
    two (head ++ codes " " ++ seek_text seek ++ codes " ") (quoted (text_of cells)) third (quoted_no_lf (text_of cells))
kind_no_lf (Act action line) param =
    two (codes "action " ++ action_word action ++ codes " line ") (decimal line)
    (two (codes "action " ++ action_word action) (codes " line ") (two (codes "action ") (action_word action) refl (action_no_lf action)) refl) (decimal_no_lf line)

word_no_lf : (b : Bool) (word : List ℕ) → has_no_lf word ≡ true → has_no_lf (word_if b word) ≡ true
word_no_lf true word h = h
word_no_lf false word h = refl

options_no_lf : (options : Options) → has_no_lf (options_text options) ≡ true
options_no_lf options =
    let fold = word_if (has options FOLD) (codes " fold") in
    let exact = word_if (has options EXACT) (codes " exact") in
    let negate = word_if (has options NEGATE) (codes " negate") in
    let clear = word_if (has options CLEAR) (codes " clear") in
    let either = word_if (has options OR) (codes " or") in
    let one = two fold exact (word_no_lf (has options FOLD) (codes " fold") refl) (word_no_lf (has options EXACT) (codes " exact") refl) in
    let next = two (fold ++ exact) negate one (word_no_lf (has options NEGATE) (codes " negate") refl) in
    let third = two (fold ++ exact ++ negate) clear next (word_no_lf (has options CLEAR) (codes " clear") refl) in
    two (fold ++ exact ++ negate ++ clear) either third (word_no_lf (has options OR) (codes " or") refl)

-- bytes without an LF, and then one
ended : (bs : List ℕ) → has_no_lf bs ≡ true → is_one_line (bs ++ 10 ∷ []) ≡ true
ended [] h = refl
ended (b ∷ []) h = h
ended (b ∷ c ∷ bs) h =
    let p = and_parts (is_no_lf b) (has_no_lf (c ∷ bs)) h in
    rw (p.0, ended (c ∷ bs) p.1) refl

opcode_ends : (at : ℕ) (op : Opcode) → is_one_line (opcode_line at op) ≡ true
opcode_ends at op =
    let kind = kind_text op.kind op.param in
    let one = two (decimal at) (codes " ") (decimal_no_lf at) refl in
    let next = two (decimal at ++ codes " ") kind one (kind_no_lf op.kind op.param) in
    ended (decimal at ++ codes " " ++ kind ++ options_text op.options)
    (two (decimal at ++ codes " " ++ kind) (options_text op.options) next (options_no_lf op.options))

heading_ends : (name : List ℕ) (tag : CallTag) → has_no_lf name ≡ true → is_one_line (heading name tag) ≡ true
heading_ends name tag h =
    let one = two (codes "code ") name refl h in
    let next = two (codes "code " ++ name) (codes " ") one refl in
    ended (codes "code " ++ name ++ codes " " ++ call_word tag) (two (codes "code " ++ name ++ codes " ") (call_word tag) next (call_no_lf tag))

abbrev pub each_ends : List (List ℕ) → Bool
each_ends lines = list_all is_one_line lines

opcodes_end : (at : ℕ) (ops : List Opcode) → each_ends (lines_from at ops) ≡ true
opcodes_end at [] = refl
opcodes_end at (op ∷ ops) = λ i. opcode_ends at op i && opcodes_end (at + 1) ops i

code_ends : (name : List ℕ) (tag : CallTag) (ops : List Opcode) → has_no_lf name ≡ true → each_ends (lines_of name tag ops) ≡ true
code_ends name tag [] h = refl
code_ends name tag (op ∷ ops) h = λ i. heading_ends name tag h i && opcodes_end 0 (op ∷ ops) i

calls_end : (program : Compiled) (tags : List CallTag) → has_no_lf program.name ≡ true
    → each_ends (flat_map (λ tag. lines_of program.name tag (code_in program tag)) tags) ≡ true
calls_end program [] h = refl
calls_end program (tag ∷ tags) h =
    list_all-append is_one_line (lines_of program.name tag (code_in program tag)) (flat_map (λ tag. lines_of program.name tag (code_in program tag)) tags)
    ∙ (λ i. code_ends program.name tag (code_in program tag) h i && calls_end program tags h i)

pub listings_are_lines : ListingsAreLines
listings_are_lines program h = (calls_join program every_tag, calls_end program every_tag h)
