-- The listing of a program tells the code of each call.
use Rattle.std.specs.Fmt.{decimal, digits, digits_onto, digit_glyph}
use Rattle.std.specs.List.{flat_map, list_all}
use Rattle.std.specs.Prelude.{codes, Option, None, Some}
use Rattle.std.proofs.Common.{◌≡◌, ◌∙◌, ℕ, ◌+◌, ◌/◌, ◌%◌, ◌<◌, Bool, true, false, not, cond, eqb, ◌&&◌, List, [], ◌∷◌, ◌++◌, drop, get_or, map, append_assoc, refl, ap, sym, zero, suc, arith}
use Rattle.std.proofs.lemmas.Bool.{and_parts, false≢true, eq-eqb}
use Rattle.std.proofs.lemmas.Bool.Decides.{nat_tests}
use Rattle.sb_base.specs.Quoting.{QuotesDiffer}
use Rattle.sb_call.specs.CallWords.{call_word, every_tag, tag_of_word}
use Rattle.sb_call.specs.Tags.{number_of}
use Rattle.sb_call.specs.declared.tags.CallTag.{CallTag}
use Rattle.sb_call.specs.declared.tags.CallTag.TheVariants.{Ping, FileCreate, FileOpen, FileQuery, FileRename, PipeCreate, KeyCreate, KeyOpen, EventCreate, EventOpen, HandleClose}
use Rattle.sb_opcode.specs.Opcodes.{Opcode}
use Rattle.sb_compile.specs.Compiling.{Compiled, code_in}
use Rattle.sb_compile.specs.Listing.{kind_text, opcode_line, listing_of}
use Rattle.sb_compile.specs.ListingLaws.{is_listable, AreListable, ListingsDiffer}
use Rattle.sb_compile.specs.ListingLines.{heading, lines_from, lines_of, listing_lines}
use Rattle.sb_base.specs.OneLine.{is_no_lf, is_one_line}
use Rattle.sb_compile.proofs.Lines.{listings_are_lines, joined, each_ends}
use Rattle.sb_compile.proofs.Splits.{apart, clash, same_head, cancel, is_letter, split_word}
use Rattle.sb_compile.proofs.ToldOpcodes.{line_parts, same_opcode}
use Rattle.sb_compile.proofs.ToldOptions.{options_end}

-- texts are cut in one way after their first line
split_line : (a b r s : List ℕ) → is_one_line a ≡ true → is_one_line b ≡ true → a ++ r ≡ b ++ s → (a ≡ b) × (r ≡ s)
split_line [] b r s ha hb e = absurd (false≢true ha)
split_line (x ∷ xs) [] r s ha hb e = absurd (false≢true hb)
split_line (x ∷ []) (y ∷ []) r s ha hb e = let first : x ≡ y = same_head e in ((λ i. first i ∷ []), ap (drop 1) e)
split_line (x ∷ []) (y ∷ z ∷ zs) r s ha hb e =
    let first : x ≡ y = same_head e in clash (eqb y 10) (ap (λ n. eqb n 10) (sym first) ∙ ha) (and_parts (is_no_lf y) (is_one_line (z ∷ zs)) hb).0
split_line (x ∷ c ∷ xs) (y ∷ []) r s ha hb e =
    let first : x ≡ y = same_head e in clash (eqb x 10) (ap (λ n. eqb n 10) first ∙ hb) (and_parts (is_no_lf x) (is_one_line (c ∷ xs)) ha).0
split_line (x ∷ c ∷ xs) (y ∷ z ∷ zs) r s ha hb e =
    let first : x ≡ y = same_head e in
    let later = split_line (c ∷ xs) (z ∷ zs) r s (and_parts (is_no_lf x) (is_one_line (c ∷ xs)) ha).1 (and_parts (is_no_lf y) (is_one_line (z ∷ zs)) hb).1 (ap (drop 1) e) in
    ((λ i. first i ∷ later.0 i), later.1)

abbrev is_empty : List ℕ → Bool
is_empty [] = true
is_empty (b ∷ bs) = false

-- a text has its lines in one way
same_lines : (xs ys : List (List ℕ)) → each_ends xs ≡ true → each_ends ys ≡ true → joined xs ≡ joined ys → xs ≡ ys
same_lines [] [] hx hy e = refl
same_lines [] ([] ∷ ys) hx hy e = absurd (false≢true hy)
same_lines [] ((c ∷ cs) ∷ ys) hx hy e = apart is_empty [] ((c ∷ cs) ++ joined ys) e refl refl
same_lines ([] ∷ xs) ys hx hy e = absurd (false≢true hx)
same_lines ((c ∷ cs) ∷ xs) [] hx hy e = apart is_empty [] ((c ∷ cs) ++ joined xs) (sym e) refl refl
same_lines ((c ∷ cs) ∷ xs) (y ∷ ys) hx hy e =
    let p = and_parts (is_one_line (c ∷ cs)) (each_ends xs) hx in
    let q = and_parts (is_one_line y) (each_ends ys) hy in
    let first = split_line (c ∷ cs) y (joined xs) (joined ys) p.0 q.0 e in
    let later = same_lines xs ys p.1 q.1 first.1 in
    λ i. first.0 i ∷ later i

-- a line above the code of a call begins with the letter c
abbrev is_heading : List ℕ → Bool
is_heading line = eqb (get_or line 0 0) 99

abbrev is_no_c : ℕ → Bool
is_no_c b = not (eqb b 99)

glyph_no_c : (n : ℕ) → is_no_c (digit_glyph false (n % 10)) ≡ true
glyph_no_c n = let small : n % 10 < 10 = omega arith in grind (arith, nat_tests)

by_test : (b : Bool) (x y : List ℕ) → list_all is_no_c x ≡ true → list_all is_no_c y ≡ true → list_all is_no_c (cond b x y) ≡ true
by_test true x y hx hy = hx
by_test false x y hx hy = hy

onto_no_c : (k n : ℕ) (acc : List ℕ) → list_all is_no_c acc ≡ true → list_all is_no_c (digits_onto k 10 false n acc) ≡ true
onto_no_c zero n acc h = h
onto_no_c (suc k) n acc h =
    let one : list_all is_no_c (digit_glyph false (n % 10) ∷ acc) ≡ true = (λ i. glyph_no_c n i && h i) in
    by_test (eqb (n / 10) 0) (digit_glyph false (n % 10) ∷ acc) _ one (onto_no_c k (n / 10) (digit_glyph false (n % 10) ∷ acc) one)

decimal_no_c : (n : ℕ) → list_all is_no_c (decimal n) ≡ true
unfolding digits
decimal_no_c n = onto_no_c 64 n [] refl

no_heading_by : (ds rest : List ℕ) → list_all is_no_c ds ≡ true → is_heading ((ds ++ codes " ") ++ rest) ≡ false
no_heading_by [] rest h = refl
no_heading_by (d ∷ ds) rest h = by (eqb d 99) (and_parts (is_no_c d) (list_all is_no_c ds) h).0
  where
    by : (b : Bool) → not b ≡ true → b ≡ false
    by true k = absurd (false≢true k)
    by false k = refl

no_heading : (at : ℕ) (op : Opcode) → is_heading (opcode_line at op) ≡ false
no_heading at op =
    ap is_heading (line_parts at op) ∙ no_heading_by (decimal at) (kind_text op.kind op.param ++ options_end op.options) (decimal_no_c at)

-- no more lines, or a line above the code of a call
abbrev goes_on : List (List ℕ) → Bool
goes_on [] = true
goes_on (line ∷ lines) = is_heading line

-- the lines of opcodes end in one way before a heading
split_code : QuotesDiffer → (at : ℕ) (xs bs : List Opcode) (r s : List (List ℕ)) → list_all is_listable xs ≡ true → list_all is_listable bs ≡ true
    → goes_on r ≡ true → goes_on s ≡ true → lines_from at xs ++ r ≡ lines_from at bs ++ s → (xs ≡ bs) × (r ≡ s)
split_code quotes at [] [] r s ha hb hr hs e = (refl, e)
split_code quotes at [] (b ∷ bs) r s ha hb hr hs e = absurd (false≢true (sym (no_heading at b) ∙ ap goes_on (sym e) ∙ hr))
split_code quotes at (a ∷ xs) [] r s ha hb hr hs e = absurd (false≢true (sym (no_heading at a) ∙ ap goes_on e ∙ hs))
split_code quotes at (a ∷ xs) (b ∷ bs) r s ha hb hr hs e =
    let p = and_parts (is_listable a) (list_all is_listable xs) ha in
    let q = and_parts (is_listable b) (list_all is_listable bs) hb in
    let first = same_opcode quotes at a b p.0 q.0 (ap (λ l. get_or l 0 []) e) in
    let later = split_code quotes (at + 1) xs bs r s p.1 q.1 hr hs (ap (drop 1) e) in
    ((λ i. first i ∷ later.0 i), later.1)

-- the number of a call that was read, and 0 if none was
abbrev number_in : Option CallTag → ℕ
number_in None = 0
number_in (Some tag) = number_of tag

number_comes_back : (tag : CallTag) → number_in (tag_of_word (call_word tag)) ≡ number_of tag
number_comes_back Ping = refl
number_comes_back _ = refl

call_letters : (tag : CallTag) → list_all is_letter (call_word tag) ≡ true
call_letters Ping = refl
call_letters _ = refl

-- equal headings are of one call
same_heading : (name : List ℕ) (t u : CallTag) → heading name t ≡ heading name u → number_of t ≡ number_of u
same_heading name t u e =
    let front = codes "code " ++ name ++ codes " " in
    let words = cancel front (call_word t ++ 10 ∷ []) (call_word u ++ 10 ∷ []) (sym (append_assoc front (call_word t) (10 ∷ [])) ∙ e ∙ append_assoc front (call_word u) (10 ∷ [])) in
    let word = split_word (call_word t) (call_word u) (10 ∷ []) (10 ∷ []) (call_letters t) (call_letters u) refl refl words in
    sym (number_comes_back t) ∙ ap (λ w. number_in (tag_of_word w)) word.0 ∙ number_comes_back u

-- the lines of calls
abbrev lines_in : List ℕ → Compiled → List CallTag → List (List ℕ)
lines_in name program tags = flat_map (λ tag. lines_of name tag (code_in program tag)) tags

code_goes_on : (name : List ℕ) (tag : CallTag) (ops : List Opcode) (rest : List (List ℕ)) → goes_on rest ≡ true → goes_on (lines_of name tag ops ++ rest) ≡ true
code_goes_on name tag [] rest h = h
code_goes_on name tag (op ∷ ops) rest h = refl

calls_go_on : (name : List ℕ) (program : Compiled) (tags : List CallTag) → goes_on (lines_in name program tags) ≡ true
calls_go_on name program [] = refl
calls_go_on name program (tag ∷ tags) = code_goes_on name tag (code_in program tag) (lines_in name program tags) (calls_go_on name program tags)

-- another call
abbrev is_other : CallTag → CallTag → Bool
is_other tag other = not (eqb (number_of other) (number_of tag))

abbrev has_line : List (List ℕ) → Bool
has_line [] = false
has_line (line ∷ lines) = true

-- no code of other calls begins with the heading of a call
other_begins : (name : List ℕ) (tag other : CallTag) (ops : List Opcode) (rest more : List (List ℕ)) → is_other tag other ≡ true
    → (rest ≡ heading name tag ∷ more → ⊥) → lines_of name other ops ++ rest ≡ heading name tag ∷ more → ⊥
other_begins name tag other [] rest more h later e = later e
other_begins name tag other (op ∷ ops) rest more h later e =
    clash (eqb (number_of other) (number_of tag)) (eq-eqb (number_of other) (number_of tag) (same_heading name other tag (ap (λ l. get_or l 0 []) e))) h

no_such_heading : (name : List ℕ) (program : Compiled) (tag : CallTag) (tags : List CallTag) (more : List (List ℕ)) → list_all (is_other tag) tags ≡ true
    → lines_in name program tags ≡ heading name tag ∷ more → ⊥
no_such_heading name program tag [] more h e = false≢true (ap has_line e)
no_such_heading name program tag (other ∷ tags) more h e =
    let p = and_parts (is_other tag other) (list_all (is_other tag) tags) h in
    other_begins name tag other (code_in program other) (lines_in name program tags) more p.0 (no_such_heading name program tag tags more p.1) e

-- the code of one call
same_code : QuotesDiffer → (name : List ℕ) (tag : CallTag) (xs bs : List Opcode) (r s : List (List ℕ)) → list_all is_listable xs ≡ true → list_all is_listable bs ≡ true
    → goes_on r ≡ true → goes_on s ≡ true → ((more : List (List ℕ)) → r ≡ heading name tag ∷ more → ⊥) → ((more : List (List ℕ)) → s ≡ heading name tag ∷ more → ⊥)
    → lines_of name tag xs ++ r ≡ lines_of name tag bs ++ s → (xs ≡ bs) × (r ≡ s)
same_code quotes name tag [] [] r s ha hb hr hs nr ns e = (refl, e)
same_code quotes name tag [] (b ∷ bs) r s ha hb hr hs nr ns e = absurd (nr (lines_from 0 (b ∷ bs) ++ s) e)
same_code quotes name tag (a ∷ xs) [] r s ha hb hr hs nr ns e = absurd (ns (lines_from 0 (a ∷ xs) ++ r) (sym e))
same_code quotes name tag (a ∷ xs) (b ∷ bs) r s ha hb hr hs nr ns e = split_code quotes 0 (a ∷ xs) (b ∷ bs) r s ha hb hr hs (ap (drop 1) e)

-- calls of which no two are one
abbrev are_apart : List CallTag → Bool
are_apart [] = true
are_apart (tag ∷ tags) = list_all (is_other tag) tags && are_apart tags

same_codes : QuotesDiffer → (name : List ℕ) (a b : Compiled) (tags : List CallTag) → AreListable a → AreListable b → are_apart tags ≡ true
    → lines_in name a tags ≡ lines_in name b tags → map (code_in a) tags ≡ map (code_in b) tags
same_codes quotes name a b [] la lb h e = refl
same_codes quotes name a b (tag ∷ tags) la lb h e =
    let p = and_parts (list_all (is_other tag) tags) (are_apart tags) h in
    let first = same_code quotes name tag (code_in a tag) (code_in b tag) (lines_in name a tags) (lines_in name b tags) (la tag) (lb tag)
    (calls_go_on name a tags) (calls_go_on name b tags) (λ more. no_such_heading name a tag tags more p.0) (λ more. no_such_heading name b tag tags more p.0) e in
    let later = same_codes quotes name a b tags la lb p.1 first.1 in
    λ i. first.0 i ∷ later i

at_call : (a b : Compiled) (tag : CallTag) → map (code_in a) every_tag ≡ map (code_in b) every_tag → code_in a tag ≡ code_in b tag
at_call a b Ping e = ap (λ l. get_or l 0 []) e
at_call a b FileCreate e = ap (λ l. get_or l 1 []) e
at_call a b FileOpen e = ap (λ l. get_or l 2 []) e
at_call a b FileQuery e = ap (λ l. get_or l 3 []) e
at_call a b FileRename e = ap (λ l. get_or l 4 []) e
at_call a b PipeCreate e = ap (λ l. get_or l 5 []) e
at_call a b KeyCreate e = ap (λ l. get_or l 6 []) e
at_call a b KeyOpen e = ap (λ l. get_or l 7 []) e
at_call a b EventCreate e = ap (λ l. get_or l 8 []) e
at_call a b EventOpen e = ap (λ l. get_or l 9 []) e
at_call a b HandleClose e = ap (λ l. get_or l 10 []) e

-- programs of one name that are listed alike have the same codes
pub same_listings : QuotesDiffer → (a b : Compiled) → a.name ≡ b.name → list_all is_no_lf a.name ≡ true → AreListable a → AreListable b
    → listing_of a ≡ listing_of b → map (code_in a) every_tag ≡ map (code_in b) every_tag
same_listings quotes a b names no_lf la lb e =
    let one = listings_are_lines a no_lf in
    let other = listings_are_lines b (ap (list_all is_no_lf) (sym names) ∙ no_lf) in
    let lines = same_lines (listing_lines a) (listing_lines b) one.1 other.1 (sym one.0 ∙ e ∙ other.0) in
    same_codes quotes a.name a b every_tag la lb refl (lines ∙ (λ i. lines_in (sym names i) b every_tag))

pub listings_differ : QuotesDiffer → ListingsDiffer
listings_differ quotes a b names no_lf la lb e tag = at_call a b tag (same_listings quotes a b names no_lf la lb e)
