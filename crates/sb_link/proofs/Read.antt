-- Links that are read are links, and can be written.
use Rattle.std.proofs.Common.{◌≡◌, ◌∙◌, ℕ, ◌<◌, nat_eq, nat_le, Bool, true, false, List, [], ◌∷◌, ◌++◌, Ok, Err, Result, Option, None, Some, length, codes, refl, subst, ap, sym, arith}
use Rattle.std.specs.Cmp.Lexicographic.{pointwise}
use Rattle.std.specs.List.{list_all, list_any}
use Rattle.std.specs.Str.{is_utf8}
use Rattle.std.proofs.lemmas.Bool.{and_parts}
use Rattle.std.proofs.lemmas.Bool.Decides.{nat_tests}
use Rattle.std.proofs.lemmas.List.Folds.{list_all-append}
use Rattle.std.proofs.lemmas.Str.{IsUtf8-from_is_utf8}
use Rattle.sb_text.specs.Lines.{NumberedLine, lines_of}
use Rattle.sb_text.specs.Readings.{on_line, read_by, read_lines, where_utf8}
use Rattle.sb_text.specs.Steps.{◌>>=◌, end_at, unless_fails}
use Rattle.sb_text.specs.Strings.{QuotedStringsAreText, is_text}
use Rattle.sb_text.specs.TokenLaws.{QuotedTokensAreText, has_quoted_text, is_quoted_byte, is_quoted_text}
use Rattle.sb_text.specs.Tokens.{Lexemes, Next, End, Word, Quoted, Bad, by_tokens, lexemes, place_due, string_of, tokens_of}
use Rattle.sb_text.specs.Utf8.{Place, not_utf8_place}
use Rattle.sb_text.specs.declared.refusals.TokenFault.{TokenFault}
use Rattle.sb_text.specs.declared.refusals.WordFault.TheVariants as word
use Rattle.sb_link.specs.LinkTexts.{add_line, grammar, link_at, link_version, new_link, read_link, string_at}
use Rattle.sb_link.specs.Links.{AreLinks, is_from, is_link_name, most_links}
use Rattle.sb_link.specs.Writing.{ReadLinksAreLinks, is_writable}
use Rattle.sb_link.specs.declared.faults.LinkKind.{LinkKind}
use Rattle.sb_link.specs.declared.faults.LinkKind.TheVariants.{NotUtf8, UnknownWord, BadName, SameName, TooMany}
use Rattle.sb_link.specs.declared.link_texts.LinkLine.{LinkLine}
use Rattle.sb_link.specs.declared.links.Link.{Link}
use Rattle.sb_link.proofs.Adding.{both, one_more}
use Rattle.sb_link.proofs.Written.{many, named_from, named_to, same}

made : {A B K : Type 0} (r : Result A K) (f : A → Result B K) (y : B) → (r >>= f) ≡ Ok y → (x : A) × (r ≡ Ok x) × (f x ≡ Ok y)
made (Ok x) f y h = (x, refl, h)
made (Err k) f y h = absurd cc

ok_same : {A K : Type 0} (x y : A) → ◌≡◌ {A = Result A K} (Ok x) (Ok y) → x ≡ y
ok_same x y h = cc

-- ---- one line

quoted_text : QuotedStringsAreText → (q : List ℕ) → is_quoted_text (Quoted q) ≡ true → is_text (string_of q) ≡ true
quoted_text law q h =
    let parts = and_parts (is_utf8 q) (list_all is_quoted_byte q) h in
    let text = law q (IsUtf8-from_is_utf8 q parts.0) parts.1 in
    both _ _ text.0 text.1

strings_writable : QuotedStringsAreText → (line tokens : Lexemes) (found : LinkLine) → link_at line tokens ≡ Ok found
    → list_all is_quoted_text (lexemes tokens) ≡ true → is_writable found.link ≡ true
unfolding link_at string_at
strings_writable law line (End a) found h t = absurd cc
strings_writable law line (Next a (Word w) tokens) found h t = absurd cc
strings_writable law line (Next a Bad tokens) found h t = absurd cc
strings_writable law line (Next a (Quoted q) (End b)) found h t = absurd cc
strings_writable law line (Next a (Quoted q) (Next b (Word w) tokens)) found h t = absurd cc
strings_writable law line (Next a (Quoted q) (Next b Bad tokens)) found h t = absurd cc
strings_writable law line (Next a (Quoted q) (Next b (Quoted p) (Next c (Word w) tokens))) found h t = absurd cc
strings_writable law line (Next a (Quoted q) (Next b (Quoted p) (Next c Bad tokens))) found h t = absurd cc
strings_writable law line (Next a (Quoted q) (Next b (Quoted p) (Next c (Quoted r) tokens))) found h t = absurd cc
strings_writable law line (Next a (Quoted q) (Next b (Quoted p) (End c))) found h t =
    let first = and_parts (is_quoted_text (Quoted q)) (list_all is_quoted_text (Quoted p ∷ [])) t in
    let second = and_parts (is_quoted_text (Quoted p)) true first.1 in
    subst (λ l. is_writable l ≡ true) (ok_link (record { from = string_of q; to = string_of p }) found h)
    (both (is_text (string_of q)) (is_text (string_of p)) (quoted_text law q first.0) (quoted_text law p second.0))
  where
    ok_link : (link : Link) (found : LinkLine)
        → ◌≡◌ {A = Result LinkLine (TokenFault LinkKind)} (Ok (record { link = link; word = place_due line; from = a; to = b })) (Ok found) → link ≡ found.link
    ok_link link found e = ap (λ (l : LinkLine). l.link) (ok_same (record { link = link; word = place_due line; from = a; to = b }) found e)

link_writable : QuotedStringsAreText → (line : Lexemes) (found : LinkLine) → read_link line ≡ Ok found → list_all is_quoted_text (lexemes line) ≡ true
    → is_writable found.link ≡ true
unfolding read_link
link_writable law (End a) found h t = absurd cc
link_writable law (Next a (Quoted q) tokens) found h t = absurd cc
link_writable law (Next a Bad tokens) found h t = absurd cc
link_writable law (Next a (Word w) tokens) found h t = by (pointwise nat_eq w (codes "link")) h
  where
    by : (b : Bool) → (unless_fails (Next a (Word w) tokens) (UnknownWord word.Unknown) b >>= λ known. link_at (Next a (Word w) tokens) tokens) ≡ Ok found
        → is_writable found.link ≡ true
    by true e = strings_writable law (Next a (Word w) tokens) tokens found e (and_parts (is_quoted_text (Word w)) (list_all is_quoted_text (lexemes tokens)) t).1
    by false e = absurd cc

-- what is true of a link that was added
record IsNew (links : List Link) (link : Link) (more : List Link) : Type 0 where
  from : is_link_name link.from ≡ true
  to : is_link_name link.to ≡ true
  new : list_any (is_from link.from) links ≡ false
  room : nat_le most_links (length links) ≡ false
  is : links ++ link ∷ [] ≡ more

not_read : (fault : TokenFault LinkKind) (more : List Link) → ◌≡◌ {A = Result (List Link) (TokenFault LinkKind)} (Err fault) (Ok more) → ⊥
not_read fault more h = cc

new_made : (links : List Link) (line : LinkLine) (more : List Link) → new_link links line ≡ Ok more → IsNew links line.link more
new_made links line more h =
    by (is_link_name line.link.from) (is_link_name line.link.to) (list_any (is_from line.link.from) links) (nat_le most_links (length links)) refl refl refl refl
  where
    by : (a b c d : Bool) → is_link_name line.link.from ≡ a → is_link_name line.link.to ≡ b → list_any (is_from line.link.from) links ≡ c
        → nat_le most_links (length links) ≡ d → IsNew links line.link more
    by false b c d e f g k = absurd (not_read (record { place = line.from; kind = BadName }) more (sym (ap (named_from links line) e) ∙ h))
    by true false c d e f g k =
        absurd (not_read (record { place = line.to; kind = BadName }) more (sym (ap (named_from links line) e ∙ ap (named_to links line) f) ∙ h))
    by true true true d e f g k =
        absurd (not_read (record { place = line.from; kind = SameName }) more (sym (ap (named_from links line) e ∙ ap (named_to links line) f ∙ ap (same links line) g) ∙ h))
    by true true false true e f g k =
        absurd (not_read (record { place = line.word; kind = TooMany }) more
        (sym (ap (named_from links line) e ∙ ap (named_to links line) f ∙ ap (same links line) g ∙ ap (many links line) k) ∙ h))
    by true true false false e f g k = record {
      from = e;
      to = f;
      new = g;
      room = k;
      is = ok_same (links ++ line.link ∷ []) more (sym (ap (named_from links line) e ∙ ap (named_to links line) f ∙ ap (same links line) g ∙ ap (many links line) k) ∙ h);
    }

less : (n : ℕ) → nat_le 64 n ≡ false → n < 64
less n h = grind (arith, nat_tests)

-- ---- all lines

-- links, which can be written
abbrev AreFine : List Link → Type 0
AreFine links = AreLinks links × (list_all is_writable links ≡ true)

fine_more : QuotedStringsAreText → (links : List Link) (line : NumberedLine) (more : List Link) → AreFine links → has_quoted_text line ≡ true
    → add_line links line ≡ Ok more → AreFine more
fine_more law links line more fine t h =
    let read = made (read_link (tokens_of line.text)) (new_link links) more h in
    let link = read.0.link in
    let new = new_made links read.0 more read.2 in
    let writable = link_writable law (tokens_of line.text) read.0 read.1 t in
    subst AreFine new.is (
      one_more links link fine.0 (less (length links) new.room) (both (is_link_name link.from) (is_link_name link.to) new.from new.to) new.new,
      list_all-append is_writable links (link ∷ []) ∙ both _ _ fine.1 (both (is_writable link) true writable refl),
    )

on_line_made : (line : NumberedLine) (r : Result (List Link) (TokenFault LinkKind)) (x : List Link) → on_line by_tokens line r ≡ Ok x → r ≡ Ok x
on_line_made line (Ok y) x h = ap (λ l. Ok l) (ok_same y x h)
on_line_made line (Err fault) x h = absurd cc

lines_fine : QuotedStringsAreText → (version : ℕ) (lines : List NumberedLine) (links all : List Link) → AreFine links → list_all has_quoted_text lines ≡ true
    → read_lines grammar version links lines ≡ Ok all → AreFine all
unfolding read_lines
lines_fine law version [] links all fine t h = subst AreFine (ok_same links all h) fine
lines_fine law version (line ∷ lines) links all fine t h =
    let parts = and_parts (has_quoted_text line) (list_all has_quoted_text lines) t in
    let read = made (on_line by_tokens line (add_line links line)) (λ more. read_lines grammar version more lines) all h in
    lines_fine law version lines read.0 all (fine_more law links line read.0 fine parts.0 (on_line_made line (add_line links line) read.0 read.1)) parts.1 read.2

nothing_fine : AreFine []
nothing_fine = (record { few = omega arith; named = refl; distinct = refl }, refl)

by_fine : QuotedStringsAreText → (lines : List NumberedLine) (all : List Link) → list_all has_quoted_text lines ≡ true → read_by grammar lines ≡ Ok all → AreFine all
by_fine law [] all t h = absurd cc
by_fine law (first ∷ lines) all t h =
    let read = made (on_line by_tokens first (link_version first.text)) (λ version. read_lines grammar version [] lines) all h in
    lines_fine law read.0 lines [] all nothing_fine (and_parts (has_quoted_text first) (list_all has_quoted_text lines) t).1 read.2

pub read_links_are_links : QuotedStringsAreText → QuotedTokensAreText → ReadLinksAreLinks
read_links_are_links law tokens text links h = by (not_utf8_place text) refl h
  where
    by : (place : Option Place) → not_utf8_place text ≡ place → where_utf8 NotUtf8 place (read_by grammar (lines_of text)) ≡ Ok links → AreFine links
    by None e k = by_fine law (lines_of text) links (tokens text e) k
    by (Some place) e k = absurd cc
