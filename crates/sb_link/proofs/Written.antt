-- Links that are written are read back.
use Rattle.std.proofs.Common.{◌≡◌, ◌∙◌, ℕ, ◌+◌, ◌<◌, ◌≤◌, nat_le, Bool, true, false, not, cond, ◌||◌, List, [], ◌∷◌, ◌++◌, Ok, Result, Option, length, map, codes, refl, subst, ap, sym, arith}
use Rattle.std.specs.List.{list_all, list_any}
use Rattle.std.proofs.lemmas.Bool.{and_parts, false≢true}
use Rattle.std.proofs.lemmas.Bool.Decides.{nat_tests}
use Rattle.std.proofs.lemmas.List.{append_assoc, append-nil, length-append}
use Rattle.std.proofs.lemmas.List.Folds.{list_all-append}
use Rattle.std.proofs.lemmas.Str.{is_utf8-from_IsUtf8}
use Rattle.sb_text.specs.Lines.{NumberedLine, lines_of}
use Rattle.sb_text.specs.PlainLines.{PlainLinesAreRead, PlainLinesAreUtf8, PlainTokensAreRead, is_plain, is_plain_line, numbered}
use Rattle.sb_text.specs.Readings.{on_line, read_by, read_lines, where_utf8}
use Rattle.sb_text.specs.Columns.{fails_at}
use Rattle.sb_text.specs.Steps.{◌>>=◌, version_at}
use Rattle.sb_text.specs.Strings.{ComesBack, StringsComeBack, is_text, string_token}
use Rattle.sb_text.specs.TokenLaws.{is_quoted_byte, placed, written_line}
use Rattle.sb_text.specs.Tokens.{Lexeme, Lexemes, by_tokens, utf8_of}
use Rattle.sb_text.specs.Utf8.{Place}
use Rattle.sb_text.specs.Utf8Laws.{NotUtf8PlaceTells}
use Rattle.sb_text.specs.declared.refusals.TokenFault.{TokenFault}
use Rattle.sb_text.specs.declared.refusals.WordFault.TheVariants.{NoVersion}
use Rattle.sb_link.specs.LinkTexts.{grammar, link_at, new_link, read_link, string_at}
use Rattle.sb_link.specs.Links.{AreLinks, are_distinct, is_from, is_link, is_link_name, most_links}
use Rattle.sb_link.specs.Writing.{WrittenLinksAreRead, is_writable, link_lines, link_tokens, version_tokens, written}
use Rattle.sb_link.specs.declared.faults.LinkKind.{LinkKind}
use Rattle.sb_link.specs.declared.faults.LinkKind.TheVariants.{NotUtf8, UnknownWord, BadName, SameName, TooMany}
use Rattle.sb_link.specs.declared.link_texts.LinkLine.{LinkLine}
use Rattle.sb_link.specs.declared.links.Link.{Link}
use Rattle.sb_link.proofs.Adding.{both, is_false, or_false, same_back}
use Rattle.sb_link.proofs.Under.{not_true}

-- the laws of texts that the proof uses
pub record Laws : Type 0 where
  pub utf8 : NotUtf8PlaceTells
  pub plain : PlainLinesAreUtf8
  pub lines : PlainLinesAreRead
  pub tokens : PlainTokensAreRead
  pub strings : StringsComeBack

back : Laws → (units : List ℕ) → is_text units ≡ true → ComesBack units
back laws units h = let parts = and_parts _ _ h in laws.strings units parts.0 parts.1

-- ---- the tokens of a link

quoted_plain : (units : List ℕ) → ComesBack units → is_plain (string_token units) ≡ true
quoted_plain units b = both (list_all is_quoted_byte (utf8_of units)) _ b.quoted (is_utf8-from_IsUtf8 (utf8_of units) b.utf8)

link_plain : Laws → (link : Link) → is_writable link ≡ true → is_plain_line (link_tokens link) ≡ true
link_plain laws link h =
    let parts = and_parts (is_text link.from) (is_text link.to) h in
    both (is_plain (string_token link.from)) _ (quoted_plain link.from (back laws link.from parts.0))
    (both (is_plain (string_token link.to)) true (quoted_plain link.to (back laws link.to parts.1)) refl)

links_plain : Laws → (links : List Link) → list_all is_writable links ≡ true → list_all is_plain_line (map link_tokens links) ≡ true
links_plain laws [] h = refl
links_plain laws (link ∷ links) h =
    let parts = and_parts (is_writable link) (list_all is_writable links) h in
    both (is_plain_line (link_tokens link)) _ (link_plain laws link parts.0) (links_plain laws links parts.1)

-- the line of a link, as it is written
abbrev line_of : Link → LinkLine
line_of link = record {
  link = link;
  word = length (written_line (link_tokens link));
  from = length (written_line (string_token link.from ∷ string_token link.to ∷ []));
  to = length (written_line (string_token link.to ∷ []));
}

link_back : Laws → (link : Link) → is_writable link ≡ true → read_link (placed (link_tokens link)) ≡ Ok (line_of link)
unfolding read_link link_at string_at
link_back laws link h =
    let parts = and_parts (is_text link.from) (is_text link.to) h in
    let places = line_of link in
    λ i. Ok (record {
      link = record { from = (back laws link.from parts.0).string i; to = (back laws link.to parts.1).string i };
      word = places.word;
      from = places.from;
      to = places.to;
    })

-- ---- the link of a line

abbrev pub many : List Link → LinkLine → Bool → Result (List Link) (TokenFault LinkKind)
many links line t = cond t (fails_at line.word TooMany) (Ok (links ++ line.link ∷ []))

abbrev pub same : List Link → LinkLine → Bool → Result (List Link) (TokenFault LinkKind)
same links line t = cond t (fails_at line.from SameName) (many links line (nat_le most_links (length links)))

abbrev pub named_to : List Link → LinkLine → Bool → Result (List Link) (TokenFault LinkKind)
named_to links line t = cond (not t) (fails_at line.to BadName) (same links line (list_any (is_from line.link.from) links))

abbrev pub named_from : List Link → LinkLine → Bool → Result (List Link) (TokenFault LinkKind)
named_from links line t = cond (not t) (fails_at line.from BadName) (named_to links line (is_link_name line.link.to))

few_enough : (n : ℕ) → n < 64 → nat_le 64 n ≡ false
few_enough n h = grind (arith, nat_tests)

new_back : (links : List Link) (link : Link) → is_link link ≡ true → list_any (is_from link.from) links ≡ false → length links < most_links
    → new_link links (line_of link) ≡ Ok (links ++ link ∷ [])
new_back links link h k n =
    let parts = and_parts (is_link_name link.from) (is_link_name link.to) h in
    let line = line_of link in
    ap (named_from links line) parts.0 ∙ ap (named_to links line) parts.1 ∙ ap (same links line) k
    ∙ ap (many links line) (few_enough (length links) n)

none_after : (name : List ℕ) (done : List Link) (link : Link) (more : List Link) → list_any (is_from name) (done ++ link ∷ more) ≡ false → is_from name link ≡ false
none_after name [] link more h = (or_false (is_from name link) (list_any (is_from name) more) h).0
none_after name (first ∷ done) link more h = none_after name done link more (or_false (is_from name first) _ h).1

from_back : (first link : Link) → is_from first.from link ≡ false → is_from link.from first ≡ false
from_back first link h = not_true (is_from link.from first) (λ e. absurd (false≢true (sym h ∙ same_back first.from link.from e)))

none_before : (done : List Link) (link : Link) (more : List Link) → are_distinct (done ++ link ∷ more) ≡ true → list_any (is_from link.from) done ≡ false
none_before [] link more h = refl
none_before (first ∷ done) link more h =
    let parts = and_parts (not (list_any (is_from first.from) (done ++ link ∷ more))) (are_distinct (done ++ link ∷ more)) h in
    let other = from_back first link (none_after first.from done link more (is_false _ parts.0)) in
    ap (λ b. b || list_any (is_from link.from) done) other ∙ none_before done link more parts.1

fewer : (done : List Link) (link : Link) (more : List Link) → length (done ++ link ∷ more) ≤ most_links → length done < most_links
fewer done link more h = let e = length-append done (link ∷ more) in omega arith

next_back : (done : List Link) (link : Link) (more : List Link) → AreLinks (done ++ link ∷ more) → new_link done (line_of link) ≡ Ok (done ++ link ∷ [])
next_back done link more are =
    let named = (and_parts (list_all is_link done) _ (sym (list_all-append is_link done (link ∷ more)) ∙ are.named)).1 in
    new_back done link (and_parts (is_link link) (list_all is_link more) named).0 (none_before done link more are.distinct) (fewer done link more are.few)

-- ---- all lines

line_back : Laws → (done : List Link) (link : Link) (n : ℕ) (lines : List (List Lexeme)) → is_writable link ≡ true → new_link done (line_of link) ≡ Ok (done ++ link ∷ [])
    → read_lines grammar 1 done (numbered n (link_tokens link ∷ lines)) ≡ read_lines grammar 1 (done ++ link ∷ []) (numbered (n + 1) lines)
unfolding read_lines
line_back laws done link n lines w e =
    let line : NumberedLine = record { number = n; text = written_line (link_tokens link) } in
    ap (λ (tokens : Lexemes). on_line by_tokens line (read_link tokens >>= new_link done) >>= λ more. read_lines grammar 1 more (numbered (n + 1) lines))
    (laws.tokens (link_tokens link) (link_plain laws link w))
    ∙ ap (λ (r : Result LinkLine (TokenFault LinkKind)). on_line by_tokens line (r >>= new_link done) >>= λ more. read_lines grammar 1 more (numbered (n + 1) lines))
    (link_back laws link w)
    ∙ ap (λ (r : Result (List Link) (TokenFault LinkKind)). on_line by_tokens line r >>= λ more. read_lines grammar 1 more (numbered (n + 1) lines)) e

lines_back : Laws → (done : List Link) (n : ℕ) (links : List Link) → AreLinks (done ++ links) → list_all is_writable links ≡ true
    → read_lines grammar 1 done (numbered n (map link_tokens links)) ≡ Ok (done ++ links)
unfolding read_lines
lines_back laws done n [] are w = ap (λ l. Ok l) (sym (append-nil done))
lines_back laws done n (link ∷ links) are w =
    let parts = and_parts (is_writable link) (list_all is_writable links) w in
    line_back laws done link n (map link_tokens links) parts.0 (next_back done link links are)
    ∙ lines_back laws (done ++ link ∷ []) (n + 1) links (subst AreLinks (sym (append_assoc done (link ∷ []) links)) are) parts.1
    ∙ ap (λ l. Ok l) (append_assoc done (link ∷ []) links)

all_plain : Laws → (links : List Link) → list_all is_writable links ≡ true → list_all is_plain_line (link_lines links) ≡ true
all_plain laws links w = links_plain laws links w

pub written_links_are_read : Laws → WrittenLinksAreRead
written_links_are_read laws links are w =
    let text = written links in
    let lines = link_lines links in
    let plain = all_plain laws links w in
    ap (λ (place : Option Place). where_utf8 NotUtf8 place (read_by grammar (lines_of text))) (laws.utf8.0 text (laws.plain lines plain))
    ∙ ap (read_by grammar) (laws.lines lines plain)
    ∙ ap (λ (tokens : Lexemes). on_line by_tokens (record { number = 1; text = written_line version_tokens }) (version_at (UnknownWord NoVersion) (codes "sandbox-links") 1 tokens)
    >>= λ version. read_lines grammar version [] (numbered 2 (map link_tokens links)))
    (laws.tokens version_tokens refl)
    ∙ lines_back laws [] 2 links are w
