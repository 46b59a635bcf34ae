-- What a text of links means: the links, or the first fault.
use Rattle.std.specs.Prelude.{ℕ, not, nat_eq, nat_le, List, [], ◌∷◌, ◌++◌, length, Result, Ok, if◌then◌else◌, codes}
use Rattle.std.specs.Cmp.Lexicographic.{pointwise}
use Rattle.std.specs.List.{list_any}
use Rattle.sb_text.specs.Lines.{NumberedLine}
use Rattle.sb_text.specs.Readings.{Grammar, read_text}
use Rattle.sb_text.specs.Columns.{fails_at}
use Rattle.sb_text.specs.Steps.{◌>>=◌, Read, end_at, quoted_at, unless_fails, version_at, word_at}
use Rattle.sb_text.specs.Tokens.{Lexemes, by_tokens, place_due, string_of, tokens_of}
use Rattle.sb_text.specs.declared.refusals.LineFault.{LineFault}
use Rattle.sb_text.specs.declared.refusals.TokenFault.{TokenFault}
use Rattle.sb_text.specs.declared.refusals.WordFault.TheVariants.{Broken, Extra, Missing, NoVersion, Quoted, Unknown, Unquoted}
use Rattle.sb_link.specs.Links.{is_from, is_link_name, most_links}
use Rattle.sb_link.specs.declared.faults.LinkKind.{LinkKind}
use Rattle.sb_link.specs.declared.faults.LinkKind.TheVariants.{NotUtf8, UnknownWord, BadName, SameName, TooMany}
use Rattle.sb_link.specs.declared.link_texts.LinkLine.{LinkLine}
use Rattle.sb_link.specs.declared.links.Link.{Link}

-- the first fault of a text of links
abbrev pub LinkFault : Type 0
LinkFault = LineFault LinkKind

-- a string between quotes
unfoldable pub string_at : Lexemes → Read (List ℕ) LinkKind
string_at tokens = do
  quoted ← quoted_at (UnknownWord Unquoted) (UnknownWord Broken) (UnknownWord Missing) tokens
  Ok (string_of quoted.0, quoted.1)

-- the rest of a line after its word: `"FROM" "TO"`
unfoldable pub link_at : Lexemes → Lexemes → Result LinkLine (TokenFault LinkKind)
link_at line tokens = do
  from ← string_at tokens
  to ← string_at from.1
  end ← end_at (UnknownWord Extra) (UnknownWord Broken) to.1
  Ok (record { link = record { from = from.0; to = to.0 }; word = place_due line; from = place_due tokens; to = place_due from.1 })

-- a line: `link "FROM" "TO"`
unfoldable pub read_link : Lexemes → Result LinkLine (TokenFault LinkKind)
read_link line = do
  word ← word_at (UnknownWord Quoted) (UnknownWord Broken) (UnknownWord Missing) line
  known ← unless_fails line (UnknownWord Unknown) (pointwise nat_eq word.0 (codes "link"))
  link_at line word.1

-- These links and the link of a line, unless FROM or TO is no name of a link, FROM is that of another link, or there are 64 links, which is told at the word
abbrev pub new_link : List Link → LinkLine → Result (List Link) (TokenFault LinkKind)
new_link links line =
    if not (is_link_name line.link.from) then fails_at line.from BadName
    else (if not (is_link_name line.link.to) then fails_at line.to BadName
    else (if list_any (is_from line.link.from) links then fails_at line.from SameName
    else (if nat_le most_links (length links) then fails_at line.word TooMany
    else Ok (links ++ line.link ∷ []))))

-- these links and what a line adds to them
abbrev pub add_line : List Link → NumberedLine → Result (List Link) (TokenFault LinkKind)
add_line links line = read_link (tokens_of line.text) >>= new_link links

-- the version line: `sandbox-links 1`
abbrev pub link_version : List ℕ → Result ℕ (TokenFault LinkKind)
link_version line = version_at (UnknownWord NoVersion) (codes "sandbox-links") 1 (tokens_of line)

-- texts of links
abbrev pub grammar : Grammar (List Link) LinkKind
grammar = record { layout = by_tokens; version = link_version; no_version = UnknownWord NoVersion; start = []; add = λ version. add_line }

-- what a text means
abbrev pub reading : List ℕ → Result (List Link) LinkFault
reading text = read_text NotUtf8 grammar text
