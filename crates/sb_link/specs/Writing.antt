-- How links are written as a text, and that they are read back.
use Rattle.std.specs.Prelude.{◌≡◌, ℕ, Bool, true, ◌&&◌, List, [], ◌∷◌, map, codes, Ok}
use Rattle.std.specs.List.{flat_map, list_all}
use Rattle.sb_text.specs.PlainLines.{line_text}
use Rattle.sb_text.specs.Strings.{is_text, string_token}
use Rattle.sb_text.specs.Tokens.{Lexeme, Word}
use Rattle.sb_link.specs.LinkTexts.{reading}
use Rattle.sb_link.specs.Links.{AreLinks}
use Rattle.sb_link.specs.declared.links.Link.{Link}

-- a link: `link "FROM" "TO"`
abbrev pub link_tokens : Link → List Lexeme
link_tokens link = Word (codes "link") ∷ string_token link.from ∷ string_token link.to ∷ []

-- the first line: `sandbox-links 1`
abbrev pub version_tokens : List Lexeme
version_tokens = Word (codes "sandbox-links") ∷ Word (codes "1") ∷ []

-- the lines of links
abbrev pub link_lines : List Link → List (List Lexeme)
link_lines links = version_tokens ∷ map link_tokens links

-- the text of links
abbrev pub written : List Link → List ℕ
written links = flat_map line_text (link_lines links)

-- both names of a link are such text
abbrev pub is_writable : Link → Bool
is_writable link = is_text link.from && is_text link.to

-- the text of links that can be written is read as these links
abbrev pub WrittenLinksAreRead : Type 0
WrittenLinksAreRead = (links : List Link) → AreLinks links → list_all is_writable links ≡ true → reading (written links) ≡ Ok links

-- and whatever is read of a text are links that can be written
abbrev pub ReadLinksAreLinks : Type 0
ReadLinksAreLinks = (text : List ℕ) (links : List Link) → reading text ≡ Ok links → AreLinks links × (list_all is_writable links ≡ true)
