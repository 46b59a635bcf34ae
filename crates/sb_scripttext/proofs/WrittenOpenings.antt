-- The opening lines that are written are read as they were.
use Rattle.std.proofs.Common.{◌≡◌, ◌∙◌, ℕ, ◌^◌, nat_le, nat_lt, true, ◌&&◌, List, [], ◌∷◌, Ok, Result, ap, arith}
use Rattle.std.proofs.lemmas.Bool.{and_parts}
use Rattle.std.proofs.lemmas.Bool.Decides.{nat_tests}
use Rattle.sb_statements.specs.Soundness.{is_start}
use Rattle.sb_statements.specs.declared.scripts.StartLine.{StartLine}
use Rattle.sb_statements.specs.declared.scripts.StartLine.TheVariants.{Dir, File, Key, Event}
use Rattle.sb_scripttext.proofs.WrittenWords.{Texts, at_most, within_read, short_number, name_read}
use Rattle.sb_scripttext.specs.Arguments.{most_32}
use Rattle.sb_scripttext.specs.Openings.{dir, file, key, event}
use Rattle.sb_scripttext.specs.Steps.{number_within}
use Rattle.sb_scripttext.specs.Writable.{is_writable_start}
use Rattle.sb_base.specs.Numbers.{is_word64}
use Rattle.sb_text.specs.Strings.{is_text, string_token}
use Rattle.sb_scripttext.specs.Writing.{number_token, start_tokens}
use Rattle.sb_scripttext.specs.declared.faults.ScriptKind.{ScriptKind}
use Rattle.sb_scripttext.specs.declared.faults.ScriptKind.TheVariants.{UnknownWord, BadNumber}
use Rattle.sb_text.specs.Steps.{◌>>=◌, Read, later, end_at}
use Rattle.sb_text.specs.TokenLaws.{placed}
use Rattle.sb_text.specs.Tokens.{Lexemes}
use Rattle.sb_base.specs.Names.{is_name_of}
use Rattle.sb_text.specs.declared.refusals.TokenFault.{TokenFault}
use Rattle.sb_text.specs.declared.refusals.WordFault.TheVariants.{Broken, Extra, Missing, Unquoted}

-- a directory or a key, whose name ends the line
abbrev named : (List ℕ → StartLine) → List ℕ × Lexemes → Result StartLine (TokenFault ScriptKind)
named line name = end_at (UnknownWord Extra) (UnknownWord Broken) name.1 >>= λ end. Ok (line name.0)

dir_read : Texts → (name : List ℕ) → is_text name ≡ true → is_name_of name ≡ true → dir (placed (string_token name ∷ [])) ≡ Ok (Dir name)
unfolding dir
dir_read law name t h = ap (λ (r : Read (List ℕ) ScriptKind). r >>= named Dir) (name_read law (UnknownWord Unquoted) (UnknownWord Missing) name [] t h)

key_read : Texts → (name : List ℕ) → is_text name ≡ true → is_name_of name ≡ true → key (placed (string_token name ∷ [])) ≡ Ok (Key name)
unfolding key
key_read law name t h = ap (λ (r : Read (List ℕ) ScriptKind). r >>= named Key) (name_read law (UnknownWord Unquoted) (UnknownWord Missing) name [] t h)

-- a file, whose attributes end the line
abbrev attributed : List ℕ → ℕ × Lexemes → Result StartLine (TokenFault ScriptKind)
attributed name attributes = end_at (UnknownWord Extra) (UnknownWord Broken) attributes.1 >>= λ end. Ok (File name attributes.0)

abbrev then_attributed : List ℕ × Lexemes → Result StartLine (TokenFault ScriptKind)
then_attributed name = number_within 0 most_32 BadNumber (UnknownWord Missing) name.1 >>= attributed name.0

pub few_attributes : (n : ℕ) → nat_lt n (2 ^ 32) ≡ true → nat_le n most_32 ≡ true
few_attributes n h = grind (arith, nat_tests)

file_read : Texts → (name : List ℕ) (attributes : ℕ) → is_text name ≡ true → is_name_of name ≡ true → nat_lt attributes (2 ^ 32) ≡ true
    → file (placed (string_token name ∷ number_token attributes ∷ [])) ≡ Ok (File name attributes)
unfolding file
file_read law name attributes t h k =
    let few = few_attributes attributes k in
    ap (λ (r : Read (List ℕ) ScriptKind). r >>= then_attributed) (name_read law (UnknownWord Unquoted) (UnknownWord Missing) name (number_token attributes ∷ []) t h)
    ∙ ap (λ (r : Read ℕ ScriptKind). r >>= attributed name)
    (within_read law 0 most_32 BadNumber (UnknownWord Missing) attributes [] (short_number attributes few) (at_most attributes few))

-- an event, whose initial state ends the line
abbrev begun : List ℕ → ℕ → ℕ × Lexemes → Result StartLine (TokenFault ScriptKind)
begun name kind initial = end_at (UnknownWord Extra) (UnknownWord Broken) initial.1 >>= λ end. Ok (Event name kind initial.0)

abbrev of_kind : List ℕ → ℕ × Lexemes → Result StartLine (TokenFault ScriptKind)
of_kind name kind = number_within 0 1 BadNumber (UnknownWord Missing) kind.1 >>= begun name kind.0

abbrev then_kind : List ℕ × Lexemes → Result StartLine (TokenFault ScriptKind)
then_kind name = number_within 0 1 BadNumber (UnknownWord Missing) name.1 >>= of_kind name.0

pub bit_number : (n : ℕ) → nat_le n 1 ≡ true → is_word64 n ≡ true
bit_number n h = grind (arith, nat_tests)

a_bit : (n : ℕ) → nat_le n 1 ≡ true → (nat_le 0 n && nat_le n 1) ≡ true
a_bit n h = grind (arith, nat_tests)

event_read : Texts → (name : List ℕ) (kind initial : ℕ) → is_text name ≡ true → is_name_of name ≡ true → nat_le kind 1 ≡ true → nat_le initial 1 ≡ true
    → event (placed (string_token name ∷ number_token kind ∷ number_token initial ∷ [])) ≡ Ok (Event name kind initial)
unfolding event
event_read law name kind initial t h k i =
    ap (λ (r : Read (List ℕ) ScriptKind). r >>= then_kind) (name_read law (UnknownWord Unquoted) (UnknownWord Missing) name (number_token kind ∷ number_token initial ∷ []) t h)
    ∙ ap (λ (r : Read ℕ ScriptKind). r >>= of_kind name)
    (within_read law 0 1 BadNumber (UnknownWord Missing) kind (number_token initial ∷ []) (bit_number kind k) (a_bit kind k))
    ∙ ap (λ (r : Read ℕ ScriptKind). r >>= begun name kind) (within_read law 0 1 BadNumber (UnknownWord Missing) initial [] (bit_number initial i) (a_bit initial i))

-- the reader of such opening lines
abbrev pub start_reader : StartLine → Lexemes → Result StartLine (TokenFault ScriptKind)
start_reader (Dir name) = dir
start_reader (File name attributes) = file
start_reader (Key name) = key
start_reader (Event name kind initial) = event

-- a sound opening line that can be written is read from its line
pub start_read : Texts → (line : StartLine) → is_start line ≡ true → is_writable_start line ≡ true
    → start_reader line (later (placed (start_tokens line))) ≡ Ok line
start_read law (Dir name) h w = dir_read law name w h
start_read law (File name attributes) h w = file_read law name attributes w (and_parts _ _ h).0 (and_parts _ _ h).1
start_read law (Key name) h w = key_read law name w h
start_read law (Event name kind initial) h w =
    let parts = and_parts (is_name_of name && nat_le kind 1) (nat_le initial 1) h in
    let first = and_parts (is_name_of name) (nat_le kind 1) parts.0 in
    event_read law name kind initial w first.0 first.1 parts.1
