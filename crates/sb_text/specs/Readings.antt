-- Reading a text line by line, with the first fault, its line and its column. K is the kind of fault, D what is read.
use Rattle.std.specs.Prelude.{ℕ, ◌+◌, nat_lt, Bool, true, false, List, [], ◌∷◌, Option, None, Some, Result, Ok, Err, if◌then◌else◌}
use Rattle.sb_text.specs.Lines.{NumberedLine, lines_of}
use Rattle.sb_text.specs.Columns.{column_at}
use Rattle.sb_text.specs.Steps.{◌>>=◌}
use Rattle.sb_text.specs.Utf8.{Place, not_utf8_place}
use Rattle.sb_base.specs.declared.refusals.Refused.{Refused}
use Rattle.sb_base.specs.declared.refusals.Refused.TheVariants.{Fault, NoMemory}
use Rattle.sb_text.specs.declared.refusals.LineFault.{LineFault}
use Rattle.sb_text.specs.declared.refusals.TokenFault.{TokenFault}
use Rattle.sb_text.specs.declared.columns.Layout.{Layout}

-- a fault on the line of this number and text, in the column of its place
abbrev pub fault_on : {K : Type 0} → Layout → ℕ → List ℕ → TokenFault K → LineFault K
fault_on layout number text fault = record { line = number; column = column_at layout text fault.place; kind = fault.kind }

-- what was read of a line, or its fault there
abbrev pub on_line : {A K : Type 0} → Layout → NumberedLine → Result A (TokenFault K) → Result A (LineFault K)
on_line layout line (Ok x) = Ok x
on_line layout line (Err fault) = Err (fault_on layout line.number line.text fault)

-- why a line is refused, with its number and the column
abbrev pub refused_on : {K : Type 0} → Layout → ℕ → List ℕ → Refused (TokenFault K) → Refused (LineFault K)
refused_on layout number text (Fault fault) = Fault (fault_on layout number text fault)
refused_on layout number text NoMemory = NoMemory

-- a fault that has no place in its line
abbrev pub without_column : {K : Type 0} → ℕ → K → LineFault K
without_column line kind = record { line = line; column = 0; kind = kind }

-- A grammar of texts: how its lines are laid out; the version that the first line with tokens names, by its text, and the fault if there is no such
-- line; what is read before any further line; and what another line of a text of this version adds to what was read so far
pub record Grammar (D K : Type 0) : Type 0 where
  pub layout : Layout
  pub version : List ℕ → Result ℕ (TokenFault K)
  pub no_version : K
  pub start : D
  pub add : ℕ → D → NumberedLine → Result D (TokenFault K)

-- what was read so far, and what each of these lines adds to it
unfoldable pub read_lines : {D K : Type 0} → Grammar D K → ℕ → D → List NumberedLine → Result D (LineFault K)
read_lines grammar version sofar [] = Ok sofar
read_lines grammar version sofar (line ∷ lines) =
    on_line grammar.layout line (grammar.add version sofar line) >>= λ more. read_lines grammar version more lines

-- what is read of the lines with tokens; if there is none, the version is missing on line 1
abbrev pub read_by : {D K : Type 0} → Grammar D K → List NumberedLine → Result D (LineFault K)
read_by grammar [] = Err (without_column 1 grammar.no_version)
read_by grammar (first ∷ lines) =
    on_line grammar.layout first (grammar.version first.text) >>= λ version. read_lines grammar version grammar.start lines

-- what is read if there is no place at which a text is not UTF-8; if there is one, this fault comes before all others
abbrev pub where_utf8 : {D K : Type 0} → K → Option Place → Result D (LineFault K) → Result D (LineFault K)
where_utf8 not_utf8 None read = read
where_utf8 not_utf8 (Some place) read = Err (record { line = place.line; column = place.column; kind = not_utf8 })

-- what is read of a text that has to be UTF-8
abbrev pub read_text : {D K : Type 0} → K → Grammar D K → List ℕ → Result D (LineFault K)
read_text not_utf8 grammar text = where_utf8 not_utf8 (not_utf8_place text) (read_by grammar (lines_of text))

-- there is a line
abbrev pub is_some_line : List NumberedLine → Bool
is_some_line [] = false
is_some_line (line ∷ lines) = true

-- a line with another number
abbrev pub renumbered_line : (ℕ → ℕ) → NumberedLine → NumberedLine
renumbered_line f line = record { number = f line.number; text = line.text }

-- what was read, with numbers of lines changed in it, or a fault on a line with another number
abbrev pub renumbered : {A K : Type 0} → (ℕ → ℕ) → (A → A) → Result A (LineFault K) → Result A (LineFault K)
renumbered f moved (Ok x) = Ok (moved x)
renumbered f moved (Err fault) = Err (record { line = f fault.line; column = fault.column; kind = fault.kind })

-- the number of a line if one is put in after the first n
abbrev pub behind : ℕ → ℕ → ℕ
behind n k = if nat_lt n k then k + 1 else k
