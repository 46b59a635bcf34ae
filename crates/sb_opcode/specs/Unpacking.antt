-- Which opcodes words are the packing of. A code is seen as these; no other definition depends on how they are found.
use Rattle.std.specs.Prelude.{◌≡◌, ◌↔◌, ℕ, ◌/◌, ◌%◌, ◌^◌, Bool, true, ◌&&◌, ◌==◌, nat_lt, nat_le, zero, suc, List, [], ◌∷◌, ◌++◌, length, take, drop, map, Option, None, Some, option_map, option_and_then, is_some, unwrap_or, not, if◌then◌else◌}
use Rattle.std.specs.List.{list_all}
use Rattle.sb_rule.specs.declared.cells.Cell.{Cell}
use Rattle.sb_rule.specs.declared.cells.Cell.TheVariants.{Lit, One, Any}
use Rattle.sb_rule.specs.declared.actions.Action.{Action}
use Rattle.sb_rule.specs.declared.actions.Action.TheVariants as action
use Rattle.sb_opcode.specs.Options.{options_of}
use Rattle.sb_opcode.specs.Packing.{record_of, packed, is_sized}
use Rattle.sb_opcode.specs.Opcodes.{Opcode}
use Rattle.sb_opcode.specs.Opcodes.{OpKind}
use Rattle.sb_opcode.specs.Opcodes.{False, True, Num, Range, Mask, Text, Act}
use Rattle.sb_opcode.specs.declared.opcodes.Seek.{Seek}
use Rattle.sb_opcode.specs.declared.opcodes.Seek.TheVariants.{Skip, Forward, ToEnd}

-- the parts of a first word
abbrev pub kind_part : ℕ → ℕ
kind_part head = head % 2 ^ 8

abbrev pub options_part : ℕ → ℕ
options_part head = head / 2 ^ 8 % 2 ^ 8

abbrev pub seek_part : ℕ → ℕ
seek_part head = head / 2 ^ 16 % 2 ^ 16

abbrev pub skip_part : ℕ → ℕ
skip_part head = head / 2 ^ 32

-- the seek of a first word
abbrev pub seek_in : ℕ → Option Seek
seek_in head =
    if seek_part head == 0 && nat_lt (skip_part head) (2 ^ 16) then Some (Skip (skip_part head))
    else (if seek_part head == 1 && skip_part head == 0 then Some Forward
    else (if seek_part head == 2 && skip_part head == 0 then Some ToEnd
    else None))

-- a word of a cell, and the cell
abbrev pub is_cell_word : ℕ → Bool
is_cell_word word = nat_le word 65537

abbrev pub cell_of : ℕ → Cell
cell_of word = if nat_lt word 65536 then Lit word else (if word == 65536 then One else Any)

abbrev pub action_of : ℕ → Option Action
action_of n =
    if n == 0 then Some action.Allow
    else (if n == 1 then Some action.Deny
    else (if n == 2 then Some action.Alarm
    else (if n == 3 then Some action.Fake
    else (if n == 4 then Some action.ReadOnly
    else None))))

-- what a record without cells does
abbrev pub plain_kind : ℕ → ℕ → ℕ → Option OpKind
plain_kind kind first second =
    if kind == 0 && first == 0 && second == 0 then Some False
    else (if kind == 1 && first == 0 && second == 0 then Some True
    else (if kind == 2 && second == 0 then Some (Num first)
    else (if kind == 3 then Some (Range first second)
    else (if kind == 4 && second == 0 then Some (Mask first)
    else (if kind == 6 && nat_lt second (2 ^ 32) then option_map (λ action. Act action second) (action_of first)
    else None)))))

-- an opcode with the options of a first word
abbrev pub opcode_in : ℕ → ℕ → OpKind → Opcode
opcode_in head param kind = record { kind = kind; param = param; options = options_of (options_part head) }

-- a record without cells, and the words after it
abbrev pub plain_record : ℕ → ℕ → ℕ → ℕ → List ℕ → Option (Opcode × List ℕ)
plain_record head param first second later =
    if head / 2 ^ 16 == 0 then option_map (λ kind. (opcode_in head param kind, later)) (plain_kind (kind_part head) first second)
    else None

-- a record with this many cells, and the words after it
abbrev pub text_record : ℕ → ℕ → ℕ → ℕ → List ℕ → Option (Opcode × List ℕ)
text_record head param count second later =
    if second == 0 && nat_le count (length later) && list_all is_cell_word (take count later)
    then option_map (λ seek. (opcode_in head param (Text (map cell_of (take count later)) seek), drop count later)) (seek_in head)
    else None

-- the first opcode and the words after its record, if the words begin with a record
abbrev pub first_record : List ℕ → Option (Opcode × List ℕ)
first_record (head ∷ param ∷ first ∷ second ∷ later) =
    if not (nat_lt param (2 ^ 32)) then None
    else (if kind_part head == 5 then text_record head param first second later
    else plain_record head param first second later)
first_record _ = None

-- the opcodes of words that are records, at most this many of them
abbrev pub unpacked_within : ℕ → List ℕ → Option (List Opcode)
unpacked_within n [] = Some []
unpacked_within zero (word ∷ words) = None
unpacked_within (suc n) (word ∷ words) =
    option_and_then (λ first. option_map (λ ops. first.0 ∷ ops) (unpacked_within n first.1)) (first_record (word ∷ words))

-- the opcodes whose packing the words are, if there are such opcodes; a record has a word at least
abbrev pub unpacked : List ℕ → Option (List Opcode)
unpacked words = unpacked_within (length words) words

-- words that are the packing of some opcodes
abbrev pub is_packed : List ℕ → Bool
is_packed words = is_some (unpacked words)

-- the opcodes of words that are a packing
abbrev pub opcodes_of : List ℕ → List Opcode
opcodes_of words = unwrap_or (unpacked words) []

-- words unpack to opcodes exactly if they are the packing of these
abbrev pub PackingComesBack : Type 0
PackingComesBack = (words : List ℕ) (ops : List Opcode)
    → (unpacked words ≡ Some ops) ↔ ((packed ops ≡ words) × (list_all is_sized ops ≡ true))

-- one record is known from its own words, whatever follows
abbrev pub RecordsComeBack : Type 0
RecordsComeBack = (op : Opcode) (later : List ℕ) → is_sized op ≡ true → first_record (record_of op ++ later) ≡ Some (op, later)

-- What is at the front of words that are known to be a packing. Nothing is tested again.

abbrev pub seek_known : ℕ → Seek
seek_known head =
    if seek_part head == 0 then Skip (skip_part head % 2 ^ 16)
    else (if seek_part head == 1 then Forward
    else ToEnd)

abbrev pub action_known : ℕ → Action
action_known n =
    if n == 0 then action.Allow
    else (if n == 1 then action.Deny
    else (if n == 2 then action.Alarm
    else (if n == 3 then action.Fake
    else action.ReadOnly)))

abbrev pub kind_known : ℕ → ℕ → ℕ → OpKind
kind_known kind first second =
    if kind == 0 then False
    else (if kind == 1 then True
    else (if kind == 2 then Num first
    else (if kind == 3 then Range first second
    else (if kind == 4 then Mask first
    else Act (action_known first) (second % 2 ^ 32)))))

-- an opcode with the options of a first word and this parameter
abbrev pub opcode_known : ℕ → ℕ → OpKind → Opcode
opcode_known head param kind = record { kind = kind; param = param % 2 ^ 32; options = options_of (options_part head) }

-- the words after a record: past its cells, if it has some
abbrev pub after_known : ℕ → ℕ → List ℕ → List ℕ
after_known head first later = if kind_part head == 5 then drop first later else later

-- what the first opcode does
abbrev pub does_known : ℕ → ℕ → ℕ → List ℕ → OpKind
does_known head first second later =
    if kind_part head == 5 then Text (map cell_of (take first later)) (seek_known head)
    else kind_known (kind_part head) first second

-- the first opcode and the words after it
abbrev pub first_known : List ℕ → Option (Opcode × List ℕ)
first_known (head ∷ param ∷ first ∷ second ∷ later) =
    Some (opcode_known head param (does_known head first second later), after_known head first later)
first_known _ = None

-- whether the first opcode is an action, of which the kind is the only one above that of text opcodes, and the words after it
abbrev pub passed_known : List ℕ → Option (Bool × List ℕ)
passed_known (head ∷ param ∷ first ∷ second ∷ later) = Some (nat_lt 5 (kind_part head), after_known head first later)
passed_known _ = None
