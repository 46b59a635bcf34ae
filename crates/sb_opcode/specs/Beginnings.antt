-- Where the rules of a code begin in its words.
use Rattle.std.specs.Prelude.{◌≡◌, ◌<◌, ◌≤◌, ℕ, true, List, length, drop, slice_index_or}
use Rattle.sb_opcode.specs.Groups.{rules_of}
use Rattle.sb_opcode.specs.Unpacking.{is_packed, opcodes_of}

-- from this place on the words are the rules from this one on
abbrev pub IsBeginning : List ℕ → ℕ → ℕ → Type 0
IsBeginning words number place =
    (place ≤ length words) × (is_packed (drop place words) ≡ true) × (rules_of (opcodes_of (drop place words)) ≡ drop number (rules_of (opcodes_of words)))

-- each place is where the rule of its number begins
abbrev pub AreFirst : List ℕ → List ℕ → Type 0
AreFirst words places = (number : ℕ) (d : ℕ) → number < length places → IsBeginning words number (slice_index_or places number d)

-- there is a place for each rule
abbrev pub AreBeginnings : List ℕ → List ℕ → Type 0
AreBeginnings words places = (length places ≡ length (rules_of (opcodes_of words))) × AreFirst words places
