-- A string that is read byte by byte.
use Rattle.std.proofs.Common.{◌≡◌, ℕ, true, false, sym, ◌∙◌, ap, Option, None, Some, List, [], ◌∷◌, ◌++◌, append_assoc, if◌then◌else◌}
use Rattle.std.proofs.lemmas.List.{append-nil}
use Rattle.sb_transcript.specs.Strings.{is_closing, unit_of, escape_after, with_unit, unquoted_from}
use Rattle.sb_transcript.specs.declared.strings.Escape.{Escape}

at_byte : (e : Escape) (b : ℕ) (bs l units z : List ℕ) → units ++ unquoted_from e l ≡ z → l ≡ b ∷ bs
    → units ++ (if is_closing e b then [] else with_unit (unit_of e b) (unquoted_from (escape_after e b) bs)) ≡ z
at_byte e b bs l units z begun h = sym (ap (λ l. units ++ unquoted_from e l) h) ∙ begun

-- the units so far are all at a closing quote
pub closed : (e : Escape) (b : ℕ) (bs l units z : List ℕ) → units ++ unquoted_from e l ≡ z → l ≡ b ∷ bs → is_closing e b ≡ true → units ≡ z
closed e b bs l units z begun h k =
    sym (append-nil units) ∙ sym (ap (λ t. units ++ (if t then [] else with_unit (unit_of e b) (unquoted_from (escape_after e b) bs))) k) ∙ at_byte e b bs l units z begun h

joined : (o : Option ℕ) (units rest : List ℕ) → (units ++ with_unit o []) ++ rest ≡ units ++ with_unit o rest
joined None units rest = ap (λ us. us ++ rest) (append-nil units)
joined (Some unit) units rest = append_assoc units (unit ∷ []) rest

-- a byte that closes nothing
pub passed : (e : Escape) (b : ℕ) (bs l units z : List ℕ) → units ++ unquoted_from e l ≡ z → l ≡ b ∷ bs → is_closing e b ≡ false
    → (units ++ with_unit (unit_of e b) []) ++ unquoted_from (escape_after e b) bs ≡ z
passed e b bs l units z begun h k =
    joined (unit_of e b) units (unquoted_from (escape_after e b) bs)
    ∙ sym (ap (λ t. units ++ (if t then [] else with_unit (unit_of e b) (unquoted_from (escape_after e b) bs))) k) ∙ at_byte e b bs l units z begun h
