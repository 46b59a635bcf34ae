-- Text without a surrogate alone is the text of characters.
use Rattle.std.specs.Bool.{beq}
use Rattle.std.specs.List.{list_all}
use Rattle.std.proofs.Common.{◌≡◌, ◌∙◌, ℕ, ◌+◌, ◌-◌, ◌*◌, ◌/◌, ◌%◌, Bool, true, false, not, cond, List, [], ◌∷◌, ◌++◌, ◌&&◌, ◌||◌, ltb, refl, sym, arith}
use Rattle.std.proofs.lemmas.Bool.{and_parts, false≢true, not-true}
use Rattle.std.proofs.lemmas.Bool.Decides.{nat_tests}
use Rattle.sb_base.specs.Wide.{is_unit, utf16_of}
use Rattle.sb_base.specs.Surrogates.{is_high, is_low, is_surrogate, is_paired, is_paired_after, is_character, CharactersArePaired, PairedUnitsAreCharacters}

-- no unit is both halves
not_both : (u : ℕ) → is_high u ≡ true → is_low u ≡ false
not_both u h = grind (arith, nat_tests)

one_step : (high low : Bool) → (beq low false && not high) ≡ not (high || low)
one_step true true = refl
one_step true false = refl
one_step false true = refl
one_step false false = refl

two_steps : (high low next_high next_low one two : Bool) (after : Bool → Bool) → (high ≡ true → low ≡ false) → (next_high ≡ true → next_low ≡ false)
    → after false ≡ two → (beq next_low false && after next_high) ≡ one
    → (beq low false && (beq next_low high && after next_high)) ≡ cond (high && next_low) two (not (high || low) && one)
two_steps true true next_high next_low one two after a b e f = absurd (false≢true (sym (a refl)))
two_steps true false true true one two after a b e f = absurd (false≢true (sym (b refl)))
two_steps true false false true one two after a b e f = e
two_steps true false next_high false one two after a b e f = refl
two_steps false true next_high next_low one two after a b e f = refl
two_steps false false next_high next_low one two after a b e f = f

-- the walk finds what the definition says
pub paired_after : (us : List ℕ) → is_paired_after false us ≡ is_paired us
paired_after [] = refl
paired_after (u ∷ []) = one_step (is_high u) (is_low u)
paired_after (u ∷ v ∷ us) =
    two_steps (is_high u) (is_low u) (is_high v) (is_low v) (is_paired (v ∷ us)) (is_paired us) (λ high. is_paired_after high us)
    (not_both u) (not_both v) (paired_after us) (paired_after (v ∷ us))

one_unit : (c : ℕ) (us : List ℕ) → is_high c ≡ false → is_low c ≡ false → is_paired_after false us ≡ true → is_paired_after false (c ∷ us) ≡ true
one_unit c us h l e = (λ i. beq (l i) false && is_paired_after (h i) us) ∙ e

two_units : (a b : ℕ) (us : List ℕ) → is_high a ≡ true → is_low a ≡ false → is_high b ≡ false → is_low b ≡ true → is_paired_after false us ≡ true
    → is_paired_after false (a ∷ b ∷ us) ≡ true
two_units a b us ha la hb lb e = (λ i. beq (la i) false && (beq (lb i) (ha i) && is_paired_after (hb i) us)) ∙ e

paired_step : (c : ℕ) (us : List ℕ) (small : Bool) → ltb c 0x1_0000 ≡ small → is_character c ≡ true → is_paired_after false us ≡ true
    → is_paired_after false (cond small (c ∷ []) ((0xD800 + (c - 0x1_0000) / 0x400) ∷ (0xDC00 + (c - 0x1_0000) % 0x400) ∷ []) ++ us) ≡ true
paired_step c us true s k e = one_unit c us (grind (arith, nat_tests)) (grind (arith, nat_tests)) e
paired_step c us false s k e =
    two_units (0xD800 + (c - 0x1_0000) / 0x400) (0xDC00 + (c - 0x1_0000) % 0x400) us
    (grind (arith, nat_tests)) (grind (arith, nat_tests)) (grind (arith, nat_tests)) (grind (arith, nat_tests)) e

characters_after : (cs : List ℕ) → list_all is_character cs ≡ true → is_paired_after false (utf16_of cs) ≡ true
characters_after [] h = refl
characters_after (c ∷ cs) h =
    let p = and_parts (is_character c) (list_all is_character cs) h in
    paired_step c (utf16_of cs) (ltb c 0x1_0000) refl p.0 (characters_after cs p.1)

pub characters_are_paired : CharactersArePaired
characters_are_paired cs h = sym (paired_after (utf16_of cs)) ∙ characters_after cs h

-- the characters that units spell
abbrev Spelled : List ℕ → Type 0
Spelled us = (cs : List ℕ) × (list_all is_character cs ≡ true) × (utf16_of cs ≡ us)

-- a unit that is no surrogate is a character
lone : (u : ℕ) (us : List ℕ) → is_unit u ≡ true → is_surrogate u ≡ false → Spelled us → Spelled (u ∷ us)
lone u us b s spelled =
    let small : ltb u 0x1_0000 ≡ true = grind (arith, nat_tests) in
    let character : is_character u ≡ true = grind (arith, nat_tests) in (
      u ∷ spelled.0,
      (λ i. character i && spelled.1 i),
      (λ i. cond (small i) (u ∷ []) ((0xD800 + (u - 0x1_0000) / 0x400) ∷ (0xDC00 + (u - 0x1_0000) % 0x400) ∷ []) ++ spelled.2 i),
    )

-- two halves are a character
pair : (u v : ℕ) (us : List ℕ) → is_high u ≡ true → is_low v ≡ true → Spelled us → Spelled (u ∷ v ∷ us)
pair u v us h l spelled =
    let c = 0x1_0000 + (u - 0xD800) * 0x400 + (v - 0xDC00) in
    let large : ltb c 0x1_0000 ≡ false = grind (arith, nat_tests) in
    let character : is_character c ≡ true = grind (arith, nat_tests) in
    let first : 0xD800 + (c - 0x1_0000) / 0x400 ≡ u = grind (arith, nat_tests) in
    let second : 0xDC00 + (c - 0x1_0000) % 0x400 ≡ v = grind (arith, nat_tests) in (
      c ∷ spelled.0,
      (λ i. character i && spelled.1 i),
      (λ i. cond (large i) (c ∷ []) ((0xD800 + (c - 0x1_0000) / 0x400) ∷ (0xDC00 + (c - 0x1_0000) % 0x400) ∷ []) ++ spelled.2 i)
          ∙ (λ i. first i ∷ second i ∷ us),
    )

-- a pair, or a unit that is no surrogate
spelled_step : (u v : ℕ) (us : List ℕ) (is_pair : Bool) → (is_high u && is_low v) ≡ is_pair → is_unit u ≡ true
    → cond is_pair (is_paired us) (not (is_surrogate u) && is_paired (v ∷ us)) ≡ true
    → (is_paired us ≡ true → Spelled us) → (is_paired (v ∷ us) ≡ true → Spelled (v ∷ us)) → Spelled (u ∷ v ∷ us)
spelled_step u v us true e b h two one = let p = and_parts (is_high u) (is_low v) e in pair u v us p.0 p.1 (two h)
spelled_step u v us false e b h two one =
    let p = and_parts (not (is_surrogate u)) (is_paired (v ∷ us)) h in lone u (v ∷ us) b (not-true (is_surrogate u) p.0) (one p.1)

pub paired_units_are_characters : PairedUnitsAreCharacters
paired_units_are_characters [] b h = ([], refl, refl)
paired_units_are_characters (u ∷ []) b h =
    lone u [] (and_parts (is_unit u) true b).0 (not-true (is_surrogate u) h) ([], refl, refl)
paired_units_are_characters (u ∷ v ∷ us) b h =
    let units = and_parts (is_unit u) (is_unit v && list_all is_unit us) b in
    let later = (and_parts (is_unit v) (list_all is_unit us) units.1).1 in
    spelled_step u v us (is_high u && is_low v) refl units.0 h (paired_units_are_characters us later) (paired_units_are_characters (v ∷ us) units.1)
