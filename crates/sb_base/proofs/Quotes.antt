-- Different units are quoted differently: the first unit can be read back from the quoted text.
use Rattle.std.proofs.Common.{◌≡◌, ◌∙◌, ℕ, ◌+◌, ◌-◌, ◌*◌, ◌/◌, ◌%◌, ◌<◌, Bool, true, false, ltb, leb, eqb, cond, List, [], ◌∷◌, ◌++◌, ◌&&◌, ◌||◌, length, drop, get_or, append_assoc, refl, ap, sym, arith}
use Rattle.std.proofs.lemmas.Bool.{and_parts, false≢true}
use Rattle.std.proofs.lemmas.Bool.Decides.{nat_tests}
use Rattle.std.specs.List.{list_all, flat_map}
use Rattle.sb_base.specs.Quoting.{hex_digit, quoted_unit, QuotesDiffer}
use Rattle.sb_base.specs.Wide.{is_unit}

abbrev value : ℕ → ℕ
value c = cond (ltb c 58) (c - 48) (c - 87)

value_of_digit : (d : ℕ) → d < 16 → value (hex_digit d) ≡ d
value_of_digit d h = grind (arith, nat_tests)

-- the unit at the start of a quoted text
abbrev first_unit : List ℕ → ℕ
first_unit l =
    cond (eqb (get_or l 0 0) 92)
    (cond (eqb (get_or l 1 0) 117)
    (value (get_or l 2 0) * 4096 + value (get_or l 3 0) * 256 + value (get_or l 4 0) * 16 + value (get_or l 5 0))
    (get_or l 1 0))
    (get_or l 0 0)

abbrev written : ℕ → Bool → Bool → List ℕ
written u b1 b2 = cond b1 (92 ∷ u ∷ []) (cond b2 (u ∷ []) (92 ∷ 117 ∷ hex_digit (u / 4096) ∷ hex_digit (u / 256 % 16) ∷ hex_digit (u / 16 % 16) ∷ hex_digit (u % 16) ∷ []))

digits : (u : ℕ) → u < 65536 → value (hex_digit (u / 4096)) * 4096 + value (hex_digit (u / 256 % 16)) * 256 + value (hex_digit (u / 16 % 16)) * 16 + value (hex_digit (u % 16)) ≡ u
digits u h =
    let a = value_of_digit (u / 4096) (omega arith) in
    let b = value_of_digit (u / 256 % 16) (omega arith) in
    let c = value_of_digit (u / 16 % 16) (omega arith) in
    let d = value_of_digit (u % 16) (omega arith) in
    rw (a, b, c, d) (omega arith)

read_back_by : (u : ℕ) (s : List ℕ) (b1 b2 : Bool) → u < 65536 → (eqb u 34 || eqb u 92) ≡ b1 → (leb 32 u && leb u 126) ≡ b2 → first_unit (written u b1 b2 ++ s) ≡ u
read_back_by u s true b2 h e1 e2 = grind (arith, nat_tests)
read_back_by u s false true h e1 e2 = grind (arith, nat_tests)
read_back_by u s false false h e1 e2 = digits u h

read_back : (u : ℕ) (s : List ℕ) → u < 65536 → first_unit (quoted_unit u ++ s) ≡ u
read_back u s h = read_back_by u s (eqb u 34 || eqb u 92) (leb 32 u && leb u 126) h refl refl

-- no quoted unit begins with `"`
begins_by : (u : ℕ) (s : List ℕ) (b1 b2 : Bool) → (eqb u 34 || eqb u 92) ≡ b1 → (leb 32 u && leb u 126) ≡ b2 → eqb (get_or (written u b1 b2 ++ s) 0 0) 34 ≡ false
begins_by u s true b2 e1 e2 = refl
begins_by u s false true e1 e2 = grind (arith, nat_tests)
begins_by u s false false e1 e2 = refl

begins : (u : ℕ) (s : List ℕ) → eqb (get_or (quoted_unit u ++ s) 0 0) 34 ≡ false
begins u s = begins_by u s (eqb u 34 || eqb u 92) (leb 32 u && leb u 126) refl refl

below : (u : ℕ) → is_unit u ≡ true → u < 65536
below u h = grind (arith, nat_tests)

rest_of : (q s : List ℕ) → drop (length q) (q ++ s) ≡ s
rest_of [] s = refl
rest_of (x ∷ xs) s = rest_of xs s

-- what follows equal beginnings is equal
cancel : (u v : ℕ) (s t : List ℕ) → u ≡ v → quoted_unit u ++ s ≡ quoted_unit v ++ t → s ≡ t
cancel u v s t e h =
    sym (rest_of (quoted_unit u) s) ∙ ap (drop (length (quoted_unit u))) h ∙ ap (λ w. drop (length (quoted_unit w)) (quoted_unit v ++ t)) e ∙ rest_of (quoted_unit v) t

differ : (a b : List ℕ) → list_all is_unit a ≡ true → list_all is_unit b ≡ true → flat_map quoted_unit a ++ 34 ∷ [] ≡ flat_map quoted_unit b ++ 34 ∷ [] → a ≡ b
differ [] [] ha hb e = refl
differ [] (v ∷ vs) ha hb e =
    absurd (false≢true (sym (begins v (flat_map quoted_unit vs ++ 34 ∷ [])) ∙ ap (λ l. eqb (get_or l 0 0) 34) (sym (append_assoc (quoted_unit v) (flat_map quoted_unit vs) (34 ∷ [])) ∙ sym e)))
differ (u ∷ us) [] ha hb e =
    absurd (false≢true (sym (begins u (flat_map quoted_unit us ++ 34 ∷ [])) ∙ ap (λ l. eqb (get_or l 0 0) 34) (sym (append_assoc (quoted_unit u) (flat_map quoted_unit us) (34 ∷ [])) ∙ e)))
differ (u ∷ us) (v ∷ vs) ha hb e =
    let p = and_parts (is_unit u) (list_all is_unit us) ha in
    let q = and_parts (is_unit v) (list_all is_unit vs) hb in
    let s = flat_map quoted_unit us ++ 34 ∷ [] in
    let t = flat_map quoted_unit vs ++ 34 ∷ [] in
    let h : quoted_unit u ++ s ≡ quoted_unit v ++ t = sym (append_assoc (quoted_unit u) (flat_map quoted_unit us) (34 ∷ [])) ∙ e ∙ append_assoc (quoted_unit v) (flat_map quoted_unit vs) (34 ∷ []) in
    let same : u ≡ v = sym (read_back u s (below u p.0)) ∙ ap first_unit h ∙ read_back v t (below v q.0) in
    let later : us ≡ vs = differ us vs p.1 q.1 (cancel u v s t same h) in
    λ i. same i ∷ later i

pub quotes_differ : QuotesDiffer
quotes_differ a b ha hb e = differ a b ha hb (ap (drop 1) e)
