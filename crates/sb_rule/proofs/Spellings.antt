-- Cells that may be spelled, and the texts that spell them.
use Rattle.std.specs.Prelude.{Option, None, Some, not}
use Rattle.std.proofs.Common.{◌≡◌, ◌∙◌, ℕ, ◌+◌, Bool, true, false, cond, List, [], ◌∷◌, ◌++◌, ◌&&◌, eqb, refl, ap, sym}
use Rattle.std.proofs.lemmas.Bool.{and_parts, eqb-true, false≢true, not-true}
use Rattle.sb_rule.specs.PatternReading.{cell_of, cells_of, text_of, begins, star_fault, begins_with_one, begins_wild, may_precede, is_spellable}
use Rattle.sb_rule.specs.declared.cells.Cell.{Cell}
use Rattle.sb_rule.specs.declared.cells.Cell.TheVariants.{Lit, One, Any}
use Rattle.sb_rule.specs.declared.pattern_faults.PatternFault.{PatternFault}
use Rattle.sb_rule.specs.declared.pattern_faults.PatternFault.TheVariants.{DoubleStar, StarQuestion}

abbrev is_none : Option PatternFault → Bool
is_none None = true
is_none (Some fault) = false

-- a unit that begins no `/?` is a cell of its own
cells_step : (u : ℕ) (us : List ℕ) → (eqb u 47 && begins 63 us) ≡ false → cells_of (u ∷ us) ≡ cell_of u ∷ cells_of us
cells_step u [] h = refl
cells_step u (v ∷ us) h = ap (λ b. cond b (Lit 63 ∷ cells_of us) (cell_of u ∷ cells_of (v ∷ us))) h

literal : (u : ℕ) → eqb u 42 ≡ false → eqb u 63 ≡ false → cell_of u ≡ Lit u
literal u s q = λ i. cond (s i) Any (cond (q i) One (Lit u))

-- the spelling begins with `?` if the cells do
begins_question : (cells : List Cell) → begins 63 (text_of cells) ≡ begins_with_one cells
begins_question [] = refl
begins_question (One ∷ cells) = refl
begins_question (Any ∷ cells) = refl
begins_question (Lit u ∷ cells) = by (eqb u 63) refl
  where
    by : (b : Bool) → eqb u 63 ≡ b → begins 63 (cond b (47 ∷ 63 ∷ []) (u ∷ []) ++ text_of cells) ≡ false
    by true h = refl
    by false h = h

-- a literal that may be spelled is no `*`
no_star : (u : ℕ) (later : List Cell) → is_spellable (Lit u ∷ later) ≡ true → eqb u 42 ≡ false
no_star u later h = not-true (eqb u 42) (and_parts (not (eqb u 42)) _ (and_parts (may_precede (Lit u) later) (is_spellable later) h).0).0

-- a literal `/` does not come before `?`
no_slash : (u : ℕ) (later : List Cell) → is_spellable (Lit u ∷ later) ≡ true → (eqb u 47 && begins 63 (text_of later)) ≡ false
no_slash u later h =
    ap (λ b. eqb u 47 && b) (begins_question later)
    ∙ not-true (eqb u 47 && begins_with_one later) (and_parts (not (eqb u 42)) _ (and_parts (may_precede (Lit u) later) (is_spellable later) h).0).1

begins_star : (cells : List Cell) → is_spellable cells ≡ true → begins_wild cells ≡ false → begins 42 (text_of cells) ≡ false
begins_star [] h w = refl
begins_star (One ∷ cells) h w = absurd (false≢true (sym w))
begins_star (Any ∷ cells) h w = absurd (false≢true (sym w))
begins_star (Lit u ∷ cells) h w = by (eqb u 63)
  where
    by : (b : Bool) → begins 42 (cond b (47 ∷ 63 ∷ []) (u ∷ []) ++ text_of cells) ≡ false
    by true = refl
    by false = no_star u cells h

not_one : (cells : List Cell) → begins_wild cells ≡ false → begins_with_one cells ≡ false
not_one [] w = refl
not_one (One ∷ cells) w = w
not_one (Any ∷ cells) w = refl
not_one (Lit u ∷ cells) w = refl

-- the spelling has no `*` before `*` or `?`
pub spelling_faultless : (cells : List Cell) (n : ℕ) → is_spellable cells ≡ true → star_fault n (text_of cells) ≡ None
spelling_faultless [] n h = refl
spelling_faultless (One ∷ later) n h = spelling_faultless later (n + 1) h
spelling_faultless (Any ∷ later) n h =
    let p = and_parts (not (begins_wild later)) (is_spellable later) h in
    let w = not-true (begins_wild later) p.0 in
    let star = begins_star later p.1 w in
    let question = begins_question later ∙ not_one later w in
    (λ i. cond (star i) (Some (DoubleStar n)) (cond (question i) (Some (StarQuestion n)) (star_fault (n + 1) (text_of later))))
    ∙ spelling_faultless later (n + 1) p.1
spelling_faultless (Lit u ∷ later) n h =
    let rest = (and_parts (may_precede (Lit u) later) (is_spellable later) h).1 in
    by (eqb u 63) (spelling_faultless later (n + 1 + 1) rest) (spelling_faultless later (n + 1) rest)
  where
    by : (b : Bool) → star_fault (n + 1 + 1) (text_of later) ≡ None → star_fault (n + 1) (text_of later) ≡ None
        → star_fault n (cond b (47 ∷ 63 ∷ []) (u ∷ []) ++ text_of later) ≡ None
    by true two one = two
    by false two one =
        let none = no_star u later h in
        let us = text_of later in
        (λ i. cond (none i && begins 42 us) (Some (DoubleStar n)) (cond (none i && begins 63 us) (Some (StarQuestion n)) (star_fault (n + 1) us))) ∙ one

-- the spelling is read as the cells
pub spelling_read : (cells : List Cell) → is_spellable cells ≡ true → cells_of (text_of cells) ≡ cells
spelling_read [] h = refl
spelling_read (One ∷ later) h = cells_step 63 (text_of later) refl ∙ ap (λ l. One ∷ l) (spelling_read later h)
spelling_read (Any ∷ later) h =
    cells_step 42 (text_of later) refl ∙ ap (λ l. Any ∷ l) (spelling_read later (and_parts (not (begins_wild later)) (is_spellable later) h).1)
spelling_read (Lit u ∷ later) h = by (eqb u 63) refl (spelling_read later (and_parts (may_precede (Lit u) later) (is_spellable later) h).1)
  where
    by : (b : Bool) → eqb u 63 ≡ b → cells_of (text_of later) ≡ later → cells_of (cond b (47 ∷ 63 ∷ []) (u ∷ []) ++ text_of later) ≡ Lit u ∷ later
    by true q rest = λ i. Lit (sym (eqb-true u 63 q) i) ∷ rest i
    by false q rest = cells_step u (text_of later) (no_slash u later h) ∙ (λ i. literal u (no_star u later h) q i ∷ rest i)

-- the first cell of a text is that of its first unit, or a literal
first_wild : (v : ℕ) (us : List ℕ) → eqb v 42 ≡ false → eqb v 63 ≡ false → begins_wild (cells_of (v ∷ us)) ≡ false
first_wild v [] s q = ap (λ c. begins_wild (c ∷ [])) (literal v s q)
first_wild v (w ∷ us) s q = by (eqb v 47 && eqb w 63)
  where
    by : (b : Bool) → begins_wild (cond b (Lit 63 ∷ cells_of us) (cell_of v ∷ cells_of (w ∷ us))) ≡ false
    by true = refl
    by false = ap (λ c. begins_wild (c ∷ cells_of (w ∷ us))) (literal v s q)

one_cell : (v : ℕ) (cells : List Cell) → eqb v 63 ≡ false → begins_with_one (cell_of v ∷ cells) ≡ false
one_cell v cells q = by (eqb v 42) (eqb v 63) q
  where
    by : (s b : Bool) → b ≡ false → begins_with_one (cond s Any (cond b One (Lit v)) ∷ cells) ≡ false
    by true b e = refl
    by false true e = absurd (false≢true (sym e))
    by false false e = refl

first_one : (v : ℕ) (us : List ℕ) → eqb v 63 ≡ false → begins_with_one (cells_of (v ∷ us)) ≡ false
first_one v [] q = one_cell v [] q
first_one v (w ∷ us) q = by (eqb v 47 && eqb w 63)
  where
    by : (b : Bool) → begins_with_one (cond b (Lit 63 ∷ cells_of us) (cell_of v ∷ cells_of (w ∷ us))) ≡ false
    by true = refl
    by false = one_cell v (cells_of (w ∷ us)) q

-- without its first unit a text has no fault if it had none
fault_later : (n u : ℕ) (us : List ℕ) → star_fault n (u ∷ us) ≡ None → star_fault (n + 1) us ≡ None
fault_later n u us e = by (eqb u 42 && begins 42 us) (eqb u 42 && begins 63 us) e
  where
    by : (d q : Bool) → cond d (Some (DoubleStar n)) (cond q (Some (StarQuestion n)) (star_fault (n + 1) us)) ≡ None → star_fault (n + 1) us ≡ None
    by true q h = absurd (false≢true (ap is_none h))
    by false true h = absurd (false≢true (ap is_none h))
    by false false h = h

-- after a `*` comes neither `*` nor `?`
star_alone : (n u v : ℕ) (us : List ℕ) → eqb u 42 ≡ true → star_fault n (u ∷ v ∷ us) ≡ None → (eqb v 42 ≡ false) × (eqb v 63 ≡ false)
star_alone n u v us s e =
    by (eqb v 42) (eqb v 63) refl refl
    ((λ i. cond (sym s i && eqb v 42) (Some (DoubleStar n)) (cond (sym s i && eqb v 63) (Some (StarQuestion n)) (star_fault (n + 1) (v ∷ us)))) ∙ e)
  where
    by : (d q : Bool) → eqb v 42 ≡ d → eqb v 63 ≡ q → cond d (Some (DoubleStar n)) (cond q (Some (StarQuestion n)) (star_fault (n + 1) (v ∷ us))) ≡ None
        → (eqb v 42 ≡ false) × (eqb v 63 ≡ false)
    by true q f g h = absurd (false≢true (ap is_none h))
    by false true f g h = absurd (false≢true (ap is_none h))
    by false false f g h = (f, g)

-- the cell of a unit may come before cells
unit_precedes : (u : ℕ) (later : List Cell) → (eqb u 42 ≡ true → begins_wild later ≡ false) → (eqb u 47 ≡ true → begins_with_one later ≡ false)
    → may_precede (cell_of u) later ≡ true
unit_precedes u later wild one = by (eqb u 42) (eqb u 63) (eqb u 47) refl refl
  where
    by : (s q l : Bool) → eqb u 42 ≡ s → eqb u 47 ≡ l → may_precede (cond s Any (cond q One (Lit u))) later ≡ true
    by true q l f g = ap not (wild f)
    by false true l f g = refl
    by false false true f g = λ i. not (f i) && not (g i && one g i)
    by false false false f g = λ i. not (f i) && not (g i && begins_with_one later)

-- the cells of a text without a fault may be spelled
pub text_spellable : (n : ℕ) (text : List ℕ) → star_fault n text ≡ None → is_spellable (cells_of text) ≡ true
text_spellable n [] e = refl
text_spellable n (u ∷ []) e = ap (λ b. b && true) (unit_precedes u [] (λ s. refl) (λ s. refl))
text_spellable n (u ∷ v ∷ us) e =
    let later = fault_later n u (v ∷ us) e in
    by (eqb u 47 && eqb v 63) refl (text_spellable (n + 1 + 1) us (fault_later (n + 1) v us later)) (text_spellable (n + 1) (v ∷ us) later)
  where
    by : (b : Bool) → (eqb u 47 && eqb v 63) ≡ b → is_spellable (cells_of us) ≡ true → is_spellable (cells_of (v ∷ us)) ≡ true
        → is_spellable (cond b (Lit 63 ∷ cells_of us) (cell_of u ∷ cells_of (v ∷ us))) ≡ true
    by true h two one = two
    by false h two rest =
        let wild : eqb u 42 ≡ true → begins_wild (cells_of (v ∷ us)) ≡ false = λ s. let p = star_alone n u v us s e in first_wild v us p.0 p.1 in
        let one : eqb u 47 ≡ true → begins_with_one (cells_of (v ∷ us)) ≡ false = λ s. first_one v us (ap (λ b. b && eqb v 63) (sym s) ∙ h) in
        λ i. unit_precedes u (cells_of (v ∷ us)) wild one i && rest i
