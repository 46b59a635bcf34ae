-- A channel's words after a step on one of them.
use Rattle.std.proofs.Common.{◌≡◌, ℕ, ◌+◌, ◌*◌, ◌<◌, ◌≢◌, Bool, true, false, cond, eqb, ltb, List, [], ◌∷◌, ◌++◌, length, set, get_or, sym, refl, ◌∙◌, arith, eq-eqb, ne_eqb, get_or-set_same, get_or-set_other}
use Rattle.std.proofs.lemmas.Bool.Decides.{nat_tests}
use Rattle.std.proofs.lemmas.Grind.{common_steps}
use native.Mathlib.Decide.{ℕ_discrete}
use Rattle.sb_actor.specs.Rule.{Row, row, AreIn, Owner}

abbrev pub put : ℕ → ℕ → Row → Row
put j x f i = cond (eqb i j) x (f i)

pub put_here : (j x : ℕ) (f : Row) (i : ℕ) → i ≡ j → put j x f i ≡ x
put_here j x f i e = rw (eq-eqb i j e)

pub put_else : (j x : ℕ) (f : Row) (i : ℕ) → i ≢ j → put j x f i ≡ f i
put_else j x f i n = rw (ne_eqb i j n)

abbrev pub upd : (ℕ → Owner) → ℕ → Owner → ℕ → Owner
upd owners c m d = cond (eqb d c) m (owners d)

pub upd_here : (owners : ℕ → Owner) (c : ℕ) (m : Owner) (d : ℕ) → d ≡ c → upd owners c m d ≡ m
upd_here owners c m d e = rw (eq-eqb d c e)

pub upd_else : (owners : ℕ → Owner) (c : ℕ) (m : Owner) (d : ℕ) → d ≢ c → upd owners c m d ≡ owners d
upd_else owners c m d n = rw (ne_eqb d c n)

else_at : (words : List ℕ) (w x c d j i : ℕ) → w ≡ c * 65 + j → j < 65 → d ≢ c → (b : Bool) → ltb i 65 ≡ b
    → cond b (get_or (set words w x) (d * 65 + i) 0) 0 ≡ cond b (get_or words (d * 65 + i) 0) 0
else_at words w x c d j i e h n true t =
    let inside : i < 65 = grind (arith, nat_tests) in
    let ne : d * 65 + i ≢ w = omega arith in
    get_or-set_other words w (d * 65 + i) x 0 ne
else_at words w x c d j i e h n false t = refl

pub row_else : (words : List ℕ) (w x c d j : ℕ) → w ≡ c * 65 + j → j < 65 → d ≢ c → row (set words w x) d ≡ row words d
row_else words w x c d j e h n k i = else_at words w x c d j i e h n (ltb i 65) refl k

here_at : (words : List ℕ) (w x c j i : ℕ) → w ≡ c * 65 + j → j < 65 → w < length words → (b : Bool) → ltb i 65 ≡ b → (s : Bool) → eqb i j ≡ s
    → cond b (get_or (set words w x) (c * 65 + i) 0) 0 ≡ cond s x (cond b (get_or words (c * 65 + i) 0) 0)
here_at words w x c j i e h l true t true u =
    let same : i ≡ j = grind (arith, nat_tests) in
    let is : c * 65 + i ≡ w = omega arith in
    rw (is, get_or-set_same words w x 0 l)
here_at words w x c j i e h l true t false u =
    let apart : i ≢ j = grind (arith, nat_tests) in
    let ne : c * 65 + i ≢ w = omega arith in
    get_or-set_other words w (c * 65 + i) x 0 ne
here_at words w x c j i e h l false t true u = absurd (grind (arith, nat_tests))
here_at words w x c j i e h l false t false u = refl

pub row_here : (words : List ℕ) (w x c j : ℕ) → w ≡ c * 65 + j → j < 65 → w < length words → row (set words w x) c ≡ put j x (row words c)
row_here words w x c j e h l k i = here_at words w x c j i e h l (ltb i 65) refl (eqb i j) refl k

-- what a step finds at word j of channel c
pub row_at : (words : List ℕ) (w c j : ℕ) → w ≡ c * 65 + j → j < 65 → row words c j ≡ get_or words w 0
row_at words w c j e h = let t : ltb j 65 ≡ true = grind (arith, nat_tests) in rw (t, e)

get_or-front : (xs ys : List ℕ) (i : ℕ) → i < length xs → get_or (xs ++ ys) i 0 ≡ get_or xs i 0
get_or-front xs ys i h = grind (arith, common_steps)

get_or-end : (xs : List ℕ) (x i : ℕ) → i ≡ length xs → get_or (xs ++ x ∷ []) i 0 ≡ x
get_or-end xs x i h = grind (arith, common_steps)

length-snoc : (xs : List ℕ) (x : ℕ) → length (xs ++ x ∷ []) ≡ length xs + 1
length-snoc xs x = grind (arith, common_steps)

stands_cases : (ws : List ℕ) (x j : ℕ) (f : Row) → AreIn ws (length ws) j f → (i : ℕ) → i < length ws + 1 → Dec (i ≡ length ws)
    → put (j + length ws) x f (j + i) ≡ get_or (ws ++ x ∷ []) i 0
stands_cases ws x j f s i h (yes e) = put_here (j + length ws) x f (j + i) (omega arith) ∙ sym (get_or-end ws x i e)
stands_cases ws x j f s i h (no n) =
    let l : i < length ws = omega arith in
    let ne : j + i ≢ j + length ws = omega arith in
    put_else (j + length ws) x f (j + i) ne ∙ s i l ∙ sym (get_or-front ws (x ∷ []) i l)

-- one more word is there
pub stands_more : (ws : List ℕ) (x j : ℕ) (f : Row) → AreIn ws (length ws) j f → AreIn (ws ++ x ∷ []) (length (ws ++ x ∷ [])) j (put (j + length ws) x f)
stands_more ws x j f s i h = let e = length-snoc ws x in stands_cases ws x j f s i (omega arith) (ℕ_discrete i (length ws))

-- a write elsewhere
pub stands_else : (ws : List ℕ) (n j : ℕ) (f : Row) (k x : ℕ) → k < j → AreIn ws n j f → AreIn ws n j (put k x f)
stands_else ws n j f k x h s i l = let ne : j + i ≢ k = omega arith in put_else k x f (j + i) ne ∙ s i l

-- a write to no word of the channel
else_row : (words : List ℕ) (w x c i : ℕ) → ((j : ℕ) → w ≡ c * 65 + j → j < 65 → ⊥) → (b : Bool) → ltb i 65 ≡ b
    → cond b (get_or (set words w x) (c * 65 + i) 0) 0 ≡ cond b (get_or words (c * 65 + i) 0) 0
else_row words w x c i no_word true t =
    let inside : i < 65 = grind (arith, nat_tests) in
    get_or-set_other words w (c * 65 + i) x 0 (λ e. no_word i (sym e) inside)
else_row words w x c i no_word false t = refl

pub row_at_else : (words : List ℕ) (w x c : ℕ) → ((j : ℕ) → w ≡ c * 65 + j → j < 65 → ⊥) → row (set words w x) c ≡ row words c
row_at_else words w x c no_word k i = else_row words w x c i no_word (ltb i 65) refl k
