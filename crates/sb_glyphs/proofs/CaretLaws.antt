-- What is shown before a place, and the caret under it.
use Rattle.std.proofs.Common.{◌≡◌, ◌∙◌, ℕ, zero, suc, ◌+◌, ◌-◌, ◌≤◌, Bool, true, false, cond, ◌||◌, ◌&&◌, nat_lt, List, [], ◌∷◌, ◌++◌, length, take, drop, replicate, refl, sym, ap, ap₂, arith}
use Rattle.std.proofs.lemmas.Grind.{flat_map-append}
use Rattle.std.proofs.lemmas.List.{append_assoc, append-nil, take-append-drop, take-take}
use Rattle.std.proofs.lemmas.List.Folds.{list_all-append}
use Rattle.std.specs.List.{list_all, list_any}
use Rattle.sb_glyphs.specs.declared.glyphs.Glyph.{Glyph}
use Rattle.sb_glyphs.specs.Excerpts.{window_start, dots, width, blanks_under}
use Rattle.sb_glyphs.specs.Glyphs.{is_tab, shown, shown_glyph}
use Rattle.sb_glyphs.specs.Laws.{before_place, column_after, column_after_blanks, is_blank_byte, CaretsAreUnderTheirPlace, CaretsFollowTabs, ExcerptsHaveTheirPlace}

neither : (a b : Bool) → (a || b) ≡ false → (a ≡ false) × (b ≡ false)
neither true b h = search h
neither false b h = (refl, h)

-- without tabs there are only spaces
spaces_alone : (text : List ℕ) (glyphs : List Glyph) → list_any is_tab glyphs ≡ false
    → blanks_under text glyphs ≡ replicate (width (text ++ shown glyphs)) 32
spaces_alone text [] h = ap (λ t. replicate (width t) 32) (sym (append-nil text))
spaces_alone text (glyph ∷ glyphs) h =
    let parts = neither (is_tab glyph) (list_any is_tab glyphs) h in
    ap (λ b. cond b (replicate (width text) 32 ++ 9 ∷ blanks_under [] glyphs) (blanks_under (text ++ shown_glyph glyph) glyphs)) parts.0
    ∙ spaces_alone (text ++ shown_glyph glyph) glyphs parts.1
    ∙ ap (λ t. replicate (width t) 32) (append_assoc text (shown_glyph glyph) (shown glyphs))

pub carets_under : CaretsAreUnderTheirPlace
carets_under place glyphs h =
    ap (λ blanks. blanks ++ 94 ∷ []) (spaces_alone (dots (nat_lt 0 (window_start place (length glyphs)))) (before_place place glyphs) h)

one_further : (column n : ℕ) → suc column + n ≡ column + suc n
one_further column n = grind arith

none_further : (column : ℕ) → column ≡ column + 0
none_further column = grind arith

-- spaces lead on by their number
after_spaces : (next : ℕ → ℕ) (n column : ℕ) (bs : List ℕ) → column_after_blanks next column (replicate n 32 ++ bs) ≡ column_after_blanks next (column + n) bs
after_spaces next zero column bs = ap (λ c. column_after_blanks next c bs) (none_further column)
after_spaces next (suc n) column bs = after_spaces next n (suc column) bs ∙ ap (λ c. column_after_blanks next c bs) (one_further column n)

-- both ways of a test
by_tab : (next : ℕ → ℕ) (column : ℕ) (b : Bool) (bs cs : List ℕ) (m n : ℕ) → column_after_blanks next column bs ≡ m → column_after_blanks next column cs ≡ n
    → column_after_blanks next column (cond b bs cs) ≡ cond b m n
by_tab next column true bs cs m n h k = h
by_tab next column false bs cs m n h k = k

-- blanks under glyphs lead as far as the glyphs
same_column : (next : ℕ → ℕ) (column : ℕ) (text : List ℕ) (glyphs : List Glyph)
    → column_after_blanks next column (blanks_under text glyphs) ≡ column_after next column text glyphs
same_column next column text [] =
    ap (column_after_blanks next column) (sym (append-nil (replicate (width text) 32))) ∙ after_spaces next (width text) column []
same_column next column text (glyph ∷ glyphs) =
    by_tab next column (is_tab glyph) (replicate (width text) 32 ++ 9 ∷ blanks_under [] glyphs) (blanks_under (text ++ shown_glyph glyph) glyphs)
    (column_after next (next (column + width text)) [] glyphs) (column_after next column (text ++ shown_glyph glyph) glyphs)
    (after_spaces next (width text) column (9 ∷ blanks_under [] glyphs) ∙ same_column next (next (column + width text)) [] glyphs)
    (same_column next column (text ++ shown_glyph glyph) glyphs)

spaces_blank : (n : ℕ) → list_all is_blank_byte (replicate n 32) ≡ true
spaces_blank zero = refl
spaces_blank (suc n) = spaces_blank n

all_by_tab : (b : Bool) (bs cs : List ℕ) → list_all is_blank_byte bs ≡ true → list_all is_blank_byte cs ≡ true → list_all is_blank_byte (cond b bs cs) ≡ true
all_by_tab true bs cs h k = h
all_by_tab false bs cs h k = k

-- they are spaces and tabs
all_blank : (text : List ℕ) (glyphs : List Glyph) → list_all is_blank_byte (blanks_under text glyphs) ≡ true
all_blank text [] = spaces_blank (width text)
all_blank text (glyph ∷ glyphs) =
    all_by_tab (is_tab glyph) (replicate (width text) 32 ++ 9 ∷ blanks_under [] glyphs) (blanks_under (text ++ shown_glyph glyph) glyphs)
    (list_all-append is_blank_byte (replicate (width text) 32) (9 ∷ blanks_under [] glyphs) ∙ ap₂ (λ x y. x && y) (spaces_blank (width text)) (all_blank [] glyphs))
    (all_blank (text ++ shown_glyph glyph) glyphs)

pub carets_follow : CaretsFollowTabs
carets_follow next place glyphs =
    let front = dots (nat_lt 0 (window_start place (length glyphs))) in
    (blanks_under front (before_place place glyphs), refl, all_blank front (before_place place glyphs), same_column next 0 front (before_place place glyphs))

few_before : (place n : ℕ) → place ≤ n → place - window_start place n ≤ 120
few_before place n h = grind arith

-- the first of what is shown of glyphs is what is shown of the first of them
front_shown : (k : ℕ) (glyphs : List Glyph) → shown glyphs ≡ shown (take k glyphs) ++ shown (drop k glyphs)
front_shown k glyphs = ap shown (sym (take-append-drop k glyphs)) ∙ flat_map-append shown_glyph (take k glyphs) (drop k glyphs)

pub excerpts_placed : ExcerptsHaveTheirPlace
excerpts_placed place glyphs h =
    let start = window_start place (length glyphs) in
    let window = take 120 (drop start glyphs) in
    let k = place - start in
    let first : take k window ≡ before_place place glyphs = take-take k 120 (drop start glyphs) (few_before place (length glyphs) h) in
    let front = dots (nat_lt 0 start) in
    let back = dots (nat_lt 120 (length glyphs - start)) in
    let whole : shown window ≡ shown (before_place place glyphs) ++ shown (drop k window) = front_shown k window ∙ ap (λ g. shown g ++ shown (drop k window)) first in
    (shown (drop k window) ++ back, ap (λ s. front ++ s ++ back) whole ∙ joined front (shown (before_place place glyphs)) (shown (drop k window)) back)
  where
    joined : (a b c d : List ℕ) → a ++ (b ++ c) ++ d ≡ (a ++ b) ++ (c ++ d)
    joined a b c d = simp append_assoc refl
