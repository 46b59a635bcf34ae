-- Lines that end with LF are read back one by one.
use Rattle.std.proofs.Common.{◌≡◌, ◌∙◌, ℕ, ◌+◌, Bool, true, false, not, eqb, List, [], ◌∷◌, ◌++◌, map, codes, refl, ap, append_assoc}
use Rattle.std.proofs.lemmas.Bool.{and_parts, false≢true}
use Rattle.std.specs.List.{list_all}
use Rattle.sb_outside.specs.Outside.{joined}
use Rattle.sb_text.specs.Lines.{NumberedRawLine, raw_lines, is_ended, numbered_from, numbered_raw_lines}
use Rattle.sb_base.specs.OneLine.{is_no_lf, is_one_line}

-- bytes with an LF after them
abbrev pub with_lf : List ℕ → List ℕ
with_lf bytes = bytes ++ codes "\n"

-- bytes without an LF
abbrev pub has_no_lf : List ℕ → Bool
has_no_lf bytes = list_all is_no_lf bytes

-- lines that an LF ends, numbered from n
abbrev pub raws_from : ℕ → List (List ℕ) → List NumberedRawLine
raws_from n [] = []
raws_from n (w ∷ ws) = record { number = n; bytes = w; is_ended = true } ∷ raws_from (n + 1) ws

no_test : (t : Bool) → not t ≡ true → t ≡ false
no_test true h = absurd (false≢true h)
no_test false h = refl

raw_one : (w rest : List ℕ) → has_no_lf w ≡ true → raw_lines (w ++ 10 ∷ rest) ≡ w ∷ raw_lines rest
raw_one [] rest h = refl
raw_one (b ∷ w) rest h =
    let p = and_parts (is_no_lf b) (has_no_lf w) h in
    rw (no_test (eqb b 10) p.0, raw_one w rest p.1) refl

ended_one : (w rest : List ℕ) → is_ended (w ++ 10 ∷ rest) ≡ is_ended rest
ended_one [] [] = refl
ended_one [] (c ∷ rest) = refl
ended_one (b ∷ []) rest = ended_one [] rest
ended_one (b ∷ c ∷ w) rest = ended_one (c ∷ w) rest

one_line : (w : List ℕ) → is_one_line (with_lf w) ≡ true → has_no_lf w ≡ true
one_line [] h = refl
one_line (b ∷ []) h = h
one_line (b ∷ c ∷ w) h =
    let p = and_parts (is_no_lf b) (is_one_line (with_lf (c ∷ w))) h in
    rw (p.0, one_line (c ∷ w) p.1) refl

joined_first : (w : List ℕ) (ws : List (List ℕ)) → joined (map with_lf (w ∷ ws)) ≡ w ++ 10 ∷ joined (map with_lf ws)
joined_first w ws = append_assoc w (10 ∷ []) (joined (map with_lf ws))

raw_all : (ws : List (List ℕ)) → list_all is_one_line (map with_lf ws) ≡ true → raw_lines (joined (map with_lf ws)) ≡ ws
raw_all [] h = refl
raw_all (w ∷ ws) h =
    let p = and_parts (is_one_line (with_lf w)) (list_all is_one_line (map with_lf ws)) h in
    ap raw_lines (joined_first w ws) ∙ raw_one w (joined (map with_lf ws)) (one_line w p.0) ∙ ap (λ l. w ∷ l) (raw_all ws p.1)

ended_all : (ws : List (List ℕ)) → is_ended (joined (map with_lf ws)) ≡ true
ended_all [] = refl
ended_all (w ∷ ws) = ap is_ended (joined_first w ws) ∙ ended_one w (joined (map with_lf ws)) ∙ ended_all ws

numbered_raws : (n : ℕ) (ws : List (List ℕ)) → numbered_from n true ws ≡ raws_from n ws
numbered_raws n [] = refl
numbered_raws n (w ∷ []) = refl
numbered_raws n (w ∷ v ∷ ws) = ap (λ l. record { number = n; bytes = w; is_ended = true } ∷ l) (numbered_raws (n + 1) (v ∷ ws))

-- the lines of a text whose lines each end with LF, and hold no other, are these lines
pub lines_back : (ws : List (List ℕ)) → list_all is_one_line (map with_lf ws) ≡ true → numbered_raw_lines (joined (map with_lf ws)) ≡ raws_from 1 ws
lines_back ws h =
    ap (λ e. numbered_from 1 e (raw_lines (joined (map with_lf ws)))) (ended_all ws)
    ∙ ap (numbered_from 1 true) (raw_all ws h) ∙ numbered_raws 1 ws
