-- What was written grows by prefixes.
use Rattle.std.proofs.Common.{◌≡◌, ◌∙◌, ℕ, ◌+◌, ◌<◌, List, [], ◌∷◌, ◌++◌, append-nil, refl, subst, length, take, drop, get_or, append_assoc, ap, sym}
use Rattle.std.specs.Prelude.{Option, None, Some, option_map, Result, Ok, Err, OnErr}
use Rattle.std.proofs.lemmas.List.{at_drop_more, take-append-drop, take_more}
use Rattle.std.proofs.lemmas.Grind.{flat_map-append}
use Rattle.sb_outside.specs.Outside.{GrowsBy, GrowsByPrefix, GrowsUpTo, joined}

-- what is left is cut further
cut_left : (done left line part left' : List ℕ) → left ++ line ≡ part ++ left' → (done ++ left) ++ line ≡ (done ++ part) ++ left'
cut_left done left line part left' cut =
    let first : (done ++ left) ++ line ≡ done ++ (left ++ line) = simp append_assoc in
    let last : done ++ (part ++ left') ≡ (done ++ part) ++ left' = simp append_assoc in
    first ∙ ap (λ r. done ++ r) cut ∙ last

cut_more : (done left line more part rest : List ℕ) → left ++ line ≡ part ++ rest → (done ++ left) ++ (line ++ more) ≡ (done ++ part) ++ (rest ++ more)
cut_more done left line more part rest cut =
    let first : (done ++ left) ++ (line ++ more) ≡ done ++ ((left ++ line) ++ more) = simp append_assoc in
    let last : done ++ ((part ++ rest) ++ more) ≡ (done ++ part) ++ (rest ++ more) = simp append_assoc in
    first ∙ ap (λ r. done ++ (r ++ more)) cut ∙ last

cut_rest : (done left part rest : List ℕ) → left ≡ part ++ rest → done ++ left ≡ (done ++ part) ++ rest
cut_rest done left part rest cut =
    let last : done ++ (part ++ rest) ≡ (done ++ part) ++ rest = simp append_assoc in
    ap (λ r. done ++ r) cut ∙ last

-- nothing was put yet
pub nothing_put : (old : Option (List ℕ)) (due : List ℕ) → GrowsUpTo old (due ++ []) old due
nothing_put None due = ([], simp append-nil, refl)
nothing_put (Some w) due = ([], simp append-nil, simp append-nil)

-- what is left after more was put
pub left_more : (old : Option (List ℕ)) (due left : List ℕ) (mid new : Option (List ℕ)) (line left' : List ℕ) → GrowsUpTo old due mid left
    → GrowsUpTo mid (left ++ line) new left' → GrowsUpTo old (due ++ line) new left'
left_more None due left mid new line left' (done, e, grown) (part, cut, more) =
    (done ++ part, ap (λ d. d ++ line) e ∙ cut_left done left line part left' cut, more ∙ rw grown)
left_more (Some w) due left mid new line left' (done, e, grown) (part, cut, more) =
    (done ++ part, ap (λ d. d ++ line) e ∙ cut_left done left line part left' cut, more ∙ rw grown (simp append_assoc))

-- all is written once what is left is
pub none_left : (old : Option (List ℕ)) (due left : List ℕ) (mid new : Option (List ℕ)) → GrowsUpTo old due mid left → GrowsBy mid left new → GrowsBy old due new
none_left None due left mid new (done, e, grown) written = written ∙ rw grown
none_left (Some w) due left mid new (done, e, grown) written = written ∙ rw (grown, e) (simp append_assoc)

-- a prefix of what is left is one of all that was due
pub prefix_left : (old : Option (List ℕ)) (due left : List ℕ) (mid new : Option (List ℕ)) (line more : List ℕ) → GrowsUpTo old due mid left
    → GrowsByPrefix mid (left ++ line) new → GrowsByPrefix old (due ++ (line ++ more)) new
prefix_left None due left mid new line more (done, e, grown) (part, rest, cut, written) =
    (done ++ part, rest ++ more, ap (λ d. d ++ (line ++ more)) e ∙ cut_more done left line more part rest cut, written ∙ rw grown)
prefix_left (Some w) due left mid new line more (done, e, grown) (part, rest, cut, written) =
    (done ++ part, rest ++ more, ap (λ d. d ++ (line ++ more)) e ∙ cut_more done left line more part rest cut, written ∙ rw grown (simp append_assoc))

-- the same if lines were put before it
pub prefix_cut : (old : Option (List ℕ)) (pending before left : List ℕ) (mid new : Option (List ℕ)) (line after : List ℕ) → GrowsUpTo old (pending ++ before) mid left
    → GrowsByPrefix mid (left ++ line) new → GrowsByPrefix old (pending ++ (before ++ (line ++ after))) new
prefix_cut old pending before left mid new line after grown written =
    subst (λ due. GrowsByPrefix old due new) (append_assoc pending before (line ++ after)) (prefix_left old (pending ++ before) left mid new line after grown written)

-- what is left after one more line
pub left_cut : (old : Option (List ℕ)) (pending before left : List ℕ) (mid new : Option (List ℕ)) (line left' : List ℕ) → GrowsUpTo old (pending ++ before) mid left
    → GrowsUpTo mid (left ++ line) new left' → GrowsUpTo old (pending ++ (before ++ line)) new left'
left_cut old pending before left mid new line left' grown more =
    subst (λ due. GrowsUpTo old due new left') (append_assoc pending before line) (left_more old (pending ++ before) left mid new line left' grown more)

-- the same if no more was put
pub prefix_of_left : (old : Option (List ℕ)) (due left : List ℕ) (mid new : Option (List ℕ)) → GrowsUpTo old due mid left
    → GrowsByPrefix mid left new → GrowsByPrefix old due new
prefix_of_left None due left mid new (done, e, grown) (part, rest, cut, written) =
    (done ++ part, rest, e ∙ cut_rest done left part rest cut, written ∙ rw grown)
prefix_of_left (Some w) due left mid new (done, e, grown) (part, rest, cut, written) =
    (done ++ part, rest, e ∙ cut_rest done left part rest cut, written ∙ rw grown (simp append_assoc))

-- the lines before a place, the one there, and the rest
pub joined_at : (xs : List (List ℕ)) (i : ℕ) (x : List ℕ) → i < length xs → x ≡ get_or xs i x → joined xs ≡ joined (take i xs) ++ (x ++ joined (drop (i + 1) xs))
joined_at xs i x h e =
    ap joined (sym (take-append-drop i xs)) ∙ flat_map-append (λ (l : List ℕ). l) (take i xs) (drop i xs) ∙ ap (λ r. joined (take i xs) ++ r) (at_drop_more joined xs i x h ∙ ap (λ y. y ++ joined (drop (i + 1) xs)) (sym e))

-- the lines as far as one, and that one
pub joined_next : (xs : List (List ℕ)) (i : ℕ) (x : List ℕ) → i < length xs → x ≡ get_or xs i x → joined (take (i + 1) xs) ≡ joined (take i xs) ++ x
joined_next xs i x h e =
    let last : x ++ [] ≡ x = simp append-nil in
    ap joined (take_more xs i x h) ∙ ap (λ y. joined (take i xs ++ y ∷ [])) (sym e) ∙ flat_map-append (λ (l : List ℕ). l) (take i xs) (x ∷ [])
    ∙ ap (λ r. joined (take i xs) ++ r) last

-- a prefix of what is left, if there was a fault
pub fault_left : {T E : Type 0} (r : Result T E) (old : Option (List ℕ)) (due left : List ℕ) (mid new : Option (List ℕ)) → GrowsUpTo old due mid left
    → OnErr r (GrowsByPrefix mid left new) → OnErr r (GrowsByPrefix old due new)
fault_left (Ok x) old due left mid new grown written = tt
fault_left (Err e) old due left mid new grown written = prefix_of_left old due left mid new grown written
