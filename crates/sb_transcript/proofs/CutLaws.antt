-- Bytes that are cut into lines, and how an output grows by one line after another.
use Rattle.std.proofs.Common.{◌≡◌, ◌∙◌, ℕ, ◌+◌, ◌-◌, ◌≤◌, List, [], ◌∷◌, ◌++◌, length, take, drop, Option, None, Some, refl, ap, sym, subst, arith, append_assoc}
use Rattle.std.proofs.lemmas.List.{append-nil, length-append, length-drop, take-append-drop, take-append-le, drop-append-le, take_all, nil_from_length}
use Rattle.std.specs.Prelude.{option_map, Result, Ok, Err, OnErr}
use Rattle.sb_outside.specs.Outside.{GrowsBy, GrowsByPrefix, GrowsUpTo, joined}
use Rattle.sb_transcript.specs.LineBuffers.{cut_by, total}

-- what is left after the first line is as long as the others
pub total_behind : (n : ℕ) (ns bs : List ℕ) → total (n ∷ ns) ≡ length bs → total ns ≡ length (drop n bs)
total_behind n ns bs e = omega (arith, length-drop n bs, e)

-- the first line lies within
pub piece_within : (n : ℕ) (ns bs : List ℕ) → total (n ∷ ns) ≡ length bs → n ≤ length bs
piece_within n ns bs e = omega (arith, e)

-- the same of lengths of which this is the first
pub first_within : (ls ns bs : List ℕ) (n : ℕ) → ls ≡ n ∷ ns → total ls ≡ length bs → n ≤ length bs
first_within ls ns bs n e h = piece_within n ns bs (ap total (sym e) ∙ h)

pub total_left : (ls ns bs behind : List ℕ) (n : ℕ) → ls ≡ n ∷ ns → total ls ≡ length bs → length behind + n ≡ length bs → total ns ≡ length behind
total_left ls ns bs behind n e h k = let whole : total (n ∷ ns) ≡ length bs = ap total (sym e) ∙ h in omega (arith, whole, k)

-- bytes that are cut are their lines, one after the other
pub joined_cut : (ns bs : List ℕ) → total ns ≡ length bs → bs ≡ joined (cut_by ns bs)
joined_cut [] bs e = nil_from_length bs (sym e)
joined_cut (n ∷ ns) bs e =
    sym (take-append-drop n bs) ∙ ap (λ rest. take n bs ++ rest) (joined_cut ns (drop n bs) (total_behind n ns bs e))

-- lengths with one more
total_push : (ns : List ℕ) (m : ℕ) → total (ns ++ m ∷ []) ≡ total ns + m
total_push [] m = omega arith
total_push (n ∷ ns) m = omega (arith, total_push ns m)

-- a line after all others
cut_push : (ns bs line : List ℕ) (m : ℕ) → total ns ≡ length bs → m ≡ length line → cut_by (ns ++ m ∷ []) (bs ++ line) ≡ cut_by ns bs ++ line ∷ []
cut_push [] bs line m e k =
    let none : bs ≡ [] = nil_from_length bs (sym e) in
    let all : take m line ≡ line = take_all m line (omega (arith, k)) in
    subst (λ (z : List ℕ). cut_by (m ∷ []) (z ++ line) ≡ line ∷ []) (sym none) (ap (λ l. l ∷ []) all)
cut_push (n ∷ ns) bs line m e k =
    let within : n ≤ length bs = piece_within n ns bs e in
    let later = cut_push ns (drop n bs) line m (total_behind n ns bs e) k in
    rw (take-append-le n bs line within, drop-append-le n bs line within) (ap (λ l. take n bs ∷ l) later)

-- the length of a line that was appended
appended : (bs line more : List ℕ) (m : ℕ) → more ≡ bs ++ line → m ≡ length more - length bs → m ≡ length line
appended bs line more m e k =
    let long : length more ≡ length bs + length line = ap length e ∙ length-append bs line in
    omega (arith, long, k)

-- if a line was appended, and its length noted
pub cut_more : (ns more_ns bs more line : List ℕ) (m : ℕ) → more ≡ bs ++ line → more_ns ≡ ns ++ m ∷ [] → m ≡ length more - length bs → total ns ≡ length bs
    → cut_by more_ns more ≡ cut_by ns bs ++ line ∷ []
cut_more ns more_ns bs more line m e d k h =
    let whole = cut_push ns bs line m h (appended bs line more m e k) in
    subst (λ (z : List ℕ). cut_by z more ≡ cut_by ns bs ++ line ∷ []) (sym d) (subst (λ (z : List ℕ). cut_by (ns ++ m ∷ []) z ≡ cut_by ns bs ++ line ∷ []) (sym e) whole)

pub total_more : (ns more_ns bs more line : List ℕ) (m : ℕ) → more ≡ bs ++ line → more_ns ≡ ns ++ m ∷ [] → m ≡ length more - length bs → total ns ≡ length bs
    → total more_ns ≡ length more
total_more ns more_ns bs more line m e d k h =
    let long : length more ≡ length bs + length line = ap length e ∙ length-append bs line in
    let count : total more_ns ≡ total ns + m = ap total d ∙ total_push ns m in
    omega (arith, long, count, h, appended bs line more m e k)

-- bytes that were cut in two
pub two_parts : (n : ℕ) (bs line behind : List ℕ) → line ≡ take n bs → behind ≡ drop n bs → bs ≡ line ++ behind
two_parts n bs line behind e d = rw (e, d) (sym (take-append-drop n bs))

-- ---- an output that grows by one piece after another

-- at the start all is left
pub grown_start : (old : Option (List ℕ)) (due : List ℕ) → GrowsUpTo old due old due
grown_start None due = ([], refl, refl)
grown_start (Some w) due = ([], refl, ap Some (sym (append-nil w)))

-- what is left, after more of it was written
cut_on : (done pending rest line behind part left : List ℕ) → rest ≡ line ++ behind → pending ++ line ≡ part ++ left
    → done ++ (pending ++ rest) ≡ (done ++ part) ++ (left ++ behind)
cut_on done pending rest line behind part left d cut =
    let first : done ++ (pending ++ (line ++ behind)) ≡ done ++ ((pending ++ line) ++ behind) = simp append_assoc in
    let last : done ++ ((part ++ left) ++ behind) ≡ (done ++ part) ++ (left ++ behind) = simp append_assoc in
    ap (λ r. done ++ (pending ++ r)) d ∙ first ∙ ap (λ r. done ++ (r ++ behind)) cut ∙ last

-- one piece more
pub grown_on : (old : Option (List ℕ)) (due pending rest line behind left : List ℕ) (mid new : Option (List ℕ)) → GrowsUpTo old due mid (pending ++ rest)
    → rest ≡ line ++ behind → GrowsUpTo mid (pending ++ line) new left → GrowsUpTo old due new (left ++ behind)
grown_on None due pending rest line behind left mid new (done, e, g) d (part, cut, h) =
    (done ++ part, e ∙ cut_on done pending rest line behind part left d cut, h ∙ rw g refl)
grown_on (Some w) due pending rest line behind left mid new (done, e, g) d (part, cut, h) =
    (done ++ part, e ∙ cut_on done pending rest line behind part left d cut, h ∙ rw g (ap Some (append_assoc w done part)))

-- a prefix of the next piece
pub grown_partly : (old : Option (List ℕ)) (due pending rest line behind : List ℕ) (mid new : Option (List ℕ)) → GrowsUpTo old due mid (pending ++ rest)
    → rest ≡ line ++ behind → GrowsByPrefix mid (pending ++ line) new → GrowsByPrefix old due new
grown_partly None due pending rest line behind mid new (done, e, g) d (part, left, cut, h) =
    (done ++ part, left ++ behind, e ∙ cut_on done pending rest line behind part left d cut, h ∙ rw g refl)
grown_partly (Some w) due pending rest line behind mid new (done, e, g) d (part, left, cut, h) =
    (done ++ part, left ++ behind, e ∙ cut_on done pending rest line behind part left d cut, h ∙ rw g (ap Some (append_assoc w done part)))

-- no length is left, and so nothing but what is pending
all_put : (old : Option (List ℕ)) (due pending rest ns : List ℕ) (mid : Option (List ℕ)) → GrowsUpTo old due mid (pending ++ rest) → length ns ≡ 0 → total ns ≡ length rest
    → GrowsUpTo old due mid pending
all_put old due pending rest ns mid grown none all =
    let left : length rest ≡ 0 = sym all ∙ ap total (nil_from_length ns none) in
    let same : pending ++ rest ≡ pending = ap (λ z. pending ++ z) (nil_from_length rest left) ∙ append-nil pending in
    subst (λ z. GrowsUpTo old due mid z) same grown

-- and then all is written, once what is pending is
pub grown_to_end : (old : Option (List ℕ)) (due pending rest ns : List ℕ) (mid new : Option (List ℕ)) → GrowsUpTo old due mid (pending ++ rest) → length ns ≡ 0
    → total ns ≡ length rest → GrowsBy mid pending new → GrowsBy old due new
grown_to_end old due pending rest ns mid new grown none all written = by old (all_put old due pending rest ns mid grown none all)
  where
    by : (old : Option (List ℕ)) → GrowsUpTo old due mid pending → GrowsBy old due new
    by None (done, e, g) = written ∙ rw g refl
    by (Some w) (done, e, g) = written ∙ rw (g, e) (ap Some (append_assoc w done pending))

-- or a prefix of it, if there was a fault
pub fault_at_end : {T E : Type 0} (r : Result T E) (old : Option (List ℕ)) (due pending rest ns : List ℕ) (mid new : Option (List ℕ))
    → GrowsUpTo old due mid (pending ++ rest) → length ns ≡ 0 → total ns ≡ length rest → OnErr r (GrowsByPrefix mid pending new) → OnErr r (GrowsByPrefix old due new)
fault_at_end (Ok x) old due pending rest ns mid new grown none all written = tt
fault_at_end (Err e) old due pending rest ns mid new grown none all written =
    let same : pending ++ [] ≡ pending = append-nil pending in
    grown_partly old due pending [] [] [] mid new (subst (λ z. GrowsUpTo old due mid z) (sym same) (all_put old due pending rest ns mid grown none all)) refl
    (subst (λ z. GrowsByPrefix mid z new) (sym same) written)
