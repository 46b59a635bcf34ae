-- A list of links with one more.
use Rattle.std.proofs.Common.{◌≡◌, ◌∙◌, ℕ, ◌+◌, ◌<◌, ◌≤◌, Bool, true, false, not, ◌&&◌, ◌||◌, map, List, [], ◌∷◌, ◌++◌, length, refl, ap, sym, arith}
use Rattle.std.specs.List.{list_any}
use Rattle.std.proofs.lemmas.Bool.{and_parts, false≢true}
use Rattle.std.proofs.lemmas.List.{length-append}
use Rattle.std.proofs.lemmas.List.Folds.{list_all-append}
use Rattle.std.specs.Cmp.Lexicographic.{bytes_decides}
use Rattle.sb_base.specs.Wide.{folded, is_same}
use Rattle.sb_link.specs.Links.{AreLinks, are_distinct, is_from, is_link, most_links}
use Rattle.sb_link.specs.declared.links.Link.{Link}

pub both : (a b : Bool) → a ≡ true → b ≡ true → (a && b) ≡ true
both true true h k = refl
both true false h k = k
both false b h k = h

pub same_back : (a b : List ℕ) → is_same a b ≡ true → is_same b a ≡ true
same_back a b h = (bytes_decides (map folded b) (map folded a)).1 (sym ((bytes_decides (map folded a) (map folded b)).0 h))

pub or_false : (a b : Bool) → (a || b) ≡ false → (a ≡ false) × (b ≡ false)
or_false true b h = absurd (false≢true (sym h))
or_false false b h = (refl, h)

pub is_false : (b : Bool) → not b ≡ true → b ≡ false
is_false true h = absurd (false≢true h)
is_false false h = refl

any_one_more : (name : List ℕ) (links : List Link) (link : Link) → list_any (is_from name) links ≡ false → is_from name link ≡ false
    → list_any (is_from name) (links ++ link ∷ []) ≡ false
any_one_more name [] link h k = ap (λ b. b || false) k
any_one_more name (first ∷ links) link h k =
    let parts = or_false (is_from name first) (list_any (is_from name) links) h in
    ap (λ b. b || list_any (is_from name) (links ++ link ∷ [])) parts.0 ∙ any_one_more name links link parts.1 k

not_same_back : (first link : Link) → is_from link.from first ≡ false → is_from first.from link ≡ false
not_same_back first link h = of (is_from first.from link) refl
  where
    of : (b : Bool) → is_from first.from link ≡ b → is_from first.from link ≡ false
    of true e = absurd (false≢true (sym h ∙ same_back link.from first.from e))
    of false e = e

one_more_distinct : (links : List Link) (link : Link) → are_distinct links ≡ true → list_any (is_from link.from) links ≡ false
    → are_distinct (links ++ link ∷ []) ≡ true
one_more_distinct [] link h k = refl
one_more_distinct (first ∷ links) link h k =
    let parts = and_parts (not (list_any (is_from first.from) links)) (are_distinct links) h in
    let others = or_false (is_from link.from first) (list_any (is_from link.from) links) k in
    let none = any_one_more first.from links link (is_false _ parts.0) (not_same_back first link others.0) in
    both _ _ (ap not none) (one_more_distinct links link parts.1 others.1)

pub one_more : (links : List Link) (link : Link) → AreLinks links → length links < most_links → is_link link ≡ true
    → list_any (is_from link.from) links ≡ false → AreLinks (links ++ link ∷ [])
one_more links link are room named new = record {
  few = fewer (length-append links (link ∷ []));
  named = list_all-append is_link links (link ∷ []) ∙ both _ _ are.named (ap (λ b. b && true) named);
  distinct = one_more_distinct links link are.distinct new;
}
  where
    fewer : length (links ++ link ∷ []) ≡ length links + 1 → length (links ++ link ∷ []) ≤ most_links
    fewer e = omega arith
