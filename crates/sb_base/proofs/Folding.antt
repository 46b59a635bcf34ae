-- Two lists, compared place by place under f, and lists that are the same after folding.
use Rattle.std.proofs.Common.{◌≡◌, ◌∙◌, ℕ, eqb, zip, map, List, [], ◌∷◌, ◌&&◌, length, get_or, refl, ap, sym, arith}
use Rattle.std.proofs.lemmas.Bool.Decides.{nat_tests}
use Rattle.std.proofs.lemmas.List.{length-map}
use Rattle.std.proofs.Math.ListN.{get_or-map}
use Rattle.std.specs.Cmp.Lexicographic.{pointwise, bytes_decides}
use Rattle.std.specs.List.{list_all}
use Rattle.sb_base.specs.Wide.{folded, SameAtEachPlace, SameAsFolded}

-- lists of one length are compared pair by pair
pub pairs_alike : (f : ℕ → ℕ) (a b : List ℕ) → length a ≡ length b → list_all (λ (p : ℕ × ℕ). eqb (f p.0) (f p.1)) (zip a b) ≡ pointwise eqb (map f a) (map f b)
pairs_alike f [] [] n = refl
pairs_alike f [] (y ∷ ys) n = absurd (omega arith)
pairs_alike f (x ∷ xs) [] n = absurd (omega arith)
pairs_alike f (x ∷ xs) (y ∷ ys) n = ap (λ t. eqb (f x) (f y) && t) (pairs_alike f xs ys (omega arith))

fold_once : (u : ℕ) → folded u ≡ folded (folded u)
fold_once u = grind (arith, nat_tests)

map_once : (a : List ℕ) → map folded a ≡ map folded (map folded a)
map_once [] = refl
map_once (x ∷ xs) = λ i. fold_once x i ∷ map_once xs i

pub same_as_folded : SameAsFolded
same_as_folded a = (bytes_decides _ _).1 (map_once a)

pub same_at_each_place : SameAtEachPlace
same_at_each_place a b h =
    let e : map folded a ≡ map folded b = (bytes_decides _ _).0 h in (
      sym (length-map a folded) ∙ ap length e ∙ length-map b folded,
      λ i. sym (get_or-map folded a i 0) ∙ ap (λ l. get_or l i 0) e ∙ get_or-map folded b i 0,
    )
