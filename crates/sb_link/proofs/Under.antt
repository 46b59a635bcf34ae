-- A link applies to no name that is shorter than its FROM.
use Rattle.std.proofs.Common.{◌≡◌, ◌∙◌, ℕ, ◌≤◌, Bool, true, false, map, List, length, take, drop, refl, ap, sym, arith}
use Rattle.std.proofs.lemmas.Bool.{and_parts}
use Rattle.std.proofs.lemmas.List.{length-map, length-take}
use Rattle.std.specs.Cmp.Lexicographic.{bytes_decides}
use Rattle.sb_base.specs.Wide.{folded, is_same}
use Rattle.sb_link.specs.Resolution.{ends_component, is_under}

pub not_true : (b : Bool) → (b ≡ true → ⊥) → b ≡ false
not_true true h = absurd (h refl)
not_true false h = refl

same_length : (a b : List ℕ) → is_same a b ≡ true → length a ≡ length b
same_length a b h =
    let e : map folded a ≡ map folded b = (bytes_decides _ _).0 h in
    sym (length-map a folded) ∙ ap length e ∙ length-map b folded

pub under_is_long : (from name : List ℕ) → is_under from name ≡ true → length from ≤ length name
under_is_long from name h =
    let front = take (length from) name in
    let e : length from ≡ length front = same_length from front (and_parts (is_same from front) (ends_component (drop (length from) name)) h).0 in
    let t = length-take (length from) name in
    omega arith
