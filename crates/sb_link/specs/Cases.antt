-- Small cases of what names resolve to.
use Rattle.std.specs.Prelude.{◌≡◌, ℕ, zero, suc, ◌+◌, List, [], ◌∷◌, ◌++◌, None, Some}
use Rattle.sb_link.specs.Resolution.{resolve}
use Rattle.sb_link.specs.declared.links.Link.{Link}

-- the name of one component of one unit
abbrev pub letter : ℕ → List ℕ
letter unit = 92 ∷ unit ∷ []

abbrev pub link : List ℕ → List ℕ → Link
link from to = record { from = from; to = to }

-- the given number of links, each to where the next begins, the first from this letter
abbrev pub chain : ℕ → ℕ → List Link
chain zero unit = []
chain (suc n) unit = link (letter unit) (letter (unit + 1)) ∷ chain n (unit + 1)

-- a link to itself resolves nothing: `\a` to `\a`, and `\a` to `\a\a`
abbrev pub LoopsDoNotResolve : Type 0
LoopsDoNotResolve = (resolve (link (letter 97) (letter 97) ∷ []) (letter 97) ≡ None)
    × (resolve (link (letter 97) (letter 97 ++ letter 97) ∷ []) (letter 97 ++ letter 120) ≡ None)

-- nor does a ring of two, `\a` to `\B` and `\b` to `\A`
abbrev pub RingsDoNotResolve : Type 0
RingsDoNotResolve = resolve (link (letter 97) (letter 66) ∷ link (letter 98) (letter 65) ∷ []) (letter 97 ++ letter 120) ≡ None

-- a chain of eight links resolves, and one of nine does not
abbrev pub ChainsResolve : Type 0
ChainsResolve = (resolve (chain 8 97) (letter 97 ++ letter 120) ≡ Some (letter 105 ++ letter 120)) × (resolve (chain 9 97) (letter 97 ++ letter 120) ≡ None)

-- under `\a` to `\c` and `\a\b` to `\d`: `\A\b\x` is `\d\x`, `\a\x` is `\c\x`, and `\ab\x` stays
abbrev pub LongestResolves : Type 0
LongestResolves =
    (resolve (link (letter 97) (letter 99) ∷ link (letter 97 ++ letter 98) (letter 100) ∷ []) (letter 65 ++ letter 98 ++ letter 120) ≡ Some (letter 100 ++ letter 120))
    × (resolve (link (letter 97) (letter 99) ∷ link (letter 97 ++ letter 98) (letter 100) ∷ []) (letter 97 ++ letter 120) ≡ Some (letter 99 ++ letter 120))
    × (resolve (link (letter 97) (letter 99) ∷ link (letter 97 ++ letter 98) (letter 100) ∷ []) (92 ∷ 97 ∷ 98 ∷ letter 120) ≡ Some (92 ∷ 97 ∷ 98 ∷ letter 120))
