-- The link with the longest FROM.
use Rattle.std.proofs.Common.{◌≡◌, ◌∙◌, ℕ, ◌≤◌, ltb, Bool, true, false, ◌&&◌, cond, List, [], ◌∷◌, length, Option, None, Some, inl, inr, refl, subst, sym, arith}
use Rattle.std.proofs.lemmas.Bool.{and_parts, false≢true}
use Rattle.std.proofs.lemmas.Bool.Decides.{nat_tests}
use Rattle.sb_link.specs.Resolution.{applying, is_longer, is_under, longer, longest}
use Rattle.sb_link.specs.ResolutionLaws.{IsAmong, IsLongest, LongestLinksApply}
use Rattle.sb_link.specs.declared.links.Link.{Link}

-- what was found has a FROM at least as long as a link, if that applies
abbrev Covers : List ℕ → Option Link → Link → Type 0
Covers name None link = is_under link.from name ≡ true → ⊥
Covers name (Some found) link = is_under link.from name ≡ true → length link.from ≤ length found.from

-- one of two choices, by a test
abbrev chosen : Bool → Link → Option Link → Option Link
chosen b link found = cond b (Some link) found

-- ---- one link more

covers_itself : (name : List ℕ) (found : Option Link) (link : Link) → Covers name (longer name found link) link
covers_itself name None link = by (is_under link.from name) refl
  where
    by : (b : Bool) → is_under link.from name ≡ b → Covers name (longer name None link) link
    by true e = subst (λ t. Covers name (chosen (t && true) link None) link) (sym e) (λ h. omega arith)
    by false e = subst (λ t. Covers name (chosen (t && true) link None) link) (sym e) (λ h. false≢true (sym e ∙ h))
covers_itself name (Some found) link = by (is_under link.from name) (ltb (length found.from) (length link.from)) refl refl
  where
    by : (b c : Bool) → is_under link.from name ≡ b → ltb (length found.from) (length link.from) ≡ c → Covers name (longer name (Some found) link) link
    by true true e f = subst (λ t. Covers name (chosen t link (Some found)) link) (sym (λ i. e i && f i)) (λ h. omega arith)
    by true false e f = subst (λ t. Covers name (chosen t link (Some found)) link) (sym (λ i. e i && f i)) (λ h. grind (arith, nat_tests))
    by false c e f = subst (λ t. Covers name (chosen (t && ltb (length found.from) (length link.from)) link (Some found)) link) (sym e) (λ h. absurd (false≢true (sym e ∙ h)))

covers_more : (name : List ℕ) (found : Option Link) (link other : Link) → Covers name found other → Covers name (longer name found link) other
covers_more name None link other h = by (is_under link.from name && true) refl
  where
    by : (b : Bool) → (is_under link.from name && true) ≡ b → Covers name (longer name None link) other
    by true e = subst (λ t. Covers name (chosen t link None) other) (sym e) (λ k. absurd (h k))
    by false e = subst (λ t. Covers name (chosen t link None) other) (sym e) h
covers_more name (Some found) link other h = by (is_under link.from name && ltb (length found.from) (length link.from)) refl
  where
    longer_still : ltb (length found.from) (length link.from) ≡ true → length other.from ≤ length found.from → length other.from ≤ length link.from
    longer_still e k = grind (arith, nat_tests)

    by : (b : Bool) → (is_under link.from name && ltb (length found.from) (length link.from)) ≡ b → Covers name (longer name (Some found) link) other
    by true e =
        subst (λ t. Covers name (chosen t link (Some found)) other) (sym e) (λ k. longer_still (and_parts (is_under link.from name) _ e).1 (h k))
    by false e = subst (λ t. Covers name (chosen t link (Some found)) other) (sym e) h

-- ---- a whole list

covers_found : (name : List ℕ) (links : List Link) (found : Option Link) (other : Link) → Covers name found other → Covers name (longest name found links) other
covers_found name [] found other h = h
covers_found name (link ∷ links) found other h = covers_found name links (longer name found link) other (covers_more name found link other h)

covers_all : (name : List ℕ) (links : List Link) (found : Option Link) (other : Link) → IsAmong other links → Covers name (longest name found links) other
covers_all name [] found other h = absurd h
covers_all name (link ∷ links) found other (inl e) =
    covers_found name links (longer name found link) other (subst (λ l. Covers name (longer name found link) l) (sym e) (covers_itself name found link))
covers_all name (link ∷ links) found other (inr h) = covers_all name links (longer name found link) other h

-- what is found has each property that all links and what was found have
abbrev OfFound : (Link → Type 0) → Option Link → Type 0
OfFound P None = Unit {0}
OfFound P (Some link) = P link

pub found_has : (P : Link → Type 0) (name : List ℕ) (links : List Link) (found : Option Link) → ((link : Link) → IsAmong link links → is_under link.from name ≡ true → P link)
    → OfFound P found → OfFound P (longest name found links)
found_has P name [] found each h = h
found_has P name (link ∷ links) found each h =
    found_has P name links (longer name found link) (λ l m. each l (inr m)) (by (is_under link.from name && is_longer found link) refl)
  where
    by : (b : Bool) → (is_under link.from name && is_longer found link) ≡ b → OfFound P (longer name found link)
    by true e = subst (λ t. OfFound P (chosen t link found)) (sym e) (each link (inl refl) (and_parts (is_under link.from name) _ e).0)
    by false e = subst (λ t. OfFound P (chosen t link found)) (sym e) h

pub longest_is : (links : List Link) (name : List ℕ) (link : Link) → applying links name ≡ Some link → IsLongest links name link
longest_is links name link e = record {
  there = subst (OfFound (λ l. IsAmong l links)) e (found_has (λ l. IsAmong l links) name links None (λ l m u. m) tt);
  applies = subst (OfFound (λ l. is_under l.from name ≡ true)) e (found_has (λ l. is_under l.from name ≡ true) name links None (λ l m u. u) tt);
  longest = λ other m. subst (λ f. Covers name f other) e (covers_all name links None other m);
}

pub found_applies : (links : List Link) (name : List ℕ) (link : Link) → applying links name ≡ Some link → is_under link.from name ≡ true
found_applies links name link e = (longest_is links name link e).applies

pub none_applies : (links : List Link) (name : List ℕ) (link : Link) → applying links name ≡ None → IsAmong link links → is_under link.from name ≡ true → ⊥
none_applies links name link e m = subst (λ f. Covers name f link) e (covers_all name links None link m)

pub longest_applies : LongestLinksApply
longest_applies = (longest_is, none_applies)
