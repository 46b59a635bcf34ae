-- The steps by which a name resolves.
use Rattle.std.proofs.Common.{◌≡◌, ◌∙◌, ℕ, zero, suc, ◌-◌, ◌<◌, List, Option, None, Some, refl, subst, ap, sym, arith}
use Rattle.sb_link.specs.Resolution.{applying, replaced, resolve_within, most_steps}
use Rattle.sb_link.specs.ResolutionLaws.{OtherNamesStay, ResolvedNamesStay}
use Rattle.sb_link.specs.declared.links.Link.{Link}

-- what is resolved in no step, and in one or more, by the link that applies
abbrev in_none : List ℕ → Option Link → Option (List ℕ)
in_none name found = elim found [ None ↦ Some name | Some link ↦ None ]

abbrev in_some : List Link → List ℕ → ℕ → Option Link → Option (List ℕ)
in_some links name steps found = elim found [ None ↦ Some name | Some link ↦ resolve_within steps links (replaced name link) ]

pub last_step : (links : List Link) (name : List ℕ) (steps : ℕ) → applying links name ≡ None → resolve_within steps links name ≡ Some name
last_step links name zero e = ap (in_none name) e
last_step links name (suc steps) e = ap (in_some links name steps) e

pub no_step : (links : List Link) (name : List ℕ) (link : Link) → applying links name ≡ Some link → resolve_within 0 links name ≡ None
no_step links name link e = ap (in_none name) e

-- one step of one or more
pub first_step : (links : List Link) (name : List ℕ) (link : Link) (steps : ℕ) → applying links name ≡ Some link
    → resolve_within (suc steps) links name ≡ resolve_within steps links (replaced name link)
first_step links name link steps e = ap (in_some links name steps) e

pub one_step : (links : List Link) (name : List ℕ) (link : Link) (steps : ℕ) → 0 < steps → applying links name ≡ Some link
    → resolve_within steps links name ≡ resolve_within (steps - 1) links (replaced name link)
one_step links name link zero h e = absurd (omega arith)
one_step links name link (suc steps) h e =
    let less : steps ≡ suc steps - 1 = omega arith in
    first_step links name link steps e ∙ ap (λ n. resolve_within n links (replaced name link)) less

pub other_names_stay : OtherNamesStay
other_names_stay links name e = last_step links name most_steps e

pub of_some : {A : Type 0} (x y : A) → Some x ≡ Some y → x ≡ y
of_some x y e = cc

pub none_is_none : {A : Type 0} (x : A) → None ≡ Some x → ⊥
none_is_none x e = cc

-- no link applies to what a name resolves to
pub ends : (links : List Link) (steps : ℕ) (name other : List ℕ) → resolve_within steps links name ≡ Some other → applying links other ≡ None
ends links zero name other h = by (applying links name) refl
  where
    by : (found : Option Link) → applying links name ≡ found → applying links other ≡ None
    by None e = subst (λ n. applying links n ≡ None) (of_some name other (sym (last_step links name 0 e) ∙ h)) e
    by (Some link) e = absurd (none_is_none other (sym (no_step links name link e) ∙ h))
ends links (suc steps) name other h = by (ends links steps) (applying links name) refl
  where
    by : ((before after : List ℕ) → resolve_within steps links before ≡ Some after → applying links after ≡ None) → (found : Option Link) → applying links name ≡ found
        → applying links other ≡ None
    by less None e = subst (λ n. applying links n ≡ None) (of_some name other (sym (last_step links name (suc steps) e) ∙ h)) e
    by less (Some link) e = less (replaced name link) other (sym (ap (in_some links name steps) e) ∙ h)

pub resolved_names_stay : ResolvedNamesStay
resolved_names_stay links name other h = let e = ends links most_steps name other h in (e, last_step links other most_steps e)
