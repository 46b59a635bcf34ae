-- The order of links does not matter.
use Rattle.std.proofs.Common.{◌≡◌, ◌∙◌, ℕ, zero, suc, ◌≤◌, Bool, true, false, not, ◌||◌, map, List, [], ◌∷◌, length, take, drop, Option, None, Some, inl, inr, refl, subst, ap, sym, arith}
use Rattle.std.specs.List.{list_any}
use Rattle.std.proofs.lemmas.Bool.{and_parts, false≢true}
use Rattle.std.specs.Cmp.Lexicographic.{bytes_decides}
use Rattle.sb_base.specs.Wide.{folded, is_same}
use Rattle.sb_link.specs.Links.{AreLinks, are_distinct, is_from}
use Rattle.sb_link.specs.Resolution.{applying, ends_component, is_under, replaced, resolve_within, most_steps}
use Rattle.sb_link.specs.ResolutionLaws.{IsAmong, IsLongest, OrderDoesNotMatter}
use Rattle.sb_link.specs.declared.links.Link.{Link}
use Rattle.sb_link.proofs.Adding.{same_back}
use Rattle.sb_link.proofs.Longest.{longest_is, none_applies}
use Rattle.sb_link.proofs.Steps.{last_step, no_step, first_step}

any_has : (name : List ℕ) (links : List Link) (link : Link) → IsAmong link links → is_from name link ≡ true → list_any (is_from name) links ≡ true
any_has name [] link m h = absurd m
any_has name (first ∷ links) link (inl e) h = ap (λ b. b || list_any (is_from name) links) (subst (λ l. is_from name l ≡ true) e h)
any_has name (first ∷ links) link (inr m) h = or_right (is_from name first) _ (any_has name links link m h)
  where
    or_right : (a b : Bool) → b ≡ true → (a || b) ≡ true
    or_right true b k = refl
    or_right false b k = k

not_any : (b : Bool) → not b ≡ true → b ≡ true → ⊥
not_any true h k = false≢true h
not_any false h k = false≢true k

-- of links no two of which begin with the same name
only_one : (links : List Link) (a b : Link) → are_distinct links ≡ true → IsAmong a links → IsAmong b links → is_same a.from b.from ≡ true → a ≡ b
only_one [] a b h m n s = absurd m
only_one (first ∷ links) a b h (inl e) (inl f) s = e ∙ sym f
only_one (first ∷ links) a b h (inl e) (inr n) s =
    absurd (not_any (list_any (is_from first.from) links) (and_parts _ (are_distinct links) h).0
    (any_has first.from links b n (subst (λ l. is_same b.from l.from ≡ true) e (same_back a.from b.from s))))
only_one (first ∷ links) a b h (inr m) (inl f) s =
    absurd (not_any (list_any (is_from first.from) links) (and_parts _ (are_distinct links) h).0
    (any_has first.from links a m (subst (λ l. is_same a.from l.from ≡ true) f s)))
only_one (first ∷ links) a b h (inr m) (inr n) s = only_one links a b (and_parts _ (are_distinct links) h).1 m n s

front_same : (a b name : List ℕ) → length a ≡ length b → is_under a name ≡ true → is_under b name ≡ true → is_same a b ≡ true
front_same a b name e h k =
    let f : map folded a ≡ map folded (take (length a) name) =
    (bytes_decides _ _).0 (and_parts (is_same a (take (length a) name)) (ends_component (drop (length a) name)) h).0 in
    let g : map folded b ≡ map folded (take (length b) name) =
    (bytes_decides _ _).0 (and_parts (is_same b (take (length b) name)) (ends_component (drop (length b) name)) k).0 in
    (bytes_decides _ _).1 (f ∙ ap (λ n. map folded (take n name)) e ∙ sym g)

module _ (links others : List Link) (are : AreLinks links) (there : (link : Link) → IsAmong link links → IsAmong link others)
    (back : (link : Link) → IsAmong link others → IsAmong link links) where
  one_link : (name : List ℕ) (a b : Link) → IsLongest links name a → IsLongest others name b → a ≡ b
  one_link name a b x y =
      only_one links a b are.distinct x.there (back b y.there)
      (front_same a.from b.from name (equal (y.longest a (there a x.there) x.applies) (x.longest b (back b y.there) y.applies)) x.applies y.applies)
    where
      equal : length a.from ≤ length b.from → length b.from ≤ length a.from → length a.from ≡ length b.from
      equal p q = omega arith

  pub same_applies : (name : List ℕ) → applying links name ≡ applying others name
  same_applies name = by (applying links name) (applying others name) refl refl
    where
      by : (f g : Option Link) → applying links name ≡ f → applying others name ≡ g → applying links name ≡ applying others name
      by None None e h = e ∙ sym h
      by None (Some b) e h =
          let longest = longest_is others name b h in
          absurd (none_applies links name b e (back b longest.there) longest.applies)
      by (Some a) None e h =
          let longest = longest_is links name a e in
          absurd (none_applies others name a h (there a longest.there) longest.applies)
      by (Some a) (Some b) e h = e ∙ ap (λ l. Some l) (one_link name a b (longest_is links name a e) (longest_is others name b h)) ∙ sym h

  same_resolves : (steps : ℕ) (name : List ℕ) → resolve_within steps links name ≡ resolve_within steps others name
  same_resolves zero name = by (applying links name) refl
    where
      by : (f : Option Link) → applying links name ≡ f → resolve_within 0 links name ≡ resolve_within 0 others name
      by None e = last_step links name 0 e ∙ sym (last_step others name 0 (sym (same_applies name) ∙ e))
      by (Some link) e = no_step links name link e ∙ sym (no_step others name link (sym (same_applies name) ∙ e))
  same_resolves (suc n) name = by (same_resolves n) (applying links name) refl
    where
      by : ((other : List ℕ) → resolve_within n links other ≡ resolve_within n others other) → (f : Option Link) → applying links name ≡ f
          → resolve_within (suc n) links name ≡ resolve_within (suc n) others name
      by less None e = last_step links name (suc n) e ∙ sym (last_step others name (suc n) (sym (same_applies name) ∙ e))
      by less (Some link) e =
          first_step links name link n e ∙ less (replaced name link)
          ∙ sym (first_step others name link n (sym (same_applies name) ∙ e))

pub order_does_not_matter : OrderDoesNotMatter
order_does_not_matter links others are also there back name = same_resolves links others are there back most_steps name
