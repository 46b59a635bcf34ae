-- Rules in their slots.
use Rattle.std.proofs.Math.Bool.{or-false, and-true, and-false}
use Rattle.std.proofs.Common.{◌≡◌, ◌∙◌, ◌≤◌, ◌<◌, ◌+◌, ◌-◌, ℕ, zero, suc, Bool, true, false, List, [], ◌∷◌, ◌++◌, ◌&&◌, ◌||◌, eqb, ltb, length, refl, ap, sym, arith}
use Rattle.std.specs.Prelude.{nat_le, slice_index_or, slice_set}
use Rattle.std.proofs.lemmas.Bool.{eqb-true, le-ltb, leb-false, leb-true, lt-ltb, ltb-true, ne_eqb, ltb-false}
use Rattle.std.proofs.lemmas.Bool.Decides.{nat_tests}
use Rattle.std.proofs.lemmas.List.{get_or_append_left, get_or_default, get_or_push, get_or-set_other, get_or-set_same}
use Rattle.sb_index.proofs.SetLemmas.{differ}
use Rattle.sb_index.specs.Marks.{AreFresh, is_marked, up_to}
use Rattle.sb_index.specs.Sets.{has}
use Rattle.sb_index.specs.declared.marks.Marks.{Marks}

-- a number that is put into one of the sets
abbrev pub IsPut : List (List ℕ) → List (List ℕ) → ℕ → ℕ → Type 0
IsPut old new at number = (s : ℕ) (k : ℕ) → has (slice_index_or new s []) k ≡ (has (slice_index_or old s []) k || (eqb k number && eqb s at))

pub one_put : (sets : List (List ℕ)) (slot number : ℕ) (set : List ℕ) → slot < length sets
    → ((k : ℕ) → has set k ≡ (has (slice_index_or sets slot []) k || eqb k number))
    → (s : ℕ) (k : ℕ) → has (slice_index_or (slice_set sets slot set) s []) k ≡ (has (slice_index_or sets s []) k || (eqb k number && eqb s slot))
one_put sets slot number set h put s k = by (eqb s slot) refl
  where
    by : (b : Bool) → eqb s slot ≡ b → has (slice_index_or (slice_set sets slot set) s []) k ≡ (has (slice_index_or sets s []) k || (eqb k number && b))
    by true t =
        let same : s ≡ slot = eqb-true s slot t in
        ap (λ x. has (slice_index_or (slice_set sets slot set) x []) k) same ∙ ap (λ w. has w k) (get_or-set_same sets slot set [] h) ∙ put k
        ∙ ap (λ x. has (slice_index_or sets x []) k || eqb k number) (sym same)
        ∙ ap (λ b. has (slice_index_or sets s []) k || b) (sym (and-true (eqb k number)))
    by false t =
        ap (λ w. has w k) (get_or-set_other sets slot s set [] (differ s slot t))
        ∙ sym (or-false (has (slice_index_or sets s []) k)) ∙ ap (λ b. has (slice_index_or sets s []) k || b) (sym (and-false (eqb k number)))

-- the sets up to one
pub up_put : (old new : List (List ℕ)) (at number : ℕ) → IsPut old new at number → (n : ℕ) (k : ℕ) → up_to new n k ≡ (up_to old n k || (eqb k number && ltb at n))
up_put old new at number put zero k = sym (ap (λ b. eqb k number && b) (none at) ∙ and-false (eqb k number))
  where
    none : (at : ℕ) → ltb at 0 ≡ false
    none at = le-ltb at 0 (omega arith)
up_put old new at number put (suc n) k =
    ap (λ b. b || has (slice_index_or new n []) k) (up_put old new at number put n k)
    ∙ ap (λ b. (up_to old n k || (eqb k number && ltb at n)) || b) (put n k)
    ∙ parts (up_to old n k) (has (slice_index_or old n []) k) (eqb k number) (ltb at n) (eqb n at)
    ∙ ap (λ b. (up_to old n k || has (slice_index_or old n []) k) || (eqb k number && b)) (sym (below at n))
  where
    below : (at n : ℕ) → ltb at (suc n) ≡ (ltb at n || eqb n at)
    below at n = grind (arith, nat_tests)

    parts : (u h e a q : Bool) → ((u || (e && a)) || (h || (e && q))) ≡ ((u || h) || (e && (a || q)))
    parts true h e a q = refl
    parts false true false a q = refl
    parts false true true true q = refl
    parts false true true false q = refl
    parts false false true a q = refl
    parts false false false a q = refl

not_this : (k number from : ℕ) → number < from → from ≤ k → eqb k number ≡ false
not_this k number from h g = ne_eqb k number (λ e. absurd (omega (arith, h, g, e)))

still_none : (new old e f : Bool) → new ≡ (old || (e && f)) → e ≡ false → old ≡ false → new ≡ false
still_none new old e f is none clear = is ∙ ap (λ b. b || (e && f)) clear ∙ ap (λ b. b && f) none

-- a rule in one slot
pub point_put : (new x e r : Bool) → new ≡ (x || e) → (new || r) ≡ ((x || r) || e)
point_put new x e r is = ap (λ b. b || r) is ∙ by x e r
  where
    by : (x e r : Bool) → ((x || e) || r) ≡ ((x || r) || e)
    by true e r = refl
    by false true true = refl
    by false true false = refl
    by false false true = refl
    by false false false = refl

pub set_fresh : (old new : List (List ℕ)) (at number from : ℕ) → IsPut old new at number → number < from → (n : ℕ) (k : ℕ) → from ≤ k
    → has (slice_index_or old n []) k ≡ false → has (slice_index_or new n []) k ≡ false
set_fresh old new at number from put less n k h clear =
    still_none (has (slice_index_or new n []) k) (has (slice_index_or old n []) k) (eqb k number) (eqb n at) (put n k) (not_this k number from less h) clear

pub up_fresh : (old new : List (List ℕ)) (at number from : ℕ) → IsPut old new at number → number < from → (n : ℕ) (k : ℕ) → from ≤ k
    → up_to old n k ≡ false → up_to new n k ≡ false
up_fresh old new at number from put less n k h clear =
    still_none (up_to new n k) (up_to old n k) (eqb k number) (ltb at n) (up_put old new at number put n k) (not_this k number from less h) clear

-- a rule from one slot to another, which no slot had
pub run_put : (old new : Marks) (slots first last number : ℕ) → new.points.items ≡ old.points.items → IsPut old.begins.items new.begins.items first number
    → IsPut old.ends.items new.ends.items (slots - 1 - last) number → length old.ends.items ≡ slots → length new.ends.items ≡ slots → last < slots
    → AreFresh old number → (s : ℕ) (k : ℕ) → s < slots → is_marked new s k ≡ (is_marked old s k || (eqb k number && (nat_le first s && nat_le s last)))
run_put old new slots first last number points begins ends many still inside fresh s k h =
    ap (λ ps. has (slice_index_or ps s []) k || (up_to new.begins.items (suc s) k && up_to new.ends.items (length new.ends.items - s) k)) points
    ∙ ap (λ n. has (slice_index_or old.points.items s []) k || (up_to new.begins.items (suc s) k && up_to new.ends.items (n - s) k)) still
    ∙ ap (λ b. has (slice_index_or old.points.items s []) k || (b && up_to new.ends.items (slots - s) k))
    (up_put old.begins.items new.begins.items first number begins (suc s) k ∙ ap (λ b. up_to old.begins.items (suc s) k || (eqb k number && b)) (begun first s))
    ∙ ap (λ b. has (slice_index_or old.points.items s []) k || ((up_to old.begins.items (suc s) k || (eqb k number && nat_le first s)) && b))
    (up_put old.ends.items new.ends.items (slots - 1 - last) number ends (slots - s) k
    ∙ ap (λ b. up_to old.ends.items (slots - s) k || (eqb k number && b)) (unended slots last s inside h))
    ∙ parts (has (slice_index_or old.points.items s []) k) (up_to old.begins.items (suc s) k) (up_to old.ends.items (slots - s) k) (eqb k number) refl
    (nat_le first s) (nat_le s last)
    ∙ ap (λ n. (has (slice_index_or old.points.items s []) k || (up_to old.begins.items (suc s) k && up_to old.ends.items (n - s) k))
    || (eqb k number && (nat_le first s && nat_le s last))) (sym many)
  where
    begun : (first s : ℕ) → ltb first (suc s) ≡ nat_le first s
    begun first s = grind (arith, nat_tests)

    unended : (slots last s : ℕ) → last < slots → s < slots → ltb (slots - 1 - last) (slots - s) ≡ nat_le s last
    unended slots last s h g = by (nat_le s last) refl
      where
        by : (b : Bool) → nat_le s last ≡ b → ltb (slots - 1 - last) (slots - s) ≡ b
        by true t = let le = leb-true s last t in lt-ltb (slots - 1 - last) (slots - s) (omega (arith, h, g, le))
        by false t = let lt = leb-false s last t in le-ltb (slots - 1 - last) (slots - s) (omega (arith, h, g, lt))

    equal : eqb k number ≡ true → number ≤ k
    equal t = let same : k ≡ number = eqb-true k number t in omega (arith, same)

    nothing : (p x : Bool) → (p || x) ≡ ((p || false) || x)
    nothing true x = refl
    nothing false x = refl

    parts : (p b c e : Bool) → eqb k number ≡ e → (f l : Bool) → (p || ((up_to old.begins.items (suc s) k || (e && f)) && (up_to old.ends.items (slots - s) k || (e && l))))
        ≡ ((p || (up_to old.begins.items (suc s) k && up_to old.ends.items (slots - s) k)) || (e && (f && l)))
    parts p b c true t f l =
        let le = equal t in
        ap (λ x. p || ((x || f) && (up_to old.ends.items (slots - s) k || l))) (fresh (suc s) k le).1
        ∙ ap (λ x. p || (f && (x || l))) (fresh (slots - s) k le).2
        ∙ nothing p (f && l)
        ∙ ap (λ x. (p || (x && up_to old.ends.items (slots - s) k)) || (f && l)) (sym (fresh (suc s) k le).1)
    parts p b c false t f l =
        ap (λ x. p || (x && (up_to old.ends.items (slots - s) k || false))) (or-false (up_to old.begins.items (suc s) k))
        ∙ ap (λ x. p || (up_to old.begins.items (suc s) k && x)) (or-false (up_to old.ends.items (slots - s) k))
        ∙ sym (or-false (p || (up_to old.begins.items (suc s) k && up_to old.ends.items (slots - s) k)))

-- what the sets up to one more have together
pub union_more : (sets : List (List ℕ)) (i : ℕ) (one set new : List ℕ) → one ≡ slice_index_or sets i one → i < length sets
    → ((k : ℕ) → has set k ≡ up_to sets i k) → ((k : ℕ) → has new k ≡ (has set k || has one k)) → (k : ℕ) → has new k ≡ up_to sets (suc i) k
union_more sets i one set new is h old put k =
    put k ∙ ap (λ b. b || has one k) (old k) ∙ ap (λ w. up_to sets i k || has w k) (is ∙ sym (get_or_default sets i [] one h))

-- one set more
pub sets_pushed : (P : ℕ → ℕ → Bool) (sets : List (List ℕ)) (set : List ℕ) (n : ℕ) → length sets ≡ n
    → ((slot : ℕ) (k : ℕ) → slot < n → has (slice_index_or sets slot []) k ≡ P slot k) → ((k : ℕ) → has set k ≡ P n k)
    → (slot : ℕ) (k : ℕ) → slot < n + 1 → has (slice_index_or (sets ++ set ∷ []) slot []) k ≡ P slot k
sets_pushed P sets set n many before here slot k h = by (ltb slot n) refl
  where
    by : (b : Bool) → ltb slot n ≡ b → has (slice_index_or (sets ++ set ∷ []) slot []) k ≡ P slot k
    by true t =
        let inside = ltb-true slot n t in
        ap (λ s. has s k) (get_or_append_left sets (set ∷ []) [] slot (omega (arith, inside, many))) ∙ before slot k inside
    by false t =
        let last : slot ≡ n = omega (arith, h, ltb-false slot n t) in
        ap (λ s. has s k) (get_or_push sets set [] slot (many ∙ sym last)) ∙ here k ∙ ap (λ m. P m k) (sym last)

-- the set of a slot
pub slot_merged : (marks : Marks) (slots slot : ℕ) (point before after set : List ℕ) → slot < slots → length marks.ends.items ≡ slots
    → slice_index_or marks.points.items slot [] ≡ point
    → ((k : ℕ) → has before k ≡ up_to marks.begins.items (suc slot) k) → ((k : ℕ) → has after k ≡ up_to marks.ends.items (suc (slots - 1 - slot)) k)
    → ((k : ℕ) → has set k ≡ (has point k || (has before k && has after k))) → (k : ℕ) → has set k ≡ is_marked marks slot k
slot_merged marks slots slot point before after set h many is up down put k =
    put k ∙ ap (λ w. has w k || (has before k && has after k)) (sym is)
    ∙ ap (λ b. has (slice_index_or marks.points.items slot []) k || (b && has after k)) (up k)
    ∙ ap (λ b. has (slice_index_or marks.points.items slot []) k || (up_to marks.begins.items (suc slot) k && b))
    (down k ∙ ap (λ n. up_to marks.ends.items n k) (rest (length marks.ends.items) slots slot many h))
  where
    rest : (n slots slot : ℕ) → n ≡ slots → slot < slots → suc (slots - 1 - slot) ≡ n - slot
    rest n slots slot e h = omega (arith, e, h)

-- a rule that is put to no slot is in none
pub fresh_unmarked : (marks : Marks) (k slot : ℕ) → AreFresh marks k → is_marked marks slot k ≡ false
fresh_unmarked marks k slot fresh =
    ap (λ b. b || (up_to marks.begins.items (suc slot) k && up_to marks.ends.items (length marks.ends.items - slot) k)) (fresh slot k (omega arith)).0
    ∙ ap (λ b. b && up_to marks.ends.items (length marks.ends.items - slot) k) (fresh (suc slot) k (omega arith)).1

pub fresh_later : (marks : Marks) (from more : ℕ) → from ≤ more → AreFresh marks from → AreFresh marks more
fresh_later marks from more h fresh n k g = fresh n k (omega (arith, h, g))

-- empty sets have no number together
pub none_up : (sets : List (List ℕ)) → ((s : ℕ) (k : ℕ) → has (slice_index_or sets s []) k ≡ false) → (n k : ℕ) → up_to sets n k ≡ false
none_up sets none zero k = refl
none_up sets none (suc n) k = ap (λ b. b || has (slice_index_or sets n []) k) (none_up sets none n k) ∙ none n k
