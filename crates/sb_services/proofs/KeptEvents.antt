-- The names that are kept of events.
use Rattle.std.proofs.Common.{◌≡◌, ◌<◌, ◌≤◌, ◌+◌, ◌==◌, ℕ, Bool, true, false, refl, sym, subst, ◌∙◌, ap, arith, zero, suc, List, [], ◌∷◌, ◌++◌, length, nat_le, if◌then◌else◌}
use Rattle.std.proofs.lemmas.Bool.{and_parts, false≢true}
use Rattle.std.proofs.lemmas.Bool.Decides.{nat_tests}
use Rattle.std.proofs.lemmas.List.{length-append}
use Rattle.std.specs.Prelude.{Option, None, Some, is_some, option_map, not, slice_index_or}
use Rattle.std.specs.List.{list_all, slice_get}
use Rattle.std.specs.Map.{lookup}
use Rattle.sb_names.specs.Keys.{key_of}
use Rattle.sb_names.specs.Laws.{NamesFold, PutsAreFound, PutsKeepRows}
use Rattle.sb_names.specs.Maps.{Rows, found, is_key, put}
use Rattle.sb_names.specs.Numbers.{PutsKeepNumbers, is_given}
use Rattle.sb_names.specs.Objects.{IsNameBy}
use Rattle.sb_base.specs.Names.{is_name_of}
use Rattle.sb_services.specs.Events.{AreKept, AreMade, number_of}
use Rattle.sb_services.specs.declared.event_rows.EventRow.{EventRow}
use Rattle.sb_services.proofs.EventNumbering.{none_made, one_more}
use Rattle.sb_services.proofs.NamedPipes.{own_key}

-- a number that was not given is that of no row
not_given : (count number : ℕ) (rows : Rows EventRow) → list_all (λ row. is_given count (number_of row.1)) rows ≡ true → is_given count number ≡ false
    → list_all (λ row. not (number_of row.1 == number)) rows ≡ true
not_given count number [] given none = refl
not_given count number (row ∷ rows) given none =
    let parts = and_parts (is_given count (number_of row.1)) (list_all (λ row. is_given count (number_of row.1)) rows) given in
    rw (by (number_of row.1 == number) refl parts.0) (not_given count number rows parts.1 none)
  where
    by : (b : Bool) → b ≡ (number_of row.1 == number) → is_given count (number_of row.1) ≡ true → not b ≡ true
    by false e own = refl
    by true e own =
        let same : number_of row.1 ≡ number = grind (arith, nat_tests, e) in
        absurd (false≢true (sym none ∙ sym (ap (is_given count) same) ∙ own))

pub none_of_number : (rows : Rows EventRow) (names : List (List ℕ)) (number : ℕ) → AreKept rows names → is_given (length names) number ≡ false
    → IsNameBy number_of rows number None
none_of_number rows names number kept none = not_given (length names) number rows kept.made.numbered.given none

at_front : (names : List (List ℕ)) (name : List ℕ) (n : ℕ) → n < length names → slice_index_or (names ++ name ∷ []) n [] ≡ slice_index_or names n []
at_front [] name n l = absurd (omega arith)
at_front (x ∷ names) name zero l = refl
at_front (x ∷ names) name (suc n) l = at_front names name n (omega arith)

at_end : (names : List (List ℕ)) (name : List ℕ) → slice_index_or (names ++ name ∷ []) (length names) [] ≡ name
at_end [] name = refl
at_end (x ∷ names) name = at_end names name

-- the name at a place
pub name_kept : (rows : Rows EventRow) (names : List (List ℕ)) (place number : ℕ) (name : List ℕ) → AreKept rows names → slice_get names place ≡ Some name
    → place + 1 ≡ number → IsNameBy number_of rows number (Some name)
name_kept rows names place number name kept at next =
    let there = at_place names place at in
    ap (λ key. option_map number_of (lookup (is_key key) rows)) (sym there.1) ∙ kept.under place there.0 ∙ ap (λ m. Some m) next
  where
    at_place : (names : List (List ℕ)) (n : ℕ) → slice_get names n ≡ Some name → (n < length names) × (slice_index_or names n [] ≡ name)
    at_place [] n e = absurd (cc)
    at_place (x ∷ names) zero e = (omega arith, ap value e)
      where
        value : Option (List ℕ) → List ℕ
        value None = []
        value (Some us) = us
    at_place (x ∷ names) (suc n) e =
        let more = at_place names n e in
        (omega (arith, more.0), more.1)

-- an event more, whose name is kept
pub kept_more : PutsAreFound EventRow → PutsKeepRows EventRow → PutsKeepNumbers EventRow → NamesFold → (rows more : Rows EventRow) (names after : List (List ℕ)) (name : List ℕ) (row : EventRow)
    → more ≡ put rows name row → after ≡ names ++ key_of name ∷ [] → row.number ≡ length names + 1 → found rows name ≡ None → is_name_of name ≡ true
    → AreKept rows names → AreKept more after
kept_more finds keeps numbers folds rows more names after name row is_more is_after own free is_name kept =
    subst (λ names. AreKept more names) (sym is_after) (record {
      made = subst (λ count. AreMade (record { rows = more; made = count })) (sym counted)
          (one_more numbers folds (record { rows = rows; made = length names }) more name row (length names + 1) refl own is_more is_name kept.made);
      under = λ n l. by n (nat_le (length names) n) refl l;
    })
  where
    counted : length (names ++ key_of name ∷ []) ≡ length names + 1
    counted = length-append names (key_of name ∷ [])

    by : (n : ℕ) (b : Bool) → b ≡ nat_le (length names) n → n < length (names ++ key_of name ∷ [])
        → option_map number_of (lookup (is_key (slice_index_or (names ++ key_of name ∷ []) n [])) more) ≡ Some (n + 1)
    by n false e l =
        let old : n < length names = grind (arith, nat_tests, e) in
        ap (λ key. option_map number_of (lookup (is_key key) more)) (at_front names (key_of name) n old)
        ∙ stays (lookup (is_key (slice_index_or names n [])) rows) refl (kept.under n old)
      where
        key : List ℕ
        key = slice_index_or names n []

        stays : (o : Option EventRow) → lookup (is_key key) rows ≡ o → option_map number_of o ≡ Some (n + 1) → option_map number_of (lookup (is_key key) more) ≡ Some (n + 1)
        stays None e h = absurd (false≢true (ap is_some h))
        stays (Some old) e h = ap (λ rows. option_map number_of (lookup (is_key key) rows)) is_more ∙ ap (option_map number_of) (keeps rows name key row old free e) ∙ h
    by n true e l =
        let high : length names ≤ n = grind (arith, nat_tests, e) in
        let same : n ≡ length names = omega (arith, counted, l, high) in
        new n same
      where
        new : (n : ℕ) → n ≡ length names → option_map number_of (lookup (is_key (slice_index_or (names ++ key_of name ∷ []) n [])) more) ≡ Some (n + 1)
        new n same =
            ap (λ m. option_map number_of (lookup (is_key (slice_index_or (names ++ key_of name ∷ []) m [])) more)) same
            ∙ ap (λ key. option_map number_of (lookup (is_key key) more)) (at_end names (key_of name))
            ∙ ap (λ rows. option_map number_of (found rows name)) is_more
            ∙ ap (option_map number_of) (finds rows name name row) ∙ ap (λ b. option_map number_of (if b then Some row else found rows name)) (own_key (key_of name))
            ∙ ap (λ m. Some m) own
            ∙ ap (λ m. Some (m + 1)) (sym same)

pub kept_none : (rows : Rows EventRow) (names : List (List ℕ)) → rows ≡ [] → names ≡ [] → AreKept rows names
kept_none rows names e n = subst (AreKept rows) (sym n) (record { made = none_made rows e; under = λ n l. absurd (omega (arith, l)) })
