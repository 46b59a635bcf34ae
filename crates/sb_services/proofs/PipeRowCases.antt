-- Rows with one more, with another value, and with a handle fewer: what holds of each step holds of the whole.
use Rattle.std.proofs.lemmas.Option.{same_Some}
use Rattle.std.proofs.Common.{◌≡◌, ◌-◌, ℕ, Bool, true, false, cond, refl, sym, subst, ◌∙◌, ap, List, [], ◌∷◌, ◌==◌, nat_le, if◌then◌else◌}
use Rattle.std.proofs.lemmas.Bool.{false≢true}
use Rattle.std.specs.Prelude.{None, Some}
use Rattle.std.specs.BTreeMap.{insert_entry}
use Rattle.std.specs.Cmp.Lexicographic.{slice_cmp, bytes_decides, texts_ties}
use Rattle.std.specs.Map.{lookup, set_value}
use Rattle.std.specs.Ordering.{nat_cmp, match_ordering, is_eq}
use Rattle.std.specs.declared.cmp.Ordering.{Ordering}
use Rattle.std.specs.declared.cmp.Ordering.TheVariants.{Less, Equal, Greater}
use Rattle.sb_names.specs.Maps.{Rows, is_key}
use Rattle.sb_services.specs.Pipes.{fewer}
use Rattle.sb_services.specs.declared.pipe_rows.PipeRow.{PipeRow}

-- keys are compared unit by unit
abbrev pub by_unit : List ℕ → List ℕ → Ordering
by_unit = slice_cmp nat_cmp

pub equal_keys : (a b : List ℕ) → is_key a b ≡ true → a ≡ b
equal_keys a b h = (bytes_decides a b).0 h

module _ {V : Type 0} (P : Rows V → Rows V → Type 0) where
  -- a row of a key that is not there goes somewhere among the others
  pub put_cases : (key : List ℕ) (value : V) → ((rows : Rows V) → P rows ((key, value) ∷ rows))
      → ((row : List ℕ × V) (rows more : Rows V) → P rows more → P (row ∷ rows) (row ∷ more))
      → (rows : Rows V) → lookup (is_key key) rows ≡ None → P rows (insert_entry by_unit rows key value)
  put_cases key value here on [] h = here []
  put_cases key value here on (row ∷ rows) h = by (by_unit key row.0) refl (is_key key row.0) refl h (put_cases key value here on rows)
    where
      by : (o : Ordering) → by_unit key row.0 ≡ o → (b : Bool) → is_key key row.0 ≡ b → cond b (Some row.1) (lookup (is_key key) rows) ≡ None
          → (lookup (is_key key) rows ≡ None → P rows (insert_entry by_unit rows key value))
          → P (row ∷ rows) (match_ordering o ((key, value) ∷ row ∷ rows) ((row.0, value) ∷ rows) (row ∷ insert_entry by_unit rows key value))
      by o e true t h f = absurd (cc)
      by Less e false t h f = here (row ∷ rows)
      by Equal e false t h f = absurd (false≢true (sym t ∙ texts_ties key row.0 ∙ ap is_eq e))
      by Greater e false t h f = on row rows (insert_entry by_unit rows key value) (f h)

  -- the row of a key that is there gets another value
  pub set_cases : (key : List ℕ) (old value : V) → ((name : List ℕ) (rows : Rows V) → P ((name, old) ∷ rows) ((name, value) ∷ rows))
      → ((row : List ℕ × V) (rows more : Rows V) → P rows more → P (row ∷ rows) (row ∷ more))
      → (rows : Rows V) → lookup (is_key key) rows ≡ Some old → P rows (set_value (is_key key) rows value)
  set_cases key old value here on [] h = absurd (cc)
  set_cases key old value here on (row ∷ rows) h = by (is_key key row.0) h (set_cases key old value here on rows)
    where
      at_row : row.1 ≡ old → P (row ∷ rows) ((row.0, value) ∷ rows)
      at_row e = subst (λ v. P ((row.0, v) ∷ rows) ((row.0, value) ∷ rows)) (sym e) (here row.0 rows)

      by : (b : Bool) → cond b (Some row.1) (lookup (is_key key) rows) ≡ Some old
          → (lookup (is_key key) rows ≡ Some old → P rows (set_value (is_key key) rows value))
          → P (row ∷ rows) (cond b ((row.0, value) ∷ rows) (row ∷ set_value (is_key key) rows value))
      by true h f = at_row (same_Some row.1 old h)
      by false h f = on row rows (set_value (is_key key) rows value) (f h)

-- a pipe has one handle fewer, or is gone
pub fewer_cases : (P : Rows PipeRow → Rows PipeRow → Type 0) (number : ℕ) → P [] []
    → ((row : List ℕ × PipeRow) (rows : Rows PipeRow) → (row.1.number == number) ≡ true → nat_le row.1.handles 1 ≡ true → P (row ∷ rows) rows)
    → ((row : List ℕ × PipeRow) (rows : Rows PipeRow) → (row.1.number == number) ≡ true → nat_le row.1.handles 1 ≡ false
    → P (row ∷ rows) ((row.0, record row.1 { handles = row.1.handles - 1 }) ∷ rows))
    → ((row : List ℕ × PipeRow) (rows more : Rows PipeRow) → (row.1.number == number) ≡ false → P rows more → P (row ∷ rows) (row ∷ more))
    → (rows : Rows PipeRow) → P rows (fewer rows number)
fewer_cases P number none gone less on [] = none
fewer_cases P number none gone less on (row ∷ rows) =
    by (row.1.number == number) refl (nat_le row.1.handles 1) refl (fewer_cases P number none gone less on rows)
  where
    by : (s : Bool) → (row.1.number == number) ≡ s → (t : Bool) → nat_le row.1.handles 1 ≡ t → P rows (fewer rows number)
        → P (row ∷ rows) (if s then (if t then rows else (row.0, record row.1 { handles = row.1.handles - 1 }) ∷ rows) else row ∷ fewer rows number)
    by true e true h f = gone row rows e h
    by true e false h f = less row rows e h
    by false e t h f = on row rows (fewer rows number) e f
