-- What a rename does to the names, by the node of the old one and the directory of the new one.
use Rattle.std.proofs.Common.{◌≡◌, ℕ, false, sym, ◌∙◌, ap, List, ◌∷◌, ◌++◌, map}
use Rattle.std.specs.Prelude.{Option, Some}
use Rattle.sb_arena.specs.Forests.{IsShallow, HasLiveLinks}
use Rattle.sb_names.specs.Keys.{key_of, parent_of, is_below}
use Rattle.sb_names.specs.Maps.{Rows}
use Rattle.sb_names.specs.Nodes.{Nodes, HasNames, IsApart, IsAt, KeepsAllBut, KeepsOtherNodes, KeepsRows, name_of, rows_of}
use Rattle.sb_names.specs.Renames.{collected, renamed_key, renamed_rows}
use Rattle.sb_names.proofs.AddLemmas.{whole_key}
use Rattle.sb_names.proofs.Moving.{paths_apart}
use Rattle.sb_names.proofs.RenameLemmas.{not_into_itself}

pub others_kept : (f f' : Nodes) (a : ℕ) (key : List ℕ) → name_of f (Some a) ≡ key → KeepsOtherNodes f f' a → KeepsAllBut f f' key
others_kept f f' a key named others n ne = others n (λ same. ne (ap (λ m. name_of f (Some m)) same ∙ named))

module _ (f : Nodes) (names : HasNames f) (shallow : IsShallow f.rows) (live_links : HasLiveLinks f) (old new : List ℕ) (a : ℕ) (at : IsAt f (Some a) (key_of old))
    (outside : is_below (key_of old) (key_of new) ≡ false) (path part : List ℕ) (is_path : path ≡ parent_of new) (d : Option ℕ) (whole : new ≡ parent_of new ++ 92 ∷ part)
    (here : IsAt f d (key_of path)) where
  cut : new ≡ path ++ 92 ∷ part
  cut = whole ∙ ap (λ us. us ++ 92 ∷ part) (sym is_path)

  is_whole : key_of new ≡ name_of f d ++ 92 ∷ key_of part
  is_whole = whole_key f names shallow live_links new path part d is_path cut here

  -- the directory is not below the node
  pub rename_apart : IsApart f a d
  rename_apart = paths_apart f a d (not_into_itself f shallow live_links a d (key_of old) (key_of new) (key_of part) at.1 is_whole outside)

  pub rename_rows : (rows' : Rows ℕ)
      → rows' ≡ collected (map (λ row. (renamed_key (name_of f (Some a)) (name_of f d ++ 92 ∷ key_of part) row.0, row.1)) (rows_of f))
      → rows' ≡ renamed_rows (rows_of f) old new
  rename_rows rows' e = e ∙ (λ i. collected (map (λ row. (renamed_key (at.1 i) (sym is_whole i) row.0, row.1)) (rows_of f)))

  pub rename_keeps : (f' : Nodes) → KeepsRows f f' (name_of f (Some a)) (name_of f d ++ 92 ∷ key_of part) → KeepsRows f f' (key_of old) (key_of new)
  rename_keeps f' keeps n live =
      ((keeps n live).0, (keeps n live).1 ∙ (λ i. renamed_key (at.1 i) (sym is_whole i) (name_of f (Some n))))
