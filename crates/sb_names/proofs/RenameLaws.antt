-- What the renaming and the removal of a name leave of a tree of rows.
use Rattle.std.proofs.Common.{◌⊎◌, inl, inr, ◌≡◌, ◌≤◌, ◌==◌, ℕ, Bool, true, false, cond, refl, sym, ◌∙◌, ap, subst, arith, zero, suc, List, [], ◌∷◌, ◌++◌, length, drop, map, if◌then◌else◌}
use Rattle.std.proofs.lemmas.Bool.{false≢true, and_parts}
use Rattle.std.proofs.lemmas.Bool.Decides.{nat_tests}
use Rattle.std.proofs.lemmas.List.{append-nil, append_cancel_left}
use Rattle.std.specs.Prelude.{Option, Some, None, Result, Ok, Err, is_some, not, ◌&&◌, ◌||◌}
use Rattle.std.specs.List.{AllByRecursion, list_all, list_any}
use Rattle.std.specs.Map.{keys_of, lookup}
use Rattle.sb_base.specs.Names.{is_name_of}
use Rattle.sb_names.specs.Keys.{key_of, parent_of, is_backslash, is_below}
use Rattle.sb_names.specs.Laws.{RenamesAddNothing, RenamesAreFound, RenamesKeepTrees, RenamesLeaveNothing}
use Rattle.sb_names.specs.Maps.{Rows, is_key, is_there}
use Rattle.sb_names.specs.Nodes.{is_path}
use Rattle.sb_names.specs.Renames.{collected, RenameRefusal, absent, exists, into_itself, is_at_or_below, no_parent, renamed_key, renamed_rows, renamed_tree}
use Rattle.sb_names.specs.Trees.{AreFolded, IsTree, has_parent, is_directory_there}
use Rattle.sb_names.proofs.MapLaws.{is_found, is_key_eq, own_test}
use Rattle.sb_names.proofs.NameLemmas.{folded_join, nothing_before, parent_is_path, parent_path}
use Rattle.sb_names.proofs.RenameLemmas.{below_more, found_under, has_path, with_path, within_more}
use Rattle.sb_names.proofs.RisingLemmas.{all_put}
use Rattle.sb_names.proofs.TreeLaws.{keys_again, parent_folded}
use Rattle.sb_names.proofs.TreeLemmas.{all_tested}

-- a key has a row
abbrev pub Has : Rows ℕ → List ℕ → Type 0
Has rows key = is_some (lookup (is_key key) rows) ≡ true

-- a key that has a row passes if all keys do
pub key_passes : (test : List ℕ → Bool) (rows : Rows ℕ) (key : List ℕ) → list_all (λ row. test row.0) rows ≡ true → Has rows key → test key ≡ true
key_passes test [] key all there = absurd (false≢true there)
key_passes test (row ∷ rows) key all there = by (is_key key row.0) refl there (key_passes test rows key parts.1)
  where
    parts : (test row.0 ≡ true) × (list_all (λ row. test row.0) rows ≡ true)
    parts = and_parts (test row.0) (list_all (λ row. test row.0) rows) all

    by : (b : Bool) → is_key key row.0 ≡ b → is_some (cond b (Some row.1) (lookup (is_key key) rows)) ≡ true → (Has rows key → test key ≡ true) → test key ≡ true
    by true e t again = ap test (is_key_eq key row.0 e) ∙ parts.0
    by false e t again = again t

-- what holds of each key that has a row holds of all keys of rows
pub all_keys : (P : List ℕ → Type 0) (rows : Rows ℕ) → ((key : List ℕ) → Has rows key → P key) → AllByRecursion P (keys_of rows)
all_keys P [] h = tt
all_keys P (row ∷ rows) h = (h row.0 (first (is_key row.0 row.0) (own_test row.0)), all_keys P rows (λ key t. h key (later key (is_key key row.0) t)))
  where
    first : (b : Bool) → b ≡ true → is_some (cond b (Some row.1) (lookup (is_key row.0) rows)) ≡ true
    first true e = refl
    first false e = absurd (false≢true e)

    later : (key : List ℕ) (b : Bool) → Has rows key → is_some (cond b (Some row.1) (lookup (is_key key) rows)) ≡ true
    later key true t = refl
    later key false t = t

abbrev pub under : (List ℕ → List ℕ) → Rows ℕ → Rows ℕ
under g rows = collected (map (λ row. (g row.0, row.1)) rows)

pub all_under : (P : List ℕ → Type 0) (g : List ℕ → List ℕ) (rows : Rows ℕ) → AllByRecursion (λ key. P (g key)) (keys_of rows) → AllByRecursion P (keys_of (under g rows))
all_under P g [] h = tt
all_under P g (row ∷ rows) h = all_put P (g row.0) row.1 (under g rows) (all_under P g rows h.1) h.0

-- a key that is found under new keys is the new key of one
new_key : (g : List ℕ → List ℕ) (other : List ℕ) (rows : Rows ℕ) → Has (under g rows) other → (key : List ℕ) × Has rows key × (g key ≡ other)
new_key g other [] h = absurd (false≢true h)
new_key g other (row ∷ rows) h =
    by (is_key other (g row.0)) refl (sym (ap is_some (is_found (g row.0) row.1 other (under g rows))) ∙ h) (new_key g other rows)
  where
    by : (b : Bool) → is_key other (g row.0) ≡ b → is_some (if b then Some row.1 else lookup (is_key other) (under g rows)) ≡ true
        → (Has (under g rows) other → (key : List ℕ) × Has rows key × (g key ≡ other)) → (key : List ℕ) × Has (row ∷ rows) key × (g key ≡ other)
    by true e t again = (row.0, first (is_key row.0 row.0) (own_test row.0), sym (is_key_eq other (g row.0) e))
      where
        first : (b : Bool) → b ≡ true → is_some (cond b (Some row.1) (lookup (is_key row.0) rows)) ≡ true
        first true e = refl
        first false e = absurd (false≢true e)
    by false e t again = more (again t)
      where
        later : (key : List ℕ) (b : Bool) → Has rows key → is_some (cond b (Some row.1) (lookup (is_key key) rows)) ≡ true
        later key true t = refl
        later key false t = t

        more : ((key : List ℕ) × Has rows key × (g key ≡ other)) → (key : List ℕ) × Has (row ∷ rows) key × (g key ≡ other)
        more found = (found.0, later found.0 (is_key found.0 row.0) found.1, found.2)

-- a name with a `\` is its parent, a `\` and a last part
last_part : (us : List ℕ) → list_any is_backslash us ≡ true → (part : List ℕ) × (us ≡ parent_of us ++ 92 ∷ part) × (list_any is_backslash part ≡ false)
last_part [] h = absurd (false≢true h)
last_part (u ∷ us) h = by (list_any is_backslash us) refl h (last_part us)
  where
    by : (b : Bool) → list_any is_backslash us ≡ b → (is_backslash u || b) ≡ true
        → (list_any is_backslash us ≡ true → (part : List ℕ) × (us ≡ parent_of us ++ 92 ∷ part) × (list_any is_backslash part ≡ false))
        → (part : List ℕ) × (u ∷ us ≡ (if b then u ∷ parent_of us else []) ++ 92 ∷ part) × (list_any is_backslash part ≡ false)
    by true e t again =
        let rest = again e in
        (rest.0, ap (λ more. u ∷ more) rest.1, rest.2)
    by false e t again =
        let bar : u ≡ 92 = last (is_backslash u) refl t in
        (us, ap (λ v. v ∷ us) bar, e)
      where
        last : (b : Bool) → b ≡ is_backslash u → (b || false) ≡ true → u ≡ 92
        last true s t = grind (arith, nat_tests, s)
        last false s t = absurd (false≢true t)

some_parent : (us : List ℕ) → (parent_of us ≡ [] → ⊥) → list_any is_backslash us ≡ true
some_parent [] some = absurd (some refl)
some_parent (u ∷ us) some = by (list_any is_backslash us) refl some
  where
    by : (b : Bool) → list_any is_backslash us ≡ b → ((if b then u ∷ parent_of us else []) ≡ [] → ⊥) → (is_backslash u || b) ≡ true
    by false e some = absurd (some refl)
    by true e some = either (is_backslash u)
      where
        either : (b : Bool) → (b || true) ≡ true
        either true = refl
        either false = refl

-- a parent is shorter
parent_less : (u : ℕ) (us : List ℕ) → length (parent_of (u ∷ us)) ≤ length us
parent_less u [] = omega arith
parent_less u (v ∷ vs) = choose (list_any is_backslash (v ∷ vs)) (parent_less v vs)
  where
    choose : (b : Bool) → length (parent_of (v ∷ vs)) ≤ length vs → length (if b then u ∷ parent_of (v ∷ vs) else []) ≤ length (v ∷ vs)
    choose true h = omega (arith, h)
    choose false h = omega arith

key_drop : (n : ℕ) (us : List ℕ) → key_of (drop n us) ≡ drop n (key_of us)
key_drop zero us = refl
key_drop (suc n) [] = refl
key_drop (suc n) (u ∷ us) = key_drop n us

module _ (rows : Rows ℕ) (tree : IsTree rows) (are_folded : AreFolded rows) where
  pub own_folded : (key : List ℕ) → Has rows key → key_of key ≡ key
  own_folded key there = is_key_eq (key_of key) key (key_passes (λ k. is_key (key_of k) k) rows key are_folded there)

  -- the directory of a key that has a row has one, or is the root
  directory_row : (key : List ℕ) → Has rows key → (parent_of key ≡ [] → ⊥) → Has rows (parent_of key)
  directory_row key there some =
      by (parent_of key) some (sym (parent_folded key) ∙ ap parent_of (own_folded key there)) (key_passes (has_parent rows) rows key tree there)
    where
      by : (path : List ℕ) → (path ≡ [] → ⊥) → key_of path ≡ path → is_directory_there rows path ≡ true → Has rows path
      by [] some same h = absurd (some refl)
      by (u ∷ us) some same h = subst (λ k. Has rows k) same h

  -- what is above a key that has a row has one too
  above : (n : ℕ) (top rest : List ℕ) → (top ≡ [] → ⊥) → length rest ≤ n → is_path rest ≡ true → Has rows (top ++ rest) → Has rows top
  above n top [] some l p there = subst (λ k. Has rows k) (append-nil top) there
  above zero top (u ∷ us) some l p there = absurd (omega (arith, l))
  above (suc n) top (u ∷ us) some l p there =
      let bar : u ≡ 92 = grind (arith, nat_tests, p) in
      let whole : Has rows (top ++ 92 ∷ us) = subst (λ v. Has rows (top ++ v ∷ us)) bar there in
      let cut = parent_path top us in
      let up = directory_row (top ++ 92 ∷ us) whole (λ e. some (nothing_before top (parent_of (92 ∷ us)) (sym cut ∙ e))) in
      let shorter : suc (length us) ≤ suc n = l in
      let less = parent_less 92 us in
      above n top (parent_of (92 ∷ us)) some (omega (arith, shorter, less)) (parent_is_path us) (subst (λ k. Has rows k) cut up)

  module _ (old new : List ℕ) (some : new ≡ [] → ⊥) (gone : is_some (lookup (is_key new) rows) ≡ false) where
    -- nothing is at or below a name that is not there
    nothing_at : (key : List ℕ) → Has rows key → is_at_or_below new key ≡ false
    nothing_at key there = by (is_at_or_below new key) refl
      where
        by : (b : Bool) → is_at_or_below new key ≡ b → b ≡ false
        by false t = refl
        by true t =
            let parts = has_path new key t in
            absurd (false≢true (sym gone ∙ above (length (drop (length new) key)) new (drop (length new) key) some (omega arith) parts.1
            (subst (λ k. Has rows k) parts.0 there)))

    -- no two keys are renamed to one
    renamed_one : (j k : List ℕ) → Has rows j → Has rows k → renamed_key old new j ≡ renamed_key old new k → j ≡ k
    renamed_one j k there_j there_k same = by (is_at_or_below old j) (is_at_or_below old k) refl refl same
      where
        clash : (i h : List ℕ) → Has rows h → is_at_or_below old i ≡ true → new ++ drop (length old) i ≡ h → ⊥
        clash i h there s e =
            false≢true (sym (nothing_at h there) ∙ ap (is_at_or_below new) (sym e) ∙ with_path new (drop (length old) i) ∙ (has_path old i s).1)

        by : (b c : Bool) → is_at_or_below old j ≡ b → is_at_or_below old k ≡ c
            → (if b then new ++ drop (length old) j else j) ≡ (if c then new ++ drop (length old) k else k) → j ≡ k
        by true true s t e =
            (has_path old j s).0 ∙ ap (λ us. old ++ us) (append_cancel_left new (drop (length old) j) (drop (length old) k) e) ∙ sym (has_path old k t).0
        by true false s t e = absurd (clash j k there_k s e)
        by false true s t e = absurd (clash k j there_j t (sym e))
        by false false s t e = e

    -- what has a row is found under its new key
    pub found_renamed : (key : List ℕ) → Has rows key → lookup (is_key (renamed_key old new key)) (under (renamed_key old new) rows) ≡ lookup (is_key key) rows
    found_renamed key there = by (lookup (is_key key) rows) refl there
      where
        by : (o : Option ℕ) → lookup (is_key key) rows ≡ o → is_some o ≡ true
            → lookup (is_key (renamed_key old new key)) (under (renamed_key old new) rows) ≡ lookup (is_key key) rows
        by None e t = absurd (false≢true t)
        by (Some v) e t =
            found_under (renamed_key old new) key v rows
            (all_keys (λ k. renamed_key old new k ≡ renamed_key old new key → k ≡ key) rows (λ k there_k same. renamed_one k key there_k there same)) e
            ∙ sym e

    module _ (new_folded : key_of new ≡ new) where
      pub renamed_folded : (key : List ℕ) → key_of key ≡ key → key_of (renamed_key old new key) ≡ renamed_key old new key
      renamed_folded key same = by (is_at_or_below old key)
        where
          by : (b : Bool) → key_of (if b then new ++ drop (length old) key else key) ≡ (if b then new ++ drop (length old) key else key)
          by false = same
          by true =
              folded_join new (drop (length old) key) ∙ (λ i. new_folded i ++ key_drop (length old) key i) ∙ ap (λ us. new ++ drop (length old) us) same

      -- a directory that has a row is there under its new key
      directory_renamed : (key : List ℕ) → Has rows key → is_directory_there (under (renamed_key old new) rows) (renamed_key old new key) ≡ true
      directory_renamed key there =
          by (renamed_key old new key) (renamed_folded key (own_folded key there)) (ap is_some (found_renamed key there) ∙ there)
        where
          by : (path : List ℕ) → key_of path ≡ path → Has (under (renamed_key old new) rows) path → is_directory_there (under (renamed_key old new) rows) path ≡ true
          by [] same h = refl
          by (u ∷ us) same h = subst (λ k. Has (under (renamed_key old new) rows) k) (sym same) h

      -- a directory that is not renamed is there still
      directory_stays : (path : List ℕ) → ((path ≡ [] → ⊥) → Has rows path) → ((path ≡ [] → ⊥) → is_at_or_below old path ≡ false)
          → is_directory_there (under (renamed_key old new) rows) path ≡ true
      directory_stays [] there apart = refl
      directory_stays (u ∷ us) there apart =
          let some_path : u ∷ us ≡ [] → ⊥ = not_empty u us in
          let stays : renamed_key old new (u ∷ us) ≡ u ∷ us = ap (λ b. if b then new ++ drop (length old) (u ∷ us) else (u ∷ us)) (apart some_path) in
          subst (λ p. is_directory_there (under (renamed_key old new) rows) p ≡ true) stays (directory_renamed (u ∷ us) (there some_path))
        where
          not_empty : (u : ℕ) (us : List ℕ) → u ∷ us ≡ [] → ⊥
          not_empty u us e = absurd (cc)

      module _ (old_some : old ≡ [] → ⊥) (outside : is_below old new ≡ false) (directory : (parent_of new ≡ [] → ⊥) → Has rows (parent_of new)) where
        -- the directory of the new name is not renamed
        pub new_apart : (parent_of new ≡ [] → ⊥) → is_at_or_below old (parent_of new) ≡ false
        new_apart some_parent_of = by (is_at_or_below old (parent_of new)) refl
          where
            by : (b : Bool) → is_at_or_below old (parent_of new) ≡ b → b ≡ false
            by false t = refl
            by true t =
                let last = last_part new (some_parent new some_parent_of) in
                absurd (false≢true (sym outside ∙ ap (is_below old) last.1 ∙ below_more old (parent_of new) last.0 t))

        -- the directory of a key that is not renamed is not either
        pub key_apart : (key : List ℕ) → is_at_or_below old key ≡ false → (parent_of key ≡ [] → ⊥) → is_at_or_below old (parent_of key) ≡ false
        key_apart key apart some_parent_of = by (is_at_or_below old (parent_of key)) refl
          where
            by : (b : Bool) → is_at_or_below old (parent_of key) ≡ b → b ≡ false
            by false t = refl
            by true t =
                let last = last_part key (some_parent key some_parent_of) in
                absurd (false≢true (sym apart ∙ ap (is_at_or_below old) last.1 ∙ within_more old (parent_of key) last.0 t))

        -- each key has its directory after the rename
        parent_renamed : (key : List ℕ) → Has rows key → has_parent (under (renamed_key old new) rows) (renamed_key old new key) ≡ true
        parent_renamed key there = by (is_at_or_below old key) refl
          where
            -- a key below the old name is renamed as its directory is
            lower : (s : List ℕ) → key ≡ old ++ 92 ∷ s → is_directory_there (under (renamed_key old new) rows) (parent_of (new ++ 92 ∷ s)) ≡ true
            lower s whole =
                let up : parent_of key ≡ old ++ parent_of (92 ∷ s) = ap parent_of whole ∙ parent_path old s in
                let row : Has rows (parent_of key) = directory_row key there (λ none. old_some (nothing_before old (parent_of (92 ∷ s)) (sym up ∙ none))) in
                let at : is_at_or_below old (parent_of key) ≡ true = ap (is_at_or_below old) up ∙ with_path old (parent_of (92 ∷ s)) ∙ parent_is_path s in
                let rest : drop (length old) (parent_of key) ≡ parent_of (92 ∷ s) =
                append_cancel_left old (drop (length old) (parent_of key)) (parent_of (92 ∷ s)) (sym (has_path old (parent_of key) at).0 ∙ up) in
                let moved : renamed_key old new (parent_of key) ≡ new ++ parent_of (92 ∷ s) =
                ap (λ b. if b then new ++ drop (length old) (parent_of key) else parent_of key) at ∙ ap (λ us. new ++ us) rest in
                subst (λ p. is_directory_there (under (renamed_key old new) rows) p ≡ true) (moved ∙ sym (parent_path new s)) (directory_renamed (parent_of key) row)

            inside : (rest : List ℕ) → key ≡ old ++ rest → is_path rest ≡ true → is_directory_there (under (renamed_key old new) rows) (parent_of (new ++ rest)) ≡ true
            inside [] e p =
                subst (λ us. is_directory_there (under (renamed_key old new) rows) (parent_of us) ≡ true) (sym (append-nil new))
                (directory_stays (parent_of new) directory new_apart)
            inside (v ∷ s) e p =
                let bar : v ≡ 92 = grind (arith, nat_tests, p) in
                subst (λ b. is_directory_there (under (renamed_key old new) rows) (parent_of (new ++ b ∷ s)) ≡ true) (sym bar) (lower s (e ∙ ap (λ b. old ++ b ∷ s) bar))

            by : (b : Bool) → is_at_or_below old key ≡ b
                → is_directory_there (under (renamed_key old new) rows) (parent_of (if b then new ++ drop (length old) key else key)) ≡ true
            by false t = directory_stays (parent_of key) (directory_row key there) (key_apart key t)
            by true t = inside (drop (length old) key) (has_path old key t).0 (has_path old key t).1

-- what an accepted rename says of the rows
abbrev is_ok : Result (Rows ℕ) RenameRefusal → Bool
is_ok (Ok rows) = true
is_ok (Err e) = false

abbrev rows_by : Result (Rows ℕ) RenameRefusal → Rows ℕ
rows_by (Ok rows) = rows
rows_by (Err e) = []

rename_parts : (a b c d : Bool) (r r' : Rows ℕ)
    → (if not a then Err absent else (if b then Err into_itself else (if not c then Err no_parent else (if d then Err exists else Ok r)))) ≡ Ok r'
    → (a ≡ true) × (b ≡ false) × (c ≡ true) × (d ≡ false) × (r ≡ r')
rename_parts true false true false r r' e = (refl, refl, refl, refl, ap rows_by e)
rename_parts false b c d r r' e = absurd (false≢true (ap is_ok e))
rename_parts true true c d r r' e = absurd (false≢true (ap is_ok e))
rename_parts true false false d r r' e = absurd (false≢true (ap is_ok e))
rename_parts true false true true r r' e = absurd (false≢true (ap is_ok e))

pub some_name : (us : List ℕ) → is_name_of us ≡ true → key_of us ≡ [] → ⊥
some_name [] h e = false≢true h
some_name (u ∷ us) h e = absurd (cc)

module _ (rows rows' : Rows ℕ) (old new : List ℕ) (done : renamed_tree rows old new ≡ Ok rows') where
  pub parts : (is_there rows old ≡ true) × (is_below (key_of old) (key_of new) ≡ false) × (has_parent rows new ≡ true) × (is_there rows new ≡ false)
      × (renamed_rows rows old new ≡ rows')
  parts = rename_parts (is_there rows old) (is_below (key_of old) (key_of new)) (has_parent rows new) (is_there rows new) (renamed_rows rows old new) rows' done

  new_directory : (parent_of (key_of new) ≡ [] → ⊥) → Has rows (parent_of (key_of new))
  new_directory some = by (parent_of new) (parent_folded new) parts.2
    where
      by : (path : List ℕ) → parent_of (key_of new) ≡ key_of path → is_directory_there rows path ≡ true → Has rows (parent_of (key_of new))
      by [] e h = absurd (some e)
      by (u ∷ us) e h = subst (λ k. Has rows k) (sym e) h

pub renames_keep_trees : RenamesKeepTrees
renames_keep_trees rows rows' old new tree are_folded old_name new_name done =
    let known = parts rows rows' old new done in
    subst (λ r. IsTree r) known.4
    (all_tested (has_parent (renamed_rows rows old new)) (renamed_rows rows old new)
    (all_under (λ key. has_parent (renamed_rows rows old new) key ≡ true) (renamed_key (key_of old) (key_of new)) rows
    (all_keys (λ key. has_parent (renamed_rows rows old new) (renamed_key (key_of old) (key_of new) key) ≡ true) rows
    (parent_renamed rows tree are_folded (key_of old) (key_of new) (some_name new new_name) known.3 (keys_again new) (some_name old old_name) known.1
    (new_directory rows rows' old new done)))))

pub renames_are_found : RenamesAreFound
renames_are_found rows rows' old new key tree are_folded new_name done there =
    let known = parts rows rows' old new done in
    subst (λ r. lookup (is_key (renamed_key (key_of old) (key_of new) key)) r ≡ lookup (is_key key) rows) known.4
    (found_renamed rows tree are_folded (key_of old) (key_of new) (some_name new new_name) known.3 key there)

pub renames_add_nothing : RenamesAddNothing
renames_add_nothing rows rows' old new other done there =
    new_key (renamed_key (key_of old) (key_of new)) other rows (subst (λ r. Has r other) (sym (parts rows rows' old new done).4) there)

-- two names above one are one below the other, or the same
two_above : (a b r : List ℕ) → is_path r ≡ true → is_at_or_below a (b ++ r) ≡ true → (is_at_or_below a b ≡ true) ⊎ (is_at_or_below b a ≡ true)
two_above [] [] r p h = inl refl
two_above [] (u ∷ b) r p h = inl h
two_above (k ∷ a) [] [] p h = absurd (false≢true h)
two_above (k ∷ a) [] (u ∷ r) p h = inr (by (k == u) refl h)
  where
    by : (s : Bool) → s ≡ (k == u) → ((s && is_key a r) || (s && is_below a r)) ≡ true → (k == 92) ≡ true
    by true e h = grind (arith, nat_tests, e, p)
    by false e h = absurd (false≢true h)
two_above (k ∷ a) (u ∷ b) r p h = by (k == u) refl h (two_above a b r p)
  where
    lift : (s t : Bool) → s ≡ (k == u) → t ≡ (u == k) → s ≡ true → (is_at_or_below a b ≡ true) ⊎ (is_at_or_below b a ≡ true)
        → (((s && is_key a b) || (s && is_below a b)) ≡ true) ⊎ (((t && is_key b a) || (t && is_below b a)) ≡ true)
    lift true true e f w (inl i) = inl i
    lift true true e f w (inr i) = inr i
    lift true false e f w i = absurd (grind (arith, nat_tests, e, f))
    lift false t e f w i = absurd (false≢true w)

    by : (s : Bool) → s ≡ (k == u) → ((s && is_key a (b ++ r)) || (s && is_below a (b ++ r))) ≡ true
        → (is_at_or_below a (b ++ r) ≡ true → (is_at_or_below a b ≡ true) ⊎ (is_at_or_below b a ≡ true))
        → (is_at_or_below (k ∷ a) (u ∷ b) ≡ true) ⊎ (is_at_or_below (u ∷ b) (k ∷ a) ≡ true)
    by true e h again = lift (k == u) (u == k) refl refl (sym e) (again h)
    by false e h again = absurd (false≢true h)

pub renames_leave_nothing : RenamesLeaveNothing
renames_leave_nothing rows rows' old new key tree are_folded new_name done at = by (lookup (is_key key) rows') refl
  where
    from : List ℕ
    from = key_of old

    to : List ℕ
    to = key_of new

    same : (is_there rows old ≡ true) × (is_below from to ≡ false) × (has_parent rows new ≡ true) × (is_there rows new ≡ false) × (renamed_rows rows old new ≡ rows')
    same = parts rows rows' old new done

    not_at : (b c : Bool) → is_key from to ≡ b → is_below from to ≡ c → (b || c) ≡ true → ⊥
    not_at true c s t h =
        false≢true (sym same.3 ∙ ap (λ k. is_some (lookup (is_key k) rows)) (sym (is_key_eq from to s)) ∙ same.0)
    not_at false true s t h = false≢true (sym same.1 ∙ t)
    not_at false false s t h = false≢true h

    apart : (is_at_or_below from to ≡ true) ⊎ (is_at_or_below to from ≡ true) → ⊥
    apart (inl h) = not_at (is_key from to) (is_below from to) refl refl h
    apart (inr h) = false≢true (sym (nothing_at rows tree are_folded from to (some_name new new_name) same.3 from same.0) ∙ h)

    nothing : (k : List ℕ) → renamed_key from to k ≡ key → ⊥
    nothing k e = test (is_at_or_below from k) refl e
      where
        test : (b : Bool) → is_at_or_below from k ≡ b → (if b then to ++ drop (length from) k else k) ≡ key → ⊥
        test true t e =
            apart (two_above from to (drop (length from) k) (has_path from k t).1 (ap (is_at_or_below from) e ∙ at))
        test false t e = false≢true (sym t ∙ ap (is_at_or_below from) e ∙ at)

    by : (o : Option ℕ) → lookup (is_key key) rows' ≡ o → lookup (is_key key) rows' ≡ None
    by None e = e
    by (Some v) e =
        let was = new_key (renamed_key from to) key rows (subst (λ r. Has r key) (sym same.4) (ap is_some e)) in
        absurd (nothing was.0 was.2)
