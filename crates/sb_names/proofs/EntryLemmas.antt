-- Rows in an index: what is found under a key, and what an entry that is put, set or taken out makes of the rows.
use Rattle.std.proofs.lemmas.Option.{same_Some}
use Rattle.std.proofs.Common.{◌≡◌, ◌<◌, ◌^◌, ◌-◌, ◌==◌, ℕ, Bool, true, false, cond, refl, sym, ◌∙◌, ap, subst, arith, List, [], ◌∷◌, nat_le, if◌then◌else◌}
use Rattle.std.proofs.lemmas.Bool.{and_parts, false≢true, and_from}
use Rattle.std.proofs.lemmas.Bool.Decides.{nat_tests}
use Rattle.std.proofs.lemmas.Map.{lookup-remove_entry, lookup-set_value}
use Rattle.std.proofs.lemmas.Map.Keys.{IsDistinct-from_sorted}
use Rattle.std.specs.Prelude.{Option, None, Some, is_some, option_map, ◌&&◌}
use Rattle.std.specs.BTreeMap.{insert_entry, is_at}
use Rattle.std.specs.Cmp.Lexicographic.{nat_list_eq_equiv}
use Rattle.std.specs.List.{IsDistinct, filter, find, list_all}
use Rattle.std.specs.Map.{keys_of, lookup, remove_entry, set_value, values_of}
use Rattle.std.specs.Ordering.{is_eq, match_ordering}
use Rattle.std.specs.declared.cmp.Ordering.{Ordering}
use Rattle.std.specs.declared.cmp.Ordering.TheVariants.{Less, Equal, Greater}
use Rattle.sb_names.specs.Entries.{AreApart, AreHashed, Entries, Entry, IsKept, is_hashed, is_of, place_in, place_of, rows_in, value_by}
use Rattle.sb_names.specs.Hashes.{hash_of}
use Rattle.sb_names.specs.Keys.{key_of}
use Rattle.sb_names.specs.Maps.{Rises, Rows, found, is_key, put, replaced, without}
use Rattle.sb_base.specs.Orders.{by_pair}
use Rattle.sb_names.proofs.Extent.{same_rows}
use Rattle.sb_names.proofs.IndexLemmas.{in_range, same_pair, with_hash}
use Rattle.sb_names.proofs.MapLaws.{is_found, is_key_eq}
use Rattle.sb_names.proofs.PutLemmas.{kept_on, own_pair}
use Rattle.sb_names.proofs.RisingLemmas.{by_unit, key_test, rises_none, rises_out, rises_put, rises_replaced}

-- equal pairs are at one place, and only they
pub pair_eq : (p q : ℕ × ℕ) → is_at (by_pair p) q ≡ true → p ≡ q
pair_eq (a, b) (c, d) h =
    let first : a ≡ c = grind (arith, nat_tests, same_pair a b c d, h) in
    let second : b ≡ d = grind (arith, nat_tests, same_pair a b c d, h) in
    λ i. (first i, second i)

pub own_place : (p : ℕ × ℕ) → is_at (by_pair p) p ≡ true
own_place (a, b) = own_pair a b

pub none_of : {X : Type 0} (o : Option X) → is_some o ≡ false → o ≡ None
none_of None e = refl
none_of (Some x) e = absurd (false≢true (sym e))

-- the range of a hash has each entry of a key with that hash
in_hash : (hash : ℕ) (q : ℕ × ℕ) → with_hash hash q ≡ (q.0 == hash && nat_le q.1 (2 ^ 64 - 1))
in_hash hash q = in_range (hash, 0) (hash, 0) (hash, 2 ^ 64 - 1) q refl refl refl

module _ {V : Type 0} where
  -- what is found among the rows is the first entry of the key
  pub rows_found : (key : List ℕ) (es : Entries V) → lookup (is_key key) (rows_in es) ≡ lookup (is_key key) (values_of es)
  rows_found key [] = refl
  rows_found key (e ∷ es) = is_found e.1.0 e.1.1 key (rows_in es) ∙ ap (λ o. if is_key key e.1.0 then Some e.1.1 else o) (rows_found key es)

  pub rows_in_rise : (es : Entries V) → Rises (rows_in es)
  rows_in_rise [] = rises_none V
  rows_in_rise (e ∷ es) = rises_put e.1.0 e.1.1 (rows_in es) (rows_in_rise es)

  value_at_place : (key : List ℕ) (es : Entries V) → lookup (is_key key) (values_of es) ≡ value_by (place_of key es)
  value_at_place key [] = refl
  value_at_place key (e ∷ es) = by (is_key key e.1.0) (value_at_place key es)
    where
      by : (b : Bool) → lookup (is_key key) (values_of es) ≡ value_by (place_of key es)
          → cond b (Some e.1.1) (lookup (is_key key) (values_of es)) ≡ value_by (option_map place_in (if b then Some e else find (is_of key) es))
      by true i = refl
      by false i = i

  -- what is under a name is the value at its place
  pub found_by_place : (es : Entries V) (name : List ℕ) → found (rows_in es) name ≡ value_by (place_of (key_of name) es)
  found_by_place es name = rows_found (key_of name) es ∙ value_at_place (key_of name) es

  -- a name without a value has no place
  pub no_place : (es : Entries V) (name : List ℕ) → found (rows_in es) name ≡ None → place_of (key_of name) es ≡ None
  no_place es name none = by (place_of (key_of name) es) (sym (found_by_place es name) ∙ none)
    where
      by : (o : Option (ℕ × V)) → value_by o ≡ None → o ≡ None
      by None e = refl
      by (Some p) e = absurd (cc)

  hash_is : (hash : ℕ) (e : Entry V) → is_hashed e ≡ true → e.0.0 ≡ hash_of None e.1.0
  hash_is hash e h =
      let parts = and_parts (e.0.0 == hash_of None e.1.0) (nat_le e.0.1 (2 ^ 64 - 1)) h in
      grind (arith, nat_tests, parts.0)

  own_hash : (key : List ℕ) (e : Entry V) → is_hashed e ≡ true → is_key key e.1.0 ≡ true → with_hash (hash_of None key) e.0 ≡ true
  own_hash key e h t =
      let parts = and_parts (e.0.0 == hash_of None e.1.0) (nat_le e.0.1 (2 ^ 64 - 1)) h in
      in_hash (hash_of None key) e.0
      ∙ and_from (e.0.0 == hash_of None key) (nat_le e.0.1 (2 ^ 64 - 1)) (ap (λ k. e.0.0 == hash_of None k) (is_key_eq key e.1.0 t) ∙ parts.0) parts.1

  pub place_in_hash : (key : List ℕ) (hash : ℕ) (es : Entries V) → hash ≡ hash_of None key → AreHashed es
      → find (is_of key) (filter (λ e. with_hash hash e.0) es) ≡ find (is_of key) es
  place_in_hash key hash [] same h = refl
  place_in_hash key hash (e ∷ es) same h =
      let parts = and_parts (is_hashed e) (list_all is_hashed es) h in
      by parts.0 (with_hash hash e.0) refl (is_key key e.1.0) refl (place_in_hash key hash es same parts.1)
    where
      rest : Entries V
      rest = filter (λ e. with_hash hash e.0) es

      by : is_hashed e ≡ true → (b : Bool) → with_hash hash e.0 ≡ b → (c : Bool) → is_key key e.1.0 ≡ c → find (is_of key) rest ≡ find (is_of key) es
          → find (is_of key) (if b then e ∷ rest else rest) ≡ (if c then Some e else find (is_of key) es)
      by hashed true s true t i = rw t refl
      by hashed true s false t i = rw t i
      by hashed false s true t i = absurd (false≢true (sym s ∙ ap (λ n. with_hash n e.0) same ∙ own_hash key e hashed t))
      by hashed false s false t i = i

  -- what is left of a range says whether the key is there
  pub place_missing : (key : List ℕ) (hash : ℕ) (es rest range : Entries V) → hash ≡ hash_of None key → AreHashed es
      → range ≡ filter (λ e. with_hash hash e.0) es → find (is_of key) rest ≡ find (is_of key) range → rest ≡ [] → None ≡ place_of key es
  place_missing key hash es rest range same hashed between on none =
      sym (ap (option_map place_in) (sym (place_in_hash key hash es same hashed) ∙ sym (ap (find (is_of key)) between) ∙ sym on ∙ ap (find (is_of key)) none))

  pub place_met : (key : List ℕ) (hash : ℕ) (es rest range : Entries V) (e : Entry V) → hash ≡ hash_of None key → AreHashed es
      → range ≡ filter (λ e. with_hash hash e.0) es → find (is_of key) rest ≡ find (is_of key) range → find (is_of key) rest ≡ Some e
      → Some (place_in e) ≡ place_of key es
  place_met key hash es rest range e same hashed between on met =
      sym (ap (option_map place_in) (sym (place_in_hash key hash es same hashed) ∙ sym (ap (find (is_of key)) between) ∙ sym on ∙ met))

  -- the entry of a key
  abbrev HasAt : List ℕ → ℕ × ℕ → Entries V → Type 0
  HasAt key q es = (old : List ℕ × V) × (find (is_of key) es ≡ Some (q, old))

  -- the place of a key, with its hash
  pub has_at : (key : List ℕ) (hash number : ℕ) (v : V) (es : Entries V) → hash ≡ hash_of None key → AreHashed es
      → place_of key es ≡ Some (number, v) → HasAt key (hash, number) es
  has_at key hash number v [] same h e = absurd (false≢true (ap is_some e))
  has_at key hash number v (e ∷ es) same h at =
      let parts = and_parts (is_hashed e) (list_all is_hashed es) h in
      by parts.0 (is_key key e.1.0) refl at (has_at key hash number v es same parts.1)
    where
      by : is_hashed e ≡ true → (b : Bool) → is_key key e.1.0 ≡ b
          → option_map place_in (if b then Some e else find (is_of key) es) ≡ Some (number, v)
          → (place_of key es ≡ Some (number, v) → HasAt key (hash, number) es)
          → (old : List ℕ × V) × ((if b then Some e else find (is_of key) es) ≡ Some ((hash, number), old))
      by hashed true t at again =
          let n : e.0.1 ≡ number = ap (λ p. p.0) (same_Some (e.0.1, e.1.1) (number, v) at) in
          let h : e.0.0 ≡ hash = hash_is hash e hashed ∙ ap (λ k. hash_of None k) (sym (is_key_eq key e.1.0 t)) ∙ sym same in
          (e.1, λ i. Some ((h i, n i), e.1))
      by hashed false t at again = again at

  -- an entry that is found is there
  there_by : (p : Entry V → Bool) (q : ℕ × ℕ) (old : List ℕ × V) (es : Entries V) → find p es ≡ Some (q, old) → is_some (lookup (is_at (by_pair q)) es) ≡ true
  there_by p q old [] e = absurd (false≢true (ap is_some e))
  there_by p q old (x ∷ es) e = by (p x) e (there_by p q old es)
    where
      by : (b : Bool) → (if b then Some x else find p es) ≡ Some (q, old) → (find p es ≡ Some (q, old) → is_some (lookup (is_at (by_pair q)) es) ≡ true)
          → is_some (cond (is_at (by_pair q) x.0) (Some x.1) (lookup (is_at (by_pair q)) es)) ≡ true
      by true e again =
          let same : x.0 ≡ q = ap (λ y. y.0) (same_Some x (q, old) e) in
          ap (λ b. is_some (cond b (Some x.1) (lookup (is_at (by_pair q)) es))) (ap (is_at (by_pair q)) same ∙ own_place q)
      by false e again = kept_on (is_at (by_pair q) x.0) x.1 (lookup (is_at (by_pair q)) es) (again e)

  -- the first of entries that are apart is at another place than one after it
  other_place : (p : Entry V → Bool) (q : ℕ × ℕ) (old : List ℕ × V) (x : Entry V) (es : Entries V) → lookup (is_at (by_pair x.0)) es ≡ None
      → find p es ≡ Some (q, old) → is_at (by_pair q) x.0 ≡ false
  other_place p q old x es none e = by (is_at (by_pair q) x.0) refl
    where
      by : (b : Bool) → is_at (by_pair q) x.0 ≡ b → is_at (by_pair q) x.0 ≡ false
      by false s = s
      by true s =
          let same : q ≡ x.0 = pair_eq q x.0 s in
          absurd (false≢true (sym (ap is_some none) ∙ ap (λ q. is_some (lookup (is_at (by_pair q)) es)) (sym same) ∙ there_by p q old es e))

  -- what is found in rows that are replaced, and taken out
  set_found : (rows : Rows V) (key : List ℕ) (w : V) → is_some (lookup (is_key key) rows) ≡ true → (k : List ℕ)
      → lookup (is_key k) (set_value (is_key key) rows w) ≡ (if is_key k key then Some w else lookup (is_key k) rows)
  set_found rows key w there k =
      lookup-set_value nat_list_eq_equiv (is_key key) (λ x y h. ap (λ a. is_key a y) (is_key_eq key x h)) k w rows there
      ∙ ap (λ b. cond b (Some w) (lookup (is_key k) rows)) (nat_list_eq_equiv.symm key k)

  out_found : (rows : Rows V) → Rises rows → (key k : List ℕ)
      → lookup (is_key k) (remove_entry (is_key key) rows) ≡ (if is_key k key then None else lookup (is_key k) rows)
  out_found rows rises key k =
      let apart = subst (λ test. IsDistinct test (keys_of rows)) (λ i x y. sym (key_test x y) i) (IsDistinct-from_sorted by_unit (keys_of rows) rises) in
      lookup-remove_entry nat_list_eq_equiv (is_key key) (λ x y h. ap (λ a. is_key a y) (is_key_eq key x h)) k rows apart
      ∙ ap (λ b. cond b None (lookup (is_key k) rows)) (nat_list_eq_equiv.symm key k)

  -- the row at the place of a key is that of the key
  row_at : (key : List ℕ) (q : ℕ × ℕ) (es : Entries V) → AreApart es → (has : HasAt key q es) → (lookup (is_at (by_pair q)) es ≡ Some has.0) × (key ≡ has.0.0)
  row_at key q [] apart has = absurd (false≢true (ap is_some has.1))
  row_at key q (e ∷ es) apart has = by (is_key key e.1.0) refl has.1 (λ at. row_at key q es apart.2 (has.0, at))
    where
      by : (b : Bool) → is_key key e.1.0 ≡ b → (if b then Some e else find (is_of key) es) ≡ Some (q, has.0)
          → (find (is_of key) es ≡ Some (q, has.0) → (lookup (is_at (by_pair q)) es ≡ Some has.0) × (key ≡ has.0.0))
          → (lookup (is_at (by_pair q)) (e ∷ es) ≡ Some has.0) × (key ≡ has.0.0)
      by true t at again =
          let same = same_Some e (q, has.0) at in
          let here : is_at (by_pair q) e.0 ≡ true = ap (is_at (by_pair q)) (ap (λ y. y.0) same) ∙ own_place q in
          (rw here (ap (λ y. Some y.1) same), is_key_eq key e.1.0 t ∙ ap (λ y. y.1.0) same)
      by false t at again =
          let away : is_at (by_pair q) e.0 ≡ false = other_place (is_of key) q has.0 e es apart.0 at in
          (rw away (again at).0, (again at).1)

  -- without such a row nothing is replaced, and nothing taken out
  none_replaced : (test : List ℕ → Bool) (rows : Rows V) (w : V) → lookup test rows ≡ None → set_value test rows w ≡ rows
  none_replaced test [] w h = refl
  none_replaced test (row ∷ rows) w h = by (test row.0) h (none_replaced test rows w)
    where
      by : (b : Bool) → cond b (Some row.1) (lookup test rows) ≡ None → (lookup test rows ≡ None → set_value test rows w ≡ rows)
          → cond b ((row.0, w) ∷ rows) (row ∷ set_value test rows w) ≡ row ∷ rows
      by true h f = absurd (cc)
      by false h f = ap (λ more. row ∷ more) (f h)

  none_without : (test : List ℕ → Bool) (rows : Rows V) → lookup test rows ≡ None → remove_entry test rows ≡ rows
  none_without test [] h = refl
  none_without test (row ∷ rows) h = by (test row.0) h (none_without test rows)
    where
      by : (b : Bool) → cond b (Some row.1) (lookup test rows) ≡ None → (lookup test rows ≡ None → remove_entry test rows ≡ rows)
          → cond b rows (row ∷ remove_entry test rows) ≡ row ∷ rows
      by true h f = absurd (cc)
      by false h f = ap (λ more. row ∷ more) (f h)

  pub absent_replaced : (es : Entries V) (name : List ℕ) (w : V) → place_of (key_of name) es ≡ None → rows_in es ≡ replaced (rows_in es) name w
  absent_replaced es name w none = sym (none_replaced (is_key (key_of name)) (rows_in es) w (found_by_place es name ∙ ap value_by none))

  pub absent_without : (es : Entries V) (name : List ℕ) → place_of (key_of name) es ≡ None → rows_in es ≡ without (rows_in es) name
  absent_without es name none = sym (none_without (is_key (key_of name)) (rows_in es) (found_by_place es name ∙ ap value_by none))

  -- what another value makes of what is found
  found_set : (key : List ℕ) (w : V) (q : ℕ × ℕ) (es : Entries V) → AreApart es → HasAt key q es → (k : List ℕ)
      → lookup (is_key k) (values_of (set_value (is_at (by_pair q)) es (key, w))) ≡ (if is_key k key then Some w else lookup (is_key k) (values_of es))
  found_set key w q [] apart has k = absurd (false≢true (ap is_some has.1))
  found_set key w q (e ∷ es) apart has k =
      by (is_key key e.1.0) refl has.1 (λ at. found_set key w q es apart.2 (has.0, at) k)
    where
      test : ℕ × ℕ → Bool
      test = is_at (by_pair q)

      split : (b c : Bool) → is_key k e.1.0 ≡ b → is_key k key ≡ c → is_key key e.1.0 ≡ false
          → lookup (is_key k) (values_of (set_value test es (key, w))) ≡ (if c then Some w else lookup (is_key k) (values_of es))
          → cond b (Some e.1.1) (lookup (is_key k) (values_of (set_value test es (key, w)))) ≡ (if c then Some w else cond b (Some e.1.1) (lookup (is_key k) (values_of es)))
      split true true s t other i =
          absurd (false≢true (sym other ∙ ap (λ a. is_key a e.1.0) (sym (is_key_eq k key t)) ∙ s))
      split true false s t other i = refl
      split false c s t other i = i

      same : (c : Bool) → is_key k key ≡ c → key ≡ e.1.0
          → cond c (Some w) (lookup (is_key k) (values_of es)) ≡ (if c then Some w else cond (is_key k e.1.0) (Some e.1.1) (lookup (is_key k) (values_of es)))
      same true t is = refl
      same false t is = rw (sym (ap (is_key k) is) ∙ t) refl

      by : (b : Bool) → is_key key e.1.0 ≡ b → (if b then Some e else find (is_of key) es) ≡ Some (q, has.0)
          → (find (is_of key) es ≡ Some (q, has.0)
          → lookup (is_key k) (values_of (set_value test es (key, w))) ≡ (if is_key k key then Some w else lookup (is_key k) (values_of es)))
          → lookup (is_key k) (values_of (set_value test (e ∷ es) (key, w)))
          ≡ (if is_key k key then Some w else cond (is_key k e.1.0) (Some e.1.1) (lookup (is_key k) (values_of es)))
      by true t at again =
          let here : test e.0 ≡ true = ap test (ap (λ y. y.0) (same_Some e (q, has.0) at)) ∙ own_place q in
          rw here (same (is_key k key) refl (is_key_eq key e.1.0 t))
      by false t at again =
          let away : test e.0 ≡ false = other_place (is_of key) q has.0 e es apart.0 at in
          rw away (split (is_key k e.1.0) (is_key k key) refl refl t (again at))

  -- and without the entry
  found_out : (key : List ℕ) (q : ℕ × ℕ) (es : Entries V) → AreApart es → HasAt key q es → (k : List ℕ)
      → lookup (is_key k) (values_of (remove_entry (is_at (by_pair q)) es)) ≡ (if is_key k key then None else lookup (is_key k) (values_of es))
  found_out key q [] apart has k = absurd (false≢true (ap is_some has.1))
  found_out key q (e ∷ es) apart has k =
      by (is_key key e.1.0) refl has.1 (λ at. found_out key q es apart.2 (has.0, at) k)
    where
      test : ℕ × ℕ → Bool
      test = is_at (by_pair q)

      split : (b c : Bool) → is_key k e.1.0 ≡ b → is_key k key ≡ c → is_key key e.1.0 ≡ false
          → lookup (is_key k) (values_of (remove_entry test es)) ≡ (if c then None else lookup (is_key k) (values_of es))
          → cond b (Some e.1.1) (lookup (is_key k) (values_of (remove_entry test es))) ≡ (if c then None else cond b (Some e.1.1) (lookup (is_key k) (values_of es)))
      split true true s t other i =
          absurd (false≢true (sym other ∙ ap (λ a. is_key a e.1.0) (sym (is_key_eq k key t)) ∙ s))
      split true false s t other i = refl
      split false c s t other i = i

      same : (c : Bool) → is_key k key ≡ c → key ≡ e.1.0
          → lookup (is_key k) (values_of es) ≡ (if c then None else cond (is_key k e.1.0) (Some e.1.1) (lookup (is_key k) (values_of es)))
      same true t is = ap (λ a. lookup (is_key a) (values_of es)) (is_key_eq k key t ∙ is) ∙ apart.1
      same false t is = rw (sym (ap (is_key k) is) ∙ t) refl

      by : (b : Bool) → is_key key e.1.0 ≡ b → (if b then Some e else find (is_of key) es) ≡ Some (q, has.0)
          → (find (is_of key) es ≡ Some (q, has.0)
          → lookup (is_key k) (values_of (remove_entry test es)) ≡ (if is_key k key then None else lookup (is_key k) (values_of es)))
          → lookup (is_key k) (values_of (remove_entry test (e ∷ es)))
          ≡ (if is_key k key then None else cond (is_key k e.1.0) (Some e.1.1) (lookup (is_key k) (values_of es)))
      by true t at again =
          let here : test e.0 ≡ true = ap test (ap (λ y. y.0) (same_Some e (q, has.0) at)) ∙ own_place q in
          rw here (same (is_key k key) refl (is_key_eq key e.1.0 t))
      by false t at again =
          let away : test e.0 ≡ false = other_place (is_of key) q has.0 e es apart.0 at in
          rw away (split (is_key k e.1.0) (is_key k key) refl refl t (again at))

  -- and with an entry more, at a place that is free
  found_more : (key : List ℕ) (w : V) (q : ℕ × ℕ) (es : Entries V) → lookup (is_at (by_pair q)) es ≡ None → place_of key es ≡ None → (k : List ℕ)
      → lookup (is_key k) (values_of (insert_entry by_pair es q (key, w))) ≡ (if is_key k key then Some w else lookup (is_key k) (values_of es))
  found_more key w q [] free none k = refl
  found_more key w q (e ∷ es) free none k =
      by (by_pair q e.0) refl free (is_key key e.1.0) refl none (found_more key w q es)
    where
      split : (b c : Bool) → is_key k e.1.0 ≡ b → is_key k key ≡ c → is_key key e.1.0 ≡ false
          → lookup (is_key k) (values_of (insert_entry by_pair es q (key, w))) ≡ (if c then Some w else lookup (is_key k) (values_of es))
          → cond b (Some e.1.1) (lookup (is_key k) (values_of (insert_entry by_pair es q (key, w)))) ≡ (if c then Some w else cond b (Some e.1.1) (lookup (is_key k) (values_of es)))
      split true true s t other i =
          absurd (false≢true (sym other ∙ ap (λ a. is_key a e.1.0) (sym (is_key_eq k key t)) ∙ s))
      split true false s t other i = refl
      split false c s t other i = i

      by : (o : Ordering) → by_pair q e.0 ≡ o → cond (is_eq o) (Some e.1) (lookup (is_at (by_pair q)) es) ≡ None
          → (b : Bool) → is_key key e.1.0 ≡ b → option_map place_in (if b then Some e else find (is_of key) es) ≡ None
          → (lookup (is_at (by_pair q)) es ≡ None → place_of key es ≡ None → (k : List ℕ)
          → lookup (is_key k) (values_of (insert_entry by_pair es q (key, w))) ≡ (if is_key k key then Some w else lookup (is_key k) (values_of es)))
          → lookup (is_key k) (values_of (match_ordering o ((q, (key, w)) ∷ e ∷ es) ((e.0, (key, w)) ∷ es) (e ∷ insert_entry by_pair es q (key, w))))
          ≡ (if is_key k key then Some w else cond (is_key k e.1.0) (Some e.1.1) (lookup (is_key k) (values_of es)))
      by o s free true t none again = absurd (false≢true (ap is_some (sym none)))
      by Less s free false t none again = refl
      by Equal s free false t none again = absurd (false≢true (ap is_some (sym free)))
      by Greater s free false t none again = split (is_key k e.1.0) (is_key k key) refl refl t (again free none k)

  -- the tests of an entry stay
  none_set : (p q : ℕ × ℕ → Bool) (es : Entries V) (w : List ℕ × V) → lookup p es ≡ None → lookup p (set_value q es w) ≡ None
  none_set p q [] w none = refl
  none_set p q (e ∷ es) w none = by (p e.0) refl (q e.0) none (none_set p q es w)
    where
      by : (b : Bool) → p e.0 ≡ b → (c : Bool) → cond b (Some e.1) (lookup p es) ≡ None → (lookup p es ≡ None → lookup p (set_value q es w) ≡ None)
          → lookup p (cond c ((e.0, w) ∷ es) (e ∷ set_value q es w)) ≡ None
      by true s c none again = absurd (false≢true (ap is_some (sym none)))
      by false s true none again = rw s none
      by false s false none again = rw s (again none)

  none_out : (p q : ℕ × ℕ → Bool) (es : Entries V) → lookup p es ≡ None → lookup p (remove_entry q es) ≡ None
  none_out p q [] none = refl
  none_out p q (e ∷ es) none = by (p e.0) refl (q e.0) none (none_out p q es)
    where
      by : (b : Bool) → p e.0 ≡ b → (c : Bool) → cond b (Some e.1) (lookup p es) ≡ None → (lookup p es ≡ None → lookup p (remove_entry q es) ≡ None)
          → lookup p (cond c es (e ∷ remove_entry q es)) ≡ None
      by true s c none again = absurd (false≢true (ap is_some (sym none)))
      by false s true none again = none
      by false s false none again = rw s (again none)

  none_more : (p : ℕ × ℕ → Bool) (q : ℕ × ℕ) (es : Entries V) (w : List ℕ × V) → p q ≡ false → lookup p es ≡ None → lookup p (insert_entry by_pair es q w) ≡ None
  none_more p q [] w away none = rw away refl
  none_more p q (e ∷ es) w away none = by (p e.0) refl (by_pair q e.0) none (none_more p q es w away)
    where
      by : (b : Bool) → p e.0 ≡ b → (o : Ordering) → cond b (Some e.1) (lookup p es) ≡ None → (lookup p es ≡ None → lookup p (insert_entry by_pair es q w) ≡ None)
          → lookup p (match_ordering o ((q, w) ∷ e ∷ es) ((e.0, w) ∷ es) (e ∷ insert_entry by_pair es q w)) ≡ None
      by true s o none again = absurd (false≢true (ap is_some (sym none)))
      by false s Less none again = rw (away, s) none
      by false s Equal none again = rw s none
      by false s Greater none again = rw s (again none)

  -- entries that change stay apart
  key_away : (key : List ℕ) (e : Entry V) → is_key key e.1.0 ≡ false → is_key e.1.0 key ≡ false
  key_away key e h = nat_list_eq_equiv.symm e.1.0 key ∙ h

  pub apart_set : (key : List ℕ) (w : V) (q : ℕ × ℕ) (es : Entries V) → AreApart es → HasAt key q es → AreApart (set_value (is_at (by_pair q)) es (key, w))
  apart_set key w q [] apart has = apart
  apart_set key w q (e ∷ es) apart has = by (is_key key e.1.0) refl has.1 (λ at. apart_set key w q es apart.2 (has.0, at))
    where
      test : ℕ × ℕ → Bool
      test = is_at (by_pair q)

      by : (b : Bool) → is_key key e.1.0 ≡ b → (if b then Some e else find (is_of key) es) ≡ Some (q, has.0)
          → (find (is_of key) es ≡ Some (q, has.0) → AreApart (set_value test es (key, w))) → AreApart (set_value test (e ∷ es) (key, w))
      by true t at again =
          let here : test e.0 ≡ true = ap test (ap (λ y. y.0) (same_Some e (q, has.0) at)) ∙ own_place q in
          rw here (apart.0, ap (λ k. lookup (is_key k) (values_of es)) (is_key_eq key e.1.0 t) ∙ apart.1, apart.2)
      by false t at again =
          let away : test e.0 ≡ false = other_place (is_of key) q has.0 e es apart.0 at in
          rw away (
            none_set (is_at (by_pair e.0)) test es (key, w) apart.0,
            found_set key w q es apart.2 (has.0, at) e.1.0
                ∙ ap (λ b. if b then Some w else lookup (is_key e.1.0) (values_of es)) (key_away key e t) ∙ apart.1,
            again at,
          )

  pub apart_out : (key : List ℕ) (q : ℕ × ℕ) (es : Entries V) → AreApart es → HasAt key q es → AreApart (remove_entry (is_at (by_pair q)) es)
  apart_out key q [] apart has = apart
  apart_out key q (e ∷ es) apart has = by (is_key key e.1.0) refl has.1 (λ at. apart_out key q es apart.2 (has.0, at))
    where
      test : ℕ × ℕ → Bool
      test = is_at (by_pair q)

      by : (b : Bool) → is_key key e.1.0 ≡ b → (if b then Some e else find (is_of key) es) ≡ Some (q, has.0)
          → (find (is_of key) es ≡ Some (q, has.0) → AreApart (remove_entry test es)) → AreApart (remove_entry test (e ∷ es))
      by true t at again =
          let here : test e.0 ≡ true = ap test (ap (λ y. y.0) (same_Some e (q, has.0) at)) ∙ own_place q in
          rw here apart.2
      by false t at again =
          let away : test e.0 ≡ false = other_place (is_of key) q has.0 e es apart.0 at in
          rw away (
            none_out (is_at (by_pair e.0)) test es apart.0,
            found_out key q es apart.2 (has.0, at) e.1.0
                ∙ ap (λ b. if b then None else lookup (is_key e.1.0) (values_of es)) (key_away key e t) ∙ apart.1,
            again at,
          )

  pub apart_more : (key : List ℕ) (w : V) (q : ℕ × ℕ) (es : Entries V) → AreApart es → lookup (is_at (by_pair q)) es ≡ None → place_of key es ≡ None
      → AreApart (insert_entry by_pair es q (key, w))
  apart_more key w q [] apart free none = (refl, refl, tt)
  apart_more key w q (e ∷ es) apart free none =
      by (by_pair q e.0) refl free (is_key key e.1.0) refl none (apart_more key w q es apart.2)
    where
      by : (o : Ordering) → by_pair q e.0 ≡ o → cond (is_eq o) (Some e.1) (lookup (is_at (by_pair q)) es) ≡ None
          → (b : Bool) → is_key key e.1.0 ≡ b → option_map place_in (if b then Some e else find (is_of key) es) ≡ None
          → (lookup (is_at (by_pair q)) es ≡ None → place_of key es ≡ None → AreApart (insert_entry by_pair es q (key, w)))
          → AreApart (match_ordering o ((q, (key, w)) ∷ e ∷ es) ((e.0, (key, w)) ∷ es) (e ∷ insert_entry by_pair es q (key, w)))
      by o s free true t none again = absurd (false≢true (ap is_some (sym none)))
      by Equal s free false t none again = absurd (false≢true (ap is_some (sym free)))
      by Less s free false t none again =
          (free_here, none_of _ (ap is_some (value_at_place key (e ∷ es)) ∙ none_there), apart)
        where
          free_here : lookup (is_at (by_pair q)) (e ∷ es) ≡ None
          free_here = rw s free

          none_there : is_some (value_by (place_of key (e ∷ es))) ≡ false
          none_there = rw t (ap (λ o. is_some (value_by o)) none)
      by Greater s free false t none again = (
        none_more (is_at (by_pair e.0)) q es (key, w) (away (is_at (by_pair e.0) q) refl) apart.0,
        found_more key w q es free none e.1.0
            ∙ ap (λ b. if b then Some w else lookup (is_key e.1.0) (values_of es)) (key_away key e t) ∙ apart.1,
        again free none,
      )
        where
          away : (b : Bool) → is_at (by_pair e.0) q ≡ b → is_at (by_pair e.0) q ≡ false
          away false h = h
          away true h =
              let same : e.0 ≡ q = pair_eq e.0 q h in
              absurd (false≢true (sym (ap is_eq s) ∙ ap (λ p. is_at (by_pair q) p) same ∙ own_place q))

  -- and are under their hashes
  hashed_set : (key : List ℕ) (w : V) (hash number : ℕ) (es : Entries V) → hash ≡ hash_of None key → AreHashed es
      → AreHashed (set_value (is_at (by_pair (hash, number))) es (key, w))
  hashed_set key w hash number [] same h = refl
  hashed_set key w hash number (e ∷ es) same h =
      let parts = and_parts (is_hashed e) (list_all is_hashed es) h in
      by parts.0 parts.1 (is_at (by_pair (hash, number)) e.0) refl (hashed_set key w hash number es same parts.1)
    where
      test : ℕ × ℕ → Bool
      test = is_at (by_pair (hash, number))

      is : (a b : ℕ) → a ≡ b → (a == b) ≡ true
      is a b e = grind (arith, nat_tests, e)

      by : is_hashed e ≡ true → AreHashed es → (b : Bool) → test e.0 ≡ b → AreHashed (set_value test es (key, w)) → AreHashed (cond b ((e.0, (key, w)) ∷ es) (e ∷ set_value test es (key, w)))
      by first rest true s i =
          let under : e.0.0 ≡ hash_of None key = sym (ap (λ p. p.0) (pair_eq (hash, number) e.0 s)) ∙ same in
          let fits = (and_parts (e.0.0 == hash_of None e.1.0) (nat_le e.0.1 (2 ^ 64 - 1)) first).1 in
          and_from _ _ (and_from _ _ (is e.0.0 (hash_of None key) under) fits) rest
      by first rest false s i = and_from _ _ first i

  hashed_out : (q : ℕ × ℕ) (es : Entries V) → AreHashed es → AreHashed (remove_entry (is_at (by_pair q)) es)
  hashed_out q [] h = refl
  hashed_out q (e ∷ es) h =
      let parts = and_parts (is_hashed e) (list_all is_hashed es) h in
      by parts.0 parts.1 (is_at (by_pair q) e.0) (hashed_out q es parts.1)
    where
      by : is_hashed e ≡ true → AreHashed es → (b : Bool) → AreHashed (remove_entry (is_at (by_pair q)) es) → AreHashed (cond b es (e ∷ remove_entry (is_at (by_pair q)) es))
      by first rest true i = rest
      by first rest false i = and_from _ _ first i

  hashed_more : (q : ℕ × ℕ) (w : List ℕ × V) (es : Entries V) → is_hashed (q, w) ≡ true → AreHashed es → lookup (is_at (by_pair q)) es ≡ None
      → AreHashed (insert_entry by_pair es q w)
  hashed_more q w [] new h free = and_from _ _ new refl
  hashed_more q w (e ∷ es) new h free =
      let parts = and_parts (is_hashed e) (list_all is_hashed es) h in
      by parts.0 (by_pair q e.0) free (hashed_more q w es new parts.1)
    where
      by : is_hashed e ≡ true → (o : Ordering) → cond (is_eq o) (Some e.1) (lookup (is_at (by_pair q)) es) ≡ None
          → (lookup (is_at (by_pair q)) es ≡ None → AreHashed (insert_entry by_pair es q w))
          → AreHashed (match_ordering o ((q, w) ∷ e ∷ es) ((e.0, w) ∷ es) (e ∷ insert_entry by_pair es q w))
      by first Less free again = and_from _ _ new h
      by first Equal free again = absurd (false≢true (ap is_some (sym free)))
      by first Greater free again = and_from _ _ first (again free)

  -- what the changes make of the rows
  module _ (name : List ℕ) (hash number : ℕ) (es : Entries V) (same : hash ≡ hash_of None (key_of name)) (kept : IsKept es) where
    abbrev place : ℕ × ℕ
    place = (hash, number)

    abbrev key : List ℕ
    key = key_of name

    module _ (w : V) where
      pub more_kept : number < 2 ^ 64 → lookup (is_at (by_pair place)) es ≡ None → place_of key es ≡ None → IsKept (insert_entry by_pair es place (key, w))
      more_kept fits free none = (hashed_more place (key, w) es hashed kept.0 free, apart_more key w place es kept.1 free none)
        where
          hashed : is_hashed (place, (key, w)) ≡ true
          hashed = grind (arith, nat_tests, same, fits)

      pub more_rows : lookup (is_at (by_pair place)) es ≡ None → place_of key es ≡ None → rows_in (insert_entry by_pair es place (key, w)) ≡ put (rows_in es) name w
      more_rows free none =
          same_rows (rows_in (insert_entry by_pair es place (key, w))) (put (rows_in es) name w) (rows_in_rise (insert_entry by_pair es place (key, w)))
          (rises_put key w (rows_in es) (rows_in_rise es))
          (λ k. rows_found k (insert_entry by_pair es place (key, w)) ∙ found_more key w place es free none k
          ∙ ap (λ o. if is_key k key then Some w else o) (sym (rows_found k es)) ∙ sym (is_found key w k (rows_in es)))

      module _ (v : V) (at : place_of key es ≡ Some (number, v)) where
        has : HasAt key place es
        has = has_at key hash number v es same kept.0 at

        -- what is at the place
        pub row_there : lookup (is_at (by_pair place)) es ≡ None → ⊥
        row_there none = false≢true (sym (ap is_some none) ∙ ap is_some (row_at key place es kept.1 has).0)

        own_row : (row : List ℕ × V) → lookup (is_at (by_pair place)) es ≡ Some row → key ≡ row.0
        own_row row e =
            let found = row_at key place es kept.1 has in
            found.1 ∙ ap (λ r. r.0) (same_Some has.0 row (sym found.0 ∙ e))

        pub set_kept : IsKept (set_value (is_at (by_pair place)) es (key, w))
        set_kept = (hashed_set key w hash number es same kept.0, apart_set key w place es kept.1 has)

        pub set_kept_at : (row : List ℕ × V) → lookup (is_at (by_pair place)) es ≡ Some row → (es' : Entries V)
            → es' ≡ set_value (is_at (by_pair place)) es (row.0, w) → IsKept es'
        set_kept_at row e es' made =
            subst IsKept (sym (made ∙ ap (λ k. set_value (is_at (by_pair place)) es (k, w)) (sym (own_row row e)))) set_kept

        pub set_rows : rows_in (set_value (is_at (by_pair place)) es (key, w)) ≡ replaced (rows_in es) name w
        set_rows =
            same_rows (rows_in (set_value (is_at (by_pair place)) es (key, w))) (replaced (rows_in es) name w) (rows_in_rise (set_value (is_at (by_pair place)) es (key, w)))
            (rises_replaced (is_key key) w (rows_in es) (rows_in_rise es))
            (λ k. rows_found k (set_value (is_at (by_pair place)) es (key, w)) ∙ found_set key w place es kept.1 has k
            ∙ ap (λ o. if is_key k key then Some w else o) (sym (rows_found k es)) ∙ sym (set_found (rows_in es) key w there k))
          where
            there : is_some (lookup (is_key key) (rows_in es)) ≡ true
            there = ap is_some (found_by_place es name) ∙ ap (λ o. is_some (value_by o)) at

        pub set_rows_at : (row : List ℕ × V) → lookup (is_at (by_pair place)) es ≡ Some row → (es' : Entries V)
            → es' ≡ set_value (is_at (by_pair place)) es (row.0, w) → rows_in es' ≡ replaced (rows_in es) name w
        set_rows_at row e es' made =
            ap rows_in (made ∙ ap (λ k. set_value (is_at (by_pair place)) es (k, w)) (sym (own_row row e))) ∙ set_rows

    module _ (v : V) (at : place_of key es ≡ Some (number, v)) where
      pub out_kept : IsKept (remove_entry (is_at (by_pair place)) es)
      out_kept = (hashed_out place es kept.0, apart_out key place es kept.1 (has_at key hash number v es same kept.0 at))

      pub out_rows : rows_in (remove_entry (is_at (by_pair place)) es) ≡ without (rows_in es) name
      out_rows =
          same_rows (rows_in (remove_entry (is_at (by_pair place)) es)) (without (rows_in es) name) (rows_in_rise (remove_entry (is_at (by_pair place)) es))
          (rises_out (is_key key) (rows_in es) (rows_in_rise es))
          (λ k. rows_found k (remove_entry (is_at (by_pair place)) es) ∙ found_out key place es kept.1 (has_at key hash number v es same kept.0 at) k
          ∙ ap (λ o. if is_key k key then None else o) (sym (rows_found k es)) ∙ sym (out_found (rows_in es) (rows_in_rise es) key k))
