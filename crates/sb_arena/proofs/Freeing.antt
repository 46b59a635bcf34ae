-- Free nodes.
use Rattle.std.proofs.Common.{◌≡◌, ◌≢◌, ℕ, ◌+◌, ◌-◌, ◌<◌, ◌≤◌, ◌==◌, Bool, true, false, cond, zero, suc, refl, sym, ◌∙◌, ap, subst, arith, List, [], ◌∷◌, ◌++◌, length, get_or, set, length-set, ◌⊎◌, inl, inr}
use Rattle.std.proofs.lemmas.Bool.{false≢true}
use Rattle.std.proofs.lemmas.Grind.{common_steps}
use Rattle.std.proofs.lemmas.List.{get_or_past, length-append, length-map}
use Rattle.std.specs.Prelude.{Option, None, Some, ◌||◌, IsSome, if◌then◌else◌, slice_index}
use Rattle.sb_arena.specs.Forests.{Row, bare_row, row_at, without, Forest, IsLive, IsSound, with_node, with_vacancy, node_number, has, Single, parent_of, children_of}
use Rattle.sb_arena.proofs.LinkLaws.{same_of, other_of, is_same, is_other, at_set}
use Rattle.sb_arena.proofs.LinkTies.{same_row}
use Rattle.sb_arena.proofs.Readers.{live_present}
use Rattle.sb_arena.specs.declared.links.Link.{Link}
use Rattle.sb_arena.specs.Links.{at, no_link, linked, unlinked as unlinked_links, rows_of, row_of, IsTied}
use Rattle.sb_arena.proofs.LinkTies.{rows_linked, has_last, has_still}
use Rattle.sb_arena.proofs.Readers.{rows_added, live_in, same_past, unlinked, parent_present}
use Rattle.sb_arena.proofs.UnlinkTies.{rows_unlinked}
use Rattle.sb_arena.proofs.ChainLemmas.{Below, few}

module _ {T : Type 0} (f : Forest T) (sound : IsSound f) (long : length f.rows ≡ length f.values) where
  -- a node that is free is not live
  not_live : (c n : ℕ) → IsLive f c → has n f.free ≡ true → n ≢ c
  not_live c n live h e =
      let w : IsSome {T = T} None = subst (λ o. IsSome o) (ap (λ k. get_or f.values k None) (sym e) ∙ (sound.dead n h).1) live in
      absurd (false≢true w)

  in_rows : (c : ℕ) → IsLive f c → c < length f.rows
  in_rows c live = rw long (live_present f.values c live)

  module _ (c p : ℕ) (in_c : c < length f.rows) (in_p : p < length f.rows) (live_c : IsLive f c) (o : Option ℕ) where
    abbrev first_row : Row
    first_row = record (row_at f.rows c) { parent = o }

    abbrev rows1 : List Row
    rows1 = set f.rows c first_row

    still : (n : ℕ) → has n f.free ≡ true → row_at rows1 n ≡ bare_row
    still n h = at_set bare_row f.rows c first_row n in_c ∙ ap (λ t. cond t first_row (row_at f.rows n)) (is_other n c (not_live c n live_c h)) ∙ (sound.dead n h).2

    in_p1 : p < length rows1
    in_p1 = rw (length-set f.rows c first_row) in_p

    pub sound_with : (ks : List ℕ) → (has p f.free ≡ true → ks ≡ [])
        → IsSound (record f { rows = set rows1 p (record (row_at rows1 p) { children = ks }) })
    sound_with ks none = record {
      single = sound.single;
      all = sound.all;
      dead = λ n h. (
        (sound.dead n h).0,
        (sound.dead n h).1,
        at_set bare_row rows1 p (record (row_at rows1 p) { children = ks }) n in_p1 ∙ by (n == p) n refl h,
      );
    }
      where
        by : (b : Bool) (n : ℕ) → b ≡ (n == p) → has n f.free ≡ true → cond b (record (row_at rows1 p) { children = ks }) (row_at rows1 n) ≡ bare_row
        by true n e h =
            let s : n ≡ p = same_of n p e in
            let d : has p f.free ≡ true = ap (λ k. has k f.free) (sym s) ∙ h in
            same_row (ap (λ r. r.parent) (still p d)) (none d)
        by false n e h = still n h

last_is : (k : ℕ) (rest : List ℕ) (n : ℕ) → (if length (rest ++ n ∷ []) == 0 then k else slice_index (rest ++ n ∷ []) (length (rest ++ n ∷ []) - 1)) ≡ n
last_is k rest n = grind (arith, common_steps)

below_all : (k : ℕ) (xs : List ℕ) → ((n : ℕ) → has n xs ≡ true → n < k) → Below k xs
below_all k [] f = tt
below_all k (x ∷ xs) f = (f x (rw (is_same x) refl), below_all k xs (λ n h. f n (later n x xs h)))
  where
    later : (n x : ℕ) (xs : List ℕ) → has n xs ≡ true → has n (x ∷ xs) ≡ true
    later n x xs h = by (x == n)
      where
        by : (b : Bool) → (b || has n xs) ≡ true
        by true = refl
        by false = h

module _ {T : Type 0} (links : List Link) (values : List (Option T)) (free : List ℕ) (f : Forest T) (e : record { rows = rows_of links; values = values; free = free } ≡ f)
    (tied : (length links ≡ length values) × IsTied links) (sound : IsSound (record { rows = rows_of links; values = values; free = free })) where
  abbrev whole : Forest T
  whole = record { rows = rows_of links; values = values; free = free }

  long_rows : length whole.rows ≡ length whole.values
  long_rows = length-map links (row_of links) ∙ tied.0

  here : (n : ℕ) → n < length links → n < length whole.rows
  here n h = rw (length-map links (row_of links)) h

  live_whole : (n : ℕ) → IsLive f n → IsLive whole n
  live_whole n h = subst (λ f. IsLive f n) (sym e) h

  pub link_kept : (c p : ℕ) → IsLive f c → IsLive f p → parent_of f c ≡ None → IsSound (record { rows = rows_of (linked links c p); values = values; free = free })
  link_kept c p live_c live_p h =
      let in_c = live_in links values free f e tied c live_c in
      let in_p = live_in links values free f e tied p live_p in
      subst (λ rs. IsSound (record { rows = rs; values = values; free = free })) (sym (rows_linked links c p in_c in_p tied.1 (unlinked links values free f e tied c p live_c live_p h)))
      (sound_with whole sound long_rows c p (here c in_c) (here p in_p) (live_whole c live_c) (Some p) ((row_at whole.rows p).children ++ c ∷ [])
      (λ d. absurd (not_live whole sound long_rows p p (live_whole p live_p) d refl)))

  pub unlink_kept : (c : ℕ) → IsLive f c → (p : ℕ) → (at links c).parent ≡ Some p → IsSound (record { rows = rows_of (unlinked_links links c p); values = values; free = free })
  unlink_kept c live_c p h =
      let in_c = live_in links values free f e tied c live_c in
      let in_p = parent_present links c p tied.1 h in
      subst (λ rs. IsSound (record { rows = rs; values = values; free = free })) (sym (rows_unlinked links c p in_c tied.1 h))
      (sound_with whole sound long_rows c p (here c in_c) (here p in_p) (live_whole c live_c) None (without c (row_at whole.rows p).children)
      (λ d. ap (λ r. without c r.children) (sound.dead p d).2))

  -- there is room for one more free node
  has_end : (n c : ℕ) (xs : List ℕ) → has n (xs ++ c ∷ []) ≡ true → (has n xs ≡ true) ⊎ (n ≡ c)
  has_end n c [] h = by (c == n) refl h
    where
      by : (b : Bool) → b ≡ (c == n) → (b || false) ≡ true → (has n [] ≡ true) ⊎ (n ≡ c)
      by true e h = inr (sym (same_of c n e))
      by false e h = inl h
  has_end n c (x ∷ xs) h = by (x == n) h (has_end n c xs)
    where
      by : (b : Bool) → (b || has n (xs ++ c ∷ [])) ≡ true → (has n (xs ++ c ∷ []) ≡ true → (has n xs ≡ true) ⊎ (n ≡ c)) → ((b || has n xs) ≡ true) ⊎ (n ≡ c)
      by true h f = inl refl
      by false h f = f h

  single_end : (c : ℕ) (xs : List ℕ) → Single xs → has c xs ≡ false → Single (xs ++ c ∷ [])
  single_end c [] s h = (refl, tt)
  single_end c (x ∷ xs) s h = by (x == c) refl h (single_end c xs s.1) (has_end x c xs)
    where
      by : (b : Bool) → b ≡ (x == c) → (b || has c xs) ≡ false → (has c xs ≡ false → Single (xs ++ c ∷ []))
          → (has x (xs ++ c ∷ []) ≡ true → (has x xs ≡ true) ⊎ (x ≡ c)) → (has x (xs ++ c ∷ []) ≡ false) × Single (xs ++ c ∷ [])
      by true e h f g = absurd (false≢true (sym h))
      by false e h f g = (no_more (has x (xs ++ c ∷ [])) refl, f h)
        where
          no_more : (b : Bool) → has x (xs ++ c ∷ []) ≡ b → b ≡ false
          no_more true w = split (g w)
            where
              split : (has x xs ≡ true) ⊎ (x ≡ c) → true ≡ false
              split (inl t) = absurd (false≢true (sym s.0 ∙ t))
              split (inr t) = absurd (other_of x c e t)
          no_more false w = refl

  module _ (c : ℕ) (live : IsLive f c) (alone_c : parent_of f c ≡ None) (bare : children_of f c ≡ []) where
    not_free : has c free ≡ false
    not_free = by (has c free) refl
      where
        by : (b : Bool) → has c free ≡ b → b ≡ false
        by true h = absurd (not_live whole sound long_rows c c (live_whole c live) h refl)
        by false h = refl

    in_values : c < length values
    in_values = live_present values c (live_whole c live)

    single_more : Single (free ++ c ∷ [])
    single_more = single_end c free sound.single not_free

    inside_more : (n : ℕ) → has n (free ++ c ∷ []) ≡ true → n < length values
    inside_more n h = by (has_end n c free h)
      where
        by : (has n free ≡ true) ⊎ (n ≡ c) → n < length values
        by (inl t) = (sound.dead n t).0
        by (inr t) = rw t in_values

    pub free_room : length free < length values
    free_room =
        let k : length (free ++ c ∷ []) ≤ length values = few (length values) (free ++ c ∷ []) single_more (below_all (length values) (free ++ c ∷ []) inside_more) in
        let l : length (free ++ c ∷ []) ≡ length free + 1 = grind (arith, common_steps) in
        omega (arith, k, l)

    pub free_kept : IsSound (record { rows = rows_of links; values = set values c None; free = free ++ c ∷ [] })
    free_kept = record { single = single_more; all = λ n l h. every n l h; dead = λ n h. by n (has_end n c free h) }
      where
        every : (n : ℕ) → n < length (set values c None) → get_or (set values c None) n None ≡ None → has n (free ++ c ∷ []) ≡ true
        every n l h = at_c (n == c) refl (sym (at_set None values c None n in_values) ∙ h)
          where
            at_c : (b : Bool) → b ≡ (n == c) → cond b None (get_or values n None) ≡ None → has n (free ++ c ∷ []) ≡ true
            at_c true e w = ap (λ k. has k (free ++ c ∷ [])) (same_of n c e) ∙ has_last c free
            at_c false e w = has_still n c free (sound.all n (rw (← length-set values c None) l) w)

        row_c : row_at (rows_of links) c ≡ bare_row
        row_c = ap (λ f. row_at f.rows c) e ∙ same_row alone_c bare

        by : (n : ℕ) → (has n free ≡ true) ⊎ (n ≡ c) → (n < length (set values c None)) × (get_or (set values c None) n None ≡ None) × (row_at (rows_of links) n ≡ bare_row)
        by n (inl t) = (
          rw (length-set values c None) (sound.dead n t).0,
          at_set None values c None n in_values ∙ ap (λ o. cond (n == c) None o) (sound.dead n t).1 ∙ flat (n == c),
          (sound.dead n t).2,
        )
          where
            flat : (b : Bool) → cond {A = Option T} b None None ≡ None
            flat true = refl
            flat false = refl
        by n (inr t) = (
          rw (length-set values c None, t) in_values,
          at_set None values c None n in_values ∙ rw (t, is_same c) refl,
          rw t row_c,
        )

  -- a node that was freed is had again
  single_parts : (xs : List ℕ) (c : ℕ) → Single (xs ++ c ∷ []) → Single xs × (has c xs ≡ false)
  single_parts [] c s = (tt, refl)
  single_parts (x ∷ xs) c s = by (has x xs) (x == c) refl refl (single_parts xs c s.1)
    where
      by : (b t : Bool) → has x xs ≡ b → t ≡ (x == c) → Single xs × (has c xs ≡ false) → ((has x xs ≡ false) × Single xs) × ((t || has c xs) ≡ false)
      by true t h e r = absurd (false≢true (sym s.0 ∙ has_still x c xs h))
      by false true h e r = absurd (false≢true (sym s.0 ∙ ap (λ k. has k (xs ++ c ∷ [])) (same_of x c e) ∙ has_last c xs))
      by false false h e r = ((h, r.0), r.1)

  module _ (rest : List ℕ) (n : ℕ) (s : free ≡ rest ++ n ∷ []) where
    pub reuse_in : n < length values
    reuse_in = (sound.dead n (ap (λ k. has n k) s ∙ has_last n rest)).0

    pub reuse_number : n ≡ node_number f
    reuse_number =
        sym (ap node_number (sym e) ∙ ap (λ k. node_number (record { rows = rows_of links; values = values; free = k })) s ∙ last_is (length (rows_of links)) rest n)

    pub reuse_kept : (v : T) → IsSound (record { rows = rows_of links; values = set values n (Some v); free = rest })
    reuse_kept v =
        let parts = single_parts rest n (subst (λ k. Single k) s sound.single) in
        record { single = parts.0; all = λ m l h. every m (m == n) refl (rw (← length-set values n (Some v)) l) (sym (at_set None values n (Some v) m reuse_in) ∙ h); dead = λ m h. by parts.1 m h (sound.dead m (ap (λ k. has m k) s ∙ has_still m n rest h)) }
      where
        every : (m : ℕ) (b : Bool) → b ≡ (m == n) → m < length values → cond b (Some v) (get_or values m None) ≡ None → has m rest ≡ true
        every m true e l w = absurd (cc)
        every m false e l w = pick (has_end m n rest (ap (λ k. has m k) (sym s) ∙ sound.all m l w))
          where
            pick : (has m rest ≡ true) ⊎ (m ≡ n) → has m rest ≡ true
            pick (inl t) = t
            pick (inr t) = absurd (other_of m n e t)

        by : has n rest ≡ false → (m : ℕ) → has m rest ≡ true → (m < length values) × (get_or values m None ≡ None) × (row_at (rows_of links) m ≡ bare_row)
            → (m < length (set values n (Some v))) × (get_or (set values n (Some v)) m None ≡ None) × (row_at (rows_of links) m ≡ bare_row)
        by other m h d =
            let ne : m ≢ n = λ e. absurd (false≢true (sym other ∙ ap (λ k. has k rest) (sym e) ∙ h)) in (
              rw (length-set values n (Some v)) d.0,
              at_set None values n (Some v) m reuse_in ∙ ap (λ t. cond t (Some v) (get_or values m None)) (is_other m n ne) ∙ d.1,
              d.2,
            )

  -- a live node has another value
  other : (v : T) (c m : ℕ) → (get_or values m None ≡ None → has m free ≡ true) → (b : Bool) → cond b (Some v) (get_or values m None) ≡ None → has m free ≡ true
  other v c m f true w = absurd (cc)
  other v c m f false w = f w

  pub set_kept : (c : ℕ) → IsLive f c → (v : T) → IsSound (record { rows = rows_of links; values = set values c (Some v); free = free })
  set_kept c live v = record {
    single = sound.single;
    all = λ m l h. other v c m (sound.all m (rw (← length-set values c (Some v)) l)) (m == c) (sym (at_set None values c (Some v) m (live_present values c (live_whole c live))) ∙ h);
    dead = λ m h.
        let d = sound.dead m h in (
          rw (length-set values c (Some v)) d.0,
          at_set None values c (Some v) m (live_present values c (live_whole c live))
              ∙ ap (λ t. cond t (Some v) (get_or values m None)) (is_other m c (not_live whole sound long_rows c m (live_whole c live) h)) ∙ d.1,
          d.2,
        );
  }

  -- a node that is new
  at_end : {A : Type 0} (x : A) (xs : List (Option A)) (n : ℕ) {r : Bool} → (n < length xs → get_or xs n None ≡ None → r ≡ true) → get_or (xs ++ Some x ∷ []) n None ≡ None → n < length (xs ++ Some x ∷ []) → r ≡ true
  at_end x [] zero f h l = absurd (cc)
  at_end x [] (suc n) f h l = absurd (omega (arith, l))
  at_end x (y ∷ ys) zero f h l = f (omega arith) h
  at_end x (y ∷ ys) (suc n) f h l = at_end x ys n (λ k w. f (omega (arith, k)) w) h (omega (arith, l))

  module _ (none : free ≡ []) (v : T) where
    pub fresh_kept : IsSound (record { rows = rows_of (links ++ no_link ∷ []); values = values ++ Some v ∷ []; free = [] })
    fresh_kept = record { single = tt; all = λ n l h. at_end v values n (λ k w. ap (λ u. has n u) (sym none) ∙ sound.all n k w) h l; dead = λ n h. absurd (false≢true h) }

    pub fresh_whole : record { rows = rows_of (links ++ no_link ∷ []); values = values ++ Some v ∷ []; free = [] } ≡ with_node f v
    fresh_whole =
        (λ i. record { rows = rows_added links tied.1 i; values = values ++ Some v ∷ []; free = [] })
        ∙ sym (ap (λ k. with_node (record { rows = rows_of links; values = values; free = k }) v) none)
        ∙ ap (λ f. with_node f v) e

    pub fresh_number : length links ≡ node_number f
    fresh_number =
        sym (ap node_number (sym e) ∙ ap (λ k. node_number (record { rows = rows_of links; values = values; free = k })) none ∙ length-map links (row_of links))

    pub fresh_long : length (links ++ no_link ∷ []) ≡ length (values ++ Some v ∷ [])
    fresh_long = one links no_link ∙ ap (λ k. k + 1) tied.0 ∙ sym (one values (Some v))
      where
        one : {A : Type 0} (xs : List A) (x : A) → length (xs ++ x ∷ []) ≡ length xs + 1
        one xs x = grind (arith, common_steps)

  -- a free node that is new
  module _ (none : free ≡ []) where
    abbrev grown : List (Option T)
    grown = values ++ None ∷ []

    one_more : {A : Type 0} (xs : List A) (x : A) → length (xs ++ x ∷ []) ≡ length xs + 1
    one_more xs x = grind (arith, common_steps)

    pub vacant_long : length (links ++ no_link ∷ []) ≡ length grown
    vacant_long = one_more links no_link ∙ ap (λ k. k + 1) tied.0 ∙ sym (one_more values None)

    pub vacant_kept : IsSound (record { rows = rows_of (links ++ no_link ∷ []); values = grown; free = length links ∷ [] })
    vacant_kept = record { single = (refl, tt); all = all_here; dead = dead_here }
      where
        in_old : (n : ℕ) → n < length grown → n ≢ length links → n < length values
        in_old n l ne = grind (arith, one_more values None, tied.0, l, ne)

        all_here : (n : ℕ) → n < length grown → get_or grown n None ≡ None → has n (length links ∷ []) ≡ true
        all_here n l e = by (length links == n) refl
          where
            by : (b : Bool) → b ≡ (length links == n) → (b || false) ≡ true
            by true t = refl
            by false t = absurd (false≢true (ap (λ k. has n k) (sym none) ∙ sound.all n (in_old n l (λ s. other_of (length links) n t (sym s))) (sym (same_past None values n) ∙ e)))

        dead_here : (n : ℕ) → has n (length links ∷ []) ≡ true → (n < length grown) × (get_or grown n None ≡ None) × (row_at (rows_of (links ++ no_link ∷ [])) n ≡ bare_row)
        dead_here n h = by (length links == n) refl h
          where
            by : (b : Bool) → b ≡ (length links == n) → (b || false) ≡ true
                → (n < length grown) × (get_or grown n None ≡ None) × (row_at (rows_of (links ++ no_link ∷ [])) n ≡ bare_row)
            by true t w =
                let same : length links ≡ n = same_of (length links) n t in (
                  grind (arith, one_more values None, tied.0, same),
                  same_past None values n ∙ get_or_past values n None (omega (arith, tied.0, same)),
                  ap (λ rs. row_at rs n) (rows_added links tied.1) ∙ same_past bare_row (rows_of links) n
                      ∙ get_or_past (rows_of links) n bare_row (omega (arith, length-map links (row_of links), same)),
                )
            by false t w = absurd (false≢true w)

    pub vacant_whole : record { rows = rows_of (links ++ no_link ∷ []); values = grown; free = length links ∷ [] } ≡ with_vacancy f
    vacant_whole =
        (λ i. record { rows = rows_added links tied.1 i; values = grown; free = sym (length-map links (row_of links)) i ∷ [] })
        ∙ sym (ap (λ k. with_vacancy (record { rows = rows_of links; values = values; free = k })) none)
        ∙ ap with_vacancy e

-- nothing was left, and nothing is
pub none_left : {A : Type 0} (xs ys : List A) → xs ≡ ys ++ [] → length xs ≡ 0 → (xs ≡ []) × (ys ≡ [])
none_left xs [] e h = (e, refl)
none_left xs (y ∷ ys) e h = absurd (omega (arith, ap length e, h))

pub room_kept : {A : Type 0} (xs : List A) (x : A) (k : ℕ) → length xs < k → length (xs ++ x ∷ []) ≤ k
room_kept xs x k h = simp length-append (omega arith)

pub still_room : (n : ℕ) {a b : ℕ} → n ≤ a → a ≤ b → n ≤ b
still_room n h k = omega arith

-- a list of no elements
pub empty : {A : Type 0} (xs : List A) → length xs ≡ 0 → xs ≡ []
empty [] e = refl
empty (x ∷ xs) e = absurd (omega (arith, e))
