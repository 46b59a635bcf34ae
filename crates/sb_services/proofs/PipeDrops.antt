-- A handle fewer on the pipe of a number, which is found by its name.
use Rattle.std.proofs.lemmas.Option.{same_Some}
use Rattle.std.proofs.Common.{◌≡◌, ◌-◌, ℕ, Bool, true, false, cond, refl, sym, subst, ◌∙◌, ap, List, [], ◌∷◌, ◌==◌, nat_le, if◌then◌else◌}
use Rattle.std.proofs.lemmas.Bool.{false≢true}
use Rattle.std.specs.Prelude.{None, Some, not, ◌||◌, ◌&&◌}
use Rattle.std.specs.List.{list_all}
use Rattle.std.specs.Map.{lookup, remove_entry, set_value}
use Rattle.sb_names.specs.Keys.{key_of}
use Rattle.sb_names.specs.Maps.{Rows, Rises, is_key, found, without, replaced}
use Rattle.sb_names.specs.Laws.{OutIsOut}
use Rattle.sb_services.specs.PipeKeeping.{StandsUnder, is_numbered}
use Rattle.sb_services.specs.Pipes.{fewer}
use Rattle.sb_services.specs.declared.pipe_rows.PipeRow.{PipeRow}
use Rattle.sb_services.proofs.NamedPipes.{own_key}
use Rattle.sb_services.proofs.NumberedPipes.{numbered_nowhere, numbered_there, numbered_replaced, stands_fewer}

module _ (key : List ℕ) (number : ℕ) where
  abbrev under : List ℕ × PipeRow → Bool
  under row = not (row.1.number == number) || is_key key row.0

  abbrev dropped : PipeRow → Rows PipeRow → Rows PipeRow
  dropped pipe rows =
      if nat_le pipe.handles 1 then remove_entry (is_key key) rows else set_value (is_key key) rows (record pipe { handles = pipe.handles - 1 })

  own : (pipe : PipeRow) → (pipe.number == number) ≡ true → (rows : Rows PipeRow) → list_all under rows ≡ true
      → lookup (is_key key) rows ≡ Some pipe → fewer rows number ≡ dropped pipe rows
  own pipe n [] u f = absurd (cc)
  own pipe n (row ∷ rows) u f = by (row.1.number == number) refl (is_key key row.0) refl u f (own pipe n rows)
    where
      behind : (b : Bool) (xs ys : Rows PipeRow) → row ∷ (if b then xs else ys) ≡ (if b then row ∷ xs else row ∷ ys)
      behind true xs ys = refl
      behind false xs ys = refl

      by : (s : Bool) → (row.1.number == number) ≡ s → (t : Bool) → is_key key row.0 ≡ t → ((not s || t) && list_all under rows) ≡ true
          → cond t (Some row.1) (lookup (is_key key) rows) ≡ Some pipe
          → (list_all under rows ≡ true → lookup (is_key key) rows ≡ Some pipe → fewer rows number ≡ dropped pipe rows)
          → fewer (row ∷ rows) number ≡ dropped pipe (row ∷ rows)
      by true e true t u f i =
          rw (e, t) (ap (λ x. if nat_le x.handles 1 then rows else (row.0, record x { handles = x.handles - 1 }) ∷ rows) (same_Some row.1 pipe f))
      by true e false t u f i = absurd (false≢true u)
      by false e true t u f i = absurd (false≢true (sym e ∙ ap (λ x. x.number == number) (same_Some row.1 pipe f) ∙ n))
      by false e false t u f i =
          rw (e, t) (ap (λ more. row ∷ more) (i u f)
          ∙ behind (nat_le pipe.handles 1) (remove_entry (is_key key) rows) (set_value (is_key key) rows (record pipe { handles = pipe.handles - 1 })))

-- if it has more handles
pub dropped_one : (rows : Rows PipeRow) (name : List ℕ) (number : ℕ) (pipe : PipeRow) → found rows name ≡ Some pipe → (pipe.number == number) ≡ true
    → nat_le pipe.handles 1 ≡ false → StandsUnder name number rows → fewer rows number ≡ replaced rows name (record pipe { handles = pipe.handles - 1 })
dropped_one rows name number pipe f n more u = own (key_of name) number pipe n rows u f
    ∙ ap (λ b. if b then without rows name else replaced rows name (record pipe { handles = pipe.handles - 1 })) more

-- if it has no more
pub dropped_last : (rows : Rows PipeRow) (name : List ℕ) (number : ℕ) (pipe : PipeRow) → found rows name ≡ Some pipe → (pipe.number == number) ≡ true
    → nat_le pipe.handles 1 ≡ true → StandsUnder name number rows → fewer rows number ≡ without rows name
dropped_last rows name number pipe f n last u = own (key_of name) number pipe n rows u f
    ∙ ap (λ b. if b then without rows name else replaced rows name (record pipe { handles = pipe.handles - 1 })) last

-- the pipe of the name is that of the number
pub own_number : (rows : Rows PipeRow) (name : List ℕ) (number : ℕ) (pipe : PipeRow) → found rows name ≡ Some pipe → Rises rows → StandsUnder name number rows
    → is_numbered rows number ≡ true → (pipe.number == number) ≡ true
own_number rows name number pipe f r u there = sym (numbered_there rows name number pipe f r u) ∙ there

-- it is there while it has handles
pub there_still : (rows : Rows PipeRow) (name : List ℕ) (number : ℕ) (pipe : PipeRow) → found rows name ≡ Some pipe → is_numbered rows number ≡ true
    → is_numbered (replaced rows name (record pipe { handles = pipe.handles - 1 })) number ≡ true
there_still rows name number pipe f there = numbered_replaced rows name pipe (record pipe { handles = pipe.handles - 1 }) number f refl ∙ there

-- and gone with its last one
pub gone_with_last : OutIsOut PipeRow → (rows : Rows PipeRow) (name : List ℕ) (number : ℕ) → fewer rows number ≡ without rows name → Rises rows
    → StandsUnder name number rows → is_numbered (without rows name) number ≡ false
gone_with_last outs rows name number last r u =
    numbered_nowhere (without rows name) name number
    (outs rows name name r ∙ ap (λ b. if b then None else found rows name) (own_key (key_of name)))
    (subst (StandsUnder name number) last (stands_fewer rows name number u))
