-- What the service keeps is kept by each change.
use Rattle.std.proofs.Common.{◌≡◌, ◌<◌, ◌≤◌, ◌+◌, ◌-◌, ℕ, true, false, refl, sym, subst, List, [], ◌∷◌, ◌++◌, length, length-set}
use Rattle.std.proofs.lemmas.List.{length-append}
use Rattle.std.specs.Prelude.{Option, None, Some, slice_set}
use Rattle.std.specs.List.{IsDistinct}
use Rattle.sb_base.specs.Names.{is_name_of}
use Rattle.sb_names.specs.Laws.{NamesFold}
use Rattle.sb_names.specs.Maps.{Rows, found, put, replaced}
use Rattle.sb_services.specs.PipeKeeping.{IsKept, is_numbered}
use Rattle.sb_services.specs.Pipes.{ArePipes, fewer}
use Rattle.sb_services.specs.declared.pipe_modes.PipeForm.{PipeForm}
use Rattle.sb_services.specs.declared.pipe_modes.PipeMode.{PipeMode}
use Rattle.sb_services.specs.declared.pipe_rows.PipeRow.{PipeRow}
use Rattle.sb_services.proofs.KeptPipes.{all_fewer, all_put, all_replaced, pipes_with_pipe, pipes_with_instance, pipes_closed}
use Rattle.sb_services.proofs.NamedPipes.{named_with_pipe, named_with_instance, named_fewer}
use Rattle.sb_services.proofs.NumberedPipes.{live_fewer, live_gone, live_none, live_with_instance, live_with_pipe, named_gone}

kept_nothing : IsKept [] []
unfolding IsDistinct
kept_nothing = ((tt, refl), refl, live_none, refl)

pub kept_none : (names : List (Option (List ℕ))) (rows : Rows PipeRow) → names ≡ [] → rows ≡ [] → IsKept names rows
kept_none names rows n r = subst (IsKept names) (sym r) (subst (λ ns. IsKept ns []) (sym n) kept_nothing)

pub kept_with_instance : (names : List (Option (List ℕ))) (rows more : Rows PipeRow) (name : List ℕ) (row : PipeRow)
    → more ≡ replaced rows name (record row { handles = row.handles + 1 }) → found rows name ≡ Some row → row.handles < row.instances
    → IsKept names rows → IsKept names more
kept_with_instance names rows more name row e f room kept =
    let value : PipeRow = record row { handles = row.handles + 1 } in
    subst (IsKept names) (sym e) (
      pipes_with_instance (record { rows = rows; made = length names }) name row f room kept.0,
      named_with_instance names name rows row value f refl kept.1,
      live_with_instance names name rows row value f refl kept.2,
      all_replaced (λ row. is_name_of row.0) rows name row value f (λ key h. h) kept.3,
    )

pub kept_with_pipe : NamesFold → (names after : List (Option (List ℕ))) (rows more : Rows PipeRow) (name : List ℕ) (mode : PipeMode) (form : PipeForm) (instances : ℕ)
    → after ≡ names ++ Some name ∷ []
    → more ≡ put rows name (record { number = length names + 1; mode = mode; form = form; instances = instances; handles = 1 })
    → is_name_of name ≡ true → found rows name ≡ None → 1 ≤ instances → instances ≤ 255 → IsKept names rows → IsKept after more
kept_with_pipe folds names after rows more name mode form instances n e is_name f low high kept =
    let row : PipeRow = record { number = length names + 1; mode = mode; form = form; instances = instances; handles = 1 } in
    let count : length names + 1 ≡ length (names ++ Some name ∷ []) = sym (length-append names (Some name ∷ [])) in
    let pipes = pipes_with_pipe (record { rows = rows; made = length names }) name mode form instances f low high kept.0 in
    subst (IsKept after) (sym e)
    (subst (λ ns. IsKept ns (put rows name row)) (sym n) (
      subst (λ made. ArePipes (record { rows = put rows name row; made = made })) count pipes,
      named_with_pipe names name rows row f refl kept.0.1 kept.1,
      live_with_pipe names name rows row f refl kept.2,
      all_put (λ row. is_name_of row.0) rows name row f kept.3 (folds name is_name),
    ))

-- a handle fewer, on a pipe that is there still, and on one that is gone by it
pub kept_fewer : (names : List (Option (List ℕ))) (rows less : Rows PipeRow) (number : ℕ) → less ≡ fewer rows number → is_numbered less number ≡ true
    → IsKept names rows → IsKept names less
kept_fewer names rows less number e there kept =
    subst (IsKept names) (sym e) (
      pipes_closed (record { rows = rows; made = length names }) number kept.0,
      named_fewer names rows number kept.1,
      live_fewer names rows number (subst (λ rows. is_numbered rows number ≡ true) e there) kept.2,
      all_fewer (λ row. is_name_of row.0) rows number (λ row more h. h) kept.3,
    )

pub kept_gone : (names after : List (Option (List ℕ))) (rows less : Rows PipeRow) (number : ℕ) → less ≡ fewer rows number → is_numbered less number ≡ false
    → 1 ≤ number → after ≡ slice_set names (number - 1) None → IsKept names rows → IsKept after less
kept_gone names after rows less number e gone low n kept =
    let gone_too = subst (λ rows. is_numbered rows number ≡ false) e gone in
    let pipes = pipes_closed (record { rows = rows; made = length names }) number kept.0 in
    let count : length names ≡ length (slice_set names (number - 1) None) = sym (length-set names (number - 1) None) in
    subst (IsKept after) (sym e)
    (subst (λ ns. IsKept ns (fewer rows number)) (sym n) (
      subst (λ made. ArePipes (record { rows = fewer rows number; made = made })) count pipes,
      named_gone names (fewer rows number) number low gone_too (named_fewer names rows number kept.1),
      live_gone names rows number low kept.2,
      all_fewer (λ row. is_name_of row.0) rows number (λ row more h. h) kept.3,
    ))
