-- What is found where after a rename.
use Rattle.std.proofs.Common.{◌≡◌, ℕ, Bool, true, false, refl, sym, ◌∙◌, ap, arith, List, [], ◌++◌, length, drop, if◌then◌else◌}
use Rattle.std.specs.Prelude.{Option, None, Some, Ok, is_some, not}
use Rattle.std.specs.Map.{lookup}
use Rattle.sb_call.specs.Statuses.{refusal, success, path_not_found, name_not_found, invalid_parameter, name_collision, sharing_violation}
use Rattle.sb_call.specs.declared.replies.Answer.{Answer}
use Rattle.sb_names.specs.Keys.{key_of, is_below}
use Rattle.sb_names.specs.Laws.{RenamesAreFound, RenamesAddNothing as NothingIsAdded, RenamesLeaveNothing as OldNamesAreGone}
use Rattle.sb_names.specs.Maps.{found, is_key, is_there}
use Rattle.sb_names.specs.Renames.{renamed_key, renamed_rows, renamed_tree}
use Rattle.sb_services.specs.Files.{Files, has_parent, is_shared_out, rename, rename_access, rename_by, rename_is_refused, rename_sharing}
use Rattle.sb_services.specs.FileLaws.{RefusedRenamesChangeNothing, RenamesAddNothing, RenamesKeepObjects, RenamesMove, RenamesLeaveNothing, RenamesLeaveOthers}
use Rattle.sb_services.proofs.FileLemmas.{parent_there}

-- a choice of two
pub chosen : {X : Type 0} (P : X → Type 0) (b : Bool) (x y : X) → P x → P y → P (if b then x else y)
chosen P true x y p q = p
chosen P false x y p q = q

-- what holds of a rename that is refused, and of one that is not, holds of each
by_rename : (P : Files × Answer → Type 0) (files : Files) (name to : List ℕ) → ((status : ℕ) → (status ≡ success → ⊥) → P (rename_is_refused files status))
    → P (record files { names = renamed_rows files.names name to }, record { status = success; handle = 0; ext = [] }) → P (rename files name to)
by_rename P files name to refused done =
    chosen P (not (has_parent files name)) (rename_is_refused files path_not_found) (rename_by (found files.names name) files name to)
    (refused path_not_found (λ h. absurd (omega (arith, h)))) (by (found files.names name))
  where
    by : (o : Option ℕ) → P (rename_by o files name to)
    by None = refused name_not_found (λ h. absurd (omega (arith, h)))
    by (Some number) =
        chosen P (is_below (key_of name) (key_of to)) (rename_is_refused files invalid_parameter) _ (refused invalid_parameter (λ h. absurd (omega (arith, h))))
        (chosen P (not (has_parent files to)) (rename_is_refused files path_not_found) _ (refused path_not_found (λ h. absurd (omega (arith, h))))
        (chosen P (is_there files.names to) (rename_is_refused files name_collision) _ (refused name_collision (λ h. absurd (omega (arith, h))))
        (chosen P (is_shared_out files number rename_access rename_sharing) (rename_is_refused files sharing_violation) _
        (refused sharing_violation (λ h. absurd (omega (arith, h)))) done)))

pub refused_renames_change_nothing : RefusedRenamesChangeNothing
refused_renames_change_nothing files name to =
    by_rename (λ done. (done.1.status ≡ success → ⊥) → done.0 ≡ files) files name to (λ status n h. refl) (λ h. absurd (h refl))

pub renames_keep_objects : RenamesKeepObjects
renames_keep_objects files name to =
    by_rename (λ done. (done.0.objects ≡ files.objects) × (done.0.shares ≡ files.shares)) files name to (λ status n. (refl, refl)) (refl, refl)

-- a rename that succeeds is one of the tree
accepted : (files : Files) (name to : List ℕ) → (rename files name to).1.status ≡ success
    → (is_there files.names name ≡ true) × (is_below (key_of name) (key_of to) ≡ false) × (has_parent files to ≡ true) × (is_there files.names to ≡ false)
    × ((rename files name to).0.names ≡ renamed_rows files.names name to)
accepted files name to done = outer (has_parent files name) done
  where
    tested : (b c d s : Bool)
        → (if b then rename_is_refused files invalid_parameter
        else (if not c then rename_is_refused files path_not_found
        else (if d then rename_is_refused files name_collision
        else (if s then rename_is_refused files sharing_violation
        else (record files { names = renamed_rows files.names name to }, refusal success))))).1.status ≡ success
        → (b ≡ false) × (c ≡ true) × (d ≡ false)
        × ((if b then rename_is_refused files invalid_parameter
        else (if not c then rename_is_refused files path_not_found
        else (if d then rename_is_refused files name_collision
        else (if s then rename_is_refused files sharing_violation
        else (record files { names = renamed_rows files.names name to }, refusal success))))).0.names ≡ renamed_rows files.names name to)
    tested false true false false h = (refl, refl, refl, refl)
    tested true c d s h = absurd (omega (arith, h))
    tested false false d s h = absurd (omega (arith, h))
    tested false true true s h = absurd (omega (arith, h))
    tested false true false true h = absurd (omega (arith, h))

    by : (o : Option ℕ) → (rename_by o files name to).1.status ≡ success
        → (is_some o ≡ true) × (is_below (key_of name) (key_of to) ≡ false) × (has_parent files to ≡ true) × (is_there files.names to ≡ false)
        × ((rename_by o files name to).0.names ≡ renamed_rows files.names name to)
    by None h = absurd (omega (arith, h))
    by (Some number) h =
        let known = tested (is_below (key_of name) (key_of to)) (has_parent files to) (is_there files.names to)
        (is_shared_out files number rename_access rename_sharing) h in
        (refl, known.0, known.1, known.2, known.3)

    outer : (p : Bool) → (if not p then rename_is_refused files path_not_found else rename_by (found files.names name) files name to).1.status ≡ success
        → (is_there files.names name ≡ true) × (is_below (key_of name) (key_of to) ≡ false) × (has_parent files to ≡ true) × (is_there files.names to ≡ false)
        × ((if not p then rename_is_refused files path_not_found else rename_by (found files.names name) files name to).0.names
        ≡ renamed_rows files.names name to)
    outer false h = absurd (omega (arith, h))
    outer true h = by (found files.names name) h

renamed : (files : Files) (name to : List ℕ) → (rename files name to).1.status ≡ success → renamed_tree files.names name to ≡ Ok (rename files name to).0.names
renamed files name to done =
    let known = accepted files name to done in
    rw (known.0, known.1, parent_there files to known.2, known.3) (ap (λ rows. Ok rows) (sym known.4))

pub renames_move : RenamesAreFound → RenamesMove
renames_move moves files name to key are to_name done there =
    moves files.names (rename files name to).0.names name to key are.tree are.folded to_name (renamed files name to done) there

pub renames_leave_others : RenamesAreFound → RenamesLeaveOthers
renames_leave_others moves files name to other are to_name done apart there =
    ap (λ key. lookup (is_key key) (rename files name to).0.names) (sym stays) ∙ renames_move moves files name to (key_of other) are to_name done there
  where
    stays : renamed_key (key_of name) (key_of to) (key_of other) ≡ key_of other
    stays = ap (λ b. if b then key_of to ++ drop (length (key_of name)) (key_of other) else key_of other) apart

pub renames_leave_nothing : OldNamesAreGone → RenamesLeaveNothing
renames_leave_nothing gone files name to other are to_name done at =
    gone files.names (rename files name to).0.names name to (key_of other) are.tree are.folded to_name (renamed files name to done) at

pub renames_add_nothing : NothingIsAdded → RenamesAddNothing
renames_add_nothing adds files name to other done there =
    adds files.names (rename files name to).0.names name to (key_of other) (renamed files name to done) there
