-- What a file.create does, by its cases.
use Rattle.std.proofs.Common.{◌≡◌, ◌+◌, ℕ, refl, arith, List, length}
use Rattle.std.specs.Prelude.{Option, None, Some, not, ◌&&◌, ◌||◌}
use Rattle.sb_call.specs.Statuses.{success, path_not_found, name_not_found, name_collision, not_a_directory, file_is_a_directory, sharing_violation}
use Rattle.sb_handles.specs.Effects.{Effect, refused}
use Rattle.sb_handles.specs.Tables.{Table}
use Rattle.sb_names.specs.Maps.{found}
use Rattle.sb_services.specs.FileCreation.{create, create_by, object_asked, open_by, opens, replaced_as, was_created, was_opened, was_overwritten, was_superseded}
use Rattle.sb_services.specs.Files.{Files, has_parent, is_directory, is_shared_out, object_of, with_attributes, with_object}
use Rattle.sb_services.specs.FileRequests.{needs_free_name, needs_object, replaces, wants_directory, wants_file}
use Rattle.sb_services.specs.declared.file_requests.Disposition.{Disposition}
use Rattle.sb_services.specs.declared.file_requests.Disposition.TheVariants as disposition
use Rattle.sb_services.specs.declared.file_requests.FileRequest.{FileRequest}
use Rattle.sb_services.proofs.RenameLaws.{chosen}

-- what holds of a call that is refused, of one that makes an object, and of one that opens what is there, as it is or with the
-- attributes that were asked for, holds of each
pub by_create : (P : Effect Files → Type 0) (files : Files) (handles : Table) (target : ℕ) (name : List ℕ) (request : FileRequest)
    → ((status : ℕ) → (status ≡ success → ⊥) → P (refused files handles status))
    → (found files.names name ≡ None → P (opens (with_object files name (object_asked request)) handles target (length files.objects + 1) request was_created))
    → ((number : ℕ) → found files.names name ≡ Some number → P (opens files handles target number request was_opened))
    → ((number : ℕ) → found files.names name ≡ Some number
    → P (opens (with_attributes files number request.attributes) handles target number request was_superseded))
    → ((number : ℕ) → found files.names name ≡ Some number
    → P (opens (with_attributes files number request.attributes) handles target number request was_overwritten))
    → P (create files handles target name request)
by_create P files handles target name request refuses makes takes supersedes overwrites =
    chosen P (not (has_parent files name)) (refused files handles path_not_found)
    (create_by (found files.names name) files handles target name request)
    (refuses path_not_found (λ h. absurd (omega (arith, h)))) (by (found files.names name) refl)
  where
    replaced : (d : Disposition) (number : ℕ) → found files.names name ≡ Some number
        → P (opens (with_attributes files number request.attributes) handles target number request (replaced_as d))
    replaced disposition.Supersede number f = supersedes number f
    replaced disposition.Open number f = overwrites number f
    replaced disposition.Create number f = overwrites number f
    replaced disposition.OpenOrCreate number f = overwrites number f
    replaced disposition.Overwrite number f = overwrites number f
    replaced disposition.OverwriteOrCreate number f = overwrites number f

    opened : (number : ℕ) → found files.names name ≡ Some number → P (open_by files handles target number request)
    opened number f =
        chosen P (replaces request.disposition)
        (opens (with_attributes files number request.attributes) handles target number request (replaced_as request.disposition))
        (opens files handles target number request was_opened) (replaced request.disposition number f) (takes number f)

    by : (o : Option ℕ) → found files.names name ≡ o → P (create_by o files handles target name request)
    by None f =
        chosen P (needs_object request.disposition) (refused files handles name_not_found) _
        (refuses name_not_found (λ h. absurd (omega (arith, h)))) (makes f)
    by (Some number) f =
        chosen P (needs_free_name request.disposition) (refused files handles name_collision) _ (refuses name_collision (λ h. absurd (omega (arith, h))))
        (chosen P (not (is_directory (object_of files number).kind) && wants_directory request) (refused files handles not_a_directory) _
        (refuses not_a_directory (λ h. absurd (omega (arith, h))))
        (chosen P (is_directory (object_of files number).kind && (wants_file request || replaces request.disposition))
        (refused files handles file_is_a_directory) _ (refuses file_is_a_directory (λ h. absurd (omega (arith, h))))
        (chosen P (is_shared_out files number request.access.0 request.sharing.0) (refused files handles sharing_violation) _
        (refuses sharing_violation (λ h. absurd (omega (arith, h)))) (opened number f))))
