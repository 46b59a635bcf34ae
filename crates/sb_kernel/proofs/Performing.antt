-- What a kernel keeps of its namespace is kept by each request.
use Rattle.std.proofs.Common.{◌≡◌, ℕ, refl, Option, None, Some}
use Rattle.std.proofs.lemmas.Bool.{and_parts}
use Rattle.std.specs.Prelude.{◌^◌, nat_lt}
use Rattle.sb_base.specs.Names.{is_name_of}
use Rattle.sb_handles.specs.Tables.{held_by, without_handle}
use Rattle.sb_handles.specs.declared.objects.Held.{Held}
use Rattle.sb_handles.specs.declared.objects.Service.{Service}
use Rattle.sb_handles.specs.declared.objects.Service.TheVariants as service
use Rattle.sb_services.specs.FileLaws as file_laws
use Rattle.sb_services.specs.PipeLaws as pipe_laws
use Rattle.sb_services.specs.KeyLaws as key_laws
use Rattle.sb_services.specs.EventLaws as event_laws
use Rattle.sb_kernel.specs.Kept.{IsKept, IsSound}
use Rattle.sb_kernel.specs.Laws.{RequestsAreKept}
use Rattle.sb_kernel.specs.Namespaces.{Space, close_by, left_by}
use Rattle.sb_kernel.specs.Requests.{Request, is_narrow, is_proper}
use Rattle.sb_kernel.specs.Requests as request
use Rattle.sb_kernel.proofs.Closing.{file_closed, other_closed, pipe_closed}
use Rattle.sb_kernel.proofs.Kept.{event_created, event_opened, file_created, file_renamed, key_created, key_opened, pipe_created}

module _ (file_grants : file_laws.GrantsLeaveFiles) (pipe_grants : pipe_laws.GrantsLeavePipes)
    (files_granted : file_laws.CreatesGrantTheirFile) (files_refused : file_laws.RefusalsChangeNothing)
    (names_stay : file_laws.CreatesKeepNames) (files_kept : file_laws.CreatesKeepFiles)
    (renames_move : file_laws.RenamesMove) (renames_refused : file_laws.RefusedRenamesChangeNothing) (objects_stay : file_laws.RenamesKeepObjects)
    (pipes_granted : pipe_laws.CallsGrantTheirPipe) (pipes_refused : pipe_laws.RefusalsChangeNothing)
    (counts_kept : pipe_laws.CallsKeepCounts) (pipes_kept : pipe_laws.CallsKeepPipes)
    (keys_granted : key_laws.CreatesGrantTheirKey) (keys_refused : key_laws.RefusedCreatesChangeNothing) (keys_stay : key_laws.CreatesKeepKeys)
    (keys_opened : key_laws.OpensGrantTheirKey) (key_opens_refused : key_laws.RefusedOpensChangeNothing) (keys_left : key_laws.OpensLeaveKeys)
    (events_granted : event_laws.CreatesGrantTheirEvent) (events_refused : event_laws.RefusedCreatesChangeNothing)
    (events_stay : event_laws.CreatesKeepEvents) (events_opened : event_laws.OpensGrantTheirEvent)
    (event_opens_refused : event_laws.RefusedOpensChangeNothing) (events_left : event_laws.OpensLeaveEvents)
    (files_closed : file_laws.ClosesKeepFiles) (other_files_closed : file_laws.ClosesLeaveFiles)
    (pipes_closed : pipe_laws.ClosesKeepPipes) (other_pipes_closed : pipe_laws.ClosesLeavePipes) where
  close_kept : (ns : Space) (target handle : ℕ) → IsSound ns → (o : Option Held) → held_by ns.handles target handle ≡ o
      → IsKept (close_by o ns target handle).space
  close_kept ns target handle sound None f = sound.kept
  close_kept ns target handle sound (Some held) f = by held.object.service refl
    where
      by : (kind : Service) → held.object.service ≡ kind
          → IsKept (left_by kind (record ns { handles = without_handle ns.handles target handle }) held.object.number handle)
      by service.File e =
          file_closed files_closed other_files_closed pipes_closed other_pipes_closed ns sound.kept sound.handles_are sound.pipes_are target handle held f _ _ e refl refl
      by service.Pipe e =
          pipe_closed files_closed other_files_closed pipes_closed other_pipes_closed ns sound.kept sound.handles_are sound.pipes_are target handle held f _ _ e refl refl
      by service.Key e =
          other_closed files_closed other_files_closed pipes_closed other_pipes_closed ns sound.kept sound.handles_are sound.pipes_are target handle held f _
          (rw e refl) (rw e refl) refl
      by service.Event e =
          other_closed files_closed other_files_closed pipes_closed other_pipes_closed ns sound.kept sound.handles_are sound.pipes_are target handle held f _
          (rw e refl) (rw e refl) refl

  pub requests_are_kept : RequestsAreKept
  requests_are_kept ns target (request.Ping cookie text) proper sound = sound.kept
  requests_are_kept ns target (request.FileCreate name wanted) proper sound =
      let parts = and_parts (is_name_of name) (is_narrow wanted) proper in
      let narrow = and_parts (nat_lt wanted.access.0 (2 ^ 32)) (nat_lt wanted.sharing.0 (2 ^ 32)) parts.1 in
      file_created file_grants pipe_grants ns sound.kept sound.handles_are files_granted files_refused names_stay target name wanted narrow.0 narrow.1 _ _ refl refl
      (files_kept ns.files ns.handles target name wanted sound.handles_are sound.kept.files_agree)
  requests_are_kept ns target (request.FileQuery name) proper sound = sound.kept
  requests_are_kept ns target (request.FileRename name to) proper sound =
      file_renamed file_grants pipe_grants ns sound.kept sound.handles_are renames_move renames_refused objects_stay name to sound.files_are
      (and_parts (is_name_of name) (is_name_of to) proper).1 _ refl
  requests_are_kept ns target (request.PipeCreate name mode form instances) proper sound =
      pipe_created file_grants pipe_grants ns sound.kept sound.handles_are pipes_granted pipes_refused counts_kept target name mode form instances _ _ refl refl
      (pipes_kept ns.pipes ns.handles target name mode form instances sound.pipes_are sound.kept.pipes_agree)
  requests_are_kept ns target (request.KeyCreate name access) proper sound =
      key_created file_grants pipe_grants ns sound.kept sound.handles_are keys_granted keys_refused keys_stay target name access.0
      (and_parts (is_name_of name) (nat_lt access.0 (2 ^ 32)) proper).1 _ _ refl refl
  requests_are_kept ns target (request.KeyOpen name access) proper sound =
      key_opened file_grants pipe_grants ns sound.kept sound.handles_are keys_opened key_opens_refused keys_left target name access.0
      (and_parts (is_name_of name) (nat_lt access.0 (2 ^ 32)) proper).1 _ _ refl refl
  requests_are_kept ns target (request.EventCreate name kind initial) proper sound =
      event_created file_grants pipe_grants ns sound.kept sound.handles_are events_granted events_refused events_stay target name kind initial _ _ refl refl
  requests_are_kept ns target (request.EventOpen name access) proper sound =
      event_opened file_grants pipe_grants ns sound.kept sound.handles_are events_opened event_opens_refused events_left target name access.0
      (and_parts (is_name_of name) (nat_lt access.0 (2 ^ 32)) proper).1 _ _ refl refl
  requests_are_kept ns target (request.HandleClose handle) proper sound =
      close_kept ns target handle sound (held_by ns.handles target handle) refl
