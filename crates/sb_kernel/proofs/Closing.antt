-- What a kernel keeps after a handle was closed.
use Rattle.std.proofs.Common.{◌≡◌, ℕ, ap, refl, false, Some}
use Rattle.sb_handles.specs.Agreements.{is_file, is_pipe}
use Rattle.sb_handles.specs.Tables.{Table, IsTable, held_by, without_handle}
use Rattle.sb_handles.specs.declared.objects.Held.{Held}
use Rattle.sb_handles.specs.declared.objects.Service.TheVariants as service
use Rattle.sb_services.specs.Files as files
use Rattle.sb_services.specs.FileLaws.{ClosesKeepFiles, ClosesLeaveFiles}
use Rattle.sb_services.specs.PipeLaws.{ClosesKeepPipes, ClosesLeavePipes}
use Rattle.sb_services.specs.Pipes as pipes
use Rattle.sb_kernel.specs.Held.{AreHeld}
use Rattle.sb_kernel.specs.Kept.{IsKept}
use Rattle.sb_kernel.proofs.Holding.{held_closed, row_stays}
use Rattle.sb_kernel.specs.Namespaces.{Space}

module _ (files_closed : ClosesKeepFiles) (other_files : ClosesLeaveFiles) (pipes_closed : ClosesKeepPipes) (other_pipes : ClosesLeavePipes)
    (ns : Space) (kept : IsKept ns) (table : IsTable ns.handles) (are_pipes : pipes.ArePipes ns.pipes)
    (target handle : ℕ) (held : Held) (found : held_by ns.handles target handle ≡ Some held) where
  -- each handle that is left has its row, if names, keys and events are as they were
  still_held : (after : Space) → after.files.names ≡ ns.files.names → after.keys ≡ ns.keys → after.events ≡ ns.events
      → after.handles ≡ without_handle ns.handles target handle → after.pipes.made ≡ ns.pipes.made → AreHeld after
  still_held after names keys events less same = held_closed ns after target handle (row_stays ns after names keys events) less same kept.held

  pub file_closed : (f : files.Files) (after : Table) → held.object.service ≡ service.File → f ≡ files.closed ns.files handle → after ≡ without_handle ns.handles target handle
      → IsKept (record ns { files = f; handles = after })
  file_closed f after kind e h = rw (e, h) (record {
    files_agree = files_closed ns.files ns.handles target handle held table kept.files_agree found;
    pipes_agree = other_pipes ns.pipes ns.handles target handle held table kept.pipes_agree found (ap is_pipe kind);
    made = record { files = kept.made.files; pipes = kept.made.pipes; keys = kept.made.keys; events = kept.made.events };
    held = still_held (record ns { files = files.closed ns.files handle; handles = without_handle ns.handles target handle }) refl refl refl refl refl;
  })

  pub pipe_closed : (p : pipes.Pipes) (after : Table) → held.object.service ≡ service.Pipe → p ≡ pipes.closed ns.pipes held.object.number
      → after ≡ without_handle ns.handles target handle → IsKept (record ns { pipes = p; handles = after })
  pipe_closed p after kind e h = rw (e, h) (record {
    files_agree = other_files ns.files ns.handles target handle held table kept.files_agree found (ap is_file kind);
    pipes_agree = pipes_closed ns.pipes ns.handles target handle held table are_pipes kept.pipes_agree found (ap is_pipe kind);
    made = record { files = kept.made.files; pipes = kept.made.pipes; keys = kept.made.keys; events = kept.made.events };
    held = still_held (record ns { pipes = pipes.closed ns.pipes held.object.number; handles = without_handle ns.handles target handle }) refl refl refl refl refl;
  })

  pub other_closed : (after : Table) → is_file held.object.service ≡ false → is_pipe held.object.service ≡ false
      → after ≡ without_handle ns.handles target handle → IsKept (record ns { handles = after })
  other_closed after no_file no_pipe h = rw h (record {
    files_agree = other_files ns.files ns.handles target handle held table kept.files_agree found no_file;
    pipes_agree = other_pipes ns.pipes ns.handles target handle held table kept.pipes_agree found no_pipe;
    made = record { files = kept.made.files; pipes = kept.made.pipes; keys = kept.made.keys; events = kept.made.events };
    held = still_held (record ns { handles = without_handle ns.handles target handle }) refl refl refl refl refl;
  })
