-- What each call leaves of the kernel's agreements.
use Rattle.std.proofs.Common.{◌≡◌, ◌∙◌, ℕ, ◌+◌, ◌≤◌, Bool, true, false, List, length, refl, sym, ap, subst, arith, inl, inr}
use Rattle.std.specs.Prelude.{◌^◌, nat_lt}
use Rattle.sb_base.specs.Names.{is_name_of}
use Rattle.sb_handles.specs.Agreements.{AgreesOnFiles, is_file, is_pipe}
use Rattle.sb_handles.specs.Tables.{Table, IsTable}
use Rattle.sb_handles.specs.declared.objects.Service.{Service}
use Rattle.sb_handles.specs.declared.objects.Service.TheVariants as service
use Rattle.sb_services.specs.Files as files
use Rattle.sb_services.specs.FileLaws.{CreatesGrantTheirFile, CreatesKeepNames, GrantsLeaveFiles, RenamesKeepObjects, RenamesMove}
use Rattle.sb_services.specs.FileLaws as files_refused
use Rattle.sb_services.specs.KeyLaws.{CreatesGrantTheirKey, CreatesKeepKeys, OpensGrantTheirKey, OpensLeaveKeys}
use Rattle.sb_services.specs.KeyLaws as keys_refused
use Rattle.sb_services.specs.EventLaws.{CreatesGrantTheirEvent, CreatesKeepEvents, OpensGrantTheirEvent, OpensLeaveEvents}
use Rattle.sb_services.specs.EventLaws as events_refused
use Rattle.sb_services.specs.PipeLaws as pipes_refused
use Rattle.sb_services.specs.declared.file_requests.FileRequest.{FileRequest}
use Rattle.sb_services.specs.PipeLaws.{CallsGrantTheirPipe, CallsKeepCounts, GrantsLeavePipes}
use Rattle.sb_services.specs.Pipes as pipes
use Rattle.sb_services.specs.Registry as registry
use Rattle.sb_services.specs.Events as events
use Rattle.sb_services.specs.declared.event_kinds.EventKind.{EventKind}
use Rattle.sb_services.specs.declared.pipe_modes.PipeForm.{PipeForm}
use Rattle.sb_services.specs.declared.pipe_modes.PipeMode.{PipeMode}
use Rattle.sb_kernel.specs.Kept.{IsKept}
use Rattle.sb_statements.specs.Limits.{most_start_lines}
use Rattle.sb_kernel.specs.Namespaces.{Space}
use Rattle.sb_services.specs.FileCreation as creation
use Rattle.sb_names.specs.Maps.{found}
use Rattle.sb_kernel.specs.Held.{AreHeld}
use Rattle.sb_kernel.proofs.Holding.{events_held, files_held, found_held, keys_held, pipes_held, reached_held, renamed_held}
use Rattle.sb_kernel.proofs.Steps.{IsStep, event_open_step, event_step, file_step, key_open_step, key_step, pipe_step}

-- a step on objects of another service leaves the agreement on files
pub files_kept : (law : GrantsLeaveFiles) (f : files.Files) (kind : Service) (made more : ℕ) (handles after : Table) → is_file kind ≡ false → IsTable handles
    → IsStep kind made handles more after → files.Agrees f handles → files.Agrees f after
files_kept law f kind made more handles after other table (inl (m, h)) agree = subst (files.Agrees f) (sym h) agree
files_kept law f kind made more handles after other table (inr g) agree =
    subst (files.Agrees f) (sym g.handles_are) (law f handles g.target g.held table agree (ap is_file g.kind_is ∙ other))

-- and that on pipes
pub pipes_kept : (law : GrantsLeavePipes) (p : pipes.Pipes) (kind : Service) (made more : ℕ) (handles after : Table) → is_pipe kind ≡ false
    → IsStep kind made handles more after → pipes.Agrees p handles → pipes.Agrees p after
pipes_kept law p kind made more handles after other (inl (m, h)) agree = subst (pipes.Agrees p) (sym h) agree
pipes_kept law p kind made more handles after other (inr g) agree =
    subst (pipes.Agrees p) (sym g.handles_are) (law p handles g.target g.held agree (ap is_pipe g.kind_is ∙ other))

-- a service has not made more than the handles that were granted and what was there at the start
pub count_kept : (kind : Service) (made more start : ℕ) (handles after : Table) → IsStep kind made handles more after → made ≤ handles.granted + start
    → more ≤ after.granted + start
count_kept kind made more start handles after (inl (m, h)) few = rw (m, h) few
count_kept kind made more start handles after (inr g) few =
    let grown : after.granted ≡ handles.granted + 1 = ap (λ t. t.granted) g.handles_are in
    grind (arith, g.one, few, grown)

-- nor has any other
pub other_count_kept : (kind : Service) (made more other start : ℕ) (handles after : Table) → IsStep kind made handles more after
    → other ≤ handles.granted + start → other ≤ after.granted + start
other_count_kept kind made more other start handles after (inl (m, h)) few = rw h few
other_count_kept kind made more other start handles after (inr g) few =
    let grown : after.granted ≡ handles.granted + 1 = ap (λ t. t.granted) g.handles_are in
    grind (arith, few, grown)

-- what a kernel keeps, after a step of each service
module _ (other_files : GrantsLeaveFiles) (other_pipes : GrantsLeavePipes) (ns : Space) (kept : IsKept ns) (table : IsTable ns.handles) where
  pub files_step_kept : (f : files.Files) (after : Table) → IsStep service.File (length ns.files.objects) ns.handles (length f.objects) after → files.Agrees f after
      → AreHeld (record ns { files = f; handles = after }) → IsKept (record ns { files = f; handles = after })
  files_step_kept f after step agree held = record {
    held = held;
    files_agree = agree;
    pipes_agree = pipes_kept other_pipes ns.pipes service.File _ _ ns.handles after refl step kept.pipes_agree;
    made = record {
      files = count_kept service.File _ _ most_start_lines ns.handles after step kept.made.files;
      pipes = other_count_kept service.File _ _ ns.pipes.made most_start_lines ns.handles after step kept.made.pipes;
      keys = other_count_kept service.File _ _ ns.keys.made most_start_lines ns.handles after step kept.made.keys;
      events = other_count_kept service.File _ _ ns.events.made most_start_lines ns.handles after step kept.made.events;
    };
  }

  pub pipes_step_kept : (p : pipes.Pipes) (after : Table) → IsStep service.Pipe ns.pipes.made ns.handles p.made after → pipes.Agrees p after
      → AreHeld (record ns { pipes = p; handles = after }) → IsKept (record ns { pipes = p; handles = after })
  pipes_step_kept p after step agree held = record {
    held = held;
    files_agree = files_kept other_files ns.files service.Pipe _ _ ns.handles after refl table step kept.files_agree;
    pipes_agree = agree;
    made = record {
      files = other_count_kept service.Pipe _ _ (length ns.files.objects) most_start_lines ns.handles after step kept.made.files;
      pipes = count_kept service.Pipe _ _ most_start_lines ns.handles after step kept.made.pipes;
      keys = other_count_kept service.Pipe _ _ ns.keys.made most_start_lines ns.handles after step kept.made.keys;
      events = other_count_kept service.Pipe _ _ ns.events.made most_start_lines ns.handles after step kept.made.events;
    };
  }

  pub keys_step_kept : (k : registry.Keys) (after : Table) → IsStep service.Key ns.keys.made ns.handles k.made after
      → AreHeld (record ns { keys = k; handles = after }) → IsKept (record ns { keys = k; handles = after })
  keys_step_kept k after step held = record {
    held = held;
    files_agree = files_kept other_files ns.files service.Key _ _ ns.handles after refl table step kept.files_agree;
    pipes_agree = pipes_kept other_pipes ns.pipes service.Key _ _ ns.handles after refl step kept.pipes_agree;
    made = record {
      files = other_count_kept service.Key _ _ (length ns.files.objects) most_start_lines ns.handles after step kept.made.files;
      pipes = other_count_kept service.Key _ _ ns.pipes.made most_start_lines ns.handles after step kept.made.pipes;
      keys = count_kept service.Key _ _ most_start_lines ns.handles after step kept.made.keys;
      events = other_count_kept service.Key _ _ ns.events.made most_start_lines ns.handles after step kept.made.events;
    };
  }

  pub events_step_kept : (v : events.Events) (after : Table) → IsStep service.Event ns.events.made ns.handles v.made after
      → AreHeld (record ns { events = v; handles = after }) → IsKept (record ns { events = v; handles = after })
  events_step_kept v after step held = record {
    held = held;
    files_agree = files_kept other_files ns.files service.Event _ _ ns.handles after refl table step kept.files_agree;
    pipes_agree = pipes_kept other_pipes ns.pipes service.Event _ _ ns.handles after refl step kept.pipes_agree;
    made = record {
      files = other_count_kept service.Event _ _ (length ns.files.objects) most_start_lines ns.handles after step kept.made.files;
      pipes = other_count_kept service.Event _ _ ns.pipes.made most_start_lines ns.handles after step kept.made.pipes;
      keys = other_count_kept service.Event _ _ ns.keys.made most_start_lines ns.handles after step kept.made.keys;
      events = count_kept service.Event _ _ most_start_lines ns.handles after step kept.made.events;
    };
  }

  -- the same after each call, by what it left
  pub file_created : CreatesGrantTheirFile → files_refused.RefusalsChangeNothing → CreatesKeepNames → (target : ℕ) (name : List ℕ) (request : FileRequest)
      → nat_lt request.access.0 (2 ^ 32) ≡ true → nat_lt request.sharing.0 (2 ^ 32) ≡ true → (f : files.Files) (after : Table)
      → f ≡ (creation.create ns.files ns.handles target name request).service
      → after ≡ (creation.create ns.files ns.handles target name request).handles
      → files.Agrees f after → IsKept (record ns { files = f; handles = after })
  file_created grants refuses stays target name request access sharing f after e h agree =
      files_step_kept f after (rw (e, h) (file_step ns.files ns.handles target name request)) agree
      (rw (e, h) (files_held grants refuses stays ns target name request access sharing kept.held))

  pub pipe_created : CallsGrantTheirPipe → pipes_refused.RefusalsChangeNothing → CallsKeepCounts → (target : ℕ) (name : List ℕ) (mode : PipeMode) (form : PipeForm) (instances : ℕ)
      → (p : pipes.Pipes) (after : Table)
      → p ≡ (pipes.create ns.pipes ns.handles target name mode form instances).service
      → after ≡ (pipes.create ns.pipes ns.handles target name mode form instances).handles
      → pipes.Agrees p after → IsKept (record ns { pipes = p; handles = after })
  pipe_created grants refuses counts target name mode form instances p after e h agree =
      pipes_step_kept p after (rw (e, h) (pipe_step ns.pipes ns.handles target name mode form instances)) agree
      (rw (e, h) (pipes_held grants refuses counts ns target name mode form instances kept.held))

  pub key_created : CreatesGrantTheirKey → keys_refused.RefusedCreatesChangeNothing → CreatesKeepKeys → (target : ℕ) (name : List ℕ) (access : ℕ)
      → nat_lt access (2 ^ 32) ≡ true → (k : registry.Keys) (after : Table)
      → k ≡ (registry.create ns.keys ns.handles target name access).service → after ≡ (registry.create ns.keys ns.handles target name access).handles
      → IsKept (record ns { keys = k; handles = after })
  key_created grants refuses stays target name access narrow k after e h =
      keys_step_kept k after (rw (e, h) (key_step ns.keys ns.handles target name access))
      (rw (e, h) (keys_held grants refuses stays ns target name access narrow kept.held))

  pub key_opened : OpensGrantTheirKey → keys_refused.RefusedOpensChangeNothing → OpensLeaveKeys → (target : ℕ) (name : List ℕ) (access : ℕ)
      → nat_lt access (2 ^ 32) ≡ true → (k : registry.Keys) (after : Table)
      → k ≡ (registry.open_by_name ns.keys ns.handles target name access).service → after ≡ (registry.open_by_name ns.keys ns.handles target name access).handles
      → IsKept (record ns { keys = k; handles = after })
  key_opened grants refuses leaves target name access narrow k after e h =
      keys_step_kept k after (rw (e, h) (key_open_step ns.keys ns.handles target name access))
      (rw (e, h) (reached_held grants refuses leaves ns target name access narrow kept.held))

  pub event_created : CreatesGrantTheirEvent → events_refused.RefusedCreatesChangeNothing → CreatesKeepEvents → (target : ℕ) (name : List ℕ) (kind : EventKind) (initial : Bool)
      → (v : events.Events) (after : Table)
      → v ≡ (events.create ns.events ns.handles target name kind initial).service → after ≡ (events.create ns.events ns.handles target name kind initial).handles
      → IsKept (record ns { events = v; handles = after })
  event_created grants refuses stays target name kind initial v after e h =
      events_step_kept v after (rw (e, h) (event_step ns.events ns.handles target name kind initial))
      (rw (e, h) (events_held grants refuses stays ns target name kind initial kept.held))

  pub event_opened : OpensGrantTheirEvent → events_refused.RefusedOpensChangeNothing → OpensLeaveEvents → (target : ℕ) (name : List ℕ) (access : ℕ)
      → nat_lt access (2 ^ 32) ≡ true → (v : events.Events) (after : Table)
      → v ≡ (events.open_by_name ns.events ns.handles target name access).service → after ≡ (events.open_by_name ns.events ns.handles target name access).handles
      → IsKept (record ns { events = v; handles = after })
  event_opened grants refuses leaves target name access narrow v after e h =
      events_step_kept v after (rw (e, h) (event_open_step (found ns.events.rows name) ns.events ns.handles target access))
      (rw (e, h) (found_held grants refuses leaves ns target name access narrow kept.held))

  -- and after a rename, which has no part in handles
  pub file_renamed : RenamesMove → files_refused.RefusedRenamesChangeNothing → RenamesKeepObjects → (name to : List ℕ) → files.AreFiles ns.files
      → is_name_of to ≡ true → (f : files.Files) → f ≡ (files.rename ns.files name to).0 → IsKept (record ns { files = f })
  file_renamed moves refuses keeps name to are is_name f e = subst (λ f. IsKept (record ns { files = f })) (sym e) (record {
    files_agree = subst (λ shares. AgreesOnFiles shares ns.handles) (sym (keeps ns.files name to).1) kept.files_agree;
    pipes_agree = kept.pipes_agree;
    made = record {
      files = subst (λ objects. length objects ≤ ns.handles.granted + most_start_lines) (sym (keeps ns.files name to).0) kept.made.files;
      pipes = kept.made.pipes;
      keys = kept.made.keys;
      events = kept.made.events;
    };
    held = renamed_held moves refuses ns name to are is_name kept.held;
  })
