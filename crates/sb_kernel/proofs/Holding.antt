-- Each handle has its row, and narrow numbers, after each call.
use Rattle.std.proofs.Common.{◌≡◌, ◌∙◌, ℕ, ◌+◌, ◌≤◌, Bool, true, false, List, [], ◌∷◌, ◌++◌, length, Option, None, Some, refl, sym, ap, subst, arith, ◌⊎◌, inl, inr, ◌==◌, ◌^◌, if◌then◌else◌}
use Rattle.std.proofs.lemmas.Bool.{and_parts, false≢true}
use Rattle.std.proofs.lemmas.Bool.Decides.{nat_tests}
use Rattle.std.specs.Prelude.{is_some, not, nat_lt}
use Rattle.std.specs.List.{filter, list_all}
use Rattle.std.specs.Map.{lookup}
use Rattle.sb_call.specs.Statuses.{success}
use Rattle.sb_handles.specs.Effects as effects
use Rattle.sb_handles.specs.Tables.{Table, is_of, with_handle, without_handle}
use Rattle.sb_handles.specs.declared.objects.Held.{Held}
use Rattle.sb_handles.specs.declared.objects.OpenHandle.{OpenHandle}
use Rattle.sb_handles.specs.declared.objects.Service.{Service}
use Rattle.sb_handles.specs.declared.objects.Service.TheVariants as service
use Rattle.sb_base.specs.Names.{is_name_of}
use Rattle.sb_names.specs.Keys.{key_of}
use Rattle.sb_names.specs.Maps.{found, is_key}
use Rattle.sb_names.specs.Renames.{renamed_key}
use Rattle.sb_services.specs.FileCreation as creation
use Rattle.sb_services.specs.Files as files
use Rattle.sb_services.specs.FileLaws as file_laws
use Rattle.sb_services.specs.declared.file_requests.FileRequest.{FileRequest}
use Rattle.sb_services.specs.PipeLaws as pipe_laws
use Rattle.sb_services.specs.Pipes as pipes
use Rattle.sb_services.specs.declared.pipe_rows.PipeRow.{PipeRow}
use Rattle.sb_services.specs.KeyLaws as key_laws
use Rattle.sb_services.specs.Registry as registry
use Rattle.sb_services.specs.Events as events
use Rattle.sb_services.specs.declared.event_kinds.EventKind.{EventKind}
use Rattle.sb_services.specs.declared.pipe_modes.PipeForm.{PipeForm}
use Rattle.sb_services.specs.declared.pipe_modes.PipeMode.{PipeMode}
use Rattle.sb_services.specs.EventLaws as event_laws
use Rattle.sb_services.specs.Events.{number_of}
use Rattle.sb_kernel.specs.Held.{AreHeld, AreNarrow, HasRow, HaveRows, IsUnder, is_narrow, itself}
use Rattle.sb_services.specs.declared.file_objects.FileObject.{FileObject}
use Rattle.sb_services.specs.declared.event_rows.EventRow.{EventRow}
use Rattle.sb_names.specs.Laws.{PutsKeepRows}
use Rattle.sb_names.specs.Trees.{has_parent}
use Rattle.sb_kernel.specs.Namespaces.{Space, empty_space, on_events, on_files, on_keys, on_pipes}

-- if each object that has a row keeps one
rows_stay : (before after : Space) → ((kind : Service) (number : ℕ) → HasRow before kind number → HasRow after kind number)
    → (handles : List OpenHandle) → HaveRows before handles → HaveRows after handles
rows_stay before after keeps [] h = tt
rows_stay before after keeps (handle ∷ handles) h =
    (keeps handle.held.object.service handle.held.object.number h.0, rows_stay before after keeps handles h.1)

-- with one handle more, and with some fewer
rows_pushed : (ns : Space) (handles : List OpenHandle) (handle : OpenHandle) → HaveRows ns handles
    → HasRow ns handle.held.object.service handle.held.object.number → HaveRows ns (handles ++ handle ∷ [])
rows_pushed ns [] handle h own = (own, tt)
rows_pushed ns (first ∷ handles) handle h own = (h.0, rows_pushed ns handles handle h.1 own)

rows_left : (ns : Space) (p : OpenHandle → Bool) (handles : List OpenHandle) → HaveRows ns handles → HaveRows ns (filter p handles)
rows_left ns p [] h = tt
rows_left ns p (handle ∷ handles) h = by (p handle) (rows_left ns p handles h.1)
  where
    by : (b : Bool) → HaveRows ns (filter p handles) → HaveRows ns (if b then handle ∷ filter p handles else filter p handles)
    by true i = (h.0, i)
    by false i = i

narrow_pushed : (handles : List OpenHandle) (handle : OpenHandle) → AreNarrow handles → is_narrow handle.held ≡ true → AreNarrow (handles ++ handle ∷ [])
narrow_pushed [] handle h own = rw own refl
narrow_pushed (first ∷ handles) handle h own =
    let parts = and_parts (is_narrow first.held) (list_all (λ handle. is_narrow handle.held) handles) h in
    rw parts.0 (narrow_pushed handles handle parts.1 own)

narrow_left : (p : OpenHandle → Bool) (handles : List OpenHandle) → AreNarrow handles → AreNarrow (filter p handles)
narrow_left p [] h = refl
narrow_left p (handle ∷ handles) h =
    let parts = and_parts (is_narrow handle.held) (list_all (λ handle. is_narrow handle.held) handles) h in
    by (p handle) parts.0 (narrow_left p handles parts.1)
  where
    by : (b : Bool) → is_narrow handle.held ≡ true → AreNarrow (filter p handles) → AreNarrow (if b then handle ∷ filter p handles else filter p handles)
    by true own i = rw own i
    by false own i = i

-- the handles stay, or there is one more, on an object that has its row
abbrev pub IsGrantOn : Space → Table → Table → Type 0
IsGrantOn ns before after =
    (after ≡ before)
    ⊎ ((target : ℕ) × (held : Held) × HasRow ns held.object.service held.object.number × (is_narrow held ≡ true) × (after ≡ with_handle before target held))

pub held_after : (before after : Space) → ((kind : Service) (number : ℕ) → HasRow before kind number → HasRow after kind number)
    → IsGrantOn after before.handles after.handles → after.pipes.made ≤ after.handles.granted → AreHeld before → AreHeld after
held_after before after keeps (inl same) come held = record {
  rows = subst (λ table. HaveRows after table.handles) (sym same) (rows_stay before after keeps before.handles.handles held.rows);
  narrow = subst (λ table. AreNarrow table.handles) (sym same) held.narrow;
  pipes_come = come;
}
held_after before after keeps (inr (target, one, own, narrow, more)) come held =
    let handle : OpenHandle = record { target = target; number = before.handles.granted + 1; held = one } in record {
      rows = subst (λ table. HaveRows after table.handles) (sym more)
          (rows_pushed after before.handles.handles handle (rows_stay before after keeps before.handles.handles held.rows) own);
      narrow = subst (λ table. AreNarrow table.handles) (sym more) (narrow_pushed before.handles.handles handle held.narrow narrow);
      pipes_come = come;
    }

-- if names, keys and events are as they were, each object keeps its row
pub row_stays : (before after : Space) → after.files.names ≡ before.files.names → after.keys ≡ before.keys → after.events ≡ before.events
    → (kind : Service) (number : ℕ) → HasRow before kind number → HasRow after kind number
row_stays before after f k v service.File number h = subst (λ names. IsUnder itself names number) (sym f) h
row_stays before after f k v service.Pipe number h = h
row_stays before after f k v service.Key number h = subst (λ keys. IsUnder itself keys.names number) (sym k) h
row_stays before after f k v service.Event number h = subst (λ events. IsUnder number_of events.rows number) (sym v) h

-- a handle closed
pub held_closed : (before after : Space) (target number : ℕ) → ((kind : Service) (n : ℕ) → HasRow before kind n → HasRow after kind n)
    → after.handles ≡ without_handle before.handles target number → after.pipes.made ≡ before.pipes.made → AreHeld before → AreHeld after
held_closed before after target number keeps less same held = record {
  rows = subst (λ table. HaveRows after table.handles) (sym less)
      (rows_left after (λ handle. not (is_of target number handle)) before.handles.handles (rows_stay before after keeps before.handles.handles held.rows));
  narrow = subst (λ table. AreNarrow table.handles) (sym less) (narrow_left (λ handle. not (is_of target number handle)) before.handles.handles held.narrow);
  pipes_come = rw (same, less) held.pipes_come;
}

-- a status is success, or it is not
by_status : (status : ℕ) (P : Type 0) → (status ≡ success → P) → ((status ≡ success → ⊥) → P) → P
by_status status P succeeded refused = by (status == success) refl
  where
    by : (b : Bool) → (status == success) ≡ b → P
    by true e = succeeded (grind (arith, nat_tests, e))
    by false e = refused (λ same. absurd (grind (arith, nat_tests, e, same)))

-- narrow numbers
narrow_of : (held : Held) → nat_lt held.access.0 (2 ^ 32) ≡ true → nat_lt held.sharing.0 (2 ^ 32) ≡ true → is_narrow held ≡ true
narrow_of held a b = rw (a, b) refl

-- no more pipes than handles, if handles are as many or one more
still_come : (made : ℕ) (before after : Table) (ns : Space) → IsGrantOn ns before after → made ≤ before.granted → made ≤ after.granted
still_come made before after ns (inl same) few = rw same few
still_come made before after ns (inr (target, one, own, narrow, more)) few =
    let grown : after.granted ≡ before.granted + 1 = ap (λ t. t.granted) more in
    grind (arith, few, grown)

-- files
module _ (grants : file_laws.CreatesGrantTheirFile) (refuses : file_laws.RefusalsChangeNothing) (stays : file_laws.CreatesKeepNames)
    (ns : Space) (target : ℕ) (name : List ℕ) (request : FileRequest) (access : nat_lt request.access.0 (2 ^ 32) ≡ true)
    (sharing : nat_lt request.sharing.0 (2 ^ 32) ≡ true) (held : AreHeld ns) where
  abbrev created : effects.Effect files.Files
  created = creation.create ns.files ns.handles target name request

  abbrev files_after : Space
  files_after = (on_files ns created).space

  files_keep : (kind : Service) (number : ℕ) → HasRow ns kind number → HasRow files_after kind number
  files_keep service.File number (key, row, there, own) = (key, row, stays ns.files ns.handles target name key request row there, own)
  files_keep service.Pipe number h = h
  files_keep service.Key number h = h
  files_keep service.Event number h = h

  files_granted : IsGrantOn files_after ns.handles created.handles
  files_granted = by_status created.answer.status (IsGrantOn files_after ns.handles created.handles)
      (λ done. granted (grants ns.files ns.handles target name request done)) (λ no. inl (refuses ns.files ns.handles target name request no).1)
    where
      granted : ((number : ℕ) × (found created.service.names name ≡ Some number) × (created.handles ≡ with_handle ns.handles target (creation.on_file number request)))
          → IsGrantOn files_after ns.handles created.handles
      granted (number, there, more) =
          inr (target, creation.on_file number request, (key_of name, number, there, refl), narrow_of (creation.on_file number request) access sharing, more)

  pub files_held : AreHeld files_after
  files_held = held_after ns files_after files_keep files_granted (still_come ns.pipes.made ns.handles created.handles files_after files_granted held.pipes_come) held

-- pipes
module _ (grants : pipe_laws.CallsGrantTheirPipe) (refuses : pipe_laws.RefusalsChangeNothing) (counts : pipe_laws.CallsKeepCounts)
    (ns : Space) (target : ℕ) (name : List ℕ) (mode : PipeMode) (form : PipeForm) (instances : ℕ) (held : AreHeld ns) where
  abbrev piped : effects.Effect pipes.Pipes
  piped = pipes.create ns.pipes ns.handles target name mode form instances

  abbrev pipes_after : Space
  pipes_after = (on_pipes ns piped).space

  pipes_keep : (kind : Service) (number : ℕ) → HasRow ns kind number → HasRow pipes_after kind number
  pipes_keep service.File number h = h
  pipes_keep service.Pipe number h = h
  pipes_keep service.Key number h = h
  pipes_keep service.Event number h = h

  pipes_granted : IsGrantOn pipes_after ns.handles piped.handles
  pipes_granted = by_status piped.answer.status (IsGrantOn pipes_after ns.handles piped.handles)
      (λ done. granted (grants ns.pipes ns.handles target name mode form instances done))
      (λ no. inl (refuses ns.pipes ns.handles target name mode form instances no).1)
    where
      granted : ((row : PipeRow) × (found piped.service.rows name ≡ Some row) × (piped.handles ≡ with_handle ns.handles target (pipes.on_pipe row.number)))
          → IsGrantOn pipes_after ns.handles piped.handles
      granted (row, there, more) = inr (target, pipes.on_pipe row.number, tt, refl, more)

  pub pipes_held : AreHeld pipes_after
  pipes_held = held_after ns pipes_after pipes_keep pipes_granted (counts ns.pipes ns.handles target name mode form instances held.pipes_come) held

-- keys
module _ (grants : key_laws.CreatesGrantTheirKey) (refuses : key_laws.RefusedCreatesChangeNothing) (stays : key_laws.CreatesKeepKeys)
    (ns : Space) (target : ℕ) (name : List ℕ) (access : ℕ) (narrow : nat_lt access (2 ^ 32) ≡ true) (held : AreHeld ns) where
  abbrev keyed : effects.Effect registry.Keys
  keyed = registry.create ns.keys ns.handles target name access

  abbrev keys_after : Space
  keys_after = (on_keys ns keyed).space

  keys_keep : (kind : Service) (number : ℕ) → HasRow ns kind number → HasRow keys_after kind number
  keys_keep service.File number h = h
  keys_keep service.Pipe number h = h
  keys_keep service.Key number (key, row, there, own) = (key, row, stays ns.keys ns.handles target name key access row there, own)
  keys_keep service.Event number h = h

  keys_granted : IsGrantOn keys_after ns.handles keyed.handles
  keys_granted = by (keyed.answer.status == success) refl
    where
      granted : key_laws.IsGrantedOn keyed ns.handles target name access → IsGrantOn keys_after ns.handles keyed.handles
      granted (number, there, more) =
          inr (target, registry.on_key number access, (key_of name, number, there, refl), narrow_of (registry.on_key number access) narrow refl, more)

      by : (b : Bool) → (keyed.answer.status == success) ≡ b → IsGrantOn keys_after ns.handles keyed.handles
      by true e = granted (grants ns.keys ns.handles target name access (grind (arith, nat_tests, e)))
      by false e = inl (refuses ns.keys ns.handles target name access e).1

  pub keys_held : AreHeld keys_after
  keys_held = held_after ns keys_after keys_keep keys_granted (still_come ns.pipes.made ns.handles keyed.handles keys_after keys_granted held.pipes_come) held

-- keys that are opened
module _ (grants : key_laws.OpensGrantTheirKey) (refuses : key_laws.RefusedOpensChangeNothing) (leaves : key_laws.OpensLeaveKeys)
    (ns : Space) (target : ℕ) (name : List ℕ) (access : ℕ) (narrow : nat_lt access (2 ^ 32) ≡ true) (held : AreHeld ns) where
  abbrev reached : effects.Effect registry.Keys
  reached = registry.open_by_name ns.keys ns.handles target name access

  abbrev reached_after : Space
  reached_after = (on_keys ns reached).space

  reached_keep : (kind : Service) (number : ℕ) → HasRow ns kind number → HasRow reached_after kind number
  reached_keep service.File number h = h
  reached_keep service.Pipe number h = h
  reached_keep service.Key number h = subst (λ keys. HasRow (record ns { keys = keys }) service.Key number) (sym (leaves ns.keys ns.handles target name access)) h
  reached_keep service.Event number h = h

  reached_granted : IsGrantOn reached_after ns.handles reached.handles
  reached_granted = by (reached.answer.status == success) refl
    where
      granted : key_laws.IsGrantedOn reached ns.handles target name access → IsGrantOn reached_after ns.handles reached.handles
      granted (number, there, more) =
          inr (target, registry.on_key number access, (key_of name, number, there, refl), narrow_of (registry.on_key number access) narrow refl, more)

      by : (b : Bool) → (reached.answer.status == success) ≡ b → IsGrantOn reached_after ns.handles reached.handles
      by true e = granted (grants ns.keys ns.handles target name access (grind (arith, nat_tests, e)))
      by false e = inl (refuses ns.keys ns.handles target name access e).1

  pub reached_held : AreHeld reached_after
  reached_held =
      held_after ns reached_after reached_keep reached_granted (still_come ns.pipes.made ns.handles reached.handles reached_after reached_granted held.pipes_come) held

-- events
module _ (grants : event_laws.CreatesGrantTheirEvent) (refuses : event_laws.RefusedCreatesChangeNothing) (stays : event_laws.CreatesKeepEvents)
    (ns : Space) (target : ℕ) (name : List ℕ) (kind : EventKind) (initial : Bool) (held : AreHeld ns) where
  abbrev raised : effects.Effect events.Events
  raised = events.create ns.events ns.handles target name kind initial

  abbrev events_after : Space
  events_after = (on_events ns raised).space

  events_keep : (kind : Service) (number : ℕ) → HasRow ns kind number → HasRow events_after kind number
  events_keep service.File number h = h
  events_keep service.Pipe number h = h
  events_keep service.Key number h = h
  events_keep service.Event number (key, row, there, own) = (key, row, stays ns.events ns.handles target name key kind initial row there, own)

  events_granted : IsGrantOn events_after ns.handles raised.handles
  events_granted = by (effects.is_done raised.answer.status) refl
    where
      granted : event_laws.IsGrantedOn raised ns.handles target name 0 → IsGrantOn events_after ns.handles raised.handles
      granted (row, there, more) = inr (target, events.on_event row.number 0, (key_of name, row, there, refl), refl, more)

      by : (b : Bool) → effects.is_done raised.answer.status ≡ b → IsGrantOn events_after ns.handles raised.handles
      by true e = granted (grants ns.events ns.handles target name kind initial e)
      by false e = inl (refuses ns.events ns.handles target name kind initial e).1

  pub events_held : AreHeld events_after
  events_held = held_after ns events_after events_keep events_granted (still_come ns.pipes.made ns.handles raised.handles events_after events_granted held.pipes_come) held

-- events that are opened
module _ (grants : event_laws.OpensGrantTheirEvent) (refuses : event_laws.RefusedOpensChangeNothing) (leaves : event_laws.OpensLeaveEvents)
    (ns : Space) (target : ℕ) (name : List ℕ) (access : ℕ) (narrow : nat_lt access (2 ^ 32) ≡ true) (held : AreHeld ns) where
  abbrev found_event : effects.Effect events.Events
  found_event = events.open_by_name ns.events ns.handles target name access

  abbrev found_after : Space
  found_after = (on_events ns found_event).space

  found_keep : (kind : Service) (number : ℕ) → HasRow ns kind number → HasRow found_after kind number
  found_keep service.File number h = h
  found_keep service.Pipe number h = h
  found_keep service.Key number h = h
  found_keep service.Event number h =
      subst (λ events. HasRow (record ns { events = events }) service.Event number) (sym (leaves ns.events ns.handles target name access)) h

  found_granted : IsGrantOn found_after ns.handles found_event.handles
  found_granted = by (effects.is_done found_event.answer.status) refl
    where
      granted : event_laws.IsGrantedOn found_event ns.handles target name access → IsGrantOn found_after ns.handles found_event.handles
      granted (row, there, more) =
          inr (target, events.on_event row.number access, (key_of name, row, there, refl), narrow_of (events.on_event row.number access) narrow refl, more)

      by : (b : Bool) → effects.is_done found_event.answer.status ≡ b → IsGrantOn found_after ns.handles found_event.handles
      by true e = granted (grants ns.events ns.handles target name access e)
      by false e = inl (refuses ns.events ns.handles target name access e).1

  pub found_held : AreHeld found_after
  found_held =
      held_after ns found_after found_keep found_granted (still_come ns.pipes.made ns.handles found_event.handles found_after found_granted held.pipes_come) held

-- a rename: what was under a key is under the key to which that was renamed
module _ (moves : file_laws.RenamesMove) (refuses : file_laws.RefusedRenamesChangeNothing)
    (ns : Space) (name to : List ℕ) (files_are : files.AreFiles ns.files) (is_name : is_name_of to ≡ true) (held : AreHeld ns) where
  abbrev renamed_after : Space
  renamed_after = record ns { files = (files.rename ns.files name to).0 }

  renamed_keep : (kind : Service) (number : ℕ) → HasRow ns kind number → HasRow renamed_after kind number
  renamed_keep service.File number (key, row, there, own) =
      by_status (files.rename ns.files name to).1.status (HasRow renamed_after service.File number)
      (λ done. (
        renamed_key (key_of name) (key_of to) key,
        row,
        moves ns.files name to key files_are is_name done (ap is_some there) ∙ there,
        own,
      ))
      (λ no. subst (λ fs. HasRow (record ns { files = fs }) service.File number) (sym (refuses ns.files name to no)) (key, row, there, own))
  renamed_keep service.Pipe number h = h
  renamed_keep service.Key number h = h
  renamed_keep service.Event number h = h

  pub renamed_held : AreHeld renamed_after
  renamed_held = held_after ns renamed_after renamed_keep (inl refl) held.pipes_come held

-- an object of the opening: each that was there keeps its row
none_of : {X : Type 0} (o : Option X) → not (is_some o) ≡ true → o ≡ None
none_of None h = refl
none_of (Some x) h = absurd (false≢true h)

module _ (puts : PutsKeepRows ℕ) (ns : Space) (name : List ℕ) (held : AreHeld ns) where
  pub file_started : (dir : Bool) (attributes : ℕ) → AreHeld (record ns { files = files.started ns.files name dir attributes })
  file_started dir attributes = held_after ns (record ns { files = files.started ns.files name dir attributes }) keep (inl refl) held.pipes_come held
    where
      object : FileObject
      object = record { kind = files.kind_of dir; attributes = attributes }

      still : (key : List ℕ) (row : ℕ) → lookup (is_key key) ns.files.names ≡ Some row → (b : Bool) → files.can_start ns.files name ≡ b
          → lookup (is_key key) (if b then files.with_object ns.files name object else ns.files).names ≡ Some row
      still key row there true e =
          let free = (and_parts (files.has_parent ns.files name) (not (is_some (found ns.files.names name))) e).1 in
          puts ns.files.names name key (length ns.files.objects + 1) row (none_of (found ns.files.names name) free) there
      still key row there false e = there

      keep : (kind : Service) (number : ℕ) → HasRow ns kind number → HasRow (record ns { files = files.started ns.files name dir attributes }) kind number
      keep service.File number (key, row, there, own) = (key, row, still key row there (files.can_start ns.files name) refl, own)
      keep service.Pipe number h = h
      keep service.Key number h = h
      keep service.Event number h = h

  pub key_started : AreHeld (record ns { keys = registry.started ns.keys name })
  key_started = held_after ns (record ns { keys = registry.started ns.keys name }) keep (inl refl) held.pipes_come held
    where
      still : (key : List ℕ) (row : ℕ) → lookup (is_key key) ns.keys.names ≡ Some row → (b : Bool) → registry.can_start ns.keys name ≡ b
          → lookup (is_key key) (if b then registry.with_key ns.keys name else ns.keys).names ≡ Some row
      still key row there true e =
          let free = (and_parts (has_parent ns.keys.names name) (not (is_some (found ns.keys.names name))) e).1 in
          puts ns.keys.names name key (ns.keys.made + 1) row (none_of (found ns.keys.names name) free) there
      still key row there false e = there

      keep : (kind : Service) (number : ℕ) → HasRow ns kind number → HasRow (record ns { keys = registry.started ns.keys name }) kind number
      keep service.File number h = h
      keep service.Pipe number h = h
      keep service.Key number (key, row, there, own) = (key, row, still key row there (registry.can_start ns.keys name) refl, own)
      keep service.Event number h = h

module _ (puts : PutsKeepRows EventRow) (ns : Space) (name : List ℕ) (kind : EventKind) (initial : Bool) (held : AreHeld ns) where
  pub event_started : AreHeld (record ns { events = events.started ns.events name kind initial })
  event_started = held_after ns (record ns { events = events.started ns.events name kind initial }) keep (inl refl) held.pipes_come held
    where
      still : (key : List ℕ) (row : EventRow) → lookup (is_key key) ns.events.rows ≡ Some row → (b : Bool) → events.can_start ns.events name ≡ b
          → lookup (is_key key) (if b then events.with_event ns.events name kind initial else ns.events).rows ≡ Some row
      still key row there true e =
          puts ns.events.rows name key (record { number = ns.events.made + 1; kind = kind; initial = initial }) row (none_of (found ns.events.rows name) e) there
      still key row there false e = there

      keep : (of : Service) (number : ℕ) → HasRow ns of number → HasRow (record ns { events = events.started ns.events name kind initial }) of number
      keep service.File number h = h
      keep service.Pipe number h = h
      keep service.Key number h = h
      keep service.Event number (key, row, there, own) = (key, row, still key row there (events.can_start ns.events name) refl, own)

-- nothing is held at the beginning
pub none_held : AreHeld empty_space
none_held = record { rows = tt; narrow = refl; pipes_come = omega arith }
