-- Laws of pipes.
use Rattle.std.specs.Prelude.{◌≡◌, ◌≤◌, ◌+◌, ◌⊎◌, ℕ, true, false, List, None, Some, is_some, nat_lt, ◌==◌}
use Rattle.std.specs.List.{find}
use Rattle.sb_call.specs.Statuses.{success}
use Rattle.sb_handles.specs.Agreements.{is_pipe, pipe_handles}
use Rattle.sb_handles.specs.Tables.{Table, IsTable, held_by, with_handle, without_handle}
use Rattle.sb_handles.specs.declared.objects.Held.{Held}
use Rattle.sb_names.specs.Keys.{key_of}
use Rattle.sb_names.specs.Maps.{found, is_key}
use Rattle.sb_services.specs.Pipes.{Pipes, ArePipes, Agrees, create, closed, on_pipe}
use Rattle.sb_services.specs.declared.pipe_modes.PipeForm.{PipeForm}
use Rattle.sb_services.specs.declared.pipe_modes.PipeMode.{PipeMode}
use Rattle.sb_services.specs.declared.pipe_rows.PipeRow.{PipeRow}

-- a call that answers a status other than success leaves pipes and handles as they are
abbrev pub RefusalsChangeNothing : Type 0
RefusalsChangeNothing = (pipes : Pipes) (handles : Table) (target : ℕ) (name : List ℕ) (mode : PipeMode) (form : PipeForm) (instances : ℕ)
    → ((create pipes handles target name mode form instances).answer.status ≡ success → ⊥)
    → ((create pipes handles target name mode form instances).service ≡ pipes)
    × ((create pipes handles target name mode form instances).handles ≡ handles)

-- a call leaves the handles as they are, or grants one on a pipe
abbrev pub CallsGrantPipes : Type 0
CallsGrantPipes = (pipes : Pipes) (handles : Table) (target : ℕ) (name : List ℕ) (mode : PipeMode) (form : PipeForm) (instances : ℕ)
    → ((create pipes handles target name mode form instances).handles ≡ handles)
    ⊎ ((held : Held) × (is_pipe held.object.service ≡ true)
    × ((create pipes handles target name mode form instances).handles ≡ with_handle handles target held))

-- one that answers success grants one handle, on the pipe that is found under the name after it
abbrev pub CallsGrantTheirPipe : Type 0
CallsGrantTheirPipe = (pipes : Pipes) (handles : Table) (target : ℕ) (name : List ℕ) (mode : PipeMode) (form : PipeForm) (instances : ℕ)
    → (create pipes handles target name mode form instances).answer.status ≡ success
    → (row : PipeRow) × (found (create pipes handles target name mode form instances).service.rows name ≡ Some row)
    × ((create pipes handles target name mode form instances).handles ≡ with_handle handles target (on_pipe row.number))

-- a pipe that was made has what was asked for, and one handle
abbrev pub MadePipesAreAsAsked : Type 0
MadePipesAreAsAsked = (pipes : Pipes) (handles : Table) (target : ℕ) (name : List ℕ) (mode : PipeMode) (form : PipeForm) (instances : ℕ)
    → found pipes.rows name ≡ None → (create pipes handles target name mode form instances).answer.status ≡ success
    → found (create pipes handles target name mode form instances).service.rows name
    ≡ Some (record { number = pipes.made + 1; mode = mode; form = form; instances = instances; handles = 1 })

-- one that was there is as it was, except for the handle more
abbrev pub CallsAddHandles : Type 0
CallsAddHandles = (pipes : Pipes) (handles : Table) (target : ℕ) (name : List ℕ) (mode : PipeMode) (form : PipeForm) (instances : ℕ) (row : PipeRow)
    → found pipes.rows name ≡ Some row → (create pipes handles target name mode form instances).answer.status ≡ success
    → found (create pipes handles target name mode form instances).service.rows name ≡ Some (record row { handles = row.handles + 1 })

-- and under every other name is what was there
abbrev pub CallsLeaveOthers : Type 0
CallsLeaveOthers = (pipes : Pipes) (handles : Table) (target : ℕ) (name other : List ℕ) (mode : PipeMode) (form : PipeForm) (instances : ℕ)
    → is_key (key_of other) (key_of name) ≡ false
    → found (create pipes handles target name mode form instances).service.rows other ≡ found pipes.rows other

-- if no more pipes were made than handles granted, so it is after a call
abbrev pub CallsKeepCounts : Type 0
CallsKeepCounts = (pipes : Pipes) (handles : Table) (target : ℕ) (name : List ℕ) (mode : PipeMode) (form : PipeForm) (instances : ℕ) → pipes.made ≤ handles.granted
    → (create pipes handles target name mode form instances).service.made ≤ (create pipes handles target name mode form instances).handles.granted

-- it makes one pipe at most
abbrev pub CallsMakeOne : Type 0
CallsMakeOne = (pipes : Pipes) (handles : Table) (target : ℕ) (name : List ℕ) (mode : PipeMode) (form : PipeForm) (instances : ℕ)
    → (create pipes handles target name mode form instances).service.made ≤ pipes.made + 1

-- a pipe is there exactly while it has handles
abbrev pub PipesHaveHandles : Type 0
PipesHaveHandles = (pipes : Pipes) (handles : Table) (pipe : ℕ) → ArePipes pipes → Agrees pipes handles
    → is_some (find (λ row. row.1.number == pipe) pipes.rows) ≡ nat_lt 0 (pipe_handles handles pipe)

-- a call keeps the agreement
abbrev pub CallsKeepPipes : Type 0
CallsKeepPipes = (pipes : Pipes) (handles : Table) (target : ℕ) (name : List ℕ) (mode : PipeMode) (form : PipeForm) (instances : ℕ) → ArePipes pipes → Agrees pipes handles
    → Agrees (create pipes handles target name mode form instances).service (create pipes handles target name mode form instances).handles

-- after a handle on a pipe was closed, `closed` makes pipes and handles agree again
abbrev pub ClosesKeepPipes : Type 0
ClosesKeepPipes = (pipes : Pipes) (table : Table) (target number : ℕ) (held : Held) → IsTable table → ArePipes pipes → Agrees pipes table
    → held_by table target number ≡ Some held → is_pipe held.object.service ≡ true
    → Agrees (closed pipes held.object.number) (without_handle table target number)

-- a handle that was closed on any other object leaves the agreement
abbrev pub ClosesLeavePipes : Type 0
ClosesLeavePipes = (pipes : Pipes) (table : Table) (target number : ℕ) (held : Held) → IsTable table → Agrees pipes table
    → held_by table target number ≡ Some held → is_pipe held.object.service ≡ false → Agrees pipes (without_handle table target number)

-- and so does one that was granted on any other object
abbrev pub GrantsLeavePipes : Type 0
GrantsLeavePipes = (pipes : Pipes) (table : Table) (target : ℕ) (held : Held) → Agrees pipes table → is_pipe held.object.service ≡ false
    → Agrees pipes (with_handle table target held)
