-- Opening lines are placed under their names and nothing else is, so what a fault says of the lines before is so in their namespace.
use Rattle.std.proofs.Common.{◌≡◌, ◌∙◌, refl, sym, ap, ap₂, subst, ℕ, ◌+◌, ◌||◌, ◌&&◌, not, Bool, true, false, cond, List, [], ◌∷◌, Option, None, Some}
use Rattle.std.specs.Prelude.{is_some, option_map, length, Result, Ok, Err}
use Rattle.std.proofs.lemmas.Bool.{false≢true}
use Rattle.std.specs.List.{list_any}
use Rattle.sb_services.specs.Events as events
use Rattle.sb_services.specs.EventKinds.{kind_from, state_from}
use Rattle.sb_services.specs.declared.event_rows.EventRow.{EventRow}
use Rattle.sb_services.specs.Files as files
use Rattle.sb_services.specs.Registry as registry
use Rattle.sb_kernel.specs.Namespaces.{Space, empty_space}
use Rattle.sb_kernel.specs.Openings.{name_of, placed, opened_from, opened}
use Rattle.sb_names.specs.Keys.{parent_of}
use Rattle.sb_names.specs.Laws.{PutsAreFound}
use Rattle.sb_names.specs.Trees as trees
use Rattle.sb_names.specs.Maps.{Rows, found, is_there, put}
use Rattle.sb_statements.specs.declared.scripts.StartLine.{StartLine}
use Rattle.sb_statements.specs.declared.scripts.StartLine.TheVariants.{Dir, File, Key, Event}
use Rattle.sb_base.specs.Wide.{is_same}
use Rattle.sb_scripttext.specs.StartFaults.{is_of_files, is_of_keys, is_of_events, start_fault}
use Rattle.sb_scripttext.specs.StartLaws.{is_in_service, is_root, is_file_by, is_taken, is_parent_there, is_parent_file, IsTrueIn, StartFaultsAreTrue}
use Rattle.sb_scripttext.specs.declared.faults.StartFault.{StartFault}
use Rattle.sb_scripttext.specs.declared.faults.StartFault.TheVariants.{NameTaken, NoParent, ParentIsFile}

or_false : (a : Bool) → a ≡ (a || false)
or_false true = refl
or_false false = refl

or_assoc : (a b c : Bool) → ((a || b) || c) ≡ (a || (b || c))
or_assoc true b c = refl
or_assoc false b c = refl

-- ---- one more name

put_there : {X : Type 0} → PutsAreFound X → (rows : Rows X) (name other : List ℕ) (value : X)
    → is_there (put rows name value) other ≡ (is_there rows other || is_same other name)
put_there {X = X} law rows name other value = ap is_some (law rows name other value) ∙ by (is_same other name) (found rows other)
  where
    by : (b : Bool) (old : Option X) → is_some (cond b (Some value) old) ≡ (is_some old || b)
    by true None = refl
    by true (Some x) = refl
    by false None = refl
    by false (Some x) = refl

-- ---- one more line

abbrev Grows : (Space → Bool) → (StartLine → Bool) → Type 0
Grows there says = (ns next : Space) (line : StartLine) → placed ns line ≡ Some next → there next ≡ (there ns || says line)

-- what is placed if a test holds
of_some : (a b : Space) → ◌≡◌ {A = Option Space} (Some a) (Some b) → a ≡ b
of_some a b e = cc

if_placed : (there : Space → Bool) (test says : Bool) (old : Bool) (made next : Space) → (test ≡ true → there made ≡ (old || says))
    → ◌≡◌ {A = Option Space} (cond test (Some made) None) (Some next) → there next ≡ (old || says)
if_placed there true says old made next h e = ap there (sym (of_some made next e)) ∙ h refl
if_placed there false says old made next h e = absurd cc

-- a file or directory is started where it can be
file_started : PutsAreFound ℕ → (fs : files.Files) (name other : List ℕ) (dir : Bool) (attributes : ℕ) → files.can_start fs name ≡ true
    → is_there (files.started fs name dir attributes).names other ≡ (is_there fs.names other || is_same other name)
file_started law fs name other dir attributes can =
    ap (λ test. is_there (cond test (files.with_object fs name (record { kind = files.kind_of dir; attributes = attributes })) fs).names other) can
    ∙ put_there law fs.names name other (length fs.objects + 1)

key_started : PutsAreFound ℕ → (keys : registry.Keys) (name other : List ℕ) → registry.can_start keys name ≡ true
    → is_there (registry.started keys name).names other ≡ (is_there keys.names other || is_same other name)
key_started law keys name other can =
    ap (λ test. is_there (cond test (registry.with_key keys name) keys).names other) can ∙ put_there law keys.names name other (keys.made + 1)

event_started : PutsAreFound EventRow → (es : events.Events) (name other : List ℕ) (kind initial : ℕ) → events.can_start es name ≡ true
    → is_there (events.started es name (kind_from kind) (state_from initial)).rows other ≡ (is_there es.rows other || is_same other name)
event_started law es name other kind initial can =
    ap (λ test. is_there (cond test (events.with_event es name (kind_from kind) (state_from initial)) es).rows other) can
    ∙ put_there law es.rows name other (record { number = es.made + 1; kind = kind_from kind; initial = state_from initial })

abbrev in_files : List ℕ → Space → Bool
in_files name ns = is_there ns.files.names name

abbrev in_keys : List ℕ → Space → Bool
in_keys name ns = is_there ns.keys.names name

abbrev in_events : List ℕ → Space → Bool
in_events name ns = is_there ns.events.rows name

files_grow : PutsAreFound ℕ → (name : List ℕ) → Grows (in_files name) (is_of_files name)
files_grow law name ns next (Dir own) e =
    if_placed (in_files name) (files.can_start ns.files own) (is_same name own) (in_files name ns) (record ns { files = files.started ns.files own true 0 }) next
    (file_started law ns.files own name true 0) e
files_grow law name ns next (File own attributes) e =
    if_placed (in_files name) (files.can_start ns.files own) (is_same name own) (in_files name ns) (record ns { files = files.started ns.files own false attributes }) next
    (file_started law ns.files own name false attributes) e
files_grow law name ns next (Key own) e =
    if_placed (in_files name) (registry.can_start ns.keys own) false (in_files name ns) (record ns { keys = registry.started ns.keys own }) next
    (λ can. or_false (in_files name ns)) e
files_grow law name ns next (Event own kind initial) e =
    if_placed (in_files name) (events.can_start ns.events own) false (in_files name ns)
    (record ns { events = events.started ns.events own (kind_from kind) (state_from initial) }) next (λ can. or_false (in_files name ns)) e

keys_grow : PutsAreFound ℕ → (name : List ℕ) → Grows (in_keys name) (is_of_keys name)
keys_grow law name ns next (Dir own) e =
    if_placed (in_keys name) (files.can_start ns.files own) false (in_keys name ns) (record ns { files = files.started ns.files own true 0 }) next
    (λ can. or_false (in_keys name ns)) e
keys_grow law name ns next (File own attributes) e =
    if_placed (in_keys name) (files.can_start ns.files own) false (in_keys name ns) (record ns { files = files.started ns.files own false attributes }) next
    (λ can. or_false (in_keys name ns)) e
keys_grow law name ns next (Key own) e =
    if_placed (in_keys name) (registry.can_start ns.keys own) (is_same name own) (in_keys name ns) (record ns { keys = registry.started ns.keys own }) next
    (key_started law ns.keys own name) e
keys_grow law name ns next (Event own kind initial) e =
    if_placed (in_keys name) (events.can_start ns.events own) false (in_keys name ns)
    (record ns { events = events.started ns.events own (kind_from kind) (state_from initial) }) next (λ can. or_false (in_keys name ns)) e

events_grow : PutsAreFound EventRow → (name : List ℕ) → Grows (in_events name) (is_of_events name)
events_grow law name ns next (Dir own) e =
    if_placed (in_events name) (files.can_start ns.files own) false (in_events name ns) (record ns { files = files.started ns.files own true 0 }) next
    (λ can. or_false (in_events name ns)) e
events_grow law name ns next (File own attributes) e =
    if_placed (in_events name) (files.can_start ns.files own) false (in_events name ns) (record ns { files = files.started ns.files own false attributes }) next
    (λ can. or_false (in_events name ns)) e
events_grow law name ns next (Key own) e =
    if_placed (in_events name) (registry.can_start ns.keys own) false (in_events name ns) (record ns { keys = registry.started ns.keys own }) next
    (λ can. or_false (in_events name ns)) e
events_grow law name ns next (Event own kind initial) e =
    if_placed (in_events name) (events.can_start ns.events own) (is_same name own) (in_events name ns)
    (record ns { events = events.started ns.events own (kind_from kind) (state_from initial) }) next (event_started law ns.events own name kind initial) e

-- ---- all lines

grown : (there : Space → Bool) (says : StartLine → Bool) → Grows there says → (at : ℕ) (ns last : Space) (lines : List StartLine) → opened_from at ns lines ≡ Ok last
    → there last ≡ (there ns || list_any says lines)
grown there says step at ns last [] e = ap there (sym (of_ok ns last e)) ∙ or_false (there ns)
  where
    of_ok : (a b : Space) → ◌≡◌ {A = Result Space ℕ} (Ok a) (Ok b) → a ≡ b
    of_ok a b e = cc
grown there says step at ns last (line ∷ lines) e = by (placed ns line) refl (λ next e. grown there says step (at + 1) next last lines e) e
  where
    by : (next : Option Space) → placed ns line ≡ next
        → ((mid : Space) → opened_from (at + 1) mid lines ≡ Ok last → there last ≡ (there mid || list_any says lines))
        → ◌≡◌ {A = Result Space ℕ} (elim next [ None ↦ Err at | Some next ↦ opened_from (at + 1) next lines ]) (Ok last)
        → there last ≡ (there ns || list_any says (line ∷ lines))
    by None p more e = absurd cc
    by (Some next) p more e = more next e ∙ ap (λ b. b || list_any says lines) (step ns next line p) ∙ or_assoc (there ns) (says line) (list_any says lines)

opened_has : (there : Space → Bool) (says : StartLine → Bool) → Grows there says → there empty_space ≡ false → (lines : List StartLine) (ns : Space)
    → opened lines ≡ Ok ns → list_any says lines ≡ there ns
opened_has there says step none lines ns e =
    sym (grown there says step 0 empty_space ns lines e ∙ ap (λ b. b || list_any says lines) none)

-- ---- what is so of a line that cannot be placed

-- what the lines say, by whether the name is taken and whether its parent has a line
abbrev reason : Bool → Bool → StartFault
reason taken parent = cond taken NameTaken (cond parent ParentIsFile NoParent)

says : PutsAreFound ℕ → PutsAreFound EventRow → (lines : List StartLine) (line : StartLine) (ns : Space) → opened lines ≡ Ok ns
    → start_fault lines line ≡ reason (is_taken ns line) (is_in_service ns line (parent_of (name_of line)))
says law event_law lines (Dir own) ns e =
    ap₂ reason (opened_has (in_files own) (is_of_files own) (files_grow law own) refl lines ns e)
    (opened_has (in_files (parent_of own)) (is_of_files (parent_of own)) (files_grow law (parent_of own)) refl lines ns e)
says law event_law lines (File own attributes) ns e =
    ap₂ reason (opened_has (in_files own) (is_of_files own) (files_grow law own) refl lines ns e)
    (opened_has (in_files (parent_of own)) (is_of_files (parent_of own)) (files_grow law (parent_of own)) refl lines ns e)
says law event_law lines (Key own) ns e =
    ap₂ reason (opened_has (in_keys own) (is_of_keys own) (keys_grow law own) refl lines ns e)
    (opened_has (in_keys (parent_of own)) (is_of_keys (parent_of own)) (keys_grow law (parent_of own)) refl lines ns e)
says law event_law lines (Event own kind initial) ns e =
    ap₂ reason (opened_has (in_events own) (is_of_events own) (events_grow event_law own) refl lines ns e)
    (opened_has (in_events (parent_of own)) (is_of_events (parent_of own)) (events_grow event_law (parent_of own)) refl lines ns e)

-- what is missing of a line that cannot be placed and whose name is free
cannot : (can : Bool) (made : Space) → ◌≡◌ {A = Option Space} (cond can (Some made) None) None → can ≡ false
cannot true made e = absurd cc
cannot false made e = refl

no_directory : (there taken : Bool) → (there && not taken) ≡ false → taken ≡ false → there ≡ false
no_directory true true h k = k
no_directory true false h k = h
no_directory false taken h k = refl

not_taken : (taken : Bool) → not taken ≡ false → taken ≡ true
not_taken true h = refl
not_taken false h = absurd cc

neither : (root there : Bool) → root ≡ false → there ≡ false → (root || there) ≡ false
neither true there h k = h
neither false there h k = k

below_root : (fs : files.Files) (name : List ℕ) → files.is_directory_there fs name ≡ false → is_root name ≡ false
below_root fs [] h = h
below_root fs (u ∷ us) h = refl

is_file : (fs : files.Files) (name : List ℕ) → files.is_directory_there fs name ≡ false → is_there fs.names name ≡ true
    → is_file_by (files.object_found fs name) ≡ true
is_file fs [] h k = absurd cc
is_file fs (u ∷ us) h k = by (found fs.names (u ∷ us)) h k
  where
    by : (number : Option ℕ) → files.is_directory_by number fs ≡ false → is_some number ≡ true → is_file_by (option_map (files.object_of fs) number) ≡ true
    by None h k = absurd cc
    by (Some number) h k = ap not h

key_below_root : (rows : Rows ℕ) (name : List ℕ) → trees.is_directory_there rows name ≡ false → is_root name ≡ false
key_below_root rows [] h = h
key_below_root rows (u ∷ us) h = refl

key_not_there : (rows : Rows ℕ) (name : List ℕ) → trees.is_directory_there rows name ≡ false → is_there rows name ≡ true → true ≡ false
key_not_there rows [] h k = h
key_not_there rows (u ∷ us) h k = sym k ∙ h

by_reason : (ns : Space) (line : StartLine) (taken parent : Bool) → is_taken ns line ≡ taken
    → (taken ≡ false → parent ≡ false → is_parent_there ns line ≡ false) → (taken ≡ false → parent ≡ true → is_parent_file ns line ≡ true)
    → IsTrueIn (reason taken parent) ns line
by_reason ns line true parent t n f = t
by_reason ns line false true t n f = (t, f refl refl)
by_reason ns line false false t n f = (t, n refl refl)

-- the reason, by the parent of a name that is free
truth : (ns : Space) (line : StartLine) → placed ns line ≡ None → IsTrueIn (reason (is_taken ns line) (is_in_service ns line (parent_of (name_of line)))) ns line
truth ns (Dir own) e =
    let can = cannot (files.can_start ns.files own) (record ns { files = files.started ns.files own true 0 }) e in
    let gone = no_directory (files.has_parent ns.files own) (is_there ns.files.names own) can in
    by_reason ns (Dir own) (is_there ns.files.names own) (is_there ns.files.names (parent_of own)) refl
    (λ free none. neither (is_root (parent_of own)) (is_there ns.files.names (parent_of own)) (below_root ns.files (parent_of own) (gone free)) none)
    (λ free some. is_file ns.files (parent_of own) (gone free) some)
truth ns (File own attributes) e =
    let can = cannot (files.can_start ns.files own) (record ns { files = files.started ns.files own false attributes }) e in
    let gone = no_directory (files.has_parent ns.files own) (is_there ns.files.names own) can in
    by_reason ns (File own attributes) (is_there ns.files.names own) (is_there ns.files.names (parent_of own)) refl
    (λ free none. neither (is_root (parent_of own)) (is_there ns.files.names (parent_of own)) (below_root ns.files (parent_of own) (gone free)) none)
    (λ free some. is_file ns.files (parent_of own) (gone free) some)
truth ns (Key own) e =
    let can = cannot (registry.can_start ns.keys own) (record ns { keys = registry.started ns.keys own }) e in
    let gone = no_directory (trees.has_parent ns.keys.names own) (is_there ns.keys.names own) can in
    by_reason ns (Key own) (is_there ns.keys.names own) (is_there ns.keys.names (parent_of own)) refl
    (λ free none. neither (is_root (parent_of own)) (is_there ns.keys.names (parent_of own)) (key_below_root ns.keys.names (parent_of own) (gone free)) none)
    (λ free some. absurd (false≢true (sym (key_not_there ns.keys.names (parent_of own) (gone free) some))))
truth ns (Event own kind initial) e =
    let can = cannot (events.can_start ns.events own) (record ns { events = events.started ns.events own (kind_from kind) (state_from initial) }) e in
    let taken = not_taken (is_there ns.events.rows own) can in
    by_reason ns (Event own kind initial) (is_there ns.events.rows own) (is_there ns.events.rows (parent_of own)) refl
    (λ free none. absurd (false≢true (sym free ∙ taken))) (λ free some. absurd (false≢true (sym free ∙ taken)))

pub start_faults_true : PutsAreFound ℕ → PutsAreFound EventRow → StartFaultsAreTrue
start_faults_true law event_law lines line ns e none =
    subst (λ fault. IsTrueIn fault ns line) (sym (says law event_law lines line ns e)) (truth ns line none)
