-- The objects of the opening, one after the other.
use Rattle.std.proofs.Common.{◌≡◌, ℕ, suc, ◌+◌, ◌≤◌, Bool, true, false, if◌then◌else◌, List, [], ◌∷◌, length, Option, None, Some, refl, sym, subst, arith}
use Rattle.std.specs.Prelude.{is_some, unwrap_or, Result, Ok, Err}
use Rattle.std.proofs.lemmas.List.{length-append}
use Rattle.std.proofs.lemmas.Bool.{false≢true}
use Rattle.sb_statements.specs.declared.scripts.StartLine.{StartLine}
use Rattle.sb_statements.specs.declared.scripts.StartLine.TheVariants.{Dir, File, Key, Event}
use Rattle.sb_services.specs.Files as files
use Rattle.sb_services.specs.declared.file_objects.FileObject.{FileObject}
use Rattle.sb_services.specs.Registry as registry
use Rattle.sb_services.specs.Events as events
use Rattle.sb_services.specs.EventKinds.{kind_from, state_from}
use Rattle.sb_kernel.specs.Kept.{MadeAtMost}
use Rattle.sb_kernel.specs.Namespaces.{Space, empty_space}
use Rattle.sb_kernel.specs.Openings.{placed, opened_from, OpeningsMakeFew}

-- more may be made than were
pub made_more : (n m : ℕ) (ns : Space) → n ≤ m → MadeAtMost n ns → MadeAtMost m ns
made_more n m ns l few = record {
  files = grind (arith, l, few.files);
  pipes = grind (arith, l, few.pipes);
  keys = grind (arith, l, few.keys);
  events = grind (arith, l, few.events);
}

files_made : (n : ℕ) (ns : Space) (name : List ℕ) (dir : Bool) (attributes : ℕ) → MadeAtMost n ns
    → MadeAtMost (n + 1) (unwrap_or (if files.can_start ns.files name then Some (record ns { files = files.started ns.files name dir attributes }) else None) ns)
files_made n ns name dir attributes few = by (files.can_start ns.files name) refl
  where
    object : FileObject
    object = record { kind = files.kind_of dir; attributes = attributes }

    by : (b : Bool) → files.can_start ns.files name ≡ b
        → MadeAtMost (n + 1) (unwrap_or (if b then Some (record ns { files = files.started ns.files name dir attributes }) else None) ns)
    by false e = made_more n (n + 1) ns (omega arith) few
    by true e =
        let more : length (files.started ns.files name dir attributes).objects ≡ length ns.files.objects + 1 = rw e (length-append ns.files.objects (object ∷ [])) in
        record {
          files = grind (arith, more, few.files);
          pipes = grind (arith, few.pipes);
          keys = grind (arith, few.keys);
          events = grind (arith, few.events);
        }

-- an object more is one more
pub placed_made : (n : ℕ) (ns : Space) (line : StartLine) → MadeAtMost n ns → MadeAtMost (n + 1) (unwrap_or (placed ns line) ns)
placed_made n ns (Dir name) few = files_made n ns name true 0 few
placed_made n ns (File name attributes) few = files_made n ns name false attributes few
placed_made n ns (Key name) few = by (registry.can_start ns.keys name) refl
  where
    by : (b : Bool) → registry.can_start ns.keys name ≡ b
        → MadeAtMost (n + 1) (unwrap_or (if b then Some (record ns { keys = registry.started ns.keys name }) else None) ns)
    by false e = made_more n (n + 1) ns (omega arith) few
    by true e =
        let more : (registry.started ns.keys name).made ≡ ns.keys.made + 1 = rw e refl in
        record {
          files = grind (arith, few.files);
          pipes = grind (arith, few.pipes);
          keys = grind (arith, more, few.keys);
          events = grind (arith, few.events);
        }
placed_made n ns (Event name kind initial) few = by (events.can_start ns.events name) refl
  where
    by : (b : Bool) → events.can_start ns.events name ≡ b
        → MadeAtMost (n + 1) (unwrap_or (if b then Some (record ns { events = events.started ns.events name (kind_from kind) (state_from initial) }) else None) ns)
    by false e = made_more n (n + 1) ns (omega arith) few
    by true e =
        let more : (events.started ns.events name (kind_from kind) (state_from initial)).made ≡ ns.events.made + 1 = rw e refl in
        record {
          files = grind (arith, few.files);
          pipes = grind (arith, few.pipes);
          keys = grind (arith, few.keys);
          events = grind (arith, more, few.events);
        }

-- the first object is placed, and the others after it
pub opened_more : (at : ℕ) (ns : Space) (line : StartLine) (lines : List StartLine) → is_some (placed ns line) ≡ true
    → opened_from at ns (line ∷ lines) ≡ opened_from (at + 1) (unwrap_or (placed ns line) ns) lines
opened_more at ns line lines h = by (placed ns line) h
  where
    by : (o : Option Space) → is_some o ≡ true
        → elim o [ None ↦ Err at | Some next ↦ opened_from (at + 1) next lines ] ≡ opened_from (at + 1) (unwrap_or o ns) lines
    by None h = absurd (false≢true h)
    by (Some next) h = refl

-- or it cannot be placed
pub opened_none : (at : ℕ) (ns : Space) (line : StartLine) (lines : List StartLine) → is_some (placed ns line) ≡ false
    → opened_from at ns (line ∷ lines) ≡ Err at
opened_none at ns line lines h = by (placed ns line) h
  where
    refused : Result Space ℕ
    refused = Err at

    by : (o : Option Space) → is_some o ≡ false → elim o [ None ↦ refused | Some next ↦ opened_from (at + 1) next lines ] ≡ refused
    by None h = refl
    by (Some next) h = absurd (false≢true (sym h))

-- objects placed in turn if at most n were made before
made_from : (lines : List StartLine) (at n : ℕ) (ns final : Space) → MadeAtMost n ns → opened_from at ns lines ≡ Ok final → MadeAtMost (n + length lines) final
made_from [] at n ns final few e = subst (MadeAtMost (n + 0)) (same ns final e) (made_more n (n + 0) ns (omega arith) few)
  where
    same : (a b : Space) → ◌≡◌ {A = Result Space ℕ} (Ok a) (Ok b) → a ≡ b
    same a b e = cc
made_from (line ∷ lines) at n ns final few e =
    by (placed ns line) (placed_made n ns line few) (λ next f e. made_from lines (at + 1) (n + 1) next final f e) e
  where
    by : (o : Option Space) → MadeAtMost (n + 1) (unwrap_or o ns)
        → ((next : Space) → MadeAtMost (n + 1) next → opened_from (at + 1) next lines ≡ Ok final → MadeAtMost (n + 1 + length lines) final)
        → ◌≡◌ {A = Result Space ℕ} (elim o [ None ↦ Err at | Some next ↦ opened_from (at + 1) next lines ]) (Ok final)
        → MadeAtMost (n + suc (length lines)) final
    by None f step e = absurd cc
    by (Some next) f step e = made_more (n + 1 + length lines) (n + suc (length lines)) final (omega arith) (step next f e)

pub openings_make_few : OpeningsMakeFew
openings_make_few lines ns e =
    made_more (0 + length lines) (length lines) ns (omega arith)
    (made_from lines 0 0 empty_space ns (record { files = omega arith; pipes = omega arith; keys = omega arith; events = omega arith }) e)
