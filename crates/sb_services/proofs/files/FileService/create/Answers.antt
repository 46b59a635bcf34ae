use Rattle.std.proofs.Common.{rules, ◌≡◌, ◌≤◌, ◌+◌, ◌++◌, ◌∷◌, ◌∙◌, [], true, length, arith, ap, refl, subst}
use Rattle.std.proofs.lemmas.List.{length-append}
use Rattle.std.specs.Prelude.{is_some}
use Rattle.sb_names.specs.Maps.{put}
use Rattle.sb_names.specs.Nodes.{rows_of}
use Rattle.sb_services.specs.FileCreation.{object_asked, on_file}
use Rattle.sb_services.specs.Files.{Files, has_parent}
use Rattle.sb_services.proofs.FileLemmas.{files_opened_by, files_with_object, found_made}
use Rattle.sb_services.proofs.files.FileService.create.Goals as goal

pub create_there-requires-clause-low : goal.create_there-requires-clause-low
create_there-requires-clause-low c =
    let inside : Files = record { names = rows_of c.self.inside.names.nodes; objects = c.self.inside.objects.items; shares = c.self.inside.shares } in
    (found_made inside c.args.name.now c.in-There.object c.self.invariant c.in-There.ensures.2).0

pub create_there-requires-clause-high : goal.create_there-requires-clause-high
create_there-requires-clause-high c =
    let inside : Files = record { names = rows_of c.self.inside.names.nodes; objects = c.self.inside.objects.items; shares = c.self.inside.shares } in
    subst (λ files. c.in-There.object ≤ length files.objects) c.self.view_is
    (found_made inside c.args.name.now c.in-There.object c.self.invariant c.in-There.ensures.2).1

pub invariant_of-self-in-Absent-2 : goal.invariant_of-self-in-Absent-2
invariant_of-self-in-Absent-2 c =
    let inside : Files = record { names = rows_of c.self.inside.names.nodes; objects = c.self.inside.objects.items; shares = c.self.inside.shares } in
    let more : Files = record inside { names = rows_of c.add_reserved.new.self.nodes; objects = c.push_reserved.new.self.items } in
    let number : c.in_ok-new-in-Absent-2.new.object ≡ length c.self.inside.objects.items + 1 = search rules in
    let names : rows_of c.add_reserved.new.self.nodes ≡ put (rows_of c.self.inside.names.nodes) c.args.name.now (length c.self.inside.objects.items + 1) =
    c.add_reserved.ensures.rows ∙ rw (c.reserve_at.ensures.rows, c.in_ok-new-in-Absent-2.ensures.key, number) refl in
    let objects : c.push_reserved.new.self.items ≡ c.self.inside.objects.items ++ object_asked c.args.request ∷ [] = search rules in
    let held : c.on_file-held.result ≡ on_file (length c.self.inside.objects.items + 1) c.args.request = search rules in
    let parent = subst (λ objects. has_parent (record inside { objects = objects }) c.args.name.now ≡ true) c.deref.ensures.value (c.in-Absent-2.ensures.0 c.self.inside.shares) in
    let made = files_with_object c.numbers_are_kept.ensures.puts c.parents_are_kept.ensures.puts inside (rows_of c.add_reserved.new.self.nodes) c.push_reserved.new.self.items
    c.args.name.now (object_asked c.args.request) parent (ap is_some c.in-Absent-2.ensures.2) names objects c.self.invariant in
    let count : length c.push_reserved.new.self.items ≡ length c.self.inside.objects.items + 1 =
    ap length objects ∙ length-append c.self.inside.objects.items (object_asked c.args.request ∷ []) in
    files_opened_by more c.open.new.shares (length c.self.inside.objects.items + 1) (c.args.handles.now.table.granted + 1) c.args.request c.on_file-held.result
    held c.in_ok-handle-in-Absent-2.ensures.shares (omega arith) (omega (arith, count)) made
