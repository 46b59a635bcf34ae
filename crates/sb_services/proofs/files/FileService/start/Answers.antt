use Rattle.std.proofs.Common.{rules, ◌≡◌, ◌+◌, ◌++◌, ◌∷◌, [], length, true, ap, subst}
use Rattle.std.specs.Prelude.{is_some}
use Rattle.sb_names.specs.Maps.{put}
use Rattle.sb_names.specs.Nodes.{rows_of}
use Rattle.sb_services.specs.Files.{Files, has_parent, kind_of}
use Rattle.sb_services.proofs.FileLemmas.{files_with_object}
use Rattle.sb_services.proofs.files.FileService.start.Goals as goal

pub invariant_of-self-2 : goal.invariant_of-self-2
invariant_of-self-2 c =
    let inside : Files = record { names = rows_of c.self.inside.names.nodes; objects = c.self.inside.objects.items; shares = c.self.inside.shares } in
    let parent = subst (λ objects. has_parent (record inside { objects = objects }) c.args.name.now ≡ true) c.deref.ensures.value (c.in-Absent.ensures.0 c.self.inside.shares) in
    let names : rows_of c.add_at.new.self.nodes ≡ put (rows_of c.self.inside.names.nodes) c.args.name.now (length c.self.inside.objects.items + 1) = search rules in
    let objects : c.push_reserved.new.self.items ≡ c.self.inside.objects.items ++ record { kind = kind_of c.args.dir; attributes = c.args.attributes } ∷ [] = search rules in
    files_with_object c.numbers_are_kept.ensures.puts c.parents_are_kept.ensures.puts inside (rows_of c.add_at.new.self.nodes) c.push_reserved.new.self.items
    c.args.name.now _ parent (ap is_some c.in-Absent.ensures.2) names objects c.self.invariant
