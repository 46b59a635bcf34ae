use Rattle.std.proofs.Common.{rules, ◌≡◌, true, false, subst}
use Rattle.sb_names.specs.Keys.{key_of, is_below}
use Rattle.sb_names.specs.Nodes.{rows_of}
use Rattle.sb_services.specs.Files.{Files, has_parent}
use Rattle.sb_services.proofs.FileLemmas.{files_renamed}
use Rattle.sb_services.proofs.files.FileService.rename.Goals as goal

pub invariant_of-self-2 : goal.invariant_of-self-2
invariant_of-self-2 c =
    let inside : Files = record { names = rows_of c.self.inside.names.nodes; objects = c.self.inside.objects.items; shares = c.self.inside.shares } in
    let apart : is_below (key_of c.args.name.now) (key_of c.args.to.now) ≡ false = search rules in
    let parent = subst (λ objects. has_parent (record inside { objects = objects }) c.args.to.now ≡ true) c.deref-2.ensures.value (c.in-Absent-seek_in.ensures.0 c.self.inside.shares) in
    files_renamed c.renames_keep_numbers.ensures c.parents_are_kept.ensures.renames inside (rows_of c.rename_at.new.self.nodes) c.args.name.now c.args.to.now c.in-There.object
    c.establish_tree.ensures.tree c.establish_tree.ensures.folded c.requires.name c.requires.to c.in_ok-rename_at.ensures.rows c.in-There.ensures.2 apart parent
    c.in-Absent-seek_in.ensures.2 c.self.invariant
