use Rattle.std.proofs.lemmas.Result.{on_ok_weaker}
use Rattle.std.proofs.Common.{refl}
use Rattle.sb_names.specs.Keys.{parent_of}
use Rattle.sb_names.specs.Nodes.{number_of, rows_of}
use Rattle.sb_names.proofs.RenameCases.{others_kept, rename_apart, rename_keeps, rename_rows}
use Rattle.sb_names.proofs.SeekLemmas.{no_child_there}
use Rattle.sb_names.proofs.trees.NameTree.rename_at.Goals as goal

pub put_elsewhere-requires-clause-live : goal.put_elsewhere-requires-clause-live
put_elsewhere-requires-clause-live c = c.requires.node.0

pub put_elsewhere-requires-clause-apart : goal.put_elsewhere-requires-clause-apart
put_elsewhere-requires-clause-apart c =
    rename_apart c.args.self.now.nodes c.establish_names.ensures.names c.establish_names.ensures.shallow c.establish_names.ensures.live c.args.from.now c.args.to.now
    c.args.node.0 c.requires.node c.requires.outside (parent_of c.args.to.now) c.last_component.result.1.now refl
    (number_of c.args.directory) c.last_component.ensures.whole c.requires.directory

pub put_elsewhere-requires-clause-absent : goal.put_elsewhere-requires-clause-absent
put_elsewhere-requires-clause-absent c =
    no_child_there c.args.self.now.nodes c.establish_names.ensures.names c.establish_names.ensures.shallow c.establish_names.ensures.live c.args.to.now
    (parent_of c.args.to.now) c.last_component.result.1.now refl c.last_component.ensures.whole (number_of c.args.directory) c.requires.directory c.requires.absent

pub returns-clause-rows : goal.returns-clause-rows
returns-clause-rows c =
    on_ok_weaker c.put_elsewhere.result
    (rename_rows c.args.self.now.nodes c.establish_names.ensures.names c.establish_names.ensures.shallow c.establish_names.ensures.live c.args.from.now c.args.to.now
    c.args.node.0 c.requires.node c.requires.outside (parent_of c.args.to.now) c.last_component.result.1.now refl
    (number_of c.args.directory) c.last_component.ensures.whole c.requires.directory (rows_of c.put_elsewhere.new.self.nodes))
    c.put_elsewhere.ensures.rows

pub returns-clause-kept : goal.returns-clause-kept
returns-clause-kept c =
    on_ok_weaker c.put_elsewhere.result
    (rename_keeps c.args.self.now.nodes c.establish_names.ensures.names c.establish_names.ensures.shallow c.establish_names.ensures.live c.args.from.now c.args.to.now
    c.args.node.0 c.requires.node c.requires.outside (parent_of c.args.to.now) c.last_component.result.1.now refl
    (number_of c.args.directory) c.last_component.ensures.whole c.requires.directory c.put_elsewhere.new.self.nodes)
    c.put_elsewhere.ensures.kept

pub returns-clause-others : goal.returns-clause-others
returns-clause-others c =
    on_ok_weaker c.put_elsewhere.result (others_kept c.args.self.now.nodes c.put_elsewhere.new.self.nodes c.args.node.0 _ c.requires.node.1) c.put_elsewhere.ensures.others
