-- What the object of a parent says of it.
use Rattle.std.proofs.Common.{◌≡◌, ℕ, false, sym, List}
use Rattle.std.specs.Prelude.{Option, None, Some}
use Rattle.sb_names.specs.Nodes.{Nodes, rows_of}
use Rattle.sb_names.specs.Trees.{parent_object}
use Rattle.sb_services.specs.FileSeeks.{ParentIs, admits}
use Rattle.sb_services.specs.declared.file_objects.FileObject.{FileObject}
use Rattle.sb_services.proofs.FileLemmas.{parent_is_gone, parent_is_object, parent_is_root}

module _ (names : Nodes) (objects : List FileObject) (name : List ℕ) where
  pub parent_gone : parent_object (rows_of names) name ≡ None → ParentIs false names objects name
  parent_gone e shares = parent_is_gone (record { names = rows_of names; objects = objects; shares = shares }) name (sym e)

  pub parent_admits : (parent : Option ℕ) → parent_object (rows_of names) name ≡ Some parent → ParentIs (admits objects parent) names objects name
  parent_admits None e shares = parent_is_root (record { names = rows_of names; objects = objects; shares = shares }) name (sym e)
  parent_admits (Some number) e shares = parent_is_object (record { names = rows_of names; objects = objects; shares = shares }) name number (sym e)
