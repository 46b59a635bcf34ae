use Rattle.sb_block.proofs.ParameterLemmas.{parameters_are_as_many, parameters_have_their_sizes, parameters_have_their_types, parameters_lie_inside, tags_are_known}
use Rattle.sb_block.proofs.laws.parameters_lie_inside.Goals as goal

pub returns : goal.returns
returns c = record {
  tag = tags_are_known;
  many = parameters_are_as_many;
  places = parameters_lie_inside;
  types = parameters_have_their_types;
  sizes = parameters_have_their_sizes;
}
