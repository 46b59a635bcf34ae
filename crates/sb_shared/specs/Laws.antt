-- The laws of the core on which the steps of seats rest.
use Rattle.sb_core.specs.Laws.{PlansAreThere, StepsAreFolds, StepsChangeLittle, StepsKeep}

pub record Laws : Type 0 where
  pub keep : StepsKeep
  pub fold : StepsAreFolds
  pub change : StepsChangeLittle
  pub plans : PlansAreThere
