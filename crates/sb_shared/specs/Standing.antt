-- What holds of an actor of a run wherever it is.
use Rattle.std.specs.Prelude.{◌≡◌, ◌<◌, ℕ, List, [], ◌∷◌, length, slice_index, Option, IfSome, is_some}
use Rattle.sb_actor.specs.WorkerStages.{WorkerAt}
use Rattle.sb_book.specs.Histories.{History}
use Rattle.sb_core.specs.Kept.{IsAtStatement, has_turn}
use Rattle.sb_core.specs.Threads.{RunAt}
use Rattle.sb_shared.specs.Origins.{setting_in}
use Rattle.sb_shared.specs.declared.views.Origin.{Origin}
use Rattle.sb_shared.specs.declared.views.Part.{Part}
use Rattle.sb_shared.specs.declared.views.Part.TheVariants as part

-- The worker of target t knows its target and the number of its channels, and has the book exactly if it has the turn. The book is that of the run
pub record IsWorkerHere (key : Origin) (t : ℕ) (x : WorkerAt) (book : Option History) : Type 0 where
  pub its_target : x.target ≡ t
  pub listed : t < length (setting_in key).policies
  pub its_channels : x.channels ≡ slice_index (setting_in key).channels t
  pub turn : has_turn x.stage ≡ is_some book
  pub setting : IfSome book (λ b. b.setting ≡ setting_in key)

-- Thread k of target t is at one of its statements, or after the last, and has one result for each statement that ended
pub record IsThreadHere (key : Origin) (t k : ℕ) (x : RunAt) : Type 0 where
  pub its_target : x.thread.target ≡ t
  pub its_number : x.thread.thread ≡ k
  pub stands : IsAtStatement key.script.value x.thread
  pub counted : length x.results ≡ x.thread.place

-- an actor of the run is there
abbrev pub Stands : Origin → Part → Type 0
Stands key (part.Worker target state book) = IsWorkerHere key target state book
Stands key (part.Thread target thread state results) = IsThreadHere key target thread (record { thread = state; results = results })

abbrev pub AllStand : Origin → List Part → Type 0
AllStand key [] = Unit {0}
AllStand key (p ∷ ps) = Stands key p × AllStand key ps
