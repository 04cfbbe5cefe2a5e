-- The meeting by its own contract, as its source has it: no two outcomes satisfy it. Assumes nothing.
use contract.Lifetimes.{Lfts}
use Rattle.model.specs.Answers.{done_once}
use Rattle.demands.specs.Serves.{Determined, determined}
use Rattle.demands.specs.CallContracts.{meet, meet_serves}

pub meet_determined : (κs : Lfts 1) → Determined (meet κs)
meet_determined κs = determined (meet κs) (meet_serves κs) done_once
