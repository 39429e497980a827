use Rattle.scenario_run.proofs.Runs.{default_allowed, steps_allowed, ran_with}
use Rattle.scenario_run.proofs.run_with.Goals as goal

pub returns-in-None : goal.returns-in-None
returns-in-None c = ran_with c.inputs_of-inputs.result (default_allowed _ c.in-None.is) (c.inputs_of-inputs.ensures _ _) c.run_default.ensures

pub returns-in-Some : goal.returns-in-Some
returns-in-Some c = ran_with c.inputs_of-inputs.result (steps_allowed _ _ c.in-Some.is) (c.inputs_of-inputs.ensures _ _) c.run.ensures
