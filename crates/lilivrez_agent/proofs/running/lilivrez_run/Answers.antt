use Rattle.lilivrez_agent.proofs.Outcomes.{run_numbers}
use Rattle.lilivrez_agent.proofs.running.lilivrez_run.Goals as goal

pub returns : goal.returns
returns c = run_numbers c.run.ensures c.store.ensures
