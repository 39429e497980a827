use Rattle.runner.specs.declared.Value.TheVariants.{Nothing, Top, TopAndBeneath}
use Rattle.lilivrez_agent.specs.RunValues.{cell_values}
use Rattle.lilivrez_agent.proofs.Outcomes.{refused_numbers, completed_numbers}
use Rattle.lilivrez_agent.proofs.running.store.Goals as goal

pub returns-in-Err : goal.returns-in-Err
returns-in-Err c = λ g o e p. rw (c.from.ensures, c.number.ensures) (refused_numbers g o p _ c.in-Err.is e)

pub returns-in-Nothing : goal.returns-in-Nothing
unfolding cell_values
returns-in-Nothing c = λ g o e p. completed_numbers g o p _ c.in-Ok.is Nothing c.in-Nothing.is

pub returns-in-Top : goal.returns-in-Top
unfolding cell_values
returns-in-Top c = λ g o e p. completed_numbers g o p _ c.in-Ok.is (Top _) c.in-Top.is

pub returns-in-TopAndBeneath : goal.returns-in-TopAndBeneath
unfolding cell_values
returns-in-TopAndBeneath c = λ g o e p. completed_numbers g o p _ c.in-Ok.is (TopAndBeneath _ _) c.in-TopAndBeneath.is
