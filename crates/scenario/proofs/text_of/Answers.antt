use Rattle.scenario.specs.Items.{text_of}
use Rattle.scenario.proofs.Reading.{text_at}
use Rattle.scenario.proofs.text_of.Goals as goal

pub returns-in-Image : goal.returns-in-Image
unfolding text_of
returns-in-Image c = text_at _ _ c.in-Image.is

pub returns-in-Memory : goal.returns-in-Memory
unfolding text_of
returns-in-Memory c = text_at _ _ c.in-Memory.is

pub returns-in-Register : goal.returns-in-Register
unfolding text_of
returns-in-Register c = text_at _ _ c.in-Register.is

pub returns-in-Variable : goal.returns-in-Variable
unfolding text_of
returns-in-Variable c = text_at _ _ c.in-Variable.is

pub returns-in-Registers : goal.returns-in-Registers
unfolding text_of
returns-in-Registers c = text_at _ _ c.in-Registers.is

pub returns-in-Tracepoint : goal.returns-in-Tracepoint
unfolding text_of
returns-in-Tracepoint c = text_at _ _ c.in-Tracepoint.is

pub returns-in-Buffer : goal.returns-in-Buffer
unfolding text_of
returns-in-Buffer c = text_at _ _ c.in-Buffer.is

pub returns-in-Allowance : goal.returns-in-Allowance
unfolding text_of
returns-in-Allowance c = text_at _ _ c.in-Allowance.is

pub returns-in-Load : goal.returns-in-Load
unfolding text_of
returns-in-Load c = text_at _ _ c.in-Load.is

pub returns-in-Save : goal.returns-in-Save
unfolding text_of
returns-in-Save c = text_at _ _ c.in-Save.is

pub returns-in-Run : goal.returns-in-Run
unfolding text_of
returns-in-Run c = text_at _ _ c.in-Run.is
