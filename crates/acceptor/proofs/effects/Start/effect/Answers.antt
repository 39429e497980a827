use Rattle.acceptor.proofs.Instructions.{is_ext, is_getv_tracev, is_setv, is_pick, arm_02, arm_0f, arm_03, arm_10, arm_0c, arm_0e, arm_18, arm_0d, arm_30, arm_22, arm_23, arm_24, arm_25, arm_28}
use Rattle.acceptor.proofs.Instructions.{arm_29, arm_2b, arm_33, arm_16, arm_2c, arm_2d, arm_32, arm_20, arm_21, arm_27}
use Rattle.acceptor.proofs.effects.Start.effect.Goals as goal

pub ext-requires : goal.ext-requires
ext-requires c = is_ext _ c.in-22.is

pub variable-requires : goal.variable-requires
variable-requires c = is_getv_tracev _ c.in-44.is

pub variable-requires-in-45 : goal.variable-requires-in-45
variable-requires-in-45 c = is_setv _ c.in-45.is

pub pick-requires : goal.pick-requires
pick-requires c = is_pick _ c.in-50.is

pub returns-in_ok-by_row-in-2 : goal.returns-in_ok-by_row-in-2
returns-in_ok-by_row-in-2 c = arm_02 c.in_ok-by_row-in-2.ensures c.in-2.is

pub returns-in_ok-by_row-in-15 : goal.returns-in_ok-by_row-in-15
returns-in_ok-by_row-in-15 c = arm_0f c.in_ok-by_row-in-15.ensures c.in-15.is

pub returns-in_ok-by_row-in-3 : goal.returns-in_ok-by_row-in-3
returns-in_ok-by_row-in-3 c = arm_03 c.in_ok-by_row-in-3.ensures c.in-3.is

pub returns-in_ok-by_row-in-16 : goal.returns-in_ok-by_row-in-16
returns-in_ok-by_row-in-16 c = arm_10 c.in_ok-by_row-in-16.ensures c.in-16.is

pub returns-in_ok-by_row-in-12 : goal.returns-in_ok-by_row-in-12
returns-in_ok-by_row-in-12 c = arm_0c c.in_ok-by_row-in-12.ensures c.in-12.is

pub returns-in_ok-by_row-in-14 : goal.returns-in_ok-by_row-in-14
returns-in_ok-by_row-in-14 c = arm_0e c.in_ok-by_row-in-14.ensures c.in-14.is

pub returns-in_ok-by_row-in-24 : goal.returns-in_ok-by_row-in-24
returns-in_ok-by_row-in-24 c = arm_18 c.in_ok-by_row-in-24.ensures c.in-24.is

pub returns-in_ok-by_row-in-13 : goal.returns-in_ok-by_row-in-13
returns-in_ok-by_row-in-13 c = arm_0d c.in_ok-by_row-in-13.ensures c.in-13.is

pub returns-in_ok-by_row-in-48 : goal.returns-in_ok-by_row-in-48
returns-in_ok-by_row-in-48 c = arm_30 c.in_ok-by_row-in-48.ensures c.in-48.is

pub returns-in_ok-by_row-in-34 : goal.returns-in_ok-by_row-in-34
returns-in_ok-by_row-in-34 c = arm_22 c.in_ok-by_row-in-34.ensures c.in-34.is

pub returns-in_ok-by_row-in-35 : goal.returns-in_ok-by_row-in-35
returns-in_ok-by_row-in-35 c = arm_23 c.in_ok-by_row-in-35.ensures c.in-35.is

pub returns-in_ok-by_row-in-36 : goal.returns-in_ok-by_row-in-36
returns-in_ok-by_row-in-36 c = arm_24 c.in_ok-by_row-in-36.ensures c.in-36.is

pub returns-in_ok-by_row-in-37 : goal.returns-in_ok-by_row-in-37
returns-in_ok-by_row-in-37 c = arm_25 c.in_ok-by_row-in-37.ensures c.in-37.is

pub returns-in_ok-by_row-in-40 : goal.returns-in_ok-by_row-in-40
returns-in_ok-by_row-in-40 c = arm_28 c.in_ok-by_row-in-40.ensures c.in-40.is

pub returns-in_ok-by_row-in-41 : goal.returns-in_ok-by_row-in-41
returns-in_ok-by_row-in-41 c = arm_29 c.in_ok-by_row-in-41.ensures c.in-41.is

pub returns-in_ok-by_row-in-43 : goal.returns-in_ok-by_row-in-43
returns-in_ok-by_row-in-43 c = arm_2b c.in_ok-by_row-in-43.ensures c.in-43.is

pub returns-in_ok-by_row-in-51 : goal.returns-in_ok-by_row-in-51
returns-in_ok-by_row-in-51 c = arm_33 c.in_ok-by_row-in-51.ensures c.in-51.is

pub returns-in_ok-ext-in-22 : goal.returns-in_ok-ext-in-22
returns-in_ok-ext-in-22 c = arm_16 c.in_ok-ext-in-22.ensures.row c.in_ok-ext-in-22.ensures.operand c.in-22.is

pub returns-in_ok-variable-in-44 : goal.returns-in_ok-variable-in-44
returns-in_ok-variable-in-44 c = arm_2c c.in_ok-variable-in-44.ensures.row c.in_ok-variable-in-44.ensures.operand c.in-44.is

pub returns-in_ok-variable-in-45 : goal.returns-in_ok-variable-in-45
returns-in_ok-variable-in-45 c = arm_2d c.in_ok-variable-in-45.ensures.row c.in_ok-variable-in-45.ensures.operand c.in-45.is

pub returns-in_ok-pick-in-50 : goal.returns-in_ok-pick-in-50
returns-in_ok-pick-in-50 c = arm_32 c.in_ok-pick-in-50.ensures c.in-50.is

pub returns-in-32 : goal.returns-in-32
returns-in-32 c = arm_20 c.in-32.is

pub returns-in-33 : goal.returns-in-33
returns-in-33 c = arm_21 c.in-33.is

pub returns-in-39 : goal.returns-in-39
returns-in-39 c = arm_27 c.in-39.is
