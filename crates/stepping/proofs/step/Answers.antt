use mathlib.Core.List.{[], ◌∷◌}
use native.Mathlib.Omega.{arith}
use borrow.Author.Rules.{rules}
use lib.Dec.{lit<, lit≤}
use mathlib.Core.Path.{refl}
use Rattle.isa.specs.Classes.{binary, trace, tracenz, unary, ref, trace_quick, ext, zero_ext_of, setv, if_goto, goto, constant, reg, getv, tracev, end, dup, pop, swap, pick, rot, opcodes, class_of}
use Rattle.operations.proofs.Promises.{here}
use Rattle.stepping.proofs.Lifting.{did_step, did_set, did_end, supported_low, opcode_is, none_left, not_these}
use Rattle.stepping.proofs.step.Goals as goal

pub key_at-key-requires : goal.key_at-key-requires
key_at-key-requires c = let p = c.requires.ready in (omega (arith, p.ready.inside), supported_low _ p.ready.known)

pub do_binary-requires : goal.do_binary-requires
unfolding class_of opcodes
do_binary-requires c = here c.requires.ready 0x02 binary (lit< tt) refl (opcode_is 0x02 c.key_at-key.ensures c.in-194.is)

pub do_binary-requires-in-195 : goal.do_binary-requires-in-195
unfolding class_of opcodes
do_binary-requires-in-195 c = here c.requires.ready 0x03 binary (lit< tt) refl (opcode_is 0x03 c.key_at-key.ensures c.in-195.is)

pub do_binary-requires-in-196 : goal.do_binary-requires-in-196
unfolding class_of opcodes
do_binary-requires-in-196 c = here c.requires.ready 0x04 binary (lit< tt) refl (opcode_is 0x04 c.key_at-key.ensures c.in-196.is)

pub do_binary-requires-in-197 : goal.do_binary-requires-in-197
unfolding class_of opcodes
do_binary-requires-in-197 c = here c.requires.ready 0x05 binary (lit< tt) refl (opcode_is 0x05 c.key_at-key.ensures c.in-197.is)

pub do_binary-requires-in-198 : goal.do_binary-requires-in-198
unfolding class_of opcodes
do_binary-requires-in-198 c = here c.requires.ready 0x06 binary (lit< tt) refl (opcode_is 0x06 c.key_at-key.ensures c.in-198.is)

pub do_binary-requires-in-199 : goal.do_binary-requires-in-199
unfolding class_of opcodes
do_binary-requires-in-199 c = here c.requires.ready 0x07 binary (lit< tt) refl (opcode_is 0x07 c.key_at-key.ensures c.in-199.is)

pub do_binary-requires-in-200 : goal.do_binary-requires-in-200
unfolding class_of opcodes
do_binary-requires-in-200 c = here c.requires.ready 0x08 binary (lit< tt) refl (opcode_is 0x08 c.key_at-key.ensures c.in-200.is)

pub do_binary-requires-in-201 : goal.do_binary-requires-in-201
unfolding class_of opcodes
do_binary-requires-in-201 c = here c.requires.ready 0x09 binary (lit< tt) refl (opcode_is 0x09 c.key_at-key.ensures c.in-201.is)

pub do_binary-requires-in-202 : goal.do_binary-requires-in-202
unfolding class_of opcodes
do_binary-requires-in-202 c = here c.requires.ready 0x0a binary (lit< tt) refl (opcode_is 0x0a c.key_at-key.ensures c.in-202.is)

pub do_binary-requires-in-203 : goal.do_binary-requires-in-203
unfolding class_of opcodes
do_binary-requires-in-203 c = here c.requires.ready 0x0b binary (lit< tt) refl (opcode_is 0x0b c.key_at-key.ensures c.in-203.is)

pub do_binary-requires-in-207 : goal.do_binary-requires-in-207
unfolding class_of opcodes
do_binary-requires-in-207 c = here c.requires.ready 0x0f binary (lit< tt) refl (opcode_is 0x0f c.key_at-key.ensures c.in-207.is)

pub do_binary-requires-in-208 : goal.do_binary-requires-in-208
unfolding class_of opcodes
do_binary-requires-in-208 c = here c.requires.ready 0x10 binary (lit< tt) refl (opcode_is 0x10 c.key_at-key.ensures c.in-208.is)

pub do_binary-requires-in-209 : goal.do_binary-requires-in-209
unfolding class_of opcodes
do_binary-requires-in-209 c = here c.requires.ready 0x11 binary (lit< tt) refl (opcode_is 0x11 c.key_at-key.ensures c.in-209.is)

pub do_binary-requires-in-211 : goal.do_binary-requires-in-211
unfolding class_of opcodes
do_binary-requires-in-211 c = here c.requires.ready 0x13 binary (lit< tt) refl (opcode_is 0x13 c.key_at-key.ensures c.in-211.is)

pub do_binary-requires-in-212 : goal.do_binary-requires-in-212
unfolding class_of opcodes
do_binary-requires-in-212 c = here c.requires.ready 0x14 binary (lit< tt) refl (opcode_is 0x14 c.key_at-key.ensures c.in-212.is)

pub do_binary-requires-in-213 : goal.do_binary-requires-in-213
unfolding class_of opcodes
do_binary-requires-in-213 c = here c.requires.ready 0x15 binary (lit< tt) refl (opcode_is 0x15 c.key_at-key.ensures c.in-213.is)

pub do_trace-requires : goal.do_trace-requires
unfolding class_of opcodes
do_trace-requires c = record { here = here c.requires.ready 0x0c trace (lit< tt) refl (opcode_is 0x0c c.key_at-key.ensures c.in-204.is); room = c.requires.room }

pub do_tracenz-requires : goal.do_tracenz-requires
unfolding class_of opcodes
do_tracenz-requires c = record { here = here c.requires.ready 0x2f tracenz (lit< tt) refl (opcode_is 0x2f c.key_at-key.ensures c.in-239.is); room = c.requires.room }

pub do_unary-requires : goal.do_unary-requires
unfolding class_of opcodes
do_unary-requires c = here c.requires.ready 0x0e unary (lit< tt) refl (opcode_is 0x0e c.key_at-key.ensures c.in-206.is)

pub do_unary-requires-in-210 : goal.do_unary-requires-in-210
unfolding class_of opcodes
do_unary-requires-in-210 c = here c.requires.ready 0x12 unary (lit< tt) refl (opcode_is 0x12 c.key_at-key.ensures c.in-210.is)

pub do_ref-requires : goal.do_ref-requires
unfolding class_of opcodes
do_ref-requires c = record { here = here c.requires.ready 0x17 (ref 1) (lit< tt) refl (opcode_is 0x17 c.key_at-key.ensures c.in-215.is); count = (lit≤ tt, lit≤ tt) }

pub do_ref-requires-in-216 : goal.do_ref-requires-in-216
unfolding class_of opcodes
do_ref-requires-in-216 c = record { here = here c.requires.ready 0x18 (ref 2) (lit< tt) refl (opcode_is 0x18 c.key_at-key.ensures c.in-216.is); count = (lit≤ tt, lit≤ tt) }

pub do_ref-requires-in-217 : goal.do_ref-requires-in-217
unfolding class_of opcodes
do_ref-requires-in-217 c = record { here = here c.requires.ready 0x19 (ref 4) (lit< tt) refl (opcode_is 0x19 c.key_at-key.ensures c.in-217.is); count = (lit≤ tt, lit≤ tt) }

pub do_ref-requires-in-218 : goal.do_ref-requires-in-218
unfolding class_of opcodes
do_ref-requires-in-218 c = record { here = here c.requires.ready 0x1a (ref 8) (lit< tt) refl (opcode_is 0x1a c.key_at-key.ensures c.in-218.is); count = (lit≤ tt, lit≤ tt) }

pub do_trace_quick-requires : goal.do_trace_quick-requires
unfolding class_of opcodes
do_trace_quick-requires c = record { here = here c.requires.ready 0x0d (trace_quick 1) (lit< tt) refl (opcode_is 0x0d c.key_at-key.ensures c.in-205.is); room = c.requires.room }

pub do_trace_quick-requires-in-240 : goal.do_trace_quick-requires-in-240
unfolding class_of opcodes
do_trace_quick-requires-in-240 c = record { here = here c.requires.ready 0x30 (trace_quick 2) (lit< tt) refl (opcode_is 0x30 c.key_at-key.ensures c.in-240.is); room = c.requires.room }

pub do_ext-requires : goal.do_ext-requires
unfolding class_of opcodes
do_ext-requires c = here c.requires.ready 0x16 ext (lit< tt) refl (opcode_is 0x16 c.key_at-key.ensures c.in-214.is)

pub do_zero_ext-requires : goal.do_zero_ext-requires
unfolding class_of opcodes
do_zero_ext-requires c = here c.requires.ready 0x2a zero_ext_of (lit< tt) refl (opcode_is 0x2a c.key_at-key.ensures c.in-234.is)

pub do_setv-requires : goal.do_setv-requires
unfolding class_of opcodes
do_setv-requires c = here c.requires.ready 0x2d setv (lit< tt) refl (opcode_is 0x2d c.key_at-key.ensures c.in-237.is)

pub do_if_goto-requires : goal.do_if_goto-requires
unfolding class_of opcodes
do_if_goto-requires c = here c.requires.ready 0x20 if_goto (lit< tt) refl (opcode_is 0x20 c.key_at-key.ensures c.in-224.is)

pub do_goto-requires : goal.do_goto-requires
unfolding class_of opcodes
do_goto-requires c = here c.requires.ready 0x21 goto (lit< tt) refl (opcode_is 0x21 c.key_at-key.ensures c.in-225.is)

pub do_constant-requires : goal.do_constant-requires
unfolding class_of opcodes
do_constant-requires c = here c.requires.ready 0x22 (constant 1) (lit< tt) refl (opcode_is 0x22 c.key_at-key.ensures c.in-226.is)

pub do_constant-requires-in-227 : goal.do_constant-requires-in-227
unfolding class_of opcodes
do_constant-requires-in-227 c = here c.requires.ready 0x23 (constant 2) (lit< tt) refl (opcode_is 0x23 c.key_at-key.ensures c.in-227.is)

pub do_constant-requires-in-228 : goal.do_constant-requires-in-228
unfolding class_of opcodes
do_constant-requires-in-228 c = here c.requires.ready 0x24 (constant 4) (lit< tt) refl (opcode_is 0x24 c.key_at-key.ensures c.in-228.is)

pub do_constant-requires-in-229 : goal.do_constant-requires-in-229
unfolding class_of opcodes
do_constant-requires-in-229 c = here c.requires.ready 0x25 (constant 8) (lit< tt) refl (opcode_is 0x25 c.key_at-key.ensures c.in-229.is)

pub do_reg-requires : goal.do_reg-requires
unfolding class_of opcodes
do_reg-requires c = here c.requires.ready 0x26 reg (lit< tt) refl (opcode_is 0x26 c.key_at-key.ensures c.in-230.is)

pub do_getv-requires : goal.do_getv-requires
unfolding class_of opcodes
do_getv-requires c = here c.requires.ready 0x2c getv (lit< tt) refl (opcode_is 0x2c c.key_at-key.ensures c.in-236.is)

pub do_tracev-requires : goal.do_tracev-requires
unfolding class_of opcodes
do_tracev-requires c = record { here = here c.requires.ready 0x2e tracev (lit< tt) refl (opcode_is 0x2e c.key_at-key.ensures c.in-238.is); room = c.requires.room }

pub do_end-requires : goal.do_end-requires
do_end-requires c = c.requires.room

pub do_dup-requires : goal.do_dup-requires
unfolding class_of opcodes
do_dup-requires c = here c.requires.ready 0x28 dup (lit< tt) refl (opcode_is 0x28 c.key_at-key.ensures c.in-232.is)

pub do_pop-requires : goal.do_pop-requires
unfolding class_of opcodes
do_pop-requires c = here c.requires.ready 0x29 pop (lit< tt) refl (opcode_is 0x29 c.key_at-key.ensures c.in-233.is)

pub do_swap-requires : goal.do_swap-requires
unfolding class_of opcodes
do_swap-requires c = here c.requires.ready 0x2b swap (lit< tt) refl (opcode_is 0x2b c.key_at-key.ensures c.in-235.is)

pub do_pick-requires : goal.do_pick-requires
unfolding class_of opcodes
do_pick-requires c = here c.requires.ready 0x32 pick (lit< tt) refl (opcode_is 0x32 c.key_at-key.ensures c.in-242.is)

pub do_rot-requires : goal.do_rot-requires
unfolding class_of opcodes
do_rot-requires c = here c.requires.ready 0x33 rot (lit< tt) refl (opcode_is 0x33 c.key_at-key.ensures c.in-243.is)

pub returns-in-194 : goal.returns-in-194
unfolding class_of opcodes
returns-in-194 c = did_step _ _ _ _ _ 0x02 binary refl (opcode_is 0x02 c.key_at-key.ensures c.in-194.is) refl c.on.ensures refl refl (c.do_binary.ensures _ c.requires.room)

pub returns-in-195 : goal.returns-in-195
unfolding class_of opcodes
returns-in-195 c = did_step _ _ _ _ _ 0x03 binary refl (opcode_is 0x03 c.key_at-key.ensures c.in-195.is) refl c.on-in-195.ensures refl refl (c.do_binary-in-195.ensures _ c.requires.room)

pub returns-in-196 : goal.returns-in-196
unfolding class_of opcodes
returns-in-196 c = did_step _ _ _ _ _ 0x04 binary refl (opcode_is 0x04 c.key_at-key.ensures c.in-196.is) refl c.on-in-196.ensures refl refl (c.do_binary-in-196.ensures _ c.requires.room)

pub returns-in-197 : goal.returns-in-197
unfolding class_of opcodes
returns-in-197 c = did_step _ _ _ _ _ 0x05 binary refl (opcode_is 0x05 c.key_at-key.ensures c.in-197.is) refl c.on-in-197.ensures refl refl (c.do_binary-in-197.ensures _ c.requires.room)

pub returns-in-198 : goal.returns-in-198
unfolding class_of opcodes
returns-in-198 c = did_step _ _ _ _ _ 0x06 binary refl (opcode_is 0x06 c.key_at-key.ensures c.in-198.is) refl c.on-in-198.ensures refl refl (c.do_binary-in-198.ensures _ c.requires.room)

pub returns-in-199 : goal.returns-in-199
unfolding class_of opcodes
returns-in-199 c = did_step _ _ _ _ _ 0x07 binary refl (opcode_is 0x07 c.key_at-key.ensures c.in-199.is) refl c.on-in-199.ensures refl refl (c.do_binary-in-199.ensures _ c.requires.room)

pub returns-in-200 : goal.returns-in-200
unfolding class_of opcodes
returns-in-200 c = did_step _ _ _ _ _ 0x08 binary refl (opcode_is 0x08 c.key_at-key.ensures c.in-200.is) refl c.on-in-200.ensures refl refl (c.do_binary-in-200.ensures _ c.requires.room)

pub returns-in-201 : goal.returns-in-201
unfolding class_of opcodes
returns-in-201 c = did_step _ _ _ _ _ 0x09 binary refl (opcode_is 0x09 c.key_at-key.ensures c.in-201.is) refl c.on-in-201.ensures refl refl (c.do_binary-in-201.ensures _ c.requires.room)

pub returns-in-202 : goal.returns-in-202
unfolding class_of opcodes
returns-in-202 c = did_step _ _ _ _ _ 0x0a binary refl (opcode_is 0x0a c.key_at-key.ensures c.in-202.is) refl c.on-in-202.ensures refl refl (c.do_binary-in-202.ensures _ c.requires.room)

pub returns-in-203 : goal.returns-in-203
unfolding class_of opcodes
returns-in-203 c = did_step _ _ _ _ _ 0x0b binary refl (opcode_is 0x0b c.key_at-key.ensures c.in-203.is) refl c.on-in-203.ensures refl refl (c.do_binary-in-203.ensures _ c.requires.room)

pub returns-in-207 : goal.returns-in-207
unfolding class_of opcodes
returns-in-207 c = did_step _ _ _ _ _ 0x0f binary refl (opcode_is 0x0f c.key_at-key.ensures c.in-207.is) refl c.on-in-207.ensures refl refl (c.do_binary-in-207.ensures _ c.requires.room)

pub returns-in-208 : goal.returns-in-208
unfolding class_of opcodes
returns-in-208 c = did_step _ _ _ _ _ 0x10 binary refl (opcode_is 0x10 c.key_at-key.ensures c.in-208.is) refl c.on-in-208.ensures refl refl (c.do_binary-in-208.ensures _ c.requires.room)

pub returns-in-209 : goal.returns-in-209
unfolding class_of opcodes
returns-in-209 c = did_step _ _ _ _ _ 0x11 binary refl (opcode_is 0x11 c.key_at-key.ensures c.in-209.is) refl c.on-in-209.ensures refl refl (c.do_binary-in-209.ensures _ c.requires.room)

pub returns-in-211 : goal.returns-in-211
unfolding class_of opcodes
returns-in-211 c = did_step _ _ _ _ _ 0x13 binary refl (opcode_is 0x13 c.key_at-key.ensures c.in-211.is) refl c.on-in-211.ensures refl refl (c.do_binary-in-211.ensures _ c.requires.room)

pub returns-in-212 : goal.returns-in-212
unfolding class_of opcodes
returns-in-212 c = did_step _ _ _ _ _ 0x14 binary refl (opcode_is 0x14 c.key_at-key.ensures c.in-212.is) refl c.on-in-212.ensures refl refl (c.do_binary-in-212.ensures _ c.requires.room)

pub returns-in-213 : goal.returns-in-213
unfolding class_of opcodes
returns-in-213 c = did_step _ _ _ _ _ 0x15 binary refl (opcode_is 0x15 c.key_at-key.ensures c.in-213.is) refl c.on-in-213.ensures refl refl (c.do_binary-in-213.ensures _ c.requires.room)

pub returns-in-204 : goal.returns-in-204
unfolding class_of opcodes
returns-in-204 c = did_step _ _ _ _ _ 0x0c trace refl (opcode_is 0x0c c.key_at-key.ensures c.in-204.is) refl c.on-in-204.ensures refl refl c.do_trace.ensures

pub returns-in-239 : goal.returns-in-239
unfolding class_of opcodes
returns-in-239 c = did_step _ _ _ _ _ 0x2f tracenz refl (opcode_is 0x2f c.key_at-key.ensures c.in-239.is) refl c.on-in-239.ensures refl refl c.do_tracenz.ensures

pub returns-in-206 : goal.returns-in-206
unfolding class_of opcodes
returns-in-206 c = did_step _ _ _ _ _ 0x0e unary refl (opcode_is 0x0e c.key_at-key.ensures c.in-206.is) refl refl refl refl (c.do_unary.ensures _ c.requires.room)

pub returns-in-210 : goal.returns-in-210
unfolding class_of opcodes
returns-in-210 c = did_step _ _ _ _ _ 0x12 unary refl (opcode_is 0x12 c.key_at-key.ensures c.in-210.is) refl refl refl refl (c.do_unary-in-210.ensures _ c.requires.room)

pub returns-in-215 : goal.returns-in-215
unfolding class_of opcodes
returns-in-215 c = did_step _ _ _ _ _ 0x17 (ref 1) refl (opcode_is 0x17 c.key_at-key.ensures c.in-215.is) refl c.on-in-215.ensures refl refl (c.do_ref.ensures _ c.requires.room)

pub returns-in-216 : goal.returns-in-216
unfolding class_of opcodes
returns-in-216 c = did_step _ _ _ _ _ 0x18 (ref 2) refl (opcode_is 0x18 c.key_at-key.ensures c.in-216.is) refl c.on-in-216.ensures refl refl (c.do_ref-in-216.ensures _ c.requires.room)

pub returns-in-217 : goal.returns-in-217
unfolding class_of opcodes
returns-in-217 c = did_step _ _ _ _ _ 0x19 (ref 4) refl (opcode_is 0x19 c.key_at-key.ensures c.in-217.is) refl c.on-in-217.ensures refl refl (c.do_ref-in-217.ensures _ c.requires.room)

pub returns-in-218 : goal.returns-in-218
unfolding class_of opcodes
returns-in-218 c = did_step _ _ _ _ _ 0x1a (ref 8) refl (opcode_is 0x1a c.key_at-key.ensures c.in-218.is) refl c.on-in-218.ensures refl refl (c.do_ref-in-218.ensures _ c.requires.room)

pub returns-in-205 : goal.returns-in-205
unfolding class_of opcodes
returns-in-205 c = did_step _ _ _ _ _ 0x0d (trace_quick 1) refl (opcode_is 0x0d c.key_at-key.ensures c.in-205.is) refl c.on-in-205.ensures refl refl c.do_trace_quick.ensures

pub returns-in-240 : goal.returns-in-240
unfolding class_of opcodes
returns-in-240 c = did_step _ _ _ _ _ 0x30 (trace_quick 2) refl (opcode_is 0x30 c.key_at-key.ensures c.in-240.is) refl c.on-in-240.ensures refl refl c.do_trace_quick-in-240.ensures

pub returns-in-214 : goal.returns-in-214
unfolding class_of opcodes
returns-in-214 c = did_step _ _ _ _ _ 0x16 ext refl (opcode_is 0x16 c.key_at-key.ensures c.in-214.is) refl refl refl refl (c.do_ext.ensures _ c.requires.room)

pub returns-in-234 : goal.returns-in-234
unfolding class_of opcodes
returns-in-234 c = did_step _ _ _ _ _ 0x2a zero_ext_of refl (opcode_is 0x2a c.key_at-key.ensures c.in-234.is) refl refl refl refl (c.do_zero_ext.ensures _ c.requires.room)

pub returns-in-237 : goal.returns-in-237
unfolding class_of opcodes
returns-in-237 c = did_set _ _ _ _ _ 0x2d setv refl (opcode_is 0x2d c.key_at-key.ensures c.in-237.is) refl refl refl refl c.do_setv.ensures.set (c.do_setv.ensures.moved _ c.requires.room)

pub returns-in-224 : goal.returns-in-224
unfolding class_of opcodes
returns-in-224 c = did_step _ _ _ _ _ 0x20 if_goto refl (opcode_is 0x20 c.key_at-key.ensures c.in-224.is) refl refl refl refl (c.do_if_goto.ensures _ c.requires.room)

pub returns-in-225 : goal.returns-in-225
unfolding class_of opcodes
returns-in-225 c = did_step _ _ _ _ _ 0x21 goto refl (opcode_is 0x21 c.key_at-key.ensures c.in-225.is) refl refl refl refl (c.do_goto.ensures _ c.requires.room)

pub returns-in-226 : goal.returns-in-226
unfolding class_of opcodes
returns-in-226 c = did_step _ _ _ _ _ 0x22 (constant 1) refl (opcode_is 0x22 c.key_at-key.ensures c.in-226.is) refl refl refl refl (c.do_constant.ensures _ c.requires.room)

pub returns-in-227 : goal.returns-in-227
unfolding class_of opcodes
returns-in-227 c = did_step _ _ _ _ _ 0x23 (constant 2) refl (opcode_is 0x23 c.key_at-key.ensures c.in-227.is) refl refl refl refl (c.do_constant-in-227.ensures _ c.requires.room)

pub returns-in-228 : goal.returns-in-228
unfolding class_of opcodes
returns-in-228 c = did_step _ _ _ _ _ 0x24 (constant 4) refl (opcode_is 0x24 c.key_at-key.ensures c.in-228.is) refl refl refl refl (c.do_constant-in-228.ensures _ c.requires.room)

pub returns-in-229 : goal.returns-in-229
unfolding class_of opcodes
returns-in-229 c = did_step _ _ _ _ _ 0x25 (constant 8) refl (opcode_is 0x25 c.key_at-key.ensures c.in-229.is) refl refl refl refl (c.do_constant-in-229.ensures _ c.requires.room)

pub returns-in-230 : goal.returns-in-230
unfolding class_of opcodes
returns-in-230 c = did_step _ _ _ _ _ 0x26 reg refl (opcode_is 0x26 c.key_at-key.ensures c.in-230.is) refl c.on-in-230.ensures refl refl (c.do_reg.ensures _ c.requires.room)

pub returns-in-236 : goal.returns-in-236
unfolding class_of opcodes
returns-in-236 c = did_step _ _ _ _ _ 0x2c getv refl (opcode_is 0x2c c.key_at-key.ensures c.in-236.is) refl refl refl refl (c.do_getv.ensures _ c.requires.room)

pub returns-in-238 : goal.returns-in-238
unfolding class_of opcodes
returns-in-238 c = did_step _ _ _ _ _ 0x2e tracev refl (opcode_is 0x2e c.key_at-key.ensures c.in-238.is) refl c.on-in-238.ensures refl refl c.do_tracev.ensures

pub returns-in-231 : goal.returns-in-231
unfolding class_of opcodes
returns-in-231 c = did_end _ _ _ _ _ 0x27 end refl (opcode_is 0x27 c.key_at-key.ensures c.in-231.is) refl refl c.do_end.ensures refl c.requires.room c.requires.ready.lent.long

pub returns-in-232 : goal.returns-in-232
unfolding class_of opcodes
returns-in-232 c = did_step _ _ _ _ _ 0x28 dup refl (opcode_is 0x28 c.key_at-key.ensures c.in-232.is) refl refl refl refl (c.do_dup.ensures _ c.requires.room)

pub returns-in-233 : goal.returns-in-233
unfolding class_of opcodes
returns-in-233 c = did_step _ _ _ _ _ 0x29 pop refl (opcode_is 0x29 c.key_at-key.ensures c.in-233.is) refl refl refl refl (c.do_pop.ensures _ c.requires.room)

pub returns-in-235 : goal.returns-in-235
unfolding class_of opcodes
returns-in-235 c = did_step _ _ _ _ _ 0x2b swap refl (opcode_is 0x2b c.key_at-key.ensures c.in-235.is) refl refl refl refl (c.do_swap.ensures _ c.requires.room)

pub returns-in-242 : goal.returns-in-242
unfolding class_of opcodes
returns-in-242 c = did_step _ _ _ _ _ 0x32 pick refl (opcode_is 0x32 c.key_at-key.ensures c.in-242.is) refl refl refl refl (c.do_pick.ensures _ c.requires.room)

pub returns-in-243 : goal.returns-in-243
unfolding class_of opcodes
returns-in-243 c = did_step _ _ _ _ _ 0x33 rot refl (opcode_is 0x33 c.key_at-key.ensures c.in-243.is) refl refl refl refl (c.do_rot.ensures _ c.requires.room)

pub unreachable-requires : goal.unreachable-requires
unfolding class_of opcodes
unreachable-requires c = not_these _ 0xc0 (0xdb ∷ 0xdd ∷ 0xdf ∷ 0xf4 ∷ 0xf6 ∷ 0xf8 ∷ 0xfa ∷ 0xfc ∷ 0xfe ∷ []) c.key_at-key.ensures tt c.in-192.is c.requires.ready.ready.known

pub unreachable-requires-in-193 : goal.unreachable-requires-in-193
unfolding class_of opcodes
unreachable-requires-in-193 c = not_these _ 0xc1 (0xdc ∷ 0xde ∷ 0xf1 ∷ 0xf5 ∷ 0xf7 ∷ 0xf9 ∷ 0xfb ∷ 0xfd ∷ 0xff ∷ []) c.key_at-key.ensures tt c.in-193.is c.requires.ready.ready.known

pub unreachable-requires-in_default : goal.unreachable-requires-in_default
unreachable-requires-in_default c = none_left _ c.key_at-key.ensures (search rules) c.requires.ready.ready.known
