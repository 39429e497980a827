use mathlib.Core.Path.{refl, sym, ◌∙◌}
use native.Mathlib.Omega.{arith}
use Rattle.std.proofs.lemmas.Result.{err_from_is_err_and}
use Rattle.hexadecimal.proofs.Hexing.{decoding_start, next_token, decoding_skip, decoding_byte, decoding_end, decoding_err, decoding_full, told_skip, told_byte}
use Rattle.hexadecimal.proofs.decode.Goals as goal

pub loop-i-init : goal.loop-i-init
loop-i-init c = decoding_start _ _

pub overflow_add-i : goal.overflow_add-i
overflow_add-i c = omega (arith, (next_token c.loop-i.invariant c.loop-i-test.true _ (told_skip c.in_ok-length.was _ c.in-Skip.is c.token_at.ensures)).1)

pub loop-i-smaller-in-Skip : goal.loop-i-smaller-in-Skip
loop-i-smaller-in-Skip c = omega (arith, (next_token c.loop-i.invariant c.loop-i-test.true _ (told_skip c.in_ok-length.was _ c.in-Skip.is c.token_at.ensures)).0)

pub loop-i-preserved-in-Skip : goal.loop-i-preserved-in-Skip
loop-i-preserved-in-Skip c = decoding_skip c.loop-i.invariant c.loop-i-test.true _ (told_skip c.in_ok-length.was _ c.in-Skip.is c.token_at.ensures)

pub returns-in_err-length : goal.returns-in_err-length
returns-in_err-length c =
    let p = err_from_is_err_and c.from_residual.result c.from_residual.ensures.1 in
    let e = decoding_err c.loop-i.invariant c.loop-i-test.true _ _ refl (sym c.in_err-length.was ∙ c.token_at.ensures) in
    rw (p.1, p.2) (record { answer = e.0; bytes = e.1.0; within = e.1.1 })

pub returns-then-out-n : goal.returns-then-out-n
returns-then-out-n c =
    let e = decoding_full c.loop-i.invariant c.loop-i-test.true _ _ (told_byte c.in_ok-length.was _ c.in-Byte.is c.token_at.ensures) c.if-out-n.true in
    record { answer = e.0; bytes = e.1.0; within = e.1.1 }

pub overflow_add-i-in-Byte : goal.overflow_add-i-in-Byte
overflow_add-i-in-Byte c = omega (arith, (next_token c.loop-i.invariant c.loop-i-test.true _ (told_byte c.in_ok-length.was _ c.in-Byte.is c.token_at.ensures)).1)

pub loop-i-smaller : goal.loop-i-smaller
loop-i-smaller c = omega (arith, (next_token c.loop-i.invariant c.loop-i-test.true _ (told_byte c.in_ok-length.was _ c.in-Byte.is c.token_at.ensures)).0)

pub loop-i-preserved : goal.loop-i-preserved
loop-i-preserved c = decoding_byte c.loop-i.invariant c.loop-i-test.true _ _ (told_byte c.in_ok-length.was _ c.in-Byte.is c.token_at.ensures) c.if-out-n.false

pub returns : goal.returns
returns c = let e = decoding_end c.loop-i.invariant c.loop-i-test.false in record { answer = e.0; bytes = e.1.0; within = e.1.1 }
