use native.Mathlib.Omega.{arith}
use mathlib.Core.Path.{refl, ap}
use Rattle.listing.specs.Line.{taken}
use Rattle.listing.proofs.Lining.{stored, stored_end, stored_length}
use Rattle.listing.proofs.reading.store.Goals as goal

pub returns : goal.returns
returns c =
    let i = c.args.instruction in
    let t = c.args.code.now in
    let p = c.put_big.ensures in
    let s = stored i.opcode i.count i.operand t.end t.bytes.now (omega (arith, c.if-code-at-2.false)) _ p in record {
      answer = ap taken s.0;
      end = stored_end t.end i.count _ s.0;
      bytes = s.1;
      within = λ h. omega (arith, c.if-code-at-2.false, stored_length i.opcode i.count i.operand t.end t.bytes.now _ p);
      lent = refl;
    }
