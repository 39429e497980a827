-- `hexadecimal::encode` meets its contract. The loop's invariant: the first bytes are written, to the buffer that was
-- lent.
use Rattle.std.proofs.Common.{◌≡◌}
use Rattle.hexadecimal.proofs.HexWriting.{Encoding}
use Rattle.hexadecimal.proofs.encode.Given as goal

abbrev pub invariant-loop-byte : goal.invariant-loop-byte
invariant-loop-byte l = record {
  written : Encoding l.initial.text.bytes.now l.initial.text.end l.bytes l.text.bytes.now l.text.end l.byte-index;
  lent : l.text.bytes.ghost_name ≡ l.initial.text.bytes.ghost_name;
}
