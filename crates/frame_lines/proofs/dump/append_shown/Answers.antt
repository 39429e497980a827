use Rattle.std.proofs.Common.{refl, ◌∙◌}
use Rattle.std.proofs.Common.{[], ◌+◌, ◌∷◌, drop, arith}
use Rattle.text_buffer.proofs.Promises.{appends_length, appends_then, going_start, going_part, going_end}
use Rattle.frame_lines.specs.Dump.{shown}
use Rattle.frame_lines.proofs.Dumping.{shown_part, shown_end}
use Rattle.frame_lines.proofs.dump.append_shown.Goals as goal

pub loop-byte-init : goal.loop-byte-init
loop-byte-init c = record { going = going_start _ _ _ c.append.ensures.count.0; lent = refl }

pub loop-byte-preserved : goal.loop-byte-preserved
loop-byte-preserved c =
    let a = c.append-in-loop-byte in
    let l = c.args.bytes.now in
    let i = c.loop-byte.byte-index in
    let s = c.shown_byte in
    record {
      going = going_part c.loop-byte.invariant.going (s.result ∷ []) (shown (drop (i + 1) l)) (shown_part l i (omega arith) _ s.ensures) _ _
          (appends_length a.ensures.text) a.ensures.text;
      lent = a.ensures.lent ∙ c.loop-byte.invariant.lent;
    }

pub returns-clause-text : goal.returns-clause-text
returns-clause-text c = appends_then [] _ c.append.ensures.text (going_end c.loop-byte.invariant.going (shown_end c.args.bytes.now c.loop-byte.byte-index (omega arith)))

pub returns-clause-lent : goal.returns-clause-lent
returns-clause-lent c = c.loop-byte.invariant.lent ∙ c.append.ensures.lent
