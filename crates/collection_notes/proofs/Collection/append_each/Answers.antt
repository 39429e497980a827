use Rattle.std.proofs.Common.{◌∙◌}
use Prim.Native.Nat.{◌+◌}
use native.Mathlib.Omega.{arith}
use Rattle.text_buffer.proofs.Promises.{appends_same, appends_length, going_part, going_end}
use Rattle.collection_notes.specs.Notes.{wanted_note}
use Rattle.collection_notes.proofs.Noting.{notes_at, notes_part, notes_end, notes_all}
use Rattle.collection_notes.proofs.Collection.append_each.Goals as goal

pub loop-register-preserved : goal.loop-register-preserved
loop-register-preserved c =
    let m = c.args.self.mask.now in
    let e = c.args.self.code.now in
    let a = c.args.self.is_all in
    let p = c.append_wanted in
    let r = c.loop-register.register in record {
      going = going_part c.loop-register.invariant.going (wanted_note m e a r) (notes_at m e a (r + 1)) (notes_part m e a r (omega arith)) _ _ (appends_length p.ensures.text) p.ensures.text;
      count = p.ensures.count;
      lent = p.ensures.lent ∙ c.loop-register.invariant.lent;
    }

pub returns-clause-text : goal.returns-clause-text
returns-clause-text c =
    let m = c.args.self.mask.now in
    let e = c.args.self.code.now in
    let a = c.args.self.is_all in
    appends_same _ _ (notes_all m e a) (going_end c.loop-register.invariant.going (notes_end m e a c.loop-register.register (omega arith)))

pub returns-clause-lent : goal.returns-clause-lent
returns-clause-lent c = c.loop-register.invariant.lent
