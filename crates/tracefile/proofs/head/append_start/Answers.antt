use Rattle.std.proofs.Common.{rules}
use Rattle.std.proofs.Common.{[], ◌∷◌}
use Rattle.text_buffer.proofs.Promises.{one, more}
use Rattle.text_buffer.specs.Text.{bytes_of}
use Rattle.phrases.specs.Numbers.{hex_text}
use Rattle.tracefile.specs.Head.{start_text}
use Rattle.tracefile.proofs.head.append_start.Goals as goal

pub returns : goal.returns
unfolding start_text
returns c =
    let a = c.args in
    record {
      count = c.append-4.ensures.count;
      text = (more (more (more (more (more (one (0x7f ∷ []) c.append.ensures.text) (bytes_of "TRACE0\nR 1\nstatus 0;tunknown:0;tframes:")
          c.append-2.ensures.text) (hex_text a.frames) c.append_address.ensures.text) (bytes_of ":tcreated:") c.append-3.ensures.text)
          (hex_text a.frames) c.append_address-2.ensures.text) (bytes_of "\n") c.append-4.ensures.text).text;
      lent = search rules;
    }
