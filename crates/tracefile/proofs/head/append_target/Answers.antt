use Rattle.std.proofs.Common.{rules}
use Rattle.text_buffer.proofs.Promises.{one, more}
use Rattle.text_buffer.specs.Text.{bytes_of}
use Rattle.tracefile.specs.Head.{target_text}
use Rattle.tracefile.proofs.head.append_target.Goals as goal

pub returns : goal.returns
unfolding target_text
returns c =
    record {
      count = c.append-2.ensures.count;
      text = (more (one (bytes_of "tdesc <?xml version='1.0'?>") c.append.ensures.text)
          (bytes_of "<target><architecture>i386:x86-64</architecture></target>\n\n") c.append-2.ensures.text).text;
      lent = search rules;
    }
