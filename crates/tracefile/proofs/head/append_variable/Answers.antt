use Rattle.std.proofs.Common.{rules}
use Rattle.std.proofs.Common.{◌+◌, refl}
use Rattle.text_buffer.proofs.Promises.{appends_same, one, more}
use Rattle.text_buffer.specs.Text.{bytes_of}
use Rattle.hexadecimal.specs.Hex.{hex_of}
use Rattle.phrases.specs.Numbers.{hex_text}
use Rattle.tracefile.specs.Head.{name_text, variable_text}
use Rattle.tracefile.proofs.Filing.{next_hex}
use Rattle.tracefile.proofs.head.append_variable.Goals as goal

pub returns : goal.returns
unfolding variable_text
returns c =
    let a = c.args in
    record {
      count = c.append-3.ensures.count;
      text = (more (more (more (more (one (bytes_of "tsv ") c.append.ensures.text) (hex_text (a.number + 1))
          (appends_same _ _ (next_hex a.number _ c.ranges.number.fits refl) c.append_address.ensures.text))
          (bytes_of ":0:0:") c.append-2.ensures.text) (hex_of (name_text a.number)) c.append_name.ensures.text) (bytes_of "\n")
          c.append-3.ensures.text).text;
      lent = search rules;
    }
