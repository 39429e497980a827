use Rattle.std.proofs.Common.{ap, length, ◌∙◌}
use Rattle.text_buffer.proofs.Promises.{appends_same, appends_text, text_of, appends_number, appends_length}
use Rattle.text_buffer.specs.Text.{bytes_of}
use Rattle.hexadecimal.specs.Hex.{hex_of}
use Rattle.tracefile.proofs.Filing.{named}
use Rattle.tracefile.proofs.head.append_name.Goals as goal

pub returns-clause-text : goal.returns-clause-text
returns-clause-text c =
    let v = c.args.number in
    let p = rw c.new-name.ensures.1 at c.append.ensures.text in
    let x = c.append_number.ensures.text in
    let long = appends_length x.2 ∙ appends_length p ∙ ap (λ b. length b.now) c.new-name.ensures.0 in
    let t = appends_text x.2 (bytes_of "v") (text_of p) in
    let u = appends_text (appends_number v x) (bytes_of "v") (text_of p) in
    let name = named _ _ v x.0 long c.ranges.number.fits x.1 t u in
    appends_same _ _ (ap hex_of (c.written.ensures ∙ name)) c.encode.ensures.text
