-- What a line of a scenario replaces or discards: "one line says what was replaced or discarded".
use Rattle.std.specs.Prelude.{ℕ, List, ◌++◌}
use Rattle.text_buffer.specs.Decimal.{decimal}
use Rattle.text_buffer.specs.Text.{bytes_of}
use Rattle.phrases.specs.Numbers.{count_text, hex_text}

-- `note: line 7: memory: `
unfoldable pub note_at : ℕ → List ℕ → List ℕ
note_at line word = bytes_of "note: line " ++ decimal line ++ bytes_of ": " ++ word ++ bytes_of ": "

-- a span that was set before: its bytes, and where they began
unfoldable pub replaced_text : ℕ → List ℕ → ℕ → ℕ → List ℕ
replaced_text line word len first = note_at line word ++ count_text len (bytes_of "byte") ++ bytes_of " at " ++ hex_text first ++ bytes_of " replaced\n"

-- a trace buffer that was in use
unfoldable pub discarded_text : ℕ → List ℕ → ℕ → List ℕ
discarded_text line word used = note_at line word ++ count_text used (bytes_of "recorded byte") ++ bytes_of " discarded\n"
