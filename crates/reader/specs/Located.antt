-- Where a frame is (document 01, "Frames"): "The reader counts frames from the newest, 0. It checks 15; then walks
-- back".
use Rattle.std.specs.Prelude.{cond, List, ℕ, zero, suc, ◌-◌, take, drop, leb, ltb, eqb}
use Rattle.refusals.specs.Numbers.{buffer_bad, trailer_broken, no_such_frame}
use Rattle.refusals.specs.Refusal.{Refusal, refusal}
use Rattle.frames.specs.Buffer.{unfit}
use Rattle.frames.specs.declared.Tag.{Tag}
use Rattle.frames.specs.Trailer.{trailer_size, TrailerRead, trailer, broken_trailer, decode_trailer}

pub data Located : Type 0 where
  -- tag, start, length of the records
  frame : Tag → ℕ → ℕ → Located
  refused : Refusal → Located

-- "a length beyond what lies before is 22 (offset: that frame's end)"
abbrev pub closed_by : ℕ → TrailerRead → Located
closed_by end (trailer tag long) =
    cond (leb long (end - trailer_size)) (frame tag (end - trailer_size - long) long) (refused (refusal trailer_broken end))
closed_by end broken_trailer = refused (refusal trailer_broken end)

-- The frame that ends at the offset `end`: "nothing left is 24, and under 8 bytes, a wrong mark, a second byte other
-- than 00 or a length beyond what lies before is 22 (offset: that frame's end)"; "24 reports 0".
unfoldable pub frame_before : List ℕ → ℕ → Located
frame_before buffer end =
    cond (eqb end 0) (refused (refusal no_such_frame 0))
    (cond (ltb end trailer_size) (refused (refusal trailer_broken end))
    (closed_by end (decode_trailer (take trailer_size (drop (end - trailer_size) buffer)))))

-- on from a frame to the one before it
abbrev pub older : (ℕ → Located) → Located → Located
older go (frame tag start long) = go start
older go (refused r) = refused r

-- the frame that is `number` frames older than the one that ends at `end`
unfoldable pub frame_back : List ℕ → ℕ → ℕ → Located
frame_back buffer zero end = frame_before buffer end
frame_back buffer (suc number) end = older (λ start. frame_back buffer number start) (frame_before buffer end)

-- the frame of this number, where `used` bytes of the buffer are used
unfoldable pub located : List ℕ → ℕ → ℕ → Located
located buffer used number = cond (unfit buffer used) (refused (refusal buffer_bad 0)) (frame_back buffer number used)

-- the walker's step from its place: "the next older frame's tracepoint number, start and record length, or 15, 22 or 24
-- as above"
unfoldable pub walked : List ℕ → ℕ → Located
walked buffer place = cond (unfit buffer place) (refused (refusal buffer_bad 0)) (frame_before buffer place)

-- "with its place kept": where the walker is after its step
abbrev pub place_after : ℕ → Located → ℕ
place_after place (frame tag start long) = start
place_after place (refused r) = place
