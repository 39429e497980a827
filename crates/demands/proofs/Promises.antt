-- The demands (docs/demands.md), sentence by sentence, each as a statement that is proved by citing the crates' pages.
-- What a reader must believe besides is the definitions that are named here: `verdict`, `Walk` and `Accepted`
-- (verdict, isa), `ended` (machine), `fetched`, `target_byte` and `InTarget` (memory), `encode_frame` (frames),
-- `reading`, `counting`, `located`, `walked`, `next_record` and `RecordsFrom` (reader), `RunNumbers` (lilivrez_agent),
-- and this crate's specs/.
use mathlib.Core.Bool.{false}
use Rattle.std.specs.Prelude.{Result, IfOk, OnErr}
use mathlib.Core.List.{List, [], ◌∷◌, ◌++◌}
use mathlib.Core.Logic.{◌↔◌, ◌≢◌}
use mathlib.Core.Path.{◌≡◌, sym, ap, ◌∙◌}
use Prim.Native.Nat.{ℕ, suc, ◌+◌, ◌≤◌, ◌<◌}
use native.Mathlib.Omega.{arith}
use lib.ListN.{length, get_or, take, drop}
use lib.Dec.{T}
use Rattle.logic.specs.Tests.{member}
use Rattle.encoding.specs.Written.{written_at}
use Rattle.encoding.specs.Ranges.{AllBytes, AllWords}
use Rattle.refusals.specs.Numbers.{allowance_spent, no_such_record, number_or_0}
use Rattle.refusals.specs.Refusal.{refusal}
use Rattle.refusals.specs.declared.Refusal as code
use Rattle.memory.specs.Spans.{target, target_of}
use Rattle.memory.specs.Fetch.{fetch_refusal, fetched, InTarget, target_byte}
use Rattle.frames.specs.Record.{Record, memory, encode_all, AllWellFormed}
use Rattle.frames.specs.declared.Tag.{Tag}
use Rattle.frames.specs.Trailer.{tag_of}
use Rattle.verdict.specs.Verdict.{accepted, verdict, verdict_of, SetsNothing}
use Rattle.verdict.specs.Acceptance.{MostIs}
use Rattle.verdict.proofs.Promises as verifying
use Rattle.machine.specs.Given.{Given, given, given_by}
use Rattle.machine.specs.Run.{ended, default_allowance, number_of, steps_of, used_of, variables_of, buffer_of}
use Rattle.machine.specs.Recorded.{AllFromTarget, records_of, frame_of}
use Rattle.machine.proofs.Promises as machine
use Rattle.runner.specs.Returned.{Ran}
use Rattle.runner.specs.declared.Completed.{Completed}
use Rattle.reader.specs.Located.{located, walked, place_after}
use Rattle.reader.specs.Framed.{frame_read, framed}
use Rattle.reader.specs.Read.{memory_read, refused_read, told, reading, counted, counting}
use Rattle.reader.specs.NextRecord.{next_record, RecordsFrom}
use Rattle.reader.specs.Answers.{located_of, read_of, counted_of, step_of}
use Rattle.reader.proofs.Promises as reader
use Rattle.version.specs.Version.{version_number}
use Rattle.lilivrez_verifier.specs.VerdictNumbers as verifier
use Rattle.lilivrez_agent.specs.Lent.{lent_at, fetch_values}
use Rattle.lilivrez_agent.specs.RunValues.{run_values, RunNumbers}
use Rattle.lilivrez_frames.specs.FrameValues.{read_number_of, read_values, count_number, count_values, locate_number, locate_values, walk_values, step_number, step_values}
use Rattle.demands.specs.Entry.{Answers, Exports, Lends}
use Rattle.demands.specs.Refusals.{Entry, numbers_of, Gives}
use Rattle.demands.specs.Stored.{steps_in, used_in, number_told, values_told}
use Rattle.demands.proofs.Numbers as numbers
use Rattle.demands.proofs.Leaving as leaving
use Rattle.demands.proofs.Telling as telling
use Rattle.demands.proofs.Reporting as reporting
use Rattle.encoding.specs.contracts.bytes_known as bytes_known
use Rattle.encoding.proofs.bytes_known as bytes_known_proof
use Rattle.encoding.specs.contracts.words_known as words_known
use Rattle.encoding.proofs.words_known as words_known_proof
use Rattle.lilivrez_verifier.specs.contracts.lilivrez_verify as lilivrez_verify
use Rattle.lilivrez_verifier.proofs.lilivrez_verify as lilivrez_verify_proof
use Rattle.lilivrez_verifier.specs.contracts.lilivrez_verifier_version as lilivrez_verifier_version
use Rattle.lilivrez_verifier.proofs.lilivrez_verifier_version as lilivrez_verifier_version_proof
use Rattle.lilivrez_agent.specs.contracts.fetching.lilivrez_fetch as lilivrez_fetch
use Rattle.lilivrez_agent.proofs.fetching.lilivrez_fetch as lilivrez_fetch_proof
use Rattle.lilivrez_agent.specs.contracts.running.lilivrez_run as lilivrez_run
use Rattle.lilivrez_agent.proofs.running.lilivrez_run as lilivrez_run_proof
use Rattle.lilivrez_agent.specs.contracts.running.lilivrez_run_default as lilivrez_run_default
use Rattle.lilivrez_agent.proofs.running.lilivrez_run_default as lilivrez_run_default_proof
use Rattle.lilivrez_agent.specs.contracts.lilivrez_agent_version as lilivrez_agent_version
use Rattle.lilivrez_agent.proofs.lilivrez_agent_version as lilivrez_agent_version_proof
use Rattle.lilivrez_frames.specs.contracts.reading.lilivrez_read as lilivrez_read
use Rattle.lilivrez_frames.proofs.reading.lilivrez_read as lilivrez_read_proof
use Rattle.lilivrez_frames.specs.contracts.reading.lilivrez_count as lilivrez_count
use Rattle.lilivrez_frames.proofs.reading.lilivrez_count as lilivrez_count_proof
use Rattle.lilivrez_frames.specs.contracts.reading.lilivrez_next_record as lilivrez_next_record
use Rattle.lilivrez_frames.proofs.reading.lilivrez_next_record as lilivrez_next_record_proof
use Rattle.lilivrez_frames.specs.contracts.finding.lilivrez_locate as lilivrez_locate
use Rattle.lilivrez_frames.proofs.finding.lilivrez_locate as lilivrez_locate_proof
use Rattle.lilivrez_frames.specs.contracts.finding.lilivrez_walk as lilivrez_walk
use Rattle.lilivrez_frames.proofs.finding.lilivrez_walk as lilivrez_walk_proof
use Rattle.lilivrez_frames.specs.contracts.lilivrez_frames_version as lilivrez_frames_version
use Rattle.lilivrez_frames.proofs.lilivrez_frames_version as lilivrez_frames_version_proof
use Rattle.verifier.specs.contracts.verify as verify
use Rattle.verifier.proofs.verify as verify_proof
use Rattle.verifier.specs.contracts.verify_noting as verify_noting
use Rattle.verifier.proofs.verify_noting as verify_noting_proof
use Rattle.memory.specs.contracts.fetch as fetch
use Rattle.memory.proofs.fetch as fetch_proof
use Rattle.memory.specs.contracts.lend as lend
use Rattle.memory.proofs.lend as lend_proof
use Rattle.memory.specs.contracts.fetch_refusal as fetch_refusal_of
use Rattle.memory.proofs.fetch_refusal as fetch_refusal_of_proof
use Rattle.runner.specs.contracts.run as run
use Rattle.runner.proofs.run as run_proof
use Rattle.runner.specs.contracts.run_default as run_default
use Rattle.runner.proofs.run_default as run_default_proof
use Rattle.reader.specs.contracts.read as read
use Rattle.reader.proofs.read as read_proof
use Rattle.reader.specs.contracts.count_records as count_records
use Rattle.reader.proofs.count_records as count_records_proof
use Rattle.reader.specs.contracts.next_record as next_record_of
use Rattle.reader.proofs.next_record as next_record_of_proof
use Rattle.reader.specs.contracts.locate as locate
use Rattle.reader.proofs.locate as locate_proof
use Rattle.reader.specs.contracts.walk as walk
use Rattle.reader.proofs.walk as walk_proof
use Rattle.walker.specs.contracts.Walker.new as walker_new
use Rattle.walker.proofs.Walker.new as walker_new_proof
use Rattle.walker.specs.contracts.Walker.step as walker_step
use Rattle.walker.proofs.Walker.step as walker_step_proof

-- ==== Demand 1
-- "Every entry point answers on any bytes, spans, registers, buffer and step allowance, and refuses bad ones itself."
-- `Answers`, `Exports` and `Lends` (specs/Entry.antt): whatever the function is called with, nothing is asked of the caller, it
-- ends, and what stands here holds of its arguments in their order, its answer r, and its arguments as it leaves them.
-- `now` is what a slice or a reference holds.
module _ {M : Type 1} where
  -- What is lent is what its type says: any slice has bytes, or words, throughout. So `AllBytes` and `AllWords`, which
  -- the crates' pages ask for, hold of any arguments; of a run `RunNumbers` and `Ran` say it.
  pub lent_bytes : Answers M bytes_known.ended bytes_known_proof.Symbol.name bytes_known_proof.Symbol.code (λ _ (bytes, _) _ _. AllBytes bytes.now)
  lent_bytes = bytes_known_proof.Met.met

  pub lent_words : Answers M words_known.ended words_known_proof.Symbol.name words_known_proof.Symbol.code (λ _ (words, _) _ _. AllWords words.now)
  lent_words = words_known_proof.Met.met

  -- the functions that console, unit, lab and desk link: what is returned, and what is stored in `out`
  pub lilivrez_verify_answers : Exports M lilivrez_verify.ended lilivrez_verify_proof.Symbol.name lilivrez_verify_proof.Symbol.code
      (λ _ (expression, _) r _. r ≡ verifier.verdict_number (verdict expression.now))
      (λ _ (expression, _) _ (_, (out, _)). out.now ≡ verifier.verdict_values (verdict expression.now))
  lilivrez_verify_answers = lilivrez_verify_proof.Met.met

  pub lilivrez_fetch_answers : Exports M lilivrez_fetch.ended lilivrez_fetch_proof.Symbol.name lilivrez_fetch_proof.Symbol.code
      (λ _ (image-first, (image, (work-first, (work, (address, (size, _)))))) r _. r ≡ fetch_refusal (target image-first image.now work-first work.now) address size)
      (λ _ (image-first, (image, (work-first, (work, (address, (size, _)))))) _ (_, (_, (_, (_, (_, (_, (out, _)))))))
      . out.now ≡ fetch_values (lent_at (target image-first image.now work-first work.now) address size))
  lilivrez_fetch_answers = lilivrez_fetch_proof.Met.met

  pub lilivrez_run_answers : Answers M lilivrez_run.ended lilivrez_run_proof.Symbol.name lilivrez_run_proof.Symbol.code
      (λ _ (expression, (registers, (image-first, (image, (work-first, (work, (variables, (buffer, (used, (tracepoint, (allowance, _)))))))))))
      r (_, (_, (_, (_, (_, (_, (variables', (buffer', (_, (_, (_, (out, _))))))))))))
      . RunNumbers (given expression.now registers.now variables.now (target image-first image.now work-first work.now) tracepoint buffer.now used allowance)
      r out.now variables'.now buffer'.now)
  lilivrez_run_answers = lilivrez_run_proof.Met.met

  pub lilivrez_run_default_answers : Answers M lilivrez_run_default.ended lilivrez_run_default_proof.Symbol.name lilivrez_run_default_proof.Symbol.code
      (λ _ (expression, (registers, (image-first, (image, (work-first, (work, (variables, (buffer, (used, (tracepoint, _))))))))))
      r (_, (_, (_, (_, (_, (_, (variables', (buffer', (_, (_, (out, _)))))))))))
      . RunNumbers (given expression.now registers.now variables.now (target image-first image.now work-first work.now) tracepoint buffer.now used default_allowance)
      r out.now variables'.now buffer'.now)
  lilivrez_run_default_answers = lilivrez_run_default_proof.Met.met

  pub lilivrez_read_answers : Exports M lilivrez_read.ended lilivrez_read_proof.Symbol.name lilivrez_read_proof.Symbol.code
      (λ _ (buffer, (used, (frame, (index, _)))) r _. r ≡ read_number_of (reading buffer.now used frame index))
      (λ _ (buffer, (used, (frame, (index, _)))) _ (_, (_, (_, (_, (out, _))))). out.now ≡ read_values (reading buffer.now used frame index))
  lilivrez_read_answers = lilivrez_read_proof.Met.met

  pub lilivrez_count_answers : Exports M lilivrez_count.ended lilivrez_count_proof.Symbol.name lilivrez_count_proof.Symbol.code
      (λ _ (buffer, (used, (frame, _))) r _. r ≡ count_number (counting buffer.now used frame))
      (λ _ (buffer, (used, (frame, _))) _ (_, (_, (_, (out, _)))). out.now ≡ count_values (counting buffer.now used frame))
  lilivrez_count_answers = lilivrez_count_proof.Met.met

  pub lilivrez_locate_answers : Exports M lilivrez_locate.ended lilivrez_locate_proof.Symbol.name lilivrez_locate_proof.Symbol.code
      (λ _ (buffer, (used, (frame, _))) r _. r ≡ locate_number (located buffer.now used frame))
      (λ _ (buffer, (used, (frame, _))) _ (_, (_, (_, (out, _)))). out.now ≡ locate_values (located buffer.now used frame))
  lilivrez_locate_answers = lilivrez_locate_proof.Met.met

  pub lilivrez_walk_answers : Exports M lilivrez_walk.ended lilivrez_walk_proof.Symbol.name lilivrez_walk_proof.Symbol.code
      (λ _ (buffer, (place, _)) r _. r ≡ locate_number (walked buffer.now place))
      (λ _ (buffer, (place, _)) _ (_, (_, (out, _))). out.now ≡ walk_values place (walked buffer.now place))
  lilivrez_walk_answers = lilivrez_walk_proof.Met.met

  pub lilivrez_next_record_answers : Exports M lilivrez_next_record.ended lilivrez_next_record_proof.Symbol.name lilivrez_next_record_proof.Symbol.code
      (λ _ (buffer, (end, (place, _))) r _. r ≡ step_number (next_record buffer.now end place))
      (λ _ (buffer, (end, (place, _))) _ (_, (_, (_, (out, _)))). out.now ≡ step_values place (next_record buffer.now end place))
  lilivrez_next_record_answers = lilivrez_next_record_proof.Met.met

  -- each archive's version
  pub lilivrez_verifier_version_answers : Answers M lilivrez_verifier_version.ended lilivrez_verifier_version_proof.Symbol.name lilivrez_verifier_version_proof.Symbol.code (λ _ _ r _. r ≡ version_number)
  lilivrez_verifier_version_answers = lilivrez_verifier_version_proof.Met.met

  pub lilivrez_agent_version_answers : Answers M lilivrez_agent_version.ended lilivrez_agent_version_proof.Symbol.name lilivrez_agent_version_proof.Symbol.code (λ _ _ r _. r ≡ version_number)
  lilivrez_agent_version_answers = lilivrez_agent_version_proof.Met.met

  pub lilivrez_frames_version_answers : Answers M lilivrez_frames_version.ended lilivrez_frames_version_proof.Symbol.name lilivrez_frames_version_proof.Symbol.code (λ _ _ r _. r ≡ version_number)
  lilivrez_frames_version_answers = lilivrez_frames_version_proof.Met.met

  -- the entries behind them, for code of the same toolchain
  pub verify_answers : Answers M verify.ended verify_proof.Symbol.name verify_proof.Symbol.code (λ _ (expression, _) r _. verdict_of r ≡ verdict expression.now)
  verify_answers = verify_proof.Met.met

  pub verify_noting_answers : Answers M verify_noting.ended verify_noting_proof.Symbol.name verify_noting_proof.Symbol.code
      (λ _ (expression, _) r _. (verdict_of r.answer ≡ verdict expression.now) × (r.sets ≡ false → SetsNothing expression.now))
  verify_noting_answers = verify_noting_proof.Met.met

  pub fetch_answers : Answers M fetch.ended fetch_proof.Symbol.name fetch_proof.Symbol.code
      (λ _ (target, (address, (size, _))) r _. r.now ≡ fetched (target_of target) address size)
  fetch_answers = fetch_proof.Met.met

  pub lend_answers : Lends M lend.ended lend_proof.Symbol.name lend_proof.Symbol.code
      (λ _ (target, (address, (size, _))) r _. number_or_0 r ≡ fetch_refusal (target_of target) address size)
      (λ _ (target, (address, (size, _))) r _. IfOk r (λ part. part.now ≡ fetched (target_of target) address size))
      (λ _ (target, (address, (size, _))) r _. OnErr r (fetched (target_of target) address size ≡ []))
  lend_answers = lend_proof.Met.met

  pub fetch_refusal_answers : Answers M fetch_refusal_of.ended fetch_refusal_of_proof.Symbol.name fetch_refusal_of_proof.Symbol.code
      (λ _ (target, (address, (size, _))) r _. number_or_0 r ≡ fetch_refusal (target_of target) address size)
  fetch_refusal_answers = fetch_refusal_of_proof.Met.met

  pub run_answers : Answers M run.ended run_proof.Symbol.name run_proof.Symbol.code
      (λ _ (inputs, (variables, (buffer, (allowance, _)))) r (_, (variables', (buffer', _)))
      . Ran (given_by inputs variables.now buffer.now allowance) r variables'.now buffer'.now)
  run_answers = run_proof.Met.met

  pub run_default_answers : Answers M run_default.ended run_default_proof.Symbol.name run_default_proof.Symbol.code
      (λ _ (inputs, (variables, (buffer, _))) r (_, (variables', (buffer', _)))
      . Ran (given_by inputs variables.now buffer.now default_allowance) r variables'.now buffer'.now)
  run_default_answers = run_default_proof.Met.met

  pub read_answers : Answers M read.ended read_proof.Symbol.name read_proof.Symbol.code (λ _ (buffer, (used, (frame, (index, _)))) r _. read_of r ≡ reading buffer.now used frame index)
  read_answers = read_proof.Met.met

  pub count_records_answers : Answers M count_records.ended count_records_proof.Symbol.name count_records_proof.Symbol.code (λ _ (buffer, (used, (frame, _))) r _. counted_of r ≡ counting buffer.now used frame)
  count_records_answers = count_records_proof.Met.met

  pub locate_answers : Answers M locate.ended locate_proof.Symbol.name locate_proof.Symbol.code (λ _ (buffer, (used, (frame, _))) r _. located_of r ≡ located buffer.now used frame)
  locate_answers = locate_proof.Met.met

  pub walk_answers : Answers M walk.ended walk_proof.Symbol.name walk_proof.Symbol.code (λ _ (buffer, (place, _)) r _. located_of r ≡ walked buffer.now place)
  walk_answers = walk_proof.Met.met

  pub next_record_answers : Answers M next_record_of.ended next_record_of_proof.Symbol.name next_record_of_proof.Symbol.code (λ _ (buffer, (end, (place, _))) r _. step_of r ≡ next_record buffer.now end place)
  next_record_answers = next_record_of_proof.Met.met

  -- the walker: made before the newest frame, and one step
  pub walker_new_answers : Answers M walker_new.ended walker_new_proof.Symbol.name walker_new_proof.Symbol.code (λ _ (buffer, (used, _)) r _. (r.buffer ≡ buffer) × (r.place ≡ used))
  walker_new_answers = walker_new_proof.Met.met

  pub walker_step_answers : Answers M walker_step.ended walker_step_proof.Symbol.name walker_step_proof.Symbol.code
      (λ _ (walker, _) r (walker', _).
      let buffer = walker.now.buffer in
      let place = walker.now.place in
      (located_of r ≡ walked buffer.now place) × (walker'.now.buffer ≡ buffer) × (walker'.now.place ≡ place_after place (walked buffer.now place)))
  walker_step_answers = walker_step_proof.Met.met

-- "Each refusal has one number from document 01's table." The numbers that an entry gives are exactly those that the
-- table (specs/Refusals.antt) has for it, and 0 where nothing is refused.
pub numbers_exact : (x : Entry) (r : ℕ) → Gives x r ↔ T (member r (0 ∷ numbers_of x))
numbers_exact = numbers.exact

-- ==== of a run
-- g is what it is given. It returned `number`, stored `values`, and left the variables v and the buffer b: what
-- `lilivrez_run` ensures. What `run` answers is told by the same numbers.
pub run_told : {g : Given} {r : Result Completed code.Refusal} {v b : List ℕ} → Ran g r v b → RunNumbers g (number_told r) (values_told g.used r) v b
run_told = reporting.run_told

module _ {g : Given} {number : ℕ} {values v b : List ℕ} (tells : RunNumbers g number values v b) where
  -- the records that document 01's machine makes, given the same
  abbrev made : List Record
  made = records_of (ended g)

  steps_told : steps_in values ≡ steps_of (ended g)
  steps_told = ap steps_in tells.values_of ∙ reporting.steps_in_lem g (ended g)

  used_told : used_in values ≡ used_of g (ended g)
  used_told = ap used_in tells.values_of ∙ reporting.used_in_lem g (ended g)

  -- "A refused run gives back the variables and the used length it was given, and document 01 fixes each byte of the
  -- buffer."
  pub refused_leaves : number ≢ 0 → (v ≡ g.variables) × (used_in values ≡ g.used) × (b ≡ written_at g.buffer g.used (encode_all made))
  refused_leaves z =
      let x = leaving.refused_leaves g (rw tells.number_of at z) in
      (tells.variables_of ∙ x.0, used_told ∙ x.1, tells.buffer_of ∙ x.2)

  -- ==== Demand 2
  -- "The verifier, the runner and the frame reader agree with the GDB manual's bytecode descriptions as document 01
  -- makes them exact": the contracts above, of `verdict`, `ended`, `reading`, `counting`, `walked` and `next_record`.
  -- M-100 amends document 01 there: "a count of 64 or more gives 0 for lsh and rsh_unsigned, and all copies of the top
  -- bit for rsh_signed" (page of arithmetic: `lsh_out`, `rsh_unsigned_out`, `rsh_signed_out`).
  -- "Each recorded byte is the target's byte at the recorded address": of each record, whether the run completed or was
  -- refused; and byte by byte: a span holds its address, and it is the target's byte there.
  pub recorded_bytes : AllFromTarget g.target made
  recorded_bytes = machine.records_from_target g

  pub recorded_byte : (before : List Record) (a : ℕ) (bytes : List ℕ) (behind : List Record) → made ≡ before ++ (memory a bytes ∷ behind)
      → (i : ℕ) → i < length bytes
      → InTarget g.target (a + i)
      × (get_or bytes i 0 ≡ target_byte g.target (a + i))
  recorded_byte before a bytes behind p =
      machine.recorded_byte g.target (leaving.made_fine g before (memory a bytes) behind p) a bytes
      (leaving.all_at g.target before (memory a bytes) behind (rw p at recorded_bytes))

  -- "Reading the newest frame after a completed run gives exactly the records that run made": the frame read has them,
  -- and so have their number and each in its place with its bytes, and none past the last; the record walker goes over
  -- them; and the frames that were there before are read as before, one number higher.
  module _ (done : number ≡ 0) where
    abbrev tag : Tag
    tag = tag_of g.tracepoint

    abbrev place : List Record → ℕ
    place before = g.used + length (encode_all before)

    leaves : leaving.LeavesFrame g (ended g)
    leaves = leaving.leaves_frame g (sym tells.number_of ∙ done)

    used_is : used_in values ≡ g.used + length (frame_of g (ended g))
    used_is = used_told ∙ leaves.used

    buffer_is : b ≡ written_at g.buffer g.used (frame_of g (ended g))
    buffer_is = tells.buffer_of ∙ leaves.buffer

    well : AllWellFormed made
    well = machine.records_well_formed tells.typed

    pub newest_framed : framed b (used_in values) 0 ≡ frame_read tag g.used made
    newest_framed = rw (used_is, buffer_is) (reader.newest_framed g.buffer g.used tag made leaves.small leaves.fits (machine.tag_fits tells.typed) well)

    pub newest_count : counting b (used_in values) 0 ≡ counted tag g.used (length (encode_all made)) (length made)
    newest_count = rw (used_is, buffer_is) (reader.newest_count g.buffer g.used tag made leaves.small leaves.fits (machine.tag_fits tells.typed) well)

    pub newest_record : (before : List Record) (x : Record) (behind : List Record) → made ≡ before ++ (x ∷ behind)
        → reading b (used_in values) 0 (length before) ≡ told tag (place before) x
    newest_record = rw (used_is, buffer_is) (reader.newest_record g.buffer g.used tag made leaves.small leaves.fits (machine.tag_fits tells.typed) well)

    pub newest_bytes : (before : List Record) (x : ℕ) (bytes : List ℕ) (behind : List Record) → made ≡ before ++ (memory x bytes ∷ behind)
        → take (length bytes) (drop (place before + 11) b) ≡ bytes
    newest_bytes = rw buffer_is (reader.newest_bytes g.buffer g.used tag made leaves.small leaves.fits (machine.tag_fits tells.typed))

    pub newest_past : (i : ℕ) → length made ≤ i → reading b (used_in values) 0 i ≡ refused_read (refusal no_such_record g.used)
    newest_past = rw (used_is, buffer_is) (reader.newest_past g.buffer g.used tag made leaves.small leaves.fits (machine.tag_fits tells.typed) well)

    pub newest_walked : RecordsFrom b (place made) g.used made (refusal no_such_record (place made))
    newest_walked = rw buffer_is (reader.newest_walked g.buffer g.used tag made leaves.small leaves.fits (machine.tag_fits tells.typed) well)

    pub older_count : (frame : ℕ) → counting b (used_in values) (suc frame) ≡ counting g.buffer g.used frame
    older_count = rw (used_is, buffer_is) (reader.older_count g.buffer g.used tag made leaves.small leaves.fits (machine.tag_fits tells.typed))

    pub older_record : (frame i : ℕ) → reading b (used_in values) (suc frame) i ≡ reading g.buffer g.used frame i
    older_record = rw (used_is, buffer_is) (reader.older_record g.buffer g.used tag made leaves.small leaves.fits (machine.tag_fits tells.typed))

    -- The last two sentences in one piece. What the reader tells of the newest frame: a memory record with the address
    -- a, n bytes and their place p in the buffer. A span holds each address a + j, and the byte at the place p + j is
    -- the target's byte there.
    pub newest_byte : (i : ℕ) {s : Tag} {a n p : ℕ} → reading b (used_in values) 0 i ≡ memory_read s a n p → (j : ℕ) → j < n
        → InTarget g.target (a + j)
        × (get_or b (p + j) 0 ≡ target_byte g.target (a + j))
    newest_byte =
        rw (used_is, buffer_is)
        (telling.told_byte g.target (leaving.fine g (sym tells.number_of ∙ done)) g.buffer g.used tag made leaves.small leaves.fits
        (machine.tag_fits tells.typed) well recorded_bytes)

  -- ==== Demand 3
  -- "No run of that expression, whatever else it is given, reports more steps than that number, and a run whose
  -- allowance is at least that number is never refused for its allowance."
  pub steps_longest : {n h l : ℕ} → verdict g.expression ≡ accepted n h l → steps_in values ≤ l
  steps_longest p = rw steps_told (machine.steps_longest g p)

  pub allowance_enough : {n h l : ℕ} → verdict g.expression ≡ accepted n h l → l ≤ g.allowance → number ≢ allowance_spent
  allowance_enough p q = rw tells.number_of (machine.allowance_enough g p q)

  -- Document 01: "An entry without an allowance uses 1,024." That is always enough.
  pub default_enough : g.allowance ≡ default_allowance → number ≢ allowance_spent
  default_enough p = rw tells.number_of (machine.bytes_enough g (omega arith))

  -- "For every run on any bytes, completed or refused, the steps that the runner reports are exactly as many as
  -- document 01's machine completes when it is given the same"
  pub steps_machine : steps_in values ≡ steps_of (ended g)
  steps_machine = steps_told

  -- "and the run ends as that machine ends: with the same refusal and offset, or the same answer, and with the same
  -- records": `run_values` has the offset, the steps, the used length and the answer, `buffer_of` the records.
  pub ends_as_machine : (number ≡ number_of (ended g)) × (values ≡ run_values g (ended g))
      × (v ≡ variables_of g (ended g)) × (b ≡ buffer_of g (ended g))
  ends_as_machine = (tells.number_of, tells.values_of, tells.variables_of, tells.buffer_of)

-- "For each accepted expression the verifier reports the number of instructions on the longest walk from its start to
-- an end, counting both ways out of each conditional jump as possible. Some such walk has exactly that many, and none
-- has more."
pub longest_walk : (e : List ℕ) {n g l : ℕ} → verdict e ≡ accepted n g l → MostIs length e l
longest_walk e p = (verifying.accepted_means e p).longest
