-- What code that decides a verdict may cite: the passes, case by case. Whoever uses a verdict cites `Promises`.

-- ---- the number of the fault at a start, case by case
pub use Rattle.verdict.proofs.Faults.{f_backward, f_ext_some, f_ext_zero, f_forward, f_no_start, f_other, f_past, f_plain, f_short, f_unknown, f_unsupported, f_variable_high, f_variable_low, fault_differing, fault_few, fault_many, fault_none, fault_off, off_end, off_goto, off_other}
-- ---- passes 1 and 2: the first fault along the starts, and what holds where there is none
pub use Rattle.verdict.proofs.Decoded.{aims_target, clear_fits, clear_holds, decodes_fits, decodes_known, first_fault, first_nil, first_ok}
-- ---- pass 3: what each start tells those after it
pub use Rattle.verdict.proofs.Along.{AtCell, along_nil, along_pass, along_skip, along_stop, arrives, continues_true, distances0_at, distances0_length, fine, heights0_length, heights0_other, heights0_zero, if_kept, if_length, joined_differing, joined_first, joined_same, jumps_true, longer_end, longer_other, raises, replicate_at}
-- ---- the verdict, by the pass that ends it
pub use Rattle.verdict.proofs.Cases.{verdict_1, verdict_2, verdict_3, verdict_empty, verdict_long}
