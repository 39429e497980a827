-- What users of `passes` may cite, besides the contracts of src/: what pass 3 knows at a start, and that it ends fine.
pub use Rattle.passes.proofs.Measuring.{brings_none, incoming_both, incoming_flow, joined_reached, measuring_end, measuring_start, measuring_turn, stepped_end, stepped_goto, stepped_on, target_jump, turned_step, unmeasured_new}
