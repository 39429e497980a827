use Rattle.std.proofs.Common.{◌≡◌, ◌+◌, ◌-◌, ◌%◌, ◌^◌, arith}
use Rattle.memory.proofs.Fetching.{found_in_image, found_in_work, found_nowhere}
use Rattle.memory.proofs.Memory.holder.Goals as goal

pub returns-then-in_work-self : goal.returns-then-in_work-self
returns-then-in_work-self c = found_in_work _ c.args.self.allowed (omega arith) (omega arith)

pub returns-then-in_image-self : goal.returns-then-in_image-self
returns-then-in_image-self c = found_in_image _ c.args.self.allowed (omega arith) (omega arith)

pub returns : goal.returns
returns c =
    let t = c.args.self.target in
    let i : ((c.args.address + 2 ^ 64 - t.image.first) % 2 ^ 64 + t.image.first) % 2 ^ 64 ≡ c.args.address = omega arith in
    let w : ((c.args.address + 2 ^ 64 - t.work.first) % 2 ^ 64 + t.work.first) % 2 ^ 64 ≡ c.args.address = omega arith in
    found_nowhere _ c.args.self.allowed i (omega arith) (omega arith) w (omega arith) (omega arith)
