use Rattle.std.proofs.Common.{◌≡◌, ◌+◌, ◌∙◌, ap, sym, min, arith}
use Rattle.std.specs.Prelude.{Ok}
use Rattle.std.specs.Int.Bits.{or_zero_r}
use Rattle.node_memory.specs.Bytes.{byte_at}
use Rattle.node_memory.specs.Kept.{fetched_byte}
use Rattle.t414_decode.specs.Codes.{function_of}
use Rattle.t414_step.specs.Step.{byte_done}
use Rattle.t414_step.proofs.cpu.Cpu.do_byte.Goals as goal

pub returns-in-Behind-clause-answer : goal.returns-in-Behind-clause-answer
unfolding byte_done function_of
returns-in-Behind-clause-answer c = λ ls.
    let byte : byte_at c.args.memory.now c.args.self.now.instruction ≡ Ok 0 =
    sym c.fetch.ensures ∙ ap fetched_byte c.in-Behind.is in
    let counted : min (c.args.self.now.bytes + 1) 1024 ≡ c.min.result + 1 = omega arith in
    rw (byte, counted, or_zero_r c.args.self.now.operand) (c.jump_by_prefixes.ensures.answer ls c.args.memory.now)
