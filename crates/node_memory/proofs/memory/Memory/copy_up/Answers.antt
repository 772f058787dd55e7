use Rattle.std.proofs.Common.{◌≡◌, ℕ, ◌+◌, ◌%◌, ◌∙◌, List, ◌++◌, Ok, length, take, drop, ap, sym, arith}
use Rattle.std.specs.Vec.{with_items}
use Rattle.std.proofs.Math.Seq.{take-append_seam}
use Rattle.node_memory.specs.Bytes.{copied, copied_within, first_address}
use Rattle.node_memory.specs.Kept.{memory_of}
use Rattle.node_memory.proofs.Copies.{copied_kept, length-copied_within}
use Rattle.node_memory.proofs.memory.Memory.copy_up.Goals as goal

-- four bytes that are kept are copied in what is kept
pub returns-then-target-kept : goal.returns-then-target-kept
returns-then-target-kept c =
    let kept = c.self.inside.kept.items in
    let size = c.self.inside.size in
    let source = (c.args.from + 2147483648) % 4294967296 in
    let target = (c.args.to + 2147483648) % 4294967296 in
    let within = c.self.invariant.within in
    let written : c.copy_four.new.bytes ≡ copied_within 4 kept source target =
    c.copy_four.ensures ∙ ap (λ (bytes : List ℕ). copied_within 4 bytes source target) c.as_mut_slice.ensures.value in
    let room : c.self.inside.kept.len ≡ length c.copy_four.new.bytes =
    c.self.inside.kept.ok.0 ∙ sym (ap length written ∙ length-copied_within 4 kept source target) in
    let laid : (with_items c.self.inside.kept c.copy_four.new.bytes).items ≡ c.copy_four.new.bytes =
    ap (λ n. take n (c.copy_four.new.bytes ++ drop (length c.copy_four.new.bytes) kept)) room
    ∙ take-append_seam c.copy_four.new.bytes (drop (length c.copy_four.new.bytes) kept) in
    let copied_there = copied_kept 4 kept size source target within (omega arith) (omega arith) in
    let from_is : first_address + source ≡ c.args.from = omega arith in
    let to_is : first_address + target ≡ c.args.to = omega arith in
    let asked : copied 4 (memory_of kept size) (first_address + source) (first_address + target)
    ≡ copied c.args.count c.args.self.now c.args.from c.args.to =
    ap (λ a. copied 4 (memory_of kept size) a (first_address + target)) from_is
    ∙ ap (λ a. copied 4 (memory_of kept size) c.args.from a) to_is
    ∙ ap (λ n. copied n (memory_of kept size) c.args.from c.args.to) (sym c.if-count-eq4.true)
    ∙ ap (λ (memory : List ℕ). copied c.args.count memory c.args.from c.args.to) c.self.view_is in
    ap (λ (bytes : List ℕ). (Ok tt, memory_of bytes size)) (laid ∙ written) ∙ sym copied_there ∙ asked
