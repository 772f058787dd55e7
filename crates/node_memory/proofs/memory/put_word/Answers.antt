use Rattle.std.proofs.Common.{◌≡◌, ℕ, ◌+◌, ◌-◌, ◌/◌, ◌%◌, ◌^◌, ◌<◌, slice_set, ap, ◌∙◌, arith}
use Rattle.node_memory.proofs.Parts.{four_set}
use Rattle.node_memory.proofs.memory.put_word.Goals as goal

top-byte : (word : ℕ) → word < 2 ^ 32 → word / 16777216 ≡ word / 2 ^ 24 % 2 ^ 8
top-byte word fits = omega (arith, fits)

pub returns : goal.returns
returns c =
    four_set c.args.first (c.args.first + 4 - c.args.first) c.args.bytes.now (c.args.word % 256)
    (c.args.word / 256 % 256) (c.args.word / 65536 % 256) (c.args.word / 16777216) (omega arith) c.requires
    ∙ ap (λ v. slice_set (slice_set (slice_set (slice_set c.args.bytes.now c.args.first (c.args.word % 256))
    (c.args.first + 1) (c.args.word / 256 % 256))
    (c.args.first + 2) (c.args.word / 65536 % 256))
    (c.args.first + 3) v)
    (top-byte c.args.word c.ranges.word.fits)
