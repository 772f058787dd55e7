use Rattle.std.proofs.Common.{◌≡◌, ℕ, ◌-◌, ◌%◌, ◌<◌, ◌≤◌, ◌∙◌, List, ◌++◌, Ok, length, take, drop, ap, sym, rules}
use Rattle.std.specs.Vec.{with_items}
use Rattle.std.proofs.Math.Seq.{take-append_seam}
use Rattle.node_memory.specs.Bytes.{with_word, with_word_from}
use Rattle.node_memory.specs.Kept.{memory_of}
use Rattle.node_memory.proofs.Kept.{stores}
use Rattle.node_memory.proofs.Writes.{length-with}
use Rattle.node_memory.proofs.memory.Memory.set_word.Goals as goal
use Rattle.node_memory.proofs.memory.Memory.set_word.Goals.{else-offset-len-via-then-offset-len+else-not-reach}
use Rattle.node_memory.proofs.memory.Memory.set_word.Goals.{else-offset-len-via-else-offset-len}

-- what is kept once the word's place is: the same memory, and the place in it
record IsReached (kept : List ℕ) (size offset : ℕ) (memory : List ℕ) : Type 0 where
  same : memory_of kept size ≡ memory
  words : length kept % 4 ≡ 0
  within : length kept ≤ size
  most : size ≤ 65536
  below : offset < length kept

pub returns-clause-stored : goal.returns-clause-stored
returns-clause-stored c =
    let kept = c.else-offset-len.self-inside.kept.items in
    let size = c.else-offset-len.self-inside.size in
    let offset = c.offset_of-offset.result in
    let first = offset - offset % 4 in
    let it : IsReached kept size offset c.args.self.now = elim c.else-offset-len.branch [
      | else-offset-len-via-then-offset-len+else-not-reach w ↦ record {
        same = search rules;
        words = search rules;
        within = search rules;
        most = search rules;
        below = search rules;
      }
      | else-offset-len-via-else-offset-len w ↦ record {
        same = search rules;
        words = search rules;
        within = search rules;
        most = search rules;
        below = search rules;
      }
    ] in
    let written : c.put_word.new.bytes ≡ with_word_from kept first c.args.word =
    c.put_word.ensures ∙ ap (λ (bytes : List ℕ). with_word_from bytes first c.args.word) c.as_mut_slice.ensures.value in
    let at_word =
    stores kept size c.args.address c.args.word offset c.offset_of-offset.ensures.there c.offset_of-offset.ensures.below
    it.words it.within it.most it.below
    ∙ ap (λ (bytes : List ℕ). Ok (memory_of bytes size)) (sym written) in
    let from_memory = ap (λ (memory : List ℕ). with_word memory c.args.address c.args.word) it.same in
    let room : c.else-offset-len.self-inside.kept.len ≡ length c.put_word.new.bytes =
    c.else-offset-len.self-inside.kept.ok.0 ∙ sym (ap length written ∙ length-with kept first c.args.word) in
    let laid : (with_items c.else-offset-len.self-inside.kept c.put_word.new.bytes).items ≡ c.put_word.new.bytes =
    ap (λ n. take n (c.put_word.new.bytes ++ drop (length c.put_word.new.bytes) kept)) room
    ∙ take-append_seam c.put_word.new.bytes (drop (length c.put_word.new.bytes) kept) in
    ap (λ (bytes : List ℕ). Ok (memory_of bytes size)) laid ∙ sym at_word ∙ from_memory
