use Rattle.std.proofs.Common.{◌≡◌, ◌≤◌, take, vec_len, vec_capacity}
use Rattle.farm_service.proofs.closing.output_words.Given as goal

-- the words so far
abbrev pub invariant-loop-output : goal.invariant-loop-output
invariant-loop-output l = record {
  same : l.domain ≡ l.fn.domain;
  so_far : l.words.items ≡ take l.output l.fn.domain.machine.switch.words;
  count : vec_len l.words ≡ l.output;
  room : 32 ≤ vec_capacity l.words;
}
