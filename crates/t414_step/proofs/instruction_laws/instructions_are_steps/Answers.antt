use Rattle.std.proofs.Common.{◌≡◌, ℕ, List, [], Some, sym, subst}
use Rattle.t414_decode.specs.Meaning.{meaning, read_from}
use Rattle.t414_step.proofs.Instructions.{instruction-steps}
use Rattle.t414_step.proofs.instruction_laws.instructions_are_steps.Goals as goal

pub returns : goal.returns
returns c = record {
  law = λ bytes f k s ls m means there runs none rest.
      instruction-steps c.services_act_on_work.ensures.rest bytes f k s ls m
      (subst (λ (n : ℕ). read_from n bytes ≡ Some (record { function = f; operand = k; rest = [] })) (sym none) means)
      there runs rest;
}
