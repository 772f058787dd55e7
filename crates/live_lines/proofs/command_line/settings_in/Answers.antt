use Rattle.std.proofs.Common.{◌∙◌, ap, arith, ℕ, List, [], Option, codes}
use Rattle.std.specs.Prelude.{unwrap_or}
use Rattle.std.specs.Str.Parse.{ExplainsUnsignedError, HasUnsignedDigitsIfOk, ParsesUnsigned}
use Rattle.clap.specs.Words.{found_of}
use Rattle.clap.proofs.WalkLemmas.{first_value-rows, one_text-rows}
use Rattle.live_lines.proofs.CommandLine.{number_read}
use Rattle.live_lines.proofs.command_line.settings_in.Goals as goal

pub returns-clause-said : goal.returns-clause-said
returns-clause-said c =
    let found = found_of c.args.matches.now in
    record {
      path =
          c.in_ok-from_str.ensures.ok
          ∙ c.text_in.ensures
          ∙ ap (λ (given : Option (List ℕ)). unwrap_or given []) (first_value-rows found (codes "plan"));
      workers =
          λ text there numeral low high.
          number_read 8 1 8
          (λ bs r. ParsesUnsigned 8 10 bs r × ExplainsUnsignedError 10 bs r × HasUnsignedDigitsIfOk bs r)
          c.get_one.result c.workers_of.result text (omega arith)
          (c.get_one.ensures.value text (one_text-rows found (codes "workers") ∙ there)) (λ u x h. h.0)
          c.workers_of.ensures.given numeral low high;
      quantum =
          λ text there numeral low high.
          number_read 16 1 4096
          (λ bs r. ParsesUnsigned 16 10 bs r × ExplainsUnsignedError 10 bs r × HasUnsignedDigitsIfOk bs r)
          c.get_one-2.result c.quantum_of.result text (omega arith)
          (c.get_one-2.ensures.value text (one_text-rows found (codes "quantum") ∙ there)) (λ u x h. h.0)
          c.quantum_of.ensures.given numeral low high;
      records = c.in_ok-records_in.ensures;
      room = c.in_ok-bound_in.ensures.said;
      record_room = c.in_ok-bound_in-2.ensures.said;
      line_steps = c.in_ok-bound_in-3.ensures.said;
      restart_steps = c.in_ok-bound_in-4.ensures.said;
    }
