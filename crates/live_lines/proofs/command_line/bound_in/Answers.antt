use Rattle.std.proofs.Common.{◌∙◌, ap, subst, ℕ, List, [], Option}
use Rattle.std.specs.Prelude.{unwrap_or}
use Rattle.clap.specs.Words.{found_of}
use Rattle.clap.proofs.WalkLemmas.{first_value-rows}
use Rattle.live_lines.specs.LiveSettings.{IsSize}
use Rattle.live_lines.proofs.command_line.bound_in.Goals as goal

pub returns-in-Some-clause-said : goal.returns-in-Some-clause-said
returns-in-Some-clause-said c =
    subst (λ (word : List ℕ). IsSize word c.in-Some.bytes)
    (c.text_in-word.ensures
    ∙ ap (λ (given : Option (List ℕ)). unwrap_or given [])
    (first_value-rows (found_of c.args.matches.now) c.args.name.now))
    c.in-Some.ensures.size
