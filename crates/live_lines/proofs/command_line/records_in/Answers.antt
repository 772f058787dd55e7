use Rattle.std.proofs.Common.{◌∙◌, ap, sym, codes, Some, List, ℕ, Bor}
use Rattle.std.specs.Prelude.{option_map}
use Rattle.clap.specs.Words.{found_of}
use Rattle.clap.proofs.WalkLemmas.{first_value-rows, one_text-rows}
use Rattle.live_lines.proofs.command_line.records_in.Goals as goal

pub returns-in_ok-from_str-in-Some : goal.returns-in_ok-from_str-in-Some
returns-in_ok-from_str-in-Some c =
    let found = found_of c.args.matches.now in (
      sym (first_value-rows (found_of c.args.matches.now) (codes "record")) ∙ sym c.get_str.ensures
          ∙ ap (option_map (λ (s : Bor (List ℕ)). s.now)) c.in-Some.is
          ∙ ap Some (sym c.in_ok-from_str-in-Some.ensures.ok),
      record {
        given = λ is. c.get_flag.ensures.value (one_text-rows found (codes "resume") ∙ is);
        not_given = λ is. c.get_flag.ensures.other (one_text-rows found (codes "resume") ∙ is);
        none = λ is. c.get_flag.ensures.none (one_text-rows found (codes "resume") ∙ is);
      },
      record {
        given = λ is. c.get_flag-in-Some.ensures.value (one_text-rows found (codes "sync") ∙ is);
        not_given = λ is. c.get_flag-in-Some.ensures.other (one_text-rows found (codes "sync") ∙ is);
        none = λ is. c.get_flag-in-Some.ensures.none (one_text-rows found (codes "sync") ∙ is);
      },
    )

pub returns-in-None : goal.returns-in-None
returns-in-None c =
    sym (first_value-rows (found_of c.args.matches.now) (codes "record")) ∙ sym c.get_str.ensures
    ∙ ap (option_map (λ (s : Bor (List ℕ)). s.now)) c.in-None.is
