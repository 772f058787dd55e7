use Rattle.std.proofs.Common.{List, map, refl, subst, string_bytes}
use Rattle.script_lines.specs.declared.script.ScriptLine.{ScriptLine}
use Rattle.farm_program.specs.Screens.{AreScreens}
use Rattle.farm_program.proofs.Alone.{all_alone}
use Rattle.farm_program.proofs.answering.screens_of.Goals as goal

pub returns-clause-output : goal.returns-clause-output
returns-clause-output g c =
    let plan = c.in_ok-plan.plan in
    let closed = c.in_ok-ended.ended.closed.domains.items in
    let screens = map string_bytes c.in_ok-ended.ended.screens.items in
    let accepted = c.in_ok-plan.ensures.plan in
    let runs = c.in_ok-ended.ensures.runs in record {
      plan = plan;
      asked = c.in_ok-asked.asked.items;
      closed = closed;
      screens = screens;
      text_of = (
        c.divide_at_plan_end-parts.result.plan.now,
        c.divide_at_plan_end-parts.result.rest.now,
        c.divide_at_plan_end-parts.ensures.parts,
        (accepted, c.in_ok-asked.ensures.asked),
      );
      domains = c.in_ok-ended.ensures.domains;
      alone = all_alone plan closed c.each_domain_of_a_plan_is_private.ensures.told accepted.1 runs;
      askers = c.in_ok-ended.ensures.asked;
      runs = runs;
      shown =
          subst (λ (lines : List ScriptLine). AreScreens plan lines closed screens)
          c.as_slice.ensures.value c.in_ok-ended.ensures.screens;
      whole = refl;
    }
