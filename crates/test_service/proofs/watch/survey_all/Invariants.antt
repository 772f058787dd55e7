use Rattle.farm_service.specs.Services.{IsItsOperator}
use Rattle.test_service.proofs.watch.survey_all.Given as goal

abbrev pub invariant-loop-survey : goal.invariant-loop-survey
invariant-loop-survey l = IsItsOperator l.service l.operator

abbrev pub invariant-loop-output : goal.invariant-loop-output
invariant-loop-output l = IsItsOperator l.service l.operator
