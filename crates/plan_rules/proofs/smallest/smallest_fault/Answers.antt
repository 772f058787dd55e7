use Rattle.std.proofs.Common.{◌+◌, inl, inr, get_or, arith}
use Rattle.std.proofs.lemmas.Bool.{both_ways, cases_lt}
use Rattle.plan_rules.specs.Fault.{plan_fault_number}
use Rattle.plan_rules.specs.declared.fault.PlanFault.TheVariants.{Text}
use Rattle.plan_rules.proofs.NumberLemmas.{same_rule, no_rule, every_rule, numbered, rules_in_order}
use Rattle.plan_rules.proofs.smallest.smallest_fault.Goals as goal

pub loop-rule-init : goal.loop-rule-init
loop-rule-init c = λ other less. no_rule c.args.domains.now other less

pub loop-rule-preserved : goal.loop-rule-preserved
loop-rule-preserved c = λ other less. elim (cases_lt (plan_fault_number other) (c.loop-rule.rule-index + 3)) [
  | inl before ↦ c.loop-rule.invariant other before
  | inr here ↦
      let number = numbered c.loop-rule.rule-index (omega arith) in
      same_rule c.args.domains.now (get_or rules_in_order c.loop-rule.rule-index Text) other (omega (arith, number))
      (c.in_ok-keeps.ensures.0 c.if-not-branch.false)
]

pub returns-then-not-branch : goal.returns-then-not-branch
returns-then-not-branch c =
    let number = numbered c.loop-rule.rule-index (omega arith) in (
      λ kept. both_ways _ c.if-not-branch.true (c.in_ok-keeps.ensures.1 kept),
      λ other less. c.loop-rule.invariant other (rw number at less),
    )

pub returns : goal.returns
returns c = every_rule c.args.domains.now (λ other less. c.loop-rule.invariant other (omega arith))
