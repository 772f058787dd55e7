use Rattle.std.proofs.Common.{arith}
use Rattle.plan_rules.specs.declared.fault.PlanFault.TheVariants.{Range}
use Rattle.plan_rules.proofs.AloneLemmas.{each_rule}
use Rattle.plan_rules.proofs.smallest.keeps.Goals as goal

pub have_virtual_ports-requires : goal.have_virtual_ports-requires
have_virtual_ports-requires c = let below = rw c.in-Port.is at c.requires in below Range (omega arith)

pub returns-in-SharedPort : goal.returns-in-SharedPort
returns-in-SharedPort c = rw c.in-SharedPort.is c.differ-kept-in-SharedPort.ensures

pub returns-in_default : goal.returns-in_default
returns-in_default c =
    each_rule c.args.rule c.args.domains.now c.in_default.not-DomainCount c.in_default.not-NameTwice
    c.in_default.not-SharedPort c.in_default.not-Port c.in_default.not-PortTwice
    c.each_keeps-kept.ensures
