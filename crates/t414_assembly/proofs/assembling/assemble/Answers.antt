use Rattle.std.proofs.Common.{subst}
use Rattle.t414_assembly.specs.Faults.{IsProgramFaultOf}
use Rattle.t414_assembly.proofs.Wrong.{first_line}
use Rattle.t414_assembly.proofs.assembling.assemble.Goals as goal

pub returns-in-Err-Wrong-clause-fault : goal.returns-in-Err-Wrong-clause-fault
returns-in-Err-Wrong-clause-fault c =
    first_line c.args.text.now c.in-Err-Wrong.list
    (subst (IsProgramFaultOf c.args.text.now) c.in-Err-Wrong.field-0-is c.in-Err-Wrong.ensures.faults) c.remove.result
    c.remove.ensures.value
