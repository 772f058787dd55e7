use Rattle.crossbar.proofs.Numberings.{no_number_past}
use Rattle.crossbar.proofs.numbering.Numbering.virtual_of.Goals as goal

pub returns-else-port-lt-PORTS : goal.returns-else-port-lt-PORTS
returns-else-port-lt-PORTS c =
    no_number_past _ _ _ c.args.port _ c.self.view_is c.self.invariant c.if-port-lt-PORTS.false
