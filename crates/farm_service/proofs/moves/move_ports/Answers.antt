use Rattle.farm_service.proofs.PortMoves.{port_done}
use Rattle.farm_service.proofs.moves.move_ports.Goals as goal

pub loop-port-preserved : goal.loop-port-preserved
loop-port-preserved c =
    port_done c.loop-port.port c.args.domain.now c.loop-port.domain c.move_port.new.domain c.loop-port.went
    c.in_ok-went.field-0 c.loop-port.invariant c.in_ok-went.ensures.done
