use Rattle.farm_service.specs.PortMoves.{AreDone, moves_of}
use Rattle.farm_service.proofs.moves.move_ports.Given as goal

-- the Moves of the ports so far
abbrev pub invariant-loop-port : goal.invariant-loop-port
invariant-loop-port l = AreDone (moves_of l.port) l.fn.domain l.went l.domain
