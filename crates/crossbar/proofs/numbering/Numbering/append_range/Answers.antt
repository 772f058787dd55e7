use Rattle.std.proofs.Common.{arith}
use Rattle.crossbar.proofs.Numberings.{none_yet, one_more, one_appended, all_ports}
use Rattle.crossbar.proofs.numbering.Numbering.append_range.Goals as goal

pub loop-port-init : goal.loop-port-init
loop-port-init c = none_yet c.args.self.now c.args.range.first

pub push-requires : goal.push-requires
push-requires c =
    one_more c.args.self.now _ c.args.range.first _ c.loop-port.port c.requires.apart c.loop-port.auto.port
    (omega (arith, c.loop-port-test.true, c.loop-port.auto)) c.loop-port.invariant

pub loop-port-preserved : goal.loop-port-preserved
loop-port-preserved c =
    one_appended c.args.self.now _ _ c.args.range.first c.loop-port.port c.loop-port.auto.port c.loop-port.invariant
    c.push.ensures

pub returns : goal.returns
returns c =
    all_ports c.args.self.now _ c.args.range.first c.args.range.last c.loop-port.port
    (c.loop-port.auto.port, c.loop-port.auto.port-end (omega (arith, c.requires.range.0))) c.loop-port-test.false
    c.loop-port.invariant
