use Rattle.crossbar.proofs.Lowering.{lowered-connected, driver-lowered, drives-lowered}
use Rattle.crossbar.proofs.laws.inputs_have_numbers.Goals as goal

pub returns : goal.returns
returns c = record { connects = lowered-connected; driver = driver-lowered; driven = drives-lowered }
