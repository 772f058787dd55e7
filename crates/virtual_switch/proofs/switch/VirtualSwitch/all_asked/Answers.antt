use Rattle.virtual_switch.proofs.Driven.{none_asked}
use Rattle.virtual_switch.proofs.switch.VirtualSwitch.all_asked.Goals as goal

pub returns-else-self : goal.returns-else-self
returns-else-self g c = none_asked _
