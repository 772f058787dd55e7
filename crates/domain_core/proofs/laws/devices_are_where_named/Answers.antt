use Rattle.domain_core.proofs.Wired as wired
use Rattle.domain_core.proofs.laws.devices_are_where_named.Goals as goal

pub returns : goal.returns
returns c = record { law = wired.devices_are_where_named }
