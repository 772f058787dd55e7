use Rattle.std.proofs.Common.{take}
use Rattle.farm_core.proofs.Opened.{AreOpened}
use Rattle.farm_core.proofs.farm.open_domains.Given as goal

-- the domains so far are as they are opened
abbrev pub invariant-loop-number : goal.invariant-loop-number
invariant-loop-number l = AreOpened (take l.number l.plan) l.domains.items
