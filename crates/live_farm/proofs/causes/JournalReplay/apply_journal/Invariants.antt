use Rattle.live_farm.specs.Whys.{IsFollowed}
use Rattle.live_farm.proofs.causes.JournalReplay.apply_journal.Given as goal

-- the replayed domain has followed pieces of the journal
abbrev pub invariant-loop-piece : goal.invariant-loop-piece
invariant-loop-piece g l =
    IsFollowed l.fn.service.plan l.fn.domain l.fn.session l.self.mark l.self.listed l.self.left l.self.replayed
