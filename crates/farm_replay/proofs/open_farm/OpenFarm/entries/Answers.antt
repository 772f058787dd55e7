use Rattle.std.proofs.Common.{◌<◌, Vec, Global, length, ap, ◌∙◌, subst}
use Rattle.domain_core.specs.declared.journal.Entry.{Entry}
use Rattle.farm_replay.proofs.Entries.{one_more_entry, no_entry_behind}
use Rattle.farm_replay.proofs.open_farm.OpenFarm.entries.Goals as goal
use Rattle.farm_replay.proofs.open_farm.OpenFarm.entries.Goals.{in-Some-get+in_ok-push, in_default-get}

pub loop-index-preserved : goal.loop-index-preserved
loop-index-preserved c =
    let journal = c.in-Some.journal.now.entries in
    let l = c.loop-index in
    let within : l.index < length journal = subst (λ n. l.index < n) c.len-index-end.ensures c.loop-index-test.true in
    elim c.match-get.branch [
      | in-Some-get+in_ok-push w ↦
          one_more_entry journal l.entries.items c.match-get.entries.items l.index c.get.result w.in-Some-get.entry
          within
          c.get.ensures w.in-Some-get.is l.invariant
          (ap (λ (v : Vec Entry Global). v.items) w.entries-is ∙ w.in_ok-push.ensures.items)
      | in_default-get w ↦
          no_entry_behind journal c.match-get.entries.items l.index c.get.result within c.get.ensures
          w.in_default-get.is
    ]
