use Rattle.std.proofs.Common.{subst, sym}
use Rattle.token_queue.specs.Passes.{AreItsPasses}
use Rattle.farm_service.proofs.Same.{written_back}
use Rattle.farm_service.proofs.threads.work_all.Goals as goal

pub returns : goal.returns
returns g c = record {
  passes =
      subst (AreItsPasses c.args.service.now.plan c.args.service.now.queue)
      (sym (written_back c.args.passes.now.len c.args.passes.now.items c.as_mut_slice.result.now c.work_each.new.passes
      c.as_mut_slice.ensures.value c.as_mut_slice.ensures.len c.work_each.ensures.each c.work_each.ensures.count))
      c.requires.passes;
}
