use Rattle.std.proofs.Common.{◌≡◌, ◌≤◌, ◌+◌, ◌∙◌, ◌++◌, ◌∷◌, [], ℕ, length, rules, arith, ap, sym, subst}
use Rattle.std.proofs.lemmas.List.{length-take-le, length_push}
use Rattle.std.proofs.lemmas.Iterator.Consumers.{YieldsList-end}
use Rattle.std.proofs.lemmas.Iterator.Adapters.{YieldsList-from_vec}
use Rattle.plan_rules.specs.declared.fault.PlanFault.TheVariants.{DomainCount}
use Rattle.farm_service.specs.Endings.{IsEndOf}
use Rattle.farm_service.proofs.Closings.{AreEndsSoFar, ends_more, all_run, whole}
use Rattle.farm_service.proofs.closing.close_domains.Goals as goal

pub overflow_cast-number : goal.overflow_cast-number
overflow_cast-number g c =
    let few = (c.separate_law.ensures.plan DomainCount).1 in
    let rooms = c.loop-lock.invariant.rooms in
    let count = c.loop-lock.invariant.count in
    let is = c.len-number.ensures in
    omega arith

pub loop-lock-preserved : goal.loop-lock-preserved
loop-lock-preserved g c =
    let i = c.loop-lock.invariant in
    let plan = c.args.plan.now in
    let so_far = length c.loop-lock.yielded in
    let number : c.len-number.result ≡ so_far = c.len-number.ensures ∙ i.count in
    let rooms = i.rooms in
    let more : c.push_reserved.new.self.items ≡ c.loop-lock.closed.items ++ c.close_domain.result ∷ [] =
    c.push_reserved.ensures.items in
    let within : so_far ≤ length plan = omega arith in record {
      ends =
          subst (λ (n : ℕ). AreEndsSoFar plan n c.push_reserved.new.self.items)
          (sym (length_push c.loop-lock.yielded c.in-Some.lock))
          (subst (AreEndsSoFar plan (so_far + 1)) (sym more)
          (ends_more plan so_far c.loop-lock.closed.items c.into_inner.result c.close_domain.result i.ends
          (length-take-le so_far plan within)
          (subst (λ (n : ℕ). IsEndOf plan n c.into_inner.result c.close_domain.result)
          number c.close_domain.ensures)));
      count =
          let p = length_push c.loop-lock.yielded c.in-Some.lock in
          let l = c.push_reserved.ensures.len in let n = i.count in omega arith;
      room = search rules;
      rooms =
          let p = length_push c.loop-lock.yielded c.in-Some.lock in
          let q = ap length c.in-Some-pop.ensures.items in
          let r = length_push c.pop.new.self.items c.in-Some-pop.room in
          omega arith;
    }

pub returns-clause-runs : goal.returns-clause-runs
returns-clause-runs g c =
    let end =
    YieldsList-end
    (YieldsList-from_vec {s = c.into_iter-lock-iterator.result} c.args.locks.items (search rules) (search rules))
    c.loop-lock.yielded c.loop-lock.lock-iterator c.loop-lock.yielded_by c.next.result c.next.new.self
    c.in-None.is c.next.ensures.steps in
    let all : length c.args.plan.now ≡ length c.loop-lock.yielded = sym c.requires.locks ∙ sym end.1 in
    let ends =
    whole c.args.plan.now (length c.loop-lock.yielded) c.loop-lock.closed.items all c.loop-lock.invariant.ends in
    all_run c.args.plan.now c.loop-lock.closed.items ends.0 c.each_merge_is_a_run.ensures.domains
    c.each_word_is_of_its_output.ensures.merge
    (c.numbered_domains_are_separate.ensures.law c.args.plan.now
    c.separate_law.ensures.own c.separate_law.ensures.apart)
    ends.1

pub returns-clause-domains : goal.returns-clause-domains
returns-clause-domains g c =
    let end =
    YieldsList-end
    (YieldsList-from_vec {s = c.into_iter-lock-iterator.result} c.args.locks.items (search rules) (search rules))
    c.loop-lock.yielded c.loop-lock.lock-iterator c.loop-lock.yielded_by c.next.result c.next.new.self
    c.in-None.is c.next.ensures.steps in
    let all : length c.args.plan.now ≡ length c.loop-lock.yielded = sym c.requires.locks ∙ sym end.1 in
    let ends =
    whole c.args.plan.now (length c.loop-lock.yielded) c.loop-lock.closed.items all c.loop-lock.invariant.ends in
    record {
      numbers = ends.1.numbers;
      words = ends.1.counts;
    }
