use Rattle.std.proofs.Common.{◌≡◌, ◌+◌, ◌<◌, Ok, slice_get, sym, ap, ◌∙◌, subst, arith, rules}
use Rattle.std.proofs.lemmas.Option.{none-some}
use Rattle.domain_core.specs.declared.domain.Committed.{Committed}
use Rattle.domain_core.specs.Ticket.{TicketValue, fresh_ticket, steps_told}
use Rattle.farm_core.specs.PlainFarm.{IsCommittedAt}
use Rattle.farm_replay.proofs.Bursting.{without_last, rests}
use Rattle.farm_replay.proofs.Grown.{steps_run, no_steps_run, none_told}
use Rattle.farm_replay.proofs.bursts.try_burst.Goals as goal

pub returns-in_default-2 : goal.returns-in_default-2
returns-in_default-2 g c =
    let committed =
    subst (λ (told : Committed).
    IsCommittedAt c.run_ticket.new.ticket (Ok told) (slice_get c.args.farm.now c.args.domain)
    (slice_get c.commit.new.self c.args.domain))
    c.in-Done.is c.in_ok-commit.ensures.own in
    record {
      steps =
          no_steps_run c.each_call_is_private.ensures.call c.args.domain c.args.farm.now c.commit.new.self
          c.run_ticket.new.ticket
          (record {
            separate = c.whole_law.ensures.separate;
            before = c.whole_law.ensures.meant;
            now = c.whole_law-2.ensures.meant;
            places = c.commit.ensures.places;
            others = c.commit.ensures.others;
          })
          committed
          (none_told c.run_ticket.new.ticket.number c.run_ticket.new.ticket.steps c.run_ticket.new.ticket.last
          (search rules));
      none =
          λ is. rests c.args.most c.args.domain c.args.node (slice_get c.args.farm.now c.args.domain)
          c.in_ok-ticket.ticket c.run_ticket.new.ticket c.in_ok-ticket.ensures.ticket.0 c.in_ok-ticket.ensures.ticket.1
          c.in_ok-run_ticket.ensures.steps (search rules);
      unchanged = tt;
    }

pub returns-in_default-2-2 : goal.returns-in_default-2-2
returns-in_default-2-2 g c =
    let committed =
    subst (λ (told : Committed).
    IsCommittedAt c.run_ticket.new.ticket (Ok told) (slice_get c.args.farm.now c.args.domain)
    (slice_get c.commit.new.self c.args.domain))
    c.in-Done.is c.in_ok-commit.ensures.own in
    record {
      steps =
          no_steps_run c.each_call_is_private.ensures.call c.args.domain c.args.farm.now c.commit.new.self
          c.run_ticket.new.ticket
          (record {
            separate = c.whole_law.ensures.separate;
            before = c.whole_law.ensures.meant;
            now = c.whole_law-2.ensures.meant;
            places = c.commit.ensures.places;
            others = c.commit.ensures.others;
          })
          committed
          (ap (steps_told c.run_ticket.new.ticket.number c.run_ticket.new.ticket.steps)
          (sym c.last-last.ensures ∙ c.in_default-2.is-0));
      none =
          λ is. rests c.args.most c.args.domain c.args.node (slice_get c.args.farm.now c.args.domain)
          c.in_ok-ticket.ticket c.run_ticket.new.ticket c.in_ok-ticket.ensures.ticket.0 c.in_ok-ticket.ensures.ticket.1
          c.in_ok-run_ticket.ensures.steps
          (without_last c.args.most c.in_ok-ticket.ticket c.run_ticket.new.ticket c.in_ok-run_ticket.ensures.steps
          (ap (λ (t : TicketValue). t.steps) c.in_ok-ticket.ensures.ticket.1)
          (sym c.last-last.ensures ∙ c.in_default-2.is-0));
      unchanged = tt;
    }

pub returns : goal.returns
returns g c =
    let committed =
    subst (λ (told : Committed).
    IsCommittedAt c.run_ticket.new.ticket (Ok told) (slice_get c.args.farm.now c.args.domain)
    (slice_get c.commit.new.self c.args.domain))
    c.in-Done.is c.in_ok-commit.ensures.own in
    let fresh : c.in_ok-ticket.ticket ≡ fresh_ticket c.args.domain c.args.node c.in_ok-ticket.ticket.start =
    c.in_ok-ticket.ensures.ticket.1 in
    let none : c.in_ok-ticket.ticket.steps ≡ 0 = ap (λ (t : TicketValue). t.steps) fresh in
    let count : c.run_ticket.new.ticket.steps ≡ c.in-Some-Some.before + 1 =
    omega (arith, c.steps-steps.ensures, c.in-Some-Some.ensures.0, c.in-Some-Some.ensures.1) in
    let most : c.in-Some-Some.before < c.args.most = omega (arith, count, none, c.run_ticket.ensures.most) in
    record {
      steps = (
        most,
        steps_run c.each_call_is_private.ensures.call c.args.domain c.args.node c.in-Some-Some.before
            c.in-Some-Some.last c.args.farm.now c.commit.new.self c.run_ticket.new.ticket
            (record {
              separate = c.whole_law.ensures.separate;
              before = c.whole_law.ensures.meant;
              now = c.whole_law-2.ensures.meant;
              places = c.commit.ensures.places;
              others = c.commit.ensures.others;
            })
            committed
            (c.run_ticket.ensures.number ∙ ap (λ (t : TicketValue). t.number) fresh) count
            (sym c.last-last.ensures ∙ c.in-Some-Some.is-0),
      );
      none = λ is. absurd (none-some (record { before = c.in-Some-Some.before; last = c.in-Some-Some.last }) (sym is));
      unchanged = tt;
    }
