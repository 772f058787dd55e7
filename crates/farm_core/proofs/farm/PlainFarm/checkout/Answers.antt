use Rattle.std.proofs.Common.{◌≡◌, ◌∙◌, None, Some, Err, Option, IfOk, ap, refl, sym, slice_get, subst}
use Rattle.domain_core.specs.Domain.{DomainValue}
use Rattle.domain_core.specs.Ticket.{fresh_ticket}
use Rattle.domain_core.specs.declared.event.Refusal.TheVariants.{NoSuch}
use Rattle.farm_core.specs.PlainFarm.{node_there}
use Rattle.farm_core.proofs.Plain.{none_at, read_at}
use Rattle.farm_core.proofs.farm.PlainFarm.checkout.Goals as goal

pub returns-in_default-clause-no_such : goal.returns-in_default-clause-no_such
returns-in_default-clause-no_such c =
    let none =
    none_at c.deref.result.now c.args.self.now c.from.result c.args.domain (c.deref.ensures.value ∙ c.self.view_is)
    c.from.ensures c.in_default.ensures.lookup.3 in
    (λ _. ap (λ found. node_there found c.args.node) none, λ _. refl)

-- the domain of the number is the one that is asked
there : (c : goal.After-checkout) → slice_get c.args.self.now c.args.domain ≡ Some c.in-Some.home.now
there c =
    read_at c.deref.result.now c.args.self.now c.from.result c.args.domain c.in-Some.home.now
    (c.deref.ensures.value ∙ c.self.view_is) c.from.ensures c.in-Some.ensures.lookup.3.0 c.in-Some.ensures.lookup.1

pub returns-clause-no_such : goal.returns-clause-no_such
returns-clause-no_such c =
    subst (λ (found : Option DomainValue).
    (c.checkout.result ≡ Err NoSuch → node_there found c.args.node ≡ None)
    × (node_there found c.args.node ≡ None → c.checkout.result ≡ Err NoSuch)) (sym (there c))
    c.checkout.ensures.no_such

pub returns-clause-ticket : goal.returns-clause-ticket
returns-clause-ticket c =
    subst (λ (found : Option DomainValue).
    IfOk c.checkout.result (λ t. (node_there found c.args.node ≡ Some t.start)
    × (t ≡ fresh_ticket c.args.domain c.args.node t.start))) (sym (there c)) c.checkout.ensures.ticket

pub returns-clause-full : goal.returns-clause-full
returns-clause-full c = c.checkout.ensures.full
