use Rattle.std.proofs.Common.{◌≡◌, ◌++◌, ℕ, List, [], ◌∷◌, Some, length, subst, sym, ap, ◌∙◌, rules}
use Rattle.std.specs.Borrow.{Bor}
use Rattle.plan_rules.specs.Data.{DomainData}
use Rattle.plan_rules.specs.Users.{name_at}
use Rattle.plan_rules.specs.declared.users.UserNumber.{UserNumber}
use Rattle.farm_service.specs.Passes.{SessionValue}
use Rattle.farm_service.specs.Restarts.{AreInOrder}
use Rattle.live_farm.specs.Names.{AreTheirNames}
use Rattle.live_farm.proofs.Members.{each_more, in_order_more}
use Rattle.live_farm.proofs.group.UserGroup.add.Goals as goal

pub invariant_of-self-2 : goal.invariant_of-self-2
invariant_of-self-2 c =
    let group = c.args.self.now in
    let plan = group.service.now.plan in
    let sessions = group.sessions.items in
    let names = group.names.items in
    let name = c.in-Some.name in
    let number = c.number_of-number.result in
    let more : c.push_reserved-2.new.self.items ≡ sessions ++ c.session.result ∷ [] = search rules in
    let longer : c.push_reserved.new.self.items ≡ names ++ name ∷ [] = search rules in
    let domain : number.domain ≡ group.domain = search rules in
    let user : number.user ≡ length names = search rules in
    let whose : record { domain = group.domain; user = length names } ≡ number =
    λ k. record { domain = sym domain k; user = sym user k } in
    let of_plan : c.plan.result.now ≡ plan = search rules in
    let called = subst (λ (p : List DomainData). name_at p number ≡ Some name.now) of_plan c.in-Some.ensures.name in
    let has_name =
    λ (k : ℕ) (n : Bor (List ℕ)). name_at plan (record { domain = group.domain; user = k }) ≡ Some n.now in
    record {
      as_many = search rules;
      there = group.there;
      theirs =
          subst (λ (ss : List SessionValue). AreInOrder group.domain ss) (sym more)
          (in_order_more group.domain sessions c.session.result (search rules) (search rules) group.theirs);
      named =
          subst (λ (ns : List (Bor (List ℕ))). AreTheirNames plan group.domain ns) (sym longer)
          (each_more has_name names name group.named (ap (λ (of : UserNumber). name_at plan of) whose ∙ called));
    }
