use Rattle.std.proofs.Common.{◌≤◌, rules, inl, inr, sym, subst, ℕ, Option, IfSome, length, slice_get, string_bytes}
use Rattle.std.proofs.lemmas.Result.{IfOk-weaker}
use Rattle.live_farm.specs.Groups.{LacksNode}
use Rattle.live_farm.proofs.group.UserGroup.lines_of_why.Goals as goal

pub returns : goal.returns
returns g c =
    let group = c.args.self.now in
    let name = c.name-name.result.now in
    let lacks : IfSome (slice_get group.service.now.plan group.domain) (λ d. length d.nodes ≤ c.in-Some.node) =
    search rules in
    IfOk-weaker c.no_node_answer.result _ _
    (λ a is. (
      c.name-name.result.now,
      c.name-name.ensures,
      inr (subst (λ (n : Option ℕ). LacksNode group n name (string_bytes a.text)) (sym c.in-Some.is) (lacks, is)),
    ))
    c.no_node_answer.ensures

pub returns-2 : goal.returns-2
returns-2 g c =
    IfOk-weaker c.why_answer.result _ _
    (λ a is. (c.name-name.result.now, c.name-name.ensures, inl (c.as_str.result.now, search rules, is)))
    c.why_answer.ensures
