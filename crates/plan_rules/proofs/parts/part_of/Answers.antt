use Rattle.std.proofs.Common.{◌≡◌, rules, arith, length, subst, w64, SFits, ap, sym, ◌∙◌, map, unsigned_abs}
use Rattle.plan_rules.specs.contracts.plan.DomainPlan.{the_view}
use Rattle.plan_rules.specs.Separate.{port_count}
use Rattle.std.proofs.lemmas.Int.{to_z-of_z}
use Rattle.plan_rules.specs.Part.{IsPart, part_of, node_part, host_parts}
use Rattle.plan_rules.proofs.SeparateLemmas.{is_part, part_is, hosts_small, links_small, sizes_of, users_few}
use Rattle.plan_rules.proofs.SeparateLemmas.{ranges_few, are_all_ranges, limit_of}
use Rattle.plan_rules.proofs.parts.part_of.Goals as goal

pub node_parts-requires-clause-sizes : goal.node_parts-requires-clause-sizes
node_parts-requires-clause-sizes c =
    let sep = rw (← c.domain.view_is) at c.requires in
    rw c.as_slice.ensures.value (sizes_of _ sep)

pub node_parts-requires-clause-ports : goal.node_parts-requires-clause-ports
node_parts-requires-clause-ports c =
    let sep = rw (← c.domain.view_is) at c.requires in
    rw c.as_slice.ensures.value (links_small _ sep)

pub host_parts-requires-clause-few : goal.host_parts-requires-clause-few
host_parts-requires-clause-few c =
    let sep = rw (← c.domain.view_is) at c.requires in
    rw c.as_slice-2.ensures.value (users_few _ sep)

pub host_parts-requires-clause-ports : goal.host_parts-requires-clause-ports
host_parts-requires-clause-ports c =
    let sep = rw (← c.domain.view_is) at c.requires in
    rw c.as_slice-2.ensures.value (hosts_small _ sep)

pub port_count-requires-clause-ranges : goal.port_count-requires-clause-ranges
port_count-requires-clause-ranges c =
    let sep = rw (← c.domain.view_is) at c.requires in
    rw c.as_slice-3.ensures.value (are_all_ranges _ sep)

pub port_count-requires-clause-few : goal.port_count-requires-clause-few
port_count-requires-clause-few c =
    let sep = rw (← c.domain.view_is) at c.requires in
    rw c.as_slice-3.ensures.value (ranges_few _ sep)

pub overflow_cast-result : goal.overflow_cast-result
overflow_cast-result c =
    let sep = rw (← c.domain.view_is) at c.requires in
    let fits : SFits w64 c.domain.inside.limit = search rules in
    let limit = limit_of _ sep in
    rw (to_z-of_z w64 _ fits) (search rules)

pub overflow_cast-result-2 : goal.overflow_cast-result-2
overflow_cast-result-2 c =
    let sep = rw (← c.domain.view_is) at c.requires in
    let few = users_few _ sep in
    search rules

pub invariant_of-result : goal.invariant_of-result
invariant_of-result c =
    let sep = rw (← c.domain.view_is) at c.requires in
    let fits : SFits w64 c.domain.inside.limit = search rules in
    let len : c.len.result ≡ length (the_view c.domain.inside).users = omega (arith, c.len.ensures) in
    let made =
    part_is (the_view c.domain.inside) c.port_count.result _ c.len.result c.in_ok-nodes.nodes.items
    c.in_ok-hosts.hosts.items
    (c.port_count.ensures ∙ ap port_count c.as_slice-3.ensures.value) (ap unsigned_abs (to_z-of_z w64 _ fits)) len
    (c.in_ok-nodes.ensures ∙ ap (map node_part) c.as_slice.ensures.value)
    (c.in_ok-hosts.ensures ∙ ap (host_parts 0) c.as_slice-2.ensures.value) in
    subst IsPart (sym made) (is_part (the_view c.domain.inside) sep)

pub returns : goal.returns
returns c =
    let fits : SFits w64 c.domain.inside.limit = search rules in
    let len : c.len.result ≡ length (the_view c.domain.inside).users = omega (arith, c.len.ensures) in
    let made =
    part_is (the_view c.domain.inside) c.port_count.result _ c.len.result c.in_ok-nodes.nodes.items
    c.in_ok-hosts.hosts.items
    (c.port_count.ensures ∙ ap port_count c.as_slice-3.ensures.value) (ap unsigned_abs (to_z-of_z w64 _ fits)) len
    (c.in_ok-nodes.ensures ∙ ap (map node_part) c.as_slice.ensures.value)
    (c.in_ok-hosts.ensures ∙ ap (host_parts 0) c.as_slice-2.ensures.value) in
    made ∙ ap part_of c.domain.view_is
