use Rattle.std.proofs.Common.{◌≡◌, refl, rules, arith, length, get_or, pos, w64, SFits}
use Rattle.std.proofs.lemmas.Int.{to_z-of_z}
use Rattle.plan_rules.specs.Separate.{Lies}
use Rattle.plan_rules.proofs.SeparateLemmas.{wired_at, four_links}
use Rattle.plan_rules.proofs.parts.node_part.Goals as goal

pub port_at-requires : goal.port_at-requires
port_at-requires c =
    let four : length c.args.node.now.links ≡ 4 = search rules in
    let fits : SFits w64 (get_or c.args.node.now.links 0 (pos 0)) = search rules in
    rw (to_z-of_z w64 _ fits)
    (λ t. wired_at (Lies (pos 0) (pos 31)) c.args.node.now.links 0 (pos 0) c.requires.ports (omega (arith, four)) t)

pub port_at-requires-2 : goal.port_at-requires-2
port_at-requires-2 c =
    let four : length c.args.node.now.links ≡ 4 = search rules in
    let fits : SFits w64 (get_or c.args.node.now.links 1 (pos 0)) = search rules in
    rw (to_z-of_z w64 _ fits)
    (λ t. wired_at (Lies (pos 0) (pos 31)) c.args.node.now.links 1 (pos 0) c.requires.ports (omega (arith, four)) t)

pub port_at-requires-3 : goal.port_at-requires-3
port_at-requires-3 c =
    let four : length c.args.node.now.links ≡ 4 = search rules in
    let fits : SFits w64 (get_or c.args.node.now.links 2 (pos 0)) = search rules in
    rw (to_z-of_z w64 _ fits)
    (λ t. wired_at (Lies (pos 0) (pos 31)) c.args.node.now.links 2 (pos 0) c.requires.ports (omega (arith, four)) t)

pub port_at-requires-4 : goal.port_at-requires-4
port_at-requires-4 c =
    let four : length c.args.node.now.links ≡ 4 = search rules in
    let fits : SFits w64 (get_or c.args.node.now.links 3 (pos 0)) = search rules in
    rw (to_z-of_z w64 _ fits)
    (λ t. wired_at (Lies (pos 0) (pos 31)) c.args.node.now.links 3 (pos 0) c.requires.ports (omega (arith, four)) t)

pub returns : goal.returns
returns c =
    let four : length c.args.node.now.links ≡ 4 = search rules in
    let f0 : SFits w64 (get_or c.args.node.now.links 0 (pos 0)) = search rules in
    let f1 : SFits w64 (get_or c.args.node.now.links 1 (pos 0)) = search rules in
    let f2 : SFits w64 (get_or c.args.node.now.links 2 (pos 0)) = search rules in
    let f3 : SFits w64 (get_or c.args.node.now.links 3 (pos 0)) = search rules in
    let memory : SFits w64 c.args.node.now.memory = search rules in
    rw (
      c.port_at.ensures,
      c.port_at-2.ensures,
      c.port_at-3.ensures,
      c.port_at-4.ensures,
      four_links c.args.node.now.links (pos 0) four,
      to_z-of_z w64 _ f0,
      to_z-of_z w64 _ f1,
      to_z-of_z w64 _ f2,
      to_z-of_z w64 _ f3,
      to_z-of_z w64 _ memory,
    ) refl
