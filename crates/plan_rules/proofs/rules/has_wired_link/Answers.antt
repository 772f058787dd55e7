use Rattle.std.proofs.Common.{◌≡◌, rules, tests}
use Rattle.std.specs.List.{list_any}
use Rattle.std.proofs.lemmas.Iterator.{YieldsList-from_slice}
use Rattle.std.proofs.lemmas.Iterator.Search.{any_from_yields_List}
use Rattle.plan_rules.specs.Separate.{is_wired}
use Rattle.plan_rules.proofs.RuleLemmas.{some_pass}
use Rattle.plan_rules.proofs.rules.has_wired_link.Goals as goal

pub returns : goal.returns
returns c =
    let found : c.any.result ≡ list_any is_wired c.args.node.now.links =
    any_from_yields_List is_wired _ _ _ c.any.ensures.ran (YieldsList-from_slice c.args.node.now.links cc)
    (λ x b q k. search (rules, tests)) in
    rw found (some_pass is_wired c.args.node.now.links)
