use Rattle.std.proofs.Common.{rules, ◌≡◌, length}
use Rattle.std.specs.Prelude.{slice_get}
use Rattle.farm_records.proofs.Alone.{alike_if, only_domain}
use Rattle.farm_records.proofs.head.is_alike.Goals as goal

pub returns : goal.returns
returns c named =
    let plan = c.args.plan.now in
    let alone = c.args.alone.now in
    let one : length alone ≡ 1 = search rules in
    let parts : c.part.result.now ≡ c.part-2.result.now = search rules in
    let ranges : c.ranges-2.result ≡ c.ranges-3.result = search rules in
    only_domain plan alone c.args.number one c.requires
    (alike_if (slice_get alone 0) (slice_get plan c.args.number) c.part.result.now c.part-2.result.now
    c.ranges-2.result c.ranges-3.result c.part.ensures c.part-2.ensures parts c.ranges-2.ensures.row
    c.ranges-3.ensures.row ranges (c.are_named_alike.ensures named))
