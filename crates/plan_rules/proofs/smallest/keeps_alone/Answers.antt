use Rattle.std.proofs.Common.{◌^◌, pos, length, All}
use Rattle.plan_rules.specs.Separate.{IsFrom, Lies, IsName, IsRange, IsPlannedMemory, HasHosts, HasWiredLink}
use Rattle.plan_rules.proofs.AloneLemmas.{of_one}
use Rattle.plan_rules.proofs.smallest.keeps_alone.Goals as goal

pub returns-in-Name : goal.returns-in-Name
returns-in-Name c =
    rw c.in-Name.is
    (of_one (λ d. All (λ u. IsName u.name) d.users) c.args.domain.now c.has_names.ensures)

pub returns-in-Range : goal.returns-in-Range
returns-in-Range c =
    rw c.in-Range.is
    (of_one (λ d. All IsRange d.ranges) c.args.domain.now c.has_ranges.ensures)

pub returns-in-NodeCount : goal.returns-in-NodeCount
returns-in-NodeCount c =
    rw c.in-NodeCount.is
    (of_one (λ d. IsFrom 1 8 (length d.nodes)) c.args.domain.now c.has_node_count.ensures)

pub returns-in-Memory : goal.returns-in-Memory
returns-in-Memory c =
    rw c.in-Memory.is
    (of_one (λ d. All (λ n. IsPlannedMemory n.memory) d.nodes) c.args.domain.now c.has_memory_sizes.ensures)

pub returns-in-HostCount : goal.returns-in-HostCount
returns-in-HostCount c =
    rw c.in-HostCount.is
    (of_one HasHosts c.args.domain.now c.has_host_count.ensures)

pub returns-in-UnwiredNode : goal.returns-in-UnwiredNode
returns-in-UnwiredNode c =
    rw c.in-UnwiredNode.is
    (of_one (λ d. All HasWiredLink d.nodes) c.args.domain.now c.has_wired_nodes.ensures)

pub returns-in-Limit : goal.returns-in-Limit
returns-in-Limit c =
    rw c.in-Limit.is
    (of_one (λ d. Lies (pos 1) (pos (2 ^ 40)) d.limit) c.args.domain.now c.has_limit.ensures)

pub returns-in-RangeCount : goal.returns-in-RangeCount
returns-in-RangeCount c =
    rw c.in-RangeCount.is
    (of_one (λ d. IsFrom 1 4 (length d.ranges)) c.args.domain.now c.has_range_count.ensures)

pub returns-in-UserCount : goal.returns-in-UserCount
returns-in-UserCount c =
    rw c.in-UserCount.is
    (of_one (λ d. IsFrom 1 4 (length d.users)) c.args.domain.now c.has_user_count.ensures)
