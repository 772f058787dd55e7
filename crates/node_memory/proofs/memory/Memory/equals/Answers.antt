use Rattle.std.proofs.Common.{◌≡◌, ◌<◌, length, sym, ◌∙◌, rules}
use Rattle.std.proofs.Math.Nat.{min-le_left, min-le_right}
use Rattle.node_memory.proofs.Kept.{same_memory, same_size, same_start, same_rest}
use Rattle.node_memory.proofs.memory.Memory.equals.Goals as goal

pub returns-then-self-other-clause-different : goal.returns-then-self-other-clause-different
returns-then-self-other-clause-different c =
    λ e. absurd (c.if-self-other.true (same_size _ _ _ _ c.self.invariant.within c.other.invariant.within
    (c.self.view_is ∙ e ∙ sym c.other.view_is)))

pub returns-then-not-are_same-clause-different : goal.returns-then-not-are_same-clause-different
returns-then-not-are_same-clause-different c =
    λ e.
    let same = c.self.view_is ∙ e ∙ sym c.other.view_is in
    let left = min-le_left c.len.result c.len-2.result in
    let right = min-le_right c.len.result c.len-2.result in
    let start =
    same_start c.self.inside.kept.items c.other.inside.kept.items c.self.inside.size c.other.inside.size
    c.min-both.result (search rules) (search rules) same in
    search rules

pub returns-then-not-are_zero-clause-different : goal.returns-then-not-are_zero-clause-different
returns-then-not-are_zero-clause-different c =
    λ e.
    let same = c.self.view_is ∙ e ∙ sym c.other.view_is in
    let last : c.min-both.result < length c.self.inside.kept.items
    → c.min-both.result ≡ length c.other.inside.kept.items =
    search rules in
    let rest =
    same_rest c.self.inside.kept.items c.other.inside.kept.items c.self.inside.size c.other.inside.size
    c.min-both.result last c.self.invariant.within c.other.invariant.within same in
    search rules

pub returns-clause-equal : goal.returns-clause-equal
returns-clause-equal c =
    λ e.
    let left = min-le_left c.len.result c.len-2.result in
    let right = min-le_right c.len.result c.len-2.result in
    sym c.self.view_is
    ∙ same_memory c.self.inside.kept.items c.other.inside.kept.items c.self.inside.size c.other.inside.size
    c.min-both.result (search rules) (search rules) c.self.invariant.within c.other.invariant.within (search rules)
    (search rules) (search rules) (search rules)
    ∙ c.other.view_is

pub returns-clause-different : goal.returns-clause-different
returns-clause-different c =
    λ e.
    let same = c.self.view_is ∙ e ∙ sym c.other.view_is in
    let last : c.min-both.result < length c.other.inside.kept.items
    → c.min-both.result ≡ length c.self.inside.kept.items =
    search rules in
    let rest =
    same_rest c.other.inside.kept.items c.self.inside.kept.items c.other.inside.size c.self.inside.size
    c.min-both.result last c.other.invariant.within c.self.invariant.within (sym same) in
    search rules
