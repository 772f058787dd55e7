use Rattle.std.proofs.Common.{◌≡◌, ◌+◌, ◌∙◌, ◌++◌, ap, sym, subst, arith, ℕ, List}
use Rattle.domain_core.specs.declared.journal.Entry.{Entry}
use Rattle.record_keeping.specs.Counts.{commands_among, IsCountBefore}
use Rattle.record_keeping.proofs.Counting.{counted_on, count_within}
use Rattle.record_keeping.proofs.record.next_reached.Goals as goal

pub overflow_add-result : goal.overflow_add-result
overflow_add-result c =
    let journal = c.args.journal.now.entries in
    let copied = c.copy_since-mark.ensures.copies.copied in
    let on =
    counted_on journal c.args.reached.mark c.copy_since-mark.result copied c.args.reached.commands
    c.copy_since-mark.ensures.copies.events c.requires.commands in
    let within = count_within journal c.copy_since-mark.result (c.args.reached.commands + commands_among copied) on in
    let held : c.as_slice.result.now ≡ copied =
    c.as_slice.ensures.value ∙ c.copy_since-mark.ensures.copies.behind
    ∙ ap (λ (entries : List Entry). entries ++ copied) c.clear.ensures.items in
    let count = c.commands_of_all.ensures ∙ ap (λ (entries : List Entry). commands_among entries) held in
    omega (arith, within, count, c.requires.short)

pub returns-clause-commands : goal.returns-clause-commands
returns-clause-commands c =
    let journal = c.args.journal.now.entries in
    let copied = c.copy_since-mark.ensures.copies.copied in
    let held : c.as_slice.result.now ≡ copied =
    c.as_slice.ensures.value ∙ c.copy_since-mark.ensures.copies.behind
    ∙ ap (λ (entries : List Entry). entries ++ copied) c.clear.ensures.items in
    let count = c.commands_of_all.ensures ∙ ap (λ (entries : List Entry). commands_among entries) held in
    subst (λ (n : ℕ). IsCountBefore journal c.copy_since-mark.result (c.args.reached.commands + n)) (sym count)
    (counted_on journal c.args.reached.mark c.copy_since-mark.result copied c.args.reached.commands
    c.copy_since-mark.ensures.copies.events c.requires.commands)
