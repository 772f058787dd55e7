use Rattle.std.proofs.Common.{◌≡◌, length, rules}
use Rattle.shorthand_lines.specs.QuotedTexts.{TextMeans}
use Rattle.shorthand_lines.proofs.Meanings.{empty_means_nothing}
use Rattle.shorthand_lines.proofs.quoted.quoted_bytes.Goals as goal

pub returns-then-is_empty : goal.returns-then-is_empty
returns-then-is_empty c =
    let bytes = c.in-Some-found.bytes.items in
    let meant : TextMeans c.in-Some.text.now bytes = rw c.in-Some-found.is at c.in_ok-found.ensures in
    let none : length bytes ≡ 0 = search rules in
    empty_means_nothing c.args.quoted.now c.in-Some.text.now bytes c.in-Some.ensures meant none
