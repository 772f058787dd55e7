use Rattle.std.specs.Prelude.{◌≡◌, ◌≢◌, ◌-◌, ℕ, List, Some, length, slice_get}
use Rattle.std.proofs.Common.{rules, sym, subst}
use Rattle.farm_records.specs.Records.{RedoesLine}
use Rattle.farm_records.specs.Taking.{TakesLines}
use Rattle.farm_records.proofs.Consuming.{none_yet, one_more, no_line_feed, at_the_end}
use Rattle.farm_records.proofs.reading.redo_lines.Goals as goal

pub loop-number-init : goal.loop-number-init
loop-number-init g c = none_yet (g.I.Read.remaining c.args.input.now) c.args.domain.now

pub loop-number-preserved : goal.loop-number-preserved
loop-number-preserved g c =
    let left = g.I.Read.remaining in
    one_more (left c.args.input.now) (left c.loop-number.input) (left c.next_line.new.input) c.next_line.new.line.items
    c.args.domain.now c.loop-number.domain
    c.redo_line.new.domain c.loop-number.invariant c.in_ok-next_line.ensures.taken
    (subst (λ (bytes : List ℕ). RedoesLine bytes c.loop-number.domain c.redo_line.new.domain)
    c.as_slice-in-loop-number.ensures.value c.in_default.ensures)

pub returns-then-not-is_whole : goal.returns-then-not-is_whole
returns-then-not-is_whole g c =
    let left = g.I.Read.remaining in
    let line = c.next_line.new.line.items in
    let count : c.len-torn.result ≡ length line = search rules in
    let last : slice_get line (length line - 1) ≢ Some 10 = search rules in
    subst (λ (n : ℕ). TakesLines (left c.args.input.now) n c.args.domain.now c.loop-number.domain) (sym count)
    (at_the_end (left c.args.input.now) (left c.loop-number.input) (left c.next_line.new.input)
    line c.args.domain.now c.loop-number.domain c.loop-number.invariant
    c.in_ok-next_line.ensures.taken c.in_ok-take_end.ensures
    (no_line_feed line c.in_ok-next_line.ensures.stops last))
