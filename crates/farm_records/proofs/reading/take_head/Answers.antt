use Rattle.std.proofs.Common.{rules, ◌≡◌, ◌<◌, ◌≤◌, ◌+◌, length, [], take, drop, sym, subst, ℕ}
use Rattle.std.proofs.lemmas.List.{nil_from_length}
use Rattle.std.specs.Io.KnownBytes.{Consumes, IsAtEnd}
use Rattle.farm_records.proofs.Consuming.{more_of_the_head, beginning_of}
use Rattle.farm_records.proofs.reading.take_head.Goals as goal

pub returns-then-is_empty : goal.returns-then-is_empty
returns-then-is_empty g c =
    let none : length c.next_line.new.line.items ≡ 0 = search rules in
    let items : c.next_line.new.line.items ≡ [] = nil_from_length c.next_line.new.line.items none in
    let end : IsAtEnd (g.I.Read.remaining c.loop.input) = c.in_ok-next_line.ensures.end items in
    let less : c.loop.taken < length c.args.head.now = search rules in
    beginning_of (g.I.Read.remaining c.args.input.now) (g.I.Read.remaining c.loop.input) c.args.head.now
    c.loop.taken c.loop.invariant.1 end less

pub loop-preserved : goal.loop-preserved
loop-preserved g c =
    let line = c.next_line.new.line.items in
    let left = g.I.Read.remaining in
    let head = c.args.head.now in
    let count : c.len-taken.result ≡ length line = search rules in
    let same : take (length line) (drop c.loop.taken head) ≡ line = search rules in
    let bound : c.loop.taken + c.len-taken.result ≤ length head = search rules in (
      bound,
      subst (λ (n : ℕ). Consumes (left c.args.input.now) (left c.next_line.new.input) (take (c.loop.taken + n) head))
          (sym count)
          (more_of_the_head (left c.args.input.now) (left c.loop.input) (left c.next_line.new.input) head line
          c.loop.taken c.loop.invariant.1 c.in_ok-next_line.ensures.taken same),
    )
