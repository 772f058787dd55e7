use Rattle.std.proofs.Common.{◌≡◌, Ok, true, length, arith, rules}
use Rattle.std.proofs.lemmas.List.{length-drop}
use Rattle.script_text.proofs.InputLemmas.{read_more, none_more, line_read}
use Rattle.script_text.proofs.input_line.read_beginning.Goals as goal

pub loop-turn-preserved : goal.loop-turn-preserved
loop-turn-preserved g c =
    let some = c.take_some.ensures in
    let old = c.loop-turn.bytes.items in
    let new = c.take_some.new.bytes.items in (
      omega (arith, length-drop (length old) new, some.most, c.loop-turn.invariant.0),
      none_more _ _ some.appends c.loop-turn.invariant.1 (some.goes_on (search rules)),
      read_more _ _ _ _ _ some.appends c.loop-turn.invariant.2 some.bytes,
    )

pub returns-in_err-take_some-clause-goes_on : goal.returns-in_err-take_some-clause-goes_on
returns-in_err-take_some-clause-goes_on g c =
    let some = c.take_some.ensures in
    λ is. none_more _ _ some.appends c.loop-turn.invariant.1 (some.goes_on (search rules))

pub returns-in_err-take_some-clause-bytes : goal.returns-in_err-take_some-clause-bytes
returns-in_err-take_some-clause-bytes g c =
    let some = c.take_some.ensures in
    read_more _ _ _ _ _ some.appends c.loop-turn.invariant.2 some.bytes

pub returns-then-branch-clause-line : goal.returns-then-branch-clause-line
returns-then-branch-clause-line g c =
    let some = c.take_some.ensures in
    let done : c.take_some.result ≡ Ok true = search rules in
    λ is. (line_read _ _ _ _ _ some.appends c.loop-turn.invariant.2 c.loop-turn.invariant.1 some.bytes some.stops
    (some.done done) (some.end done)).0

pub returns-then-branch-clause-rest : goal.returns-then-branch-clause-rest
returns-then-branch-clause-rest g c =
    let some = c.take_some.ensures in
    let done : c.take_some.result ≡ Ok true = search rules in
    λ is. (line_read _ _ _ _ _ some.appends c.loop-turn.invariant.2 c.loop-turn.invariant.1 some.bytes some.stops
    (some.done done) (some.end done)).1

pub returns-then-branch-clause-bytes : goal.returns-then-branch-clause-bytes
returns-then-branch-clause-bytes g c =
    let some = c.take_some.ensures in
    read_more _ _ _ _ _ some.appends c.loop-turn.invariant.2 some.bytes
