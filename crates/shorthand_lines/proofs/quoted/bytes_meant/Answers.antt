use Rattle.std.proofs.Common.{◌≡◌, ◌<◌, ◌++◌, ◌∷◌, [], Some, None, length, rules}
use Rattle.shorthand_lines.specs.Reading.{read_character}
use Rattle.shorthand_lines.proofs.Meanings.{meant_more, meant_nothing, meant_whole}
use Rattle.shorthand_lines.proofs.quoted.bytes_meant.Goals as goal

pub returns-in_default : goal.returns-in_default
returns-in_default c =
    let rest = c.loop-rest.rest.now in
    let some : 0 < length rest = search rules in
    let none : read_character rest ≡ None = search rules in
    meant_nothing c.args.text.now rest c.loop-rest.bytes.items c.loop-rest.invariant some none

pub loop-rest-preserved : goal.loop-rest-preserved
loop-rest-preserved c =
    let rest = c.loop-rest.rest.now in
    let is : read_character rest ≡ Some (c.in-Some.byte, c.in-Some.after.now) = search rules in
    let gained : c.push.new.self.items ≡ c.loop-rest.bytes.items ++ c.in-Some.byte ∷ [] = search rules in
    meant_more c.args.text.now rest c.in-Some.after.now c.loop-rest.bytes.items c.push.new.self.items c.in-Some.byte
    c.loop-rest.invariant is gained

pub returns : goal.returns
returns c =
    let none : length c.loop-rest.rest.now ≡ 0 = search rules in
    meant_whole c.args.text.now c.loop-rest.rest.now c.loop-rest.bytes.items c.loop-rest.invariant none
