-- Which processes speak only of words and links that there are. A program has its words from 0 up. The channels of
-- links have the numbers 0 to 3 for the outputs, and 4 to 7 for the inputs.
use Rattle.std.specs.Prelude.{ℕ, ◌+◌, ◌/◌, ◌==◌, ◌&&◌, Bool, true, nat_le, nat_lt}
use Rattle.occam_core.specs.declared.channel.CoreChannel.{CoreChannel}
use Rattle.occam_core.specs.declared.channel.CoreChannel.TheVariants as channel
use Rattle.occam_core.specs.declared.channel.CoreGuard.{CoreGuard}
use Rattle.occam_core.specs.declared.channel.CoreGuard.TheVariants as guard
use Rattle.occam_core.specs.declared.expression.CoreArray.{CoreArray}
use Rattle.occam_core.specs.declared.expression.ElementKind.{ElementKind}
use Rattle.occam_core.specs.declared.expression.ElementKind.TheVariants.{Byte, Word}
use Rattle.occam_core.specs.declared.expression.Expression.{Expression}
use Rattle.occam_core.specs.declared.expression.Expression.TheVariants.{Number, Variable, Element', One', Two', And', Or', Below'}
use Rattle.occam_core.specs.declared.process.CoreProcess.{CoreProcess}
use Rattle.occam_core.specs.declared.process.CoreProcess.TheVariants.{Skip, Stop, Line', Assign, AssignElement, Copy, Channels, Input, InputElement, InputArray, Output, OutputArray, Sequence', Parallel', Choose', If', While', Repeat'}

-- how many words the elements of an array take
abbrev pub words_for : ElementKind → ℕ → ℕ
words_for Word length = length
words_for Byte length = (length + 3) / 4

abbrev pub words_of_array : CoreArray → ℕ
words_of_array array = words_for array.kind array.length

-- each is among the first n words
abbrev pub has_array : ℕ → CoreArray → Bool
has_array n array = nat_le (array.first + words_of_array array) n

abbrev pub has_expression : ℕ → Expression → Bool
has_expression n (Number x) = true
has_expression n (Variable v) = nat_lt v n
has_expression n (Element' array p i) = has_array n array && has_expression n i
has_expression n (One' op p a) = has_expression n a
has_expression n (Two' op p a q b) = has_expression n a && has_expression n b
has_expression n (And' p a q b) = has_expression n a && has_expression n b
has_expression n (Or' p a q b) = has_expression n a && has_expression n b
has_expression n (Below' bound p a) = has_expression n a

-- the links that have the right direction are four from the first one on
abbrev pub has_channel : ℕ → ℕ → CoreChannel → Bool
has_channel n first (channel.Link c) = nat_le first c && nat_lt c (first + 4)
has_channel n first (channel.Inside v) = nat_lt v n
has_channel n first (channel.Element array i) = has_array n array && has_expression n i

abbrev pub has_input : ℕ → CoreChannel → Bool
has_input n c = has_channel n 4 c

abbrev pub has_output : ℕ → CoreChannel → Bool
has_output n c = has_channel n 0 c

abbrev pub has_guard : ℕ → CoreGuard → Bool
has_guard n (guard.Input condition c) = has_expression n condition && has_input n c
has_guard n (guard.Skip condition) = has_expression n condition

-- a loop has a word for its index and the next for the count of its turns; an array is copied from one of as many words
abbrev pub has_process : ℕ → CoreProcess → Bool
has_process n Skip = true
has_process n Stop = true
has_process n (Line' place p a) = has_process n a
has_process n (Assign v e) = nat_lt v n && has_expression n e
has_process n (AssignElement array i e) = has_array n array && has_expression n i && has_expression n e
has_process n (Copy to from) = has_array n to && has_array n from && (words_of_array to == words_of_array from)
has_process n (Channels first count) = nat_le (first + count) n
has_process n (Input c kind v) = has_input n c && nat_lt v n
has_process n (InputElement c array i) = has_input n c && has_array n array && has_expression n i
has_process n (InputArray c array) = has_input n c && has_array n array
has_process n (Output c kind e) = has_output n c && has_expression n e
has_process n (OutputArray c array) = has_output n c && has_array n array
has_process n (Sequence' p a q b) = has_process n a && has_process n b
has_process n (Parallel' p a q b) = has_process n a && has_process n b
has_process n (Choose' condition p a q b) = has_guard n condition && has_process n a && has_process n b
has_process n (If' e p a q b) = has_expression n e && has_process n a && has_process n b
has_process n (While' e p a) = has_expression n e && has_process n a
has_process n (Repeat' v base count p a) =
    nat_lt (v + 1) n && has_expression n base && has_expression n count && has_process n a
