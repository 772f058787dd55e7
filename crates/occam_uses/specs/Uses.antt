-- What processes use, in the order of the text, and what two processes may not use at the same time.
-- occam 2 reference manual, parallel: no component uses a variable that another changes, and of a channel one component
-- has each end.
use Rattle.std.specs.Prelude.{ℕ, ◌+◌, ◌-◌, ◌*◌, ◌^◌, ◌&&◌, not, min, max, Bool, true, false, List, [], ◌∷◌, ◌++◌, Option, Some, None, nat_le, nat_lt}
use Rattle.std.specs.List.{list_any, list_all}
use Rattle.occam_core.specs.declared.channel.CoreChannel.{CoreChannel}
use Rattle.occam_core.specs.declared.channel.CoreChannel.TheVariants.{Link, Inside, Element}
use Rattle.occam_core.specs.declared.channel.CoreGuard.{CoreGuard}
use Rattle.occam_core.specs.declared.channel.CoreGuard.TheVariants as guard
use Rattle.occam_core.specs.declared.expression.CoreArray.{CoreArray}
use Rattle.occam_core.specs.declared.expression.ElementKind.{ElementKind}
use Rattle.occam_core.specs.declared.expression.ElementKind.TheVariants.{Byte, Word}
use Rattle.occam_core.specs.declared.expression.Expression.{Expression}
use Rattle.occam_core.specs.declared.expression.Expression.TheVariants.{Number, Variable, Element', One', Two', And', Or', Below'}
use Rattle.occam_core.specs.declared.process.CorePlace.{CorePlace}
use Rattle.occam_core.specs.declared.process.CoreProcess.{CoreProcess}
use Rattle.occam_core.specs.declared.process.CoreProcess.TheVariants.{Line', Assign, AssignElement, Copy, Channels, Input, InputElement, InputArray, Output, OutputArray, Sequence', Parallel', Choose', If', While', Repeat'}
use Rattle.occam_uses.specs.declared.gathering.Elements.{Elements}
use Rattle.occam_uses.specs.declared.subscripts.SubscriptValues.{SubscriptValues}
use Rattle.occam_uses.specs.declared.subscripts.LoopIndex.{LoopIndex}
use Rattle.occam_uses.specs.declared.usage.Usage.{Usage}
use Rattle.occam_uses.specs.declared.usage.UsageWay.{UsageWay}
use Rattle.occam_uses.specs.declared.usage.UsageWay.TheVariants.{Changes, Reads, Sends, Receives}
use Rattle.occam_uses.specs.Subscripts.{subscript_values, loop_values}

-- byte b of variable v has the number 4 * v + b
abbrev pub variable_usage : CorePlace → UsageWay → ℕ → Usage
variable_usage place way v = record { way = way; first = 4 * v; end = 4 * v + 4; is_known = true; place = place }

-- a BYTE is one byte, and an INT or a BOOL is four
abbrev pub element_bytes : ElementKind → ℕ
element_bytes Byte = 1
element_bytes Word = 4

-- an array's elements as bytes
abbrev pub array_elements : CoreArray → Elements
array_elements array =
    record { first = 4 * array.first; size = element_bytes array.kind; count = array.length }

-- the channel of a link has the number of that channel, and variable v is the channel 256 + v
abbrev pub inside_number : ℕ → ℕ
inside_number v = 256 + v

-- an array's elements as channels
abbrev pub channel_elements : CoreArray → Elements
channel_elements array = record { first = inside_number array.first; size = 1; count = array.length }

-- the elements from one up to another, which isn't one of them
abbrev pub part_usage : CorePlace → UsageWay → Elements → Bool → ℕ → ℕ → Usage
part_usage place way elements is_known from to =
    record {
      way = way;
      first = elements.first + elements.size * from;
      end = elements.first + elements.size * to;
      is_known = is_known;
      place = place;
    }

abbrev pub whole_usage : CorePlace → UsageWay → Elements → Usage
whole_usage place way elements = part_usage place way elements true 0 elements.count

-- the elements of a subscript with these values: from the first value on, and those past 2^32 from 0 on. If the values
-- aren't known, it may be any element
abbrev pub element_uses : CorePlace → UsageWay → Elements → Option SubscriptValues → List Usage
element_uses place way elements None = part_usage place way elements false 0 elements.count ∷ []
element_uses place way elements (Some values) =
    let end = values.first + values.count in
    part_usage place way elements true values.first (min end elements.count)
    ∷ part_usage place way elements true 0 (min (end - 2 ^ 32) elements.count)
    ∷ []

abbrev pub expression_uses : CorePlace → List LoopIndex → Expression → List Usage
expression_uses place indices (Number n) = []
expression_uses place indices (Variable v) = variable_usage place Reads v ∷ []
expression_uses place indices (Element' array p i) =
    element_uses place Reads (array_elements array) (subscript_values indices i) ++ expression_uses place indices i
expression_uses place indices (One' op p a) = expression_uses place indices a
expression_uses place indices (Two' op p a q b) = expression_uses place indices a ++ expression_uses place indices b
expression_uses place indices (And' p a q b) = expression_uses place indices a ++ expression_uses place indices b
expression_uses place indices (Or' p a q b) = expression_uses place indices a ++ expression_uses place indices b
expression_uses place indices (Below' bound p a) = expression_uses place indices a

-- an element of an array where it is assigned to or gets a message
abbrev pub target_uses : CorePlace → List LoopIndex → CoreArray → Expression → List Usage
target_uses place indices array i =
    element_uses place Changes (array_elements array) (subscript_values indices i) ++ expression_uses place indices i

-- a channel by which a process sends or receives
abbrev pub channel_uses : CorePlace → List LoopIndex → UsageWay → CoreChannel → List Usage
channel_uses place indices way (Link n) =
    record { way = way; first = n; end = n + 1; is_known = true; place = place } ∷ []
channel_uses place indices way (Inside v) =
    record { way = way; first = inside_number v; end = inside_number v + 1; is_known = true; place = place } ∷ []
channel_uses place indices way (Element array i) =
    element_uses place way (channel_elements array) (subscript_values indices i) ++ expression_uses place indices i

-- channels that are made count as both ends
abbrev pub made_usage : CorePlace → UsageWay → ℕ → ℕ → Usage
made_usage place way first count =
    whole_usage place way (record { first = inside_number first; size = 1; count = count })

abbrev pub guard_uses : CorePlace → List LoopIndex → CoreGuard → List Usage
guard_uses place indices (guard.Input condition channel) =
    expression_uses place indices condition ++ channel_uses place indices Receives channel
guard_uses place indices (guard.Skip condition) = expression_uses place indices condition

-- the index of a loop and the count of its turns, and what its bounds use
abbrev pub loop_uses : CorePlace → List LoopIndex → ℕ → Expression → Expression → List Usage
loop_uses place indices v base count =
    variable_usage place Changes v
    ∷ variable_usage place Changes (v + 1)
    ∷ (expression_uses place indices base ++ expression_uses place indices count)

-- what a process uses apart from the processes in it
abbrev pub own_uses : CorePlace → List LoopIndex → CoreProcess → List Usage
own_uses place indices (Assign v e) = variable_usage place Changes v ∷ expression_uses place indices e
own_uses place indices (AssignElement array i e) =
    target_uses place indices array i ++ expression_uses place indices e
own_uses place indices (Copy to from) =
    whole_usage place Changes (array_elements to) ∷ whole_usage place Reads (array_elements from) ∷ []
own_uses place indices (Channels first count) =
    made_usage place Sends first count ∷ made_usage place Receives first count ∷ []
own_uses place indices (Input channel message v) =
    channel_uses place indices Receives channel ++ variable_usage place Changes v ∷ []
own_uses place indices (InputElement channel array i) =
    channel_uses place indices Receives channel ++ target_uses place indices array i
own_uses place indices (InputArray channel array) =
    channel_uses place indices Receives channel ++ whole_usage place Changes (array_elements array) ∷ []
own_uses place indices (Output channel message e) =
    channel_uses place indices Sends channel ++ expression_uses place indices e
own_uses place indices (OutputArray channel array) =
    channel_uses place indices Sends channel ++ whole_usage place Reads (array_elements array) ∷ []
own_uses place indices (Choose' condition p a q b) = guard_uses place indices condition
own_uses place indices (If' e p a q b) = expression_uses place indices e
own_uses place indices (While' e p a) = expression_uses place indices e
own_uses place indices (Repeat' v base count p a) = loop_uses place indices v base count
own_uses place indices _ = []

-- a loop's index, where its process is looked into
abbrev pub loop_index : ℕ → Expression → Expression → LoopIndex
loop_index v base count = record { variable = v; values = loop_values base count }

-- what a process uses that begins at this place
abbrev pub process_uses : CorePlace → List LoopIndex → CoreProcess → List Usage
process_uses place indices (Line' line p a) = process_uses line indices a
process_uses place indices (Sequence' p a q b) = process_uses place indices a ++ process_uses place indices b
process_uses place indices (Parallel' p a q b) = process_uses place indices a ++ process_uses place indices b
process_uses place indices (Choose' condition p a q b) =
    guard_uses place indices condition ++ (process_uses place indices a ++ process_uses place indices b)
process_uses place indices (If' e p a q b) =
    expression_uses place indices e ++ (process_uses place indices a ++ process_uses place indices b)
process_uses place indices (While' e p a) = expression_uses place indices e ++ process_uses place indices a
process_uses place indices (Repeat' v base count p a) =
    loop_uses place indices v base count ++ process_uses place (indices ++ loop_index v base count ∷ []) a
process_uses place indices p = own_uses place indices p

-- a number from one up to another, which isn't meant
abbrev pub is_between : ℕ → ℕ → ℕ → Bool
is_between first end n = nat_le first n && nat_lt n end

abbrev pub is_same_way : UsageWay → UsageWay → Bool
is_same_way Changes Changes = true
is_same_way Reads Reads = true
is_same_way Sends Sends = true
is_same_way Receives Receives = true
is_same_way _ _ = false

-- the use is made in this way, of this number too
abbrev pub uses_number : UsageWay → ℕ → Usage → Bool
uses_number way n a = is_same_way a.way way && is_between a.first a.end n

-- one of the uses is made in this way, of this number too
abbrev pub has_usage : List Usage → UsageWay → ℕ → Bool
has_usage uses way n = list_any (uses_number way n) uses

-- in which ways two processes may not use the same byte or channel at the same time
abbrev pub are_clashing_ways : UsageWay → UsageWay → Bool
are_clashing_ways Changes Changes = true
are_clashing_ways Changes Reads = true
are_clashing_ways Reads Changes = true
are_clashing_ways Sends Sends = true
are_clashing_ways Receives Receives = true
are_clashing_ways _ _ = false

-- two uses have a byte or a channel in common, in such ways
abbrev pub is_clash : Usage → Usage → Bool
is_clash a b = are_clashing_ways a.way b.way && nat_lt (max a.first b.first) (min a.end b.end)

-- none of the uses clashes with one of the others
abbrev pub are_apart : List Usage → List Usage → Bool
are_apart firsts seconds = list_all (λ b. not (list_any (λ a. is_clash a b) firsts)) seconds

-- what the two sides of each parallel use doesn't clash
abbrev pub is_used_well : CorePlace → List LoopIndex → CoreProcess → Bool
is_used_well place indices (Line' line p a) = is_used_well line indices a
is_used_well place indices (Sequence' p a q b) = is_used_well place indices a && is_used_well place indices b
is_used_well place indices (Parallel' p a q b) =
    is_used_well place indices a && is_used_well place indices b
    && are_apart (process_uses place indices a) (process_uses place indices b)
is_used_well place indices (Choose' condition p a q b) =
    is_used_well place indices a && is_used_well place indices b
is_used_well place indices (If' e p a q b) = is_used_well place indices a && is_used_well place indices b
is_used_well place indices (While' e p a) = is_used_well place indices a
is_used_well place indices (Repeat' v base count p a) =
    is_used_well place (indices ++ loop_index v base count ∷ []) a
is_used_well place indices _ = true
