-- What is known of a subscript while compiling: it is a constant, or the index of a loop with constant bounds, to which
-- a constant may be added, or from which it may be subtracted.
-- occam 2 reference manual, parallel: that nothing is known of other subscripts is our choice.
use Rattle.std.specs.Prelude.{ℕ, ◌^◌, ◌==◌, List, [], ◌∷◌, Option, Some, None, nat_lt, if◌then◌else◌}
use Rattle.node_memory.specs.Words.{◌⊕◌, ◌⊖◌}
use Rattle.occam_core.specs.declared.expression.Expression.{Expression}
use Rattle.occam_core.specs.declared.expression.Expression.TheVariants.{Number, Variable, Two'}
use Rattle.occam_core.specs.declared.expression.TwoOperation.{TwoOperation}
use Rattle.occam_core.specs.declared.expression.TwoOperation.TheVariants.{Add, Subtract}
use Rattle.occam_uses.specs.declared.subscripts.SubscriptValues.{SubscriptValues}
use Rattle.occam_uses.specs.declared.subscripts.LoopIndex.{LoopIndex}

-- the values of a loop's index: a negative count is an error, so there are none
abbrev pub loop_values : Expression → Expression → Option SubscriptValues
loop_values (Number first) (Number count) =
    Some (record { first = first; count = if nat_lt count (2 ^ 31) then count else 0 })
loop_values _ _ = None

-- the values of a variable by the loops around, whose last is the innermost, or else these
abbrev pub later_values : Option SubscriptValues → List LoopIndex → ℕ → Option SubscriptValues
later_values values [] v = values
later_values values (index ∷ indices) v =
    later_values (if index.variable == v then index.values else values) indices v

abbrev pub index_values : List LoopIndex → ℕ → Option SubscriptValues
index_values indices v = later_values None indices v

abbrev pub variable_values : List LoopIndex → Expression → Option SubscriptValues
variable_values indices (Variable v) = index_values indices v
variable_values indices _ = None

-- what is added to a value by `+ n` or `- n`
abbrev pub offset : TwoOperation → Expression → Option ℕ
offset Add (Number n) = Some n
offset Subtract (Number n) = Some (0 ⊖ n)
offset _ _ = None

abbrev pub moved_values : Option ℕ → Option SubscriptValues → Option SubscriptValues
moved_values (Some by) (Some values) = Some (record { first = values.first ⊕ by; count = values.count })
moved_values _ _ = None

-- the values of a subscript, if they are known
abbrev pub subscript_values : List LoopIndex → Expression → Option SubscriptValues
subscript_values indices (Number n) = Some (record { first = n; count = 1 })
subscript_values indices (Two' op p a q b) = moved_values (offset op b) (variable_values indices a)
subscript_values indices e = variable_values indices e
