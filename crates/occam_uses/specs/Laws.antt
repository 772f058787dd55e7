-- What uses say: what an expression is worth, and what processes that run at the same time have in common.
use Rattle.std.specs.Prelude.{ℕ, ◌≡◌, ◌^◌, ◌<◌, ◌↔◌, ⊤, true, List, [], ◌∷◌, Option, Some, None, slice_index}
use Rattle.node_memory.specs.Words.{◌⊕◌}
use Rattle.occam_core.specs.declared.expression.ElementKind.TheVariants.{Byte}
use Rattle.occam_core.specs.declared.expression.Expression.{Expression}
use Rattle.occam_core.specs.declared.process.CorePlace.{CorePlace}
use Rattle.occam_core.specs.Values.{element, value}
use Rattle.occam_uses.specs.declared.subscripts.SubscriptValues.{SubscriptValues}
use Rattle.occam_uses.specs.declared.subscripts.LoopIndex.{LoopIndex}
use Rattle.occam_uses.specs.declared.usage.Usage.{Usage}
use Rattle.occam_uses.specs.declared.usage.UsageWay.{UsageWay}
use Rattle.occam_uses.specs.declared.usage.UsageWay.TheVariants.{Reads}
use Rattle.occam_uses.specs.Uses.{expression_uses, has_usage, are_clashing_ways, are_apart}

-- the variables of a store are words
abbrev pub IsOfWords : List ℕ → Type 0
IsOfWords σ = (v : ℕ) → slice_index σ v < 2 ^ 32

-- a word is one of the values
abbrev pub IsOneOf : Option SubscriptValues → ℕ → Type 0
IsOneOf None x = ⊤
IsOneOf (Some values) x = (k : ℕ) × (values.first < 2 ^ 32) × (k < values.count) × (x ≡ values.first ⊕ k)

-- the index of each loop has one of its values
abbrev pub IsInLoops : List LoopIndex → List ℕ → Type 0
IsInLoops [] σ = ⊤
IsInLoops (index ∷ indices) σ = IsOneOf index.values (slice_index σ index.variable) × IsInLoops indices σ

-- two stores have the same bytes where some uses read
abbrev pub AgreeWhereRead : List Usage → List ℕ → List ℕ → Type 0
AgreeWhereRead uses σ τ = (n : ℕ) → has_usage uses Reads n ≡ true → element Byte 0 σ n ≡ element Byte 0 τ n

-- what an expression is worth depends on the bytes alone that it reads
abbrev pub ValueIsOfWhatIsRead : Type 0
ValueIsOfWhatIsRead =
    (place : CorePlace) (indices : List LoopIndex) (e : Expression) (σ τ : List ℕ) → IsOfWords σ → IsOfWords τ
    → IsInLoops indices σ → AgreeWhereRead (expression_uses place indices e) σ τ → value e σ ≡ value e τ

-- uses are apart exactly if no byte and no channel is used by both in ways that clash
abbrev pub ApartUsesShareNothing : Type 0
ApartUsesShareNothing =
    (firsts seconds : List Usage)
    → (are_apart firsts seconds ≡ true)
    ↔ ((way other : UsageWay) (n : ℕ) → are_clashing_ways way other ≡ true → has_usage firsts way n ≡ true
    → ¬ (has_usage seconds other n ≡ true))
