-- The statements of an expression's code are done by their rows alone, no matter who else is there:
-- for the law of processes.
use Rattle.std.proofs.Common.{◌≡◌, ℕ, ◌+◌, List, [], ◌∷◌, ◌++◌, length, refl, Bool, true, false}
use Rattle.t414_decode.specs.Codes.{operation_of}
use Rattle.t414_assembly.specs.declared.statement.Statement.{Statement}
use Rattle.t414_assembly.specs.declared.statement.Statement.TheVariants.{Instruction}
use Rattle.t414_assembly.specs.Program.{operand_of}
use Rattle.occam_core.specs.declared.expression.ElementKind.{ElementKind}
use Rattle.occam_core.specs.declared.expression.ElementKind.TheVariants as kind
use Rattle.occam_core.specs.declared.expression.Expression.{Expression}
use Rattle.occam_core.specs.declared.expression.Expression.TheVariants.{Number, Variable, Element', One', Two', And', Or', Below'}
use Rattle.occam_core.specs.declared.expression.OneOperation.{OneOperation}
use Rattle.occam_core.specs.declared.expression.OneOperation.TheVariants as one
use Rattle.occam_core.specs.declared.expression.TwoOperation.{TwoOperation}
use Rattle.occam_core.specs.declared.expression.TwoOperation.TheVariants as two
use Rattle.occam_code.specs.declared.frame.FrameWords.{FrameWords}
use Rattle.occam_code.specs.Instructions as asm
use Rattle.occam_code.specs.Words.{is_leaf}
use Rattle.occam_code.specs.Expressions.{after_one, one_code, two_code, subscript_code, load_code, address_code, sides_code, expression_code}
use Rattle.occam_code.specs.Alone.{ByRow, manner_of}

-- a statement is done by its row alone
abbrev pub IsByRow : Statement → Type 0
IsByRow (Instruction f o) = (address : ℕ → ℕ) (next : ℕ) → manner_of f (operand_of address next f o) ≡ ByRow
IsByRow _ = Unit {0}

-- so is each statement of a code
abbrev pub AreByRow : List Statement → Type 0
AreByRow [] = Unit {0}
AreByRow (i ∷ is) = IsByRow i × AreByRow is

-- two codes, one after the other
pub quiet_both : (front back : List Statement) → AreByRow front → AreByRow back → AreByRow (front ++ back)
quiet_both [] back quiet quiet' = quiet'
quiet_both (i ∷ front) back quiet quiet' = (quiet.0, quiet_both front back quiet.1 quiet')

-- the code of an operation on one value
quiet_one : (operation : OneOperation) → AreByRow (one_code operation)
unfolding operation_of
quiet_one one.Negate = ((λ address next. refl), ((λ address next. refl), ((λ address next. refl), tt)))
quiet_one one.Minus = ((λ address next. refl), ((λ address next. refl), ((λ address next. refl), tt)))
quiet_one one.Complement = ((λ address next. refl), tt)
quiet_one one.Not = ((λ address next. refl), tt)

-- the code of an operation on two values
quiet_two : (operation : TwoOperation) → AreByRow (two_code operation)
unfolding operation_of
quiet_two two.Add = ((λ address next. refl), tt)
quiet_two two.Subtract = ((λ address next. refl), tt)
quiet_two two.Multiply = ((λ address next. refl), tt)
quiet_two two.Divide = ((λ address next. refl), tt)
quiet_two two.Remainder = ((λ address next. refl), tt)
quiet_two two.Plus = ((λ address next. refl), tt)
quiet_two two.Minus = ((λ address next. refl), tt)
quiet_two two.Times = ((λ address next. refl), tt)
quiet_two two.BitAnd = ((λ address next. refl), tt)
quiet_two two.BitOr = ((λ address next. refl), tt)
quiet_two two.BitXor = ((λ address next. refl), tt)
quiet_two two.ShiftLeft = ((λ address next. refl), ((λ address next. refl), ((λ address next. refl), tt)))
quiet_two two.ShiftRight = ((λ address next. refl), ((λ address next. refl), ((λ address next. refl), tt)))
quiet_two two.Equal = ((λ address next. refl), ((λ address next. refl), tt))
quiet_two two.NotEqual = ((λ address next. refl), ((λ address next. refl), ((λ address next. refl), tt)))
quiet_two two.Less = ((λ address next. refl), ((λ address next. refl), tt))
quiet_two two.Greater = ((λ address next. refl), tt)
quiet_two two.AtMost = ((λ address next. refl), ((λ address next. refl), tt))
quiet_two two.AtLeast = ((λ address next. refl), ((λ address next. refl), ((λ address next. refl), tt)))

-- an element's address, and its load
quiet_subscript : (element_kind : ElementKind) → IsByRow (subscript_code element_kind)
unfolding operation_of
quiet_subscript kind.Byte = λ address next. refl
quiet_subscript kind.Word = λ address next. refl

quiet_load : (element_kind : ElementKind) → IsByRow (load_code element_kind)
unfolding operation_of
quiet_load kind.Byte = λ address next. refl
quiet_load kind.Word = λ address next. refl

-- csub0
quiet_check : IsByRow asm.csub0
unfolding operation_of
quiet_check = λ address next. refl

-- both sides, the right one first if it is no leaf
quiet_sides : (leaf : Bool) (place : ℕ) (words : FrameWords) (left right : ℕ → FrameWords → List Statement)
    → ((k : ℕ) (w : FrameWords) → AreByRow (left k w)) → ((k : ℕ) (w : FrameWords) → AreByRow (right k w))
    → AreByRow (sides_code leaf place words left right)
quiet_sides true place words left right quiet quiet' =
    quiet_both (left place words) (right (place + length (left place words)) words) (quiet place words)
    (quiet' (place + length (left place words)) words)
quiet_sides false place words left right quiet quiet' =
    let first = right place words in
    let mid = place + length first in
    let second = left (mid + 1) (after_one words) in
    quiet_both first (asm.stl words.temporary ∷ (second ++ asm.ldl words.temporary ∷ [])) (quiet' place words) (
      (λ address next. refl),
      quiet_both second (asm.ldl words.temporary ∷ []) (quiet (mid + 1) (after_one words)) ((λ address next. refl), tt),
    )

-- the code of an expression
pub quiet_expression : (e : Expression) (place : ℕ) (words : FrameWords) → AreByRow (expression_code place words e)
quiet_expression (Number n) place words = ((λ address next. refl), tt)
quiet_expression (Variable v) place words = ((λ address next. refl), tt)
quiet_expression (Element' array p i) place words =
    quiet_both (expression_code place words i) (address_code words.base array ++ load_code array.kind ∷ [])
    (quiet_expression i place words) (
      (λ address next. refl),
      (quiet_check, ((λ address next. refl), (quiet_subscript array.kind, (quiet_load array.kind, tt)))),
    )
quiet_expression (One' operation p a) place words =
    quiet_both (expression_code place words a) (one_code operation) (quiet_expression a place words)
    (quiet_one operation)
quiet_expression (Two' operation p a q b) place words =
    quiet_both
    (sides_code (is_leaf b) place words (λ k w. expression_code k w a) (λ k w. expression_code k w b))
    (two_code operation)
    (quiet_sides (is_leaf b) place words (λ k w. expression_code k w a) (λ k w. expression_code k w b)
    (λ k w. quiet_expression a k w) (λ k w. quiet_expression b k w))
    (quiet_two operation)
quiet_expression (And' p a q b) place words =
    let left = expression_code place words a in
    let start = place + length left + 1 in
    let right = expression_code start words b in
    quiet_both left (asm.cj (start + length right) ∷ right) (quiet_expression a place words)
    ((λ address next. refl), quiet_expression b start words)
quiet_expression (Or' p a q b) place words =
    let left = expression_code place words a in
    let start = place + length left + 2 in
    let right = expression_code start words b in
    quiet_both left
    (asm.eqc 0 ∷ asm.cj (start + length right + 1) ∷ (right ++ asm.eqc 0 ∷ asm.eqc 0 ∷ []))
    (quiet_expression a place words) (
      (λ address next. refl),
      (
        (λ address next. refl),
        quiet_both right (asm.eqc 0 ∷ asm.eqc 0 ∷ []) (quiet_expression b start words)
            ((λ address next. refl), ((λ address next. refl), tt)),
      ),
    )
quiet_expression (Below' bound p a) place words =
    quiet_both (expression_code place words a) (asm.ldc bound ∷ asm.csub0 ∷ []) (quiet_expression a place words)
    ((λ address next. refl), (quiet_check, tt))
