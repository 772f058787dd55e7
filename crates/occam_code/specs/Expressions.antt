-- The code of expressions.
-- Labels are places: `place` is the number of the first of the statements. `words` says where the words of the frame
-- are, from the workspace of the process: variable v is in word v of those from `base` on, modulo 2 ^ 32, and the first
-- that is free is `temporary`. Word 0 is the process's own.
use Rattle.std.specs.Prelude.{ℕ, ◌+◌, List, [], ◌∷◌, ◌++◌, Bool, true, false, length}
use Rattle.node_memory.specs.Words.{◌⊕◌}
use Rattle.t414_assembly.specs.declared.statement.Statement.{Statement}
use Rattle.occam_core.specs.declared.expression.CoreArray.{CoreArray}
use Rattle.occam_core.specs.declared.expression.ElementKind.{ElementKind}
use Rattle.occam_core.specs.declared.expression.ElementKind.TheVariants as kind
use Rattle.occam_core.specs.declared.expression.Expression.{Expression}
use Rattle.occam_core.specs.declared.expression.Expression.TheVariants.{Number, Variable, Element', One', Two', And', Or', Below'}
use Rattle.occam_core.specs.declared.expression.OneOperation.{OneOperation}
use Rattle.occam_core.specs.declared.expression.OneOperation.TheVariants as one
use Rattle.occam_core.specs.declared.expression.TwoOperation.{TwoOperation}
use Rattle.occam_core.specs.declared.expression.TwoOperation.TheVariants as two
use Rattle.occam_code.specs.declared.frame.FrameWords.{FrameWords}
use Rattle.occam_code.specs.Instructions as asm
use Rattle.occam_code.specs.Words.{is_leaf}

-- the words after one that is kept
abbrev pub after_one : FrameWords → FrameWords
after_one words = record words { temporary = words.temporary ⊕ 1 }

-- an operation on A
abbrev pub one_code : OneOperation → List Statement
one_code one.Negate = asm.ldc 0 ∷ asm.rev ∷ asm.sub ∷ []
one_code one.Minus = asm.ldc 0 ∷ asm.rev ∷ asm.diff ∷ []
one_code one.Complement = asm.not ∷ []
one_code one.Not = asm.eqc 0 ∷ []

-- a shift of B by A places, at most 32
abbrev pub shift_code : ℕ → List Statement
shift_code shift = asm.ldc 33 ∷ asm.csub0 ∷ asm.operation shift ∷ []

-- an operation on B and A, the left and the right value
abbrev pub two_code : TwoOperation → List Statement
two_code two.Add = asm.add ∷ []
two_code two.Subtract = asm.sub ∷ []
two_code two.Multiply = asm.mul ∷ []
two_code two.Divide = asm.div ∷ []
two_code two.Remainder = asm.rem ∷ []
two_code two.Plus = asm.sum ∷ []
two_code two.Minus = asm.diff ∷ []
two_code two.Times = asm.prod ∷ []
two_code two.BitAnd = asm.and ∷ []
two_code two.BitOr = asm.or ∷ []
two_code two.BitXor = asm.xor ∷ []
two_code two.ShiftLeft = shift_code asm.shl
two_code two.ShiftRight = shift_code asm.shr
two_code two.Equal = asm.diff ∷ asm.eqc 0 ∷ []
two_code two.NotEqual = asm.diff ∷ asm.eqc 0 ∷ asm.eqc 0 ∷ []
two_code two.Less = asm.rev ∷ asm.gt ∷ []
two_code two.Greater = asm.gt ∷ []
two_code two.AtMost = asm.gt ∷ asm.eqc 0 ∷ []
two_code two.AtLeast = asm.rev ∷ asm.gt ∷ asm.eqc 0 ∷ []

-- the address of the element at B of the array at A
abbrev pub subscript_code : ElementKind → Statement
subscript_code kind.Byte = asm.bsub
subscript_code kind.Word = asm.wsub

-- the address of an array's element, whose subscript is in A; it is an error if the array has no such element
abbrev pub address_code : ℕ → CoreArray → List Statement
address_code base array =
    asm.ldc array.length ∷ asm.csub0 ∷ asm.ldlp (array.first ⊕ base) ∷ subscript_code array.kind ∷ []

-- the element at A
abbrev pub load_code : ElementKind → Statement
load_code kind.Byte = asm.lb
load_code kind.Word = asm.ldnl 0

-- one code, and then another, which begins where the first ends
abbrev pub then_code : ℕ → List Statement → (ℕ → List Statement) → List Statement
then_code place first second = first ++ second (place + length first)

-- the places of codes, with this number of statements after each
abbrev pub code_places : ℕ → ℕ → List (List Statement) → List ℕ
code_places gap place [] = []
code_places gap place (code ∷ codes) = place ∷ code_places gap (place + length code + gap) codes

-- the right side is evaluated unless A is 0
abbrev pub and_code : ℕ → List Statement → (ℕ → List Statement) → List Statement
and_code place left right =
    let start = place + length left + 1 in
    left ++ asm.cj (start + length (right start)) ∷ right start

-- the right side is evaluated if A is 0
abbrev pub or_code : ℕ → List Statement → (ℕ → List Statement) → List Statement
or_code place left right =
    let start = place + length left + 2 in
    left ++ asm.eqc 0 ∷ asm.cj (start + length (right start) + 1) ∷ (right start ++ asm.eqc 0 ∷ asm.eqc 0 ∷ [])

-- both sides, and an operation on them: a right side that is no leaf comes first, and its value is kept
abbrev pub sides_code : Bool → ℕ → FrameWords → (ℕ → FrameWords → List Statement) → (ℕ → FrameWords → List Statement)
    → List Statement
sides_code true place words left right = then_code place (left place words) (λ k. right k words)
sides_code false place words left right =
    then_code place (right place words)
    (λ k. asm.stl words.temporary ∷ (left (k + 1) (after_one words) ++ asm.ldl words.temporary ∷ []))

-- an expression's code leaves its value in A
abbrev pub expression_code : ℕ → FrameWords → Expression → List Statement
expression_code place words (Number n) = asm.ldc n ∷ []
expression_code place words (Variable v) = asm.ldl (v ⊕ words.base) ∷ []
expression_code place words (Element' array p i) =
    expression_code place words i ++ (address_code words.base array ++ load_code array.kind ∷ [])
expression_code place words (One' op p a) = expression_code place words a ++ one_code op
expression_code place words (Two' op p a q b) =
    sides_code (is_leaf b) place words (λ k w. expression_code k w a) (λ k w. expression_code k w b) ++ two_code op
expression_code place words (And' p a q b) =
    and_code place (expression_code place words a) (λ k. expression_code k words b)
expression_code place words (Or' p a q b) =
    or_code place (expression_code place words a) (λ k. expression_code k words b)
expression_code place words (Below' bound p a) =
    expression_code place words a ++ asm.ldc bound ∷ asm.csub0 ∷ []
