-- The codes of the functions and the operations, and how an operand is built from nibbles.
-- Transputer instruction set handbook, direct functions, operations, pfix and nfix.
use Rattle.std.specs.Prelude.{ℕ, ◌-◌, ◌*◌, ◌/◌, ◌%◌, ◌^◌, ◌==◌, List, [], ◌∷◌, Option, Some, None, if◌then◌else◌, slice_index_or, bit_or}
use Rattle.t414_decode.specs.declared.instruction.Function.{Function}
use Rattle.t414_decode.specs.declared.instruction.Function.TheVariants.{Jump, LoadLocalPointer, Prefix, LoadNonLocal, LoadConstant, LoadNonLocalPointer, NegativePrefix, LoadLocal, AddConstant, Call, ConditionalJump, AdjustWorkspace, EqualsConstant, StoreLocal, StoreNonLocal, Operate}
use Rattle.t414_decode.specs.declared.instruction.Operation.{Operation}
use Rattle.t414_decode.specs.declared.instruction.Operation.TheVariants.{Plain, Channel}
use Rattle.t414_decode.specs.declared.instruction.PlainOperation.TheVariants.{Reverse, LoadByte, ByteSubscript, EndProcess, Difference, Add, GeneralCall, Product, GreaterThan, WordSubscript, Subtract, StartProcess, SetError, CheckSubscriptFromZero, StopProcess, LongAdd, StoreLowBack, StoreHighFront, Normalise, LongDivide, LoadPointerToInstruction, StoreLowFront, ExtendToDouble, LoadPriority, Remainder, Return, LoopEnd, TestError, TestProcessorAnalysing, Divide, DisableSkip, LongMultiply, Not, ExclusiveOr, ByteCount, LongShiftRight, LongShiftLeft, LongSum, LongSubtract, RunProcess, ExtendToWord, StoreByte, GeneralAdjustWorkspace, SaveLow, SaveHigh, ShiftRight, ShiftLeft, MinimumInteger, AltStart, AltWait, AltEnd, And, EnableSkip, MoveMessage, Or, CheckSingle, CheckCountFromOne, LongDifference, StoreHighBack, Sum, Multiply, StoreTimer, StopOnError, CheckWord, ClearHaltOnError, SetHaltOnError, TestHaltOnError}
use Rattle.t414_decode.specs.declared.instruction.ChannelOperation.TheVariants.{InputMessage, OutputMessage, OutputByte, OutputWord, ResetChannel, DisableChannel, EnableChannel}

-- the functions by the high nibble from 0 to E; F is opr
abbrev functions : List Function
functions =
    Jump ∷  -- j
    LoadLocalPointer ∷  -- ldlp
    Prefix ∷  -- pfix
    LoadNonLocal ∷  -- ldnl
    LoadConstant ∷  -- ldc
    LoadNonLocalPointer ∷  -- ldnlp
    NegativePrefix ∷  -- nfix
    LoadLocal ∷  -- ldl
    AddConstant ∷  -- adc
    Call ∷  -- call
    ConditionalJump ∷  -- cj
    AdjustWorkspace ∷  -- ajw
    EqualsConstant ∷  -- eqc
    StoreLocal ∷  -- stl
    StoreNonLocal ∷  -- stnl
    []

-- the function of a high nibble
unfoldable pub function_of : ℕ → Function
function_of nibble = slice_index_or functions nibble Operate

-- the operations by their codes
abbrev pub operations : List (ℕ × Operation)
operations =
    (0x00, Plain Reverse) ∷  -- rev
    (0x01, Plain LoadByte) ∷  -- lb
    (0x02, Plain ByteSubscript) ∷  -- bsub
    (0x03, Plain EndProcess) ∷  -- endp
    (0x04, Plain Difference) ∷  -- diff
    (0x05, Plain Add) ∷  -- add
    (0x06, Plain GeneralCall) ∷  -- gcall
    (0x07, Channel InputMessage) ∷  -- in
    (0x08, Plain Product) ∷  -- prod
    (0x09, Plain GreaterThan) ∷  -- gt
    (0x0A, Plain WordSubscript) ∷  -- wsub
    (0x0B, Channel OutputMessage) ∷  -- out
    (0x0C, Plain Subtract) ∷  -- sub
    (0x0D, Plain StartProcess) ∷  -- startp
    (0x0E, Channel OutputByte) ∷  -- outbyte
    (0x0F, Channel OutputWord) ∷  -- outword
    (0x10, Plain SetError) ∷  -- seterr
    (0x12, Channel ResetChannel) ∷  -- resetch
    (0x13, Plain CheckSubscriptFromZero) ∷  -- csub0
    (0x15, Plain StopProcess) ∷  -- stopp
    (0x16, Plain LongAdd) ∷  -- ladd
    (0x17, Plain StoreLowBack) ∷  -- stlb
    (0x18, Plain StoreHighFront) ∷  -- sthf
    (0x19, Plain Normalise) ∷  -- norm
    (0x1A, Plain LongDivide) ∷  -- ldiv
    (0x1B, Plain LoadPointerToInstruction) ∷  -- ldpi
    (0x1C, Plain StoreLowFront) ∷  -- stlf
    (0x1D, Plain ExtendToDouble) ∷  -- xdble
    (0x1E, Plain LoadPriority) ∷  -- ldpri
    (0x1F, Plain Remainder) ∷  -- rem
    (0x20, Plain Return) ∷  -- ret
    (0x21, Plain LoopEnd) ∷  -- lend
    (0x29, Plain TestError) ∷  -- testerr
    (0x2A, Plain TestProcessorAnalysing) ∷  -- testpranal
    (0x2C, Plain Divide) ∷  -- div
    (0x2F, Channel DisableChannel) ∷  -- disc
    (0x30, Plain DisableSkip) ∷  -- diss
    (0x31, Plain LongMultiply) ∷  -- lmul
    (0x32, Plain Not) ∷  -- not
    (0x33, Plain ExclusiveOr) ∷  -- xor
    (0x34, Plain ByteCount) ∷  -- bcnt
    (0x35, Plain LongShiftRight) ∷  -- lshr
    (0x36, Plain LongShiftLeft) ∷  -- lshl
    (0x37, Plain LongSum) ∷  -- lsum
    (0x38, Plain LongSubtract) ∷  -- lsub
    (0x39, Plain RunProcess) ∷  -- runp
    (0x3A, Plain ExtendToWord) ∷  -- xword
    (0x3B, Plain StoreByte) ∷  -- sb
    (0x3C, Plain GeneralAdjustWorkspace) ∷  -- gajw
    (0x3D, Plain SaveLow) ∷  -- savel
    (0x3E, Plain SaveHigh) ∷  -- saveh
    (0x40, Plain ShiftRight) ∷  -- shr
    (0x41, Plain ShiftLeft) ∷  -- shl
    (0x42, Plain MinimumInteger) ∷  -- mint
    (0x43, Plain AltStart) ∷  -- alt
    (0x44, Plain AltWait) ∷  -- altwt
    (0x45, Plain AltEnd) ∷  -- altend
    (0x46, Plain And) ∷  -- and
    (0x48, Channel EnableChannel) ∷  -- enbc
    (0x49, Plain EnableSkip) ∷  -- enbs
    (0x4A, Plain MoveMessage) ∷  -- move
    (0x4B, Plain Or) ∷  -- or
    (0x4C, Plain CheckSingle) ∷  -- csngl
    (0x4D, Plain CheckCountFromOne) ∷  -- ccnt1
    (0x4F, Plain LongDifference) ∷  -- ldiff
    (0x50, Plain StoreHighBack) ∷  -- sthb
    (0x52, Plain Sum) ∷  -- sum
    (0x53, Plain Multiply) ∷  -- mul
    (0x54, Plain StoreTimer) ∷  -- sttimer
    (0x55, Plain StopOnError) ∷  -- stoperr
    (0x56, Plain CheckWord) ∷  -- cword
    (0x57, Plain ClearHaltOnError) ∷  -- clrhalterr
    (0x58, Plain SetHaltOnError) ∷  -- sethalterr
    (0x59, Plain TestHaltOnError) ∷  -- testhalterr
    []

-- the operation that a list has at a code
abbrev pub operation_among : List (ℕ × Operation) → ℕ → Option Operation
operation_among [] code = None
operation_among (entry ∷ entries) code = if code == entry.0 then Some entry.1 else operation_among entries code

-- the operation of a code, if there is one
unfoldable pub operation_of : ℕ → Option Operation
operation_of code = operation_among operations code

-- the operand that a function makes of the one with its nibble put in: pfix moves it up one nibble, nfix its
-- complement; the others use it as it is
abbrev pub shifted : Function → ℕ → ℕ
shifted Prefix joined = (joined * 2 ^ 4) % 2 ^ 32
shifted NegativePrefix joined = ((2 ^ 32 - 1 - joined) * 2 ^ 4) % 2 ^ 32
shifted _ joined = joined

-- the operand after an instruction byte, of the one before it
unfoldable pub accumulated : ℕ → ℕ → ℕ
accumulated operand byte = shifted (function_of (byte / 16)) (bit_or operand (byte % 16))
