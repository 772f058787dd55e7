-- Statements that are one instruction.
-- Transputer instruction set handbook, direct functions and operations.
use Rattle.std.specs.Prelude.{ℕ}
use Rattle.t414_decode.specs.declared.instruction.Function.{Function}
use Rattle.t414_decode.specs.declared.instruction.Function.TheVariants.{LoadConstant, LoadLocal, StoreLocal, LoadLocalPointer, LoadNonLocal, LoadNonLocalPointer, StoreNonLocal, EqualsConstant, ConditionalJump, Jump, AdjustWorkspace, Operate}
use Rattle.t414_assembly.specs.declared.statement.Operand.TheVariants.{Number, Label, Difference}
use Rattle.t414_assembly.specs.declared.statement.Statement.{Statement}
use Rattle.t414_assembly.specs.declared.statement.Statement.TheVariants.{Instruction}

-- a function of a number
abbrev pub instruction : Function → ℕ → Statement
instruction f n = Instruction f (Number n)

-- a jump to a place
abbrev pub to_place : Function → ℕ → Statement
to_place f place = Instruction f (Label place 0)

-- an operation, by its code
abbrev pub operation : ℕ → Statement
operation n = instruction Operate n

abbrev pub ldc : ℕ → Statement
ldc n = instruction LoadConstant n

-- how far a place is from another, in bytes
abbrev pub ldc_distance : ℕ → ℕ → Statement
ldc_distance place from = Instruction LoadConstant (Difference place from 0)

abbrev pub ldl : ℕ → Statement
ldl word = instruction LoadLocal word

abbrev pub stl : ℕ → Statement
stl word = instruction StoreLocal word

abbrev pub ldlp : ℕ → Statement
ldlp word = instruction LoadLocalPointer word

abbrev pub ldnl : ℕ → Statement
ldnl word = instruction LoadNonLocal word

abbrev pub ldnlp : ℕ → Statement
ldnlp word = instruction LoadNonLocalPointer word

abbrev pub stnl : ℕ → Statement
stnl word = instruction StoreNonLocal word

abbrev pub ajw : ℕ → Statement
ajw words = instruction AdjustWorkspace words

abbrev pub eqc : ℕ → Statement
eqc n = instruction EqualsConstant n

abbrev pub cj : ℕ → Statement
cj place = to_place ConditionalJump place

abbrev pub j : ℕ → Statement
j place = to_place Jump place

abbrev pub rev : Statement
rev = operation 0x00

abbrev pub lb : Statement
lb = operation 0x01

abbrev pub bsub : Statement
bsub = operation 0x02

abbrev pub endp : Statement
endp = operation 0x03

abbrev pub diff : Statement
diff = operation 0x04

abbrev pub add : Statement
add = operation 0x05

abbrev pub «in» : Statement
«in» = operation 0x07

abbrev pub prod : Statement
prod = operation 0x08

abbrev pub gt : Statement
gt = operation 0x09

abbrev pub wsub : Statement
wsub = operation 0x0A

abbrev pub sub : Statement
sub = operation 0x0C

abbrev pub startp : Statement
startp = operation 0x0D

abbrev pub outbyte : Statement
outbyte = operation 0x0E

abbrev pub outword : Statement
outword = operation 0x0F

abbrev pub seterr : Statement
seterr = operation 0x10

abbrev pub csub0 : Statement
csub0 = operation 0x13

abbrev pub stopp : Statement
stopp = operation 0x15

abbrev pub ldpi : Statement
ldpi = operation 0x1B

abbrev pub rem : Statement
rem = operation 0x1F

abbrev pub lend : Statement
lend = operation 0x21

abbrev pub div : Statement
div = operation 0x2C

abbrev pub disc : Statement
disc = operation 0x2F

abbrev pub diss : Statement
diss = operation 0x30

abbrev pub «not» : Statement
«not» = operation 0x32

abbrev pub xor : Statement
xor = operation 0x33

abbrev pub sb : Statement
sb = operation 0x3B

abbrev pub shr : ℕ
shr = 0x40

abbrev pub shl : ℕ
shl = 0x41

abbrev pub mint : Statement
mint = operation 0x42

abbrev pub alt : Statement
alt = operation 0x43

abbrev pub altwt : Statement
altwt = operation 0x44

abbrev pub altend : Statement
altend = operation 0x45

abbrev pub «and» : Statement
«and» = operation 0x46

abbrev pub enbc : Statement
enbc = operation 0x48

abbrev pub enbs : Statement
enbs = operation 0x49

abbrev pub move : Statement
move = operation 0x4A

abbrev pub «or» : Statement
«or» = operation 0x4B

abbrev pub sum : Statement
sum = operation 0x52

abbrev pub mul : Statement
mul = operation 0x53

abbrev pub sethalterr : Statement
sethalterr = operation 0x58
