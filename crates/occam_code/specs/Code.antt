-- The code of processes and of programs.
use Rattle.std.specs.Prelude.{ℕ, ◌+◌, ◌-◌, ◌*◌, ◌==◌, zero, suc, List, [], ◌∷◌, ◌++◌, length, map, nat_lt, if◌then◌else◌}
use Rattle.node_memory.specs.Words.{◌⊕◌, ◌⊖◌, ◌⊗◌}
use Rattle.t414_assembly.specs.declared.statement.Operand.TheVariants as operand
use Rattle.t414_assembly.specs.declared.statement.Statement.{Statement}
use Rattle.t414_assembly.specs.declared.statement.Statement.TheVariants.{Word, Align, Space}
use Rattle.occam_core.specs.declared.channel.CoreChannel.{CoreChannel}
use Rattle.occam_core.specs.declared.channel.MessageKind.{MessageKind}
use Rattle.occam_core.specs.declared.channel.MessageKind.TheVariants as message
use Rattle.occam_core.specs.declared.expression.CoreArray.{CoreArray}
use Rattle.occam_core.specs.declared.expression.ElementKind.{ElementKind}
use Rattle.occam_core.specs.declared.expression.ElementKind.TheVariants as kind
use Rattle.occam_core.specs.declared.expression.Expression.{Expression}
use Rattle.occam_core.specs.declared.process.CoreProcess.{CoreProcess}
use Rattle.occam_core.specs.declared.process.CoreProcess.TheVariants.{Skip, Stop, Line', Assign, AssignElement, Copy, Channels, Input, InputElement, InputArray, Output, OutputArray, Sequence', Parallel', Choose', If', While', Repeat'}
use Rattle.occam_code.specs.declared.emission.LineMark.{LineMark}
use Rattle.occam_code.specs.declared.frame.FrameWords.{FrameWords}
use Rattle.occam_code.specs.Instructions as asm
use Rattle.occam_code.specs.Words.{as_word, is_leaf, is_parallel, processes_below, workspace_words}
use Rattle.occam_code.specs.Expressions.{after_one, address_code, then_code, expression_code}
use Rattle.occam_code.specs.Guards.{keep_channel, after_channel, channel_code, guards_of, bodies_place, choose_code}
use Rattle.occam_code.specs.Components.{components, inside, after_component, component_code, component_codes, parallel_code}

-- B to the element at A
abbrev pub store_code : ElementKind → Statement
store_code kind.Byte = asm.sb
store_code kind.Word = asm.stnl 0

-- how many bytes a message has
abbrev pub message_bytes : MessageKind → ℕ
message_bytes message.Byte = 1
message_bytes message.Word = 4

-- a BYTE fills the lowest byte of its word alone
abbrev pub clear_code : MessageKind → ℕ → List Statement
clear_code message.Byte word = asm.ldc 0 ∷ asm.stl word ∷ []
clear_code message.Word word = []

-- a message to a variable
abbrev pub input_code : ℕ → FrameWords → CoreChannel → MessageKind → ℕ → List Statement
input_code place words c message v =
    keep_channel place words c ++ (clear_code message (v ⊕ words.base) ++ asm.ldlp (v ⊕ words.base)
    ∷ (channel_code words c ++ asm.ldc (message_bytes message) ∷ asm.in ∷ []))

-- the bytes of this number of elements, modulo 2 ^ 32
abbrev pub bytes_of : ElementKind → ℕ → ℕ
bytes_of kind.Byte count = count
bytes_of kind.Word count = count ⊗ 4

-- the bytes of an array
abbrev pub array_bytes : CoreArray → ℕ
array_bytes array = bytes_of array.kind array.length

-- the value in a temporary, and then to the element
abbrev pub assign_element_code : ℕ → FrameWords → CoreArray → Expression → Expression → List Statement
assign_element_code place words array i e =
    let value = expression_code place words e in
    value ++ asm.stl words.temporary
    ∷ (expression_code (place + length value + 1) (after_one words) i
    ++ (address_code words.base array ++ asm.ldl words.temporary ∷ asm.rev ∷ store_code array.kind ∷ []))

-- the elements of an array to another
abbrev pub copy_code : ℕ → CoreArray → CoreArray → List Statement
copy_code base to from =
    asm.ldlp (from.first ⊕ base) ∷ asm.ldlp (to.first ⊕ base) ∷ asm.ldc (array_bytes to) ∷ asm.move ∷ []

-- this number of variables become channels by which nothing is sent yet
abbrev pub channels_code : ℕ → ℕ → ℕ → List Statement
channels_code base v zero = []
channels_code base v (suc count) = channels_code base v count ++ asm.mint ∷ asm.stl (v ⊕ count ⊕ base) ∷ []

-- a message to an element
abbrev pub input_element_code : ℕ → FrameWords → CoreChannel → CoreArray → Expression → List Statement
input_element_code place words c array i =
    then_code place (keep_channel place words c)
    (λ k. expression_code k (after_channel words c) i
    ++ (address_code words.base array ++ (channel_code words c ++ asm.ldc (bytes_of array.kind 1) ∷ asm.in ∷ [])))

-- a message of all bytes of an array, by an operation of this code
abbrev pub array_message_code : ℕ → FrameWords → CoreChannel → CoreArray → ℕ → List Statement
array_message_code place words c array n =
    keep_channel place words c
    ++ asm.ldlp (array.first ⊕ words.base)
    ∷ (channel_code words c ++ asm.ldc (array_bytes array) ∷ asm.operation n ∷ [])

-- the operation that sends a value
abbrev pub output_operation : MessageKind → Statement
output_operation message.Byte = asm.outbyte
output_operation message.Word = asm.outword

-- a value to a channel, whose address is loaded first if the value is a leaf
abbrev pub send_code : ℕ → FrameWords → List Statement → MessageKind → Expression → List Statement
send_code place words address message e =
    if is_leaf e
    then address ++ (expression_code (place + length address) words e ++ output_operation message ∷ [])
    else expression_code place words e
    ++ asm.stl words.temporary ∷ (address ++ asm.ldl words.temporary ∷ output_operation message ∷ [])

abbrev pub output_code : ℕ → FrameWords → CoreChannel → MessageKind → Expression → List Statement
output_code place words c message e =
    then_code place (keep_channel place words c)
    (λ k. send_code k (after_channel words c) (channel_code words c) message e)

-- the first process unless A is 0, and then the second
abbrev pub choice_code : ℕ → List Statement → (ℕ → List Statement) → (ℕ → List Statement) → List Statement
choice_code place test first second =
    let start = place + length test + 1 in
    let other = start + length (first start) + 1 in
    test ++ asm.cj other ∷ (first start ++ asm.j (other + length (second other)) ∷ second other)

-- the process again and again, until A is 0 after the test
abbrev pub loop_code : ℕ → List Statement → (ℕ → List Statement) → List Statement
loop_code place test body =
    let start = place + length test + 1 in
    test ++ asm.cj (start + length (body start) + 1) ∷ (body start ++ asm.j place ∷ [])

-- the number of turns, which is an error if it is negative as an INT, is kept in a word
abbrev pub count_code : ℕ → List Statement
count_code word = asm.mint ∷ asm.csub0 ∷ asm.stl word ∷ asm.ldl word ∷ []

-- the end of a loop whose index is in a word
abbrev pub loop_end_code : ℕ → ℕ → ℕ → List Statement
loop_end_code place word body =
    asm.ldlp word ∷ asm.ldc_distance (place + 3) body ∷ asm.lend ∷ []

-- the process as often as the count says
abbrev pub repeat_code : ℕ → ℕ → List Statement → (ℕ → List Statement) → (ℕ → List Statement) → List Statement
repeat_code place word base count body =
    let counted = place + length base + 1 in
    let start = counted + length (count counted) + 5 in
    let end = start + length (body start) in
    base ++ asm.stl word
    ∷ (count counted ++ (count_code (word ⊕ 1)
    ++ asm.cj (end + 3) ∷ (body start ++ loop_end_code end word start)))

abbrev mutual
  -- a process's code
  pub process_code : ℕ → FrameWords → CoreProcess → List Statement
  process_code place words Skip = []
  process_code place words Stop = asm.seterr ∷ []
  process_code place words (Line' at p a) = process_code place words a
  process_code place words (Assign v e) = expression_code place words e ++ asm.stl (v ⊕ words.base) ∷ []
  process_code place words (AssignElement array i e) = assign_element_code place words array i e
  process_code place words (Copy to from) = copy_code words.base to from
  process_code place words (Channels v count) = channels_code words.base v count
  process_code place words (Input c message v) = input_code place words c message v
  process_code place words (InputElement c array i) = input_element_code place words c array i
  process_code place words (InputArray c array) = array_message_code place words c array 0x07
  process_code place words (Output c message e) = output_code place words c message e
  process_code place words (OutputArray c array) = array_message_code place words c array 0x0B
  process_code place words (Sequence' p a q b) =
      then_code place (process_code place words a) (λ k. process_code k words b)
  process_code place words (Parallel' p a q b) =
      parallel_code place words (a ∷ components b)
      (λ k. component_codes k (words.temporary ⊕ 4) (inside words) a (λ i w. process_code i w a)
      (λ i n w. if is_parallel b then parts_codes i n w b else component_code n (process_code i w b) ∷ []))
  process_code place words (Choose' g p a q b) =
      choose_code place words (g ∷ guards_of b)
      (λ k. let first = process_code k words a in first ∷ bodies_codes (k + length first + 1) words b)
  process_code place words (If' e p a q b) =
      choice_code place (expression_code place words e) (λ k. process_code k words a) (λ k. process_code k words b)
  process_code place words (While' e p a) =
      loop_code place (expression_code place words e) (λ k. process_code k words a)
  process_code place words (Repeat' v base count p a) =
      repeat_code place (v ⊕ words.base) (expression_code place words base) (λ k. expression_code k words count)
      (λ k. process_code k words a)

  -- the codes of a PAR's components, whose first has these words
  pub parts_codes : ℕ → ℕ → FrameWords → CoreProcess → List (List Statement)
  parts_codes place next words (Parallel' p a q b) =
      component_codes place next words a (λ i w. process_code i w a)
      (λ i n w. if is_parallel b then parts_codes i n w b else component_code n (process_code i w b) ∷ [])
  parts_codes place next words _ = []

  -- the codes of the processes of an ALT, with a jump after each but the last
  pub bodies_codes : ℕ → FrameWords → CoreProcess → List (List Statement)
  bodies_codes place words (Choose' g p a q b) =
      let first = process_code place words a in first ∷ bodies_codes (place + length first + 1) words b
  bodies_codes place words _ = []

abbrev mutual
  -- the places at which the code of lines begins
  pub process_marks : ℕ → FrameWords → CoreProcess → List LineMark
  process_marks place words (Line' at p a) =
      record { place = place; line = at.line } ∷ process_marks place words a
  process_marks place words (Sequence' p a q b) =
      process_marks place words a
      ++ process_marks (place + length (process_code place words a)) words b
  process_marks place words (Parallel' p a q b) =
      let start = place + 3 * length (components b) + 10 in
      let first = inside words in
      let end = start + length (process_code start first a) + 2 in
      let second = after_component first a in
      process_marks start first a
      ++ (if is_parallel b then parts_marks end second b else process_marks end second b)
  process_marks place words (Choose' g p a q b) =
      let start = bodies_place place words (g ∷ guards_of b) in
      process_marks start words a ++ bodies_marks (start + length (process_code start words a) + 1) words b
  process_marks place words (If' e p a q b) =
      let start = place + length (expression_code place words e) + 1 in
      process_marks start words a
      ++ process_marks (start + length (process_code start words a) + 1) words b
  process_marks place words (While' e p a) =
      process_marks (place + length (expression_code place words e) + 1) words a
  process_marks place words (Repeat' v base count p a) =
      let counted = place + length (expression_code place words base) + 1 in
      process_marks (counted + length (expression_code counted words count) + 5) words a
  process_marks place words _ = []

  -- those in a PAR's components, whose first has these words
  pub parts_marks : ℕ → FrameWords → CoreProcess → List LineMark
  parts_marks place words (Parallel' p a q b) =
      let end = place + length (process_code place words a) + 2 in
      let second = after_component words a in
      process_marks place words a
      ++ (if is_parallel b then parts_marks end second b else process_marks end second b)
  parts_marks place words _ = []

  -- those in the processes of an ALT
  pub bodies_marks : ℕ → FrameWords → CoreProcess → List LineMark
  bodies_marks place words (Choose' g p a q b) =
      process_marks place words a ++ bodies_marks (place + length (process_code place words a) + 1) words b
  bodies_marks place words _ = []

-- by how many words the workspace is moved up: by the three words below it and the words of this number of processes,
-- or, if this number of words of tables is before it, down to them and word 0
abbrev pub workspace_move : ℕ → ℕ → ℕ
workspace_move table_words processes =
    if table_words == 0 then 3 ⊕ processes ⊗ 4 else 0 ⊖ (table_words ⊕ 1)

-- before a process with this number of words of tables, of processes below it, and of words of the frame: its workspace
-- is moved, errors are to halt the node, and if there are more words than the smallest memory has, the last of the
-- frame is stored to
abbrev pub start_code : ℕ → ℕ → ℕ → List Statement
start_code table_words processes words =
    asm.ajw (workspace_move table_words processes) ∷ asm.sethalterr
    ∷ (if nat_lt 512 (words + 4 * processes) then asm.ldc 0 ∷ asm.stl (words - 1) ∷ [] else [])

-- words, as they are
abbrev pub words_code : List ℕ → List Statement
words_code words = map (λ word. Word (operand.Number word)) words

-- the words of tables, after word 0 and the words below it, and the same for each process below the program
abbrev pub tables_code : ℕ → List ℕ → List Statement
tables_code processes [] = []
tables_code processes (word ∷ words) =
    Align 4 ∷ Space ((1 ⊕ processes) ⊗ 16) ∷ words_code (word ∷ words)

-- what comes before the process of a program, which has this number of variables and of words of tables
abbrev pub program_start : ℕ → ℕ → CoreProcess → List Statement
program_start variables table_words p =
    start_code table_words (as_word (processes_below p)) (as_word (workspace_words p variables))

-- the words of a program's own process
abbrev pub program_words : ℕ → FrameWords
program_words variables = record { base = 1; temporary = variables ⊕ 1 }

-- a program with this number of variables, whose first have the words of tables, and its temporaries after them
abbrev pub program_code : ℕ → List ℕ → CoreProcess → List Statement
program_code variables tables p =
    then_code 0 (program_start variables (length tables) p)
    (λ k. process_code k (program_words variables) p
    ++ (asm.stopp ∷ tables_code (as_word (processes_below p)) tables))

abbrev pub program_marks : ℕ → List ℕ → CoreProcess → List LineMark
program_marks variables tables p =
    process_marks (length (program_start variables (length tables) p)) (program_words variables) p
