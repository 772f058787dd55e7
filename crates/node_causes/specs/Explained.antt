-- What is said of a domain's nodes: why each does no more than it does. The words are our own.
use Rattle.std.specs.Prelude.{◌≡◌, ◌⊎◌, ◌-◌, ◌%◌, ◌++◌, ◌==◌, ◌&&◌, ◌||◌, not, ℕ, suc, Bool, true, false, List, [], ◌∷◌, Option, Some, None, codes, take, is_some, length, slice_get, if◌then◌else◌}
use Rattle.std.specs.Fmt.{decimal}
use Rattle.std.specs.List.{flat_map, list_any}
use Rattle.std.specs.Str.Lines.{lines}
use Rattle.node_memory.specs.Faults.{fault_number}
use Rattle.node_memory.specs.declared.fault.Fault.{Fault}
use Rattle.node_memory.specs.Words.{◌⊕◌, ◌⊖◌}
use Rattle.link_channels.specs.declared.number.LinkNumber.{LinkNumber}
use Rattle.bootstrap.specs.Boot.{code_start}
use Rattle.bootstrap.specs.LinkNumbers.{link_number}
use Rattle.bootstrap.specs.Step.{is_quiet}
use Rattle.bootstrap.specs.declared.node.Node.{Node}
use Rattle.bootstrap.specs.declared.state.Task.{Task}
use Rattle.bootstrap.specs.declared.state.Task.TheVariants.{Poke, Peek, Load}
use Rattle.domain_core.specs.Moments.{MomentValue}
use Rattle.answer_text.specs.Digits.{byte_text}
use Rattle.node_causes.specs.declared.cause.LinkWaits.{LinkWaits}
use Rattle.node_causes.specs.declared.cause.InsideWait.{InsideWait}
use Rattle.node_causes.specs.declared.cause.Cause.{Cause}
use Rattle.node_causes.specs.declared.cause.Cause.TheVariants.{WantsControl, Takes, Answers, Runs, Rests, Halted}
use Rattle.node_causes.specs.Causes.{IsCause, inside_waits}

-- ---- the first line of a node

-- a number of bytes
abbrev pub count_text : ℕ → List ℕ
count_text count = decimal count ++ (if count == 1 then codes " byte" else codes " bytes")

-- a link by its number
abbrev pub link_text : LinkNumber → List ℕ
link_text link = codes "link " ++ decimal (link_number link)

-- how much of what a node takes by a link has come
abbrev pub came_text : List ℕ → LinkNumber → ℕ → ℕ → List ℕ
came_text what link came whole =
    what ++ link_text link ++ codes ": " ++ decimal came ++ codes " of " ++ count_text whole ++ codes " have come"

-- a node takes the bytes of a task
abbrev pub task_text : LinkNumber → Task → List ℕ
task_text link (Poke left address word) = came_text (codes " takes a poke by ") link (8 - left) 8 ++ codes "."
task_text link (Peek left address) = came_text (codes " takes a peek by ") link (4 - left) 4 ++ codes "."
task_text link (Load left address) =
    let came = address ⊖ code_start in
    let whole = came ⊕ left in
    came_text (codes " takes code by ") link came whole
    ++ codes ", as the control byte " ++ byte_text (whole % 256) ++ codes " asks."

-- somebody waits at a link
abbrev pub is_waited : LinkWaits → Bool
is_waited waits = is_some waits.input || (is_some waits.output || is_some waits.watch)

-- nobody waits at any link nor at a channel in memory, so that no process is left
abbrev pub has_ended : List LinkWaits → List InsideWait → Bool
has_ended waits inside = not (list_any is_waited waits) && length inside == 0

-- whether a node waits for a control byte, or takes one that has come
abbrev pub wanting_text : Bool → List ℕ
wanting_text quiet =
    if quiet then codes " waits for a control byte."
    else codes " waits for a control byte, and its next Step takes one."

-- the event in which a node met its fault, if it is known
abbrev pub fault_event_text : Option ℕ → List ℕ
fault_event_text None = []
fault_event_text (Some event) = codes " in event " ++ decimal event

-- a text without its line feeds
abbrev pub in_one_line : List ℕ → List ℕ
in_one_line text = flat_map (λ line. line) (lines text)

-- it answers a peek
abbrev pub answering_text : LinkNumber → ℕ → List ℕ
answering_text link left =
    codes " answers a peek by " ++ link_text link ++ codes ": " ++ count_text left
    ++ codes " more are to be sent when the last one is acknowledged."

-- it has something to do, and has run this many Steps alone
abbrev pub running_text : ℕ → List ℕ
running_text steps = codes " runs, " ++ decimal steps ++ codes " Steps since a packet came or went."

-- no process of it can go on, or none is left
abbrev pub resting_text : Bool → List ℕ
resting_text ended = if ended then codes " has ended: no process is left." else codes " rests."

-- it met a fault, which has these words
abbrev pub halted_text : Fault → Option ℕ → List ℕ → List ℕ
halted_text fault event words =
    codes " halted by fault " ++ decimal (fault_number fault) ++ fault_event_text event ++ codes ": "
    ++ in_one_line words ++ codes "."

-- what a node is doing, by its cause. How many Steps it has run, in which event it met its fault, and the words for
-- this fault may be any
abbrev pub IsDoing : Node → Cause → List ℕ → Type 0
IsDoing n WantsControl text = text ≡ wanting_text (is_quiet n)
IsDoing n (Takes link task) text = text ≡ task_text link task
IsDoing n (Answers link left) text = text ≡ answering_text link left
IsDoing n Runs text = (steps : ℕ) × (text ≡ running_text steps)
IsDoing n (Rests waits) text = text ≡ resting_text (has_ended waits (inside_waits n.memory))
IsDoing n (Halted fault) text = (event : Option ℕ) × (words : List ℕ) × (text ≡ halted_text fault event words)

-- ---- paragraphs

-- a line of what was found: two blanks are before it
abbrev pub found_line : List ℕ → List ℕ
found_line line = codes "  " ++ line ++ codes "\n"

-- a paragraph of this node: its number and what it is doing, and then what was found, in lines of any words
abbrev pub paragraph_text : ℕ → List ℕ → List ℕ → List ℕ
paragraph_text number doing found =
    codes "node " ++ decimal number ++ doing ++ codes "\n" ++ flat_map found_line (lines found)

-- a paragraph of a node, by its cause
pub record IsParagraph (number : ℕ) (n : Node) (text : List ℕ) : Type 0 where
  pub cause : Cause
  pub doing : List ℕ
  pub found : List ℕ
  pub cause_is : IsCause n cause
  pub doing_is : IsDoing n cause doing
  pub text_is : text ≡ paragraph_text number doing found

-- a paragraph of the node of this number, or nothing if there is none
abbrev pub IsOfNode : ℕ → Option Node → List ℕ → Type 0
IsOfNode number None text = text ≡ []
IsOfNode number (Some n) text = IsParagraph number n text

-- a paragraph of each node, in the order of their numbers, from this number on
abbrev pub AreOfNodes : ℕ → List Node → List ℕ → Type 0
AreOfNodes number [] text = text ≡ []
AreOfNodes number (n ∷ others) text =
    (first rest : List ℕ) × IsParagraph number n first × AreOfNodes (suc number) others rest × (text ≡ first ++ rest)

-- that the nodes have long been alone with one another
abbrev pub alone_text : ℕ → ℕ → List ℕ
alone_text since passed =
    codes "Since event " ++ decimal since ++ codes " the nodes have passed " ++ decimal passed
    ++ codes " packets to one another, and no byte came from a host or went to one: it may go on for ever.\n"

-- that is said, or nothing
abbrev pub IsAloneText : List ℕ → Type 0
IsAloneText text = (text ≡ []) ⊎ ((since passed : ℕ) × (text ≡ alone_text since passed))

-- what is said at a moment: of all nodes, which are eight at the most, or of the one that is asked for
abbrev pub IsExplained : MomentValue → Option ℕ → List ℕ → Type 0
IsExplained m None text =
    (paragraphs alone : List ℕ) × AreOfNodes 0 (take 8 m.machine.devices.nodes) paragraphs × IsAloneText alone
    × (text ≡ paragraphs ++ alone)
IsExplained m (Some number) text = IsOfNode number (slice_get m.machine.devices.nodes number) text

-- ---- of a record

-- that the last line of a record is cut, if it is
abbrev pub cut_text : Bool → List ℕ
cut_text true = codes "The last line is cut, and was left out.\n"
cut_text false = []

-- how many events a domain recorded that was led by its record, whether the last line of this is cut, and the causes
abbrev pub led_text : ℕ → Bool → List ℕ → List ℕ
led_text recorded cut causes = codes "after " ++ decimal recorded ++ codes " events\n" ++ cut_text cut ++ causes

-- so it is said at a moment, of all nodes
abbrev pub IsLedText : MomentValue → Bool → List ℕ → Type 0
IsLedText m cut text = (causes : List ℕ) × IsExplained m None causes × (text ≡ led_text m.recorded cut causes)
