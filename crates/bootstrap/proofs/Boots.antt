-- The bytes of a boot message, for the law `boot_loads_the_code`.
use Rattle.std.proofs.Common.{◌≡◌, ℕ, ◌+◌, ◌-◌, ◌*◌, ◌/◌, ◌^◌, ◌==◌, ◌<◌, ◌≤◌, true, false, List, [], ◌∷◌}
use Rattle.std.proofs.Common.{length, None, refl, ◌∙◌, ap, sym, subst, arith}
use Rattle.std.proofs.lemmas.Bool.Decides.{nat_tests}
use Rattle.std.specs.Prelude.{nat_lt}
use Rattle.node_memory.specs.Bytes.{with_byte}
use Rattle.node_memory.specs.Laws.{WordIsRead, OtherWordsStay, WordKeepsTheSize}
use Rattle.node_memory.specs.Laws.{ByteIsRead, OtherBytesStay, ByteKeepsTheSize}
use Rattle.node_memory.specs.Words.{◌⊕◌, aligned}
use Rattle.link_channels.specs.Links.{at, input_channel}
use Rattle.link_channels.specs.declared.link.FourLinks.{FourLinks}
use Rattle.link_channels.specs.declared.number.LinkNumber.{LinkNumber}
use Rattle.t414_step.specs.declared.cpu.Cpu.{Cpu}
use Rattle.t414_step.specs.Registers.{started}
use Rattle.bootstrap.specs.Boot.{code_start, or_kept, freed, begun}
use Rattle.bootstrap.specs.Delivered.{AwaitsMessage, Boots, HoldsCode, boot_registers}
use Rattle.bootstrap.specs.Delivered.{bytes_delivered, delivery_answers}
use Rattle.bootstrap.specs.LinkNumbers.{link_number}
use Rattle.bootstrap.specs.Messages.{boot_bytes}
use Rattle.bootstrap.specs.Step.{task_of}
use Rattle.bootstrap.specs.declared.node.Node.{Node}
use Rattle.bootstrap.specs.declared.state.NodeState.TheVariants.{WantsControl, Takes, Runs}
use Rattle.bootstrap.specs.declared.state.Task.{Task}
use Rattle.bootstrap.specs.declared.state.Task.TheVariants.{Load}
use Rattle.bootstrap.proofs.Delivering.{Delivers, DeliversAll, none-delivered, one-delivered, clear_node}
use Rattle.bootstrap.proofs.Delivering.{clear-links, clear-memory, control-delivered, code-delivered, whole-delivered}
use Rattle.bootstrap.proofs.Stored.{stored_from, holds-code}

-- a node that takes that many bytes of code, and one that runs code which ends there
abbrev loading : LinkNumber → List ℕ → FourLinks → ℕ → ℕ → Node
loading link m ls left address = clear_node link m ls (Takes link (Load left address))

abbrev begun_node : LinkNumber → List ℕ → FourLinks → ℕ → Node
begun_node link m ls end = clear_node link (freed 9 m) ls (Runs (begun link end))

many : (left : ℕ) → 1 < left → nat_lt 1 left ≡ true
many left more = grind (arith, nat_tests)

few : (left : ℕ) → left ≤ 1 → nat_lt 1 left ≡ false
few left less = grind (arith, nat_tests)

-- the next address, which doesn't wrap
next-address : (address : ℕ) → address + 1 < 2 ^ 32 → address ⊕ 1 ≡ address + 1
next-address address below = omega arith

-- all bytes of code, one after another
all-loaded : (link : LinkNumber) (ls : FourLinks) (bytes : List ℕ) (m : List ℕ) (left address : ℕ) → 0 < length bytes
    → left ≡ length bytes → address + length bytes < 2 ^ 32
    → DeliversAll link bytes (loading link m ls left address)
    (begun_node link (stored_from bytes address m) ls (address + length bytes))
all-loaded link ls [] m left address some is fits = absurd (omega arith)
all-loaded link ls (byte ∷ []) m left address some is fits =
    let k = or_kept (with_byte m address byte) m in
    let end : address ⊕ 1 ≡ address + 1 = next-address address (omega arith) in
    let last : Delivers link byte (loading link m ls left address) (begun_node link k ls (address + 1)) =
    subst (λ (e : ℕ). Delivers link byte (loading link m ls left address) (begun_node link k ls e)) end
    (whole-delivered link byte m ls left address (few left (omega arith))) in
    one-delivered link byte [] (loading link m ls left address) (begun_node link k ls (address + 1))
    (begun_node link k ls (address + 1)) last
    (none-delivered link (begun_node link k ls (address + 1)))
all-loaded link ls (byte ∷ other ∷ bytes) m left address some is fits =
    let k = or_kept (with_byte m address byte) m in
    let next : address ⊕ 1 ≡ address + 1 = next-address address (omega arith) in
    let end : address + 1 + length (other ∷ bytes) ≡ address + length (byte ∷ other ∷ bytes) = omega arith in
    let first : Delivers link byte (loading link m ls left address) (loading link k ls (left - 1) (address + 1)) =
    subst (λ (a : ℕ). Delivers link byte (loading link m ls left address) (loading link k ls (left - 1) a)) next
    (code-delivered link byte m ls left address (many left (omega arith))) in
    let rest =
    all-loaded link ls (other ∷ bytes) k (left - 1) (address + 1) (omega arith) (omega arith) (omega arith) in
    one-delivered link byte (other ∷ bytes) (loading link m ls left address)
    (loading link k ls (left - 1) (address + 1))
    (begun_node link (stored_from (other ∷ bytes) (address + 1) k) ls (address + length (byte ∷ other ∷ bytes))) first
    (subst (λ (e : ℕ). DeliversAll link (other ∷ bytes) (loading link k ls (left - 1) (address + 1))
    (begun_node link (stored_from (other ∷ bytes) (address + 1) k) ls e)) end rest)

-- a control byte of 2 or more loads as many bytes
load-task : (count : ℕ) → 2 ≤ count → task_of count ≡ Load count 0x80000048
load-task count least =
    let not_zero : (count == 0) ≡ false = grind (arith, nat_tests) in
    let not_one : (count == 1) ≡ false = grind (arith, nat_tests) in
    rw (not_zero, not_one) refl

-- the registers that the code begins with
begins : (link : LinkNumber) (count : ℕ) → count ≤ 255 → begun link (0x80000048 + count) ≡ boot_registers link count
begins link count most =
    let above : aligned ((0x80000048 + count) ⊕ 3) ≡ 0x80000048 + 4 * ((count + 3) / 4) = omega arith in
    ap (λ (w : ℕ). record (started code_start w) { c = input_channel link }) above

-- the whole message
message-loaded : (link : LinkNumber) (code m : List ℕ) (ls : FourLinks) → 2 ≤ length code → length code ≤ 255
    → ((other : LinkNumber) → link_number other ≤ link_number link → (at other ls).end.input.buffer ≡ None)
    → DeliversAll link (boot_bytes code) (clear_node link m ls WantsControl)
    (begun_node link (stored_from code 0x80000048 m) ls (0x80000048 + length code))
message-loaded link code m ls least most none =
    let control : Delivers link (length code) (clear_node link m ls WantsControl)
    (loading link m ls (length code) 0x80000048) =
    subst (λ (task : Task). Delivers link (length code) (clear_node link m ls WantsControl)
    (clear_node link m ls (Takes link task))) (load-task (length code) least)
    (control-delivered link (length code) m ls none) in
    one-delivered link (length code) code (clear_node link m ls WantsControl)
    (loading link m ls (length code) 0x80000048)
    (begun_node link (stored_from code 0x80000048 m) ls (0x80000048 + length code)) control
    (all-loaded link ls code m (length code) 0x80000048 (omega arith) refl (omega arith))

-- a boot loads the code and runs it
pub boots : WordKeepsTheSize → WordIsRead → OtherWordsStay → ByteKeepsTheSize → ByteIsRead → OtherBytesStay
    → (link : LinkNumber) (code : List ℕ) (n : Node) → 2 ≤ length code → length code ≤ 255 → AwaitsMessage link n
    → Boots link code n
boots words word other_words bytes byte other_bytes link code n least most awaits =
    let is : n ≡ clear_node link n.memory n.links WantsControl = sym (clear-memory link n n.memory awaits) in
    let all = message-loaded link code n.memory n.links least most awaits.buffers in
    let after = begun_node link (stored_from code 0x80000048 n.memory) n.links (0x80000048 + length code) in
    let left : bytes_delivered link (boot_bytes code) n ≡ after =
    ap (bytes_delivered link (boot_bytes code)) is ∙ all.node in
    record {
      memory =
          subst (λ (k : List ℕ). HoldsCode code n.memory k) (sym (ap (λ (k : Node). k.memory) left))
          (holds-code words word other_words bytes byte other_bytes code n.memory);
      links = ap (λ (k : Node). k.links) left ∙ clear-links link n awaits;
      state =
          ap (λ (k : Node). k.state) left
          ∙ ap (λ (registers : Cpu). Runs registers) (begins link (length code) most);
      answers = ap (delivery_answers link (boot_bytes code)) is ∙ all.answers;
    }
