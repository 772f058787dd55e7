-- The bytes of an instruction, one step for each.
use Rattle.std.proofs.Common.{◌≡◌, ℕ, zero, suc, ◌+◌, ◌/◌, ◌%◌, Bool, true, false, cond, bit_or, min, length}
use Rattle.std.proofs.Common.{List, [], ◌∷◌, Option, Some, None, Ok, refl, ◌∙◌, ap, sym, subst, arith}
use Rattle.node_memory.specs.Bytes.{byte_at}
use Rattle.node_memory.specs.Effect.{Gave, ◌>>=◌, load_byte}
use Rattle.node_memory.specs.Words.{◌⊕◌}
use Rattle.link_channels.specs.declared.link.FourLinks.{FourLinks}
use Rattle.link_channels.specs.Laws.{ServiceLeavesTheRest}
use Rattle.link_channels.specs.Links.{any_has_work}
use Rattle.t414_decode.specs.Codes.{function_of, accumulated, shifted}
use Rattle.t414_decode.specs.Meaning.{Meant, continues, read_from}
use Rattle.t414_decode.specs.declared.instruction.Function.{Function}
use Rattle.t414_decode.specs.declared.instruction.Function.TheVariants.{Prefix, NegativePrefix}
use Rattle.t414_step.specs.declared.cpu.Cpu.{Cpu}
use Rattle.t414_step.specs.ChannelRows.{CpuEffect}
use Rattle.t414_step.specs.Instructions.{HasBytes, past_bytes}
use Rattle.t414_step.specs.Rows.{direct}
use Rattle.t414_step.specs.Step.{StepEffect, stepped, fetched, byte_done, step}
use Rattle.t414_step.specs.Steps.{nth_step}
use Rattle.t414_step.proofs.Steps.{byte-step, one-step, steps-add}

-- a prefix puts its nibble into O, moves O, and does nothing else
prefix-row : (f : Function) (n : ℕ) (s : Cpu) (ls : FourLinks) (m : List ℕ) → continues f ≡ true
    → direct f n s ls m ≡ Gave (record s { operand = shifted f n }) ls m
unfolding direct
prefix-row Prefix n s ls m same = refl
prefix-row NegativePrefix n s ls m same = refl
prefix-row _ n s ls m same = cc

-- the operand of another function is what its byte makes of O
plain-operand : (f : Function) (n : ℕ) → continues f ≡ false → shifted f n ≡ n
plain-operand Prefix n same = cc
plain-operand NegativePrefix n same = cc
plain-operand _ n same = refl

-- after a prefix the instruction goes on with the operand that it makes
goes-on : (operand byte : ℕ) (bytes : List ℕ) → continues (function_of (byte / 16)) ≡ true
    → read_from operand (byte ∷ bytes) ≡ read_from (accumulated operand byte) bytes
unfolding read_from
goes-on operand byte bytes same =
    ap (λ (b : Bool). cond b (read_from (accumulated operand byte) bytes)
    (Some (record { function = function_of (byte / 16); operand = accumulated operand byte; rest = bytes })))
    same

-- a byte of another function ends it
ends-there : (operand byte : ℕ) (bytes : List ℕ) → continues (function_of (byte / 16)) ≡ false
    → read_from operand (byte ∷ bytes)
    ≡ Some (record { function = function_of (byte / 16); operand = accumulated operand byte; rest = bytes })
unfolding read_from
ends-there operand byte bytes same =
    ap (λ (b : Bool). cond b (read_from (accumulated operand byte) bytes)
    (Some (record { function = function_of (byte / 16); operand = accumulated operand byte; rest = bytes })))
    same

-- the byte at Iptr, with its function and its nibble
byte-there : (s : Cpu) (ls : FourLinks) (m : List ℕ) (byte : ℕ) → byte_at m s.instruction ≡ Ok byte
    → byte_done s ls m ≡ direct (function_of (byte / 16)) (bit_or s.operand (byte % 16)) (fetched s) ls m
unfolding byte_done
byte-there s ls m byte there = rw there refl

-- the step that does it
step-there : ServiceLeavesTheRest → (s : Cpu) (ls : FourLinks) (m : List ℕ) (byte : ℕ) (effect : CpuEffect)
    → any_has_work ls ≡ false → s.running ≡ true → byte_at m s.instruction ≡ Ok byte
    → direct (function_of (byte / 16)) (bit_or s.operand (byte % 16)) (fetched s) ls m ≡ effect
    → nth_step 1 s ls m ≡ Some (stepped effect)
step-there rests s ls m byte effect rest runs there same =
    one-step s ls m (stepped effect)
    (byte-step rests s ls m rest runs ∙ ap stepped (byte-there s ls m byte there ∙ same))

-- a byte more, counted and passed
past-more : (n operand : ℕ) (s : Cpu) → past_bytes n (record (fetched s) { operand = operand }) ≡ past_bytes (suc n) s
past-more n operand s =
    let place : (s.instruction ⊕ 1) ⊕ n ≡ s.instruction ⊕ suc n = omega arith in
    let count : min (min (s.bytes + 1) 1024 + n) 1024 ≡ min (s.bytes + suc n) 1024 = omega arith in
    rw (place, count) refl

-- no bytes are no instruction
no-bytes : (operand : ℕ) (what : Meant) → read_from operand [] ≡ Some what → ⊥
unfolding read_from
no-bytes operand what same = cc

-- what was read, or something else if nothing was
meant-by : Option Meant → Meant → Meant
meant-by None other = other
meant-by (Some what) other = what

-- the registers after a prefix
abbrev after_prefix : ℕ → Cpu → Cpu
after_prefix byte s =
    record (fetched s) { operand = shifted (function_of (byte / 16)) (bit_or s.operand (byte % 16)) }

-- the last byte of an instruction
last-byte : ServiceLeavesTheRest → (byte : ℕ) (bytes : List ℕ) (f : Function) (k : ℕ) (s : Cpu) (ls : FourLinks)
    (m : List ℕ) → continues (function_of (byte / 16)) ≡ false
    → read_from s.operand (byte ∷ bytes) ≡ Some (record { function = f; operand = k; rest = [] })
    → byte_at m s.instruction ≡ Ok byte → s.running ≡ true → any_has_work ls ≡ false
    → nth_step (suc (length bytes)) s ls m ≡ Some (stepped (direct f k (past_bytes (suc (length bytes)) s) ls m))
unfolding accumulated function_of meant-by
last-byte rests byte bytes f k s ls m ends means there runs rest =
    let joined = bit_or s.operand (byte % 16) in
    let found : Some (record { function = function_of (byte / 16); operand = accumulated s.operand byte; rest = bytes })
    ≡ Some (record { function = f; operand = k; rest = [] }) =
    sym (ends-there s.operand byte bytes ends) ∙ means in
    let what : Meant = record { function = f; operand = k; rest = [] } in
    let function : function_of (byte / 16) ≡ f = ap (λ (o : Option Meant). (meant-by o what).function) found in
    let operand : shifted (function_of (byte / 16)) joined ≡ k =
    ap (λ (o : Option Meant). (meant-by o what).operand) found in
    let none : bytes ≡ [] = ap (λ (o : Option Meant). (meant-by o what).rest) found in
    let last : joined ≡ k = sym (plain-operand (function_of (byte / 16)) joined ends) ∙ operand in
    let one : nth_step 1 s ls m ≡ Some (stepped (direct f k (past_bytes 1 s) ls m)) =
    step-there rests s ls m byte (direct f k (fetched s) ls m) rest runs there
    (ap (λ (g : Function). direct g joined (fetched s) ls m) function
    ∙ ap (λ (n : ℕ). direct f n (fetched s) ls m) last) in
    subst (λ (xs : List ℕ). nth_step (suc (length xs)) s ls m
    ≡ Some (stepped (direct f k (past_bytes (suc (length xs)) s) ls m))) (sym none) one

-- the bytes of an instruction from the first on, by whether that is a prefix, if the later ones are steps too
steps-by : ServiceLeavesTheRest → (on : Bool) (byte : ℕ) (bytes : List ℕ) (f : Function) (k : ℕ) (s : Cpu)
    (ls : FourLinks) (m : List ℕ)
    → ((t : Cpu) → read_from t.operand bytes ≡ Some (record { function = f; operand = k; rest = [] })
    → HasBytes m t.instruction bytes → t.running ≡ true
    → nth_step (length bytes) t ls m ≡ Some (stepped (direct f k (past_bytes (length bytes) t) ls m)))
    → continues (function_of (byte / 16)) ≡ on
    → read_from s.operand (byte ∷ bytes) ≡ Some (record { function = f; operand = k; rest = [] })
    → byte_at m s.instruction ≡ Ok byte → HasBytes m (s.instruction ⊕ 1) bytes → s.running ≡ true
    → any_has_work ls ≡ false
    → nth_step (suc (length bytes)) s ls m ≡ Some (stepped (direct f k (past_bytes (suc (length bytes)) s) ls m))
unfolding accumulated
steps-by rests true byte bytes f k s ls m later on means there behind runs rest =
    let joined = bit_or s.operand (byte % 16) in
    let t = after_prefix byte s in
    let sum : suc (length bytes) ≡ 1 + length bytes = omega arith in
    let first : nth_step 1 s ls m ≡ Some (Gave (true, t) ls m) =
    step-there rests s ls m byte (Gave t ls m) rest runs there
    (prefix-row (function_of (byte / 16)) joined (fetched s) ls m on) in
    let those : nth_step (length bytes) t ls m ≡ Some (stepped (direct f k (past_bytes (length bytes) t) ls m)) =
    later t (sym (goes-on s.operand byte bytes on) ∙ means) behind runs in
    ap (λ (n : ℕ). nth_step n s ls m) sum ∙ steps-add 1 (length bytes) s t ls ls m m first ∙ those
    ∙ ap (λ (u : Cpu). Some (stepped (direct f k u ls m)))
    (past-more (length bytes) (shifted (function_of (byte / 16)) joined) s)
steps-by rests false byte bytes f k s ls m later on means there behind runs rest =
    last-byte rests byte bytes f k s ls m on means there runs rest

-- the bytes of an instruction; an operand may be begun
pub instruction-steps : ServiceLeavesTheRest → (bytes : List ℕ) (f : Function) (k : ℕ) (s : Cpu) (ls : FourLinks)
    (m : List ℕ) → read_from s.operand bytes ≡ Some (record { function = f; operand = k; rest = [] })
    → HasBytes m s.instruction bytes → s.running ≡ true → any_has_work ls ≡ false
    → nth_step (length bytes) s ls m ≡ Some (stepped (direct f k (past_bytes (length bytes) s) ls m))
instruction-steps rests [] f k s ls m means there runs rest =
    absurd (no-bytes s.operand (record { function = f; operand = k; rest = [] }) means)
instruction-steps rests (byte ∷ bytes) f k s ls m means there runs rest =
    steps-by rests (continues (function_of (byte / 16))) byte bytes f k s ls m
    (λ t means there runs. instruction-steps rests bytes f k t ls m means there runs rest)
    refl means there.0 there.1 runs rest
