-- The bytes of a message are read from memory and written to it: for the law of processes.
use Rattle.std.proofs.Common.{◌≡◌, ℕ, zero, suc, ◌+◌, ◌-◌, ◌*◌, ◌/◌, ◌%◌, ◌^◌, ◌<◌, ◌≤◌, List, [], ◌∷◌, length, Ok, Err, take, drop, refl, ap, ◌∙◌, subst, arith, length-set, cond, true, nat_le}
use Rattle.std.specs.Prelude.{slice_index, slice_set}
use Rattle.std.proofs.lemmas.Bool.Decides.{nat_tests}
use Rattle.std.proofs.lemmas.Grind.{common_steps}
use Rattle.std.proofs.lemmas.List.{set-set}
use Rattle.node_memory.specs.Bytes.{first_address, is_inside, byte_at, with_byte, with_word_from, result_and_then}
use Rattle.node_memory.specs.Words.{◌⊕◌, ◌⊗◌}
use Rattle.node_memory.specs.declared.fault.Fault.TheVariants.{OutsideMemory}
use Rattle.link_channels.specs.Kinds.{kind_of}
use Rattle.link_channels.specs.declared.channel.Channel.TheVariants.{LinkInput, LinkOutput}
use Rattle.link_channels.specs.declared.number.LinkNumber.{LinkNumber}
use Rattle.link_channels.specs.declared.number.LinkNumber.TheVariants.{Zero, One, Two, Three}
use Rattle.occam_core.specs.declared.channel.MessageKind.{MessageKind}
use Rattle.occam_core.specs.declared.channel.MessageKind.TheVariants as message
use Rattle.occam_core.specs.Processes.{bytes_in, value_heard, bytes_said}
use Rattle.occam_code.specs.Alone.{with_bytes, bytes_at, channel_at}

-- the word of a link's channel of this number
abbrev pub channel_word : ℕ → ℕ
channel_word c = 0x80000000 ⊕ 4 ⊗ c

-- an output of a link
pub record IsOutputOf (c : ℕ) : Type 0 where
  pub link : LinkNumber
  pub kind : kind_of (channel_word c) ≡ LinkOutput link
  pub number : channel_at (channel_word c) ≡ c

-- the channels 0 to 3 are outputs
pub output_of : (c : ℕ) → c < 4 → IsOutputOf c
unfolding kind_of
output_of zero below = record { link = Zero; kind = refl; number = refl }
output_of (suc zero) below = record { link = One; kind = refl; number = refl }
output_of (suc (suc zero)) below = record { link = Two; kind = refl; number = refl }
output_of (suc (suc (suc zero))) below = record { link = Three; kind = refl; number = refl }
output_of (suc (suc (suc (suc c)))) below = absurd (omega arith)

-- an input of a link
pub record IsInputOf (c : ℕ) : Type 0 where
  pub link : LinkNumber
  pub kind : kind_of (channel_word c) ≡ LinkInput link
  pub number : channel_at (channel_word c) ≡ c

-- the channels 4 to 7 are inputs
pub input_of : (c : ℕ) → 4 ≤ c → c < 8 → IsInputOf c
unfolding kind_of
input_of zero least below = absurd (omega arith)
input_of (suc zero) least below = absurd (omega arith)
input_of (suc (suc zero)) least below = absurd (omega arith)
input_of (suc (suc (suc zero))) least below = absurd (omega arith)
input_of (suc (suc (suc (suc zero)))) least below = record { link = Zero; kind = refl; number = refl }
input_of (suc (suc (suc (suc (suc zero))))) least below = record { link = One; kind = refl; number = refl }
input_of (suc (suc (suc (suc (suc (suc zero)))))) least below = record { link = Two; kind = refl; number = refl }
input_of (suc (suc (suc (suc (suc (suc (suc zero))))))) least below = record
    { link = Three; kind = refl; number = refl }
input_of (suc (suc (suc (suc (suc (suc (suc (suc c)))))))) least below = absurd (omega arith)

inside : (m : List ℕ) (a : ℕ) → first_address ≤ a → a - first_address < length m → is_inside m a ≡ true
inside m a least below = grind (arith, nat_tests)

-- a byte of memory
byte_found : (m : List ℕ) (a : ℕ) → first_address ≤ a → a - first_address < length m
    → byte_at m a ≡ Ok (slice_index m (a - first_address))
unfolding byte_at
byte_found m a least below =
    ap (λ b. cond b (Ok (slice_index m (a - first_address))) (Err OutsideMemory)) (inside m a least below)

-- a byte is written
pub byte_put : (m : List ℕ) (a b : ℕ) → first_address ≤ a → a - first_address < length m
    → with_byte m a b ≡ Ok (slice_set m (a - first_address) b)
unfolding with_byte
byte_put m a b least below =
    ap (λ q. cond q (Ok (slice_set m (a - first_address) b)) (Err OutsideMemory)) (inside m a least below)

first_byte : (m : List ℕ) (offset x : ℕ) → offset + 3 < length m → slice_index (with_word_from m offset x) offset ≡ x
    % 2 ^ 8
first_byte m offset x within = grind (arith, common_steps)

second_byte : (m : List ℕ) (offset x : ℕ) → offset + 3 < length m → slice_index (with_word_from m offset x)
    (offset + 1) ≡ x / 2 ^ 8 % 2 ^ 8
second_byte m offset x within = grind (arith, common_steps)

third_byte : (m : List ℕ) (offset x : ℕ) → offset + 3 < length m → slice_index (with_word_from m offset x)
    (offset + 2) ≡ x / 2 ^ 16 % 2 ^ 8
third_byte m offset x within = grind (arith, common_steps)

last_byte : (m : List ℕ) (offset x : ℕ) → offset + 3 < length m → slice_index (with_word_from m offset x)
    (offset + 3) ≡ x / 2 ^ 24 % 2 ^ 8
last_byte m offset x within = grind (arith, common_steps)

length-word : (m : List ℕ) (offset x : ℕ) → length (with_word_from m offset x) ≡ length m
length-word m offset x = simp length-set

-- a byte of a word that was written
byte_of : (m : List ℕ) (a offset i x y : ℕ) → a ≡ first_address + offset + i → offset + i < length m
    → slice_index (with_word_from m offset x) (offset + i) ≡ y → byte_at (with_word_from m offset x) a ≡ Ok y
byte_of m a offset i x y is below found =
    byte_found (with_word_from m offset x) a (omega (arith, is)) (omega (arith, is, below, length-word m offset x))
    ∙ ap (λ k. Ok (slice_index (with_word_from m offset x) k)) (omega (arith, is))
    ∙ ap Ok found

-- the bytes of a word that was written at an address
pub said_bytes : (kind : MessageKind) (m : List ℕ) (a x : ℕ) → first_address ≤ a → a - first_address + 3 < length m
    → length m ≤ 65536
    → bytes_at (bytes_in kind) (with_word_from m (a - first_address) x) a ≡ Ok (bytes_said kind x)
said_bytes message.Byte m a x least within bound =
    let o = a - first_address in
    let u = with_word_from m o x in
    let one = byte_of m a o 0 x (x % 2 ^ 8) (omega (arith, least)) (omega (arith, within))
    (subst (λ k. slice_index u k ≡ x % 2 ^ 8) (omega arith) (first_byte m o x within)) in
    ap (λ q. result_and_then q (λ b. Ok (b ∷ []))) one
said_bytes message.Word m a x least within bound =
    let o = a - first_address in
    let u = with_word_from m o x in
    let w0 = x % 2 ^ 8 in
    let w1 = x / 2 ^ 8 % 2 ^ 8 in
    let w2 = x / 2 ^ 16 % 2 ^ 8 in
    let w3 = x / 2 ^ 24 % 2 ^ 8 in
    let one = byte_of m a o 0 x w0 (omega (arith, least)) (omega (arith, within))
    (subst (λ k. slice_index u k ≡ w0) (omega arith) (first_byte m o x within)) in
    let two = byte_of m (a ⊕ 1) o 1 x w1 (omega (arith, least, within, bound)) (omega (arith, within))
    (second_byte m o x within) in
    let three = byte_of m (a ⊕ 1 ⊕ 1) o 2 x w2 (omega (arith, least, within, bound)) (omega (arith, within))
    (third_byte m o x within) in
    let four = byte_of m (a ⊕ 1 ⊕ 1 ⊕ 1) o 3 x w3 (omega (arith, least, within, bound)) (omega (arith, within))
    (last_byte m o x within) in
    ap (λ q. result_and_then q (λ b. result_and_then (bytes_at 3 u (a ⊕ 1)) (λ bs. Ok (b ∷ bs)))) one
    ∙ ap (λ q. result_and_then (result_and_then q
    (λ c. result_and_then (bytes_at 2 u (a ⊕ 1 ⊕ 1)) (λ bs. Ok (c ∷ bs)))) (λ bs. Ok (w0 ∷ bs))) two
    ∙ ap (λ q. result_and_then (result_and_then (result_and_then q
    (λ d. result_and_then (bytes_at 1 u (a ⊕ 1 ⊕ 1 ⊕ 1)) (λ bs. Ok (d ∷ bs)))) (λ bs. Ok (w1 ∷ bs)))
    (λ bs. Ok (w0 ∷ bs))) three
    ∙ ap (λ q. result_and_then (result_and_then (result_and_then (result_and_then q (λ e. Ok (e ∷ [])))
    (λ bs. Ok (w2 ∷ bs))) (λ bs. Ok (w1 ∷ bs))) (λ bs. Ok (w0 ∷ bs))) four

-- writes at two places, in either order
set_apart : (m : List ℕ) (i j a b : ℕ) → i < j
    → slice_set (slice_set m j a) i b ≡ slice_set (slice_set m i b) j a
set_apart [] i j a b below = refl
set_apart (x ∷ m) i zero a b below = absurd (omega arith)
set_apart (x ∷ m) zero (suc j) a b below = refl
set_apart (x ∷ m) (suc i) (suc j) a b below = ap (λ l. x ∷ l) (set_apart m i j a b (omega (arith, below)))

-- the lowest byte of a word that was cleared
low_byte : (m : List ℕ) (offset b : ℕ) → b < 2 ^ 8 → slice_set (with_word_from m offset 0) offset b ≡ with_word_from
    m offset b
low_byte m offset b fits =
    let m1 = slice_set m offset 0 in
    let m2 = slice_set m1 (offset + 1) 0 in
    let m3 = slice_set m2 (offset + 2) 0 in
    let b0 : b ≡ b % 2 ^ 8 = omega (arith, fits) in
    let b1 : 0 ≡ b / 2 ^ 8 % 2 ^ 8 = omega (arith, fits) in
    let b2 : 0 ≡ b / 2 ^ 16 % 2 ^ 8 = omega (arith, fits) in
    let b3 : 0 ≡ b / 2 ^ 24 % 2 ^ 8 = omega (arith, fits) in
    set_apart m3 offset (offset + 3) 0 b (omega arith)
    ∙ ap (λ l. slice_set l (offset + 3) 0) (set_apart m2 offset (offset + 2) 0 b (omega arith))
    ∙ ap (λ l. slice_set (slice_set l (offset + 2) 0) (offset + 3) 0)
    (set_apart m1 offset (offset + 1) 0 b (omega arith))
    ∙ ap (λ l. slice_set (slice_set (slice_set l (offset + 1) 0) (offset + 2) 0) (offset + 3) 0) (set-set m offset 0 b)
    ∙ ap (λ c. slice_set (slice_set (slice_set (slice_set m offset c) (offset + 1) 0) (offset + 2) 0) (offset + 3) 0) b0
    ∙ ap (λ c. slice_set (slice_set (slice_set (slice_set m offset (b % 2 ^ 8)) (offset + 1) c) (offset + 2) 0)
    (offset + 3) 0) b1
    ∙ ap (λ c. slice_set (slice_set (slice_set (slice_set m offset (b % 2 ^ 8)) (offset + 1) (b / 2 ^ 8 % 2 ^ 8))
    (offset + 2) c)
    (offset + 3) 0) b2
    ∙ ap (λ c. slice_set (slice_set (slice_set (slice_set m offset (b % 2 ^ 8)) (offset + 1) (b / 2 ^ 8 % 2 ^ 8))
    (offset + 2)
    (b / 2 ^ 16 % 2 ^ 8)) (offset + 3) c) b3

-- four bytes are written one after another
four_put : (m : List ℕ) (a w0 w1 w2 w3 : ℕ) → first_address ≤ a → a - first_address + 3 < length m
    → length m ≤ 65536
    → with_bytes m a (w0 ∷ w1 ∷ w2 ∷ w3 ∷ [])
    ≡ Ok (slice_set (slice_set (slice_set (slice_set m (a - first_address) w0) (a - first_address + 1) w1)
    (a - first_address + 2) w2) (a - first_address + 3) w3)
four_put m a w0 w1 w2 w3 least within bound =
    let o = a - first_address in
    let m1 = slice_set m o w0 in
    let m2 = slice_set m1 (o + 1) w1 in
    let m3 = slice_set m2 (o + 2) w2 in
    let l1 : length m1 ≡ length m = simp length-set in
    let l2 : length m2 ≡ length m = simp length-set in
    let l3 : length m3 ≡ length m = simp length-set in
    let one = byte_put m a w0 least (omega (arith, within)) in
    let two = byte_put m1 (a ⊕ 1) w1 (omega (arith, least, within, bound)) (omega (arith, least, within, bound, l1)) in
    let three =
    byte_put m2 (a ⊕ 1 ⊕ 1) w2 (omega (arith, least, within, bound)) (omega (arith, least, within, bound, l2)) in
    let four =
    byte_put m3 (a ⊕ 1 ⊕ 1 ⊕ 1) w3 (omega (arith, least, within, bound)) (omega (arith, least, within, bound, l3)) in
    let at1 : (a ⊕ 1) - first_address ≡ o + 1 = omega (arith, least, within, bound) in
    let at2 : (a ⊕ 1 ⊕ 1) - first_address ≡ o + 2 = omega (arith, least, within, bound) in
    let at3 : (a ⊕ 1 ⊕ 1 ⊕ 1) - first_address ≡ o + 3 = omega (arith, least, within, bound) in
    ap (λ q. result_and_then q (λ n. with_bytes n (a ⊕ 1) (w1 ∷ w2 ∷ w3 ∷ []))) one
    ∙ ap (λ q. result_and_then q (λ n. with_bytes n (a ⊕ 1 ⊕ 1) (w2 ∷ w3 ∷ [])))
    (two ∙ ap (λ i. Ok (slice_set m1 i w1)) at1)
    ∙ ap (λ q. result_and_then q (λ n. with_bytes n (a ⊕ 1 ⊕ 1 ⊕ 1) (w3 ∷ [])))
    (three ∙ ap (λ i. Ok (slice_set m2 i w2)) at2)
    ∙ ap (λ q. result_and_then q (λ n. Ok n)) (four ∙ ap (λ i. Ok (slice_set m3 i w3)) at3)

-- a BYTE that is heard fills the lowest byte of its word, which was cleared
pub heard_byte : (m coming : List ℕ) (a : ℕ) → first_address ≤ a → a - first_address + 3 < length m
    → length m ≤ 65536 → nat_le 1 (length coming) ≡ true → ((i : ℕ) → slice_index coming i < 2 ^ 8)
    → with_bytes (with_word_from m (a - first_address) 0) a (take 1 coming)
    ≡ Ok (with_word_from m (a - first_address) (value_heard message.Byte coming))
heard_byte m [] a least within bound some bytes = absurd (grind arith)
heard_byte m (b ∷ coming) a least within bound some bytes =
    let o = a - first_address in
    ap (λ q. result_and_then q (λ n. Ok n))
    (byte_put (with_word_from m o 0) a b least (omega (arith, within, length-word m o 0)))
    ∙ ap Ok (low_byte m o b (bytes 0))

-- an INT that is heard is the word of its four bytes
pub heard_word : (m coming : List ℕ) (a : ℕ) → first_address ≤ a → a - first_address + 3 < length m
    → length m ≤ 65536 → nat_le 4 (length coming) ≡ true → ((i : ℕ) → slice_index coming i < 2 ^ 8)
    → with_bytes m a (take 4 coming) ≡ Ok (with_word_from m (a - first_address) (value_heard message.Word coming))
heard_word m [] a least within bound some bytes = absurd (grind arith)
heard_word m (w0 ∷ []) a least within bound some bytes = absurd (grind arith)
heard_word m (w0 ∷ w1 ∷ []) a least within bound some bytes = absurd (grind arith)
heard_word m (w0 ∷ w1 ∷ w2 ∷ []) a least within bound some bytes = absurd (grind arith)
heard_word m (w0 ∷ w1 ∷ w2 ∷ w3 ∷ coming) a least within bound some bytes =
    let o = a - first_address in
    let x = w0 + 2 ^ 8 * w1 + 2 ^ 16 * w2 + 2 ^ 24 * w3 in
    let f0 : w0 < 2 ^ 8 = bytes 0 in
    let f1 : w1 < 2 ^ 8 = bytes 1 in
    let f2 : w2 < 2 ^ 8 = bytes 2 in
    let f3 : w3 < 2 ^ 8 = bytes 3 in
    let b0 : w0 ≡ x % 2 ^ 8 = omega (arith, f0, f1, f2, f3) in
    let b1 : w1 ≡ x / 2 ^ 8 % 2 ^ 8 = omega (arith, f0, f1, f2, f3) in
    let b2 : w2 ≡ x / 2 ^ 16 % 2 ^ 8 = omega (arith, f0, f1, f2, f3) in
    let b3 : w3 ≡ x / 2 ^ 24 % 2 ^ 8 = omega (arith, f0, f1, f2, f3) in
    four_put m a w0 w1 w2 w3 least within bound
    ∙ ap (λ c. Ok (slice_set (slice_set (slice_set (slice_set m o c) (o + 1) w1) (o + 2) w2) (o + 3) w3)) b0
    ∙ ap (λ c. Ok (slice_set (slice_set (slice_set (slice_set m o (x % 2 ^ 8)) (o + 1) c) (o + 2) w2) (o + 3) w3)) b1
    ∙ ap (λ c. Ok (slice_set (slice_set (slice_set (slice_set m o (x % 2 ^ 8)) (o + 1) (x / 2 ^ 8 % 2 ^ 8)) (o + 2) c)
    (o + 3) w3)) b2
    ∙ ap (λ c. Ok (slice_set (slice_set (slice_set (slice_set m o (x % 2 ^ 8)) (o + 1) (x / 2 ^ 8 % 2 ^ 8)) (o + 2)
    (x / 2 ^ 16 % 2 ^ 8)) (o + 3) c)) b3

-- the rest of bytes are bytes
pub rest_bytes : (count : ℕ) (coming : List ℕ) → ((i : ℕ) → slice_index coming i < 2 ^ 8)
    → (i : ℕ) → slice_index (drop count coming) i < 2 ^ 8
rest_bytes zero coming bytes i = bytes i
rest_bytes (suc count) [] bytes i = bytes i
rest_bytes (suc count) (b ∷ coming) bytes i = rest_bytes count coming (λ j. bytes (suc j)) i

-- so are those that are heard
pub value_fits : (kind : MessageKind) (coming : List ℕ) → ((i : ℕ) → slice_index coming i < 2 ^ 8)
    → value_heard kind coming < 2 ^ 32
value_fits message.Byte coming bytes = omega (arith, bytes 0)
value_fits message.Word coming bytes = omega (arith, bytes 0, bytes 1, bytes 2, bytes 3)
