-- The whole peek: five rounds for the message, then four for the word, for the law `peek_answers_the_word`.
use Rattle.std.proofs.Common.{◌≡◌, ℕ, ◌+◌, ◌/◌, ◌%◌, ◌^◌, ◌<◌, ◌≤◌, Bool, true, false, List, [], ◌∷◌, ◌++◌, length}
use Rattle.std.proofs.Common.{None, Some, refl, ap, sym, subst, arith}
use Rattle.std.proofs.lemmas.List.{append-nil, append_assoc, length-append}
use Rattle.std.proofs.lemmas.Bool.{lt-ltb}
use Rattle.os_link.specs.declared.end.LinkEnd.{LinkEnd}
use Rattle.node_memory.specs.Bytes.{word_at}
use Rattle.t414_step.specs.declared.stepping.Stepped.TheVariants.{Ran}
use Rattle.bootstrap.specs.Boot.{shifted_down}
use Rattle.bootstrap.specs.Step.{or_zero, node_step, has_halted}
use Rattle.bootstrap.specs.declared.state.NodeState as doing
use Rattle.bootstrap.specs.declared.state.NodeState.TheVariants.{WantsControl, Takes, Answers}
use Rattle.bootstrap.specs.declared.state.Task.TheVariants.{Peek}
use Rattle.domain_core.specs.Hosts.{HostState, is_full}
use Rattle.domain_core.specs.PrivateFarm.{State}
use Rattle.domain_core.specs.Peek.{PeekAnswersTheWord, after_peek, peek_answers, peek_calls, repeated, word_bytes}
use Rattle.domain_core.proofs.PeekBeginning.{asking, begins, ends, first_host, first_heard, first_lost, first_node}
use Rattle.domain_core.proofs.PeekBytes.{four_in, bytes-come-to, bytes-in-turn}
use Rattle.domain_core.proofs.PeekCalls.{Leads, leads-none, leads-on, leads-between}
use Rattle.domain_core.proofs.PeekNodes.{listening, resting, posting, acknowledged, with_end, control-step}
use Rattle.domain_core.proofs.PeekNodes.{address-step, last-address-step, answer-step, last-answer-step}
use Rattle.domain_core.proofs.PeekPlaces.{Peeking}
use Rattle.domain_core.proofs.PeekRounds.{answers_there, answers_back, calls_there, calls_back, host_resting, reached}
use Rattle.domain_core.proofs.PeekRounds.{round-there, round-back}

-- ---- the message goes

-- the word at the address, or 0
abbrev pub word_of : Peeking → ℕ
word_of peek = or_zero (word_at (first_node peek).memory peek.address)

-- the message has gone, and the first byte of the word is posted
abbrev pub asked_for : Peeking → State
asked_for peek =
    reached peek 15 (host_resting [] (first_host peek).received (first_host peek).end.input.overruns)
    (posting (word_of peek % 2 ^ 8) (first_lost peek))
    (Answers peek.route.link 3 (word_of peek / 2 ^ 8)) (first_node peek)

message-goes : (peek : Peeking)
    → Leads peek.part
    (reached peek 0 (asking peek.address (first_host peek))
    (listening (first_lost peek) (first_heard peek)) WantsControl
    (first_node peek))
    (repeated 5 (calls_there peek)) (repeated 5 answers_there) (asked_for peek)
message-goes peek =
    let first : ℕ = peek.address % 2 ^ 8 in
    let second : ℕ = peek.address / 2 ^ 8 % 2 ^ 8 in
    let third : ℕ = peek.address / 2 ^ 16 % 2 ^ 8 in
    let fourth : ℕ = peek.address / 2 ^ 24 % 2 ^ 8 in
    let one : ℕ = shifted_down first 0 in
    let two : ℕ = shifted_down second one in
    let three : ℕ = shifted_down third two in
    let whole : four_in first second third fourth ≡ peek.address = bytes-come-to peek.address peek.can.word in
    let received : List ℕ = (first_host peek).received in
    let overruns : ℕ = (first_host peek).end.input.overruns in
    let lost : ℕ = first_lost peek in
    let heard : Bool = first_heard peek in
    let takes : ℕ → ℕ → doing.NodeState = λ left address. Takes peek.route.link (Peek left address) in
    let word : ℕ = word_of peek in
    leads-on peek.part _ _ _ _ _ _ _
    (round-there peek 0 1 (first ∷ second ∷ third ∷ fourth ∷ []) received overruns lost
    (first_host peek).end.output.acknowledged None false heard heard WantsControl (takes 4 0)
    (first_node peek) (omega arith)
    refl
    (control-step peek.route.link (first_node peek) 1 lost heard peek.can.listens.buffers))
    (leads-on peek.part _ _ _ _ _ _ _
    (round-there peek 3 first (second ∷ third ∷ fourth ∷ []) received overruns lost false None false heard heard
    (takes 4 0) (takes 3 one) (first_node peek) (omega arith) refl
    (address-step peek.route.link (first_node peek) first lost 4 0 heard refl))
    (leads-on peek.part _ _ _ _ _ _ _
    (round-there peek 6 second (third ∷ fourth ∷ []) received overruns lost false None false heard heard (takes 3 one)
    (takes 2 two) (first_node peek) (omega arith) refl
    (address-step peek.route.link (first_node peek) second lost 3 one heard refl))
    (leads-on peek.part _ _ _ _ _ _ _
    (round-there peek 9 third (fourth ∷ []) received overruns lost false None false heard heard (takes 2 two)
    (takes 1 three) (first_node peek) (omega arith) refl
    (address-step peek.route.link (first_node peek) third lost 2 two heard refl))
    (leads-on peek.part _ _ _ _ _ _ _
    (round-there peek 12 fourth [] received overruns lost false (Some (word % 2 ^ 8)) true heard false (takes 1 three)
    (Answers peek.route.link 3 (word / 2 ^ 8)) (first_node peek) (omega arith) refl
    (last-address-step peek.route.link (first_node peek) fourth lost three word heard
    (ap (λ (a : ℕ). or_zero (word_at (first_node peek).memory a)) whole)))
    (leads-none peek.part _)))))

-- ---- the word comes

-- fewer than four bytes more leave room for one
has-room : (xs ys : List ℕ) → length ys < 4 → length xs + 4 ≤ 4096 → is_full (xs ++ ys) ≡ false
has-room xs ys few room =
    let both : length (xs ++ ys) ≡ length xs + length ys = length-append xs ys in
    rw (lt-ltb (length (xs ++ ys)) 4096 (omega arith)) refl

-- the host that received these bytes besides
abbrev pub with_bytes : Peeking → List ℕ → HostState
with_bytes peek bytes = host_resting [] ((first_host peek).received ++ bytes) (first_host peek).end.input.overruns

byte-comes : (peek : Peeking) (count byte : ℕ) (bytes : List ℕ) (e : LinkEnd) (before after : doing.NodeState)
    → count + 3 ≤ 27 → has_halted before ≡ false
    → length bytes < 4
    → node_step (with_end peek.route.link (acknowledged (first_lost peek)) before (first_node peek))
    ≡ (with_end peek.route.link e after (first_node peek), Ran)
    → Leads peek.part (reached peek count (with_bytes peek bytes) (posting byte (first_lost peek)) before
    (first_node peek))
    (calls_back peek) answers_back
    (reached peek (count + 1 + 1 + 1) (with_bytes peek (bytes ++ byte ∷ [])) e after (first_node peek))
byte-comes peek count byte bytes e before after room goes few steps =
    let h : HostState = first_host peek in
    subst (λ (xs : List ℕ).
    Leads peek.part (reached peek count (with_bytes peek bytes) (posting byte (first_lost peek)) before
    (first_node peek))
    (calls_back peek) answers_back
    (reached peek (count + 1 + 1 + 1) (host_resting [] xs h.end.input.overruns) e after (first_node peek)))
    (append_assoc h.received bytes (byte ∷ []))
    (round-back peek count byte (h.received ++ bytes) h.end.input.overruns (first_lost peek) e before
    after (first_node peek)
    room goes (has-room h.received bytes few peek.can.asks.room) steps)

-- the bytes of the word one by one
bytes-come : (peek : Peeking) (word : ℕ)
    → Leads peek.part
    (reached peek 15 (with_bytes peek []) (posting (word % 2 ^ 8) (first_lost peek))
    (Answers peek.route.link 3 (word / 2 ^ 8))
    (first_node peek))
    (repeated 4 (calls_back peek)) (repeated 4 answers_back)
    (reached peek 27
    (with_bytes peek
    (word % 2 ^ 8 ∷ word / 2 ^ 8 % 2 ^ 8 ∷ word / 2 ^ 8 / 2 ^ 8 % 2 ^ 8 ∷ word / 2 ^ 8 / 2 ^ 8 / 2 ^ 8 % 2 ^ 8 ∷ []))
    (resting (first_lost peek)) WantsControl (first_node peek))
bytes-come peek word =
    let second : ℕ = word / 2 ^ 8 in
    let third : ℕ = second / 2 ^ 8 in
    let fourth : ℕ = third / 2 ^ 8 in
    let lost : ℕ = first_lost peek in
    let posts : ℕ → LinkEnd = λ left. posting (left % 2 ^ 8) lost in
    let low : ℕ → ℕ = λ left. left % 2 ^ 8 in
    leads-on peek.part _ _ _ _ _ _ _
    (byte-comes peek 15 (low word) [] (posts second) (Answers peek.route.link 3 second)
    (Answers peek.route.link 2 third)
    (omega arith) refl (omega arith)
    (answer-step peek.route.link (first_node peek) lost 3 second refl))
    (leads-on peek.part _ _ _ _ _ _ _
    (byte-comes peek 18 (low second) (low word ∷ []) (posts third) (Answers peek.route.link 2 third)
    (Answers peek.route.link 1 fourth) (omega arith) refl (omega arith)
    (answer-step peek.route.link (first_node peek) lost 2 third refl))
    (leads-on peek.part _ _ _ _ _ _ _
    (byte-comes peek 21 (low third) (low word ∷ low second ∷ []) (posts fourth) (Answers peek.route.link 1 fourth)
    (Answers peek.route.link 0 (fourth / 2 ^ 8)) (omega arith) refl (omega arith)
    (answer-step peek.route.link (first_node peek) lost 1 fourth refl))
    (leads-on peek.part _ _ _ _ _ _ _
    (byte-comes peek 24 (low fourth) (low word ∷ low second ∷ low third ∷ []) (resting lost)
    (Answers peek.route.link 0 (fourth / 2 ^ 8)) WantsControl (omega arith) refl (omega arith)
    (last-answer-step peek.route.link (first_node peek) lost (fourth / 2 ^ 8)))
    (leads-none peek.part _))))

word-comes : (peek : Peeking)
    → Leads peek.part (asked_for peek) (repeated 4 (calls_back peek)) (repeated 4 answers_back)
    (reached peek 27 (with_bytes peek (word_bytes (first_node peek) peek.address))
    (resting (first_lost peek)) WantsControl
    (first_node peek))
word-comes peek =
    let h : HostState = first_host peek in
    let posts : LinkEnd = posting (word_of peek % 2 ^ 8) (first_lost peek) in
    leads-between peek.part _ _ _ _ _ _
    (ap (λ (xs : List ℕ).
    reached peek 15 (host_resting [] xs h.end.input.overruns) posts (Answers peek.route.link 3 (word_of peek / 2 ^ 8))
    (first_node peek))
    (sym (append-nil h.received)))
    (ap (λ (xs : List ℕ). reached peek 27 (with_bytes peek xs) (resting (first_lost peek)) WantsControl
    (first_node peek))
    (bytes-in-turn (word_of peek)))
    (bytes-come peek (word_of peek))

-- ---- the whole

word-answered : (peek : Peeking)
    → Leads peek.part peek.start (peek_calls peek.by peek.route) peek_answers
    (record { machine = after_peek peek.route peek.address peek.start.machine; recorded = peek.start.recorded + 27 })
word-answered peek =
    leads-between peek.part _ _ _ _ _ _ (begins peek) (ends peek)
    (leads-on peek.part _ _ _ _ _ _ _ (message-goes peek) (word-comes peek))

-- a host that asks a node which listens is given the word
pub peek-told : PeekAnswersTheWord
peek-told part by r address s known can =
    let p : Peeking =
    record { part = part; by = by; route = r; address = address; start = s; known = known; can = can } in
    record { state = (word-answered p).state; answers = (word-answered p).answers }
