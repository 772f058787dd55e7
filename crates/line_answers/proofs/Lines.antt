-- What a line asks, in one or two parts.
use Rattle.std.proofs.Common.{◌≡◌, ◌≢◌, Bor, take, drop, map, get_or, ℕ, ◌+◌, ◌-◌, ◌<◌, ◌≤◌, Bool, true, false}
use Rattle.std.proofs.Common.{◌||◌, ◌&&◌}
use Rattle.std.proofs.Common.{List, [], ◌∷◌, ◌++◌, length, Some, None, refl, sym, ap, ◌∙◌, subst, arith, append_assoc}
use Rattle.std.proofs.Common.{inl, inr}
use Rattle.std.specs.Prelude.{slice_get, nat_lt, Result, Ok, Err, Option, if◌then◌else◌, ⊤}
use Rattle.std.specs.List.{filter, list_all, list_any}
use Rattle.std.specs.Option.{option_map, option_or}
use Rattle.std.specs.Result.{IsErrAnd}
use Rattle.std.specs.Prelude.{OnOk}
use Rattle.std.proofs.Math.Seq.{drop-append_seam}
use Rattle.std.proofs.lemmas.Bool.{le-leb}
use Rattle.std.proofs.lemmas.List.{append-nil, length-append, map-append, take_more, take_all}
use Rattle.std.proofs.lemmas.List.Folds.{list_any-append}
use Rattle.std.proofs.lemmas.List.Elements.{filter-append}
use Rattle.std.proofs.lemmas.Option.{slice_get_past, slice_get_cases}
use Rattle.std.proofs.lemmas.Result.{err_from_is_err_and}
use Rattle.bootstrap.specs.Messages.{bytes_of_word}
use Rattle.domain_core.specs.declared.event.Event.{Event}
use Rattle.domain_core.specs.declared.event.Event.TheVariants as event
use Rattle.domain_core.specs.declared.event.Reply.{Reply}
use Rattle.domain_core.specs.declared.event.Refusal.{Refusal}
use Rattle.domain_core.specs.declared.event.Refusal.TheVariants.{NoSuch, JournalFull, NoMemory}
use Rattle.farm_service.specs.Answers.{IsTold}
use Rattle.domain_core.specs.declared.event.AnsweredCommand.{AnsweredCommand}
use Rattle.farm_service.specs.Closed.{IsFull, IsNearlyFull}
use Rattle.farm_service.specs.Passes.{SessionValue, with_nearly_full}
use Rattle.script_lines.specs.declared.command.Command.{Command}
use Rattle.script_lines.specs.declared.command.Command.TheVariants as command
use Rattle.line_answers.specs.Asks.{is_write, is_read, had_no_room, is_byte, write_replies, read_replies}
use Rattle.line_answers.specs.Asks.{next_write, next_boot, next_read, next_event, AreAsked}
use Rattle.line_answers.proofs.Exchange.{begun, with_list, same_notes}
use Rattle.line_answers.specs.Lines.{LineHasEnded, IsAnsweredLine, AreAnsweredLines}
use Rattle.answer_text.specs.Results.{line_text, replies_told}
use Rattle.line_answers.specs.Sessions.{HasMetFull, HasMetNearlyFull, with_all, HasGained, HasSettled, HasEnded}
use Rattle.line_answers.specs.Sessions.{GainsSome, IsOver, AsksJust, AsksLine}
use Rattle.line_answers.specs.Laws.{FullIsSaidTruly}
use Rattle.line_answers.specs.Sessions.{IsAnswered, AreAnswered}

-- ---- what is asked by one rule is asked by another

asked_as : (make other_make : List AnsweredCommand → Option Event)
    → ((told : List AnsweredCommand) (e : Event) → make told ≡ Some e → other_make told ≡ Some e)
    → (before told : List AnsweredCommand)
    → AreAsked make before told
    → AreAsked other_make before told
asked_as make other_make same before [] asked = tt
asked_as make other_make same before (t ∷ told) asked =
    (same before t.event asked.0, asked_as make other_make same (before ++ t ∷ []) told asked.1)

-- what is asked after other events
asked_behind : (make other_make : List AnsweredCommand → Option Event) (first : List AnsweredCommand)
    → ((told : List AnsweredCommand) (e : Event) → make told ≡ Some e → other_make (first ++ told) ≡ Some e)
    → (before told : List AnsweredCommand) → AreAsked make before told → AreAsked other_make (first ++ before) told
asked_behind make other_make first same before [] asked = tt
asked_behind make other_make first same before (t ∷ told) asked = (
  same before t.event asked.0,
  subst (λ (b : List AnsweredCommand). AreAsked other_make b told) (sym (append_assoc first before (t ∷ [])))
      (asked_behind make other_make first same (before ++ t ∷ []) told asked.1),
)

asked_append : (next : List AnsweredCommand → Option Event) (before xs ys : List AnsweredCommand)
    → AreAsked next before xs → AreAsked next (before ++ xs) ys
    → AreAsked next before (xs ++ ys)
asked_append next before [] ys some more = subst (λ (b : List AnsweredCommand). AreAsked next b ys)
    (append-nil before) more
asked_append next before (x ∷ xs) ys some more = (
  some.0,
  asked_append next (before ++ x ∷ []) xs ys some.1
      (subst (λ (b : List AnsweredCommand). AreAsked next b ys) (sym (append_assoc before (x ∷ []) xs)) more),
)

-- ---- a line of one part

-- a command that asks exactly its events asks its line
pub whole : {A : Type 0} (c : Command) (s t : SessionValue) (outcome : Result A Refusal)
    → AsksJust (next_event c) s outcome t
    → AsksLine c s outcome t
whole c s t (Ok a) asks = record { told = asks.told; gains = asks.gains; asked = asks.asked; ended = asks.ended }
whole c s t (Err refusal) asks =
    record { told = asks.told; gains = asks.gains; asked = asks.asked; ended = inl asks.ended }

-- being out of memory is no full journal
no_full : NoMemory ≡ JournalFull → ⊥
no_full is = cc

-- ---- code

same_asks : {A : Type 0} (make other_make : List AnsweredCommand → Option Event) (s t : SessionValue)
    (outcome : Result A Refusal)
    → ((told : List AnsweredCommand) → other_make told ≡ make told) → AsksJust make s outcome t
    → AsksJust other_make s outcome t
same_asks make other_make s t (Ok a) same asks = record {
  told = asks.told;
  gains = asks.gains;
  asked = asked_as make other_make (λ told e is. same told ∙ is) [] asks.told asks.asked;
  ended = same asks.told ∙ asks.ended;
}
same_asks make other_make s t (Err refusal) same asks = record {
  told = asks.told;
  gains = asks.gains;
  asked = asked_as make other_make (λ told e is. same told ∙ is) [] asks.told asks.asked;
  ended = (asks.ended.0, same asks.told ∙ asks.ended.1, asks.ended.2, asks.ended.3);
}

boot_is_written : (host : ℕ) (code : List ℕ) → 2 ≤ length code → length code ≤ 255 → (told : List AnsweredCommand)
    → next_boot host code told ≡ next_write host (length code ∷ code) told
boot_is_written host code long short told = rw (le-leb 2 (length code) long) (rw (le-leb (length code) 255 short) refl)

-- a boot writes the length of its code and the code
pub code_written : {A : Type 0} (host : ℕ) (code : List ℕ) (s t : SessionValue)
    (outcome : Result A Refusal) → 2 ≤ length code
    → length code ≤ 255
    → AsksJust (next_write host (length code ∷ code)) s outcome t → AsksJust (next_boot host code) s outcome t
code_written host code s t outcome long short asks =
    same_asks (next_write host (length code ∷ code)) (next_boot host code) s t outcome
    (boot_is_written host code long short)
    asks

-- a boot that finds no memory for its message asks nothing
pub code_refused : {A : Type 0} (host : ℕ) (code : List ℕ) (s : SessionValue) → 2 ≤ length code → length code ≤ 255
    → AsksJust {A = A} (next_boot host code) s (Err NoMemory) s
code_refused host code s long short = record {
  told = [];
  gains = (begun (next_boot host code) s).gains;
  asked = tt;
  ended = (event.Write host (length code), boot_is_written host code long short [], tt, λ is. absurd (no_full is));
}

-- ---- a peek

writes-append : (xs ys : List AnsweredCommand) → write_replies (xs ++ ys) ≡ write_replies xs ++ write_replies ys
writes-append xs ys =
    ap replies_told (filter-append (λ t. is_write t.event) xs ys)
    ∙ map-append (λ t. t.reply) (filter (λ t. is_write t.event) xs) (filter (λ t. is_write t.event) ys)

reads-append : (xs ys : List AnsweredCommand) → read_replies (xs ++ ys) ≡ read_replies xs ++ read_replies ys
reads-append xs ys =
    ap replies_told (filter-append (λ t. is_read t.event) xs ys)
    ∙ map-append (λ t. t.reply) (filter (λ t. is_read t.event) xs) (filter (λ t. is_read t.event) ys)

-- what is written next after these replies to writes
after_writes : ℕ → List ℕ → Bool → ℕ → Option Event
after_writes host bytes full count = if full then None else option_map (event.Write host) (slice_get bytes count)

past_end : (host : ℕ) (bytes : List ℕ) (count plus : ℕ) → option_map (event.Write host) (slice_get bytes count) ≡ None
    → option_map (event.Write host) (slice_get bytes (count + plus)) ≡ None
past_end host bytes count plus over = elim (slice_get_cases bytes count).1 [
  | inl found ↦ grind (arith, over, found.2)
  | inr past ↦ ap (option_map (event.Write host)) (slice_get_past bytes (count + plus) (omega (arith, past.0)))
]

-- where nothing is written next after some replies, nothing is after more
over_after : (host : ℕ) (bytes : List ℕ) (full more : Bool) (count plus : ℕ) → after_writes host bytes full count ≡ None
    → after_writes host bytes (full || more) (count + plus) ≡ None
unfolding after_writes
over_after host bytes true more count plus over = refl
over_after host bytes false true count plus over = refl
over_after host bytes false false count plus over = past_end host bytes count plus over

writes_over : (host : ℕ) (bytes : List ℕ) (xs ys : List AnsweredCommand) → next_write host bytes xs ≡ None
    → next_write host bytes (xs ++ ys) ≡ None
unfolding after_writes
writes_over host bytes xs ys over =
    ap (λ (rs : List Reply). after_writes host bytes (list_any had_no_room rs) (length rs)) (writes-append xs ys)
    ∙ ap (λ (full : Bool). after_writes host bytes full (length (write_replies xs ++ write_replies ys)))
    (list_any-append had_no_room (write_replies xs) (write_replies ys))
    ∙ ap (λ (count : ℕ).
    after_writes host bytes (list_any had_no_room (write_replies xs) || list_any had_no_room (write_replies ys)) count)
    (length-append (write_replies xs) (write_replies ys))
    ∙ over_after host bytes (list_any had_no_room (write_replies xs)) (list_any had_no_room (write_replies ys))
    (length (write_replies xs)) (length (write_replies ys)) over

-- ---- writes are no reads

reads_next : Option Event → Bool
reads_next None = false
reads_next (Some e) = is_read e

no_read_next : (host : ℕ) (full : Bool) (byte : Option ℕ)
    → reads_next (if full then None else option_map (event.Write host) byte) ≡ false
unfolding reads_next
no_read_next host true byte = refl
no_read_next host false None = refl
no_read_next host false (Some byte) = refl

no_read : (host : ℕ) (full : Bool) (byte : Option ℕ) (e : Event)
    → (if full then None else option_map (event.Write host) byte) ≡ Some e
    → is_read e ≡ false
unfolding reads_next
no_read host full byte e is = sym (ap reads_next is) ∙ no_read_next host full byte

no_reads : (host : ℕ) (bytes : List ℕ) (before told : List AnsweredCommand)
    → AreAsked (next_write host bytes) before told
    → read_replies told ≡ []
no_reads host bytes before [] asked = refl
no_reads host bytes before (t ∷ told) asked =
    rw (no_read host (list_any had_no_room (write_replies before)) (slice_get bytes (length (write_replies before)))
    t.event asked.0)
    (no_reads host bytes (before ++ t ∷ []) told asked.1)

-- ---- a peek

-- after its writes a peek reads
reads_behind : (host address : ℕ) (xs ys : List AnsweredCommand)
    → AreAsked (next_write host (1 ∷ bytes_of_word address)) [] xs
    → next_write host (1 ∷ bytes_of_word address) xs ≡ None
    → next_event (command.Peek host address) (xs ++ ys) ≡ next_read host 4 ys
reads_behind host address xs ys asked over =
    ap (λ (first : Option Event). option_or first (next_read host 4 (xs ++ ys)))
    (writes_over host (1 ∷ bytes_of_word address) xs ys over)
    ∙ ap (λ (rs : List Reply). if list_all is_byte rs && nat_lt (length rs) 4 then Some (event.Read host) else None)
    (reads-append xs ys
    ∙ ap (λ (rs : List Reply). rs ++ read_replies ys) (no_reads host (1 ∷ bytes_of_word address) [] xs asked))

writes_of_peek : (host address : ℕ) (told : List AnsweredCommand) (e : Event)
    → next_write host (1 ∷ bytes_of_word address) told ≡ Some e
    → next_event (command.Peek host address) told ≡ Some e
writes_of_peek host address told e is = ap (λ (first : Option Event). option_or first (next_read host 4 told)) is

joined : (s t session : SessionValue) (xs ys : List AnsweredCommand) → HasGained s t xs → HasGained t session ys
    → HasGained s session (xs ++ ys)
joined s t session xs ys first second = record {
  list = second.list
      ∙ ap (λ (v : SessionValue).
      with_all v ys session.pass.met_full session.pass.met_nearly_full session.pass.met_no_room)
      first.list
      ∙ ap (λ (list : List AnsweredCommand).
      with_list s list session.pass.met_full session.pass.met_nearly_full session.pass.met_no_room)
      (append_assoc s.pass.told xs ys);
  full = λ met. second.full (first.full met);
  nearly_full = λ met. second.nearly_full (first.nearly_full met);
}

peek_end : {A : Type 0} (host address : ℕ) (xs ys : List AnsweredCommand) (session : SessionValue)
    (outcome : Result A Refusal)
    → ((told : List AnsweredCommand) → next_event (command.Peek host address) (xs ++ told) ≡ next_read host 4 told)
    → HasEnded (next_read host 4) ys session outcome
    → HasEnded (next_event (command.Peek host address)) (xs ++ ys) session outcome
peek_end host address xs ys session (Ok a) same over = same ys ∙ over
peek_end host address xs ys session (Err refusal) same over = (over.0, same ys ∙ over.1, over.2, over.3)

-- a peek writes its message, and then reads four bytes
pub peeked : {A B : Type 0} (host address : ℕ) (s t session : SessionValue) (a : A) (outcome : Result B Refusal)
    → AsksJust (next_write host (1 ∷ bytes_of_word address)) s (Ok a) t
    → AsksJust (next_read host 4) t outcome session
    → AsksJust (next_event (command.Peek host address)) s outcome session
peeked host address s t session a outcome writes reads =
    let same : (told : List AnsweredCommand)
    → next_event (command.Peek host address) (writes.told ++ told) ≡ next_read host 4 told =
    λ told. reads_behind host address writes.told told writes.asked writes.ended in record {
      told = writes.told ++ reads.told;
      gains = joined s t session writes.told reads.told writes.gains reads.gains;
      asked =
          asked_append (next_event (command.Peek host address)) [] writes.told reads.told
          (asked_as (next_write host (1 ∷ bytes_of_word address)) (next_event (command.Peek host address))
          (writes_of_peek host address) [] writes.told writes.asked)
          (subst (λ (b : List AnsweredCommand). AreAsked (next_event (command.Peek host address)) b reads.told)
          (append-nil writes.told)
          (asked_behind (next_read host 4) (next_event (command.Peek host address)) writes.told
          (λ told e is. same told ∙ is) [] reads.told reads.asked));
      ended = peek_end host address writes.told reads.told session outcome same reads.ended;
    }

-- a peek ends if its message is refused
pub peek_unwritten : {A B : Type 0} (host address : ℕ) (s t : SessionValue) (refusal : Refusal)
    → AsksJust {A = A} (next_write host (1 ∷ bytes_of_word address)) s (Err refusal) t
    → AsksJust {A = B} (next_event (command.Peek host address)) s (Err refusal) t
peek_unwritten host address s t refusal writes = record {
  told = writes.told;
  gains = writes.gains;
  asked =
      asked_as (next_write host (1 ∷ bytes_of_word address)) (next_event (command.Peek host address))
      (writes_of_peek host address) [] writes.told writes.asked;
  ended = (
    writes.ended.0,
    writes_of_peek host address writes.told writes.ended.0 writes.ended.1,
    writes.ended.2,
    writes.ended.3,
  );
}

-- a peek ends if there is no memory to settle its domain
peek_out_of_memory : {A B : Type 0} (host address : ℕ) (s t : SessionValue) (a : A)
    → AsksJust (next_write host (1 ∷ bytes_of_word address)) s (Ok a) t
    → AsksJust {A = B} (next_event (command.Peek host address)) s (Err NoMemory) t
peek_out_of_memory host address s t a writes = record {
  told = writes.told;
  gains = writes.gains;
  asked =
      asked_as (next_write host (1 ∷ bytes_of_word address)) (next_event (command.Peek host address))
      (writes_of_peek host address) [] writes.told writes.asked;
  ended = (
    event.Read host,
    ap (next_event (command.Peek host address)) (sym (append-nil writes.told))
        ∙ reads_behind host address writes.told [] writes.asked writes.ended,
    tt,
    λ is. absurd (no_full is),
  );
}

-- the user of a session has met a journal that is nearly full, and its list stays
now_nearly_full : (s t session : SessionValue) (told : List AnsweredCommand) → HasGained s t told
    → session ≡ record t { pass = with_nearly_full t.pass } → HasGained s session told
now_nearly_full s t session told so_far is =
    let met : HasMetNearlyFull session = ap (λ (v : SessionValue). v.pass.met_nearly_full) is in
    let same : session.pass.met_full ≡ t.pass.met_full = ap (λ (v : SessionValue). v.pass.met_full) is in
    let same_none : session.pass.met_no_room ≡ t.pass.met_no_room =
    ap (λ (v : SessionValue). v.pass.met_no_room) is in record {
      list = is ∙ ap (λ (v : SessionValue). record v { pass = with_nearly_full v.pass }) so_far.list
          ∙ same_notes s told _ _ _ _ _ _ (sym same) (sym met) (sym same_none);
      full = λ before. same ∙ so_far.full before;
      nearly_full = λ before. met;
    }

-- a peek ends if its domain can't settle
pub peek_unsettled : {A B : Type 0} (host address : ℕ) (s t session : SessionValue) (a : A) (refusal : Refusal)
    → AsksJust (next_write host (1 ∷ bytes_of_word address)) s (Ok a) t
    → HasSettled {A = Unit {0}} t (Err refusal) session
    → AsksLine {A = B} (command.Peek host address) s (Err refusal) session
peek_unsettled host address s t session a NoSuch writes settles = absurd settles
peek_unsettled host address s t session a JournalFull writes settles = record {
  told = writes.told;
  gains = now_nearly_full s t session writes.told writes.gains settles;
  asked =
      asked_as (next_write host (1 ∷ bytes_of_word address)) (next_event (command.Peek host address))
      (writes_of_peek host address) [] writes.told writes.asked;
  ended = inr (
    no_reads host (1 ∷ bytes_of_word address) [] writes.told writes.asked,
    ap (λ (v : SessionValue). v.pass.met_nearly_full) settles,
  );
}
peek_unsettled {A} {B} host address s t session a NoMemory writes settles =
    subst (λ (v : SessionValue). AsksLine {A = B} (command.Peek host address) s (Err NoMemory) v) (sym settles)
    (whole (command.Peek host address) s t (Err NoMemory) (peek_out_of_memory host address s t a writes))

-- ---- the same of results that are known by equations

-- the same as `peek_unwritten`, of results that are known by equations
pub unwritten : {A B : Type 0} (host address : ℕ) (bytes : List ℕ) (s t : SessionValue) (outcome : Result A Refusal)
    (other_outcome : Result B Refusal) (refusal : Refusal)
    → bytes ≡ 1 ∷ bytes_of_word address → outcome ≡ Err refusal → IsErrAnd other_outcome (λ given. given ≡ refusal)
    → AsksJust (next_write host bytes) s outcome t
    → AsksLine (command.Peek host address) s other_outcome t
unwritten {A} {B} host address bytes s t outcome other_outcome refusal bytes_are is returned asks =
    let exit = err_from_is_err_and other_outcome returned in
    subst (λ (other_outcome : Result B Refusal). AsksLine (command.Peek host address) s other_outcome t)
    (sym (exit.1 ∙ ap Err exit.2))
    (whole (command.Peek host address) s t (Err refusal)
    (peek_unwritten host address s t refusal
    (subst (λ (outcome : Result A Refusal). AsksJust (next_write host (1 ∷ bytes_of_word address)) s outcome t) is
    (subst (λ (bytes : List ℕ). AsksJust (next_write host bytes) s outcome t) bytes_are asks))))

-- the same as `peek_unsettled`, of results that are known by equations
pub unsettled : {A B : Type 0} (host address : ℕ) (bytes : List ℕ) (s t session : SessionValue) (a : A)
    (outcome : Result A Refusal)
    (other_outcome : Result B Refusal) (refusal : Refusal)
    → bytes ≡ 1 ∷ bytes_of_word address → outcome ≡ Ok a → IsErrAnd other_outcome (λ given. given ≡ refusal)
    → AsksJust (next_write host bytes) s outcome t
    → HasSettled {A = Unit {0}} t (Err refusal) session → AsksLine (command.Peek host address) s other_outcome session
unsettled {A} {B} host address bytes s t session a outcome other_outcome refusal bytes_are is returned asks
    settles =
    let exit = err_from_is_err_and other_outcome returned in
    subst (λ (other_outcome : Result B Refusal). AsksLine (command.Peek host address) s other_outcome session)
    (sym (exit.1 ∙ ap Err exit.2))
    (peek_unsettled host address s t session a refusal
    (subst (λ (outcome : Result A Refusal). AsksJust (next_write host (1 ∷ bytes_of_word address)) s outcome t) is
    (subst (λ (bytes : List ℕ). AsksJust (next_write host bytes) s outcome t) bytes_are asks))
    settles)

-- the same as `peeked`, of results that are known by equations
pub settled : {A B : Type 0} (host address : ℕ) (bytes : List ℕ) (s t session : SessionValue) (a : A)
    (outcome : Result A Refusal)
    (other_outcome : Result B Refusal)
    → bytes ≡ 1 ∷ bytes_of_word address → outcome ≡ Ok a → AsksJust (next_write host bytes) s outcome t
    → AsksJust (next_read host 4) t other_outcome session
    → AsksLine (command.Peek host address) s other_outcome session
settled {A} {B} host address bytes s t session a outcome other_outcome bytes_are is writes reads =
    whole (command.Peek host address) s session other_outcome
    (peeked host address s t session a other_outcome
    (subst (λ (outcome : Result A Refusal). AsksJust (next_write host (1 ∷ bytes_of_word address)) s outcome t) is
    (subst (λ (bytes : List ℕ). AsksJust (next_write host bytes) s outcome t) bytes_are writes))
    reads)

-- a command asks its line by what it asks next, if that is what the line asks next
pub of_command : {A : Type 0} (next : List AnsweredCommand → Option Event) (c other_command : Command)
    (s t : SessionValue)
    (outcome : Result A Refusal)
    → c ≡ other_command
    → ((told : List AnsweredCommand) → next_event other_command told ≡ next told) → AsksJust next s outcome t
    → AsksLine c s outcome t
of_command next c other_command s t outcome is same asks =
    subst (λ (c : Command). AsksLine c s outcome t) (sym is)
    (whole other_command s t outcome (same_asks next (next_event other_command) s t outcome same asks))

-- ---- a line's end, for its session at the beginning and whatever says that the journal is full

-- a line that ran out of memory has no end
line_end : {A : Type 0} (c : Command) (told gained : List AnsweredCommand) (s t : SessionValue)
    (outcome : Result A Refusal)
    → HasGained s t gained → IsOver c told t outcome → outcome ≢ Err NoMemory
    → LineHasEnded (HasMetFull t) (HasMetNearlyFull t) s c told outcome
line_end c told gained s t (Ok a) gains over fine = over
line_end c told gained s t (Err NoSuch) gains over fine = elim over [
  | inl ended ↦ inl
      (ended.0, ended.1, subst (λ (v : SessionValue). IsTold v ended.0 (Err NoSuch)) gains.list ended.2)
  | inr unsettled ↦ inr unsettled
]
line_end c told gained s t (Err JournalFull) gains over fine = elim over [
  | inl ended ↦ inl (
    ended.0,
    ended.1,
    (subst (λ (v : SessionValue). IsTold v ended.0 (Err JournalFull)) gains.list ended.2, ended.3 refl),
  )
  | inr unsettled ↦ inr unsettled
]
line_end c told gained s t (Err NoMemory) gains over fine = absurd (fine refl)

-- a line that is asked and shown is answered
pub answered : (name : List ℕ) (c : Command) (s t : SessionValue) (outcome : Result ⊤ Refusal)
    (asks : AsksLine c s outcome t)
    (screen more : List ℕ)
    → outcome ≢ Err NoMemory
    → more ≡ screen ++ line_text name c (replies_told asks.told) outcome → IsAnswered name c s t screen more
answered name c s t outcome asks screen more fine is = record {
  told = asks.told;
  line = line_text name c (replies_told asks.told) outcome;
  gains = asks.gains;
  is_line =
      record {
        result = outcome;
        asked = asks.asked;
        ended = line_end c asks.told asks.told s t outcome asks.gains asks.ended fine;
        is_text = refl;
      };
  text = is;
}

end_for : {A : Type 0} (P near : Type 0) (c : Command) (told : List AnsweredCommand) (s : SessionValue)
    (before : List AnsweredCommand)
    (full nearly_full no_room : Bool) (outcome : Result A Refusal)
    → LineHasEnded P near (with_all s before full nearly_full no_room) c told outcome
    → LineHasEnded P near s c told outcome
end_for P near c told s before full nearly_full no_room (Ok a) over = over
end_for P near c told s before full nearly_full no_room (Err NoSuch) over = over
end_for P near c told s before full nearly_full no_room (Err JournalFull) over = over
end_for P near c told s before full nearly_full no_room (Err NoMemory) over = over

end_if : {A P near Q later : Type 0} → (P → Q) → (near → later)
    → (c : Command) (told : List AnsweredCommand) (s : SessionValue)
    (outcome : Result A Refusal)
    → LineHasEnded P near s c told outcome → LineHasEnded Q later s c told outcome
end_if so also c told s (Ok a) over = over
end_if so also c told s (Err NoSuch) over = elim over [
  | inl ended ↦ inl ended
  | inr unsettled ↦ inr (unsettled.0, also unsettled.1)
]
end_if so also c told s (Err JournalFull) over = elim over [
  | inl ended ↦ inl (ended.0, ended.1, (ended.2.0, so ended.2.1))
  | inr unsettled ↦ inr (unsettled.0, also unsettled.1)
]
end_if so also c told s (Err NoMemory) over = elim over [
  | inl ended ↦ absurd ended.2
  | inr unsettled ↦ inr (unsettled.0, also unsettled.1)
]

-- a line is answered for each session of its user
line_for : (P near : Type 0) (s : SessionValue) (before : List AnsweredCommand) (full nearly_full no_room : Bool)
    (name : List ℕ)
    (c : Command) (told : List AnsweredCommand) (text : List ℕ)
    → IsAnsweredLine P near (with_all s before full nearly_full no_room) name c told text
    → IsAnsweredLine P near s name c told text
line_for P near s before full nearly_full no_room name c told text line = record {
  result = line.result;
  asked = line.asked;
  ended = end_for P near c told s before full nearly_full no_room line.result line.ended;
  is_text = line.is_text;
}

line_if : {P near Q later : Type 0} → (P → Q) → (near → later) → (s : SessionValue) (name : List ℕ) (c : Command)
    (told : List AnsweredCommand) (text : List ℕ)
    → IsAnsweredLine P near s name c told text → IsAnsweredLine Q later s name c told text
line_if so also s name c told text line = record {
  result = line.result;
  asked = line.asked;
  ended = end_if so also c told s line.result line.ended;
  is_text = line.is_text;
}

-- what some facts say of a journal that is full, or nearly full, others say that follow from them
lines_if : {P near Q later : Type 0} → (P → Q) → (near → later) → (s : SessionValue) (name : List ℕ)
    (commands : List Command) (told : List AnsweredCommand) (screen : List ℕ)
    → AreAnsweredLines P near s name commands told screen → AreAnsweredLines Q later s name commands told screen
lines_if so also s name [] told screen lines = lines
lines_if so also s name (c ∷ commands) told screen lines = (
  lines.0,
  lines.1,
  lines.2,
  lines.3,
  lines.4,
  lines.5,
  line_if so also s name c lines.0 lines.2 lines.6,
  lines_if so also s name commands lines.1 lines.3 lines.7,
)

-- the law `full_is_said_truly`
pub full_is_said_truly : FullIsSaidTruly
full_is_said_truly plan closed s t name commands screen lines truly =
    let same : t.pass.domain ≡ s.pass.domain = ap (λ (v : SessionValue). v.pass.domain) lines.gains.list in
    lines_if
    (λ met. subst (IsFull plan closed) same (truly.full met))
    (λ met. subst (IsNearlyFull plan closed) same (truly.nearly_full met))
    s name commands lines.told screen lines.lines

-- ---- lines one after another

lines_more : (P near : Type 0) (s : SessionValue) (name : List ℕ) (commands : List Command) (c : Command)
    (told some : List AnsweredCommand) (screen line : List ℕ)
    → AreAnsweredLines P near s name commands told screen
    → IsAnsweredLine P near s name c some line
    → AreAnsweredLines P near s name (commands ++ c ∷ []) (told ++ some) (screen ++ line)
lines_more P near s name [] c told some screen line lines is = (
  some,
  [],
  line,
  [],
  ap (λ (before : List AnsweredCommand). before ++ some) lines.0 ∙ sym (append-nil some),
  ap (λ (before : List ℕ). before ++ line) lines.1 ∙ sym (append-nil line),
  is,
  (refl, refl),
)
lines_more P near s name (first ∷ commands) c told some screen line lines is = (
  lines.0,
  lines.1 ++ some,
  lines.2,
  lines.3 ++ line,
  ap (λ (before : List AnsweredCommand). before ++ some) lines.4 ∙ append_assoc lines.0 lines.1 some,
  ap (λ (before : List ℕ). before ++ line) lines.5 ∙ append_assoc lines.2 lines.3 line,
  lines.6,
  lines_more P near s name commands c lines.1 some lines.3 line lines.7 is,
)

-- no commands show nothing
pub none_shown : (name : List ℕ) (s : SessionValue) → AreAnswered name [] s s []
none_shown name s = record { told = []; gains = (begun (λ told. None) s).gains; lines = (refl, refl) }

-- commands and a further one show what the further one shows after the screen of the others
pub one_shown : (name : List ℕ) (commands : List Command) (c : Command) (s t session : SessionValue)
    (screen more : List ℕ)
    → AreAnswered name commands s t screen
    → IsAnswered name c t session screen more → AreAnswered name (commands ++ c ∷ []) s session more
one_shown name commands c s t session screen more so_far line =
    let P : Type 0 = HasMetFull session in
    let near : Type 0 = HasMetNearlyFull session in
    let is : IsAnsweredLine P near s name c line.told line.line =
    line_for P near s so_far.told t.pass.met_full t.pass.met_nearly_full t.pass.met_no_room name c line.told line.line
    (subst (λ (v : SessionValue). IsAnsweredLine P near v name c line.told line.line) so_far.gains.list line.is_line) in
    record {
      told = so_far.told ++ line.told;
      gains = joined s t session so_far.told line.told so_far.gains line.gains;
      lines =
          subst
          (λ (text : List ℕ). AreAnsweredLines P near s name (commands ++ c ∷ []) (so_far.told ++ line.told) text)
          (sym line.text)
          (lines_more P near s name commands c so_far.told line.told screen line.line
          (lines_if line.gains.full line.gains.nearly_full s name commands so_far.told screen so_far.lines) is);
    }

-- one command more of those that are lent
pub lent_more : (name : List ℕ) (commands : List (Bor Command)) (i : ℕ) (other_command : Bor Command)
    (command : Bor Command)
    (s t session : SessionValue) (screen more : List ℕ)
    → i < length commands
    → command ≡ get_or commands i other_command
    → AreAnswered name (map (λ c. c.now) (take i commands)) s t screen
    → IsAnswered name command.now t session screen more
    → AreAnswered name (map (λ c. c.now) (take (i + 1) commands)) s session more
lent_more name commands i other_command command s t session screen more within is so_far line =
    subst (λ (cs : List Command). AreAnswered name cs s session more)
    (sym (ap (map (λ (c : Bor Command). c.now)) (take_more commands i other_command within)
    ∙ map-append (λ (c : Bor Command). c.now) (take i commands) (get_or commands i other_command ∷ [])))
    (one_shown name (map (λ c. c.now) (take i commands)) (get_or commands i other_command).now s t session
    screen more so_far
    (subst (λ (c : Bor Command). IsAnswered name c.now t session screen more) is line))

-- a session that gained some events, and then others, gained some
pub gains_more : (s t session : SessionValue) → GainsSome s t → GainsSome t session → GainsSome s session
gains_more s t session first second = (first.0 ++ second.0, joined s t session first.0 second.0 first.1 second.1)

-- a session that stays gained some, namely none
pub gains_none : (s : SessionValue) → GainsSome s s
gains_none s = ([], (begun (λ told. None) s).gains)

-- a line whose events are the last of the list
pub last_answered : {A E : Type 0} (outcome : Result A E) (name : List ℕ) (c : Command) (s t : SessionValue)
    (other_outcome : Result ⊤ Refusal) (asks : AsksLine c s other_outcome t) (before all : List AnsweredCommand)
    (screen more : List ℕ) → before ≡ s.pass.told → all ≡ t.pass.told → OnOk outcome (other_outcome ≢ Err NoMemory)
    → OnOk outcome (more
    ≡ screen ++ line_text name c
    (replies_told (take (length all - length before) (drop (length before) all))) other_outcome)
    → OnOk outcome (IsAnswered name c s t screen more)
last_answered (Err e) name c s t other_outcome asks before all screen more was is fine shown = tt
last_answered (Ok a) name c s t other_outcome asks before all screen more was is fine shown =
    answered name c s t other_outcome asks screen more fine
    (shown ∙ ap (λ (told : List AnsweredCommand). screen ++ line_text name c (replies_told told) other_outcome) last)
  where
    whole_list : all ≡ s.pass.told ++ asks.told
    whole_list = is ∙ ap (λ (v : SessionValue). v.pass.told) asks.gains.list

    behind : drop (length before) all ≡ asks.told
    behind =
        ap (λ (xs : List AnsweredCommand). drop (length xs) all) was ∙ ap (drop (length s.pass.told)) whole_list
        ∙ drop-append_seam s.pass.told asks.told

    so_many : length asks.told ≤ length all - length before
    so_many = omega (arith, ap length whole_list, ap length was, length-append s.pass.told asks.told)

    last : take (length all - length before) (drop (length before) all) ≡ asks.told
    last = ap (take (length all - length before)) behind ∙ take_all (length all - length before) asks.told so_many
