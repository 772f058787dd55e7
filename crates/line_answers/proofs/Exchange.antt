-- What a session asks, event by event.
use Rattle.std.proofs.Common.{◌≡◌, ℕ, ◌+◌, ◌<◌, Bool, true, false, List, [], ◌∷◌, ◌++◌, length, get_or, Some, None}
use Rattle.std.proofs.Common.{refl, sym, ap, ◌∙◌, subst, arith, append_assoc}
use Rattle.std.specs.Prelude.{slice_get, MatchResult, Result, Ok, Err, Option}
use Rattle.std.specs.List.{filter, list_all, list_any}
use Rattle.std.specs.Option.{option_map}
use Rattle.std.specs.Result.{IsErrAnd}
use Rattle.std.proofs.lemmas.List.{append-nil, length-append}
use Rattle.std.proofs.lemmas.List.Folds.{list_any-append, list_all-append}
use Rattle.std.proofs.lemmas.List.Elements.{filter-append}
use Rattle.std.proofs.lemmas.List.{map-append}
use Rattle.std.proofs.lemmas.Bool.{lt-ltb, le-ltb}
use Rattle.std.proofs.lemmas.Option.{slice_get-get_or, slice_get_past}
use Rattle.std.proofs.lemmas.Result.{err_from_is_err_and}
use Rattle.domain_core.specs.declared.event.Event.{Event}
use Rattle.domain_core.specs.declared.event.Event.TheVariants as event
use Rattle.domain_core.specs.declared.event.Reply.{Reply}
use Rattle.domain_core.specs.declared.event.Refusal.{Refusal}
use Rattle.domain_core.specs.declared.event.Refusal.TheVariants.{NoSuch, JournalFull, NoMemory}
use Rattle.domain_core.specs.declared.event.AnsweredCommand.{AnsweredCommand}
use Rattle.farm_service.specs.Answers.{IsTold}
use Rattle.farm_service.specs.Passes.{SessionValue, with_told, Gains}
use Rattle.answer_text.specs.Results.{replies_told}
use Rattle.line_answers.specs.Asks.{is_write, is_read, had_no_room, is_byte, write_replies, read_replies}
use Rattle.line_answers.specs.Asks.{next_config, next_write, next_read, next_collect, once, AreAsked}
use Rattle.line_answers.specs.Sessions.{HasMetFull, with_all, HasGained, AsksJust}

-- an event with its reply
abbrev pub told_of : Event → Reply → AnsweredCommand
told_of event reply = record { event = event; reply = reply }

asked_more : (next : List AnsweredCommand → Option Event) (before told : List AnsweredCommand)
    (other_told : AnsweredCommand)
    → AreAsked next before told → next (before ++ told) ≡ Some other_told.event
    → AreAsked next before (told ++ other_told ∷ [])
asked_more next before [] other_told given same = (
  subst (λ (b : List AnsweredCommand). next b ≡ Some other_told.event)
      (append-nil before) same,
  tt,
)
asked_more next before (u ∷ told) other_told given same = (
  given.0,
  asked_more next (before ++ u ∷ []) told other_told given.1
      (subst (λ (b : List AnsweredCommand). next b ≡ Some other_told.event)
      (sym (append_assoc before (u ∷ []) told)) same),
)

-- ---- what a session gains

-- the session with this list, and whether its user has met a journal that is full, or nearly full, or no room
abbrev pub with_list : SessionValue → List AnsweredCommand → Bool → Bool → Bool → SessionValue
with_list s list full nearly_full no_room =
    record s {
      pass = record s.pass {
        told = list;
        met_full = full;
        met_nearly_full = nearly_full;
        met_no_room = no_room;
      };
    }

-- the same session by equal notes
pub same_notes : (s : SessionValue) (told : List AnsweredCommand)
    (full other_full near other_near none other_none : Bool)
    → full ≡ other_full
    → near ≡ other_near → none ≡ other_none
    → with_all s told full near none ≡ with_all s told other_full other_near other_none
same_notes s told full other_full near other_near none other_none same same_near same_none =
    ap (λ (b : Bool). with_all s told b near none) same ∙ ap (λ (b : Bool). with_all s told other_full b none) same_near
    ∙ ap (λ (b : Bool). with_all s told other_full other_near b) same_none

-- one event more
gained_more : (s t session : SessionValue) (told : List AnsweredCommand) (e : Event) (r : Reply)
    → HasGained s t told → Gains t e (Ok r) session → HasGained s session (told ++ told_of e r ∷ [])
gained_more s t session told e r so_far gains =
    let same : session.pass.met_full ≡ t.pass.met_full = ap (λ (v : SessionValue). v.pass.met_full) gains in
    let same_nearly : session.pass.met_nearly_full ≡ t.pass.met_nearly_full =
    ap (λ (v : SessionValue). v.pass.met_nearly_full) gains in
    let same_none : session.pass.met_no_room ≡ t.pass.met_no_room =
    ap (λ (v : SessionValue). v.pass.met_no_room) gains in
    let told_all : List AnsweredCommand = told ++ told_of e r ∷ [] in record {
      list = gains ∙ ap (λ (v : SessionValue). record v { pass = with_told v.pass e r }) so_far.list
          ∙ ap (λ (list : List AnsweredCommand).
          with_list s list t.pass.met_full t.pass.met_nearly_full t.pass.met_no_room)
          (append_assoc s.pass.told told (told_of e r ∷ []))
          ∙ same_notes s told_all _ _ _ _ _ _ (sym same) (sym same_nearly) (sym same_none);
      full = λ met. same ∙ so_far.full met;
      nearly_full = λ met. same_nearly ∙ so_far.nearly_full met;
    }

-- anyone who is refused for a full journal has met it
now_met : (t session : SessionValue) (e : Event) (refusal : Refusal) → Gains t e (Err refusal) session
    → refusal ≡ JournalFull → HasMetFull session
now_met t session e refusal same is =
    ap (λ (v : SessionValue). v.pass.met_full)
    (subst (λ (r : Refusal). Gains t e (Err r) session) is same)

-- nothing by a refusal
gained_still : (s t session : SessionValue) (told : List AnsweredCommand) (e : Event) (refusal : Refusal)
    → HasGained s t told → Gains t e (Err refusal) session → HasGained s session told
gained_still s t session told e NoSuch so_far same =
    subst (λ (v : SessionValue). HasGained s v told) (sym same) so_far
gained_still s t session told e NoMemory so_far same =
    let met : session.pass.met_no_room ≡ true = ap (λ (v : SessionValue). v.pass.met_no_room) same in
    let same_full : session.pass.met_full ≡ t.pass.met_full = ap (λ (v : SessionValue). v.pass.met_full) same in
    let same_nearly : session.pass.met_nearly_full ≡ t.pass.met_nearly_full =
    ap (λ (v : SessionValue). v.pass.met_nearly_full) same in record {
      list = same ∙ ap (λ (v : SessionValue). record v { pass = record v.pass { met_no_room = true } }) so_far.list
          ∙ same_notes s told _ _ _ _ _ _ (sym same_full) (sym same_nearly) (sym met);
      full = λ before. same_full ∙ so_far.full before;
      nearly_full = λ before. same_nearly ∙ so_far.nearly_full before;
    }
gained_still s t session told e JournalFull so_far same =
    let met : HasMetFull session = now_met t session e JournalFull same refl in
    let same_nearly : session.pass.met_nearly_full ≡ t.pass.met_nearly_full =
    ap (λ (v : SessionValue). v.pass.met_nearly_full) same in
    let same_none : session.pass.met_no_room ≡ t.pass.met_no_room =
    ap (λ (v : SessionValue). v.pass.met_no_room) same in record {
      list = same ∙ ap (λ (v : SessionValue). record v { pass = record v.pass { met_full = true } }) so_far.list
          ∙ same_notes s told _ _ _ _ _ _ (sym met) (sym same_nearly) (sym same_none);
      full = λ before. met;
      nearly_full = λ before. same_nearly ∙ so_far.nearly_full before;
    }

-- what a session is answered, it is answered after a refusal too
told_still : (t session : SessionValue) (e : Event) (refusal : Refusal) → Gains t e (Err refusal) session
    → IsTold t e (Err refusal) → IsTold session e (Err refusal)
told_still t session e NoSuch same is = subst (λ (v : SessionValue). IsTold v e (Err NoSuch)) (sym same) is
told_still t session e JournalFull same is = subst (λ (v : SessionValue). IsTold v e (Err JournalFull)) (sym same) is
told_still t session e NoMemory same is = tt

-- a session has asked this so far
pub record IsAsking (next : List AnsweredCommand → Option Event) (s t : SessionValue)
    (told : List AnsweredCommand) : Type 0 where
  pub gains : HasGained s t told
  pub asked : AreAsked next [] told

-- one event more
pub grown : (next : List AnsweredCommand → Option Event) (s t session : SessionValue) (told : List AnsweredCommand)
    (e : Event) (r : Reply)
    → IsAsking next s t told
    → next told ≡ Some e → Gains t e (Ok r) session → IsAsking next s session (told ++ told_of e r ∷ [])
grown next s t session told e r so_far same gains = record {
  gains = gained_more s t session told e r so_far.gains gains;
  asked = asked_more next [] told (told_of e r) so_far.asked same;
}

-- the end, and a refusal
pub ended : {A : Type 0} (next : List AnsweredCommand → Option Event) (s t : SessionValue)
    (told : List AnsweredCommand) (a : A)
    → IsAsking next s t told → next told ≡ None
    → AsksJust next s (Ok a) t
ended next s t told a so_far same = record { told = told; gains = so_far.gains; asked = so_far.asked; ended = same }

-- an exchange ends with an error if the service refuses what is asked next
pub refused : {A : Type 0} (next : List AnsweredCommand → Option Event) (s t session : SessionValue)
    (told : List AnsweredCommand) (e : Event)
    (refusal : Refusal) (result : Result A Refusal)
    → IsAsking next s t told
    → next told ≡ Some e → Gains t e (Err refusal) session → IsTold t e (Err refusal)
    → IsErrAnd result (λ given. given ≡ refusal)
    → AsksJust next s result session
refused next s t session told e refusal result so_far equal same is returned =
    let exit = err_from_is_err_and result returned in
    subst (λ result. AsksJust next s result session) (sym (exit.1 ∙ ap Err exit.2)) (record {
      told = told;
      gains = gained_still s t session told e refusal so_far.gains same;
      asked = so_far.asked;
      ended = (e, equal, told_still t session e refusal same is, now_met t session e refusal same);
    })

-- before anything is asked
pub begun : (next : List AnsweredCommand → Option Event) (s : SessionValue) → IsAsking next s s []
begun next s = record {
  gains = record {
    list = ap (λ (told : List AnsweredCommand). record s { pass = record s.pass { told = told } })
        (sym (append-nil s.pass.told));
    full = λ met. met;
    nearly_full = λ met. met;
  };
  asked = tt;
}

one_longer : {A : Type 0} (xs : List A) (x : A) (i : ℕ) → length xs ≡ i → length (xs ++ x ∷ []) ≡ i + 1
one_longer xs x i is = length-append xs (x ∷ []) ∙ ap (λ (n : ℕ). n + 1) is

-- ---- bytes for the switch

-- that many configuration bytes were asked, and each was answered
pub record IsConfiguring (bytes : List ℕ) (s t : SessionValue) (i : ℕ) : Type 0 where
  pub told : List AnsweredCommand
  pub so_far : IsAsking (next_config bytes) s t told
  pub count : length told ≡ i

config_next : (bytes : List ℕ) (told : List AnsweredCommand) (i : ℕ) → length told ≡ i → i < length bytes
    → next_config bytes told ≡ Some (event.Config (get_or bytes i 0))
config_next bytes told i count within =
    ap (λ (n : ℕ). option_map event.Config (slice_get bytes n)) count
    ∙ ap (option_map event.Config) (slice_get-get_or bytes i 0 within)

-- at the beginning no byte was asked
pub config_begun : (bytes : List ℕ) (s : SessionValue) → IsConfiguring bytes s s 0
config_begun bytes s = record { told = []; so_far = begun (next_config bytes) s; count = refl }

-- the next byte is asked, and answered
pub config_more : (bytes : List ℕ) (s t session : SessionValue) (i : ℕ) (r : Reply) → IsConfiguring bytes s t i
    → i < length bytes
    → Gains t (event.Config (get_or bytes i 0)) (Ok r) session → IsConfiguring bytes s session (i + 1)
config_more bytes s t session i r was within gains = record {
  told = was.told ++ told_of (event.Config (get_or bytes i 0)) r ∷ [];
  so_far =
      grown (next_config bytes) s t session was.told _ r was.so_far
      (config_next bytes was.told i was.count within) gains;
  count = one_longer was.told _ i was.count;
}

-- all bytes were asked
pub config_ended : {A : Type 0} (bytes : List ℕ) (s t : SessionValue) (a : A) → IsConfiguring bytes s t (length bytes)
    → AsksJust (next_config bytes) s (Ok a) t
config_ended bytes s t a was =
    ended (next_config bytes) s t was.told a was.so_far
    (ap (λ (n : ℕ). option_map event.Config (slice_get bytes n)) was.count
    ∙ ap (option_map event.Config) (slice_get_past bytes (length bytes) (omega arith)))

-- the next byte is refused, which ends the line
pub config_refused : {A : Type 0} (bytes : List ℕ) (s t session : SessionValue) (i : ℕ) (refusal : Refusal)
    (result : Result A Refusal)
    → IsConfiguring bytes s t i
    → i < length bytes
    → Gains t (event.Config (get_or bytes i 0)) (Err refusal) session
    → IsTold t (event.Config (get_or bytes i 0)) (Err refusal)
    → IsErrAnd result (λ given. given ≡ refusal)
    → AsksJust (next_config bytes) s result session
config_refused bytes s t session i refusal result was within same is returned =
    refused (next_config bytes) s t session was.told _ refusal result was.so_far
    (config_next bytes was.told i was.count within)
    same is returned

-- ---- bytes for a host

writes_more : (host byte : ℕ) (told : List AnsweredCommand) (r : Reply)
    → write_replies (told ++ told_of (event.Write host byte) r ∷ []) ≡ write_replies told ++ r ∷ []
writes_more host byte told r =
    ap replies_told (filter-append (λ t. is_write t.event) told (told_of (event.Write host byte) r ∷ []))
    ∙ map-append (λ t. t.reply) (filter (λ t. is_write t.event) told) (told_of (event.Write host byte) r ∷ [])

reads_more : (host : ℕ) (told : List AnsweredCommand) (r : Reply)
    → read_replies (told ++ told_of (event.Read host) r ∷ []) ≡ read_replies told ++ r ∷ []
reads_more host told r =
    ap replies_told (filter-append (λ t. is_read t.event) told (told_of (event.Read host) r ∷ []))
    ∙ map-append (λ t. t.reply) (filter (λ t. is_read t.event) told) (told_of (event.Read host) r ∷ [])

-- the host had room so far
pub record IsWriting (host : ℕ) (bytes : List ℕ) (s t : SessionValue) (i : ℕ) : Type 0 where
  pub told : List AnsweredCommand
  pub so_far : IsAsking (next_write host bytes) s t told
  pub room : list_any had_no_room (write_replies told) ≡ false
  pub count : length (write_replies told) ≡ i

write_next : (host : ℕ) (bytes : List ℕ) (told : List AnsweredCommand) (i : ℕ)
    → list_any had_no_room (write_replies told) ≡ false → length (write_replies told) ≡ i
    → i < length bytes
    → next_write host bytes told ≡ Some (event.Write host (get_or bytes i 0))
write_next host bytes told i room count within =
    rw room (ap (λ (n : ℕ). option_map (event.Write host) (slice_get bytes n)) count
    ∙ ap (option_map (event.Write host)) (slice_get-get_or bytes i 0 within))

-- at the beginning no byte was written
pub write_begun : (host : ℕ) (bytes : List ℕ) (s : SessionValue) → IsWriting host bytes s s 0
write_begun host bytes s = record { told = []; so_far = begun (next_write host bytes) s; room = refl; count = refl }

-- the next byte is written, and the host has room for it
pub write_more : (host : ℕ) (bytes : List ℕ) (s t session : SessionValue) (i : ℕ) (r : Reply)
    → IsWriting host bytes s t i
    → i < length bytes
    → Gains t (event.Write host (get_or bytes i 0)) (Ok r) session → had_no_room r ≡ false
    → IsWriting host bytes s session (i + 1)
write_more host bytes s t session i r was within gains roomy =
    let more = writes_more host (get_or bytes i 0) was.told r in record {
      told = was.told ++ told_of (event.Write host (get_or bytes i 0)) r ∷ [];
      so_far =
          grown (next_write host bytes) s t session was.told _ r was.so_far
          (write_next host bytes was.told i was.room was.count within) gains;
      room =
          ap (list_any had_no_room) more ∙ list_any-append had_no_room (write_replies was.told) (r ∷ [])
          ∙ rw was.room (rw roomy refl);
      count = ap length more ∙ one_longer (write_replies was.told) r i was.count;
    }

-- the host was full
pub write_full : {A : Type 0} (host : ℕ) (bytes : List ℕ) (s t session : SessionValue) (i : ℕ) (r : Reply) (a : A)
    → IsWriting host bytes s t i
    → i < length bytes
    → Gains t (event.Write host (get_or bytes i 0)) (Ok r) session → had_no_room r ≡ true
    → AsksJust (next_write host bytes) s (Ok a) session
write_full host bytes s t session i r a was within gains full =
    let more = writes_more host (get_or bytes i 0) was.told r in
    let over : list_any had_no_room (write_replies (was.told ++ told_of (event.Write host (get_or bytes i 0)) r ∷ []))
    ≡ true =
    ap (list_any had_no_room) more ∙ list_any-append had_no_room (write_replies was.told) (r ∷ [])
    ∙ rw was.room (rw full refl) in
    ended (next_write host bytes) s session _ a
    (grown (next_write host bytes) s t session was.told _ r was.so_far
    (write_next host bytes was.told i was.room was.count within) gains)
    (rw over refl)

-- all bytes were written
pub write_ended : {A : Type 0} (host : ℕ) (bytes : List ℕ) (s t : SessionValue) (a : A)
    → IsWriting host bytes s t (length bytes)
    → AsksJust (next_write host bytes) s (Ok a) t
write_ended host bytes s t a was =
    ended (next_write host bytes) s t was.told a was.so_far
    (rw was.room (ap (λ (n : ℕ). option_map (event.Write host) (slice_get bytes n)) was.count
    ∙ ap (option_map (event.Write host)) (slice_get_past bytes (length bytes) (omega arith))))

-- the next byte is refused, which ends the line
pub write_refused : {A : Type 0} (host : ℕ) (bytes : List ℕ) (s t session : SessionValue) (i : ℕ) (refusal : Refusal)
    (result : Result A Refusal)
    → IsWriting host bytes s t i
    → i < length bytes
    → Gains t (event.Write host (get_or bytes i 0)) (Err refusal) session
    → IsTold t (event.Write host (get_or bytes i 0)) (Err refusal)
    → IsErrAnd result (λ given. given ≡ refusal)
    → AsksJust (next_write host bytes) s result session
write_refused host bytes s t session i refusal result was within same is returned =
    refused (next_write host bytes) s t session was.told _ refusal result was.so_far
    (write_next host bytes was.told i was.room was.count within) same is returned

-- ---- bytes of a host

-- each read brought a byte so far
pub record IsReading (host count : ℕ) (s t : SessionValue) (i : ℕ) : Type 0 where
  pub told : List AnsweredCommand
  pub so_far : IsAsking (next_read host count) s t told
  pub bytes : list_all is_byte (read_replies told) ≡ true
  pub so_many : length (read_replies told) ≡ i

read_next : (host count : ℕ) (told : List AnsweredCommand) (i : ℕ)
    → list_all is_byte (read_replies told) ≡ true → length (read_replies told) ≡ i
    → i < count
    → next_read host count told ≡ Some (event.Read host)
read_next host count told i bytes length_is within = rw bytes (rw length_is (rw (lt-ltb i count within) refl))

-- at the beginning nothing was read
pub read_begun : (host count : ℕ) (s : SessionValue) → IsReading host count s s 0
read_begun host count s = record { told = []; so_far = begun (next_read host count) s; bytes = refl; so_many = refl }

-- the next read brings a byte
pub read_more : (host count : ℕ) (s t session : SessionValue) (i : ℕ) (r : Reply)
    → IsReading host count s t i → i < count
    → Gains t (event.Read host) (Ok r) session → is_byte r ≡ true → IsReading host count s session (i + 1)
read_more host count s t session i r was within gains byte =
    let more = reads_more host was.told r in record {
      told = was.told ++ told_of (event.Read host) r ∷ [];
      so_far =
          grown (next_read host count) s t session was.told _ r was.so_far
          (read_next host count was.told i was.bytes was.so_many within) gains;
      bytes =
          ap (list_all is_byte) more ∙ list_all-append is_byte (read_replies was.told) (r ∷ [])
          ∙ rw was.bytes (rw byte refl);
      so_many = ap length more ∙ one_longer (read_replies was.told) r i was.so_many;
    }

-- none had come
pub read_none : {A : Type 0} (host count : ℕ) (s t session : SessionValue) (i : ℕ) (r : Reply) (a : A)
    → IsReading host count s t i
    → i < count
    → Gains t (event.Read host) (Ok r) session → is_byte r ≡ false → AsksJust (next_read host count) s (Ok a) session
read_none host count s t session i r a was within gains none =
    let more = reads_more host was.told r in
    let over : list_all is_byte (read_replies (was.told ++ told_of (event.Read host) r ∷ [])) ≡ false =
    ap (list_all is_byte) more ∙ list_all-append is_byte (read_replies was.told) (r ∷ [])
    ∙ rw was.bytes (rw none refl) in
    ended (next_read host count) s session _ a
    (grown (next_read host count) s t session was.told _ r was.so_far
    (read_next host count was.told i was.bytes was.so_many within) gains)
    (rw over refl)

-- that many bytes came as were asked for
pub read_ended : {A : Type 0} (host count : ℕ) (s t : SessionValue) (a : A) → IsReading host count s t count
    → AsksJust (next_read host count) s (Ok a) t
read_ended host count s t a was =
    ended (next_read host count) s t was.told a was.so_far
    (rw was.bytes (rw was.so_many (rw (le-ltb count count (omega arith)) refl)))

-- the next read is refused, which ends the line
pub read_refused : {A : Type 0} (host count : ℕ) (s t session : SessionValue) (i : ℕ) (refusal : Refusal)
    (result : Result A Refusal)
    → IsReading host count s t i
    → i < count
    → Gains t (event.Read host) (Err refusal) session → IsTold t (event.Read host) (Err refusal)
    → IsErrAnd result (λ given. given ≡ refusal)
    → AsksJust (next_read host count) s result session
read_refused host count s t session i refusal result was within same is returned =
    refused (next_read host count) s t session was.told _ refusal result was.so_far
    (read_next host count was.told i was.bytes was.so_many within) same is returned

-- the same of all bytes
pub record IsCollecting (host : ℕ) (s t : SessionValue) : Type 0 where
  pub told : List AnsweredCommand
  pub so_far : IsAsking (next_collect host) s t told
  pub bytes : list_all is_byte (read_replies told) ≡ true

-- at the beginning nothing was read
pub collect_begun : (host : ℕ) (s : SessionValue) → IsCollecting host s s
collect_begun host s = record { told = []; so_far = begun (next_collect host) s; bytes = refl }

collect_next : (host : ℕ) (told : List AnsweredCommand) → list_all is_byte (read_replies told) ≡ true
    → next_collect host told ≡ Some (event.Read host)
collect_next host told bytes = rw bytes refl

-- the next read brings a byte
pub collect_more : (host : ℕ) (s t session : SessionValue) (r : Reply)
    → IsCollecting host s t → Gains t (event.Read host) (Ok r) session → is_byte r ≡ true
    → IsCollecting host s session
collect_more host s t session r was gains byte =
    let more = reads_more host was.told r in record {
      told = was.told ++ told_of (event.Read host) r ∷ [];
      so_far = grown (next_collect host) s t session was.told _ r was.so_far
          (collect_next host was.told was.bytes) gains;
      bytes =
          ap (list_all is_byte) more ∙ list_all-append is_byte (read_replies was.told) (r ∷ [])
          ∙ rw was.bytes (rw byte refl);
    }

-- the next read brings no byte, which ends the line
pub collect_none : {A : Type 0} (host : ℕ) (s t session : SessionValue) (r : Reply) (a : A)
    → IsCollecting host s t → Gains t (event.Read host) (Ok r) session
    → is_byte r ≡ false
    → AsksJust (next_collect host) s (Ok a) session
collect_none host s t session r a was gains none =
    let more = reads_more host was.told r in
    let over : list_all is_byte (read_replies (was.told ++ told_of (event.Read host) r ∷ [])) ≡ false =
    ap (list_all is_byte) more ∙ list_all-append is_byte (read_replies was.told) (r ∷ [])
    ∙ rw was.bytes (rw none refl) in
    ended (next_collect host) s session _ a
    (grown (next_collect host) s t session was.told _ r was.so_far (collect_next host was.told was.bytes) gains)
    (rw over refl)

-- the next read is refused, which ends the line
pub collect_refused : {A : Type 0} (host : ℕ) (s t session : SessionValue) (refusal : Refusal)
    (result : Result A Refusal) → IsCollecting host s t
    → Gains t (event.Read host) (Err refusal) session → IsTold t (event.Read host) (Err refusal)
    → IsErrAnd result (λ given. given ≡ refusal)
    → AsksJust (next_collect host) s result session
collect_refused host s t session refusal result was same is returned =
    refused (next_collect host) s t session was.told _ refusal result was.so_far
    (collect_next host was.told was.bytes) same is returned

-- ---- one event

-- an event that is taken or refused is exactly what is asked
pub once_asked : {A : Type 0} (e : Event) (s t : SessionValue) (answer : Result Reply Refusal) (a : A)
    (result : Result A Refusal) → IsTold s e answer
    → Gains s e answer t
    → MatchResult answer (λ reply. result ≡ Ok a) (λ refusal. result ≡ Err refusal)
    → AsksJust (once e) s result t
once_asked e s t (Ok reply) a result is gains same =
    subst (λ result. AsksJust (once e) s result t) (sym same)
    (ended (once e) s t (told_of e reply ∷ []) a (grown (once e) s s t [] e reply (begun (once e) s) refl gains) refl)
once_asked e s t (Err refusal) a result is gains same =
    refused (once e) s s t [] e refusal result (begun (once e) s) refl gains is
    (subst (λ result. IsErrAnd result (λ given. given ≡ refusal)) (sym same) refl)
