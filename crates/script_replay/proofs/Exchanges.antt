-- What a line asks, event by event, and in one or two parts.
use Rattle.std.proofs.Common.{◌≡◌, ℕ, Bool, true, false, List, [], ◌∷◌, ◌++◌, Some, None, Ok, Err}
use Rattle.std.proofs.Common.{Result, Option, OnErr, refl, sym, ap, ◌∙◌, subst, append_assoc, inl, inr, ◌⊎◌}
use Rattle.std.specs.List.{filter}
use Rattle.std.proofs.Common.{if◌then◌else◌}
use Rattle.std.proofs.lemmas.List.{append-nil, map-append}
use Rattle.std.proofs.lemmas.List.Elements.{filter-append}
use Rattle.domain_core.specs.declared.event.Event.{Event}
use Rattle.domain_core.specs.declared.event.Reply.{Reply}
use Rattle.domain_core.specs.declared.event.Refusal.{Refusal}
use Rattle.domain_core.specs.declared.event.Refusal.TheVariants.{NoSuch, JournalFull, NoMemory}
use Rattle.domain_core.specs.Domain.{DomainValue, UnlessNoMemory}
use Rattle.domain_core.specs.PrivateFarm.{Answer, Call}
use Rattle.whole_farm.specs.Laws.{RunsAddUp}
use Rattle.domain_core.specs.declared.event.AnsweredCommand.{AnsweredCommand}
use Rattle.answer_text.specs.Results.{replies_told}
use Rattle.farm_replay.specs.Runs.{HaveRun, HasGoneOn}
use Rattle.script_replay.proofs.Runs.{no_calls, more_calls, gone_nowhere}
use Rattle.script_lines.specs.declared.command.Command.{Command}
use Rattle.script_lines.specs.declared.command.Command.TheVariants.{Config, Write, Boot, Poke, Peek, Collect, Reset, Look}
use Rattle.line_answers.specs.Asks.{is_read, next_event, read_replies, AreAsked}
use Rattle.line_answers.specs.Lines.{IsUnsettled}
use Rattle.script_replay.specs.declared.asks.UserLine.{UserLine}
use Rattle.script_replay.specs.Lines.{call_of_line, calls_of_line, answers_told, AsksOn}
use Rattle.script_replay.specs.Lines.{IsStoppedBy, IsAtEnd, HasStopped, is_peek, GoesOnIf, HasEndedOn, AsksWhole}

-- an event with its reply
abbrev pub told_of : Event → Reply → AnsweredCommand
told_of event reply = record { event = event; reply = reply }

asked_more : (next : List AnsweredCommand → Option Event) (before told : List AnsweredCommand)
    (other_told : AnsweredCommand)
    → AreAsked next before told → next (before ++ told) ≡ Some other_told.event
    → AreAsked next before (told ++ other_told ∷ [])
asked_more next before [] other_told given same = (
  subst (λ (b : List AnsweredCommand). next b ≡ Some other_told.event)
      (append-nil before) same,
  tt,
)
asked_more next before (u ∷ told) other_told given same = (
  given.0,
  asked_more next (before ++ u ∷ []) told other_told given.1
      (subst (λ (b : List AnsweredCommand). next b ≡ Some other_told.event)
      (sym (append_assoc before (u ∷ []) told)) same),
)

asked_append : (next : List AnsweredCommand → Option Event) (before xs ys : List AnsweredCommand)
    → AreAsked next before xs → AreAsked next (before ++ xs) ys
    → AreAsked next before (xs ++ ys)
asked_append next before [] ys some more = subst (λ (b : List AnsweredCommand). AreAsked next b ys)
    (append-nil before) more
asked_append next before (x ∷ xs) ys some more = (
  some.0,
  asked_append next (before ++ x ∷ []) xs ys some.1
      (subst (λ (b : List AnsweredCommand). AreAsked next b ys) (sym (append_assoc before (x ∷ []) xs)) more),
)

-- before anything is asked
pub asks_nothing : (l : UserLine) (told : List AnsweredCommand) (domains : List DomainValue)
    → AsksOn l told told domains domains
asks_nothing l told domains = record { more = []; list = sym (append-nil told); asked = tt; run = no_calls domains }

-- one event more
pub asks_more : RunsAddUp
    → (l : UserLine) (before told after : List AnsweredCommand) (domains other_domains third_domains : List DomainValue)
    (e : Event) (r : Reply)
    → AsksOn l before told domains other_domains → next_event l.command told ≡ Some e → after ≡ told ++ told_of e r ∷ []
    → HaveRun other_domains third_domains (call_of_line l e ∷ []) (Ok r ∷ [])
    → AsksOn l before after domains third_domains
asks_more law l before told after domains other_domains third_domains e r was same is one =
    let t = told_of e r in
    let calls : calls_of_line l (was.more ++ t ∷ []) ≡ calls_of_line l was.more ++ call_of_line l e ∷ [] =
    map-append (λ (t : AnsweredCommand). call_of_line l t.event) was.more (t ∷ []) in
    let answers : answers_told (was.more ++ t ∷ []) ≡ answers_told was.more ++ Ok r ∷ [] =
    map-append (λ (t : AnsweredCommand). let answer : Answer = Ok t.reply in answer) was.more (t ∷ []) in
    let both =
    more_calls law domains other_domains third_domains (calls_of_line l was.more) (call_of_line l e ∷ [])
    (answers_told was.more) (Ok r ∷ []) was.run one in
    record {
      more = was.more ++ t ∷ [];
      list = is ∙ ap (λ (xs : List AnsweredCommand). xs ++ t ∷ []) was.list ∙ append_assoc before was.more (t ∷ []);
      asked =
          asked_more (next_event l.command) before was.more t was.asked
          (subst (λ (xs : List AnsweredCommand). next_event l.command xs ≡ Some e) was.list same);
      run = subst (λ (asked : List (ℕ × Call)). HaveRun domains third_domains asked
          (answers_told (was.more ++ t ∷ []))) (sym calls)
          (subst (λ (told : List Answer). HaveRun domains third_domains
          (calls_of_line l was.more ++ call_of_line l e ∷ []) told)
          (sym answers) both);
    }

-- an event that isn't a read adds no reply to a read
pub still_unread : (before told after : List AnsweredCommand) (e : Event) (r : Reply) (stops : Bool)
    → (stops ≡ true → read_replies before ≡ [] → read_replies told ≡ [])
    → after ≡ told ++ told_of e r ∷ [] → (stops ≡ true → is_read e ≡ false)
    → stops ≡ true → read_replies before ≡ [] → read_replies after ≡ []
still_unread before told after e r stops was is other stop none =
    ap read_replies is
    ∙ ap replies_told (filter-append (λ (t : AnsweredCommand). is_read t.event) told (told_of e r ∷ []))
    ∙ map-append (λ (t : AnsweredCommand). t.reply) (filter (λ (t : AnsweredCommand). is_read t.event) told)
    (filter (λ (t : AnsweredCommand). is_read t.event) (told_of e r ∷ []))
    ∙ (λ i. was stop none i ++ replies_told (one (is_read e) (other stop) i))
  where
    one : (reads : Bool) → reads ≡ false → (if reads then told_of e r ∷ [] else []) ≡ []
    one true same = absurd cc
    one false same = refl

-- ---- how it stops

-- a line that asks nothing more is at its end, whether or not it stops before it reads
pub at_end : (stops : Bool) (l : UserLine) (told : List AnsweredCommand) → next_event l.command told ≡ None
    → IsAtEnd stops l told
at_end true l told none = tt
at_end false l told none = none

-- a line that stops before it reads may stop anywhere
pub before_reads : (stops : Bool) (l : UserLine) (told : List AnsweredCommand) → stops ≡ true → IsAtEnd stops l told
before_reads stops l told is = subst (λ (s : Bool). IsAtEnd s l told) (sym is) tt

-- what is asked next is refused, which changes nothing
pub refused_next : (l : UserLine) (told : List AnsweredCommand) (old new : List DomainValue) (e : Event)
    (refusal : Refusal)
    → next_event l.command told ≡ Some e → new ≡ old
    → UnlessNoMemory (Err refusal) (HaveRun old new (call_of_line l e ∷ []) (Err refusal ∷ []))
    → IsStoppedBy l told new refusal
refused_next l told old new e NoSuch equal same run =
    record {
      event = e;
      next = equal;
      run =
          subst (λ (d : List DomainValue). HaveRun d new (call_of_line l e ∷ []) (Err NoSuch ∷ [])) (sym same) run;
    }
refused_next l told old new e JournalFull equal same run =
    record {
      event = e;
      next = equal;
      run =
          subst (λ (d : List DomainValue). HaveRun d new (call_of_line l e ∷ []) (Err JournalFull ∷ []))
          (sym same) run;
    }
refused_next l told old new e NoMemory equal same run = tt

-- what was asked holds if the domains stay then
pub asks_still : (l : UserLine) (before after : List AnsweredCommand)
    (domains other_domains third_domains : List DomainValue)
    → AsksOn l before after domains other_domains → third_domains ≡ other_domains
    → AsksOn l before after domains third_domains
asks_still l before after domains other_domains third_domains asks same =
    subst (AsksOn l before after domains) (sym same) asks

-- ---- a whole line

stays_if : (goes : Bool) (domain : ℕ) (domains : List DomainValue) → GoesOnIf goes domain domains domains
stays_if true domain domains = gone_nowhere domain domains
stays_if false domain domains = refl

ended : {A : Type 0} (l : UserLine) (told : List AnsweredCommand) (domains : List DomainValue)
    (outcome : Result A Refusal)
    → HasStopped false l told domains outcome
    → HasEndedOn l told domains outcome
ended l told domains (Ok a) stopped = stopped
ended l told domains (Err refusal) stopped = inl stopped

-- a line of one part
pub one_part : {A : Type 0} (l : UserLine) (none told : List AnsweredCommand)
    (old new : List DomainValue) (outcome : Result A Refusal)
    → none ≡ [] → AsksOn l none told old new → HasEndedOn l told new outcome
    → AsksWhole l told old new outcome
one_part l none told old new outcome is asks over =
    let own : AsksOn l [] told old new =
    subst (λ (before : List AnsweredCommand). AsksOn l before told old new) is asks in
    record {
      first = own.more;
      second = [];
      before = new;
      after = new;
      list = own.list ∙ sym (append-nil own.more);
      asked = subst (AreAsked (next_event l.command) []) (sym own.list) own.asked;
      begun = own.run;
      between = stays_if (is_peek l.command) l.domain new;
      finished = no_calls new;
      ended = over;
    }

-- the same of a line that stopped as `ask_on` does
pub one_part_ended : {A : Type 0} (l : UserLine) (none told : List AnsweredCommand)
    (old new : List DomainValue) (outcome : Result A Refusal)
    → none ≡ [] → AsksOn l none told old new → HasStopped false l told new outcome
    → AsksWhole l told old new outcome
one_part_ended l none told old new outcome is asks stopped =
    one_part l none told old new outcome is asks (ended l told new outcome stopped)

-- the same of a line that was refused
pub one_part_refused : {A : Type 0} (l : UserLine) (none told : List AnsweredCommand)
    (old new : List DomainValue) (refusal : Refusal)
    → none ≡ []
    → AsksOn l none told old new
    → IsStoppedBy l told new refusal → AsksWhole {A = A} l told old new (Err refusal)
one_part_refused l none told old new refusal is asks stopped =
    one_part l none told old new (Err refusal) is asks (inl stopped)

goes_if : (goes : Bool) (domain : ℕ) (old new : List DomainValue) → goes ≡ true → HasGoneOn domain old new
    → GoesOnIf goes domain old new
goes_if goes domain old new is gone = subst (λ (g : Bool). GoesOnIf g domain old new) (sym is) gone

-- a peek whose domain can't go on
unsettled : {A : Type 0} (l : UserLine) (none told : List AnsweredCommand)
    (old mid new : List DomainValue) (refusal : Refusal)
    → none ≡ [] → is_peek l.command ≡ true
    → AsksOn l none told old mid
    → HasGoneOn l.domain mid new
    → IsStoppedBy l told new refusal ⊎ IsUnsettled l.command told refusal
    → AsksWhole {A = A} l told old new (Err refusal)
unsettled l none told old mid new refusal is peeks asks gone over =
    let own : AsksOn l [] told old mid =
    subst (λ (before : List AnsweredCommand). AsksOn l before told old mid) is asks in
    record {
      first = own.more;
      second = [];
      before = mid;
      after = new;
      list = own.list ∙ sym (append-nil own.more);
      asked = subst (AreAsked (next_event l.command) []) (sym own.list) own.asked;
      begun = own.run;
      between = goes_if (is_peek l.command) l.domain mid new peeks gone;
      finished = no_calls new;
      ended = over;
    }

-- a peek of two parts
pub two_parts : {A : Type 0} (l : UserLine) (none half told : List AnsweredCommand)
    (old mid on new : List DomainValue) (outcome : Result A Refusal)
    → none ≡ [] → is_peek l.command ≡ true → AsksOn l none half old mid → HasGoneOn l.domain mid on
    → AsksOn l half told on new → HasStopped false l told new outcome
    → AsksWhole l told old new outcome
two_parts l none half told old mid on new outcome is peeks asks gone rest stopped =
    let own : AsksOn l [] half old mid =
    subst (λ (before : List AnsweredCommand). AsksOn l before half old mid) is asks in
    let list : told ≡ own.more ++ rest.more =
    rest.list ∙ ap (λ (xs : List AnsweredCommand). xs ++ rest.more) own.list in
    record {
      first = own.more;
      second = rest.more;
      before = mid;
      after = on;
      list = list;
      asked = subst (AreAsked (next_event l.command) []) (sym list)
          (asked_append (next_event l.command) [] own.more rest.more own.asked
          (subst (λ (b : List AnsweredCommand). AreAsked (next_event l.command) b rest.more) own.list rest.asked));
      begun = own.run;
      between = goes_if (is_peek l.command) l.domain mid on peeks gone;
      finished = rest.run;
      ended = ended l told new outcome stopped;
    }

-- ---- the same of results that are known by equations

-- a line stops at its end if the code finds no next event
pub stops_at_end : (stops : Bool) (l : UserLine) (told : List AnsweredCommand) (event : Option Event)
    → event ≡ next_event l.command told → event ≡ None
    → IsAtEnd stops l told
stops_at_end stops l told event next none = at_end stops l told (sym next ∙ none)

-- a line stops if the farm refuses the event that the code finds
pub stops_refused : (l : UserLine) (told : List AnsweredCommand) (old new : List DomainValue) (event : Option Event)
    (e : Event)
    (answer : Answer) (refusal : Refusal)
    → event ≡ next_event l.command told → event ≡ Some e → answer ≡ Err refusal → OnErr answer (new ≡ old)
    → UnlessNoMemory answer (HaveRun old new (call_of_line l e ∷ []) (answer ∷ []))
    → IsStoppedBy l told new refusal
stops_refused l told old new event e (Ok x) refusal next is refused same run = absurd cc
stops_refused l told old new event e (Err x) refusal next is refused same run =
    let equal : x ≡ refusal = same_error x refusal refused in
    subst (IsStoppedBy l told new) equal (refused_next l told old new e x (sym next ∙ is) same run)
  where
    error_in : Answer → Refusal
    error_in (Ok reply) = NoMemory
    error_in (Err refusal) = refusal

    same_error : (x y : Refusal) → (let r : Answer = Err x in r) ≡ Err y → x ≡ y
    same_error x y same = ap error_in same

-- a peek that is refused before it reads asks all that it asks
pub peeks_refused : {A B : Type 0} (l : UserLine) (none told : List AnsweredCommand) (old new : List DomainValue)
    (outcome : Result B Refusal) (stops : Bool) (refusal : Refusal)
    → none ≡ [] → outcome ≡ Err refusal
    → AsksOn l none told old new
    → HasStopped stops l told new outcome → AsksWhole {A = A} l told old new (Err refusal)
peeks_refused l none told old new (Ok x) stops refusal is refused asks stopped = absurd cc
peeks_refused {A} {B} l none told old new (Err x) stops refusal is refused asks stopped =
    one_part_refused l none told old new refusal is asks (subst (IsStoppedBy l told new) (ap error_in refused) stopped)
  where
    error_in : Result B Refusal → Refusal
    error_in (Ok x) = NoMemory
    error_in (Err refusal) = refusal

-- a peek that hasn't read yet may end by a full journal
full_peek : (command : Command) (told : List AnsweredCommand) → is_peek command ≡ true → read_replies told ≡ []
    → IsUnsettled command told JournalFull
full_peek (Peek host address) told peeks unread = unread
full_peek (Config bytes) told peeks unread = absurd cc
full_peek (Write host bytes) told peeks unread = absurd cc
full_peek (Boot host code) told peeks unread = absurd cc
full_peek (Poke host address word) told peeks unread = absurd cc
full_peek (Collect host) told peeks unread = absurd cc
full_peek (Reset node) told peeks unread = absurd cc
full_peek (Look node) told peeks unread = absurd cc

-- a peek whose domain can't settle for a full journal asks all that it asks
pub peeks_full : {A : Type 0} (l : UserLine) (none told : List AnsweredCommand) (old mid new : List DomainValue)
    (stops peeks : Bool)
    → none ≡ [] → peeks ≡ is_peek l.command
    → peeks ≡ true → stops ≡ true
    → (stops ≡ true → read_replies none ≡ [] → read_replies told ≡ [])
    → AsksOn l none told old mid → HasGoneOn l.domain mid new → AsksWhole {A = A} l told old new (Err JournalFull)
peeks_full l none told old mid new stops peeks is peek it stop unread asks gone =
    unsettled l none told old mid new JournalFull is (sym peek ∙ it) asks gone
    (inr (full_peek l.command told (sym peek ∙ it) (unread stop (ap read_replies is))))

-- a peek whose domain can't settle because memory ran out asks all that it asks
pub peeks_out_of_memory : {A : Type 0} (l : UserLine) (none told : List AnsweredCommand)
    (old mid new : List DomainValue)
    (peeks : Bool)
    → none ≡ [] → peeks ≡ is_peek l.command
    → peeks ≡ true
    → AsksOn l none told old mid → HasGoneOn l.domain mid new → AsksWhole {A = A} l told old new (Err NoMemory)
peeks_out_of_memory l none told old mid new peeks is peek it asks gone =
    unsettled l none told old mid new NoMemory is (sym peek ∙ it) asks gone (inl tt)

-- a peek that is asked in two parts asks all that it asks
pub peeks_whole : {A : Type 0} (l : UserLine) (none half told : List AnsweredCommand)
    (old mid on new : List DomainValue)
    (outcome : Result A Refusal) (peeks : Bool)
    → none ≡ [] → peeks ≡ is_peek l.command → peeks ≡ true → AsksOn l none half old mid → HasGoneOn l.domain mid on
    → AsksOn l half told on new → HasStopped false l told new outcome
    → AsksWhole l told old new outcome
peeks_whole l none half told old mid on new outcome peeks is peek it asks gone rest stopped =
    two_parts l none half told old mid on new outcome is (sym peek ∙ it) asks gone rest stopped
