-- A record that is done again, line by line: the clauses of the calls of `RecordCursor` and of `apply_record`, and the
-- law
-- `cursor_ends`.
use Rattle.std.specs.Prelude.{◌≡◌, ◌+◌, ◌-◌, ◌<◌, ◌≤◌, drop}
use Rattle.std.specs.Prelude.{take, ◌++◌, ◌∷◌, [], ℕ, List, length, replicate}
use Rattle.std.proofs.Common.{ap, sym, subst, ◌∙◌, arith, get_or, inl, inr}
use Rattle.std.proofs.Math.Nat.{eq-or-lt_of_le}
use Rattle.std.proofs.lemmas.List.{append_assoc, append-nil, at_drop_all, drop_more, get_or-map}
use Rattle.std.proofs.lemmas.List.{length-append, length-map, replicate-append-replicate, take_all, take_at}
use Rattle.plan_rules.specs.Data.{DomainData}
use Rattle.domain_core.specs.Moments.{MomentValue}
use Rattle.domain_core.specs.PrivateFarm.{Call}
use Rattle.farm_records.specs.declared.line.RecordedCall.{RecordedCall}
use Rattle.record_following.specs.declared.line.RecordedLine.{RecordedLine}
use Rattle.record_following.specs.declared.cursor.RecordCursor.{RecordCursor}
use Rattle.record_following.specs.Following.{calls_said, all_said, MovesOn, IsMomentAfter, MomentsGoOn}
use Rattle.record_following.specs.RecordCursor.{said_by, IsMomentAt, IsCursor, CursorEnds}

-- no call was said
none_said : (call : RecordedCall) → call.times ≡ 0 → calls_said call ≡ []
none_said call none =
    let one : Call = record { by = call.by; event = call.event } in
    ap (λ (n : ℕ). replicate n one) none

-- the moment after no call has recorded nothing
pub opened_empty : (plan : List DomainData) (m : MomentValue) → length plan ≡ 1 → IsMomentAfter plan 0 [] m
    → m.recorded ≡ 0
opened_empty [] m one after = absurd (omega (arith, one))
opened_empty (d ∷ more) m one after = after.1.recorded_is

-- a replayed domain as it was opened, with no line begun, is a cursor in any lines
pub opened_progress : (plan : List DomainData) (lines : List RecordedCall) (p : RecordCursor)
    → p.rest.times ≡ 0 → p.next ≡ 0 → IsMomentAfter plan 0 [] p.replayed → p.replayed.recorded ≡ 0
    → IsCursor plan lines p
opened_progress plan lines p none first after recorded = record {
  done = [];
  whole =
      ap (λ (calls : List Call). calls ++ all_said (drop p.next lines)) (none_said p.rest none)
      ∙ ap (λ (n : ℕ). all_said (drop n lines)) first;
  moment = after;
  recorded_is = recorded;
}

-- some calls of a line, and those left of it, are what was left of it before
parted : (rest : RecordedCall) (times : ℕ) → times ≤ rest.times
    → calls_said (record rest { times = times }) ++ calls_said (record rest { times = rest.times - times })
    ≡ calls_said rest
parted rest times less =
    let call : Call = record { by = rest.by; event = rest.event } in
    let sum : times + (rest.times - times) ≡ rest.times = omega arith in
    replicate-append-replicate times (rest.times - times) call ∙ ap (λ (n : ℕ). replicate n call) sum

-- a cursor that does some of the calls that are left of its line is a cursor in the same lines
pub some_followed : MomentsGoOn
    → (plan : List DomainData) (lines : List RecordedCall) (old new : RecordCursor) (times : ℕ)
    → IsCursor plan lines old
    → times ≤ old.rest.times → new.rest ≡ record old.rest { times = old.rest.times - times } → new.next ≡ old.next
    → MovesOn old.replayed (calls_said (record old.rest { times = times })) new.replayed
    → IsCursor plan lines new
some_followed go_on plan lines old new times was less rest next on =
    let first : List Call = calls_said (record old.rest { times = times }) in
    let others : List Call = calls_said (record old.rest { times = old.rest.times - times }) in
    let behind : List Call = all_said (drop old.next lines) in
    let left : calls_said new.rest ++ all_said (drop new.next lines) ≡ others ++ behind =
    ap (λ (r : RecordedCall). calls_said r ++ all_said (drop new.next lines)) rest
    ∙ ap (λ (n : ℕ). others ++ all_said (drop n lines)) next in
    let joined : first ++ (others ++ behind) ≡ calls_said old.rest ++ behind =
    sym (append_assoc first others behind) ∙ ap (λ (calls : List Call). calls ++ behind) (parted old.rest times less) in
    record {
      done = was.done ++ first;
      whole = ap (λ (calls : List Call). (was.done ++ first) ++ calls) left
          ∙ (append_assoc was.done first (others ++ behind)
          ∙ (ap (λ (calls : List Call). was.done ++ calls) joined ∙ was.whole));
      moment = go_on plan 0 was.done first old.replayed new.replayed was.moment on;
      recorded_is = omega (arith, on.follows.recorded_is, was.recorded_is, length-append was.done first);
    }

-- a cursor that has nothing left of its line, and begins the next, is a cursor in the same lines
pub line_begun : (plan : List DomainData) (lines : List RecordedLine) (old new : RecordCursor) (line : RecordedLine)
    → IsCursor plan (said_by lines) old → old.rest.times ≡ 0 → old.next < length lines
    → new.rest ≡ (get_or lines old.next line).call → new.next ≡ old.next + 1 → new.replayed ≡ old.replayed
    → IsCursor plan (said_by lines) new
line_begun plan lines old new other_line was none less rest next replayed =
    let call : RecordedLine → RecordedCall = λ line. line.call in
    let same : length (said_by lines) ≡ length lines = length-map lines call in
    let within : old.next < length (said_by lines) = omega arith in
    let here : get_or (said_by lines) old.next (call other_line) ≡ new.rest =
    get_or-map call lines old.next other_line (call other_line) less ∙ sym rest in
    let there : all_said (drop old.next (said_by lines))
    ≡ calls_said new.rest ++ all_said (drop new.next (said_by lines)) =
    ap all_said (drop_more (said_by lines) old.next (call other_line) within)
    ∙ (ap (λ (c : RecordedCall). calls_said c ++ all_said (drop (old.next + 1) (said_by lines))) here
    ∙ ap (λ (n : ℕ). calls_said new.rest ++ all_said (drop n (said_by lines))) (sym next)) in
    let before : calls_said old.rest ++ all_said (drop old.next (said_by lines))
    ≡ all_said (drop old.next (said_by lines)) =
    ap (λ (calls : List Call). calls ++ all_said (drop old.next (said_by lines))) (none_said old.rest none) in
    record {
      done = was.done;
      whole =
          ap (λ (calls : List Call). was.done ++ calls) (sym there)
          ∙ (ap (λ (calls : List Call). was.done ++ calls) (sym before) ∙ was.whole);
      moment = subst (λ (m : MomentValue). IsMomentAfter plan 0 was.done m) (sym replayed) was.moment;
      recorded_is = ap (λ (m : MomentValue). m.recorded) replayed ∙ was.recorded_is;
    }

-- if nothing is left of the last line, all calls of the lines were done
pub all_done : (plan : List DomainData) (lines : List RecordedCall) (p : RecordCursor)
    → (is : IsCursor plan lines p) → p.rest.times ≡ 0 → length lines ≤ p.next
    → is.done ≡ all_said lines
all_done plan lines p is none end =
    let left : calls_said p.rest ++ all_said (drop p.next lines) ≡ [] =
    ap (λ (calls : List Call). calls ++ all_said (drop p.next lines)) (none_said p.rest none)
    ∙ at_drop_all all_said lines p.next end in
    sym (append-nil is.done) ∙ (ap (λ (calls : List Call). is.done ++ calls) (sym left) ∙ is.whole)

-- so as many events are recorded as the lines have calls
pub all_recorded : (plan : List DomainData) (lines : List RecordedCall) (p : RecordCursor)
    → IsCursor plan lines p → p.rest.times ≡ 0 → length lines ≤ p.next
    → p.replayed.recorded ≡ length (all_said lines)
all_recorded plan lines p is none end = is.recorded_is ∙ ap length (all_done plan lines p is none end)

-- what was done are the first calls
first_done : (plan : List DomainData) (lines : List RecordedCall) (p : RecordCursor) → (is : IsCursor plan lines p)
    → take p.replayed.recorded (all_said lines) ≡ is.done
first_done plan lines p is =
    let left : List Call = calls_said p.rest ++ all_said (drop p.next lines) in
    ap (λ (calls : List Call). take p.replayed.recorded calls) (sym is.whole)
    ∙ take_at is.done left p.replayed.recorded (sym is.recorded_is)

-- a cursor that has done that many events is the moment after them
pub at_event : (plan : List DomainData) (lines : List RecordedCall) (p : RecordCursor) (event : ℕ)
    → IsCursor plan lines p → p.replayed.recorded ≡ event
    → IsMomentAt plan lines event p.replayed
at_event plan lines p event is there =
    subst (λ (calls : List Call). IsMomentAfter plan 0 calls p.replayed)
    (sym (ap (λ (n : ℕ). take n (all_said lines)) (sym there) ∙ first_done plan lines p is)) is.moment

-- if nothing is left of the last line, a cursor is the moment after any number of events from there on
pub at_end : (plan : List DomainData) (lines : List RecordedCall) (p : RecordCursor) (event : ℕ)
    → IsCursor plan lines p → p.rest.times ≡ 0 → length lines ≤ p.next → p.replayed.recorded ≤ event
    → IsMomentAt plan lines event p.replayed
at_end plan lines p event is none end within =
    let all : is.done ≡ all_said lines = all_done plan lines p is none end in
    let short : length (all_said lines) ≤ event = omega (arith, is.recorded_is, ap length all) in
    subst (λ (calls : List Call). IsMomentAfter plan 0 calls p.replayed)
    (all ∙ sym (take_all event (all_said lines) short)) is.moment

-- a cursor up to an event that stops there, or at the end, is the moment after that many events
pub led : (plan : List DomainData) (lines : List RecordedCall) (p : RecordCursor) (event : ℕ)
    → IsCursor plan lines p → p.replayed.recorded ≤ event → (p.replayed.recorded < event → p.rest.times ≡ 0)
    → (p.replayed.recorded < event → length lines ≤ p.next)
    → IsMomentAt plan lines event p.replayed
led plan lines p event is within none end =
    elim (eq-or-lt_of_le within) as (λ c. IsMomentAt plan lines event p.replayed) [
      | inl there ↦ at_event plan lines p event is there
      | inr before ↦ at_end plan lines p event is (none before) (end before) within
    ]

-- if nothing is left of the lines, all their calls were done
pub ends : CursorEnds
ends plan lines p is none end =
    at_event plan lines p (length (all_said lines)) is (all_recorded plan lines p is none end)

-- the domain is led by all lines if none is left
pub followed_all : (plan : List DomainData) (lines : List RecordedCall) (p : RecordCursor) → IsCursor plan lines p
    → p.rest.times ≡ 0 → length lines ≤ p.next
    → IsMomentAfter plan 0 (all_said lines) p.replayed
followed_all plan lines p is none end =
    subst (λ (calls : List Call). IsMomentAfter plan 0 calls p.replayed) (all_done plan lines p is none end) is.moment
