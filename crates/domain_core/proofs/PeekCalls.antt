-- Calls that lead from one state of the private farm to another with these
-- answers: none, one more, and several after others, for the rounds of a peek.
use Rattle.std.proofs.Common.{◌≡◌, ◌+◌, ◌==◌, true, false, List, [], ◌∷◌, ◌++◌, Ok, refl, ◌∙◌, ap}
use Rattle.plan_rules.specs.Part.{PartData}
use Rattle.domain_core.specs.declared.event.Reply.{Reply}
use Rattle.domain_core.specs.Machine.{Machine, acted, is_recorded}
use Rattle.domain_core.specs.PrivateFarm.{State, Answer, Call, is_there, next, answers, after}

-- calls lead from one state to another, and these are the answers to them
pub record Leads (part : PartData) (s : State) (calls : List Call) (given : List Answer) (t : State) : Type 0 where
  pub state : after part s calls ≡ t
  pub answers : answers part s calls ≡ given

-- the empty list of calls leads from a state to itself, with no answers
pub leads-none : (part : PartData) (s : State) → Leads part s [] [] s
leads-none part s = record { state = refl; answers = refl }

-- a call and the calls after it lead where those lead from the state that it leaves
pub leads-first : (part : PartData) (s t state : State) (call : Call) (answer : Answer) (calls : List Call)
    (given : List Answer)
    → next part s call ≡ (t, answer)
    → Leads part t calls given state → Leads part s (call ∷ calls) (answer ∷ given) state
leads-first part s t other_state call answer calls given same rest = record {
  state = ap (λ (x : State × Answer). after part x.0 calls) same ∙ rest.state;
  answers =
      ap (λ (x : State × Answer). x.1 ∷ answers part x.0 calls) same
      ∙ ap (λ (xs : List Answer). answer ∷ xs) rest.answers;
}

after-join : (part : PartData) (calls more : List Call) (s : State)
    → after part s (calls ++ more) ≡ after part (after part s calls) more
after-join part [] more s = refl
after-join part (call ∷ calls) more s = after-join part calls more (next part s call).0

answers-join : (part : PartData) (calls more : List Call) (s : State)
    → answers part s (calls ++ more) ≡ answers part s calls ++ answers part (after part s calls) more
answers-join part [] more s = refl
answers-join part (call ∷ calls) more s =
    ap (λ (xs : List Answer). (next part s call).1 ∷ xs) (answers-join part calls more (next part s call).0)

-- calls that lead to a state and calls that lead on from there lead there one after the other
pub leads-on : (part : PartData) (s t state : State) (calls more : List Call) (given others : List Answer)
    → Leads part s calls given t
    → Leads part t more others state
    → Leads part s (calls ++ more) (given ++ others) state
leads-on part s t other_state calls more given others first second = record {
  state = after-join part calls more s ∙ ap (λ (x : State). after part x more) first.state ∙ second.state;
  answers = answers-join part calls more s
      ∙ ap (λ (x : State). answers part s calls ++ answers part x more) first.state
      ∙ ap (λ (xs : List Answer). xs ++ answers part t more) first.answers
      ∙ ap (λ (xs : List Answer). given ++ xs) second.answers;
}

-- calls lead between states that are equal to those between which they lead
pub leads-between : (part : PartData) (s t state other_state : State) (calls : List Call) (given : List Answer)
    → s ≡ t → state ≡ other_state → Leads part t calls given state
    → Leads part s calls given other_state
leads-between part s t other_state third_state calls given begins ends leads = record {
  state = ap (λ (x : State). after part x calls) begins ∙ leads.state ∙ ends;
  answers = ap (λ (x : State). answers part x calls) begins ∙ leads.answers;
}

-- one event that is there and recorded, where the journal has room
pub next-recorded : (part : PartData) (s : State) (call : Call) (m : Machine) (reply : Reply)
    → is_there part call ≡ true
    → (s.recorded == part.limit) ≡ false
    → acted part s.machine call.event ≡ (m, reply) → is_recorded part s.machine call.event ≡ true
    → next part s call ≡ (record { machine = m; recorded = s.recorded + 1 }, Ok reply)
next-recorded part s call m reply there room acts records = rw (there, room, acts, records) refl
