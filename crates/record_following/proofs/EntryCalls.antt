-- A moment that goes on by the calls of a journal's entries: the contract of `ReplayedDomain::apply_entries`,
-- and those of the calls that it makes.
use Rattle.std.specs.Prelude.{◌≡◌, ◌+◌, ◌-◌, ◌<◌, ◌≤◌, take, ◌++◌, ◌∷◌, [], ℕ, zero, suc, List, length, replicate}
use Rattle.std.proofs.Common.{refl, ap, sym, subst, ◌∙◌, arith, get_or, append_assoc}
use Rattle.std.proofs.lemmas.List.{replicate_more, length-replicate, length-append, length-take}
use Rattle.std.proofs.lemmas.List.{map-append, take_more, append-nil, take_all, take-replicate}
use Rattle.t414_step.specs.declared.stepping.Stepped.{Stepped}
use Rattle.t414_step.specs.declared.stepping.Stepped.TheVariants.{Ran}
use Rattle.plan_rules.specs.Part.{PartData}
use Rattle.domain_core.specs.declared.event.By.{By}
use Rattle.domain_core.specs.declared.event.Event.TheVariants.{Step}
use Rattle.domain_core.specs.declared.journal.Entry.{Entry}
use Rattle.domain_core.specs.declared.journal.Entry.TheVariants.{Run}
use Rattle.domain_core.specs.Journal.{AnsweredCall, answered_step, calls_of, expanded, steps, IsHistory}
use Rattle.domain_core.specs.Laws.{JournalsAddUp}
use Rattle.domain_core.specs.Moments.{MomentValue, state_at}
use Rattle.domain_core.specs.PrivateFarm.{Call}
use Rattle.record_following.specs.Following.{entry_calls, calls_before, FollowsCalls, MovesOn}
use Rattle.record_following.proofs.Followed.{alike_calls, one_more}

-- ---- no call, and one list of calls after another

-- a moment goes on by no call
pub stays : (m : MomentValue) → MovesOn m [] m
stays m = record {
  part = refl;
  follows = record {
    gain = [];
    calls_are = refl;
    leads =
        λ history of. subst (λ (h : List AnsweredCall). IsHistory m.machine.part h (state_at m))
        (sym (append-nil history)) of;
    recorded_is = omega arith;
  };
}

-- the same, with a name for no call
pub stays_by : (m : MomentValue) (calls : List Call) → calls ≡ [] → MovesOn m calls m
stays_by m calls none = subst (λ (cs : List Call). MovesOn m cs m) (sym none) (stays m)

-- a moment that goes on by some calls, and then by others, goes on by all of them
pub moves_twice : (moment other_moment third_moment : MomentValue) (xs ys : List Call) → MovesOn moment xs other_moment
    → MovesOn other_moment ys third_moment → MovesOn moment (xs ++ ys) third_moment
moves_twice moment other_moment third_moment xs ys one two =
    let first : FollowsCalls moment.machine.part (state_at moment) xs (state_at other_moment) = one.follows in
    let second : FollowsCalls moment.machine.part (state_at other_moment) ys (state_at third_moment) =
    subst (λ (p : PartData). FollowsCalls p (state_at other_moment) ys (state_at third_moment)) one.part two.follows in
    record {
      part = two.part ∙ one.part;
      follows = record {
        gain = first.gain ++ second.gain;
        calls_are =
            map-append (λ (it : AnsweredCall). it.call) first.gain second.gain
            ∙ (ap (λ cs. cs ++ calls_of second.gain) first.calls_are ∙ ap (λ cs. xs ++ cs) second.calls_are);
        leads =
            λ history of.
            subst (λ (h : List AnsweredCall). IsHistory moment.machine.part h (state_at third_moment))
            (append_assoc history first.gain second.gain)
            (second.leads (history ++ first.gain) (first.leads history of));
        recorded_is = omega (arith, first.recorded_is, second.recorded_is, length-append xs ys);
      };
    }

-- a moment that goes on by that many calls that are alike, and then by one more, goes on by one more of them
pub moves_more : (moment other_moment third_moment : MomentValue) (before count : ℕ) (call : Call)
    → before + 1 ≡ count → MovesOn moment (replicate before call) other_moment
    → MovesOn other_moment (call ∷ []) third_moment
    → MovesOn moment (replicate count call) third_moment
moves_more moment other_moment third_moment before count call is one two =
    subst (λ (calls : List Call). MovesOn moment calls third_moment)
    (replicate_more before call ∙ ap (λ n. replicate n call) is)
    (moves_twice moment other_moment third_moment (replicate before call) (call ∷ []) one two)

-- ---- an entry

-- the calls of a run are alike
run_calls : (by : By) (node count : ℕ) (last : Stepped)
    → calls_of (steps by node count last) ≡ replicate count (record { by = by; event = Step node })
run_calls by node zero last = refl
run_calls by node (suc more) last =
    let call : Call = record { by = by; event = Step node } in
    map-append (λ (it : AnsweredCall). it.call) (replicate more (answered_step by node Ran))
    (answered_step by node last ∷ [])
    ∙ (ap (λ (calls : List Call). calls ++ call ∷ []) (alike_calls more (answered_step by node Ran))
    ∙ (replicate_more more call ∙ ap (λ n. replicate n call) (one_more more)))

-- the calls of an entry that is a run are as many Steps of its node
pub run_entry : (by : By) (node count : ℕ) (last : Stepped)
    → entry_calls (Run by node count last ∷ []) ≡ replicate count (record { by = by; event = Step node })
run_entry by node count last = ap calls_of (append-nil (steps by node count last)) ∙ run_calls by node count last

-- the first calls of a run are those of a shorter run that all ran
pub run_cut : (by : By) (node count most : ℕ) (last : Stepped) → most < count
    → entry_calls (Run by node most Ran ∷ []) ≡ take most (entry_calls (Run by node count last ∷ []))
run_cut by node count most last less =
    let call : Call = record { by = by; event = Step node } in
    run_entry by node most Ran
    ∙ sym (ap (take most) (run_entry by node count last) ∙ take-replicate most count call (omega (arith, less)))

-- if a run has no more Steps than are asked, its first calls are all of its calls
pub run_whole : (by : By) (node count most : ℕ) (last : Stepped) → count ≤ most
    → entry_calls (Run by node count last ∷ []) ≡ take most (entry_calls (Run by node count last ∷ []))
run_whole by node count most last few =
    let call : Call = record { by = by; event = Step node } in
    let long : length (entry_calls (Run by node count last ∷ [])) ≡ count =
    ap length (run_entry by node count last) ∙ length-replicate count call in
    sym (take_all most (entry_calls (Run by node count last ∷ [])) (omega (arith, few, long)))

-- the first calls of one call are that call, if any are asked
pub one_whole : (most : ℕ) (call : Call) → 0 < most → call ∷ [] ≡ take most (call ∷ [])
one_whole most call some = sym (take_all most (call ∷ []) (omega (arith, some)))

-- a moment that goes on by a run goes on by the calls of its entry
pub moves_run : (moment other_moment : MomentValue) (by : By) (node count : ℕ) (last : Stepped)
    → MovesOn moment (replicate count (record { by = by; event = Step node })) other_moment
    → MovesOn moment (entry_calls (Run by node count last ∷ [])) other_moment
moves_run moment other_moment by node count last on =
    subst (λ (calls : List Call). MovesOn moment calls other_moment) (sym (run_entry by node count last)) on

-- ---- calls up to that many events

-- if that many events are recorded already, no call comes before, and the moment stays
pub none_before : (m : MomentValue) (most : ℕ) (calls : List Call) → most - m.recorded ≡ 0
    → MovesOn m (calls_before most m calls) m
none_before m most calls none = stays_by m (calls_before most m calls) (ap (λ k. take k calls) none)

-- a moment that goes on by the first calls, as many as are left to that event, goes on up to it
pub moves_before : (moment other_moment : MomentValue) (most left : ℕ) (some calls : List Call)
    → left ≡ most - moment.recorded → some ≡ take left calls → MovesOn moment some other_moment
    → MovesOn moment (calls_before most moment calls) other_moment
moves_before moment other_moment most left some calls is first on =
    subst (λ (cs : List Call). MovesOn moment cs other_moment) (first ∙ ap (λ k. take k calls) is) on

-- ---- entries

-- the beginning of two lists is that of the one, and what is left of it of the other
take_twice : (n : ℕ) (xs ys : List Call) → take n (xs ++ ys) ≡ take n xs ++ take (n - length xs) ys
take_twice zero xs ys =
    let none : zero - length xs ≡ zero = omega arith in
    ap (λ (k : ℕ). take k ys) (sym none)
take_twice (suc n) [] ys =
    let all : suc n - length {A = Call} [] ≡ suc n = omega arith in
    ap (λ (k : ℕ). take k ys) (sym all)
take_twice (suc n) (x ∷ xs) ys =
    let less : suc n - length (x ∷ xs) ≡ n - length xs = omega arith in
    ap (λ (calls : List Call). x ∷ calls) (take_twice n xs ys) ∙ ap (λ (k : ℕ). x ∷ (take n xs ++ take k ys)) (sym less)

-- a moment that goes on by entries up to an event, and then by the next entry, goes on by one entry more
pub one_entry : JournalsAddUp
    → (entries : List Entry) (i : ℕ) (entry : Entry) (most : ℕ) (moment other_moment third_moment : MomentValue)
    → i < length entries
    → MovesOn moment (calls_before most moment (entry_calls (take i entries))) other_moment
    → MovesOn other_moment (calls_before most other_moment (entry_calls (get_or entries i entry ∷ []))) third_moment
    → MovesOn moment (calls_before most moment (entry_calls (take (i + 1) entries))) third_moment
one_entry add entries i other_entry most moment other_moment third_moment less one two =
    let entry : Entry = get_or entries i other_entry in
    let xs : List Call = entry_calls (take i entries) in
    let ys : List Call = entry_calls (entry ∷ []) in
    let n : ℕ = most - moment.recorded in
    let recorded : other_moment.recorded ≡ moment.recorded + length (take n xs) = one.follows.recorded_is in
    let left : most - other_moment.recorded ≡ n - length xs = omega (arith, recorded, length-take n xs) in
    let whole : entry_calls (take (i + 1) entries) ≡ xs ++ ys =
    ap entry_calls (take_more entries i other_entry less)
    ∙ (ap calls_of (add (take i entries) (entry ∷ []))
    ∙ map-append (λ (it : AnsweredCall). it.call) (expanded (take i entries)) (expanded (entry ∷ []))) in
    let calls : take n xs ++ take (most - other_moment.recorded) ys ≡ take n (entry_calls (take (i + 1) entries)) =
    ap (λ k. take n xs ++ take k ys) left ∙ (sym (take_twice n xs ys) ∙ ap (take n) (sym whole)) in
    subst (λ (cs : List Call). MovesOn moment cs third_moment) calls
    (moves_twice moment other_moment third_moment (take n xs) (take (most - other_moment.recorded) ys) one two)
