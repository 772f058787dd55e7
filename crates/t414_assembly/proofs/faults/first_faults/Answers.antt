use Rattle.std.proofs.Common.{◌≡◌, ◌≤◌, ◌+◌, ◌++◌, ◌∷◌, [], Vec, Global, length, drop, map, sym, ap, subst, ◌∙◌, arith, refl}
use Rattle.std.proofs.Common.{vec_len, length-append}
use Rattle.std.proofs.lemmas.List.{drop_all, length-map}
use Rattle.std.proofs.lemmas.Option.{slice_get-get_or}
use Rattle.t414_assembly.specs.declared.fault.FaultyLine.{FaultyLine}
use Rattle.t414_assembly.specs.Faults.{wrong_lines}
use Rattle.t414_assembly.proofs.Wrong.{next_some, next_none, none_behind, after_twenty, all_found, one_more_fault, there}
use Rattle.t414_assembly.proofs.faults.first_faults.Goals as goal
use Rattle.t414_assembly.proofs.faults.first_faults.Goals.{in-Some+else-len-ge-MOST_FAULTS+in_ok-fault_in+in_ok-push, in_default}

pub returns-then-len-ge-MOST_FAULTS-clause-first : goal.returns-then-len-ge-MOST_FAULTS-clause-first
returns-then-len-ge-MOST_FAULTS-clause-first c =
    let inv = c.loop-index.invariant in
    let twenty : length c.loop-index.faults.items ≡ 20 =
    omega (arith, c.if-len-ge-MOST_FAULTS.true, c.len.ensures, inv.len, inv.most) in
    let line = there c.args.source.now c.loop-index.index c.loop-index-test.true in
    let more =
    next_some c.args.mismatches.now c.args.source.now c.loop-index.index line.0 _ line.1
    (sym c.mismatch_at-mismatch.ensures ∙ c.in-Some.is) in
    (after_twenty _ _ _ _ _ inv.found more (length-map c.loop-index.faults.items _ ∙ twenty)).0

pub returns-then-len-ge-MOST_FAULTS-clause-more : goal.returns-then-len-ge-MOST_FAULTS-clause-more
returns-then-len-ge-MOST_FAULTS-clause-more c =
    let inv = c.loop-index.invariant in
    let twenty : length c.loop-index.faults.items ≡ 20 =
    omega (arith, c.if-len-ge-MOST_FAULTS.true, c.len.ensures, inv.len, inv.most) in
    let line = there c.args.source.now c.loop-index.index c.loop-index-test.true in
    let more =
    next_some c.args.mismatches.now c.args.source.now c.loop-index.index line.0 _ line.1
    (sym c.mismatch_at-mismatch.ensures ∙ c.in-Some.is) in
    let found = after_twenty _ _ _ _ _ inv.found more (length-map c.loop-index.faults.items _ ∙ twenty) in
    (λ _. found.1, λ _. refl)

pub loop-index-preserved : goal.loop-index-preserved
loop-index-preserved c =
    let inv = c.loop-index.invariant in
    let at = slice_get-get_or c.args.source.now c.loop-index.index _ c.loop-index-test.true in
    elim c.match-mismatch.branch [
      | in-Some+else-len-ge-MOST_FAULTS+in_ok-fault_in+in_ok-push w ↦
          (let more =
          next_some c.args.mismatches.now c.args.source.now c.loop-index.index _ _ at
          (sym c.mismatch_at-mismatch.ensures ∙ w.in-Some.is) in
          let items = ap (λ (v : Vec FaultyLine Global). v.items) w.faults-is ∙ w.in_ok-push.ensures.items in
          let count : length c.match-mismatch.faults.items ≡ length c.loop-index.faults.items + 1 =
          ap length items ∙ length-append c.loop-index.faults.items (w.in_ok-fault_in.field-0 ∷ []) in
          let len : vec_len c.match-mismatch.faults ≡ vec_len c.loop-index.faults + 1 =
          ap vec_len w.faults-is ∙ w.in_ok-push.ensures.len in
          record {
            found =
                inv.found
                ∙ ap (λ others. map (λ (fault : FaultyLine). fault.line) c.loop-index.faults.items ++ others) more
                ∙ one_more_fault c.loop-index.faults.items w.in_ok-fault_in.field-0 _ _ w.in_ok-fault_in.ensures
                ∙ ap (λ faults. map (λ (fault : FaultyLine). fault.line) faults
                ++ wrong_lines (drop (c.loop-index.index + 1) c.args.mismatches.now)
                (drop (c.loop-index.index + 1) c.args.source.now)) (sym items);
            most = omega (arith, count, w.if-len-ge-MOST_FAULTS.false, w.len.ensures, inv.len);
            len = omega (arith, count, len, inv.len);
          })
      | in_default w ↦
          (let same =
          next_none c.args.mismatches.now c.args.source.now c.loop-index.index _ at
          (sym c.mismatch_at-mismatch.ensures ∙ w.in_default.is) in
          record {
            found =
                inv.found
                ∙ ap (λ others. map (λ (fault : FaultyLine). fault.line) c.loop-index.faults.items ++ others) same
                ∙ ap (λ (v : Vec FaultyLine Global). map (λ (fault : FaultyLine). fault.line) v.items
                ++ wrong_lines (drop (c.loop-index.index + 1) c.args.mismatches.now)
                (drop (c.loop-index.index + 1) c.args.source.now)) (sym w.faults-is);
            most = subst (λ (v : Vec FaultyLine Global). length v.items ≤ 20) (sym w.faults-is) inv.most;
            len = subst (λ (v : Vec FaultyLine Global). vec_len v ≡ length v.items) (sym w.faults-is) inv.len;
          })
    ]

pub returns-clause-first : goal.returns-clause-first
returns-clause-first c =
    let inv = c.loop-index.invariant in
    let none = none_behind (drop c.loop-index.index c.args.mismatches.now) _
    (drop_all c.loop-index.index c.args.source.now (omega (arith, c.loop-index-test.false))) in
    let count = length-map c.loop-index.faults.items (λ (fault : FaultyLine). fault.line) in
    let wrong = wrong_lines c.args.mismatches.now c.args.source.now in
    (all_found _ _ wrong inv.found none (omega (arith, count, inv.most))).0

pub returns-clause-more : goal.returns-clause-more
returns-clause-more c =
    let inv = c.loop-index.invariant in
    let none = none_behind (drop c.loop-index.index c.args.mismatches.now) _
    (drop_all c.loop-index.index c.args.source.now (omega (arith, c.loop-index-test.false))) in
    let count = length-map c.loop-index.faults.items (λ (fault : FaultyLine). fault.line) in
    let wrong = wrong_lines c.args.mismatches.now c.args.source.now in
    let numbers = map (λ (fault : FaultyLine). fault.line) c.loop-index.faults.items in
    let all = all_found numbers _ wrong inv.found none (omega (arith, count, inv.most)) in
    (λ no. cc, λ more. absurd (omega (arith, more, all.1)))
