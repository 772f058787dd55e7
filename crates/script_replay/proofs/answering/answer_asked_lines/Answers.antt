use Rattle.std.proofs.Common.{◌≡◌, ◌+◌, ◌++◌, ◌∷◌, [], List, ℕ, length, map}
use Rattle.std.proofs.Common.{take, string_bytes, rules, ap, ◌∙◌, sym, subst}
use Rattle.std.proofs.lemmas.List.{map-append, length-append, take_all}
use Rattle.std.proofs.Math.Nat.{le_antisymm}
use Rattle.whole_farm.specs.Places.{places_of}
use Rattle.script_replay.specs.declared.asks.AskedLine.{AskedLine}
use Rattle.script_replay.proofs.Chains.{AreLinesUpTo, no_line_yet, line_more, all_well}
use Rattle.script_replay.proofs.answering.answer_asked_lines.Goals as goal

pub loop-line-init : goal.loop-line-init
loop-line-init g c =
    let plan = places_of c.args.plan.now in
    let opened = c.in_ok-farm.farm.farm in
    let none : [] ≡ map string_bytes c.new-texts.result.items =
    ap (map string_bytes) (sym c.new-texts.ensures.items) in (
      search rules,
      opened,
      c.in_ok-farm.ensures.opening,
      subst (λ (ts : List (List ℕ)). AreLinesUpTo plan opened [] ts opened) none (no_line_yet plan opened),
    )

pub loop-line-preserved : goal.loop-line-preserved
loop-line-preserved g c =
    let l = c.loop-line in
    let plan = places_of c.args.plan.now in
    let text = string_bytes c.in_ok-answer_line.field-0 in
    let texts : map string_bytes c.push.new.self.items ≡ map string_bytes l.texts.items ++ text ∷ [] =
    ap (map string_bytes) c.in_ok-push.ensures.items
    ∙ map-append string_bytes l.texts.items (c.in_ok-answer_line.field-0 ∷ []) in
    let count : length c.push.new.self.items ≡ l.line-index + 1 =
    ap length c.in_ok-push.ensures.items ∙ length-append l.texts.items (c.in_ok-answer_line.field-0 ∷ [])
    ∙ ap (λ n. n + 1) l.invariant.0 in (
      count,
      l.invariant.1,
      l.invariant.2,
      subst (λ (ts : List (List ℕ)). AreLinesUpTo plan l.invariant.1 (take (l.line-index + 1) c.args.lines.now)
          ts c.answer_line.new.farm.farm)
          (sym texts)
          (line_more plan l.invariant.1 c.args.lines.now l.line-index c.line-item.result
          (map string_bytes l.texts.items) text l.farm.farm c.answer_line.new.farm.farm c.loop-line-test.true
          c.line-item.is l.invariant.3 c.in_ok-answer_line.ensures),
    )

pub returns : goal.returns
returns g c =
    let l = c.loop-line in
    let plan = places_of c.args.plan.now in
    let texts = map string_bytes l.texts.items in
    record {
      one_each = l.invariant.0 ∙ le_antisymm l.auto.line-index-end c.loop-line-test.false;
      lines = (
        l.invariant.1,
        l.invariant.2,
        all_well plan l.invariant.1 c.args.lines.now texts l.farm.farm
            (subst (λ (ls : List AskedLine). AreLinesUpTo plan l.invariant.1 ls texts l.farm.farm)
            (take_all l.line-index c.args.lines.now c.loop-line-test.false) l.invariant.3),
      );
    }
