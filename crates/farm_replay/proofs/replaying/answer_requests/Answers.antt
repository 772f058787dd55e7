use Rattle.std.proofs.Common.{◌≡◌, length, ◌+◌, ◌++◌, ◌∷◌, [], List, ℕ, map, take, string_bytes, ap, ◌∙◌, sym, subst}
use Rattle.std.proofs.lemmas.List.{map-append, length-append, take_all}
use Rattle.std.proofs.Math.Nat.{le_antisymm}
use Rattle.whole_farm.specs.Places.{places_of}
use Rattle.event_text.specs.declared.request.RepeatedRequest.{RepeatedRequest}
use Rattle.farm_replay.specs.Plain.{asked_by}
use Rattle.farm_replay.proofs.Lines.{AreLinesSoFar, one_more_line, all_lines}
use Rattle.farm_replay.proofs.replaying.answer_requests.Goals as goal

pub loop-request-preserved : goal.loop-request-preserved
loop-request-preserved g c =
    let l = c.loop-request in
    let text = string_bytes c.in_ok-answer_times.field-0 in
    let lines : map string_bytes c.push.new.self.items ≡ map string_bytes l.lines.items ++ text ∷ [] =
    ap (map string_bytes) c.in_ok-push.ensures.items
    ∙ map-append string_bytes l.lines.items (c.in_ok-answer_times.field-0 ∷ []) in
    let count : length c.push.new.self.items ≡ l.request-index + 1 =
    ap length c.in_ok-push.ensures.items ∙ length-append l.lines.items (c.in_ok-answer_times.field-0 ∷ [])
    ∙ ap (λ n. n + 1) l.invariant.0 in (
      count,
      subst (λ (ls : List (List ℕ)).
          AreLinesSoFar (places_of c.args.plan.now) (map asked_by (take (l.request-index + 1) c.args.requests.now)) ls
          c.answer_times.new.farm.farm)
          (sym lines)
          (one_more_line (places_of c.args.plan.now) c.args.requests.now l.request-index c.request-item.result
          (map string_bytes l.lines.items) text l.farm.farm c.answer_times.new.farm.farm c.loop-request-test.true
          c.request-item.is l.invariant.1
          c.in_ok-answer_times.ensures.asked),
    )

pub returns : goal.returns
returns g c =
    let l = c.loop-request in
    let plan = places_of c.args.plan.now in
    let lines = map string_bytes l.lines.items in
    record {
      one_each = l.invariant.0 ∙ le_antisymm l.auto.request-index-end c.loop-request-test.false;
      lines = all_lines plan (map asked_by c.args.requests.now) lines l.farm.farm
          (subst (λ (rs : List RepeatedRequest). AreLinesSoFar plan (map asked_by rs) lines l.farm.farm)
          (take_all l.request-index c.args.requests.now c.loop-request-test.false) l.invariant.1);
    }
