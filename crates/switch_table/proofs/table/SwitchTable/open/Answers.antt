use Rattle.std.proofs.Common.{rules, arith, ◌≡◌, ◌<◌, ℕ, List, [], ◌∷◌, ◌++◌, map, drop, length, slice_get, All}
use Rattle.std.proofs.Common.{replicate, sym, ap, subst, ◌∙◌}
use Rattle.std.proofs.lemmas.List.{map-append}
use Rattle.std.specs.Arc.{arc_value}
use Rattle.atomic_table.specs.Table.{Me}
use Rattle.switch_table.specs.declared.view.View.{View}
use Rattle.switch_table.specs.Domains.{domains_of}
use Rattle.switch_table.specs.Rule.{opening_view}
use Rattle.switch_table.specs.SeatStates.{SeatState}
use Rattle.switch_table.specs.Seats.{seat_row, clear_row}
use Rattle.switch_table.proofs.Openings.{own_domain, length-domains}
use Rattle.switch_table.proofs.Ports.{all_push, waiting, seated}
use Rattle.switch_table.proofs.SeatRows.{clear_view, cleared_seats}
use Rattle.switch_table.proofs.table.SwitchTable.open.Goals as goal

pub take_first_domain-requires-clause-next : goal.take_first_domain-requires-clause-next
take_first_domain-requires-clause-next c =
    let plan = c.args.plan.now in
    let i = c.loop-domain.domain in
    let there : i < length plan = search rules in
    let inside : i < length (domains_of plan) = let e = length-domains plan in omega arith in
    let own =
    own_domain plan i c.ranges-in-loop-domain.result c.of-numbering.result there c.ranges-in-loop-domain.ensures.row
    c.of-numbering.ensures in
    ap (λ (me : Me (Unit {0}) View). slice_get me.0.held 0) c.loop-domain.invariant.knows
    ∙ ap (λ (held : List (List ℕ)). slice_get held 0) (waiting (domains_of plan) i c.of-numbering.result inside own)

pub loop-domain-preserved : goal.loop-domain-preserved
loop-domain-preserved c =
    let plan = c.args.plan.now in
    let domains : List (List ℕ) = domains_of plan in
    let i : ℕ = c.loop-domain.domain in
    let kept = c.loop-domain.invariant in
    let seat : SeatState = c.in_ok-take_first_domain.field-0 in
    let there : i < length plan = search rules in
    let inside : i < length domains = let e = length-domains plan in omega arith in
    let own =
    own_domain plan i c.ranges-in-loop-domain.result c.of-numbering.result there c.ranges-in-loop-domain.ensures.row
    c.of-numbering.ensures in
    let dealt = c.in_ok-take_first_domain.ensures in
    let more = c.in_ok-push.ensures.items in
    let clear : seat.view.words ≡ replicate 32 0 =
    dealt.seat.2 ∙ ap (λ (me : Me (Unit {0}) View). me.0.words) kept.knows in
    let ports : seat.ports ≡ c.of-numbering.result = dealt.seat.0 in
    let row : seat_row seat ≡ clear_row seat.ports = clear_view seat.view seat.ports clear in record {
      here = dealt.rest.0 ∙ kept.here;
      wide = ap (λ t. t.words) dealt.rest.0 ∙ kept.wide;
      table =
          subst (All (λ (s : SeatState). s.table ≡ (arc_value c.in_ok-shared_words.shared_words).shared.table_id))
          (sym more) (all_push (λ (s : SeatState). s.table
          ≡ (arc_value c.in_ok-shared_words.shared_words).shared.table_id)
          c.loop-domain.seats.items seat kept.table (dealt.seat.1 ∙ kept.here));
      knows =
          dealt.rest.1
          ∙ ap (λ (me : Me (Unit {0}) View).
          let now : Me (Unit {0}) View = (record me.0 { held = drop 1 me.0.held }, me.1) in
          now)
          kept.knows
          ∙ ap (λ (held : List (List ℕ)). let now : Me (Unit {0}) View = (opening_view domains (drop 1 held), []) in
          now)
          (waiting domains i c.of-numbering.result inside own);
      ports =
          ap (map (λ (s : SeatState). s.ports)) more
          ∙ map-append (λ (s : SeatState). s.ports) c.loop-domain.seats.items (seat ∷ [])
          ∙ (λ k. kept.ports k ++ ports k ∷ []) ∙ sym (seated domains i c.of-numbering.result inside own);
      clear =
          subst (All (λ (s : SeatState). seat_row s ≡ clear_row s.ports)) (sym more)
          (all_push (λ (s : SeatState). seat_row s ≡ clear_row s.ports) c.loop-domain.seats.items seat kept.clear row);
    }

pub returns-clause-switch : goal.returns-clause-switch
returns-clause-switch c =
    cleared_seats c.rows_are_words_of_ports.ensures.unused c.loop-domain.seats.items c.loop-domain.invariant.clear
