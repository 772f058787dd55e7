use Rattle.std.proofs.Common.{rules, ◌≡◌, ◌∙◌, Some, slice_get, arith, ap, sym, vec_len, vec_capacity}
use Rattle.std.specs.Prelude.{option_to_list}
use Rattle.std.proofs.lemmas.Option.{slice_get_within}
use Rattle.domain_core.specs.Journal.{expanded}
use Rattle.domain_core.specs.Marks.{events_from}
use Rattle.domain_core.proofs.CopiedEntries.{copies_more, entry_done, nothing_more, none_behind}
use Rattle.domain_core.proofs.journal.Journal.copy_since.Goals as goal
use Rattle.domain_core.proofs.journal.Journal.copy_since.Goals.{in-Some-behind+else-len-capacity, in_default-behind}

pub loop-index-preserved : goal.loop-index-preserved
loop-index-preserved c =
    let i = c.loop-index.index in
    let journal = c.args.self.now.entries in
    let entry = c.in-Some.entry in
    let v = c.loop-index.invariant in
    let at : slice_get journal i ≡ Some entry = sym c.get.ensures ∙ c.in-Some.is in
    let within = slice_get_within journal i entry at in
    elim c.match-behind.branch [
      | in-Some-behind+else-len-capacity w ↦
          let left = c.behind.ensures ∙ ap (λ o. expanded (option_to_list o)) w.in-Some-behind.is in record {
            copies = rw (w.reached-is, w.room-is, w.push_reserved.ensures.items)
                (copies_more journal c.args.mark c.loop-index.reached c.args.room.now.items c.loop-index.room.items i
                c.loop-index.events w.count.result entry w.in-Some-behind.rest v.copies v.next within at w.count.ensures
                left);
            next =
                ap (λ r. events_from r journal) w.reached-is
                ∙ entry_done i journal entry w.count.result at w.count.ensures;
            begun = let b = v.begun in omega arith;
            filled = let f = v.filled in let l = ap vec_len w.room-is ∙ w.push_reserved.ensures.len in omega arith;
            capacity = ap vec_capacity w.room-is ∙ w.push_reserved.ensures.capacity ∙ v.capacity;
            past = λ p. let b = v.begun in absurd (omega arith);
          }
      | in_default-behind w ↦ record {
        copies = rw (w.reached-is, w.room-is) v.copies;
        next =
            ap (λ r. events_from r journal) w.reached-is ∙ v.next
            ∙ nothing_more journal i c.loop-index.events entry at (c.behind.ensures ∙ (search rules));
        begun = let b = v.begun in omega arith;
        filled = let f = v.filled in let l = ap vec_len w.room-is in omega arith;
        capacity = ap vec_capacity w.room-is ∙ v.capacity;
        past = λ p. let b = v.begun in absurd (omega arith);
      }
    ]

pub returns-clause-all : goal.returns-clause-all
returns-clause-all c = λ few.
    c.loop-index.invariant.next
    ∙ none_behind c.loop-index.index c.loop-index.events c.args.self.now.entries
    (let e = c.len-index-end.ensures in let t = c.loop-index-test.false in omega arith)

pub returns-clause-rest : goal.returns-clause-rest
returns-clause-rest c = λ place.
    c.loop-index.invariant.next
    ∙ none_behind c.loop-index.index c.loop-index.events c.args.self.now.entries
    (let e = c.len-index-end.ensures in let t = c.loop-index-test.false in omega arith)
