use Rattle.std.proofs.Common.{◌≡◌, ◌<◌, ◌≤◌, ◌+◌, None, set, sum, slice_index}
use Rattle.std.proofs.Common.{sym, subst, ap, ◌∙◌, arith, get_or-set_other}
use Rattle.std.proofs.lemmas.Option.{slice_get-get_or}
use Rattle.t414_assembly.specs.Layout.{AreRooms}
use Rattle.t414_assembly.proofs.Growing.{more_room, more_bytes, sum-set, le_of_flag, next_at}
use Rattle.t414_assembly.proofs.layout.lay_out_once.Goals as goal
use Rattle.t414_assembly.proofs.layout.lay_out_once.Goals.{in-Some, in_default}

pub loop-place-preserved : goal.loop-place-preserved
loop-place-preserved c =
    let at = slice_get-get_or c.args.statements.now c.loop-place.place _ c.loop-place-test.true in
    let inv = c.loop-place.invariant in
    elim c.match-wider.branch [
      | in-Some w ↦
          (let more = rw w.in-Some.is at c.in_ok-wider.ensures.wider in
          let sums : sum (set c.loop-place.rooms c.loop-place.place w.in-Some.room)
          + slice_index c.loop-place.rooms c.loop-place.place
          ≡ sum c.loop-place.rooms + w.in-Some.room =
          sum-set c.loop-place.rooms c.loop-place.place w.in-Some.room
          (omega (arith, c.loop-place-test.true, inv.rooms.count)) in
          let least : sum c.args.rooms.now ≤ sum c.loop-place.rooms =
          le_of_flag c.loop-place.grown _ _ inv.more inv.same in
          record {
            rooms =
                subst (AreRooms c.args.statements.now) (sym w.rooms-is)
                (more_room c.args.statements.now c.loop-place.rooms c.loop-place.place w.in-Some.room _ inv.rooms at
                (omega (arith, more.0)) more.1 more.2);
            later =
                λ k le. ap (λ xs. slice_index xs k) w.rooms-is
                ∙ get_or-set_other c.loop-place.rooms c.loop-place.place k
                w.in-Some.room 0 (λ e. omega (arith, le, e))
                ∙ inv.later k (omega (arith, le));
            more =
                λ _. subst (λ xs. sum c.args.rooms.now < sum xs) (sym w.rooms-is) (omega (arith, sums, least, more.0));
            same = λ no. cc;
            image = λ no. cc;
          })
      | in_default w ↦
          (let none : c.in_ok-wider.wider ≡ None = w.in_default.is in
          record {
            rooms = subst (AreRooms c.args.statements.now) (sym w.rooms-is) inv.rooms;
            later = λ k le. ap (λ xs. slice_index xs k) w.rooms-is ∙ inv.later k (omega (arith, le));
            more = λ g. subst (λ xs. sum c.args.rooms.now < sum xs) (sym w.rooms-is) (inv.more (sym w.grown-is ∙ g));
            same = λ g. subst (λ xs. sum c.args.rooms.now ≡ sum xs) (sym w.rooms-is) (inv.same (sym w.grown-is ∙ g));
            image =
                λ g. more_bytes c.args.origin c.args.statements.now c.args.starts.now c.loop-place.place
                (slice_index c.loop-place.rooms c.loop-place.place) _ c.loop-place.bytes.items
                c.put_statement.new.bytes.items
                (inv.image (sym w.grown-is ∙ g)) at
                (next_at c.args.origin c.args.statements.now c.args.rooms.now c.args.starts.now _ c.loop-place.place
                (slice_index c.loop-place.rooms c.loop-place.place) c.requires.starts c.loop-place-test.true at
                (sym (inv.later c.loop-place.place (omega arith))))
                (c.in_ok-wider.ensures.put none);
          })
    ]

pub put_statement-requires-clause-most : goal.put_statement-requires-clause-most
put_statement-requires-clause-most c = c.requires.starts.most

pub put_statement-requires-clause-next : goal.put_statement-requires-clause-next
put_statement-requires-clause-next c =
    next_at c.args.origin c.args.statements.now c.args.rooms.now c.args.starts.now _ c.loop-place.place
    (slice_index c.loop-place.rooms c.loop-place.place) c.requires.starts c.loop-place-test.true
    (slice_get-get_or c.args.statements.now c.loop-place.place _ c.loop-place-test.true)
    (sym (c.loop-place.invariant.later c.loop-place.place (omega arith)))

pub put_statement-requires-clause-tight : goal.put_statement-requires-clause-tight
put_statement-requires-clause-tight c =
    c.loop-place.invariant.rooms.tight c.loop-place.place _
    (slice_get-get_or c.args.statements.now c.loop-place.place _ c.loop-place-test.true)
