-- The processes of a program are apart, and in its room.
use Rattle.std.proofs.Common.{Box, Global, ◌≡◌, ℕ, zero, suc, ◌+◌, ◌*◌, ◌^◌, ◌<◌, ◌≤◌, inl, inr, List, [], ◌∷◌, Option, Some, None, Bool, true, false, refl, ap, subst, arith}
use Rattle.std.specs.Prelude.{slice_get, if◌then◌else◌}
use Rattle.occam_core.specs.declared.process.CoreProcess.{CoreProcess}
use Rattle.occam_core.specs.declared.process.CoreProcess.TheVariants.{Line', Sequence', Parallel', Choose', If', While', Repeat'}
use Rattle.occam_code.specs.declared.frame.FrameWords.{FrameWords}
use Rattle.occam_code.specs.Words.{is_parallel, process_temporaries, processes_below}
use Rattle.occam_code.specs.Components.{components, words_below, inside, after_component}
use Rattle.occam_code.specs.Code.{program_words}
use Rattle.occam_code.specs.Layout.{PlacedProcess, placed, placed_components, placed_parts, Within, itself, inner, OfTwo, OfStarter, Together, kept_words, ProcessesAreApart}

-- all words of a process have numbers
record Fits (one : PlacedProcess) : Type 0 where
  order : one.words.base ≤ one.words.temporary
  small : one.words.temporary + process_temporaries one.process + 4 * processes_below one.process < 2 ^ 28

-- what the second owns and keeps is among what the first does
record Inside (first second : PlacedProcess) : Type 0 where
  low : first.words.base ≤ second.words.base
  high : second.words.base + 4 * processes_below second.process ≤ first.words.base + 4 * processes_below first.process
  from : first.words.temporary + second.words.base ≤ second.words.temporary + first.words.base
  to : second.words.temporary + process_temporaries second.process + first.words.base
      ≤ first.words.temporary + process_temporaries first.process + second.words.base

fits_inside : (first second : PlacedProcess) → Fits first → Inside first second → Fits second
fits_inside first second fits within =
    record {
      order = omega (arith, fits.order, within.low, within.from);
      small = omega (arith, fits.order, fits.small, within.low, within.high, within.from, within.to);
    }

inside_then : (first second third : PlacedProcess) → Inside first second → Inside second third → Inside first third
inside_then first second third outer more =
    record {
      low = omega (arith, outer.low, more.low);
      high = omega (arith, outer.high, more.high);
      from = omega (arith, outer.from, more.from);
      to = omega (arith, outer.to, more.to);
    }

-- with the same words
same_words : (words : FrameWords) (p q : CoreProcess) → processes_below q ≤ processes_below p
    → process_temporaries q ≤ process_temporaries p → Inside (placed words p) (placed words q)
same_words words p q fewer less =
    record {
      low = omega arith;
      high = omega (arith, fewer);
      from = omega arith;
      to = omega (arith, less);
    }

held : PlacedProcess → Option PlacedProcess → PlacedProcess
held other None = other
held other (Some one) = one

is_some : (first second : PlacedProcess) → Some first ≡ Some second → first ≡ second
unfolding held
is_some first second is = ap (held first) is

one_part : (whole first second : PlacedProcess) (i : ℕ) → Inside whole first → slice_get (first ∷ []) i ≡ Some second
    → Inside whole second
one_part whole first second zero within is = subst (λ p. Inside whole p) (is_some first second is) within
one_part whole first second (suc i) within is = absurd (grind arith)

two_parts : (whole first other second : PlacedProcess) (i : ℕ) → Inside whole first → Inside whole other
    → slice_get (first ∷ other ∷ []) i ≡ Some second → Inside whole second
two_parts whole first other second zero within within' is =
    subst (λ p. Inside whole p) (is_some first second is) within
two_parts whole first other second (suc i) within within' is = one_part whole other second i within' is

-- what some components take together
below_all : List CoreProcess → ℕ
below_all [] = 0
below_all (p ∷ ps) = processes_below p + 1 + below_all ps

kept_all : List CoreProcess → ℕ
kept_all [] = 0
kept_all (p ∷ ps) = process_temporaries p + kept_all ps

more_below : (is : Bool) (sum count more : ℕ) → sum + (if is then 1 else 0) ≡ count + 1
    → more + 1 + sum + 1 ≡ more + count + (if is then 1 else 2) + 1
more_below true sum count more same = omega (arith, same)
more_below false sum count more same = omega (arith, same)

parts_below : (p : CoreProcess) → below_all (components p) + (if is_parallel p then 1 else 0) ≡ processes_below p + 1
unfolding below_all
parts_below (Parallel' _ p _ q) =
    more_below (is_parallel q) (below_all (components q)) (processes_below q) (processes_below p) (parts_below q)
parts_below _ = omega arith

more_kept : (is : Bool) (sum count more : ℕ) → sum + (if is then 2 else 0) ≡ count
    → more + sum + 2 ≡ more + count + (if is then 0 else 2)
more_kept true sum count more same = omega (arith, same)
more_kept false sum count more same = omega (arith, same)

parts_kept : (p : CoreProcess) → kept_all (components p) + (if is_parallel p then 2 else 0) ≡ process_temporaries p
unfolding kept_all
parts_kept (Parallel' _ p _ q) =
    more_kept (is_parallel q) (kept_all (components q)) (process_temporaries q) (process_temporaries p) (parts_kept q)
parts_kept _ = omega arith

-- components whose first has these words take as much as this
record FitsAll (words : FrameWords) (ps : List CoreProcess) : Type 0 where
  order : words.base ≤ words.temporary
  small : words.temporary + kept_all ps + 4 * below_all ps < 2 ^ 28 + 6

-- a component is among those from one on
record IsAmong (words : FrameWords) (ps : List CoreProcess) (one : PlacedProcess) : Type 0 where
  low : words.base ≤ one.words.base
  high : one.words.base + 4 * processes_below one.process + 4 ≤ words.base + 4 * below_all ps
  from : words.temporary + one.words.base ≤ one.words.temporary + words.base
  to : one.words.temporary + process_temporaries one.process + words.base
      ≤ words.temporary + kept_all ps + one.words.base

-- the words of the component after one, if they have numbers
record Next (words : FrameWords) (p : CoreProcess) : Type 0 where
  base : (after_component words p).base ≡ words.base + 4 * (processes_below p + 1)
  temporary : (after_component words p).temporary
      ≡ words.temporary + process_temporaries p + 4 * (processes_below p + 1)

next_words : (words : FrameWords) (p : CoreProcess) → words.base ≤ words.temporary
    → words.temporary + process_temporaries p + 4 * (processes_below p + 1) < 2 ^ 28 + 6 → Next words p
next_words words p order small =
    let below : words_below p ≡ 4 * (processes_below p + 1) = omega (arith, small) in
    record { base = omega (arith, order, small, below); temporary = omega (arith, small, below) }

fits_next : (words : FrameWords) (p : CoreProcess) (ps : List CoreProcess) → FitsAll words (p ∷ ps)
    → Next words p × FitsAll (after_component words p) ps
unfolding below_all kept_all
fits_next words p ps fits =
    let next = next_words words p fits.order (omega (arith, fits.small)) in (
      next,
      record {
        order = omega (arith, fits.order, next.base, next.temporary);
        small = omega (arith, fits.small, next.temporary);
      },
    )

among_first : (words : FrameWords) (p : CoreProcess) (ps : List CoreProcess) → IsAmong words (p ∷ ps) (placed words p)
unfolding below_all kept_all
among_first words p ps =
    record { low = omega arith; high = omega arith; from = omega arith; to = omega arith }

among_next : (words : FrameWords) (p : CoreProcess) (ps : List CoreProcess) (one : PlacedProcess) → Next words p
    → IsAmong (after_component words p) ps one → IsAmong words (p ∷ ps) one
unfolding below_all kept_all
among_next words p ps one next among =
    record {
      low = omega (arith, among.low, next.base);
      high = omega (arith, among.high, next.base);
      from = omega (arith, among.from, next.base, next.temporary);
      to = omega (arith, among.to, next.base, next.temporary);
    }

component_among : (words : FrameWords) (ps : List CoreProcess) (i : ℕ) (one : PlacedProcess) → FitsAll words ps
    → slice_get (placed_components words ps) i ≡ Some one → IsAmong words ps one
component_among words [] i one fits is = absurd (grind arith)
component_among words (p ∷ ps) zero one fits is =
    subst (λ c. IsAmong words (p ∷ ps) c) (is_some (placed words p) one is) (among_first words p ps)
component_among words (p ∷ ps) (suc i) one fits is =
    let next = fits_next words p ps fits in
    among_next words p ps one next.0 (component_among (after_component words p) ps i one next.1 is)

-- one component is before another
record IsBefore (first second : PlacedProcess) : Type 0 where
  own : first.words.base + 4 * processes_below first.process + 4 ≤ second.words.base
  kept : first.words.temporary + process_temporaries first.process + second.words.base
      ≤ second.words.temporary + first.words.base

components_apart : (words : FrameWords) (ps : List CoreProcess) (i j : ℕ) (first second : PlacedProcess)
    → FitsAll words ps → i < j → slice_get (placed_components words ps) i ≡ Some first
    → slice_get (placed_components words ps) j ≡ Some second → IsBefore first second
components_apart words [] i j first second fits less is is' = absurd (grind arith)
components_apart words (p ∷ ps) zero zero first second fits less is is' = absurd (omega (arith, less))
components_apart words (p ∷ ps) zero (suc j) first second fits less is is' =
    let next = fits_next words p ps fits in
    let among = component_among (after_component words p) ps j second next.1 is' in
    let before : IsBefore (placed words p) second =
    record {
      own = omega (arith, next.0.base, among.low);
      kept = omega (arith, next.0.base, next.0.temporary, among.from);
    } in
    subst (λ c. IsBefore c second) (is_some (placed words p) first is) before
components_apart words (p ∷ ps) (suc i) zero first second fits less is is' = absurd (omega (arith, less))
components_apart words (p ∷ ps) (suc i) (suc j) first second fits less is is' =
    let next = fits_next words p ps fits in
    components_apart (after_component words p) ps i j first second next.1 (omega (arith, less)) is is'

-- the components of a PAR
fits_par : (words : FrameWords) (box box' : Box (Unit {0}) Global) (p q : CoreProcess)
    → Fits (placed words (Parallel' box p box' q)) → FitsAll (inside words) (p ∷ components q)
fits_par words box box' p q fits =
    record {
      order = omega (arith, fits.order, fits.small);
      small = omega (arith, fits.small, parts_below (Parallel' box p box' q), parts_kept (Parallel' box p box' q));
    }

-- a PAR's own words come before those of a component
record IsStarter (first second : PlacedProcess) : Type 0 where
  own : first.words.base + 4 ≤ second.words.base
  kept : first.words.temporary + 2 + second.words.base ≤ second.words.temporary + first.words.base

par_parts : (words : FrameWords) (box box' : Box (Unit {0}) Global) (p q : CoreProcess) (i : ℕ) (one : PlacedProcess)
    → Fits (placed words (Parallel' box p box' q))
    → slice_get (placed_components (inside words) (p ∷ components q)) i ≡ Some one
    → Inside (placed words (Parallel' box p box' q)) one × IsStarter (placed words (Parallel' box p box' q)) one
par_parts words box box' p q i one fits is =
    let all = fits_par words box box' p q fits in
    let among = component_among (inside words) (p ∷ components q) i one all is in
    let base : (inside words).base ≡ words.base + 4 = omega (arith, fits.order, fits.small) in
    let temporary : (inside words).temporary ≡ words.temporary + 6 = omega (arith, fits.small) in
    let below = parts_below (Parallel' box p box' q) in
    let kept = parts_kept (Parallel' box p box' q) in (
      record {
        low = omega (arith, among.low, base);
        high = omega (arith, among.high, base, below);
        from = omega (arith, among.from, base, temporary);
        to = omega (arith, among.to, base, temporary, kept);
      },
      record { own = omega (arith, among.low, base); kept = omega (arith, among.from, base, temporary) },
    )

parts_inside : (words : FrameWords) (p : CoreProcess) (i : ℕ) (one : PlacedProcess) → Fits (placed words p)
    → slice_get (placed_parts words p) i ≡ Some one → Inside (placed words p) one
parts_inside words (Line' place box p) i one fits is =
    one_part _ _ one i (same_words words (Line' place box p) p (omega arith) (omega arith)) is
parts_inside words (Sequence' box p box' q) i one fits is =
    two_parts _ _ _ one i (same_words words (Sequence' box p box' q) p (omega arith) (omega arith))
    (same_words words (Sequence' box p box' q) q (omega arith) (omega arith)) is
parts_inside words (Parallel' box p box' q) i one fits is = (par_parts words box box' p q i one fits is).0
parts_inside words (Choose' guard box p box' q) i one fits is =
    two_parts _ _ _ one i (same_words words (Choose' guard box p box' q) p (omega arith) (omega arith))
    (same_words words (Choose' guard box p box' q) q (omega arith) (omega arith)) is
parts_inside words (If' e box p box' q) i one fits is =
    two_parts _ _ _ one i (same_words words (If' e box p box' q) p (omega arith) (omega arith))
    (same_words words (If' e box p box' q) q (omega arith) (omega arith)) is
parts_inside words (While' e box p) i one fits is =
    one_part _ _ one i (same_words words (While' e box p) p (omega arith) (omega arith)) is
parts_inside words (Repeat' v base count box p) i one fits is =
    one_part _ _ one i (same_words words (Repeat' v base count box p) p (omega arith) (omega arith)) is
parts_inside words _ i one fits is = absurd (grind arith)

within_inside : {first second : PlacedProcess} → Within first second → Fits first → Inside first second
within_inside (itself whole) fits =
    record { low = omega arith; high = omega arith; from = omega arith; to = omega arith }
within_inside (inner whole part last i is within) fits =
    let outer = parts_inside whole.words whole.process i part fits is in
    inside_then whole part last outer (within_inside within (fits_inside whole part fits outer))

-- the components of a PAR, and the PAR and one of them
par_apart : (words : FrameWords) (p : CoreProcess) (i j : ℕ) (one other : PlacedProcess) → is_parallel p ≡ true
    → Fits (placed words p) → i < j → slice_get (placed_parts words p) i ≡ Some one
    → slice_get (placed_parts words p) j ≡ Some other → IsBefore one other
par_apart words (Parallel' box p box' q) i j one other par fits order is is' =
    components_apart (inside words) (p ∷ components q) i j one other (fits_par words box box' p q fits) order is is'
par_apart words _ i j one other par fits order is is' = absurd (grind arith)

par_starts : (words : FrameWords) (p : CoreProcess) (i : ℕ) (one : PlacedProcess) → is_parallel p ≡ true
    → Fits (placed words p) → slice_get (placed_parts words p) i ≡ Some one → IsStarter (placed words p) one
par_starts words (Parallel' box p box' q) i one par fits is = (par_parts words box box' p q i one fits is).1
par_starts words _ i one par fits is = absurd (grind arith)

-- a process keeps no more than it may
kept_if : (is : Bool) (sum all : ℕ) → sum + (if is then 2 else 0) ≡ all → (if is then 2 else all) ≤ all
kept_if true sum all same = omega (arith, same)
kept_if false sum all same = omega arith

kept_least : (p : CoreProcess) → kept_words p ≤ process_temporaries p
kept_least p = kept_if (is_parallel p) (kept_all (components p)) (process_temporaries p) (parts_kept p)

-- two processes that can live together
record IsApart (first second : PlacedProcess) : Type 0 where
  own : first.words.base + 4 ≤ second.words.base
  kept : first.words.temporary + kept_words first.process + second.words.base
      ≤ second.words.temporary + first.words.base

two_apart : (whole first second : PlacedProcess) → OfTwo whole first second → Fits whole → IsApart first second
two_apart whole first second two fits =
    let par = two.par in
    let fits' = fits_inside whole par fits (within_inside two.within fits) in
    let before =
    par_apart par.words par.process two.i two.j two.one two.other two.is_par fits' two.order two.one_is two.other_is in
    let one = fits_inside par two.one fits' (parts_inside par.words par.process two.i two.one fits' two.one_is) in
    let other = fits_inside par two.other fits' (parts_inside par.words par.process two.j two.other fits'
    two.other_is) in
    let left = within_inside two.first_within one in
    let right = within_inside two.second_within other in
    record {
      own = omega (arith, before.own, left.high, right.low);
      kept = omega (arith, before.kept, left.to, right.from, kept_least first.process);
    }

if_true : (is : Bool) (count : ℕ) → is ≡ true → (if is then 2 else count) ≡ 2
if_true true count same = refl
if_true false count same = absurd (grind arith)

starter_apart : (whole first second : PlacedProcess) → OfStarter whole first second → Fits whole
    → IsApart first second
starter_apart whole first second two fits =
    let fits' = fits_inside whole first fits (within_inside two.within fits) in
    let before = par_starts first.words first.process two.i two.one two.is_par fits' two.one_is in
    let one = fits_inside first two.one fits'
    (parts_inside first.words first.process two.i two.one fits' two.one_is) in
    let right = within_inside two.second_within one in
    let two_words : kept_words first.process ≡ 2 =
    if_true (is_parallel first.process) (process_temporaries first.process) two.is_par in
    record {
      own = omega (arith, before.own, right.low);
      kept = omega (arith, before.kept, right.from, two_words);
    }

together_apart : (whole first second : PlacedProcess) → Together whole first second → Fits whole → IsApart first second
together_apart whole first second (inl two) fits = two_apart whole first second two fits
together_apart whole first second (inr two) fits = starter_apart whole first second two fits

-- a program whose words have numbers is laid out so
pub laid_out : ProcessesAreApart
laid_out variables p small =
    let whole = placed (program_words variables) p in
    let temporary : (program_words variables).temporary ≡ variables + 1 = omega (arith, small) in
    let fits : Fits whole = record { order = omega (arith, temporary); small = omega (arith, small, temporary) } in
    record {
      own = λ first second n two owns owns'.
          let apart = together_apart whole first second two fits in
          omega (arith, apart.own, owns.from, owns'.to);
      kept = λ first second n two keeps keeps'.
          let apart = together_apart whole first second two fits in
          omega (arith, apart.kept, keeps.to, keeps'.from);
      before = λ one within. let inside = within_inside within fits in omega (arith, inside.high);
      variable = λ one n within owns. let inside = within_inside within fits in omega (arith, inside.low, owns.to);
      after = λ one n within keeps.
          let inside = within_inside within fits in (
            omega (arith, inside.from, keeps.from, temporary),
            omega (arith, inside.to, keeps.to, temporary, kept_least one.process),
          );
      moved = omega (arith, small);
      space = omega (arith, small);
    }
