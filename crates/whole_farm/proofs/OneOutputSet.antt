-- One output set in the switch of a whole farm, and what a domain sees of it, for the messages of `Messages.antt` and
-- the tidy farms of `MadeOfDomains.antt`.
use Rattle.std.proofs.Common.{◌≡◌, inl, inr, ℕ, suc, Bool, true, false, cond, ◌&&◌, ◌||◌, not, Option, Some, None, List}
use Rattle.std.proofs.Common.{[], ◌∷◌, length, slice_get, is_some, Contains, refl, sym, ap, ◌∙◌, subst}
use Rattle.std.proofs.Common.{nat_cmp, ◌==◌, Equal}
use Rattle.std.proofs.lemmas.Bool.{cases_eq, cases_lt, eq-eqb, ne_eqb, lt-ltb, le-ltb, cond-true, cond-false}
use Rattle.std.proofs.lemmas.Option.{same_Some, none-some, slice_get_past}
use Rattle.std.proofs.lemmas.Option.{slice_get_within, get_or_from_slice_get, slice_get-get_or}
use Rattle.std.specs.Option.{option_map, option_and_then}
use Rattle.std.specs.Ordering.{eq_by_cmp}
use Rattle.std.specs.Cmp.{nat_cmp_total, unsigned_tied}
use Rattle.std.specs.FinMap as map
use Rattle.std.specs.FinSet as set
use Rattle.crossbar.specs.Switch.{Switch, connected, disconnected, all_ready}
use Rattle.crossbar.specs.Ranges.{IsOneToOne}
use Rattle.crossbar.specs.Row.{number_among}
use Rattle.crossbar.specs.Laws.{SwitchLaws}
use Rattle.whole_farm.specs.Messages.{readied, disconnected_ports, is_among}
use Rattle.whole_farm.specs.Projection.{own_switch, driver_at, ready_at}
use Rattle.whole_farm.specs.Domains.{DrivesItself}

-- what the order of numbers says of two that are equal, and of two that aren't
eq-by-cmp-of-equal : (q k : ℕ) → q ≡ k → eq_by_cmp nat_cmp q k ≡ true
eq-by-cmp-of-equal q k same = unsigned_tied q k ∙ eq-eqb q k same

eq-by-cmp-of-unequal : (q k : ℕ) → (q ≡ k → ⊥) → eq_by_cmp nat_cmp q k ≡ false
eq-by-cmp-of-unequal q k ne = unsigned_tied q k ∙ ne_eqb q k ne

-- the output has this driver and isn't ready, and all others are as before
pub record SetsOutput (old new : Switch) (output : ℕ) (input : Option ℕ) : Type 0 where
  pub pairs : (q : ℕ) → map.get new.pairs q ≡ cond (eq_by_cmp nat_cmp q output) input (map.get old.pairs q)
  pub ready : (q : ℕ) → set.contains new.ready q ≡ (not (eq_by_cmp nat_cmp q output) && set.contains old.ready q)

-- connecting an output sets it to its input
pub sets_connected : (s : Switch) (input output : ℕ) → SetsOutput s (connected s input output) output (Some input)
sets_connected s input output =
    record {
      pairs = λ q. map.get-insert nat_cmp_total s.pairs output input q;
      ready = λ q. set.contains-remove nat_cmp_total s.ready output q;
    }

-- disconnecting an output sets it to none
pub sets_disconnected : (s : Switch) (output : ℕ) → SetsOutput s (disconnected s output) output None
sets_disconnected s output =
    record {
      pairs = λ q. map.get-remove nat_cmp_total s.pairs output q;
      ready = λ q. set.contains-remove nat_cmp_total s.ready output q;
    }

-- two switches that come of one by the same output set to the same are equal
pub one_set : SwitchLaws → (old switch other_switch : Switch) (output : ℕ) (input : Option ℕ)
    → SetsOutput old switch output input
    → SetsOutput old other_switch output input
    → switch ≡ other_switch
one_set laws old switch other_switch output input given holds =
    laws.same switch other_switch (λ q. given.pairs q ∙ sym (holds.pairs q)) (λ q. given.ready q ∙ sym (holds.ready q))

-- a port of a list has a number there, and a number of it a port
pub contains_at : (ports : List ℕ) (v port : ℕ) → slice_get ports v ≡ Some port → Contains ports port
contains_at ports v port at = (v, slice_get_within ports v port at, get_or_from_slice_get ports v port port at)

-- a port among the ports is somewhere in their list
pub at_contained : (ports : List ℕ) (port : ℕ) → Contains ports port → (v : ℕ) × (slice_get ports v ≡ Some port)
at_contained ports port is = (is.0, slice_get-get_or ports is.0 port is.1 ∙ ap (λ (x : ℕ). Some x) is.2)

-- ---- what a domain sees of a switch

-- the input that a domain sees at a number is the driver of the port there
pub get-own_switch : SwitchLaws → (ports : List ℕ) (s : Switch) (v : ℕ)
    → map.get (own_switch ports s).pairs v ≡ driver_at ports s (slice_get ports v)
get-own_switch laws ports s v =
    let here = laws.pairs (length ports) (λ w. driver_at ports s (slice_get ports w)) v in
    elim (cases_lt v (length ports)) [
      | inl lt ↦ here ∙ cond-true _ _ _ (lt-ltb _ _ lt)
      | inr ge ↦ here ∙ cond-false _ _ _ (le-ltb _ _ ge) ∙ sym (ap (driver_at ports s) (slice_get_past ports v ge))
    ]

-- a number that a domain sees ready is a port that is ready
pub contains-own_switch : SwitchLaws → (ports : List ℕ) (s : Switch) (v : ℕ)
    → set.contains (own_switch ports s).ready v ≡ ready_at s (slice_get ports v)
contains-own_switch laws ports s v =
    let here = laws.ready (length ports) (λ w. ready_at s (slice_get ports w)) v in
    elim (cases_lt v (length ports)) [
      | inl lt ↦ here ∙ ap (λ t. t && ready_at s (slice_get ports v)) (lt-ltb _ _ lt)
      | inr ge ↦
          here ∙ ap (λ t. t && ready_at s (slice_get ports v)) (le-ltb _ _ ge)
          ∙ sym (ap (ready_at s) (slice_get_past ports v ge))
    ]

-- two switches in which the ports see the same
pub same_own_switch : SwitchLaws → (ports : List ℕ) (old new : Switch)
    → ((v port : ℕ) → slice_get ports v ≡ Some port → map.get new.pairs port ≡ map.get old.pairs port)
    → ((v port : ℕ) → slice_get ports v ≡ Some port → set.contains new.ready port ≡ set.contains old.ready port)
    → own_switch ports new ≡ own_switch ports old
same_own_switch laws ports old new pairs ready =
    laws.same _ _
    (λ q. get-own_switch laws ports new q ∙ drivers q (slice_get ports q) refl ∙ sym (get-own_switch laws ports old q))
    (λ q. contains-own_switch laws ports new q ∙ readies q (slice_get ports q) refl
    ∙ sym (contains-own_switch laws ports old q))
  where
    drivers : (q : ℕ) (found : Option ℕ) → slice_get ports q ≡ found
        → driver_at ports new found ≡ driver_at ports old found
    drivers q None e = refl
    drivers q (Some port) e = ap (option_and_then (number_among ports)) (pairs q port e)

    readies : (q : ℕ) (found : Option ℕ) → slice_get ports q ≡ found → ready_at new found ≡ ready_at old found
    readies q None e = refl
    readies q (Some port) e = ready q port e

-- an output of the ports was set: so it was in what they see
pub own_switch_sets : SwitchLaws → (ports : List ℕ) (old new : Switch) (output port : ℕ) (input : Option ℕ)
    → IsOneToOne ports → slice_get ports output ≡ Some port
    → SetsOutput old new port input
    → SetsOutput (own_switch ports old) (own_switch ports new) output (option_and_then (number_among ports) input)
own_switch_sets laws ports old new output port input one at given = record {
  pairs =
      λ q. get-own_switch laws ports new q ∙ drivers q (slice_get ports q) refl
      ∙ ap (cond (eq_by_cmp nat_cmp q output) (option_and_then (number_among ports) input))
      (sym (get-own_switch laws ports old q));
  ready =
      λ q. contains-own_switch laws ports new q ∙ readies q (slice_get ports q) refl
      ∙ ap (λ t. not (eq_by_cmp nat_cmp q output) && t) (sym (contains-own_switch laws ports old q));
}
  where
    drivers : (q : ℕ) (found : Option ℕ) → slice_get ports q ≡ found
        → driver_at ports new found
        ≡ cond (eq_by_cmp nat_cmp q output) (option_and_then (number_among ports) input) (driver_at ports old found)
    drivers q None e =
        sym (cond-false _ _ _
        (eq-by-cmp-of-unequal q output (λ is. none-some port (sym e ∙ ap (slice_get ports) is ∙ at))))
    drivers q (Some p) e =
        elim (cases_eq q output) [
          | inl is ↦
              let same : p ≡ port = same_Some _ _ (sym e ∙ ap (slice_get ports) is ∙ at) in
              ap (option_and_then (number_among ports))
              (given.pairs p ∙ cond-true _ _ _ (eq-by-cmp-of-equal p port same))
              ∙ sym (cond-true _ _ _ (eq-by-cmp-of-equal q output is))
          | inr ne ↦
              ap (option_and_then (number_among ports))
              (given.pairs p
              ∙ cond-false _ _ _
              (eq-by-cmp-of-unequal p port (λ same. ne (one q output p e (at ∙ ap (λ (x : ℕ). Some x) (sym same))))))
              ∙ sym (cond-false _ _ _ (eq-by-cmp-of-unequal q output ne))
        ]

    readies : (q : ℕ) (found : Option ℕ) → slice_get ports q ≡ found
        → ready_at new found ≡ (not (eq_by_cmp nat_cmp q output) && ready_at old found)
    readies q None e =
        sym (ap (λ t. not t && false)
        (eq-by-cmp-of-unequal q output (λ is. none-some port (sym e ∙ ap (slice_get ports) is ∙ at))))
    readies q (Some p) e =
        elim (cases_eq q output) [
          | inl is ↦
              let same : p ≡ port = same_Some _ _ (sym e ∙ ap (slice_get ports) is ∙ at) in
              given.ready p
              ∙ ap (λ t. not t && set.contains old.ready p)
              (eq-by-cmp-of-equal p port same ∙ sym (eq-by-cmp-of-equal q output is))
          | inr ne ↦
              given.ready p
              ∙ ap (λ t. not t && set.contains old.ready p)
              (eq-by-cmp-of-unequal p port (λ same. ne (one q output p e (at ∙ ap (λ (x : ℕ). Some x) (sym same))))
              ∙ sym (eq-by-cmp-of-unequal q output ne))
        ]

-- an output of no such port was set: they see nothing of it
pub untouched : SwitchLaws → (ports : List ℕ) (old new : Switch) (port : ℕ) (input : Option ℕ)
    → ((v : ℕ) → slice_get ports v ≡ Some port → ⊥) → SetsOutput old new port input
    → own_switch ports new ≡ own_switch ports old
untouched laws ports old new port input out given =
    same_own_switch laws ports old new
    (λ v p at. given.pairs p ∙ cond-false _ _ _ (eq-by-cmp-of-unequal p port (other v p at)))
    (λ v p at. given.ready p ∙ ap (λ t. not t && set.contains old.ready p) (eq-by-cmp-of-unequal p port (other v p at)))
  where
    other : (v p : ℕ) → slice_get ports v ≡ Some p → p ≡ port → ⊥
    other v p at same = out v (at ∙ ap (λ (x : ℕ). Some x) same)

-- the ports still drive themselves
pub still_drives : (ports : List ℕ) (old new : Switch) (port : ℕ) (input : Option ℕ) → DrivesItself ports old
    → SetsOutput old new port input
    → ((from : ℕ) → Contains ports port → input ≡ Some from → Contains ports from) → DrivesItself ports new
still_drives ports old new port input own given own_input p from at is =
    elim (cases_eq p port) [
      | inl same ↦
          own_input from (subst (Contains ports) same at)
          (sym (given.pairs p ∙ cond-true _ _ _ (eq-by-cmp-of-equal p port same)) ∙ is)
      | inr ne ↦ own p from at (sym (given.pairs p ∙ cond-false _ _ _ (eq-by-cmp-of-unequal p port ne)) ∙ is)
    ]

-- ---- all outputs of a domain

-- a port that isn't in the list has no number
pub number_among-none : (ports : List ℕ) (port : ℕ) → ((v : ℕ) → slice_get ports v ≡ Some port → ⊥)
    → number_among ports port ≡ None
number_among-none [] port out = refl
number_among-none (first ∷ ports) port out =
    let t : (first == port) ≡ false = ne_eqb _ _ (λ (e : first ≡ port). out 0 (ap (λ (x : ℕ). Some x) e)) in
    rw t (ap (option_map suc) (number_among-none ports port (λ v. out (suc v))))

chosen : (flag other_flag third_flag : Bool) → ((flag && not other_flag) || (third_flag && other_flag))
    ≡ cond other_flag third_flag flag
chosen true true true = refl
chosen true true false = refl
chosen true false true = refl
chosen true false false = refl
chosen false true true = refl
chosen false true false = refl
chosen false false true = refl
chosen false false false = refl

and-not-is-cond : (flag other_flag : Bool) → (flag && not other_flag) ≡ cond other_flag false flag
and-not-is-cond true true = refl
and-not-is-cond true false = refl
and-not-is-cond false true = refl
and-not-is-cond false false = refl

cond-of-not : {X : Type 0} (b : Bool) (value : Option X) → cond (not b) value None ≡ cond b None value
cond-of-not true value = refl
cond-of-not false value = refl

same-at-equal : (p : ℕ → Bool) (q x : ℕ) → nat_cmp q x ≡ Equal → p x ≡ p q
same-at-equal p q x same = ap p (sym (map.nat_cmp-IsAntisymmetric q x same))

-- once all connected outputs are ready, an output is ready exactly if it is connected
pub keys_of : (s : Switch) (q : ℕ) → set.contains (all_ready s).ready q ≡ is_some (map.get s.pairs q)
keys_of s q = set.contains-from_list nat_cmp_total (map.keys s.pairs) q ∙ sym (map.contains_key-keys s.pairs q)

-- once a domain's connected outputs are ready, its ports are ready if connected, and others as before
pub contains-readied : (ports : List ℕ) (s : Switch) (p : ℕ)
    → set.contains (readied ports s).ready p
    ≡ cond (is_among ports p) (is_some (map.get s.pairs p)) (set.contains s.ready p)
contains-readied ports s p =
    let away =
    set.contains-retain s.ready (λ port. not (is_among ports port)) p
    (λ x e. same-at-equal (λ port. not (is_among ports port)) p x e) in
    let kept =
    set.contains-retain (all_ready s).ready (is_among ports) p (λ x e. same-at-equal (is_among ports) p x e) in
    set.contains-union nat_cmp_total _ _ p ∙ (λ i. away i || kept i)
    ∙ ap (λ t. (set.contains s.ready p && not (is_among ports p)) || (t && is_among ports p)) (keys_of s p)
    ∙ chosen (set.contains s.ready p) (is_among ports p) (is_some (map.get s.pairs p))

-- once a domain's ports are disconnected, none of them has an input, and others have theirs
pub get-emptied : (ports : List ℕ) (s : Switch) (p : ℕ)
    → map.get (disconnected_ports ports s).pairs p ≡ cond (is_among ports p) None (map.get s.pairs p)
get-emptied ports s p =
    map.get-retain_keys s.pairs (λ port. not (is_among ports port)) p
    (λ x e. same-at-equal (λ port. not (is_among ports port)) p x e)
    ∙ cond-of-not (is_among ports p) _

-- once a domain's ports are disconnected, none of them is ready, and others are as before
pub contains-emptied : (ports : List ℕ) (s : Switch) (p : ℕ)
    → set.contains (disconnected_ports ports s).ready p ≡ cond (is_among ports p) false (set.contains s.ready p)
contains-emptied ports s p =
    set.contains-retain s.ready (λ port. not (is_among ports port)) p
    (λ x e. same-at-equal (λ port. not (is_among ports port)) p x e)
    ∙ and-not-is-cond (set.contains s.ready p) (is_among ports p)
