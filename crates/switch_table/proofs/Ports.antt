-- The words of a domain's outputs, by virtual number, for `SwitchTable::open` and the rows of seats.
use Rattle.std.proofs.Common.{◌≡◌, ◌≢◌, ℕ, zero, suc, ◌+◌, ◌<◌, List, [], ◌∷◌, ◌++◌, map, take, drop, replicate, length}
use Rattle.std.proofs.Common.{set, Some, slice_get, slice_index, All, Contains, refl, sym, ap, ◌∙◌, arith, length-set}
use Rattle.std.proofs.Common.{get_or-set_same, get_or-set_other, ext_get_or}
use Rattle.std.proofs.Math.Decide.{ℕ_discrete}
use Rattle.std.proofs.lemmas.List.{get_or_default, get_or-map, length-map, drop_more, take_more}
use Rattle.std.proofs.lemmas.List.Elements.{All-append}
use Rattle.std.proofs.lemmas.Option.{get_or_from_slice_get}
use mathlib.Core.Logic.{dite}
use Rattle.switch_table.specs.declared.view.View.{View}
use Rattle.switch_table.specs.Rule.{StoresAlone, with_view_word}

-- the bits that a view has of these ports
abbrev pub bits_of : View → List ℕ → List ℕ
bits_of v ports = map (slice_index v.words) ports

module _ (view : View) (ports : List ℕ) (v i : ℕ) (there : v < length ports) (is : i ≡ slice_index ports v) where
  -- the port of a virtual number is among the domain's
  pub port_own : Contains ports i
  port_own = (v, there, get_or_default ports v i 0 there ∙ sym is)

  -- if the seat holds this domain alone, it alone stores at that port
  pub port_held : view.held ≡ ports ∷ [] → StoresAlone view i
  port_held same = (0, ports, ap (λ (held : List (List ℕ)). slice_get held 0) same, port_own)

  -- the word of the virtual number is the view's word of the port
  pub port_word : slice_index (bits_of view ports) v ≡ slice_index view.words i
  port_word = get_or-map (slice_index view.words) ports v 0 0 there ∙ ap (slice_index view.words) (sym is)

  -- a store at the port changes the word of its virtual number alone
  pub port_set : (w : ℕ)
      → i < length view.words → ((u : ℕ) → u < length ports → slice_index ports u ≡ slice_index ports v → u ≡ v)
      → bits_of (with_view_word view i w) ports ≡ set (bits_of view ports) v w
  port_set w inside one_to_one = ext_get_or 0 (bits_of (with_view_word view i w) ports) (set (bits_of view ports) v w)
      (length-map ports (slice_index (set view.words i w))
      ∙ sym (length-set (bits_of view ports) v w ∙ length-map ports (slice_index view.words)))
      (λ u h.
      let short : u < length ports = let e = length-map ports (slice_index (set view.words i w)) in omega arith in
      get_or-map (slice_index (set view.words i w)) ports u 0 0 short ∙ dite (ℕ_discrete u v)
      (λ (e : u ≡ v). ap (λ (k : ℕ). slice_index (set view.words i w) (slice_index ports k)) e
      ∙ ap (slice_index (set view.words i w)) (sym is) ∙ get_or-set_same view.words i w 0 inside
      ∙ sym (ap (slice_index (set (bits_of view ports) v w)) e
      ∙ get_or-set_same (bits_of view ports) v w 0 (let l = length-map ports (slice_index view.words) in omega arith)))
      (λ (other : u ≢ v).
      get_or-set_other view.words i (slice_index ports u) w 0
      (λ (e : slice_index ports u ≡ i). other (one_to_one u short (e ∙ is)))
      ∙ sym (get_or-set_other (bits_of view ports) v u w 0 other
      ∙ get_or-map (slice_index view.words) ports u 0 0 short)))

-- each word of a table that has just been made is 0
pub no_word : (n i : ℕ) → slice_index (replicate n 0) i ≡ 0
no_word zero i = refl
no_word (suc n) zero = refl
no_word (suc n) (suc i) = no_word n i

-- one 0 for each port
abbrev pub zeros : List ℕ → List ℕ
zeros ports = replicate (length ports) 0

-- an opening view has a word 0 for each port
pub bits_of-clear : (n : ℕ) (ports : List ℕ) → map (slice_index (replicate n 0)) ports ≡ zeros ports
bits_of-clear n [] = refl
bits_of-clear n (p ∷ ports) = λ k. no_word n p k ∷ bits_of-clear n ports k

module _ (domains : List (List ℕ)) (i : ℕ) (ports : List ℕ) (inside : i < length domains)
    (is : slice_get domains i ≡ Some ports) where
  -- the domains that wait for a seat, and those that have one
  pub waiting : drop i domains ≡ ports ∷ drop (i + 1) domains
  waiting =
      drop_more domains i ports inside
      ∙ ap (λ (d : List ℕ). d ∷ drop (i + 1) domains) (get_or_from_slice_get domains i ports ports is)

  -- the domains that have a seat, once this one has
  pub seated : take (i + 1) domains ≡ take i domains ++ ports ∷ []
  seated =
      take_more domains i ports inside
      ∙ ap (λ (d : List ℕ). take i domains ++ d ∷ []) (get_or_from_slice_get domains i ports ports is)

-- P of each element, and of one more
pub all_push : {X : Type 0} (P : X → Type 0) (xs : List X) (x : X) → All P xs → P x → All P (xs ++ x ∷ [])
all_push P xs x all last = All-append P xs (x ∷ []) all one
  where
    one : All P (x ∷ [])
    one zero d h = last
    one (suc k) d h = absurd (omega arith)
