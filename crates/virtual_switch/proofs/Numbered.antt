-- Messages by virtual numbers, for what `connect`, `connect_both`, `disconnect_both` and `enquire` of `perform` make of
-- what the crossbar does by physical inputs.
use Rattle.std.proofs.Common.{◌≡◌, ℕ, ◌<◌, ◌≤◌, false, List, length, Option, Some, None, IfSome, Contains, slice_get}
use Rattle.std.proofs.Common.{refl, ap, subst, arith}
use Rattle.std.proofs.lemmas.Option.{same_Some, none-some, slice_get_within, get_or_from_slice_get}
use Rattle.crossbar.specs.declared.word.Connection.{Connection}
use Rattle.crossbar.specs.Fits.{InputFits}

-- a port that has a number is among the ports
pub contained : (ports : List ℕ) (v port : ℕ) → slice_get ports v ≡ Some port → Contains ports port
contained ports v port at = (v, slice_get_within ports v port at, get_or_from_slice_get ports v port port at)

-- an output that isn't connected has no input that could be too large
pub no_input_fits : InputFits None
no_input_fits c is = absurd (none-some c is)

-- a connection to an input below 32 fits in a word
pub input_fits : (input : ℕ) → input < 32 → InputFits (Some (record { input = input; ready = false }))
input_fits input less c is = subst (λ (n : ℕ). n < 32) (ap (λ (x : Connection). x.input) (same_Some _ _ is)) less

-- numbers among 32 ports are below 32
pub numbers_are_below : (ports : List ℕ) (port : ℕ) (found : Option ℕ)
    → ((v : ℕ) → found ≡ Some v → slice_get ports v ≡ Some port) → length ports ≤ 32
    → IfSome found (λ input. input < 32)
numbers_are_below ports port None given few = tt
numbers_are_below ports port (Some v) given few =
    let less = slice_get_within ports v port (given v refl) in omega arith
