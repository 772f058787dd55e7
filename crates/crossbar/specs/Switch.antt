-- A private switch: a set of pairs (output, input), no output in two of them, and a set of ready outputs.
-- IMS C004 data sheet, link switching: each output is driven by at most one input, and one input may drive several.
use Rattle.std.specs.Prelude.{ℕ, zero, suc, Bool, false, ◌==◌, Option, Some, None, if◌then◌else◌}
use Rattle.std.specs.Ordering.{nat_cmp}
use Rattle.std.specs.FinMap as map
use Rattle.std.specs.FinSet as set

-- the pairs and the ready outputs
pub record Switch : Type 0 where
  -- each connected output with the input that drives it
  pub pairs : map.FinMap nat_cmp ℕ
  pub ready : set.FinSet nat_cmp

-- no output is connected: configuration message 4
abbrev pub cleared : Switch
cleared = record { pairs = map.empty; ready = set.empty }

-- the input drives the output instead of what drove it, and the output isn't ready: configuration message 0
abbrev pub connected : Switch → ℕ → ℕ → Switch
connected s input output = record { pairs = map.insert s.pairs output input; ready = set.remove s.ready output }

-- nothing drives the output: configuration message 5
abbrev pub disconnected : Switch → ℕ → Switch
disconnected s output = record { pairs = map.remove s.pairs output; ready = set.remove s.ready output }

-- each connected output is ready: configuration message 3
abbrev pub all_ready : Switch → Switch
all_ready s = record { pairs = s.pairs; ready = set.from_list (map.keys s.pairs) }

-- a finite map with one key more, if it has a value
abbrev pub with_key : {X : Type 0} → map.FinMap nat_cmp X → ℕ → Option X → map.FinMap nat_cmp X
with_key m key None = m
with_key m key (Some x) = map.insert m key x

-- the finite map and the finite set that a function says below n
abbrev pub map_below : {X : Type 0} → ℕ → (ℕ → Option X) → map.FinMap nat_cmp X
map_below zero f = map.empty
map_below (suc n) f = with_key (map_below n f) n (f n)

-- the finite set of the numbers below n for which a test holds
abbrev pub set_below : ℕ → (ℕ → Bool) → set.FinSet nat_cmp
set_below zero p = set.empty
set_below (suc n) p = if p n then set.insert (set_below n p) n else set_below n p

-- the output is driven by this input
abbrev pub names : Option ℕ → ℕ → Bool
names None input = false
names (Some driver) input = driver == input

-- the input drives the output
abbrev pub drives : Switch → ℕ → ℕ → Bool
drives s input output = names (map.get s.pairs output) input
