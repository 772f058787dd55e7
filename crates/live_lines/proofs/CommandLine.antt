-- What the words of the command line say of the program's options: the clauses `said` and `rule` of command_line.rt.
use Rattle.std.proofs.Common.{◌≡◌, ◌∙◌, ◌≤◌, ◌<◌, ◌&&◌, ◌^◌, ℕ, Bool, true, false, List, [], ◌∷◌, ◌++◌, Option, Some, None}
use Rattle.std.proofs.Common.{refl, sym, ap, subst, arith, length, Ok, Err, IfSome}
use Rattle.std.specs.Prelude.{Result}
use Rattle.std.proofs.lemmas.Bool.{ne_eqb}
use Rattle.std.specs.Str.Parse.{IsNumeral, ParsesUnsigned, digits_value, without_leading_plus}
use Rattle.clap.specs.Words.{ReadsOne, is_simple}
use Rattle.clap.specs.Walk.{is_empty, is_free_arg}
use Rattle.clap.specs.declared.builder.arg.Arg.{Arg}
use Rattle.clap.proofs.OnLiterals.{clap_on_literals}
use Rattle.live_lines.specs.LiveSettings.{live_command}

-- `clap` defines the matches of the program's command
pub live_is_simple : is_simple live_command ≡ true
unfolding clap_on_literals
live_is_simple = refl

-- ---- rules

third_false : (flag other_flag third_flag rest : Bool) → third_flag ≡ false
    → (flag && (other_flag && (third_flag && rest))) ≡ false
third_false false other_flag third_flag rest is = refl
third_false true false third_flag rest is = refl
third_false true true false rest is = refl
third_false true true true rest is = cc

-- a list that gained an element isn't empty
pub is_filled : {X : Type 0} (xs ys : List X) (x : X) → ys ≡ xs ++ x ∷ [] → is_empty ys ≡ false
is_filled [] ys x is = ap is_empty is
is_filled (y ∷ xs) ys x is =
    ap is_empty is ∙ ne_eqb (length (y ∷ xs ++ x ∷ [])) 0 (λ e. absurd (omega (arith, e)))

-- an argument that requires another has a rule on it
pub isnt_free : (arg : Arg) → is_empty arg.needs.items ≡ false → is_free_arg arg ≡ false
isnt_free arg needs = third_false _ _ (is_empty arg.needs.items) _ needs

-- ---- numbers

-- the number that is read of a text is the one that it spells
pub number_read : {E : Type 0} (bits least most : ℕ) (G : List ℕ → Result ℕ E → Type 0) (given : Option ℕ) (n : ℕ)
    (text : List ℕ)
    → most < 2 ^ bits → ReadsOne G text given → ((u : List ℕ) (x : Result ℕ E) → G u x → ParsesUnsigned bits 10 u x)
    → IfSome given (λ v. least ≤ v → v ≤ most → n ≡ v) → IsNumeral 10 (without_leading_plus text)
    → least ≤ digits_value 10 (without_leading_plus text) → digits_value 10 (without_leading_plus text) ≤ most
    → n ≡ digits_value 10 (without_leading_plus text)
number_read bits least most G (Some v) n text fits read only is numeral low high =
    let parsed = only text (Ok v) read in
    is (subst (λ (w : ℕ). least ≤ w) (sym parsed.1) low) (subst (λ (w : ℕ). w ≤ most) (sym parsed.1) high) ∙ parsed.1
number_read bits least most G None n text fits read only is numeral low high =
    absurd (only text (Err read.0) read.1 (numeral, omega (arith, high, fits)))
