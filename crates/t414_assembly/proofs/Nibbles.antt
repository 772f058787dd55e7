-- The nibble of the function of a nibble is that nibble: the contract of `prefix`, which spells a byte by itself.
use Rattle.std.proofs.Common.{ℕ, ◌≡◌, ◌<◌, ◌/◌, ◌%◌, ◌++◌, [], ◌∷◌, Bool, true}
use Rattle.std.proofs.Common.{false, cond, zero, suc, refl, sym, ap, ◌∙◌, arith}
use Rattle.t414_decode.specs.Codes.{function_of}
use Rattle.t414_decode.specs.declared.instruction.Function.{Function}
use Rattle.t414_decode.specs.Meaning.{continues}
use Rattle.t414_assembly.specs.Usual.{nibble_of, byte_with, prefixes_of, usual}
use Rattle.t414_assembly.proofs.Usual.{none_of}

nibble_back : (m : ℕ) → m < 16 → nibble_of (function_of m) ≡ m
unfolding function_of nibble_of
nibble_back zero less = refl
nibble_back (suc zero) less = refl
nibble_back (suc (suc zero)) less = refl
nibble_back (suc (suc (suc zero))) less = refl
nibble_back (suc (suc (suc (suc zero)))) less = refl
nibble_back (suc (suc (suc (suc (suc zero))))) less = refl
nibble_back (suc (suc (suc (suc (suc (suc zero)))))) less = refl
nibble_back (suc (suc (suc (suc (suc (suc (suc zero))))))) less = refl
nibble_back (suc (suc (suc (suc (suc (suc (suc (suc zero)))))))) less = refl
nibble_back (suc (suc (suc (suc (suc (suc (suc (suc (suc zero))))))))) less = refl
nibble_back (suc (suc (suc (suc (suc (suc (suc (suc (suc (suc zero)))))))))) less = refl
nibble_back (suc (suc (suc (suc (suc (suc (suc (suc (suc (suc (suc zero))))))))))) less = refl
nibble_back (suc (suc (suc (suc (suc (suc (suc (suc (suc (suc (suc (suc zero)))))))))))) less = refl
nibble_back (suc (suc (suc (suc (suc (suc (suc (suc (suc (suc (suc (suc (suc zero))))))))))))) less = refl
nibble_back (suc (suc (suc (suc (suc (suc (suc (suc (suc (suc (suc (suc (suc (suc zero)))))))))))))) less = refl
nibble_back (suc (suc (suc (suc (suc (suc (suc (suc (suc (suc (suc (suc (suc (suc (suc zero))))))))))))))) less = refl
nibble_back (suc (suc (suc (suc (suc (suc (suc (suc (suc (suc (suc (suc (suc (suc (suc (suc m)))))))))))))))) less =
    absurd (omega arith)

-- a byte is the one spelling of its function and its nibble
pub usual_byte : (byte : ℕ) (function : Function) (n : ℕ) → byte < 256 → function
    ≡ function_of (byte / 16) → n ≡ byte % 16
    → usual function n ≡ byte ∷ []
usual_byte byte function n fits is nibble =
    let small : n < 16 = omega (arith, nibble) in
    let front : (b : Bool) → cond b [] (prefixes_of n) ≡ [] =
    λ b. elim b as (λ t. cond t [] (prefixes_of n) ≡ []) [ true ↦ refl | false ↦ sym (none_of n small) ] in
    let back : nibble_of function ≡ byte / 16 = ap nibble_of is ∙ nibble_back (byte / 16) (omega (arith, fits)) in
    let value : byte_with function n ≡ byte = omega (arith, back, nibble, small) in
    ap (λ xs. xs ++ byte_with function n ∷ []) (front (continues function)) ∙ ap (λ b. b ∷ []) value
