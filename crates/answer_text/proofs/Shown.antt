-- What is shown of a list, reply by reply.
use Rattle.std.proofs.Common.{◌≡◌, ℕ, ◌+◌, ◌<◌, List, [], ◌∷◌, ◌++◌, length, take, get_or, ap, sym, ◌∙◌, append_assoc}
use Rattle.std.specs.List.{flat_map}
use Rattle.std.proofs.lemmas.List.{map-append, take_more}
use Rattle.std.proofs.lemmas.List.Elements.{filter_map-append}
use Rattle.std.proofs.lemmas.Grind.{flat_map-append}
use Rattle.domain_core.specs.declared.event.Reply.{Reply}
use Rattle.domain_core.specs.declared.event.AnsweredCommand.{AnsweredCommand}
use Rattle.answer_text.specs.Digits.{byte_text}
use Rattle.answer_text.specs.Results.{replies_told}
use Rattle.answer_text.specs.Results.{byte_read, bytes_read}

-- one reply more
replies_more : (told : List AnsweredCommand) (i : ℕ) (other_told : AnsweredCommand) → i < length told
    → replies_told (take (i + 1) told) ≡ replies_told (take i told) ++ (get_or told i other_told).reply ∷ []
replies_more told i other_told within =
    ap replies_told (take_more told i other_told within)
    ∙ map-append (λ t. t.reply) (take i told) (get_or told i other_told ∷ [])

-- a text of the replies grows by the text of one more
grows : {T : Type 0} (make : List Reply → List T)
    → ((xs ys : List Reply) → make (xs ++ ys) ≡ make xs ++ make ys)
    → (told : List AnsweredCommand) (i : ℕ) (other_told : AnsweredCommand)
    → i < length told
    → make (replies_told (take (i + 1) told)) ≡ make (replies_told (take i told)) ++ make
    ((get_or told i other_told).reply ∷ [])
grows make split told i other_told within =
    ap make (replies_more told i other_told within) ∙ split (replies_told (take i told))
    ((get_or told i other_told).reply ∷ [])

bytes_split : (xs ys : List Reply)
    → flat_map byte_text (bytes_read (xs ++ ys))
    ≡ flat_map byte_text (bytes_read xs) ++ flat_map byte_text (bytes_read ys)
bytes_split xs ys =
    ap (flat_map byte_text) (filter_map-append byte_read xs ys)
    ∙ flat_map-append byte_text (bytes_read xs) (bytes_read ys)

-- a text that had what the first replies brought, and gained what one more did
pub bytes_more : (told : List AnsweredCommand) (i : ℕ) (other_told : AnsweredCommand) (start before after : List ℕ)
    → i < length told
    → before ≡ start ++ flat_map byte_text (bytes_read (replies_told (take i told)))
    → after ≡ before ++ flat_map byte_text (bytes_read ((get_or told i other_told).reply ∷ []))
    → after ≡ start ++ flat_map byte_text (bytes_read (replies_told (take (i + 1) told)))
bytes_more told i other_told start before after within had gains =
    gains ∙ ap (λ (text : List ℕ). text ++ flat_map byte_text (bytes_read ((get_or told i other_told).reply ∷ []))) had
    ∙ append_assoc start (flat_map byte_text (bytes_read (replies_told (take i told))))
    (flat_map byte_text (bytes_read ((get_or told i other_told).reply ∷ [])))
    ∙ ap (λ (more : List ℕ). start ++ more)
    (sym (grows (λ (rs : List Reply). flat_map byte_text (bytes_read rs)) bytes_split told i other_told within))
