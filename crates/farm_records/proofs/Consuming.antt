-- Known bytes that are consumed one piece after another, and the lines of a record that are done again meanwhile:
-- the contracts of `redo_lines` and `take_head`.
use Rattle.std.specs.Prelude.{◌≡◌, ◌≢◌, ◌<◌, ◌≤◌, ◌+◌, ◌-◌, ℕ, List, [], ◌∷◌, ◌++◌, length, take, drop, Option, None, Some, All, slice_get}
use Rattle.std.proofs.Common.{refl, ap, ◌∙◌, sym, subst, arith, append_assoc}
use Rattle.std.proofs.lemmas.List.{append-nil, take-append-drop, length-take, take_all}
use Rattle.std.proofs.lemmas.List.Elements.{All-nil, All-push, All-more}
use Rattle.std.proofs.lemmas.Option.{slice_get-get_or}
use Rattle.std.proofs.Math.Seq.{take-add}
use Rattle.std.proofs.lemmas.Grind.{flat_map-append}
use Rattle.std.specs.Io.{StopsAt}
use Rattle.std.specs.Io.KnownBytes.{Consumes, IsAtEnd}
use Rattle.domain_core.specs.Domain.{DomainValue}
use Rattle.domain_core.specs.Journal.{AnsweredCall, expanded}
use Rattle.farm_records.specs.RecordText.{RecordLine, record_line_text, line_history, record_text, record_history}
use Rattle.farm_records.specs.Records.{GainsHistory, RedoesLine}
use Rattle.farm_records.specs.Taking.{IsAllOf, HasBeginning, TakesLines}

-- if the known bytes stay as they are, none were consumed
pub consumes_none : (known : Option (List ℕ)) → Consumes known known []
consumes_none None = tt
consumes_none (Some xs) = refl

-- if one piece is consumed, and then another, both are, one after the other
pub consumes_more : (text other_text third_text : Option (List ℕ)) (xs ys : List ℕ) → Consumes text other_text xs
    → Consumes other_text third_text ys
    → Consumes text third_text (xs ++ ys)
consumes_more None other_text third_text xs ys first next = tt
consumes_more (Some us) None third_text xs ys first next = absurd first
consumes_more (Some us) (Some vs) None xs ys first next = absurd next
consumes_more (Some us) (Some vs) (Some ws) xs ys first next =
    first ∙ (ap (λ l. xs ++ l) next ∙ sym (append_assoc xs ys ws))

-- a history gains nothing
gains_nothing : (d : DomainValue) → GainsHistory [] d d
gains_nothing d = record { history = sym (append-nil (expanded d.journal)); part = refl; ports = refl }

-- it gains some, and then more
pub gains_more : (xs ys : List AnsweredCall) (d e domain : DomainValue) → GainsHistory xs d e → GainsHistory ys e domain
    → GainsHistory (xs ++ ys) d domain
gains_more xs ys d e domain first next = record {
  history = next.history ∙ (ap (λ h. h ++ ys) first.history ∙ append_assoc (expanded d.journal) xs ys);
  part = next.part ∙ first.part;
  ports = next.ports ∙ first.ports;
}

-- what was taken so far are lines that were done again
pub record RedoneSoFar (before now : Option (List ℕ)) (old new : DomainValue) : Type 0 where
  pub lines : List RecordLine
  pub some : All (λ l. 1 ≤ l.times) lines
  pub taken : Consumes before now (record_text lines)
  pub gains : GainsHistory (record_history lines) old new

-- at the beginning nothing was taken, and nothing was done again
pub none_yet : (known : Option (List ℕ)) (d : DomainValue) → RedoneSoFar known known d d
none_yet known d = record {
  lines = [];
  some = All-nil (λ l. 1 ≤ l.times);
  taken = consumes_none known;
  gains = gains_nothing d;
}

-- the text of one line more
one_more_text : (lines : List RecordLine) (l : RecordLine)
    → record_text (lines ++ l ∷ []) ≡ record_text lines ++ record_line_text l
one_more_text lines l =
    flat_map-append record_line_text lines (l ∷ []) ∙ ap (λ t. record_text lines ++ t) (append-nil (record_line_text l))

-- its history
one_more_history : (lines : List RecordLine) (l : RecordLine)
    → record_history (lines ++ l ∷ []) ≡ record_history lines ++ line_history l
one_more_history lines l =
    flat_map-append line_history lines (l ∷ []) ∙ ap (λ t. record_history lines ++ t) (append-nil (line_history l))

-- if one line more is taken and done again, all lines so far are
pub one_more : (text other_text third_text : Option (List ℕ)) (bytes : List ℕ) (d e domain : DomainValue)
    → RedoneSoFar text other_text d e → Consumes other_text third_text bytes → RedoesLine bytes e domain
    → RedoneSoFar text third_text d domain
one_more other_text third_text fourth_text bytes d e domain so_far taken redone = record {
  lines = so_far.lines ++ redone.line ∷ [];
  some = All-push (λ l. 1 ≤ l.times) so_far.lines redone.line so_far.some redone.some;
  taken =
      subst (λ (t : List ℕ). Consumes other_text fourth_text t)
      (ap (λ t. record_text so_far.lines ++ t) (sym redone.text) ∙ sym (one_more_text so_far.lines redone.line))
      (consumes_more other_text third_text fourth_text (record_text so_far.lines) bytes so_far.taken taken);
  gains = subst (λ (h : List AnsweredCall). GainsHistory h d domain) (sym (one_more_history so_far.lines redone.line))
      (gains_more (record_history so_far.lines) (line_history redone.line) d e domain so_far.gains redone.gains);
}

-- two pieces, after which the bytes end, are all bytes
pub consumed_all : (text other_text third_text : Option (List ℕ)) (xs ys : List ℕ) → Consumes text other_text xs
    → Consumes other_text third_text ys → IsAtEnd third_text
    → IsAllOf (xs ++ ys) text
consumed_all None other_text third_text xs ys first next end = tt
consumed_all (Some us) None third_text xs ys first next end = absurd first
consumed_all (Some us) (Some vs) None xs ys first next end = absurd next
consumed_all (Some us) (Some vs) (Some ws) xs ys first next end =
    first ∙ ap (λ l. xs ++ l) (next ∙ (ap (λ l. ys ++ l) end ∙ append-nil ys))

-- one piece, after which the bytes end, is all bytes
pub consumed_one : (text other_text : Option (List ℕ)) (xs : List ℕ) → Consumes text other_text xs
    → IsAtEnd other_text → IsAllOf xs text
consumed_one None other_text xs first end = tt
consumed_one (Some us) None xs first end = absurd first
consumed_one (Some us) (Some vs) xs first end = first ∙ (ap (λ l. xs ++ l) end ∙ append-nil xs)

-- if no byte but the last can be a line feed, and the last isn't one, none is
pub no_line_feed : (bytes : List ℕ) → StopsAt bytes 10 → (slice_get bytes (length bytes - 1) ≢ Some 10)
    → All (λ byte. byte ≢ 10) bytes
no_line_feed [] stops last = All-nil (λ byte. byte ≢ 10)
no_line_feed (byte ∷ bytes) stops last =
    let place = length (byte ∷ bytes) - 1 in
    let within : place < length (byte ∷ bytes) = omega arith in
    let enough : length (byte ∷ bytes) ≤ place + 1 = omega arith in
    subst (All (λ b. b ≢ 10)) (take_all (place + 1) (byte ∷ bytes) enough)
    (All-more (λ b. b ≢ 10) (byte ∷ bytes) place byte within stops
    (λ feed. last (slice_get-get_or (byte ∷ bytes) place byte within ∙ ap Some feed)))

-- if the bytes end after a piece without a line feed, the lines before it were done again, and the piece is torn
pub at_the_end : (text other_text third_text : Option (List ℕ)) (bytes : List ℕ) (d e : DomainValue)
    → RedoneSoFar text other_text d e → Consumes other_text third_text bytes → IsAtEnd third_text
    → All (λ byte. byte ≢ 10) bytes
    → TakesLines text (length bytes) d e
at_the_end other_text third_text fourth_text bytes d e so_far taken end torn = record {
  bytes = record_text so_far.lines ++ bytes;
  behind = bytes;
  all = consumed_all other_text third_text fourth_text (record_text so_far.lines) bytes so_far.taken taken end;
  redone = record { lines = so_far.lines; some = so_far.some; text = refl; torn = torn; gains = so_far.gains };
  torn_is = refl;
}

-- the first bytes of a head, with its next line, are as many more of its first bytes
pub more_of_the_head : (text other_text third_text : Option (List ℕ)) (head line : List ℕ) (taken : ℕ)
    → Consumes text other_text (take taken head) → Consumes other_text third_text line
    → take (length line) (drop taken head) ≡ line
    → Consumes text third_text (take (taken + length line) head)
more_of_the_head text other_text third_text head line taken first next same =
    subst (λ (t : List ℕ). Consumes text third_text t)
    (ap (λ l. take taken head ++ l) (sym same) ∙ sym (take-add taken (length line) head))
    (consumes_more text other_text third_text (take taken head) line first next)

-- if the bytes end within a head, they are its beginning
pub beginning_of : (text other_text : Option (List ℕ)) (head : List ℕ) (taken : ℕ)
    → Consumes text other_text (take taken head) → IsAtEnd other_text → taken < length head
    → HasBeginning text head
beginning_of text other_text head taken first end less = record {
  bytes = take taken head;
  rest = drop taken head;
  all = consumed_one text other_text (take taken head) first end;
  parts = sym (take-append-drop taken head);
  shorter = omega (arith, length-take taken head, less);
}
