-- Steps counted one by one, and after others.
use Rattle.std.proofs.Common.{◌≡◌, ℕ, zero, suc, ◌+◌, ◌-◌, ◌<◌, ◌≤◌, true, Option, Some, None}
use Rattle.std.proofs.Common.{refl, ◌∙◌, ap, sym, ◌⊎◌, inl, inr, arith, add-one, below_more}
use Rattle.std.proofs.Math.Nat.{add-zero, add-suc}
use Rattle.std.proofs.lemmas.Bool.{cases_lt}
use Rattle.t414_step.specs.declared.stepping.Stepped.{Stepped}
use Rattle.bootstrap.specs.Laws.{later_or}
use Rattle.bootstrap.specs.Step.{node_step, is_step_recorded}
use Rattle.bootstrap.specs.Steps.{after_steps, last_answer, IsAfter}
use Rattle.bootstrap.specs.declared.node.Node.{Node}

-- no Steps leave a node as it is
pub after_steps-zero : (n : Node) → after_steps zero n ≡ n
unfolding after_steps
after_steps-zero n = refl

-- one more Step follows those before it
pub after_steps-suc : (k : ℕ) (n : Node) → after_steps (suc k) n ≡ (node_step (after_steps k n)).0
unfolding after_steps
after_steps-suc k n = refl

-- no Steps have no answer
pub last_answer-zero : (n : Node) → last_answer zero n ≡ None
unfolding last_answer
last_answer-zero n = refl

-- the last of several Steps answers as a Step after the others
pub last_answer-suc : (k : ℕ) (n : Node) → last_answer (suc k) n ≡ Some (node_step (after_steps k n)).1
unfolding last_answer
last_answer-suc k n = refl

-- a node is itself after no Steps
pub no-steps : (x : Node) → IsAfter x 0 x
no-steps x = record { node = after_steps-zero x; recorded = λ i lt. absurd (omega arith) }

-- a recorded Step more
pub one-more : (x y z : Node) (k : ℕ) → IsAfter x k y → is_step_recorded y ≡ true → (node_step y).0 ≡ z
    → IsAfter x (k + 1) z
one-more x y z k after same equal = record {
  node =
      ap (λ (i : ℕ). after_steps i x) (add-one k) ∙ after_steps-suc k x ∙ ap (λ (n : Node). (node_step n).0) after.node
      ∙ equal;
  recorded =
      below_more (λ (i : ℕ). is_step_recorded (after_steps i x) ≡ true) k after.recorded
      (ap is_step_recorded after.node ∙ same);
}

-- what one more Step answers is the last answer
pub last-more : (x y : Node) (k : ℕ) (answer : Stepped) → IsAfter x k y → (node_step y).1 ≡ answer
    → last_answer (k + 1) x ≡ Some answer
last-more x y k answer after same =
    ap (λ (i : ℕ). last_answer i x) (add-one k) ∙ last_answer-suc k x
    ∙ ap (λ (n : Node). Some (node_step n).1) after.node ∙ ap (λ (a : Stepped). Some a) same

-- Steps and then others are all of them
pub after_steps-add : (j k : ℕ) (x : Node) → after_steps (j + k) x ≡ after_steps k (after_steps j x)
after_steps-add j zero x = ap (λ (i : ℕ). after_steps i x) (add-zero j) ∙ sym (after_steps-zero (after_steps j x))
after_steps-add j (suc k) x =
    ap (λ (i : ℕ). after_steps i x) (add-suc j k) ∙ after_steps-suc (j + k) x
    ∙ ap (λ (n : Node). (node_step n).0) (after_steps-add j k x) ∙ sym (after_steps-suc k (after_steps j x))

later-steps : (x y : Node) (j k : ℕ) → IsAfter x j y → after_steps (j + k) x ≡ after_steps k y
later-steps x y j k after = after_steps-add j k x ∙ ap (after_steps k) after.node

recorded-add : (x y z : Node) (j k i : ℕ) → IsAfter x j y → IsAfter y k z → i < j + k → (i < j) ⊎ (j ≤ i)
    → is_step_recorded (after_steps i x) ≡ true
recorded-add x y z j k i first second lt (inl before) = first.recorded i before
recorded-add x y z j k i first second lt (inr past) =
    let is : i ≡ j + (i - j) = omega arith in
    ap (λ (t : ℕ). is_step_recorded (after_steps t x)) is ∙ ap is_step_recorded (later-steps x y j (i - j) first)
    ∙ second.recorded (i - j) (omega arith)

-- recorded Steps and then others are all of them
pub after-add : (x y z : Node) (j k : ℕ) → IsAfter x j y → IsAfter y k z → IsAfter x (j + k) z
after-add x y z j k first second = record {
  node = later-steps x y j k first ∙ second.node;
  recorded = λ i lt. recorded-add x y z j k i first second lt (cases_lt i j);
}

-- the last answer of Steps and then others is that of the others, if there are any
pub last-add : (x y : Node) (j k : ℕ) → IsAfter x j y
    → last_answer (j + k) x ≡ later_or (last_answer k y) (last_answer j x)
last-add x y j zero after =
    ap (λ (i : ℕ). last_answer i x) (add-zero j)
    ∙ sym (ap (λ (o : Option Stepped). later_or o (last_answer j x)) (last_answer-zero y))
last-add x y j (suc k) after =
    ap (λ (i : ℕ). last_answer i x) (add-suc j k) ∙ last_answer-suc (j + k) x
    ∙ ap (λ (n : Node). Some (node_step n).1) (later-steps x y j k after)
    ∙ sym (ap (λ (o : Option Stepped). later_or o (last_answer j x)) (last_answer-suc k y))
