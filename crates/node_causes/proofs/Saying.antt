-- What a node is doing, and paragraphs of nodes one after another: the contracts of `doing_of` and `all_paragraphs`.
use Rattle.std.proofs.Common.{◌≡◌, ◌∙◌, ℕ, zero, suc, ◌+◌, ◌++◌, List, [], ◌∷◌, take, refl, sym, ap, subst, arith}
use Rattle.std.specs.Prelude.{IfOk, Result}
use Rattle.std.specs.List.{slice_get}
use Rattle.std.proofs.lemmas.List.{append_assoc, append-nil}
use Rattle.bootstrap.specs.declared.node.Node.{Node}
use Rattle.node_causes.specs.declared.cause.Cause.{Cause}
use Rattle.node_causes.specs.declared.cause.InsideWait.{InsideWait}
use Rattle.node_causes.specs.Causes.{inside_waits}
use Rattle.node_causes.specs.Explained.{IsDoing, IsParagraph, IsOfNode, AreOfNodes}

-- nothing after nothing is nothing
nothing : (text one : List ℕ) → text ≡ [] → one ≡ [] → text ++ one ≡ []
nothing text one text_is one_is = ap (λ (t : List ℕ). t ++ one) text_is ∙ one_is

-- the paragraph of the next node comes after those of the nodes before it; if there is no such node, nothing does
pub next_paragraph : (number k : ℕ) (nodes : List Node) (text one : List ℕ)
    → AreOfNodes number (take k nodes) text
    → IsOfNode (number + k) (slice_get nodes k) one
    → AreOfNodes number (take (suc k) nodes) (text ++ one)
next_paragraph number zero [] text one before is = nothing text one before is
next_paragraph number (suc k) [] text one before is = nothing text one before is
next_paragraph number zero (n ∷ nodes) text one before is = (
  one,
  [],
  subst (λ (m : ℕ). IsParagraph m n one) (omega arith) is,
  refl,
  ap (λ (t : List ℕ). t ++ one) before ∙ sym (append-nil one),
)
next_paragraph number (suc k) (n ∷ nodes) text one (first, rest, of_n, of_rest, text_is) is = (
  first,
  rest ++ one,
  of_n,
  next_paragraph (suc number) k nodes rest one of_rest
      (subst (λ (m : ℕ). IsOfNode m (slice_get nodes k) one) (omega arith) is),
  ap (λ (t : List ℕ). t ++ one) text_is ∙ append_assoc first rest one,
)

-- what a node is doing by a cause that is known, it is doing by an equal one
pub doing_by : {X E : Type 0} (bytes : X → List ℕ) (n : Node) (cause known : Cause) (outcome : Result X E)
    → cause ≡ known
    → IfOk outcome (λ t. IsDoing n known (bytes t))
    → IfOk outcome (λ t. IsDoing n cause (bytes t))
doing_by bytes n cause known outcome is told =
    subst (λ (k : Cause). IfOk outcome (λ t. IsDoing n k (bytes t))) (sym is) told

-- who waits in an equal memory
pub waits_are : (listed items : List InsideWait) (m known : List ℕ)
    → listed ≡ items → items ≡ inside_waits m → m ≡ known
    → listed ≡ inside_waits known
waits_are listed items m known listed_is items_are same = listed_is ∙ items_are ∙ ap inside_waits same
