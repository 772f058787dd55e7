-- The nine bytes of a poke, for the law `poke_stores_the_word`.
use Rattle.std.proofs.Common.{◌≡◌, ℕ, ◌+◌, ◌*◌, ◌/◌, ◌%◌, ◌^◌, ◌<◌, ◌≤◌, None, List, [], ◌∷◌, refl, ◌∙◌, ap, sym, arith}
use Rattle.node_memory.specs.Bytes.{with_word}
use Rattle.link_channels.specs.Links.{at}
use Rattle.link_channels.specs.declared.link.FourLinks.{FourLinks}
use Rattle.link_channels.specs.declared.number.LinkNumber.{LinkNumber}
use Rattle.bootstrap.specs.Boot.{or_kept, shifted_down}
use Rattle.bootstrap.specs.Delivered.{AwaitsMessage, Pokes, bytes_delivered, delivery_answers}
use Rattle.bootstrap.specs.LinkNumbers.{link_number}
use Rattle.bootstrap.specs.Messages.{poke_bytes}
use Rattle.bootstrap.specs.declared.node.Node.{Node}
use Rattle.bootstrap.specs.declared.state.NodeState.TheVariants.{WantsControl, Takes}
use Rattle.bootstrap.specs.declared.state.Task.TheVariants.{Poke}
use Rattle.bootstrap.proofs.Delivering.{DeliversAll, none-delivered, one-delivered, clear_node, clear-memory}
use Rattle.bootstrap.proofs.Delivering.{control-delivered, address-delivered, word-delivered, last-delivered}

-- four bytes, put in one after another
abbrev four_in : ℕ → ℕ → ℕ → ℕ → ℕ
four_in a b c d = shifted_down d (shifted_down c (shifted_down b (shifted_down a 0)))

four_in-sum : (a b c d : ℕ) → four_in a b c d ≡ a + b * 2 ^ 8 + c * 2 ^ 16 + d * 2 ^ 24
four_in-sum a b c d = omega arith

bytes-sum : (w : ℕ) → w < 2 ^ 32
    → w % 2 ^ 8 + w / 2 ^ 8 % 2 ^ 8 * 2 ^ 8 + w / 2 ^ 16 % 2 ^ 8 * 2 ^ 16 + w / 2 ^ 24 % 2 ^ 8 * 2 ^ 24 ≡ w
bytes-sum w lt = omega arith

-- the bytes of a word come to it
bytes-come-to : (w : ℕ) → w < 2 ^ 32
    → four_in (w % 2 ^ 8) (w / 2 ^ 8 % 2 ^ 8) (w / 2 ^ 16 % 2 ^ 8) (w / 2 ^ 24 % 2 ^ 8) ≡ w
bytes-come-to w lt =
    four_in-sum (w % 2 ^ 8) (w / 2 ^ 8 % 2 ^ 8) (w / 2 ^ 16 % 2 ^ 8) (w / 2 ^ 24 % 2 ^ 8) ∙ bytes-sum w lt

-- the last five bytes of a poke: one of the address, and those of the word
last-five : (link : LinkNumber) (m : List ℕ) (ls : FourLinks) (address d first second third fourth : ℕ)
    → DeliversAll link (d ∷ first ∷ second ∷ third ∷ fourth ∷ [])
    (clear_node link m ls (Takes link (Poke 5 address 0)))
    (clear_node link (or_kept (with_word m (shifted_down d address) (four_in first second third fourth)) m) ls
    WantsControl)
last-five link m ls address d first second third fourth =
    let at_address = shifted_down d address in
    let one = shifted_down first 0 in
    let two = shifted_down second one in
    let three = shifted_down third two in
    one-delivered link d _ _ _ _ (address-delivered link d m ls 5 address 0 refl)
    (one-delivered link first _ _ _ _ (word-delivered link first m ls 4 at_address 0 refl refl)
    (one-delivered link second _ _ _ _ (word-delivered link second m ls 3 at_address one refl refl)
    (one-delivered link third _ _ _ _ (word-delivered link third m ls 2 at_address two refl refl)
    (one-delivered link fourth _ _ _ _ (last-delivered link fourth m ls at_address three)
    (none-delivered link _)))))

-- all nine
all-nine : (link : LinkNumber) (m : List ℕ) (ls : FourLinks) (a b c d first second third fourth : ℕ)
    → ((other : LinkNumber) → link_number other ≤ link_number link → (at other ls).end.input.buffer ≡ None)
    → DeliversAll link (0 ∷ a ∷ b ∷ c ∷ d ∷ first ∷ second ∷ third ∷ fourth ∷ []) (clear_node link m ls WantsControl)
    (clear_node link (or_kept (with_word m (four_in a b c d) (four_in first second third fourth)) m) ls WantsControl)
all-nine link m ls a b c d first second third fourth none =
    one-delivered link 0 _ _ _ _ (control-delivered link 0 m ls none)
    (one-delivered link a _ _ _ _ (address-delivered link a m ls 8 0 0 refl)
    (one-delivered link b _ _ _ _ (address-delivered link b m ls 7 (shifted_down a 0) 0 refl)
    (one-delivered link c _ _ _ _
    (address-delivered link c m ls 6 (shifted_down b (shifted_down a 0)) 0 refl)
    (last-five link m ls (shifted_down c (shifted_down b (shifted_down a 0))) d first second third fourth))))

-- the node that awaits the message, and the one that it leaves, by their parts
poked-in : (link : LinkNumber) (address word : ℕ) (n : Node) (m : List ℕ) (ls : FourLinks) (stored : List ℕ)
    → clear_node link m ls WantsControl ≡ n
    → clear_node link stored ls WantsControl ≡ record n { memory = stored }
    → DeliversAll link (poke_bytes address word) (clear_node link m ls WantsControl)
    (clear_node link stored ls WantsControl)
    → or_kept (with_word n.memory address word) n.memory ≡ stored
    → Pokes link address word n
poked-in link address word n m ls stored is left all same = record {
  node =
      ap (bytes_delivered link (poke_bytes address word)) (sym is) ∙ all.node ∙ left
      ∙ ap (λ (k : List ℕ). record n { memory = k }) (sym same);
  answers = ap (delivery_answers link (poke_bytes address word)) (sym is) ∙ all.answers;
}

-- the word that the bytes of a word come to
abbrev of_bytes : ℕ → ℕ
of_bytes w = four_in (w % 2 ^ 8) (w / 2 ^ 8 % 2 ^ 8) (w / 2 ^ 16 % 2 ^ 8) (w / 2 ^ 24 % 2 ^ 8)

-- a poke stores the word
pub pokes : (link : LinkNumber) (address word : ℕ) (n : Node) → address < 2 ^ 32 → word < 2 ^ 32
    → AwaitsMessage link n → Pokes link address word n
pokes link address word n fits small awaits =
    let stored : ℕ → ℕ → List ℕ = λ a w. or_kept (with_word n.memory a w) n.memory in
    let all =
    all-nine link n.memory n.links (address % 2 ^ 8) (address / 2 ^ 8 % 2 ^ 8) (address / 2 ^ 16 % 2 ^ 8)
    (address / 2 ^ 24 % 2 ^ 8) (word % 2 ^ 8) (word / 2 ^ 8 % 2 ^ 8) (word / 2 ^ 16 % 2 ^ 8)
    (word / 2 ^ 24 % 2 ^ 8) awaits.buffers in
    let k = stored (of_bytes address) (of_bytes word) in
    poked-in link address word n n.memory n.links k (clear-memory link n n.memory awaits) (clear-memory link n k awaits)
    all
    (ap (λ (a : ℕ). stored a word) (sym (bytes-come-to address fits))
    ∙ ap (λ (w : ℕ). stored (of_bytes address) w) (sym (bytes-come-to word small)))
